-- Laws of numbers in bytes. Assumes nothing.
use mathlib.Core.List.{List, [], ◌∷◌, ◌++◌}
use mathlib.Core.Path.{◌≡◌, refl, ◌∙◌}
use Prim.Native.Nat.{ℕ, zero, suc, ◌+◌, ◌*◌, ◌/◌, ◌%◌, ◌≤◌, ◌<◌}
use lib.ListN.{length, length-map, get_or, take, drop}
use lib.Seq.{ext_get_or, get_or-append-add, get_or-drop, get_or-take}
use native.Mathlib.Nat.{div-add-mod'}
use native.Mathlib.Omega.{arith}
use Rattle.combinatorics.proofs.Agreement.{map_range}
use Rattle.combinatorics.proofs.Ranges.{length-up_from}
use Rattle.combinatorics.proofs.Turns.{map_at}
use Rattle.combinatorics.specs.Lists.{up_from}
use Rattle.little_endian.specs.Numbers.{number, words, bytes_of}

-- a number in a part of the bytes
pub number_part : (k n : ℕ) (bytes : List ℕ) (at i : ℕ) → i + k ≤ n
    → number k (take n (drop at bytes)) i ≡ number k bytes (at + i)
unfolding number
number_part zero n bytes at i h = refl
number_part (suc k) n bytes at i h =
    let here : get_or (take n (drop at bytes)) i 0 ≡ get_or bytes (at + i) 0 =
    get_or-take n (drop at bytes) i 0 (omega arith) ∙ get_or-drop at bytes i 0 in
    let e : at + (i + 1) ≡ at + i + 1 = omega arith in
    let rest = number_part k n bytes at (i + 1) (omega arith) in
    omega (arith, here, rw e at rest)

pub length-words : (count : ℕ) (bytes : List ℕ) (from : ℕ) → length (words count bytes from) ≡ count
unfolding words
length-words count bytes from = length-map (up_from 0 count) (λ i. number 2 bytes (from + 2 * i)) ∙ length-up_from 0 count

-- bytes that agree where a number stands make the same number
pub number_same : (k : ℕ) (a b : List ℕ) (at end : ℕ) → at + k ≤ end
    → ((i : ℕ) → at ≤ i → i < end → get_or a i 0 ≡ get_or b i 0)
    → number k a at ≡ number k b at
unfolding number
number_same zero a b at end fits e = refl
number_same (suc k) a b at end fits e =
    let here = e at (omega arith) (omega arith) in
    let rest = number_same k a b (at + 1) end (omega arith) (λ i l h. e i (omega arith) h) in
    omega (arith, here, rest)

pub words_same : (count : ℕ) (a b : List ℕ) (from end : ℕ) → from + 2 * count ≤ end
    → ((i : ℕ) → from ≤ i → i < end → get_or a i 0 ≡ get_or b i 0)
    → words count a from ≡ words count b from
unfolding words
words_same count a b from end fits e =
    map_range (λ i. number 2 a (from + 2 * i)) (λ i. number 2 b (from + 2 * i)) 0 count
    (λ i l. number_same 2 a b (from + 2 * (0 + i)) end (omega arith) (λ k l h. e k (omega arith) h))

pub length-bytes_of : (xs : List ℕ) → length (bytes_of xs) ≡ 2 * length xs
unfolding bytes_of
length-bytes_of [] = omega arith
length-bytes_of (x ∷ xs) = omega (arith, length-bytes_of xs)

pair-at : (xs : List ℕ) (i : ℕ) → i < length xs
    → (get_or (bytes_of xs) (2 * i) 0 ≡ get_or xs i 0 % 256) × (get_or (bytes_of xs) (2 * i + 1) 0 ≡ get_or xs i 0 / 256)
unfolding bytes_of
pair-at [] i h = absurd (omega arith)
pair-at (x ∷ xs) zero h = (refl, refl)
pair-at (x ∷ xs) (suc i) h =
    let low : 2 * suc i ≡ suc (suc (2 * i)) = omega arith in
    let high : 2 * suc i + 1 ≡ suc (suc (2 * i + 1)) = omega arith in
    let later = pair-at xs i (omega arith) in
    (rw low later.0, rw high later.1)

-- numbers are read from the bytes that were made of them
pub words-read : (before xs : List ℕ) → words (length xs) (before ++ bytes_of xs) (length before) ≡ xs
unfolding words number
words-read before xs = ext_get_or 0 _ xs
    (length-map (up_from 0 (length xs)) (λ i. number 2 (before ++ bytes_of xs) (length before + 2 * i))
    ∙ length-up_from 0 (length xs))
    (λ i h.
    let l : i < length xs = omega (
      arith,
      length-map (up_from 0 (length xs)) (λ i. number 2 (before ++ bytes_of xs) (length before + 2 * i)),
      length-up_from 0 (length xs),
    ) in
    let z : 0 + i ≡ i = omega arith in
    let p = pair-at xs i l in
    let next : length before + 2 * i + 1 ≡ length before + (2 * i + 1) = omega arith in
    map_at (λ i. number 2 (before ++ bytes_of xs) (length before + 2 * i)) 0 (length xs) i l
    ∙ rw (
      z,
      next,
      get_or-append-add before (bytes_of xs) (2 * i) 0,
      get_or-append-add before (bytes_of xs) (2 * i + 1) 0,
      p.0,
      p.1,
    ) (omega (arith, div-add-mod' (get_or xs i 0) 256)))
