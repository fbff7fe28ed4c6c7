-- The answer buffer of a refinement, one level after another. Assumes nothing.
use mathlib.Core.List.{List, [], ◌∷◌, ◌++◌}
use mathlib.Core.Logic.{⊎_elim}
use mathlib.Core.Path.{◌≡◌, refl, sym, ◌∙◌}
use Prim.Native.Nat.{ℕ, zero, suc, ◌+◌, ◌-◌, ◌*◌, ◌/◌, ◌%◌, ◌≤◌, ◌<◌}
use borrow.Author.Tests.{le-ltb, lt-ltb}
use lib.ListN.{length, get_or, take, drop, length-append, length-drop, length-map, get_or-append}
use lib.ListN.{get_or-eq_default}
use lib.Seq.{ext_get_or, get_or-append-add, get_or-drop, get_or-take, length-take-le}
use native.Mathlib.Nat.{div-add-mod', div-eq_of_lt-le, div-lt_iff_lt-mul, mul-le-mul_right}
use native.Mathlib.Omega.{arith}
use Rattle.combinatorics.proofs.Basics.{before_or_not}
use Rattle.combinatorics.proofs.Fronts.{front_at, front-behind, front_length}
use Rattle.combinatorics.proofs.Ranges.{length-up_from}
use Rattle.combinatorics.proofs.Turns.{map_at}
use Rattle.combinatorics.specs.Front.{front}
use Rattle.combinatorics.specs.Lists.{up_from}
use Rattle.refinement_levels.specs.Buffers.{level_numbers, number_at, numbers_after}
use Rattle.refinement_levels.specs.Levels.{Refinement}
use Rattle.refinement_levels.specs.Questions.{level_room}

inside : (l : List ℕ) (t a b : ℕ) → t < length l → get_or l t a ≡ get_or l t b
inside [] t a b h = absurd (omega arith)
inside (x ∷ l) zero a b h = refl
inside (x ∷ l) (suc t) a b h = inside l t a b (omega arith)

-- `levels` rooms of some numbers each, where level i is at i times the room
module _ (room : ℕ) (some : 0 < room) where
  -- the level of a number in front of level i's room, in it, and behind it
  level_before : (i q : ℕ) → q < i * room → q / room < i
  level_before i q h = (div-lt_iff_lt-mul some).1 h

  level_from : (i q : ℕ) → i * room ≤ q → i ≤ q / room
  level_from i q h =
      ⊎_elim (λ (l : q / room < i). let m = (div-lt_iff_lt-mul some).0 l in absurd (omega arith)) (λ l. l)
      (before_or_not (q / room) i)

  number_in : (i q : ℕ) → q / room ≡ i → i * room + q % room ≡ q
  number_in i q e = rw e at (div-add-mod' q room)

module _ (r : Refinement) (some : 0 < level_room r.grid) (old : List ℕ) where
  abbrev room : ℕ
  room = level_room r.grid

  pub after-length : (i : ℕ) → length (numbers_after r i old) ≡ length old
  unfolding numbers_after
  after-length i = length-map (up_from 0 (length old)) (number_at r i old) ∙ length-up_from 0 (length old)

  after-at : (i q : ℕ) → q < length old → get_or (numbers_after r i old) q 0 ≡ number_at r i old q
  unfolding numbers_after
  after-at i q h = let z : 0 + q ≡ q = omega arith in map_at (number_at r i old) 0 (length old) q h ∙ rw z

  -- number q with i levels written: the old one from level i on
  number_untouched : (i q : ℕ) → i * room ≤ q → number_at r i old q ≡ get_or old q 0
  number_untouched i q h = rw (le-ltb (q / room) i (level_from room some i q h))

  -- before any level is written
  pub after_none : numbers_after r 0 old ≡ old
  after_none = ext_get_or 0 (numbers_after r 0 old) old (after-length 0) (λ q h.
      after-at 0 q (rw (after-length 0) at h) ∙ number_untouched 0 q (omega arith))

  -- one level more
  module _ (i : ℕ) (fits : (i + 1) * room ≤ length old) (few : length (level_numbers r i) ≤ room) where
    abbrev written : List ℕ
    written =
        take (i * room) (numbers_after r i old) ++ front (level_numbers r i) (drop (i * room) (numbers_after r i old))

    begin : i * room + room ≤ length old
    begin = omega (arith, fits)

    head-length : length (take (i * room) (numbers_after r i old)) ≡ i * room
    head-length = length-take-le (i * room) (numbers_after r i old) (omega (arith, begin, after-length i))

    tail-length : length (front (level_numbers r i) (drop (i * room) (numbers_after r i old))) ≡ length old - i * room
    tail-length =
        let d : length (drop (i * room) (numbers_after r i old)) ≡ length old - i * room =
        length-drop (i * room) (numbers_after r i old) ∙ rw (after-length i)
        in
        front_length (level_numbers r i) (drop (i * room) (numbers_after r i old)) (omega (arith, d, few, begin)) ∙ d

    written-length : length written ≡ length old
    written-length =
        let a =
        length-append (take (i * room) (numbers_after r i old))
        (front (level_numbers r i) (drop (i * room) (numbers_after r i old)))
        in
        omega (arith, a, head-length, tail-length, begin)

    -- in front of the level
    written-before : (q : ℕ) → q < i * room → get_or written q 0 ≡ number_at r (i + 1) old q
    written-before q h =
        let l = level_before room some i q h in
        let inside : q < length (take (i * room) (numbers_after r i old)) = omega (arith, head-length) in
        get_or-append (take (i * room) (numbers_after r i old))
        (front (level_numbers r i) (drop (i * room) (numbers_after r i old))) 0 q inside
        ∙ get_or-take (i * room) (numbers_after r i old) q 0 h
        ∙ after-at i q (omega (arith, begin))
        ∙ rw (lt-ltb (q / room) i l, lt-ltb (q / room) (i + 1) (omega arith))

    -- number t of the level's room, and what stands behind
    written_at : (t : ℕ) → i * room + t < length old
        → get_or written (i * room + t) 0 ≡ number_at r (i + 1) old (i * room + t)
    written_at t h =
        let q = i * room + t in
        let tail = drop (i * room) (numbers_after r i old) in
        let e : get_or written q 0 ≡ get_or (front (level_numbers r i) tail) t 0 =
        rw head-length at (get_or-append-add (take (i * room) (numbers_after r i old)) (front (level_numbers r i) tail)
        t 0)
        in
        let o : get_or tail t 0 ≡ get_or old q 0 =
        get_or-drop (i * room) (numbers_after r i old) t 0 ∙ after-at i q h ∙ number_untouched i q (omega arith)
        in
        e ∙ ⊎_elim
        (λ (l : t < room).
        let d : q / room ≡ i = div-eq_of_lt-le room (omega arith) (omega arith) in
        let m : q % room ≡ t = omega (arith, number_in room some i q d) in
        rw (d, m, lt-ltb i (i + 1) (omega arith))
        (⊎_elim
        (λ (w : t < length (level_numbers r i)). front_at (level_numbers r i) tail t w ∙ inside (level_numbers r i) t 0
        (get_or old q 0) w)
        (λ (w : length (level_numbers r i) ≤ t). front-behind (level_numbers r i) tail t w ∙ o ∙ sym
        (get_or-eq_default (level_numbers r i) (get_or old q 0) w))
        (before_or_not t (length (level_numbers r i)))))
        (λ (l : room ≤ t). front-behind (level_numbers r i) tail t (omega (arith, few)) ∙ o ∙ sym
        (number_untouched (i + 1) q (omega arith)))
        (before_or_not t room)

    pub after_next : written ≡ numbers_after r (i + 1) old
    after_next = ext_get_or 0 written (numbers_after r (i + 1) old) (written-length ∙ sym (after-length (i + 1))) (λ q h.
        let w : q < length old = rw written-length at h in
        ⊎_elim
        (λ (l : q < i * room). written-before q l)
        (λ (l : i * room ≤ q). let z : i * room + (q - i * room) ≡ q = omega arith in rw z at
        (written_at (q - i * room) (rw z w)))
        (before_or_not q (i * room))
        ∙ sym (after-at (i + 1) q w))

  -- the numbers of a level, read where they were written
  pub level_read : (levels i : ℕ) → i < levels → levels * room ≤ length old → length (level_numbers r i) ≤ room
      → take (length (level_numbers r i)) (drop (i * room) (numbers_after r levels old)) ≡ level_numbers r i
  level_read levels i h fits few =
      let n = length (level_numbers r i) in
      let tail = drop (i * room) (numbers_after r levels old) in
      let end : (i + 1) * room ≤ levels * room = mul-le-mul_right room (omega arith) in
      let next : (i + 1) * room ≡ i * room + room = omega arith in
      let long : length (take n tail) ≡ n = length-take-le n tail
      (omega (arith, length-drop (i * room) (numbers_after r levels old), after-length levels)) in
      ext_get_or 0 (take n tail) (level_numbers r i) long (λ t w.
      let t-in : t < n = rw long at w in
      let q = i * room + t in
      let d : q / room ≡ i = div-eq_of_lt-le room (omega arith) (omega arith) in
      let m : q % room ≡ t = omega (arith, number_in room some i q d) in
      get_or-take n tail t 0 t-in
      ∙ get_or-drop (i * room) (numbers_after r levels old) t 0
      ∙ after-at levels q (omega arith)
      ∙ rw (d, m, lt-ltb i levels h) (inside (level_numbers r i) t (get_or old q 0) 0 t-in))
