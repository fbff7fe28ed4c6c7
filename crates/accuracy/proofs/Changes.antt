-- Several mixes that become others: by how much losses weighed by their products change, one mix after the other.
-- Assumes nothing.
use mathlib.Core.Bool.{true, ◌&&◌}
use mathlib.Core.List.{List, [], ◌∷◌, map}
use mathlib.Core.Path.{◌≡◌, refl, sym, ap, ◌∙◌}
use Prim.Native.Nat.{ℕ, ◌+◌, ◌-◌, ◌*◌, ◌≤◌, ◌<◌}
use borrow.Author.Tests.{leb-true}
use lib.Dec.{eqb, leb}
use lib.ListN.{length, get_or, drop, length-drop}
use native.Mathlib.Nat.{mul-le-mul_left, mul-le-mul_right}
use native.Mathlib.Omega.{arith}
use Rattle.accuracy.proofs.Moves.{raised, weighed-moved, weighed-raised}
use Rattle.accuracy.specs.Accuracy.{losses_within}
use Rattle.combinatorics.proofs.Agreement.{all_drop}
use Rattle.combinatorics.proofs.Basics.{and_left, and_right, and_both}
use Rattle.combinatorics.proofs.Lists.{in_here, in_later, on_numbers, row_room}
use Rattle.combinatorics.specs.Lists.{all, is_in, sum}
use Rattle.game_losses.proofs.Weights.{dot-bound, dot-spread, length-weighed, length-weights, sum-weights, weighed-at}
use Rattle.game_losses.specs.Game.{dot, product}
use Rattle.game_losses.specs.Weights.{spread, weighed, weights}

-- losses weighed lie between the weights' sum times the lowest and times the highest
most : (low range : ℕ) (t : List ℕ) → losses_within low range t ≡ true → all (λ v. leb v (low + range)) t ≡ true
most low range [] a = refl
most low range (v ∷ t) a = and_both _ _
    (and_right (leb low v) (leb v (low + range)) (and_left (leb low v && leb v (low + range)) _ a))
    (most low range t (and_right (leb low v && leb v (low + range)) _ a))

dot-least : (low range : ℕ) (u t : List ℕ) → losses_within low range t ≡ true → length u ≤ length t
    → sum u * low ≤ dot u t
dot-least low range [] t a l = omega arith
dot-least low range (x ∷ u) [] a l = absurd (omega arith)
dot-least low range (x ∷ u) (v ∷ t) a l =
    let h : low ≤ v =
    leb-true low v (and_left (leb low v) (leb v (low + range)) (and_left (leb low v && leb v (low + range)) _ a)) in
    let m : x * low ≤ x * v = mul-le-mul_left x h in
    omega (arith, dot-least low range u t (and_right (leb low v && leb v (low + range)) _ a) (omega arith))

-- a mix of d in all that becomes another by at most half units
pub record Moved (d half : ℕ) (x y : List ℕ) : Type 0 where
  pub numbers : length x ≡ length y
  pub before : sum x ≡ d
  pub after : sum y ≡ d
  pub few : raised x y ≤ half

-- the changes of all mixes, each times the divisions of the others
abbrev pub change : (ℕ → ℕ) → (ℕ → ℕ) → List ℕ → ℕ
change d half [] = 0
change d half (l ∷ ls) = half l * product (map d ls) + d l * change d half ls

module _ (low range : ℕ) (d half : ℕ → ℕ) (f e : ℕ → List ℕ) where
  abbrev AllMoved : List ℕ → Type 0
  AllMoved ls = (l : ℕ) → is_in eqb l ls ≡ true → Moved (d l) (half l) (f l) (e l)

  same_lengths : (ls : List ℕ) → AllMoved ls → map length (map f ls) ≡ map length (map e ls)
  same_lengths [] h = refl
  same_lengths (l ∷ ls) h =
      rw ((h l (in_here on_numbers l ls)).numbers, same_lengths ls (λ i m. h i (in_later on_numbers i l ls m)))

  sums-after : (ls : List ℕ) → AllMoved ls → map sum (map e ls) ≡ map d ls
  sums-after [] h = refl
  sums-after (l ∷ ls) h =
      rw ((h l (in_here on_numbers l ls)).after, sums-after ls (λ i m. h i (in_later on_numbers i l ls m)))

  pub weights-change : (ls t : List ℕ) → AllMoved ls → losses_within low range t ≡ true
      → product (map length (map f ls)) ≤ length t
      → dot (weights (map f ls)) t ≤ dot (weights (map e ls)) t + range * change d half ls
  weights-change [] t h a long = omega arith
  weights-change (l ∷ ls) t h a long =
      let own = h l (in_here on_numbers l ls) in
      let later : AllMoved ls = λ i m. h i (in_later on_numbers i l ls m) in
      let x : List ℕ = f l in
      let y : List ℕ = e l in
      let u : List ℕ = weights (map f ls) in
      let v : List ℕ = weights (map e ls) in
      let n : ℕ = length x in
      let m : ℕ = product (map length (map f ls)) in
      let c : ℕ = change d half ls in
      let p : ℕ = product (map d ls) in
      let lu : length u ≡ m = length-weights (map f ls) in
      let lv : length v ≡ m = length-weights (map e ls) ∙ ap product (sym (same_lengths ls later)) in
      let sv : sum v ≡ p = sum-weights (map e ls) ∙ ap product (sums-after ls later) in
      let room : (i : ℕ) → i < n → m ≤ length (drop (i * m) t) = λ i b.
      omega (arith, row_room i n m (length t) b long, length-drop (i * m) t) in
      let at-u : (i : ℕ) → i < n → get_or (weighed n u t) i 0 ≡ dot u (drop (i * m) t) = λ i b.
      weighed-at n i u t b ∙ rw lu in
      let at-v : (i : ℕ) → i < n → get_or (weighed n v t) i 0 ≡ dot v (drop (i * m) t) = λ i b.
      weighed-at n i v t b ∙ rw lv in
      let inner : dot x (weighed n u t) ≤ dot x (weighed n v t) + sum x * (range * c) = weighed-raised (range * c) x
      (weighed n u t) (weighed n v t) (sym (length-weighed n u t)) (sym (length-weighed n v t))
      (λ i b. rw (at-u i b, at-v i b) (weights-change ls (drop (i * m) t) later
      (all_drop _ (i * m) t a) (room i b))) in
      let outer : dot x (weighed n v t) ≤ dot y (weighed n v t) + raised x y * (p * range) = weighed-moved (p * low)
      (p * range) x y (weighed n v t) own.numbers (sym (length-weighed n v t)) (own.before ∙ sym own.after)
      (λ i b.
      let b' : i < n = omega (arith, length-weighed n v t) in
      let least : sum v * low ≤ dot v (drop (i * m) t) = dot-least low range v (drop (i * m) t)
      (all_drop _ (i * m) t a) (omega (arith, room i b')) in
      let highest : dot v (drop (i * m) t) ≤ sum v * (low + range) = dot-bound (low + range) v (drop (i * m) t)
      (all_drop _ (i * m) t (most low range t a)) in
      let least' : p * low ≤ dot v (drop (i * m) t) = rw sv at least in
      let highest' : dot v (drop (i * m) t) ≤ p * (low + range) = rw sv at highest in
      rw (at-v i b') (least', omega arith)) in
      let few : raised x y * (p * range) ≤ half l * (p * range) = mul-le-mul_right (p * range) own.few in
      let s : sum x * (range * c) ≡ d l * (range * c) = ap (λ (k : ℕ). k * (range * c)) own.before in
      let left : dot (spread x u) t ≡ dot x (weighed n u t) = dot-spread x u t in
      let right : dot (spread y v) t ≡ dot y (weighed n v t) =
      dot-spread y v t ∙ ap (λ (k : ℕ). dot y (weighed k v t)) (sym own.numbers) in
      let total : range * (half l * p + d l * c) ≡ half l * (p * range) + d l * (range * c) = omega arith in
      omega arith
