-- The facts of the levels of a refinement one behind the other. Assumes nothing.
use mathlib.Core.List.{List, [], ◌∷◌, ◌++◌, append_assoc}
use mathlib.Core.Path.{◌≡◌, refl, sym, ap, ◌∙◌}
use Prim.Native.Nat.{ℕ, zero, suc, ◌+◌, ◌-◌, ◌*◌, ◌≤◌, ◌<◌}
use lib.ListN.{length, get_or, drop, length-append, length-drop, take}
use lib.Seq.{drop-append_seam, drop-drop, take-append_seam, take_all}
use native.Mathlib.Numerals.{add-one}
use native.Mathlib.Omega.{arith}
use Rattle.combinatorics.proofs.Fronts.{front_length}
use Rattle.combinatorics.specs.Front.{front}
use Rattle.combinatorics.specs.Lists.{concat_map}
use Rattle.refinement.proofs.Solved.{put_back}
use Rattle.refinement.specs.declared.Level.{Level}
use Rattle.exports.specs.Refine.{level_facts}

-- what is put behind a front makes a longer front
front_more : (p row old : List ℕ)
    → take (length p) (front p old) ++ front row (drop (length p) (front p old)) ≡ front (p ++ row) old
unfolding front
front_more p row old = rw (take-append_seam, drop-append_seam, drop-drop, length-append, append_assoc)

-- the facts of the first levels
abbrev pub facts_of : ℕ → List Level → List ℕ
facts_of i levels = concat_map level_facts (take i levels)

pub facts_long : (i : ℕ) (levels : List Level) → i ≤ length levels → length (facts_of i levels) ≡ 5 * i
facts_long zero levels h = omega arith
facts_long (suc i) [] h = absurd (omega arith)
facts_long (suc i) (l ∷ levels) h = omega (arith, facts_long i levels (omega arith))

facts_next : (i : ℕ) (levels : List Level) (other : Level) → i < length levels
    → facts_of (suc i) levels ≡ facts_of i levels ++ level_facts (get_or levels i other)
facts_next i [] other h = absurd (omega arith)
facts_next zero (l ∷ levels) other h = refl
facts_next (suc i) (l ∷ levels) other h =
    ap (λ (x : List ℕ). level_facts l ++ x) (facts_next i levels other (omega arith))

-- one level more, in its part of the buffer
module _ (levels : List Level) (eight : length levels ≡ 8) (old facts : List ℕ) (long : 40 ≤ length old) (i : ℕ)
    (is : facts ≡ front (facts_of i levels) old) where
  pub facts_length : i ≤ 8 → length facts ≡ length old
  facts_length h = rw is (front_length (facts_of i levels) old (omega (arith, facts_long i levels (omega arith))))

  pub facts_room : i < 8 → 5 * i + 5 ≤ length facts
  facts_room h = omega (arith, facts_length (omega arith))

  pub facts_part : i < 8 → 5 ≤ length (take (length facts - 5 * i) (drop (5 * i) facts))
  facts_part h =
      let e = take_all (length facts - 5 * i) (drop (5 * i) facts) (omega (arith, length-drop (5 * i) facts)) in
      rw e (omega (arith, length-drop (5 * i) facts, facts_room h))

  pub facts_put : (other : Level) (new : List ℕ) → i < 8
      → new ≡ front (level_facts (get_or levels i other)) (take (length facts - 5 * i) (drop (5 * i) facts))
      → take (5 * i) facts ++ (new ++ drop (length facts - 5 * i) (drop (5 * i) facts)) ≡ front (facts_of (i + 1) levels)
      old
  facts_put other new h e =
      let p = facts_of i levels in
      let row = level_facts (get_or levels i other) in
      let n : length p ≡ 5 * i = facts_long i levels (omega arith) in
      put_back (5 * i) facts row new (omega (arith, facts_room h)) e
      ∙ ap (λ (l : List ℕ). take (5 * i) l ++ front row (drop (5 * i) l)) is
      ∙ ap (λ (k : ℕ). take k (front p old) ++ front row (drop k (front p old))) (sym n)
      ∙ front_more p row old
      ∙ ap (λ (l : List ℕ). front l old) (sym (facts_next i levels other (omega arith)))
      ∙ ap (λ (k : ℕ). front (facts_of k levels) old) (sym (add-one i))
