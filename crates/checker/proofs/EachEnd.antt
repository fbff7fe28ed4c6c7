-- Each end that a run announces gets yes with its block, also over a table with gaps. In order: points one after
-- another; an end's questions; the end. Assumes nothing.
use mathlib.Core.Bool.{true}
use mathlib.Core.List.{List, [], ◌∷◌, ◌++◌, map}
use mathlib.Core.Option.{some}
use mathlib.Core.Path.{◌≡◌, refl, sym, ap, ◌∙◌}
use Prim.Native.Nat.{ℕ, zero, suc, ◌+◌, ◌*◌, ◌≤◌, ◌<◌}
use borrow.Author.Tests.{eqb-true}
use lib.Dec.{eqb}
use lib.ListN.{length, take, drop, length-append}
use lib.Seq.{drop-append-add, take-append-le, take-length}
use native.Mathlib.Nat.{mul-div_cancel, mul-le-mul_right, suc-mul, zero-mul}
use native.Mathlib.Omega.{arith}
use Rattle.combinatorics.proofs.Basics.{and_left, and_right}
use Rattle.combinatorics.specs.Lists.{all, concat_map, up_from}
use Rattle.questions.proofs.Answers.{both_yes, first-yes}
use Rattle.questions.specs.Questions.{first_no}
use Rattle.grid_points.proofs.Accepted.{Accepted, accepted, blocks-few}
use Rattle.grid_points.proofs.CoordinatesBelow.{in_limits}
use Rattle.grid_points.specs.Grid.{Grid, Point, dimension, is_grid_point, num_indices}
use Rattle.grid_points.specs.Questions.{grid_questions, question5}
use Rattle.grid_points.proofs.Points.{points-long}
use Rattle.place.specs.Ends.{End}
use Rattle.place.specs.Path.{path}
use Rattle.place.specs.Places.{Simplex}
use Rattle.place.specs.Problem.{Problem}
use Rattle.place.specs.Questions.{question6, question7, table_questions}
use Rattle.check_simplices.proofs.Answers.{announced-end, last-place, stop-answer, stop-points}
use Rattle.check_simplices.proofs.Tests.{has-start_with}
use Rattle.check_chains.specs.Listed.{listed, listed_at}
use Rattle.checker.proofs.Answers.{judged_is}
use Rattle.checker.proofs.ListRefusals.{list-points, none-no}
use Rattle.checker.specs.Check.{question19, whole_points, listed_points, check_answer}
use Rattle.checker.specs.EachEnd.{EachEndGetsYes}
use Rattle.checker.specs.declared.CheckAnswer.TheVariants.{Yes}

-- points of m numbers, one after another
map-later : {A : Type 0} (f : ℕ → A) (b n : ℕ) → map f (up_from (suc b) n) ≡ map (λ k. f (suc k)) (up_from b n)
map-later f b zero = refl
map-later f b (suc n) = ap (λ l. f (suc b) ∷ l) (map-later f (suc b) n)

map_same : {A : Type 0} (f e : ℕ → A) (b n : ℕ) → ((k : ℕ) → f k ≡ e k) → map f (up_from b n) ≡ map e (up_from b n)
map_same f e b zero h = refl
map_same f e b (suc n) h = rw (h b, map_same f e (suc b) n h)

points-back : (m : ℕ) (ys : List Point) → all (λ y. eqb (length y) m) ys ≡ true
    → listed m (length ys) (concat_map (λ y. y) ys) ≡ ys
points-back m [] a = refl
points-back m (y ∷ ys) a =
    let rest = concat_map (λ y. y) ys in
    let long : length y ≡ m = eqb-true _ _ (and_left (eqb (length y) m) _ a) in
    let first : take m (drop (0 * m) (y ++ rest)) ≡ y =
    rw (zero-mul m, ← long) (take-append-le (length y) y rest (omega arith) ∙ take-length y) in
    let later : map (listed_at m (y ++ rest)) (up_from 1 (length ys)) ≡ ys =
    map-later (listed_at m (y ++ rest)) 0 (length ys)
    ∙ map_same
    (λ k. listed_at m (y ++ rest) (suc k))
    (listed_at m rest) 0 (length ys)
    (λ k.
    let e : suc k * m ≡ length y + k * m = omega (arith, suc-mul k m) in
    rw e (ap (take m) (drop-append-add y rest (k * m))))
    ∙ points-back m ys (and_right (eqb (length y) m) _ a) in
    rw (first, later)

numbers-long : (m : ℕ) (ys : List Point) → all (λ y. eqb (length y) m) ys ≡ true
    → length (concat_map (λ y. y) ys) ≡ length ys * m
numbers-long m [] a = omega (arith, zero-mul m)
numbers-long m (y ∷ ys) a =
    let long : length y ≡ m = eqb-true _ _ (and_left (eqb (length y) m) _ a) in
    rw length-append (omega (arith, suc-mul (length ys) m, numbers-long m ys (and_right (eqb (length y) m) _ a)))

-- the points of a list that is 1 to n + 1 points of the grid one after another are these, and question 19 is
-- answered yes
module _ {g : Grid} (A : Accepted g) (ys : List Point) (some-point : 1 ≤ length ys)
    (few : length ys ≤ suc (dimension g)) (on : all (is_grid_point g) ys ≡ true) where
  some-index : 0 < num_indices g
  some-index = omega (arith, blocks-few g A, A.some_block)

  as_many : whole_points g (concat_map (λ y. y) ys) ≡ length ys
  as_many = rw (numbers-long (num_indices g) ys (points-long g ys on)) (mul-div_cancel (length ys) some-index)

  pub same_points : listed_points g (concat_map (λ y. y) ys) ≡ ys
  same_points = rw as_many (points-back (num_indices g) ys (points-long g ys on))

  pub list-accepted : (question19 g (concat_map (λ y. y) ys)).answered_yes ≡ true
  list-accepted =
      let long = numbers-long (num_indices g) ys (points-long g ys on) in
      let least : 1 * num_indices g ≤ length ys * num_indices g = mul-le-mul_right (num_indices g) some-point in
      sym (list-points g (concat_map (λ y. y) ys) (omega (arith, some-index)) (rw as_many (sym long)) (rw as_many few))
      ∙ rw same_points on

-- "Each end we print gets yes"
pub each-end : (p : Problem) → first_no (table_questions p) ≡ 0 → EachEndGetsYes p
each-end p questions = record {
  yes = λ budget places read kind block vertices simplex h.
      let e = announced-end p budget places read kind block vertices simplex h in
      ap (λ (s : Simplex). check_answer p.grid p.labels (concat_map (λ y. y) s)) e.points
      ∙ end-yes e.end e.ends
      ∙ ap (λ (n : ℕ). Yes n) (sym e.named);
}
  where
    asked : (first_no (grid_questions p.grid) ≡ 0)
        × (first_no (question5 p.grid p.start ∷ question6 p ∷ question7 p ∷ []) ≡ 0)
    asked = both_yes (grid_questions p.grid) (question5 p.grid p.start ∷ question6 p ∷ question7 p ∷ []) refl questions

    end-yes : (e : End) → (path p).end ≡ some e
        → check_answer p.grid p.labels (concat_map (λ y. y) e.simplex) ≡ Yes (suc e.block)
    end-yes e q =
        let start = first-yes (question5 p.grid p.start) _ (omega arith) asked.1 in
        let size = first-yes (question6 p) _ (omega arith) start.1 in
        let labels = first-yes (question7 p) [] (omega arith) size.1 in
        let A = accepted p.grid asked.0 in
        let ok = has-start_with p.grid (in_limits p.grid A) p.start start.0 p.labels in
        let w = last-place ok e q in
        let s = stop-points ok w.0 e w.1 w.2 in
        let numbers = concat_map (λ y. y) e.simplex in
        let list =
        none-no p.grid p.labels numbers (eqb-true _ _ size.0) labels.0 (list-accepted A e.simplex s.0 s.1 s.2) in
        sym (judged_is p.grid p.labels numbers asked.0 (sym list))
        ∙ rw (same_points A e.simplex s.0 s.1 s.2, stop-answer ok w.0 e w.1 w.2)
