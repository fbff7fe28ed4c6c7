-- A call looks at the labels of the present place's points alone, but for questions 6 and 7. Assumes nothing.
use mathlib.Core.Bool.{Bool}
use mathlib.Core.List.{List, [], ◌∷◌}
use mathlib.Core.Option.{Option}
use mathlib.Core.Path.{◌≡◌, sym, ap, ◌∙◌}
use Prim.Native.Nat.{ℕ}
use Rattle.combinatorics.proofs.Basics.{both}
use Rattle.place.specs.Path.{ways_on}
use Rattle.place.specs.Places.{Simplex, all_labelled}
use Rattle.place.specs.Problem.{Problem, with_labels}
use Rattle.path_laws.proofs.FromTwoWays.{back}
use Rattle.path_laws.proofs.Local.{Agree, map_same, place-local, linked-local, linked-stays, known-local, ways-local}
use Rattle.path_laws.specs.Demand.{Accepted}
use Rattle.questions.specs.Questions.{first_no, ask}
use Rattle.walks.proofs.Meaning.{Came, begins, came, Stands, stands_of, of_stands, behind_seven}
use Rattle.walks.specs.Next.{next_of}
use Rattle.walks.specs.Walk.{Walk, over, is_walk, walk_questions}

module _ (p : Problem) (labels : List ℕ) where
  came_stays : {l : Option Simplex} {s : Simplex} → Agree p labels s → Came p l s → Came (with_labels p labels) l s
  came_stays k begins = begins
  came_stays k (came {a} {s} j ne) =
      let b = back a s j in
      came (back s a (record {
        from = place-local p labels s k ∙ b.from;
        to = linked-stays p labels s a k b.by b.to;
        by = linked-local p labels s a k ∙ b.by;
      })) ne

  stands-stays : (w : Walk) → Agree p labels w.present → Stands p w → Stands (with_labels p labels) w
  stands-stays w k h = record {
    place = place-local p labels w.present k ∙ h.place;
    came = came_stays k h.came;
    some = h.some;
    bounded = h.bounded;
    carries = h.carries ∙ sym (map_same p labels w.present k);
    read = h.read;
    read_few = h.read_few;
  }

module _ (w : Walk) (labels others : List ℕ) (ok : Accepted (over w labels)) (ok_others : Accepted (over w others))
    (k : Agree (over w labels) others w.present) where
  walk-local : is_walk (over w others) w ≡ is_walk (over w labels) w
  walk-local = both (is_walk (over w others) w) (is_walk (over w labels) w)
      (λ h. of_stands (over w labels) w
      (stands-stays (over w others) labels w (λ y m. sym (k y m)) (stands_of (over w others) w h)))
      (λ h. of_stands (over w others) w (stands-stays (over w labels) others w k (stands_of (over w labels) w h)))

  questions-local : first_no (walk_questions w others) ≡ first_no (walk_questions w labels)
  questions-local = behind_seven w others ok_others
      ∙ ap (λ (b : Bool). first_no (ask 20 b ∷ ask 16 (all_labelled (over w others) w.present) ∷ [])) walk-local
      ∙ ap
      (λ (b : Bool). first_no (ask 20 (is_walk (over w labels) w) ∷ ask 16 b ∷ []))
      (known-local (over w labels) others w.present k)
      ∙ sym (behind_seven w labels ok)

  ways-on-local : ways_on (over w others) w.before w.present ≡ ways_on (over w labels) w.before w.present
  unfolding ways_on
  ways-on-local = rw (ways-local (over w labels) others w.present k)

  pub next-local : next_of w others ≡ next_of w labels
  unfolding next_of
  next-local = rw (questions-local, ways-on-local)
