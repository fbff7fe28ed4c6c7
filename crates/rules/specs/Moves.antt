-- The state of a run and one move, on lists: what the functions of `moves` compute. The run's own promise does not
-- cite it: proofs/ shows that these moves follow the path of document 01. Assumes nothing.
use Rattle.std.specs.Prelude.{Bool, true, false, not, ◌&&◌, ◌||◌, cond, List, [], ◌∷◌, map, ℕ, zero, suc, pred, ◌+◌, ◌-◌, ◌*◌, ◌/◌, ◌%◌, eqb, ltb, length, set, replicate}
use Rattle.combinatorics.specs.Edits.{insert_at, remove_at, swap_at, rotate_left, rotate_right, found}
use Rattle.grid_points.specs.Grid.{at}
use Rattle.rules.specs.Mask.{bit, with_index, without_index}
use Rattle.rules.specs.declared.Round.{Round}

-- The place: its first point, that point's coefficient list, the indices of T in the order in which each point goes to
-- the next, a mark for each point, T and U. How it was reached: by which of the seven rules; and the number of the
-- point that has just come in, or, after rules 6 and 7, leaves next. The ways round the blocks stay the same.
pub record State : Type 0 where
  pub round : Round
  pub first : List ℕ
  pub coefficients : List ℕ
  pub order : List ℕ
  pub marks : List ℕ
  pub T : ℕ
  pub U : ℕ
  pub active : ℕ
  pub rule : ℕ

-- what a move gives: the state at the next place; or that the state's place is an end, or a facet of it, with an index
-- of the block for which the simplex is complete
pub data After : Type 0 where
  goes : State → After
  ends_at_place : State → ℕ → After
  ends_at_facet : State → ℕ → After

-- a mark: the label of a point, and 256 times its position
abbrev pub mark : ℕ → ℕ → ℕ
mark position label = position * 256 + label

abbrev pub mark_label : ℕ → ℕ
mark_label m = m % 256

abbrev pub mark_position : ℕ → ℕ
mark_position m = m / 256

-- the first index met from h on, by the neighbours in `way`, at which the test holds, after at most n steps
unfoldable pub first_met : List ℕ → (ℕ → Bool) → ℕ → ℕ → ℕ
first_met way q zero h = h
first_met way q (suc n) h = let further = first_met way q n (at way h) in cond (q h) h further

-- the first index met going from h round its block that is not in the mask
abbrev pub first_outside : List ℕ → List ℕ → ℕ → ℕ → ℕ
first_outside way sizes mask h = first_met way (λ k. not (bit mask k)) (at sizes h) (at way h)

-- "b is the first index met going back from h that is not in U": the index that a step at h takes from
abbrev pub source : Round → ℕ → ℕ → ℕ
source round U h = first_outside round.previous round.sizes U h

abbrev pub source_in : State → ℕ → ℕ
source_in s h = source s.round s.U h

-- the first index met going back from h that is not in U or has coefficient 0
abbrev pub first_outside_or_zero : Round → ℕ → List ℕ → ℕ → ℕ
first_outside_or_zero round U c h =
    first_met round.previous (λ k. not (bit U k) || eqb (at c k) 0) (at round.sizes h) (at round.previous h)

-- the first index met going on from h that is h again or is in neither T nor U
abbrev pub first_free : Round → ℕ → ℕ → ℕ → ℕ
first_free round T U h =
    first_met round.next (λ k. eqb k h || not (bit T k) && not (bit U k)) (at round.sizes h) (at round.next h)

-- every index of h's block but h is in T or U
abbrev pub is_filled : Round → ℕ → ℕ → ℕ → Bool
is_filled round T U h = eqb (first_free round T U h) h

-- 1 more at h, 1 less at b
abbrev pub shifted : List ℕ → ℕ → ℕ → List ℕ
shifted y h b = let z = set y h (at y h + 1) in set z b (at z b - 1)

-- the numbers at h, and at the indices going on by `way` before b, changed by f; at most n of them
unfoldable pub changed_before : (ℕ → ℕ) → List ℕ → ℕ → ℕ → ℕ → List ℕ → List ℕ
changed_before f way b zero h c = c
changed_before f way b (suc n) h c =
    let changed = changed_before f way b n (at way h) (set c h (f (at c h))) in cond (eqb h b) c changed

-- Point i and entry e of the order go. The index x of that entry leaves T, and joins U where `into_u`; the point
-- labelled x leaves next.
unfoldable pub shrink : State → ℕ → ℕ → Bool → State
shrink s i e into_u = let x = at s.order e in record {
  round = s.round;
  first = s.first;
  coefficients = s.coefficients;
  order = remove_at e s.order;
  marks = remove_at i s.marks;
  T = without_index s.T x;
  U = cond into_u (with_index s.U x) s.U;
  active = found (suc x) 16 (map mark_label (remove_at i s.marks));
  rule = cond into_u 6 7;
}

-- The first point leaves, and the second is the new first.
unfoldable pub leave_first : State → After
leave_first s =
    let h = at s.order 0 in
    let b = source_in s h in
    let gone = eqb (at s.first b) 1 && not (bit s.T b) in
    cond (gone && is_filled s.round s.T s.U b)
    (ends_at_facet s b)
    (goes (record {
      round = s.round;
      first = shifted s.first h b;
      coefficients = changed_before suc s.round.previous b 16 h s.coefficients;
      order = rotate_left s.order;
      marks = rotate_left s.marks;
      T = s.T;
      U = cond gone (with_index s.U b) s.U;
      active = length s.order;
      rule = cond gone 2 1;
    }))

-- Point i, neither the first nor the last, leaves: the steps to it and from it change places, or the index of the step
-- to it moves from T to U.
unfoldable pub leave_middle : State → ℕ → State
leave_middle s i =
    let b = source_in s (at s.order i) in
    cond (eqb (at s.order (i - 1)) b && eqb (at s.first b) 0)
    (shrink s i (i - 1) true)
    (record {
      round = s.round;
      first = s.first;
      coefficients = s.coefficients;
      order = swap_at (i - 1) s.order;
      marks = s.marks;
      T = s.T;
      U = s.U;
      active = i;
      rule = 1;
    })

-- The last point leaves: a new first point comes in, or the index of the last step leaves T.
unfoldable pub leave_last : State → State
leave_last s =
    let t = length s.order in
    let h = at s.order (t - 1) in
    let b = first_outside_or_zero s.round s.U s.coefficients h in
    cond (eqb (at s.first h) 0)
    (shrink s t (t - 1) true)
    (cond (eqb (at s.coefficients h) 0)
    (shrink s t (t - 1) false)
    (record {
      round = s.round;
      first = shifted s.first b h;
      coefficients = changed_before pred s.round.previous b 16 h s.coefficients;
      order = rotate_right s.order;
      marks = rotate_right s.marks;
      T = s.T;
      U = without_index s.U b;
      active = 0;
      rule = cond (bit s.U b) 3 1;
    }))

-- Index h joins T before entry i of the order; the point behind that entry comes in.
abbrev pub joined : State → ℕ → ℕ → ℕ → State
joined s i h rule = record {
  round = s.round;
  first = s.first;
  coefficients = s.coefficients;
  order = insert_at i h s.order;
  marks = insert_at (suc i) 0 s.marks;
  T = with_index s.T h;
  U = without_index s.U h;
  active = suc i;
  rule = rule;
}

-- The label h, not in T, has come in: it joins T, before the step at which its coefficient rises or behind the last
-- step, or the place is an end.
unfoldable pub grow : State → ℕ → After
grow s h =
    let ahead = first_outside s.round.next s.round.sizes s.U h in
    let i = cond (bit s.U h) (found ahead 16 s.order) (length s.order) in
    cond (not (bit s.U h) && is_filled s.round s.T s.U h)
    (ends_at_place s h)
    (goes (joined s i h (cond (bit s.U h) 5 4)))

-- Point i leaves.
unfoldable pub leave : State → ℕ → After
leave s i = cond (eqb i 0) (leave_first s) (goes (cond (ltb i (length s.order)) (leave_middle s i) (leave_last s)))

-- The move from a place whose points all have their labels. After rules 6 and 7 the point named leaves. Otherwise the
-- label that came in joins T if it is not there, and if it is, the other point with that label leaves.
unfoldable pub make_move : State → After
make_move s =
    let label = mark_label (at s.marks s.active) in
    let grown = grow s (label - 1) in
    let left = leave s (found label s.active (map mark_label s.marks)) in
    cond (ltb s.rule 6) (cond (bit s.T (label - 1)) left grown) (leave s s.active)

-- the point that has just come in gets its mark
unfoldable pub with_mark : State → ℕ → State
with_mark s m = record {
  round = s.round;
  first = s.first;
  coefficients = s.coefficients;
  order = s.order;
  marks = set s.marks s.active m;
  T = s.T;
  U = s.U;
  active = s.active;
  rule = s.rule;
}

-- the place {v}: its one point has come in
abbrev pub begun : Round → List ℕ → ℕ → State
begun round start zeros = record {
  round = round;
  first = start;
  coefficients = replicate 16 0;
  order = [];
  marks = 0 ∷ [];
  T = 0;
  U = zeros;
  active = 0;
  rule = 1;
}
