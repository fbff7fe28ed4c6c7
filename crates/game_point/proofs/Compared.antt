-- The expected and the replaced loss at an index, out of the losses of the strategies. Assumes nothing.
use mathlib.Core.Logic.{⊎_elim}
use mathlib.Core.List.{List, map}
use mathlib.Core.Path.{◌≡◌, sym, ap, ◌∙◌}
use Prim.Native.Nat.{ℕ, ◌+◌, ◌-◌, ◌*◌, ◌≤◌, ◌<◌}
use lib.Dec.{leb}
use lib.ListN.{length, get_or, take, drop, length-drop, get_or-eq_default}
use lib.Seq.{length-take-le, get_or-take, get_or-drop, ext_get_or}
use native.Mathlib.Nat.{mul-le-mul_left}
use native.Mathlib.Omega.{arith}
use Rattle.combinatorics.proofs.Agreement.{all_drop}
use Rattle.combinatorics.proofs.Basics.{before_or_not}
use Rattle.combinatorics.specs.Lists.{sum}
use Rattle.grid_points.proofs.Points.{point-long}
use Rattle.grid_points.proofs.Round.{block_at, block-fits, block_spans}
use Rattle.grid_points.specs.Grid.{Grid, Point, at, num_indices, size, division, first_index, block_of, lent}
use Rattle.game_losses.proofs.Players.{lent-mix}
use Rattle.game_losses.proofs.Replaced.{expected_is, replaced-is}
use Rattle.game_losses.proofs.Table.{part_low}
use Rattle.game_losses.proofs.Weights.{dot-bound, length-weighed, weighed-at}
use Rattle.game_losses.specs.Game.{dot, mix, opponents, expected_loss, losses_of, player_loss, replaced_loss}
use Rattle.game_losses.specs.Weights.{strategy_losses, weights}
use Rattle.game_weighed.proofs.Blends.{blend-bound, dot-blend}
use Rattle.game_point.proofs.Bounds.{all-opponents, block-sum, own-fits}
use Rattle.game_point.specs.Label.{GameAt, OwnLosses}
use Rattle.game_point.specs.Weighing.{weights_from}

module _ {ss ds firsts owners losses : List ℕ} {y : Point} (G : GameAt (lent ss ds) firsts owners losses y)
    (values : List ℕ) (are : OwnLosses (lent ss ds) losses y values) (long : length values ≡ 16) (h : ℕ)
    (b : h < num_indices (lent ss ds)) (owner first s : ℕ) (owner_is : owner ≡ block_of (lent ss ds) h)
    (first-is : first ≡ first_index (lent ss ds) owner) (s-is : s ≡ get_or ss owner 0) where
  abbrev g : Grid
  g = lent ss ds

  abbrev table : List ℕ
  table = strategy_losses g y owner (losses_of g losses owner)

  owner_low : owner < length ss
  owner_low = omega (arith, owner_is, (block_spans ss h b).0)

  spans : (first ≤ h) × (h < first + s)
  spans =
      let r = rw (sym owner_is) at (block_spans ss h b) in
      (omega (arith, first-is, r.1), omega (arith, first-is, s-is, r.2))

  pub ends : (first + s ≤ length y) × (first + s ≤ 16)
  ends =
      let r = block-fits ss owner in (
        omega (arith, first-is, s-is, r, point-long g y G.is_point),
        omega (arith, first-is, s-is, r, G.grid.few_indices),
      )

  abbrev own : List ℕ
  own = take (first + s - first) (drop first y)

  abbrev part : List ℕ
  part = take (first + s - first) (drop first values)

  own_is : own ≡ mix g y owner
  own_is = lent-mix ss y owner first s first-is s-is (sym (point-long g y G.is_point))

  part_long : length part ≡ s
  part_long =
      let z : first + s - first ≡ s = omega arith in
      rw z (length-take-le s (drop first values) (omega (arith, length-drop first values, ends.1)))

  value_is : (i : ℕ) → i < s → at values (first + i) ≡ get_or table i 0
  value_is i l =
      let f = first_index g owner in
      let e : block_of g (f + i) ≡ owner = block_at ss owner i (omega arith) in
      let z : f + i - f ≡ i = omega arith in
      ap (λ (n : ℕ). at values (n + i)) first-is
      ∙ are (f + i) (omega (arith, block-fits ss owner, s-is))
      ∙ ap (λ (j : ℕ). get_or (strategy_losses g y j (losses_of g losses j)) (f + i - first_index g j) 0) e
      ∙ ap (λ (n : ℕ). get_or table n 0) z

  part_is : part ≡ table
  part_is = ext_get_or 0 part table (part_long ∙ s-is ∙ sym (length-weighed (size g owner) _ _))
      (λ i l. get_or-take (first + s - first) (drop first values) i 0 (omega (arith, part_long))
      ∙ get_or-drop first values i 0
      ∙ value_is i (omega (arith, part_long)))

  -- the bounds
  value_low : (i : ℕ) → get_or table i 0 ≤ sum (weights_from g y owner 0) * 1000
  value_low i = ⊎_elim
      (λ (l : i < size g owner).
      let L = losses_of g losses owner in
      let w = weights (map (mix g y) (opponents g owner)) in
      rw (all-opponents g y owner)
      (omega (
        arith,
        weighed-at (size g owner) i w L l,
        dot-bound 1000 w (drop (i * length w) L) (all_drop (λ v. leb v 1000) (i * length w) L
            (part_low g losses G.table owner owner_low)),
      )))
      (λ (l : size g owner ≤ i).
      let past : length table ≤ i =
      omega (
        arith,
        length-weighed (size g owner) (weights (map (mix g y) (opponents g owner))) (losses_of g losses owner),
      ) in
      rw (get_or-eq_default table 0 past) (omega arith))
      (before_or_not i (size g owner))

  pub expected_low : dot own part ≤ 9000000000000000000
  expected_low = rw (own_is, part_is)
      (omega (
        arith,
        dot-blend (mix g y owner) table,
        rw (block-sum G owner owner_low) at
            (blend-bound (mix g y owner) (at table) (sum (weights_from g y owner 0) * 1000) value_low),
        own-fits G owner owner_low,
      ))

  value_here : at values h ≡ get_or table (h - first) 0
  value_here =
      let z : first + (h - first) ≡ h = omega (arith, spans.0) in
      rw z at (value_is (h - first) (omega (arith, spans.0, spans.1)))

  pub replaced-low : division g owner * at values h ≤ 9000000000000000000
  replaced-low = rw value_here
      (omega (arith, mul-le-mul_left (division g owner) (value_low (h - first)), own-fits G owner owner_low))

  pub lengths : length own ≤ length part
  lengths =
      let z : first + s - first ≡ s = omega arith in
      rw part_long (rw z (omega (arith, length-take-le s (drop first y) (omega (arith, length-drop first y, ends.0)))))

  pub expected_here : dot own part ≡ player_loss g losses y h
  expected_here = rw (own_is, part_is)
      (sym (expected_is g losses y owner) ∙ ap (λ (j : ℕ). expected_loss g losses y j) owner_is)

  pub replaced-here : division g owner * at values h ≡ replaced_loss g losses y h
  replaced-here =
      let z : first_index g owner + (h - first) ≡ h = omega (arith, spans.0, first-is) in
      ap (λ (n : ℕ). division g owner * n) value_here
      ∙ sym (replaced-is g losses y owner (h - first) (omega (arith, s-is, spans.0, spans.1)))
      ∙ ap (λ (n : ℕ). replaced_loss g losses y n) z
