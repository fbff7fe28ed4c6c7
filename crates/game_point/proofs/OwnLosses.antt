-- The losses of one strategy, where they stand in the loss table, and their weighed sum. Assumes nothing.
use mathlib.Core.List.{List, [], map}
use mathlib.Core.Path.{◌≡◌, sym, ap, ◌∙◌}
use Prim.Native.Nat.{ℕ, suc, ◌+◌, ◌-◌, ◌*◌, ◌≤◌, ◌<◌}
use lib.Dec.{leb}
use lib.ListN.{length, get_or, take, drop, length-drop}
use lib.Seq.{length-take-le, get_or-take, get_or-drop}
use native.Mathlib.Nat.{mul-le-mul_right}
use native.Mathlib.Omega.{arith}
use Rattle.combinatorics.proofs.Agreement.{all_drop, all_take}
use Rattle.grid_points.proofs.Points.{point-long}
use Rattle.grid_points.proofs.Round.{block_spans}
use Rattle.grid_points.specs.Grid.{Grid, Point, at, num_indices, size, first_index, block_of, lent}
use Rattle.game_losses.proofs.Players.{product-own}
use Rattle.game_losses.proofs.Replaced.{mix_lengths}
use Rattle.game_losses.proofs.Table.{low-all}
use Rattle.game_losses.proofs.Weights.{length-weights, weighed-at}
use Rattle.game_losses.specs.Game.{product, dot, mix, opponents, losses_of}
use Rattle.game_losses.specs.Weights.{strategy_losses, weighed}
use Rattle.game_weighed.proofs.Blends.{blend-agree, dot-blend}
use Rattle.game_weighed.specs.Levels.{Rests}
use Rattle.game_point.proofs.Opponents.{profiles-behind}
use Rattle.game_point.proofs.Bounds.{all-opponents, from-fits, size-two}
use Rattle.game_point.specs.Label.{GameAt, own_loss}
use Rattle.game_point.specs.Weighing.{weights_from, CanWeighLosses}

module _ {ss ds firsts owners losses : List ℕ} {y : Point} (G : GameAt (lent ss ds) firsts owners losses y)
    (rests : List ℕ) (resting : Rests (lent ss []) rests) (h : ℕ)
    (b : h < num_indices (lent ss ds)) (owner count first s rest : ℕ) (owner_is : owner ≡ block_of (lent ss ds) h)
    (count-is : count ≡ product ss) (first-is : first ≡ first_index (lent ss ds) owner) (s-is : s ≡ get_or ss owner 0)
    (rest-is : rest ≡ at rests owner) where
  abbrev g : Grid
  g = lent ss ds

  abbrev w : List ℕ
  w = weights_from g y owner 0

  pub owner_low : owner < length ss
  owner_low = omega (arith, owner_is, (block_spans ss h b).0)

  pub spans : (first ≤ h) × (h < first + s)
  spans =
      let r = rw (sym owner_is) at (block_spans ss h b) in
      (omega (arith, first-is, r.1), omega (arith, first-is, s-is, r.2))

  weights-long : length w ≡ product (map (size g) (opponents g owner))
  weights-long = ap length (all-opponents g y owner)
      ∙ length-weights (map (mix g y) (opponents g owner))
      ∙ ap product (sym (mix_lengths g y (opponents g owner)))

  count-own : count ≡ s * length w
  count-own = count-is
      ∙ product-own ss owner owner_low
      ∙ ap (λ (n : ℕ). get_or ss owner 0 * n) (sym weights-long)
      ∙ ap (λ (n : ℕ). n * length w) (sym s-is)

  rest-long : rest ≡ length w
  rest-long =
      let z : 0 * 6 + owner ≡ owner = omega arith in
      rest-is
      ∙ (rw z at (resting 0 owner (omega arith) (omega (arith, owner_low, G.grid.few_blocks))))
      ∙ sym (profiles-behind (lent ss []) y owner (length ss) 0 (omega arith))

  abbrev from : ℕ
  from = owner * count + (h - first) * rest

  own_row : (h - first) * rest + rest ≤ count
  own_row =
      let m : suc (h - first) * rest ≤ s * rest = mul-le-mul_right rest (omega (arith, spans.0, spans.1)) in
      let e : count ≡ s * rest = count-own ∙ ap (λ (n : ℕ). s * n) (sym rest-long) in
      omega arith

  pub within : from + rest ≤ length losses
  within =
      let m : suc owner * count ≤ length ss * count = mul-le-mul_right count owner_low in
      let e : length losses ≡ length ss * count = (G.table.whole ∙ ap (λ (n : ℕ). length ss * n) (sym count-is)) in
      omega (arith, own_row)

  abbrev part : List ℕ
  part = take (from + rest - from) (drop from losses)

  pub can : CanWeighLosses (lent ss []) firsts rests y part owner 0
  can = record {
    few = G.grid.few_blocks;
    player = omega (arith, owner_low, G.grid.few_blocks);
    resting = resting;
    inside = omega arith;
    sizes = λ i l. omega (arith, size-two G i l);
    first = G.first;
    room = omega (arith, point-long g y G.is_point);
    whole =
        let z : from + rest - from ≡ rest = omega arith in
        rw z
        (length-take-le rest (drop from losses) (omega (arith, length-drop from losses, within)) ∙ rest-long);
    low = all_take (λ v. leb v 1000) (from + rest - from) (drop from losses)
        (all_drop (λ v. leb v 1000) from losses (low-all losses G.table.range));
    fits = from-fits G owner owner_low;
  }

  pub is-own : dot (weights_from (lent ss []) y owner 0) part ≡ own_loss (lent ss []) losses y h
  is-own =
      let z : from + rest - from ≡ rest = omega arith in
      let i = h - first in
      let L = losses_of g losses owner in
      let same : get_or (strategy_losses g y owner L) i 0 ≡ dot w (drop (i * length w) L) =
      (ap (λ (u : List ℕ). get_or (weighed (size g owner) u L) i 0) (sym (all-opponents g y owner))
      ∙ weighed-at (size g owner) i w L (omega (arith, s-is, spans.0, spans.1))) in
      dot-blend w part
      ∙ blend-agree w _ _ (λ q l.
      let q-low : q < rest = omega (arith, rest-long) in
      let e : from + q ≡ owner * count + (i * length w + q) = rw rest-long (omega arith) in
      let inside : i * length w + q < product ss = omega (arith, rw rest-long at own_row, count-is) in
      rw z (get_or-take rest (drop from losses) q 0 q-low)
      ∙ get_or-drop from losses q 0
      ∙ ap (at losses) (e ∙ ap (λ (n : ℕ). owner * n + (i * length w + q)) count-is)
      ∙ sym (get_or-drop (i * length w) L q 0
      ∙ get_or-take (product ss) (drop (owner * product ss) losses) (i * length w + q) 0 inside
      ∙ get_or-drop (owner * product ss) losses (i * length w + q) 0))
      ∙ sym (dot-blend w (drop (i * length w) L))
      ∙ sym same
      ∙ ap (λ (n : ℕ). get_or (strategy_losses g y owner L) (h - n) 0) first-is
      ∙ ap (λ (j : ℕ). get_or (strategy_losses g y j (losses_of g losses j)) (h - first_index g j) 0) owner_is
