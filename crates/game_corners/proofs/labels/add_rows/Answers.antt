-- `add_rows` meets its contract: the rows passed are weighed and added up. Assumes nothing.
use mathlib.Core.List.{List}
use mathlib.Core.Path.{◌≡◌, sym, ◌∙◌}
use Prim.Native.Nat.{ℕ, ◌+◌, ◌-◌, ◌*◌, ◌≤◌, ◌<◌}
use native.Mathlib.Omega.{arith}
use borrow.Author.Rules.{rules}
use lib.IntN.{ℤ, pos, nat_abs}
use lib.ListN.{length, get_or, take, drop, length-take, length-drop}
use lib.Seq.{take_all, get_or-drop}
use mir.Facts.{to_z-of_z}
use mir.Syntax.{w64}
use mir.Val.{to_z, of_z, SFits}
use Rattle.game_corners.proofs.Integers.{weighed-low}
use Rattle.game_corners.proofs.Rows.{column-next, total-low}
use Rattle.game_corners.specs.Corners.{signed_at}
use Rattle.game_corners.proofs.labels.add_rows.Goals as goal
use Rattle.game_corners.proofs.labels.add_rows.Goals.{After-from}

-- what is known once the mix's number is read
module _ (c : After-from) where
  abbrev rows : List ℤ
  rows = c.args.rows.now

  abbrev k : ℕ
  k = c.loop-k.k

  abbrev totals : List ℤ
  totals = c.loop-k.totals

  abbrev x : ℕ
  x = get_or c.args.mix.now k 0

  x-low : x < 65536
  x-low = search rules

  abbrev factor : ℤ
  factor = to_z w64 (of_z w64 c.from.result)

  x-is : factor ≡ pos x
  x-is =
      let fits : SFits w64 c.from.result = search rules in
      to_z-of_z {w = w64} fits ∙ c.from.ensures

  -- the part that is lent for the row
  abbrev row : List ℤ
  row = take (length rows - k * 16) (drop (k * 16) rows)

  number : (h : ℕ) → signed_at row h ≡ signed_at rows (k * 16 + h)
  number h = rw (take_all (length rows - k * 16) (drop (k * 16) rows) (omega (arith, length-drop (k * 16) rows)))
      (get_or-drop (k * 16) rows h (pos 0))

  low : (h : ℕ) → h < c.args.count
      → nat_abs (signed_at totals h) + nat_abs factor * nat_abs (signed_at row h) ≤ (k + 1) * 281474976710656
  low h b = rw (number h, x-is)
      (total-low (nat_abs (signed_at totals h)) x (nat_abs (signed_at rows (k * 16 + h))) k
      (c.loop-k.invariant.0 h b).1 x-low (c.requires.1.low k h (omega arith) b))

pub add_times-requires : goal.add_times-requires
add_times-requires c =
    let p = c.requires.1 in
    record {
      sixteen = c.loop-k.invariant.1;
      few = p.few;
      inside = simp (length-take, length-drop) (omega (arith, p.few_rows, p.few, p.whole));
      fits = λ h b. omega (arith, low (goal.at.add_times-requires c).After-from h b, p.few_rows);
    }

pub loop-k-preserved : goal.loop-k-preserved
loop-k-preserved c =
    let w = (goal.at.loop-k-preserved c).After-from in
    let l = c.loop-k in
    let e = c.add_times.ensures.1 in (
      (λ h b. (
        e h b
            ∙ rw (number w h, x-is w, (l.invariant.0 h b).0)
            (sym (column-next c.args.mix.now (rows w) (k w) h (omega arith))),
        rw (e h b) (omega (arith, low w h b, weighed-low (signed_at (totals w) h) (factor w) (signed_at (row w) h))),
      )),
      c.add_times.ensures.0,
    )
