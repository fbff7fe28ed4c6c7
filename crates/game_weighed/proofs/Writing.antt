-- What is written into an array, one number after the other. Assumes nothing.
use mathlib.Core.List.{List}
use mathlib.Core.Logic.{⊎_elim}
use mathlib.Core.Path.{◌≡◌, sym, ap, ◌∙◌}
use Prim.Native.Nat.{ℕ, suc, ◌+◌, ◌-◌, ◌*◌, ◌≤◌, ◌<◌}
use lib.ListN.{length, get_or, take, drop, set, length-take, length-drop}
use lib.Seq.{get_or-set_same, get_or-set_other, get_or-drop, take_all}
use native.Mathlib.Nat.{mul-le-mul_right}
use native.Mathlib.Omega.{arith}
use Rattle.combinatorics.proofs.Basics.{same_or}
use Rattle.grid_points.specs.Grid.{at}
use Rattle.grid_points.proofs.Accepted.{Accepted}
use Rattle.grid_points.proofs.Round.{block_spans}
use Rattle.combinatorics.specs.Lists.{sum}
use Rattle.grid_points.specs.Grid.{Grid, Point, num_indices, size, first_index, block_in, block_of}
use Rattle.game_losses.specs.Game.{product}
use Rattle.game_losses.specs.Table.{IsTable}
use Rattle.game_weighed.proofs.Blends.{blend-agree}
use Rattle.game_weighed.proofs.Levels.{own_behind, behind-few, begin_is, levelled-start}
use Rattle.game_weighed.specs.Levels.{blend, behind, losses_begin, levelled, place, weighed_at, Stand, Spaced}
use Rattle.game_weighed.specs.Levels.{TableToWeigh, Written}

pub written_turn : (old new : List ℕ) (to e : ℕ) (f : ℕ → ℕ) (v : ℕ) → to + e < length new → v ≡ f e
    → Written old to e f new
    → Written old to (e + 1) f (set new (to + e) v)
written_turn old new to e f v inside is w = record {
  done = λ i h. ⊎_elim
      (λ s. rw s (get_or-set_same new (to + e) v 0 inside ∙ is))
      (λ n. get_or-set_other new (to + e) (to + i) v 0 (λ s. n (omega arith)) ∙ w.done i (omega arith))
      (same_or i e);
  kept = λ i h. get_or-set_other new (to + e) i v 0 (λ s. omega arith) ∙ w.kept i h;
}

-- one entry more, from the first on
pub entries_turn : (f : ℕ → ℕ) (l : List ℕ) (h v : ℕ) → h < length l → v ≡ f h → ((i : ℕ) → i < h → at l i ≡ f i)
    → (i : ℕ) → i < h + 1
    → at (set l h v) i ≡ f i
entries_turn f l h v inside is before i b = ⊎_elim
    (λ s. rw s (get_or-set_same l h v 0 inside ∙ is))
    (λ n. get_or-set_other l h i v 0 n ∙ before i (omega arith))
    (same_or i h)

-- a table that is weighed in its own array: what is written so far lies behind it
module _ (mix old : List ℕ) (from to rest : ℕ) (t : TableToWeigh mix old from to rest) (levels : List ℕ) (e : ℕ)
    (h : e < rest) (f : ℕ → ℕ) (w : Written old to e f levels) (long : length levels ≡ length old) where
  -- the part of the array that is lent
  abbrev lent_part : List ℕ
  lent_part = take (length levels - (from + e)) (drop (from + e) levels)

  pub number-before : (k : ℕ) → k < length mix → from + e + k * rest < to
  number-before k b = omega (arith, mul-le-mul_right rest b, t.before)

  lent_at : (k : ℕ) → k < length mix → at lent_part (k * rest) ≡ at old (from + (k * rest + e))
  lent_at k b =
      let z : from + e + k * rest ≡ from + (k * rest + e) = omega arith in
      rw (take_all (length levels - (from + e)) (drop (from + e) levels) (omega (arith, length-drop (from + e) levels)))
      (get_or-drop (from + e) levels (k * rest) 0 ∙ w.kept (from + e + k * rest) (number-before k b) ∙ ap (at old) z)

  pub lent-sum : blend mix (λ k. at lent_part (k * rest)) ≡ weighed_at mix old from rest e
  lent-sum = blend-agree mix _ _ lent_at

  pub lent-apart : Spaced mix lent_part rest
  lent-apart = record {
    two = t.two;
    inside = λ k b. simp (length-take, length-drop) (omega (arith, number-before k b, t.inside));
    fits = rw lent-sum (t.fits e h);
  }

-- the losses of an index lie in the table
pub begin_inside : (g : Grid) (losses : List ℕ) → IsTable g losses → (h : ℕ) → h < num_indices g
    → losses_begin g h + behind g (block_of g h) 0 ≤ length losses
begin_inside g losses t h b =
    let s = block_spans g.sizes h b in
    let rest = behind g (block_of g h) 0 in
    rw (begin_is g h) (omega (
      arith,
      own_behind g (block_of g h) s.0,
      mul-le-mul_right rest (row s),
      mul-le-mul_right (product g.sizes) s.0,
      t.whole,
    ))
  where
    row : (s : (block_in g.sizes h < length g.sizes) × (sum (take (block_in g.sizes h) g.sizes) ≤ h)
        × (h < sum (take (block_in g.sizes h) g.sizes) + get_or g.sizes (block_in g.sizes h) 0))
        → suc (h - first_index g (block_of g h)) ≤ size g (block_of g h)
    row s = omega arith

-- one index more is loaded
pub load_turn : (g : Grid) (a : Accepted g) (losses : List ℕ) (y : Point) (h : ℕ) → h < num_indices g
    → (levels new part : List ℕ) (rest : ℕ) → rest ≡ behind g (block_of g h) 0
    → ((e : ℕ) → e < rest → at part e ≡ at losses (losses_begin g h + e)) → Written levels (h * 162) rest (at part) new
    → Stand g losses y 0 h levels
    → Stand g losses y 0 (h + 1) new
load_turn g a losses y h inside levels new part rest r p w before i e b c =
    ⊎_elim here (λ n. earlier (omega arith)) (same_or i h)
  where
    here : i ≡ h → at new (place 0 i + e) ≡ levelled g losses y i 0 e
    here s =
        let z : place 0 i + e ≡ h * 162 + e = omega arith in
        let low : e < rest = rw (r, ← s) c in
        rw (z, w.done e low, s, levelled-start g losses h y e) (p e low)

    earlier : i < h → at new (place 0 i + e) ≡ levelled g losses y i 0 e
    earlier l =
        let low : e < 162 = omega (arith, behind-few g (block_of g i) a (block_spans g.sizes i (omega arith)).0 0) in
        w.kept (place 0 i + e) (omega arith) ∙ before i e l c

-- where an index is read from
module _ (g : Grid) (losses : List ℕ) (t : IsTable g losses) (h : ℕ) (b : h < num_indices g) (owner count : ℕ)
    (o : owner ≡ block_of g h) (c : count ≡ product g.sizes) where
  pub load_player : owner * count ≤ length losses
  load_player =
      rw (o, c) (omega (arith, mul-le-mul_right (product g.sizes) (block_spans g.sizes h b).0, t.whole))

  pub load_from : (first rest : ℕ) → first ≡ first_index g (block_of g h) → rest ≡ behind g (block_of g h) 0
      → owner * count + (h - first) * rest ≡ losses_begin g h
  load_from first rest f r = rw (o, c, f, r) (sym (begin_is g h))
