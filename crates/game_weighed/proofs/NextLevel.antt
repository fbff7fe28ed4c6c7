-- The tables of the next level in the array: one index after the other, and one level after the other. Assumes nothing.
use mathlib.Core.List.{List}
use mathlib.Core.Logic.{⊎_elim}
use mathlib.Core.Path.{◌≡◌, sym, ap, ◌∙◌}
use Prim.Native.Nat.{ℕ, suc, ◌+◌, ◌*◌, ◌≤◌, ◌<◌}
use borrow.Author.Tests.{eq-eqb, ne_eqb}
use lib.ListN.{length}
use native.Mathlib.Nat.{mul-le-mul_right}
use native.Mathlib.Numerals.{add-one}
use native.Mathlib.Omega.{arith}
use Rattle.combinatorics.proofs.Basics.{same_or}
use Rattle.grid_points.proofs.Accepted.{Accepted, accepted, size-two}
use Rattle.grid_points.proofs.Round.{block_spans}
use Rattle.grid_points.specs.Grid.{Grid, Point, at, num_blocks, num_indices, size, block_of}
use Rattle.points_in_order.proofs.Blocks.{block-length}
use Rattle.game_losses.specs.Game.{mix}
use Rattle.game_weighed.proofs.Blends.{blend-agree}
use Rattle.game_weighed.proofs.Levels.{against_other, behind-next, behind-few, levelled-own, levelled-other}
use Rattle.game_weighed.proofs.Levels.{levelled-low}
use Rattle.game_weighed.specs.Levels.{behind, levelled, place, Stand, StandTo, next_at, rest_at, Written}
use Rattle.game_weighed.specs.Levels.{IndexToWeigh, LevelToWeigh, LevelWeighed, LevelsAt}

-- the array changes only behind the level
module _ (owner : ℕ) (mix old : List ℕ) (l h rest : ℕ) (x : IndexToWeigh owner mix old l h rest) (new : List ℕ)
    (kept : (i : ℕ) → i < place (l + 1) 0 → at new i ≡ at old i) where
  pub next-kept : (e : ℕ) → e < rest → next_at owner mix new l h rest e ≡ next_at owner mix old l h rest e
  next-kept e b = ⊎_elim own other (same_or owner l)
    where
      own : owner ≡ l → next_at owner mix new l h rest e ≡ next_at owner mix old l h rest e
      own s = rw (eq-eqb owner l s) (kept (place l h + e) (omega (arith, x.few, x.short)))

      other : (owner ≡ l → ⊥) → next_at owner mix new l h rest e ≡ next_at owner mix old l h rest e
      other n = rw (ne_eqb owner l n)
          (blend-agree mix _ _
          (λ k t. kept (place l h + (k * rest + e)) (omega (arith, x.few, x.row n, mul-le-mul_right rest t))))

  pub index_kept : length new ≡ length old → IndexToWeigh owner mix new l h rest
  index_kept long = record {
    low = x.low;
    few = x.few;
    whole = long ∙ x.whole;
    two = x.two;
    short = x.short;
    row = x.row;
    fits = λ e b. rw (next-kept e b) (x.fits e b);
  }

-- one index more
module _ (owners rests mix old : List ℕ) (l n : ℕ) (x : LevelToWeigh owners rests mix l n old) where
  pub level_turn : (h : ℕ) → h < n → (levels new : List ℕ) → LevelWeighed owners rests mix l h old levels
      → Written levels (place (l + 1) h) (rest_at owners rests l h)
      (next_at (at owners h) mix levels l h (rest_at owners rests l h)) new
      → LevelWeighed owners rests mix l (h + 1) old new
  level_turn h b levels new before w = record {
    done = λ i e c d. ⊎_elim (here i e d) (λ s. earlier i e (omega arith) d) (same_or i h);
    kept = λ i c. w.kept i (omega arith) ∙ before.kept i c;
  }
    where
      here : (i e : ℕ) → e < rest_at owners rests l i → i ≡ h
          → at new (place (l + 1) i + e) ≡ next_at (at owners i) mix old l i (rest_at owners rests l i) e
      here i e d s =
          let c : e < rest_at owners rests l h = rw s at d in
          rw s
          (w.done e c
          ∙ next-kept (at owners h) mix old l h (rest_at owners rests l h) (x.2 h b).1 levels before.kept e c)

      earlier : (i e : ℕ) → i < h → e < rest_at owners rests l i
          → at new (place (l + 1) i + e) ≡ next_at (at owners i) mix old l i (rest_at owners rests l i) e
      earlier i e c d =
          w.kept (place (l + 1) i + e) (omega (arith, (x.2 i (omega arith)).1.short)) ∙ before.done i e c d

-- from the tables of a level to those of the next
module _ (g : Grid) (losses : List ℕ) (y : Point) (l : ℕ) (inside : l < num_blocks g) (levels : List ℕ)
    (stand : Stand g losses y l (num_indices g) levels) (h : ℕ) (b : h < num_indices g) where
  abbrev owner : ℕ
  owner = block_of g h

  abbrev rest : ℕ
  rest = behind g owner (suc l)

  rows : (owner ≡ l → ⊥) → size g l * rest ≡ behind g owner l
  rows n = sym (behind-next g owner l inside ∙ rw (against_other g owner l (λ s. n (sym s))))

  pub next-levelled : (e : ℕ) → e < rest → next_at owner (mix g y l) levels l h rest e ≡ levelled g losses y h (suc l) e
  next-levelled e c = ⊎_elim own other (same_or owner l)
    where
      own : owner ≡ l → next_at owner (mix g y l) levels l h rest e ≡ levelled g losses y h (suc l) e
      own s =
          let same : behind g owner l ≡ rest =
          behind-next g owner l inside ∙ rw (eq-eqb l owner (sym s)) (omega arith) in
          rw (eq-eqb owner l s) (stand h e b (omega arith) ∙ sym (levelled-own g losses h y l e inside (sym s)))

      other : (owner ≡ l → ⊥) → next_at owner (mix g y l) levels l h rest e ≡ levelled g losses y h (suc l) e
      other n =
          rw (ne_eqb owner l n)
          (blend-agree (mix g y l) _ _ (λ k t.
          let long : length (mix g y l) ≡ size g l = block-length g y l in
          let u : suc k ≤ size g l = omega arith in
          stand h (k * rest + e) b (omega (arith, rows n, mul-le-mul_right rest u)))
          ∙ sym (levelled-other g losses h y l e inside (λ s. n (sym s))))

module _ (g : Grid) (firsts owners rests losses : List ℕ) (y : Point) (l first : ℕ) (levels old : List ℕ)
    (x : LevelsAt g firsts owners rests losses y first old) (long : length levels ≡ length old)
    (inside : l + 1 < num_blocks g) where
  abbrev yes : Accepted g
  yes = accepted g x.point.grid.accepted

  owner_low : (h : ℕ) → h < num_indices g → block_of g h < num_blocks g
  owner_low h b = (block_spans g.sizes h b).0

  rest-is : (h : ℕ) → h < num_indices g → rest_at owners rests l h ≡ behind g (block_of g h) (suc l)
  rest-is h b = rw (x.owned h b)
      (x.rested (l + 1) (block_of g h) (omega (arith, yes.few_blocks)) (omega (arith, owner_low h b, yes.few_blocks))
      ∙ ap (behind g (block_of g h)) (add-one l))

  pub level_ready : StandTo g losses y l levels → LevelToWeigh owners rests (mix g y l) l (num_indices g) levels
  level_ready stand = (
    yes.few_indices,
    long ∙ x.whole,
    λ h b. (rw (x.owned h b) (omega (arith, owner_low h b, yes.few_blocks)), each h b),
  )
    where
      each : (h : ℕ) → h < num_indices g → IndexToWeigh (at owners h) (mix g y l) levels l h (rest_at owners rests l h)
      each h b = rw (rest-is h b, x.owned h b) (record {
        low = omega (arith, yes.few_blocks);
        few = omega (arith, yes.few_indices);
        whole = long ∙ x.whole;
        two = rw (block-length g y l) (size-two g yes l (omega arith)).0;
        short = behind-few g (block_of g h) yes (owner_low h b) (suc l);
        row = λ n. rw (block-length g y l) (omega (
          arith,
          rows g losses y l (omega arith) levels (stand l (omega arith)) h b n,
          behind-few g (block_of g h) yes (owner_low h b) l,
        ));
        fits = λ e c. rw (next-levelled g losses y l (omega arith) levels (stand l (omega arith)) h b e c)
            (levelled-low g yes y x.point.is_point losses x.range h (suc l) e (omega arith));
      })

  pub level_stands : (t new : List ℕ) → StandTo g t y l levels
      → LevelWeighed owners rests (mix g y l) l (num_indices g) levels new
      → StandTo g t y (l + 1) new
  level_stands t new stand w i c = ⊎_elim next earlier (same_or i (l + 1))
    where
      next : i ≡ l + 1 → Stand g t y i (num_indices g) new
      next s = rw s (λ h e b d.
          let z : l + 1 ≡ suc l = add-one l in
          let low : e < behind g (block_of g h) (suc l) = rw z at d in
          let lower : e < rest_at owners rests l h = rw (rest-is h b) low in
          w.done h e b lower
          ∙ rw (rest-is h b, x.owned h b)
          (next-levelled g t y l (omega arith) levels (stand l (omega arith)) h b e low
          ∙ ap (λ (n : ℕ). levelled g t y h n e) (sym z)))

      earlier : (i ≡ l + 1 → ⊥) → Stand g t y i (num_indices g) new
      earlier n h e b d =
          w.kept (place i h + e) (omega (arith, yes.few_indices, behind-few g (block_of g h) yes (owner_low h b) i))
          ∙ stand i (omega arith) h e b d
