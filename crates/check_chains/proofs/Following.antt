-- Following the coefficients of a block, one after another. In order: what is followed so far; a step; why it cannot go
-- on; what is found. Assumes nothing.
use mathlib.Core.Bool.{Bool, true, false, cond}
use mathlib.Core.Logic.{◌⊎◌, inl, inr, ⊎_elim}
use mathlib.Core.Path.{◌≡◌, refl, sym, ap, ◌∙◌}
use Prim.Native.Nat.{ℕ, zero, suc, ◌+◌, ◌-◌, ◌*◌, ◌%◌, ◌^◌, ◌≤◌, ◌<◌}
use borrow.Author.Tests.{lt-ltb, le-ltb, eq-eqb, ne_eqb}
use lib.Bits.{or_lt}
use lib.Dec.{ltb}
use native.Mathlib.Nat.{mod-lt}
use native.Mathlib.Omega.{arith}
use Rattle.std.specs.Prelude.{MatchOption, Option, Some, None}
use Rattle.combinatorics.proofs.Basics.{before_or_not, same_or, true_or_false}
use Rattle.grid_points.specs.Grid.{Point, at}
use Rattle.rules.proofs.Masks.{bit_with}
use Rattle.rules.specs.Mask.{bit, with_index}
use Rattle.check_chains.specs.Follow.{GoesRound, HasZero, closed, Added, FollowedFrom, FoundOnBlock}
use Rattle.check_chains.specs.Sets.{bit_number, ClearFrom}

-- the numbers at the indices before h, and then `one`
abbrev pub reached : ℕ → ℕ → ℕ → ℕ → ℕ
reached set one h k = cond (ltb k h) (bit_number set k) one

pub record Following (p z : Point) (first end c old set one h : ℕ) : Type 0 where
  pub low : first ≤ h
  pub high : h ≤ end
  pub small : one ≤ 1
  pub kept : (k : ℕ) → k < first → bit set k ≡ bit old k
  pub clear : ClearFrom h set
  pub below : set < 65536
  pub rule : (k : ℕ) → first ≤ k → k < h → at z k + reached set one h (suc k) ≡ at p k + reached set one h k
  pub begins : reached set one h first ≡ c

pub ones_small : (set k : ℕ) → bit_number set k ≤ 1
ones_small set k = go (bit set k)
  where
    go : (b : Bool) → cond b 1 0 ≤ 1
    go true = omega arith
    go false = omega arith

module _ (set one h k : ℕ) where
  pub reached-before : k < h → reached set one h k ≡ bit_number set k
  reached-before l = rw (lt-ltb k h l)

  pub reached-at : h ≤ k → reached set one h k ≡ one
  reached-at l = rw (le-ltb k h l)

-- the numbers so far are those of each list that begins so
agrees : (p z : Point) (first h : ℕ) (f g : ℕ → ℕ) → f first ≡ g first
    → ((k : ℕ) → first ≤ k → k < h → at z k + f (suc k) ≡ at p k + f k)
    → ((k : ℕ) → first ≤ k → k < h → at z k + g (suc k) ≡ at p k + g k)
    → (k : ℕ) → first ≤ k → k ≤ h → f k ≡ g k
agrees p z first h f g e rf rg k l m = go k l m
  where
    go : (k : ℕ) → first ≤ k → k ≤ h → f k ≡ g k
    go zero l m = let q : first ≡ 0 = omega arith in rw q at e
    go (suc k) l m =
        ⊎_elim (λ (x : first ≤ k). omega (arith, rf k x (omega arith), rg k x (omega arith), go k x (omega arith)))
        (λ (x : suc k ≡ first). rw x e)
        (⊎_elim (λ (x : k < first). inr (omega arith)) (λ (x : first ≤ k). inl x) (before_or_not k first))

-- what is followed so far
module _ {p z : Point} {first end c old : ℕ} where
  pub begin : first ≤ end → c ≤ 1 → ClearFrom first old → old < 65536 → Following p z first end c old old c first
  begin l s clear below = record {
    low = omega arith;
    high = l;
    small = s;
    kept = λ k m. refl;
    clear = clear;
    below = below;
    rule = λ k m n. absurd (omega arith);
    begins = reached-at old c first first (omega arith);
  }

  module _ {set one h : ℕ} (F : Following p z first end c old set one h) where
    -- the number at h is stored, and the next is known
    further : {new next : ℕ} → new < 65536 → h < 16 → h < end → next ≤ 1 → at z h + next ≡ at p h + one
        → ((k : ℕ) → k < 16 → (k ≡ h → ⊥) → bit new k ≡ bit set k) → bit_number new h ≡ one
        → Following p z first end c old new next (h + 1)
    further {new} {next} b lh le s r other here = record {
      low = omega (arith, F.low);
      high = omega arith;
      small = s;
      kept = λ k l. other k (omega (arith, F.low)) (λ e. omega (arith, F.low)) ∙ F.kept k l;
      below = b;
      clear = λ k l m. other k m (λ e. omega arith) ∙ F.clear k (omega arith) m;
      rule = λ k l m. ⊎_elim
          (λ (x : k < h). rw (as_before k (omega arith), as_before (suc k) (omega arith)) (F.rule k l x))
          (λ (x : h ≤ k).
          let e : k ≡ h = omega arith in
          rw e (omega (
            arith,
            as_before h (omega arith),
            reached-at set one h h (omega arith),
            reached-at new next (h + 1) (suc h) (omega arith),
            r,
          )))
          (before_or_not k h);
      begins = as_before first F.low ∙ F.begins;
    }
      where
        as_before : (k : ℕ) → k ≤ h → reached new next (h + 1) k ≡ reached set one h k
        as_before k l = ⊎_elim
            (λ (x : k < h). reached-before new next (h + 1) k (omega arith)
            ∙ ap (λ (b : Bool). cond b 1 0) (other k (omega arith) (λ e. omega arith))
            ∙ sym (reached-before set one h k x))
            (λ (x : h ≤ k).
            let e : k ≡ h = omega arith in
            rw e (reached-before new next (h + 1) h (omega arith) ∙ here ∙ sym (reached-at set one h h (omega arith))))
            (before_or_not k h)

    -- a 1 is added to the set,
    pub further-one : {next : ℕ} → h < 16 → h < end → one ≡ 1 → next ≤ 1 → at z h + next ≡ at p h + one
        → Following p z first end c old (with_index set h) next (h + 1)
    unfolding with_index
    further-one lh le e s r = further (or_lt 16 set (1 * 2 ^ h % 65536) F.below (mod-lt _ (omega arith))) lh le s r
        (λ k l other. bit_with set h k lh l ∙ rw (ne_eqb k h other))
        (rw (bit_with set h h lh lh, eq-eqb h h refl) (sym e))

    -- a 0 is not
    pub further-zero : {next : ℕ} → h < 16 → h < end → one ≡ 0 → next ≤ 1 → at z h + next ≡ at p h + one
        → Following p z first end c old set next (h + 1)
    further-zero lh le e s r =
        further F.below lh le s r (λ k l other. refl) (rw (F.clear h (omega arith) lh) (sym e))

    -- a list that begins so has these numbers
    same_so_far : (f : ℕ → ℕ) → f first ≡ c → GoesRound p z first end f → f h ≡ one
    same_so_far f e G =
        agrees p z first h f (reached set one h) (e ∙ sym F.begins)
        (λ k l m. G.rule k l (omega (arith, F.high)))
        F.rule h F.low (omega arith)
        ∙ reached-at set one h h (omega arith)

    pub next-number : (f : ℕ → ℕ) → f first ≡ c → GoesRound p z first end f → h < end
        → (at z h + f (suc h) ≡ at p h + one) × (f (suc h) ≤ 1)
    next-number f e G l = (
      G.rule h F.low l ∙ ap (λ (n : ℕ). at p h + n) (same_so_far f e G),
      G.small (suc h) (omega (arith, F.low)) (omega arith),
    )

    -- at the end the first number stands again
    pub number-at-end : (f : ℕ → ℕ) → f first ≡ c → GoesRound p z first end f → h ≡ end → one ≡ c
    number-at-end f e G l = sym (same_so_far f e G) ∙ ap f l ∙ G.round ∙ e

    pub all_followed : first < end → h ≡ end → one ≡ c → Added p z first end old set × (bit_number set first ≡ c)
    all_followed l e q =
        let first-is : bit_number set first ≡ c = sym (reached-before set one h first (omega arith)) ∙ F.begins in
        let same : (k : ℕ) → closed first end (bit_number set) k ≡ reached set one h k = λ k. rw (e, first-is, q) in (
          record {
            kept = F.kept;
            clear = rw e at F.clear;
            below = F.below;
            goes = record {
              small = λ k m n. rw (same k) (reached-small k);
              rule = λ k m n. rw (same k, same (suc k)) (F.rule k m (omega arith));
              round = same end ∙ reached-at set one h end (omega arith) ∙ q ∙ sym (same first ∙ F.begins);
            };
          },
          first-is,
        )
      where
        reached-small : (k : ℕ) → reached set one h k ≤ 1
        reached-small k = ⊎_elim
            (λ (x : k < h). rw (lt-ltb k h x) (ones_small set k))
            (λ (x : h ≤ k). rw (le-ltb k h x) F.small)
            (before_or_not k h)

-- a 0 among the numbers of a set, or none
some-zero : (set first n : ℕ)
    → HasZero first (first + n) (bit_number set) ⊎ ((k : ℕ) → first ≤ k → k < first + n → bit_number set k ≡ 1)
some-zero set first zero = inr (λ k l m. absurd (omega arith))
some-zero set first (suc n) =
    ⊎_elim (λ w. inl (w.0, w.1, omega (arith, w.2), w.3))
    (λ w. ⊎_elim
    (λ (t : bit set (first + n) ≡ true). inr (λ k l m.
    ⊎_elim (λ (x : k < first + n). w k l x)
    (λ (x : first + n ≤ k). let e : k ≡ first + n = omega arith in rw (e, t)) (before_or_not k (first + n))))
    (λ (f : bit set (first + n) ≡ false). inl (first + n, omega arith, omega arith, rw f))
    (true_or_false (bit set (first + n))))
    (some-zero set first n)

-- where no list begins with 0, one that begins with 1 has a 0: nothing but 1s may be lowered by 1 throughout
zero-beside : {p z : Point} {first end old set : ℕ} → first < end → Added p z first end old set
    → ((f : ℕ → ℕ) → f first ≡ 0 → GoesRound p z first end f → ⊥) → HasZero first end (bit_number set)
zero-beside {p} {z} {first} {end} {set = set} l A none =
    let e : first + (end - first) ≡ end = omega arith in
    ⊎_elim
    (λ w. rw e at w)
    (λ w. absurd (none (λ k. 0) refl (record {
      small = λ k m n. omega arith;
      rule = λ k m n. omega (
        arith,
        A.goes.rule k m n,
        one-there (rw e at w) k m (omega arith),
        one-there (rw e at w) (suc k) (omega arith) (omega arith),
      );
      round = refl;
    })))
    (some-zero set first (end - first))
  where
    one-there : ((k : ℕ) → first ≤ k → k < end → bit_number set k ≡ 1) → (k : ℕ) → first ≤ k → k ≤ end
        → closed first end (bit_number set) k ≡ 1
    one-there all_one k m n = ⊎_elim
        (λ (x : k < end). rw (lt-ltb k end x) (all_one k m x))
        (λ (x : end ≤ k). rw (le-ltb k end x) (all_one first (omega arith) l))
        (before_or_not k end)

-- a list begins with 0 or with 1
neither : {p z : Point} {first end : ℕ} → first < end → ((f : ℕ → ℕ) → f first ≡ 0 → GoesRound p z first end f → ⊥)
    → ((f : ℕ → ℕ) → f first ≡ 1 → GoesRound p z first end f → ⊥) → (f : ℕ → ℕ) → GoesRound p z first end f → ⊥
neither {first = first} l zero-no one-no f G = ⊎_elim
    (λ e. zero-no f e G)
    (λ n. one-no f (omega (arith, G.small first (omega arith) (omega arith), one_of (f first) n)) G)
    (same_or (f first) 0)
  where
    one_of : (n : ℕ) → (n ≡ 0 → ⊥) → 1 ≤ n
    one_of zero h = absurd (h refl)
    one_of (suc n) h = omega arith

-- what the first search finds, or else the second, is what there is
pub found_either : (p z : Point) (first end old : ℕ) (r s : Option ℕ) → first < end
    → FollowedFrom p z first end 0 old r
    → MatchOption r (FollowedFrom p z first end 1 old s) (λ set. s ≡ Some set)
    → FoundOnBlock p z first end old s
found_either p z first end old (Some set) s l w e =
    rw e (w.0, (first, omega arith, omega arith, w.1))
found_either p z first end old None (Some set) l none w = (w.0, zero-beside l w.0 none)
found_either p z first end old None None l none w = neither l none w
