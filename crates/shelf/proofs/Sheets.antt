-- What question 21 and "already replaced" say, sheet by sheet. On a shelf that 21 lets pass, a sheet is named by at
-- most one, and that one is later. Assumes nothing.
use mathlib.Core.Bool.{Bool, true, false, not, ◌&&◌}
use mathlib.Core.List.{List}
use mathlib.Core.Logic.{⊎_elim}
use mathlib.Core.Path.{◌≡◌, refl, sym, ap, ◌∙◌}
use Prim.Native.Nat.{ℕ, zero, suc, ◌≤◌, ◌<◌}
use borrow.Author.Tests.{eqb-true, eq-eqb, leb-true, le-leb, ltb-true, lt-ltb, not-true}
use lib.Dec.{leb, ltb}
use lib.ListN.{length}
use native.Mathlib.Omega.{arith}
use Rattle.combinatorics.proofs.Basics.{absurd_bool, and_both, and_left, and_right, before_or_not, false_of}
use Rattle.combinatorics.proofs.Basics.{or_cases, or_left, or_right, same_or}
use Rattle.combinatorics.specs.Lists.{all}
use Rattle.shelf.specs.Shelf.{Replaces, entry, is_replaced, is_shelf, names, names_rightly, sheets}

all-sheets : (q : ℕ → Bool) (count : ℕ) → all q (sheets count) ≡ true → (k : ℕ) → 1 ≤ k → k ≤ count → q k ≡ true
all-sheets q zero a k l h = absurd (omega arith)
all-sheets q (suc c) a k l h =
    ⊎_elim (λ (e : k ≡ suc c). rw e (and_left (q (suc c)) (all q (sheets c)) a))
    (λ (n : k ≡ suc c → ⊥). all-sheets q c (and_right (q (suc c)) (all q (sheets c)) a) k l (omega (arith, n)))
    (same_or k (suc c))

sheets-all : (q : ℕ → Bool) (count : ℕ) → ((k : ℕ) → 1 ≤ k → k ≤ count → q k ≡ true) → all q (sheets count) ≡ true
sheets-all q zero f = refl
sheets-all q (suc c) f = and_both (q (suc c)) (all q (sheets c)) (f (suc c) (omega arith) (omega arith))
    (sheets-all q c (λ k l h. f k l (omega arith)))

module _ (list : List ℕ) where
  names-is : (k s : ℕ) → names list k s ≡ true → (1 ≤ s) × (entry list k ≡ s)
  unfolding names
  names-is k s e = (leb-true 1 s (and_left (leb 1 s) _ e), eqb-true _ s (and_right (leb 1 s) _ e))

  is-named : (k s : ℕ) → 1 ≤ s → entry list k ≡ s → names list k s ≡ true
  unfolding names
  is-named k s l e = and_both (leb 1 s) _ (le-leb 1 s l) (eq-eqb _ s e)

  pub last-names : (c s : ℕ) → names list (suc c) s ≡ true → Replaces list (suc c) (suc c) s
  last-names c s e =
      let n = names-is (suc c) s e in
      record { numbered = omega arith; filed = omega arith; aSheet = n.0; named = n.1 }

  pub filed-later : {c k s : ℕ} → Replaces list c k s → Replaces list (suc c) k s
  filed-later r = record {
    numbered = r.numbered;
    filed = omega (arith, r.filed);
    aSheet = r.aSheet;
    named = r.named;
  }

  pub replacer : (count s : ℕ) → is_replaced list count s ≡ true → (k : ℕ) × Replaces list count k s
  unfolding is_replaced
  replacer zero s e = absurd_bool (sym e)
  replacer (suc c) s e =
      ⊎_elim (λ (h : names list (suc c) s ≡ true). (suc c, last-names c s h))
      (λ h. let r = replacer c s h in (r.0, filed-later r.1))
      (or_cases (names list (suc c) s) (is_replaced list c s) e)

  pub replaced : (count s : ℕ) {k : ℕ} → Replaces list count k s → is_replaced list count s ≡ true
  unfolding is_replaced
  replaced zero s r = absurd (omega arith)
  replaced (suc c) s {k} r = ⊎_elim
      (λ (e : k ≡ suc c). or_left (names list (suc c) s) (is_replaced list c s)
      (is-named (suc c) s r.aSheet (ap (entry list) (sym e) ∙ r.named)))
      (λ (n : k ≡ suc c → ⊥). or_right (names list (suc c) s) (is_replaced list c s)
      (replaced c s {k = k}
      (record { numbered = r.numbered; filed = omega (arith, n, r.filed); aSheet = r.aSheet; named = r.named })))
      (same_or k (suc c))

  pub none-names : {count s k : ℕ} → is_replaced list count s ≡ false → Replaces list count k s → ⊥
  none-names {count} {s} e r = absurd_bool (sym (replaced count s r) ∙ e)

  pub none_named : {count s : ℕ} → ((k : ℕ) → Replaces list count k s → ⊥) → is_replaced list count s ≡ false
  none_named {count} {s} f = false_of (is_replaced list count s) (λ e. let r = replacer count s e in f r.0 r.1)

  -- 0 names none
  pub none_replaces_0 : (count : ℕ) → is_replaced list count 0 ≡ false
  none_replaces_0 count = none_named (λ k r. omega (arith, r.aSheet))

-- the sentences of 21 as facts
pub record Shelf (list : List ℕ) (count : ℕ) : Type 0 where
  pub few : count ≤ 1000
  pub room : count ≤ length list
  pub earlier : (k : ℕ) → 1 ≤ k → k ≤ count → entry list k < k
  pub once : (j k : ℕ) → 1 ≤ j → j < k → k ≤ count → entry list j ≡ entry list k → entry list k ≡ 0

module _ (list : List ℕ) where
  rightly_earlier : (k : ℕ) → names_rightly list k ≡ true → entry list k < k
  unfolding names_rightly
  rightly_earlier zero e = absurd_bool (sym e)
  rightly_earlier (suc b) e = ltb-true _ _ (and_left _ _ e)

  rightly_once : (j k : ℕ) → names_rightly list k ≡ true → 1 ≤ j → j < k → entry list j ≡ entry list k → entry list k ≡ 0
  unfolding names_rightly
  rightly_once j zero e l h s = absurd (omega arith)
  rightly_once j (suc b) e l h s =
      let named = entry list (suc b) in
      let unnamed : is_replaced list b named ≡ false = not-true _ (and_right (ltb named (suc b)) _ e) in
      ⊎_elim
      (λ (z : named ≡ 0). z)
      (λ (n : named ≡ 0 → ⊥). absurd (none-names list {k = j} unnamed
      (record { numbered = l; filed = omega arith; aSheet = omega (arith, n); named = s })))
      (same_or named 0)

  pub rightly : (b : ℕ) → entry list (suc b) < suc b → is_replaced list b (entry list (suc b)) ≡ false
      → names_rightly list (suc b) ≡ true
  unfolding names_rightly
  rightly b h u = and_both _ _ (lt-ltb (entry list (suc b)) (suc b) h) (ap not u)

  pub shelf_of : {count : ℕ} → is_shelf list count ≡ true → Shelf list count
  unfolding is_shelf
  shelf_of {count} e =
      let sound = all (names_rightly list) (sheets count) in
      let rest = and_right (leb count 1000) (leb count (length list) && sound) e in
      let each = all-sheets (names_rightly list) count (and_right (leb count (length list)) sound rest) in
      record {
        few = leb-true count 1000 (and_left (leb count 1000) (leb count (length list) && sound) e);
        room = leb-true count (length list) (and_left (leb count (length list)) sound rest);
        earlier = λ k l h. rightly_earlier k (each k l h);
        once = λ j k l h m. rightly_once j k (each k (omega arith) m) l h;
      }

  right-sheet : {count : ℕ} → Shelf list count → (k : ℕ) → 1 ≤ k → k ≤ count → names_rightly list k ≡ true
  right-sheet f zero l h = absurd (omega arith)
  right-sheet f (suc b) l h = rightly b (f.earlier (suc b) l h)
      (none_named list (λ j r.
      let z = f.once j (suc b) r.numbered (omega (arith, r.filed)) h r.named in
      omega (arith, z, r.aSheet)))

  pub is_shelf_lem : {count : ℕ} → Shelf list count → is_shelf list count ≡ true
  unfolding is_shelf
  is_shelf_lem {count} f = and_both (leb count 1000) _ (le-leb count 1000 f.few)
      (and_both (leb count (length list)) _ (le-leb count (length list) f.room)
      (sheets-all (names_rightly list) count (right-sheet f)))

  -- the sheets filed first are a shelf
  pub shelf_before : {count : ℕ} → Shelf list count → (c : ℕ) → c ≤ count → Shelf list c
  shelf_before f c h = record {
    few = omega (arith, f.few);
    room = omega (arith, f.room);
    earlier = λ k l m. f.earlier k l (omega arith);
    once = λ j k l m n. f.once j k l m (omega arith);
  }

  module _ {count : ℕ} (f : Shelf list count) where
    -- what replaces a sheet is later
    pub later : {s k : ℕ} → Replaces list count k s → s < k
    later {s} {k} r = omega (arith, r.named, f.earlier k r.numbered r.filed)

    -- a sheet is replaced by one at most
    pub one_replaces : {s j k : ℕ} → Replaces list count j s → Replaces list count k s → j ≡ k
    one_replaces {s} {j} {k} r q = ⊎_elim
        (λ (h : j < k). absurd (let z = f.once j k r.numbered h q.filed (r.named ∙ sym q.named) in
        omega (arith, z, q.named, q.aSheet)))
        (λ (h : k ≤ j). ⊎_elim
        (λ (g : k < j). absurd (let z = f.once k j q.numbered g r.filed (q.named ∙ sym r.named) in
        omega (arith, z, r.named, r.aSheet)))
        (λ (g : j ≤ k). omega arith)
        (before_or_not k j))
        (before_or_not j k)
