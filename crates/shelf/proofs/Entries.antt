-- The passes over the entries, one entry at a time: sheet k + 1 has the entry at k. Assumes nothing.
use mathlib.Core.Bool.{Bool, true, false, cond}
use mathlib.Core.List.{List}
use mathlib.Core.Logic.{◌⊎◌, ⊎_elim}
use mathlib.Core.Path.{◌≡◌, refl, sym, ◌∙◌}
use Prim.Native.Nat.{ℕ, zero, suc, ◌+◌, ◌≤◌, ◌<◌}
use borrow.Author.Tests.{eq-eqb, le-leb, ne_eqb}
use lib.Dec.{eqb}
use lib.ListN.{get_or, get_or-replicate, length, length-replicate, length-set, replicate, set, take}
use lib.Seq.{get_or-set_other, get_or-set_same, length-take-le}
use native.Mathlib.Numerals.{add-one}
use native.Mathlib.Omega.{arith}
use Rattle.std.proofs.lemmas.List.{get_or-take}
use Rattle.std.specs.Bool.{MatchBool}
use Rattle.std.specs.List.{AllWithin, HoldsAt}
use Rattle.combinatorics.proofs.Basics.{and_both, false_of, same_or}
use Rattle.combinatorics.specs.Lists.{all}
use Rattle.shelf.proofs.Currents.{current-next}
use Rattle.shelf.proofs.Sheets.{Shelf, last-names, none_named, none_replaces_0, replaced, replacer, rightly, shelf_before}
use Rattle.shelf.proofs.Sheets.{shelf_of}
use Rattle.shelf.specs.Shelf.{Replaces, current, is_replaced, is_shelf, names, names_rightly, sheets}

module _ (list : List ℕ) where
  pub found : (count k s : ℕ) → k < count → 1 ≤ s → get_or list k 0 ≡ s → is_replaced list count s ≡ true
  found count k s h l e =
      replaced list count s {k = suc k} (record { numbered = omega arith; filed = h; aSheet = l; named = e })

  pub passed_other : (k s : ℕ) → (get_or list k 0 ≡ s → ⊥) → is_replaced list (k + 1) s ≡ is_replaced list k s
  unfolding is_replaced
  passed_other k s n = rw (add-one k, false_of (names list (suc k) s) (λ e. n (last-names list k s e).named))

  passed_named : (k s : ℕ) → 1 ≤ s → get_or list k 0 ≡ s → is_replaced list (k + 1) s ≡ true
  passed_named k s l e = found (k + 1) k s (omega arith) l e

  -- what an iterator's `any` says of the entries of the sheets filed
  pub any_names : (count s : ℕ) (r : Bool) → count ≤ length list → 1 ≤ s
      → MatchBool r
      ((k : ℕ) × (k < length (take count list)) × HoldsAt (λ x. x ≡ s) (take count list) k)
      (AllWithin (λ x. x ≡ s → ⊥) (take count list) 0 (length (take count list)))
      → r ≡ is_replaced list count s
  any_names count s true room l (k, h, e) =
      let before : k < count = omega (arith, length-take-le _ _ room) in
      sym (found count k s before l (rw (get_or-take count list k 0 before) at (e 0)))
  any_names count s false room l h = sym (none_named list (λ k r. other k r))
    where
      other : (k : ℕ) → Replaces list count k s → ⊥
      other zero r = omega (arith, r.numbered)
      other (suc k) r = h k 0 (omega arith) (omega (arith, length-take-le _ _ room, r.filed))
          (get_or-take count list k 0 (omega (arith, r.filed)) ∙ r.named)

-- the first k sheets name rightly, and the numbers that they name are marked
pub record Checked (list : List ℕ) (k : ℕ) (marks : List Bool) : Type 0 where
  pub right : all (names_rightly list) (sheets k) ≡ true
  pub size : length marks ≡ 1001
  pub marked : (x : ℕ) → 1 ≤ x → x < 1001 → get_or marks x false ≡ is_replaced list k x

module _ (list : List ℕ) where
  pub checked-none : Checked list 0 (replicate 1001 false)
  unfolding is_replaced
  checked-none = record {
    right = refl;
    size = length-replicate 1001 false;
    marked = λ x l h. get_or-replicate 1001 x false false h;
  }

  -- an entry that names itself or a later one
  pub not_earlier : (count k : ℕ) → k < count → k < get_or list k 0 → is_shelf list count ≡ false
  not_earlier count k h l = false_of _ (λ t. absurd (omega (arith, (shelf_of list t).earlier (suc k) (omega arith) h)))

  module _ (k : ℕ) (marks : List Bool) (c : Checked list k marks) where
    -- an entry that names one named before
    pub not_once : (count : ℕ) → k < count → count ≤ 1000 → get_or list k 0 ≤ k → (get_or list k 0 ≡ 0 → ⊥)
        → get_or marks (get_or list k 0) false ≡ true → is_shelf list count ≡ false
    not_once count h m l n e =
        let named = get_or list k 0 in
        let r = replacer list k named (sym (c.marked named (omega (arith, n)) (omega arith)) ∙ e) in
        false_of _
        (λ t. n ((shelf_of list t).once r.0 (suc k) r.1.numbered (omega (arith, r.1.filed)) h r.1.named))

    pub checked_more : k < 1000 → get_or list k 0 ≤ k → (get_or list k 0 ≡ 0) ⊎ (get_or marks (get_or list k 0) false ≡ false)
        → Checked list (k + 1) (set marks (get_or list k 0) true)
    checked_more h l o =
        let named = get_or list k 0 in
        let unnamed : is_replaced list k named ≡ false = ⊎_elim
        (λ (z : named ≡ 0). rw z (none_replaces_0 list k))
        (λ (n : named ≡ 0 → ⊥).
        ⊎_elim (λ z. absurd (n z)) (λ u. sym (c.marked named (omega (arith, n)) (omega arith)) ∙ u) o)
        (same_or named 0) in
        let last = rightly list k (omega arith) unnamed in
        record {
          right = rw (add-one k)
              (and_both (names_rightly list (suc k)) (all (names_rightly list) (sheets k)) last c.right);
          size = length-set marks named true ∙ c.size;
          marked = λ x p i. ⊎_elim
              (λ (e : x ≡ named). rw e
              (get_or-set_same marks named true false (omega (arith, c.size))
              ∙ sym (passed_named list k named (omega arith) refl)))
              (λ (n : x ≡ named → ⊥). get_or-set_other marks named x true false n
              ∙ (c.marked x p i ∙ sym (passed_other list k x (λ e. n (sym e)))))
              (same_or x named);
        }

    pub checked-all : k ≤ 1000 → k ≤ length list → is_shelf list k ≡ true
    unfolding is_shelf
    checked-all h l = rw (le-leb k 1000 h, le-leb k (length list) l) c.right

  module _ {count : ℕ} (f : Shelf list count) (k s : ℕ) (p : 1 ≤ s) (l : s ≤ k) (h : k < count) where
    next : current list (k + 1) s ≡ cond (eqb (get_or list k 0) (current list k s)) (suc k) (current list k s)
    next = rw (add-one k)
        (current-next (shelf_before list f k (omega arith)) (shelf_before list f (suc k) h) (λ j i m. refl) p l)

    pub goes_on : get_or list k 0 ≡ current list k s → current list (k + 1) s ≡ k + 1
    goes_on e = next ∙ rw (eq-eqb _ _ e) (sym (add-one k))

    pub stays : (get_or list k 0 ≡ current list k s → ⊥) → current list (k + 1) s ≡ current list k s
    stays n = next ∙ rw (ne_eqb _ _ n)
