-- The current one: on every shelf that question 21 lets pass it exists, is one, is named by none and is reached. Two
-- sheets have the same current one exactly if one of them is reached from the other. Assumes nothing.
use mathlib.Core.Bool.{true, false, cond}
use mathlib.Core.List.{List}
use mathlib.Core.Logic.{◌⊎◌, inl, inr, ⊎_elim}
use mathlib.Core.Path.{◌≡◌, refl, sym, ap, ◌∙◌, subst}
use Prim.Native.Nat.{ℕ, zero, suc, ◌+◌, ◌≤◌}
use borrow.Author.Tests.{eqb-false, eqb-true}
use lib.Dec.{eqb}
use native.Mathlib.Omega.{arith}
use Rattle.combinatorics.proofs.Basics.{absurd_bool, same_or, true_or_false}
use Rattle.shelf.proofs.Sheets.{Shelf, filed-later, last-names, later, none_named, none-names, one_replaces}
use Rattle.shelf.specs.Shelf.{IsCurrent, Reached, Replaces, current, entry, go_to_replacement, here, is_replaced}
use Rattle.shelf.specs.Shelf.{names, onward}
use Rattle.shelf.specs.Shelf.{replacement}

module _ (list : List ℕ) where
  replacement-none : (count s : ℕ) → is_replaced list count s ≡ false → replacement list count s ≡ s
  unfolding replacement is_replaced
  replacement-none zero s e = refl
  replacement-none (suc c) s e =
      ⊎_elim (λ (t : names list (suc c) s ≡ true). absurd_bool (rw t at e))
      (λ (t : names list (suc c) s ≡ false). rw t (replacement-none c s (rw t at e)))
      (true_or_false (names list (suc c) s))

  replacement-is : (count s : ℕ) → is_replaced list count s ≡ true → Replaces list count (replacement list count s) s
  unfolding replacement is_replaced
  replacement-is zero s e = absurd_bool (sym e)
  replacement-is (suc c) s e =
      ⊎_elim (λ (t : names list (suc c) s ≡ true). rw t (last-names list c s t))
      (λ (t : names list (suc c) s ≡ false). rw t (filed-later list (replacement-is c s (rw t at e))))
      (true_or_false (names list (suc c) s))

  module _ (count : ℕ) where
    goes-nowhere : (n s : ℕ) → is_replaced list count s ≡ false → go_to_replacement n list count s ≡ s
    unfolding go_to_replacement
    goes-nowhere zero s e = refl
    goes-nowhere (suc n) s e = rw (replacement-none count s e) (goes-nowhere n s e)

    goes : (n s : ℕ) → Reached list count s (go_to_replacement n list count s)
    unfolding go_to_replacement
    goes zero s = here
    goes (suc n) s = ⊎_elim
        (λ (t : is_replaced list count s ≡ true).
        onward (replacement list count s) (replacement-is count s t) (goes n (replacement list count s)))
        (λ (t : is_replaced list count s ≡ false). rw (replacement-none count s t) (goes n s))
        (true_or_false (is_replaced list count s))

    ends : Shelf list count → (n s : ℕ) → count ≤ s + n → is_replaced list count (go_to_replacement n list count s) ≡ false
    unfolding go_to_replacement
    ends f zero s h = none_named list (λ k r. absurd (omega (arith, later list f r, r.filed)))
    ends f (suc n) s h = ⊎_elim
        (λ (t : is_replaced list count s ≡ true).
        ends f n (replacement list count s) (omega (arith, later list f (replacement-is count s t))))
        (λ (t : is_replaced list count s ≡ false). rw (replacement-none count s t, goes-nowhere n s t) t)
        (true_or_false (is_replaced list count s))

  module _ {count : ℕ} (f : Shelf list count) where
    pub is-current : (s : ℕ) → IsCurrent list count s (current list count s)
    unfolding current
    is-current s = record { reached = goes count count s; unnamed = ends count f count s (omega arith) }

    -- what is reached is no earlier, and on the shelf
    pub reached-later : {s t : ℕ} → Reached list count s t → s ≤ t
    reached-later here = omega arith
    reached-later (onward k r g) = omega (arith, later list f r, reached-later g)

    pub reached-filed : {s t : ℕ} → s ≤ count → Reached list count s t → t ≤ count
    reached-filed h here = h
    reached-filed h (onward k r g) = reached-filed r.filed g

    only_one : {s t u : ℕ} → Reached list count s t → is_replaced list count t ≡ false → Reached list count s u
        → is_replaced list count u ≡ false → t ≡ u
    only_one here a here b = refl
    only_one here a (onward k r g) b = absurd (none-names list a r)
    only_one (onward k r g) a here b = absurd (none-names list b r)
    only_one {s} {t} {u} (onward j q h) a (onward k r g) b =
        let e : k ≡ j = one_replaces list f r q in only_one h a (subst (λ i. Reached list count i u) e g) b

    pub only-current : {s t : ℕ} → IsCurrent list count s t → current list count s ≡ t
    only-current {s} c = let d = is-current s in only_one d.reached d.unnamed c.reached c.unnamed

    pub reached_through : {s t u : ℕ} → Reached list count s t → Reached list count t u → Reached list count s u
    reached_through here g = g
    reached_through (onward k r h) g = onward k r (reached_through h g)

    pub reached-same : {s t : ℕ} → Reached list count s t → current list count s ≡ current list count t
    reached-same {s} {t} g =
        let d = is-current t in only-current (record { reached = reached_through g d.reached; unnamed = d.unnamed })

    -- the way to a sheet other than the first one goes over the sheet that it names
    way_back : {s t : ℕ} → Reached list count s t → (s ≡ t) ⊎ Reached list count s (entry list t)
    way_back here = inl refl
    way_back {s} {t} (onward k r g) =
        ⊎_elim (λ (e : k ≡ t). inr (subst (λ i. Reached list count s i) (sym r.named ∙ ap (entry list) e) here))
        (λ h. inr (onward k r h))
        (way_back g)

    one_line : {s t u : ℕ} → Reached list count s u → Reached list count t u
        → Reached list count s t ⊎ Reached list count t s
    one_line here g = inr g
    one_line {s} {t} {u} (onward k r h) g =
        ⊎_elim (λ w. inl (onward k r w))
        (λ w.
        ⊎_elim (λ (e : t ≡ k). inl (subst (λ i. Reached list count s i) (sym e) (onward k r here)))
        (λ b. inr (subst (λ i. Reached list count t i) r.named b))
        (way_back w))
        (one_line h g)

    pub same-reached : {s t : ℕ} → current list count s ≡ current list count t
        → Reached list count s t ⊎ Reached list count t s
    same-reached {s} {t} e =
        one_line (is-current s).reached (subst (λ i. Reached list count t i) (sym e) (is-current t).reached)

    -- a sheet that was filed last is its own current one
    pub last-is-current : current list count count ≡ count
    last-is-current = only-current
        (record { reached = here; unnamed = none_named list (λ k r. absurd (omega (arith, later list f r, r.filed))) })

-- the first sheets of two lists have the same entries
abbrev Same : List ℕ → List ℕ → ℕ → Type 0
Same list after count = (k : ℕ) → 1 ≤ k → k ≤ count → entry list k ≡ entry after k

module _ {list after : List ℕ} {count more : ℕ} (same : Same list after count) (h : count ≤ more) where
  -- what is reached stays reached while sheets are filed behind
  pub reached-still : {s t : ℕ} → Reached list count s t → Reached after more s t
  reached-still here = here
  reached-still (onward k r g) = onward k
      (record {
        numbered = r.numbered;
        filed = omega (arith, r.filed);
        aSheet = r.aSheet;
        named = sym (same k r.numbered r.filed) ∙ r.named;
      })
      (reached-still g)

module _ {list after : List ℕ} {count : ℕ} (f : Shelf list count) (f' : Shelf after (suc count))
    (same : Same list after count) where
  -- one sheet more: it is the current one of those whose current one it names, and the others keep theirs
  pub current-next : {s : ℕ} → 1 ≤ s → s ≤ count
      → current after (suc count) s
      ≡ cond (eqb (entry after (suc count)) (current list count s)) (suc count) (current list count s)
  current-next {s} p h =
      let t = current list count s in
      let d = is-current list f s in
      let g : Reached after (suc count) s t = reached-still same (omega arith) d.reached in
      ⊎_elim
      (λ (e : eqb (entry after (suc count)) t ≡ true).
      let r : Replaces after (suc count) (suc count) t = record {
        numbered = omega arith;
        filed = omega arith;
        aSheet = omega (arith, reached-later list f d.reached);
        named = eqb-true _ _ e;
      } in
      rw e (only-current after f' (record {
        reached = reached_through after f' g (onward (suc count) r here);
        unnamed = none_named after (λ k q. absurd (omega (arith, later after f' q, q.filed)));
      })))
      (λ (e : eqb (entry after (suc count)) t ≡ false).
      let kept : (k : ℕ) → Replaces after (suc count) k t → ⊥ = (λ k q. ⊎_elim
      (λ (l : k ≡ suc count). eqb-false _ _ e (ap (entry after) (sym l) ∙ q.named))
      (λ (l : k ≡ suc count → ⊥).
      let m : k ≤ count = omega (arith, l, q.filed) in
      none-names list d.unnamed
      (record { numbered = q.numbered; filed = m; aSheet = q.aSheet; named = same k q.numbered m ∙ q.named }))
      (same_or k (suc count))) in
      rw e (only-current after f' (record { reached = g; unnamed = none_named after kept })))
      (true_or_false (eqb (entry after (suc count)) t))
