-- The first largest of some integers, found by going through them in order. Assumes nothing.
use mathlib.Core.Bool.{Bool, true, false, not}
use mathlib.Core.Logic.{⊎_elim}
use mathlib.Core.Path.{◌≡◌, refl, sym, ap, ◌∙◌, subst}
use Prim.Native.Nat.{ℕ, zero, suc, ◌+◌, ◌≤◌, ◌<◌}
use borrow.Author.Tests.{ltb-true, ltb-false, lt-ltb, le-ltb}
use lib.IntN.{ℤ, pos, negsuc}
use lib.Signed.{lt_z}
use native.Mathlib.Omega.{arith}
use Rattle.combinatorics.proofs.Agreement.{filter-agree, all-agree}
use Rattle.combinatorics.proofs.Basics.{absurd_bool, false_of, same_or}
use Rattle.combinatorics.proofs.Lists.{all_in, in_all, on_numbers}
use Rattle.combinatorics.proofs.Ranges.{in_up_from, up_from_in}
use Rattle.combinatorics.specs.Lists.{all, filter, first_or, up_from}
use Rattle.game_losses.specs.Game.{first_largest}

less_after : (a b c : ℤ) → lt_z b a ≡ false → lt_z b c ≡ true → lt_z a c ≡ true
less_after (pos a) (pos b) (pos c) f t = lt-ltb a c (omega (arith, ltb-false b a f, ltb-true b c t))
less_after (pos a) (pos b) (negsuc c) f t = t
less_after (pos a) (negsuc b) c f t = absurd_bool f
less_after (negsuc a) b (pos c) f t = refl
less_after (negsuc a) (pos b) (negsuc c) f t = absurd_bool (sym t)
less_after (negsuc a) (negsuc b) (negsuc c) f t = lt-ltb c a (omega (arith, ltb-false a b f, ltb-true c b t))

less_once : (a b : ℤ) → lt_z a b ≡ true → lt_z b a ≡ false
less_once (pos a) (pos b) t = le-ltb b a (omega (arith, ltb-true a b t))
less_once (pos a) (negsuc b) t = absurd_bool (sym t)
less_once (negsuc a) (pos b) t = refl
less_once (negsuc a) (negsuc b) t = le-ltb a b (omega (arith, ltb-true b a t))

less_self : (a : ℤ) → lt_z a a ≡ false
less_self (pos a) = le-ltb a a (omega arith)
less_self (negsuc a) = le-ltb a a (omega arith)

-- the first largest of the values below i is most, at best
pub record Leads (value : ℕ → ℤ) (best : ℕ) (most : ℤ) (i : ℕ) : Type 0 where
  pub inside : best < i
  pub is : most ≡ value best
  pub none : (k : ℕ) → k < i → lt_z (value best) (value k) ≡ false
  pub first : (k : ℕ) → k < best → lt_z (value k) (value best) ≡ true

module _ (value : ℕ → ℤ) where
  pub leads_start : (most : ℤ) → most ≡ value 0 → Leads value 0 most 1
  leads_start most e = record {
    inside = omega arith;
    is = e;
    none = λ k h. let z : k ≡ 0 = omega arith in rw z (less_self (value 0));
    first = λ k h. absurd (omega arith);
  }

  module _ (best : ℕ) (most next : ℤ) (i : ℕ) (l : Leads value best most i) (e : next ≡ value i) where
    pub leads_taken : lt_z most next ≡ true → Leads value i next (i + 1)
    leads_taken t =
        let t' : lt_z (value best) (value i) ≡ true = rw (l.is, e) at t in
        record {
          inside = omega arith;
          is = e;
          none = λ k h. ⊎_elim
              (λ s. rw s (less_self (value i)))
              (λ n.
              less_once (value k) (value i) (less_after (value k) (value best) (value i) (l.none k (omega arith)) t'))
              (same_or k i);
          first = λ k h. less_after (value k) (value best) (value i) (l.none k h) t';
        }

    pub leads_kept : lt_z most next ≡ false → Leads value best most (i + 1)
    leads_kept f = record {
      inside = omega (arith, l.inside);
      is = l.is;
      none = λ k h. ⊎_elim (λ s. rw s (rw (l.is, e) at f)) (λ n. l.none k (omega arith)) (same_or k i);
      first = l.first;
    }

  first_of : (q : ℕ → Bool) (from n best : ℕ) → from ≤ best → best < from + n → q best ≡ true
      → ((k : ℕ) → k < best → q k ≡ false)
      → first_or 0 (filter q (up_from from n)) ≡ best
  first_of q from zero best a b t f = absurd (omega arith)
  first_of q from (suc n) best a b t f = ⊎_elim
      (λ e. let u : q from ≡ true = subst (λ (x : ℕ). q x ≡ true) (sym e) t in rw u e)
      (λ d. rw (f from (omega arith)) (first_of q (suc from) n best (omega arith) (omega arith) t f))
      (same_or from best)

  pub leads_end : (best : ℕ) (most : ℤ) (n : ℕ) → Leads value best most n → first_largest value (up_from 0 n) ≡ best
  leads_end best most n l = first_of
      (λ h. all (λ k. not (lt_z (value h) (value k))) (up_from 0 n))
      0 n best (omega arith) (omega (arith, l.inside))
      (in_all on_numbers _ (up_from 0 n) (λ k m. ap not (l.none k (omega (arith, (up_from_in 0 n k m).1)))))
      (λ k h. false_of _
      (λ a. absurd_bool
      (sym (all_in on_numbers (λ j. not (lt_z (value k) (value j))) (up_from 0 n) a best
      (in_up_from 0 n best (omega arith) (omega (arith, l.inside))))
      ∙ ap not (l.first k h))))

-- values that agree have the same first largest
pub largest_agree : (value other : ℕ → ℤ) (n : ℕ) → ((k : ℕ) → k < n → value k ≡ other k)
    → first_largest value (up_from 0 n) ≡ first_largest other (up_from 0 n)
largest_agree value other n h = ap (first_or 0) (filter-agree _ _ 0 n (λ k l.
    let z : 0 + k ≡ k = omega arith in
    rw z (all-agree
    (λ i. not (lt_z (value k) (value i)))
    (λ i. not (lt_z (other k) (other i)))
    0 n
    (λ i m. let y : 0 + i ≡ i = omega arith in rw (y, h k l, h i m)))))
