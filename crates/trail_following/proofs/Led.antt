-- Where records have led so far, and how many of them brought a point in. Assumes nothing.
use mathlib.Core.List.{List}
use mathlib.Core.Option.{some}
use mathlib.Core.Path.{◌≡◌, sym, ap, ◌∙◌}
use Prim.Native.Nat.{ℕ, suc, ◌+◌, ◌%◌, ◌≤◌}
use lib.ListN.{get_or}
use native.Mathlib.Omega.{arith}
use Rattle.place.specs.LabelsRead.{came_in}
use Rattle.place.specs.Places.{Simplex}
use Rattle.place.specs.Problem.{Problem}
use Rattle.path_laws.proofs.LabelsRead.{came_few, came_none}
use Rattle.trail.proofs.LabelsRead.{came_on}
use Rattle.trail.specs.Trail.{places_from, rebuilt_from}

-- k of the records have led from the place a to the place b, before the rest of the bytes
pub record Led (p : Problem) (a : Simplex) (bytes : List ℕ) (number k came : ℕ) (b : Simplex) (rest : List ℕ)
    : Type 0 where
  pub on : (n : ℕ) → rebuilt_from p (k + n) a bytes ≡ rebuilt_from p n b rest
  pub brought : came ≡ came_in (places_from p number a bytes) k

module _ (p : Problem) (a : Simplex) (bytes : List ℕ) (number : ℕ) where
  pub led_none : Led p a bytes number 0 0 a bytes
  led_none = record {
    on = λ n. let z : 0 + n ≡ n = omega arith in ap (λ (k : ℕ). rebuilt_from p k a bytes) z;
    brought = sym (came_none (places_from p number a bytes));
  }

  module _ {k came : ℕ} {b : Simplex} {rest : List ℕ} (L : Led p a bytes number k came b rest) where
    pub led_few : came ≤ k
    led_few = omega (arith, L.brought, came_few (places_from p number a bytes) k)

    -- all of them
    pub led_all : (left : ℕ) → k + left ≡ number → rebuilt_from p number a bytes ≡ rebuilt_from p left b rest
    led_all left e = ap (λ (n : ℕ). rebuilt_from p n a bytes) (sym e) ∙ L.on left

    -- one more
    pub led_on : suc k ≤ number → (c : Simplex) (later : List ℕ)
        → ((n : ℕ) → rebuilt_from p (suc n) b rest ≡ rebuilt_from p n c later) → {next total bit : ℕ} → next ≡ suc k
        → bit ≡ get_or rest 0 0 % 2 → total ≡ came + bit
        → Led p a bytes number next total c later
    led_on l c later step e f g =
        let here : k + 0 ≡ k = omega arith in
        let there : k + 1 ≡ suc k = omega arith in
        let at_b : rebuilt_from p k a bytes ≡ some b = ap (λ (n : ℕ). rebuilt_from p n a bytes) (sym here) ∙ L.on 0 in
        let at_c : rebuilt_from p (suc k) a bytes ≡ some c =
        ap (λ (n : ℕ). rebuilt_from p n a bytes) (sym there) ∙ L.on 1 ∙ step 0 in
        rw (e, g, f) (record {
          on = λ n.
              let z : suc k + n ≡ k + suc n = omega arith in
              ap (λ (m : ℕ). rebuilt_from p m a bytes) z ∙ L.on (suc n) ∙ step n;
          brought = ap (λ (x : ℕ). x + get_or rest 0 0 % 2) L.brought
              ∙ sym (came_on p number a bytes k b c rest l at_b at_c (step 0));
        })
