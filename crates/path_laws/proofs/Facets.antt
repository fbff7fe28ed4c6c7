-- The sets with one point left out are the place less its point i, for each i. Assumes nothing.
use mathlib.Core.Bool.{true}
use mathlib.Core.List.{[], ◌∷◌, map}
use mathlib.Core.Logic.{⊎_elim}
use mathlib.Core.Path.{◌≡◌, sym, ap, ◌∙◌}
use Prim.Native.Nat.{ℕ, zero, suc, ◌<◌}
use lib.ListN.{length}
use native.Mathlib.Omega.{arith}
use Rattle.combinatorics.proofs.Basics.{absurd_bool}
use Rattle.combinatorics.proofs.Lists.{in_here, in_later, in_cases, in_map, map_in}
use Rattle.combinatorics.specs.Edits.{remove_at}
use Rattle.combinatorics.specs.Lists.{is_in, one_less}
use Rattle.place.specs.Path.{same_simplex}
use Rattle.place.specs.Places.{Simplex}
use Rattle.path_laws.proofs.Simplices.{on_simplices}

pub one_less-at : (s f : Simplex) → is_in same_simplex f (one_less s) ≡ true → (i : ℕ) × (i < length s) × (f ≡ remove_at i s)
one_less-at [] f m = absurd_bool (sym m)
one_less-at (x ∷ s) f m =
    ⊎_elim (λ e. (0, omega arith, e))
    (λ n. let k = map_in on_simplices on_simplices (λ l. x ∷ l) f (one_less s) n in let i = one_less-at s k.0 k.1 in
    (suc i.0, omega (arith, i.1), k.2 ∙ ap (λ l. x ∷ l) i.2))
    (in_cases on_simplices f s (map (λ l. x ∷ l) (one_less s)) m)

pub at-one_less : (s : Simplex) (i : ℕ) → i < length s → is_in same_simplex (remove_at i s) (one_less s) ≡ true
at-one_less [] i c = absurd (omega arith)
at-one_less (x ∷ s) zero c = in_here on_simplices s (map (λ l. x ∷ l) (one_less s))
at-one_less (x ∷ s) (suc i) c =
    in_later on_simplices (x ∷ remove_at i s) s (map (λ l. x ∷ l) (one_less s))
    (in_map on_simplices on_simplices (λ l. x ∷ l) (remove_at i s) (one_less s) (at-one_less s i (omega arith)))
