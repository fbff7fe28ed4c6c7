-- Whatever point leaves, the state goes on through its facet or the facet is an end, and the move keeps within its
-- arrays. Assumes nothing.
use mathlib.Core.Bool.{Bool}
use mathlib.Core.List.{List}
use mathlib.Core.Logic.{⊎_elim}
use mathlib.Core.Path.{◌≡◌}
use Prim.Native.Nat.{ℕ, zero, suc, ◌≤◌, ◌<◌}
use native.Mathlib.Omega.{arith}
use Rattle.geometry.proofs.Orders.{lt_or}
use Rattle.place.specs.Problem.{Problem}
use Rattle.path_laws.proofs.Filled.{FullyLabelled}
use Rattle.rules.specs.Ready.{ReadyLeave}
use Rattle.rules.specs.Moves.{State}
use Rattle.rules.proofs.Describes.{Describes, Leaves}
use Rattle.rules.proofs.LeaveFirst.{leave-first, ready-first}
use Rattle.rules.proofs.LeaveLast.{leave-last, ready-last}
use Rattle.rules.proofs.LeaveMiddle.{leave_middle_lem}
use Rattle.rules.proofs.Range.{few}

pub leaves : {p : Problem} → FullyLabelled p → Leaves p
leaves ok T n o x s zero D L l c = leave-first ok D L c
leaves ok T n o x s (suc e) D L l c = ⊎_elim
    (λ (m : e < n). leave_middle_lem ok D L e m c)
    (λ (m : e ≡ n). rw m (leave-last ok D L (rw m at c)))
    (lt_or e n l)

pub leave-ready : {p : Problem} → FullyLabelled p
    → {T : ℕ → Bool} {n : ℕ} {o : ℕ → ℕ} {x : List (ℕ → ℕ)} {s : State} (i : ℕ) → Describes p T (suc n) o x s
    → i ≤ suc n → ReadyLeave s i
leave-ready ok i D l = record {
  low = omega (arith, D.order_length);
  few = omega (arith, D.order_length, few ok D.chain, ok.has_start.sixteen_indices);
  first = λ e. ready-first ok D;
  last = λ e. ready-last ok D;
}
