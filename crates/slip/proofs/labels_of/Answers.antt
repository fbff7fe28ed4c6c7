-- `slip::labels_of` meets its contract: the part, or nothing where the reading has no labels. Assumes nothing.
use native.Mathlib.Omega.{arith}
use mathlib.Core.List.{List, []}
use mathlib.Core.Logic.{⊎_elim}
use mathlib.Core.Path.{◌≡◌, refl, sym, ap, ◌∙◌}
use Prim.Native.Nat.{ℕ, ◌-◌}
use lib.ListN.{length, drop, length-drop, drop_of_length-le}
use lib.Seq.{take_all}
use Rattle.slip.proofs.Tables.{not_labels}
use Rattle.slip.specs.Reading.{labels_in}
use Rattle.std.proofs.Common.{Bor, Option, Some, None}
use Rattle.std.specs.List.{PartBy}
use Rattle.std.specs.Option.{unwrap_or}
use Rattle.slip.proofs.labels_of.Goals as goal

-- the part from an index on, or nothing where the slip ends before
part : (slip : List ℕ) (begin : ℕ) (found : Option (Bor (List ℕ))) (none : Bor (List ℕ)) → none.now ≡ []
    → PartBy (λ (x : Bor (List ℕ)). x.now) slip begin (length slip) found
    → (unwrap_or found none).now ≡ drop begin slip
part slip begin None none e h =
    ⊎_elim (λ l. e ∙ sym (drop_of_length-le slip {i = begin} (omega arith))) (λ l. absurd (omega arith)) h.0
part slip begin (Some x) none e h =
    h.0.2 ∙ take_all (length slip - begin) (drop begin slip) (omega (arith, length-drop begin slip))

pub returns-in_default : goal.returns-in_default
returns-in_default c = sym (not_labels c.args.slip.now c.args.reading.table
    c.in_default.not-LabelsFrom)

pub returns : goal.returns
unfolding labels_in
returns c =
    rw c.in-LabelsFrom.is (ap (λ x. x.now) c.unwrap_or.ensures
    ∙ part c.args.slip.now c.in-LabelsFrom.begin c.get.result _ refl c.get.ensures.lookup)
