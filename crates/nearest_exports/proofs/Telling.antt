-- The numbers of the report tell it. Assumes nothing.
use mathlib.Core.Path.{◌≡◌, refl}
use Rattle.combinatorics.proofs.Basics.{absurd_bool}
use Rattle.finder.proofs.Numbers.{run-numbers_tell}
use Rattle.finder.specs.declared.answers.RunAnswer.{RunAnswer}
use Rattle.nearest.specs.declared.Report.{Report}
use Rattle.nearest_pass.specs.declared.Vertex.{Vertex}
use Rattle.std.specs.Prelude.{None, Option, Some, ℕ}
use Rattle.nearest_exports.specs.Near.{NearNumbersTell, near_facts}

same_vertex : {p q n m : ℕ} → p ≡ q → n ≡ m
    → ◌≡◌ {A = Option Vertex} (Some (record { position = p; listed = n })) (Some (record { position = q; listed = m }))
same_vertex e f = cc

near-tells : (a b : Option Vertex) → near_facts a ≡ near_facts b → a ≡ b
near-tells None None e = refl
near-tells None (Some v) e = absurd_bool (cc)
near-tells (Some v) None e = absurd_bool (cc)
near-tells (Some v) (Some w) e = same_vertex (cc) (cc)

same_report : (x y : RunAnswer) (m n : Option Vertex) → x ≡ y → m ≡ n
    → ◌≡◌ {A = Report} (record { run = x; nearest = m }) (record { run = y; nearest = n })
same_report x y m n e f = cc

pub near-numbers_tell : NearNumbersTell
near-numbers_tell a b e f g =
    same_report a.run b.run a.nearest b.nearest (run-numbers_tell a.run b.run e f)
    (near-tells a.nearest b.nearest g)
