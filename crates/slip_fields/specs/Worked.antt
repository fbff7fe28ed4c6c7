-- Slips with what document 01 says of them: its sample slip, its fifth worked end, a loss table of request 01, and for
-- each pair of questions whose order is easily mistaken a slip that both refuse. The numbers are those of the papers,
-- of the stored cases and of the independent implementation in Rust. Assumes nothing.
use Rattle.std.specs.Prelude.{cond, List, [], ◌∷◌, ℕ, eqb, replicate}
use Rattle.grid_points.specs.Grid.{Point}
use Rattle.slip_fields.specs.Slip.{stands, slip_start, slip_budget, label_field, slip_losses, slip_refusal}

-- the number of the first question answered no, or else the start, the budget, and the labels or losses
pub data Result : Type 0 where
  refused : ℕ → Result
  accepted : Point → ℕ → List ℕ → Result

pub record Row : Type 0 where
  pub slip : List ℕ
  pub result : Result

abbrev pub row : List ℕ → Result → Row
row slip result = record { slip = slip; result = result }

-- what the definitions give for the row's bytes
abbrev pub given : Row → Result
given r =
    let slip = r.slip in
    cond (eqb (slip_refusal slip) 0)
    (accepted (slip_start slip) (slip_budget slip) (cond (stands slip 2) (label_field slip) (slip_losses slip)))
    (refused (slip_refusal slip))

abbrev pub table : List Row
table =
    -- "For the bytes 4 2 2 2 1 0 1 0 2 2 2 4", with bound 68
    row (4 ∷ 2 ∷ 2 ∷ 2 ∷ 1 ∷ 0 ∷ 1 ∷ 0 ∷ 2 ∷ 2 ∷ 2 ∷ 4 ∷ [])
    (accepted (1 ∷ 0 ∷ 1 ∷ 0 ∷ []) 68 (2 ∷ 2 ∷ 2 ∷ 4 ∷ []))
    -- "2; 4; 2 2; all 1" with "budget 2"
    ∷ row (7 ∷ 1 ∷ 2 ∷ 4 ∷ 0 ∷ 2 ∷ 0 ∷ 2 ∷ 0 ∷ 2 ∷ 0 ∷ 0 ∷ 0 ∷ 0 ∷ 0 ∷ 0 ∷ 0 ∷ 1 ∷ 1 ∷ 1 ∷ 1 ∷ 1 ∷ [])
    (accepted (2 ∷ 2 ∷ []) 2 (replicate 5 1))
    -- losses of 16 bits
    ∷ row (16 ∷ 1 ∷ 2 ∷ 3 ∷ 0 ∷ 232 ∷ 3 ∷ 1 ∷ 0 ∷ []) (accepted (3 ∷ 0 ∷ []) 12 (1000 ∷ 1 ∷ []))
    -- losses other than those of the built-in game with these sizes
    ∷ row (16 ∷ 3 ∷ 2 ∷ 2 ∷ 2 ∷ 1 ∷ 0 ∷ 1 ∷ 0 ∷ 1 ∷ 0
    ∷ 1 ∷ 0 ∷ 2 ∷ 0 ∷ 3 ∷ 0 ∷ 4 ∷ 0 ∷ 5 ∷ 0 ∷ 6 ∷ 0 ∷ 7 ∷ 0 ∷ 8 ∷ 0
    ∷ 9 ∷ 0 ∷ 10 ∷ 0 ∷ 11 ∷ 0 ∷ 12 ∷ 0 ∷ 13 ∷ 0 ∷ 14 ∷ 0 ∷ 15 ∷ 0 ∷ 16 ∷ 0
    ∷ 17 ∷ 0 ∷ 18 ∷ 0 ∷ 19 ∷ 0 ∷ 20 ∷ 0 ∷ 21 ∷ 0 ∷ 22 ∷ 0 ∷ 23 ∷ 0 ∷ 24 ∷ 0 ∷ [])
    (accepted (1 ∷ 0 ∷ 1 ∷ 0 ∷ 1 ∷ 0 ∷ []) 1256
    (1 ∷ 2 ∷ 3 ∷ 4 ∷ 5 ∷ 6 ∷ 7 ∷ 8 ∷ 9 ∷ 10 ∷ 11 ∷ 12 ∷ 13 ∷ 14 ∷ 15 ∷ 16 ∷ 17 ∷ 18 ∷ 19 ∷ 20 ∷ 21 ∷ 22 ∷ 23 ∷ 24 ∷ []))
    -- bits 2, 3 and 4 stand, and N is 0: 13 before 1
    ∷ row (28 ∷ 0 ∷ []) (refused 13)
    ∷ row (4 ∷ 0 ∷ []) (refused 1)
    -- the sample slip with a byte left over
    ∷ row (4 ∷ 2 ∷ 2 ∷ 2 ∷ 1 ∷ 0 ∷ 1 ∷ 0 ∷ 2 ∷ 2 ∷ 2 ∷ 4 ∷ 0 ∷ []) (refused 14)
    -- game 4 with a byte left over: 14 before 15
    ∷ row (8 ∷ 3 ∷ 2 ∷ 2 ∷ 2 ∷ 1 ∷ 0 ∷ 1 ∷ 0 ∷ 1 ∷ 0 ∷ 4 ∷ 0 ∷ []) (refused 14)
    -- game 3 with the sizes of game 1, and a start that adds up to too much: 15 before 5
    ∷ row (9 ∷ 3 ∷ 2 ∷ 2 ∷ 2 ∷ 1 ∷ 0 ∷ 1 ∷ 0 ∷ 1 ∷ 0 ∷ 9 ∷ 0 ∷ 9 ∷ 0 ∷ 9 ∷ 0 ∷ 9 ∷ 0 ∷ 9 ∷ 0 ∷ 9 ∷ 0 ∷ 3 ∷ [])
    (refused 15)
    -- a loss of 0, and a start that adds up to too much: 11 before 5
    ∷ row (17 ∷ 1 ∷ 2 ∷ 3 ∷ 0 ∷ 3 ∷ 0 ∷ 3 ∷ 0 ∷ 0 ∷ 0 ∷ 1 ∷ 0 ∷ []) (refused 11)
    -- a start that adds up to 0, and labels above m: 5 before 7
    ∷ row (5 ∷ 1 ∷ 2 ∷ 1 ∷ 0 ∷ 0 ∷ 0 ∷ 0 ∷ 0 ∷ 3 ∷ 3 ∷ []) (refused 5)
    -- the sample slip with the label m + 1
    ∷ row (4 ∷ 2 ∷ 2 ∷ 2 ∷ 1 ∷ 0 ∷ 1 ∷ 0 ∷ 2 ∷ 2 ∷ 5 ∷ 4 ∷ []) (refused 7)
    ∷ []
