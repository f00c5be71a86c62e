-- What is sent for a deposit's amounts, as one list of tests.
-- Assumes nothing.
use mathlib.Core.Path.{◌≡◌, refl}
use mathlib.Core.Bool.{false}
use mathlib.Core.List.{[], ◌∷◌}
use Prim.Native.Nat.{ℕ}
use Rattle.std.specs.Prelude.{Ok, Err}
use Rattle.refusal.specs.Refusal.{transfer_fee_calculate_not_match}
use Rattle.refusal.specs.Tests.{past, ◌then◌, outcome}
use Rattle.charge.specs.declared.Charges.{Charges}
use Rattle.charge.specs.Charge.{least_sent}
use Rattle.charge.specs.Transfers.{both_transferred}
use Rattle.charge.proofs.FarEnds.{accepted_ends}

pub sent_for :
    (c : Charges) (amount0 amount1 : ℕ)
    → both_transferred false c amount0 amount1
    ≡ outcome
    ((past (least_sent c.token0 amount0), transfer_fee_calculate_not_match)
    ∷ (past (least_sent c.token1 amount1), transfer_fee_calculate_not_match)
    ∷ [])
    (λ n. Err n) (Ok (accepted_ends false c amount0 amount1))
unfolding both_transferred ◌then◌
sent_for c amount0 amount1 = refl
