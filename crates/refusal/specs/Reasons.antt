-- A refusal's number (document 01, 'What a refused call gives').
use Rattle.std.specs.Prelude.{ℕ, cond, eqb}
use Rattle.refusal.specs.declared.Reason.{Reason}
use Rattle.refusal.specs.declared.Reason.TheVariants as R
use Rattle.refusal.specs.Refusal.{not_approved, exceeded_slippage, invalid_input, zero_trading_tokens, invalid_vault, empty_supply, insufficient_vault, math_overflow, invalid_fee_model, require_violated, panicked, unreadable_row, init_lp_amount_too_less, transfer_fee_calculate_not_match, left_lp_amount_too_less, register_full}

abbrev pub number_of : Reason → ℕ
number_of R.NotApproved = not_approved
number_of R.ExceededSlippage = exceeded_slippage
number_of R.InvalidInput = invalid_input
number_of R.ZeroTradingTokens = zero_trading_tokens
number_of R.InvalidVault = invalid_vault
number_of R.EmptySupply = empty_supply
number_of R.InsufficientVault = insufficient_vault
number_of R.MathOverflow = math_overflow
number_of R.InvalidFeeModel = invalid_fee_model
number_of R.RequireViolated = require_violated
number_of R.Panic = panicked
number_of R.UnreadableRow = unreadable_row
number_of R.InitLpAmountTooLess = init_lp_amount_too_less
number_of R.TransferFeeCalculateNotMatch = transfer_fee_calculate_not_match
number_of R.LeftLpAmountTooLess = left_lp_amount_too_less
number_of R.RegisterFull = register_full

-- the reason of a number; of one that is no reason's, the last
abbrev pub reason_of : ℕ → Reason
reason_of n =
    cond (eqb n 1) R.NotApproved (
    cond (eqb n 2) R.ExceededSlippage (
    cond (eqb n 3) R.InvalidInput (
    cond (eqb n 4) R.ZeroTradingTokens (
    cond (eqb n 5) R.InvalidVault (
    cond (eqb n 6) R.EmptySupply (
    cond (eqb n 7) R.InsufficientVault (
    cond (eqb n 8) R.MathOverflow (
    cond (eqb n 9) R.InvalidFeeModel (
    cond (eqb n 10) R.RequireViolated (
    cond (eqb n 11) R.Panic (
    cond (eqb n 12) R.UnreadableRow (
    cond (eqb n 13) R.InitLpAmountTooLess (
    cond (eqb n 14) R.TransferFeeCalculateNotMatch (
    cond (eqb n 15) R.LeftLpAmountTooLess (
    R.RegisterFull)))))))))))))))
