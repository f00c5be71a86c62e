-- Document 02 (e), 'The hundred that stays', of every pool, opened or built by hand: a withdrawal that is accepted leaves at least 100 LP.
use Rattle.std.specs.Prelude.{◌≤◌, ◌≡◌}
use Rattle.accounting.specs.Locked.{lock_lp_amount}
use Rattle.curve.specs.declared.constant_product.LpTokens.{LpTokens}
use Rattle.curve.specs.declared.constant_product.TradingTokens.{TradingTokens}
use Rattle.calls.specs.declared.Call.TheVariants.{Withdraw}
use Rattle.calls.specs.Next.{State, next}

abbrev pub HundredStays : Type 0
HundredStays =
    (s : State) (lp owned : LpTokens) (minimum0 minimum1 : TradingTokens)
    → let d = next s (Withdraw lp owned minimum0 minimum1) in
    d.after.receipt.number ≡ 0 → lock_lp_amount ≤ d.after.pool.books.supply
