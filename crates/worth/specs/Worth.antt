-- Document 01, 'Deposit' and 'Withdrawal': an LP amount's worth in both tokens, and the tests on it.
use Rattle.std.specs.Prelude.{Result, Ok, Err, ℕ, Bool, true, false, [], ◌∷◌, eqb}
use Rattle.refusal.specs.Refusal.{zero_trading_tokens, panicked}
use Rattle.refusal.specs.Tests.{Tests, ◌then◌, past, outcome}
use Rattle.accounting.specs.declared.Books.{Books}
use Rattle.accounting.specs.Counters.{counter_tests, net0, net1}
use Rattle.curve.specs.declared.constant_product.RoundDirection.{RoundDirection}
use Rattle.curve.specs.declared.constant_product.RoundDirection.TheVariants.{Floor, Ceiling}
use Rattle.curve.specs.declared.constant_product.TradingTokenResult.{TradingTokenResult}
use Rattle.curve.specs.ConstantProduct.{lp_amount, tokens}
use Rattle.worth.specs.declared.Worth.{Worth}

-- none or an amount 0, 4; an amount past u64, 11
unfoldable pub amount_tests : ℕ → ℕ → ℕ → Tests
amount_tests amount0 amount1 supply =
    (eqb supply 0, zero_trading_tokens)
    ∷ (eqb amount0 0, zero_trading_tokens)
    ∷ (eqb amount1 0, zero_trading_tokens)
    ∷ (past amount0, panicked)
    ∷ (past amount1, panicked)
    ∷ []

-- both tokens' parts, which are to be some
unfoldable pub token_amounts : RoundDirection → ℕ → ℕ → ℕ → ℕ → Result TradingTokenResult ℕ
token_amounts direction lp supply net0 net1 =
    outcome (amount_tests (lp_amount direction lp supply net0) (lp_amount direction lp supply net1) supply)
    Err
    (Ok (record { amount0 = tokens (lp_amount direction lp supply net0); amount1 = tokens (lp_amount direction lp supply net1) }))

-- ---- of a deposit or a withdrawal
-- the amounts are rounded down; for deposits up
abbrev pub rounding : Bool → RoundDirection
rounding true = Ceiling
rounding false = Floor

-- one token's part of an LP amount
abbrev pub part : Bool → ℕ → ℕ → ℕ → ℕ
part isDeposit lp supply net = lp_amount (rounding isDeposit) lp supply net

-- counters' sums 8, vaults 7; none or an amount 0, 4; an amount past u64, 11
unfoldable pub worth_of : Bool → Books → ℕ → Result Worth ℕ
worth_of isDeposit b lp =
    outcome
    (counter_tests b
    then amount_tests (part isDeposit lp b.supply (net0 b)) (part isDeposit lp b.supply (net1 b)) b.supply)
    Err
    (Ok (record {
      net0 = tokens (net0 b);
      net1 = tokens (net1 b);
      amount0 = tokens (part isDeposit lp b.supply (net0 b));
      amount1 = tokens (part isDeposit lp b.supply (net1 b));
    }))
