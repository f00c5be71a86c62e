-- Document 01, 'constant_product.rs, then calculator.rs': the curve without fees, and LP tokens as trading tokens.
-- 'Called alone on u64 amounts, none answers 4; a divisor of 0 in a swap or a result past u64 answers 11.'
use Rattle.std.specs.Prelude.{Result, Ok, Err, ℕ, ◌+◌, ◌*◌, ◌-◌, ◌/◌, cond, [], ◌∷◌, leb, eqb}
use Rattle.wide.specs.declared.U128.{U128}
use Rattle.divide.specs.declared.Divided.{Divided}
use Rattle.divide.specs.Division.{divided_wide, ceil_div}
use Rattle.refusal.specs.Refusal.{zero_trading_tokens, panicked}
use Rattle.refusal.specs.Tests.{outcome, past}
use Rattle.answer.specs.Answer.{Answer}
use Rattle.curve.specs.declared.constant_product.RoundDirection.{RoundDirection}
use Rattle.curve.specs.declared.constant_product.RoundDirection.TheVariants.{Floor, Ceiling}
use Rattle.curve.specs.declared.constant_product.TradingTokens.{TradingTokens}
use Rattle.curve.specs.declared.constant_product.TradingTokenResult.{TradingTokenResult}

-- by input, on d after fees: out = d × netOut / (netIn + d), down
unfoldable pub swap_out : ℕ → ℕ → ℕ → ℕ
swap_out netIn netOut d = d * netOut / (netIn + d)

-- by output o: in = netIn × o / (netOut − o), up
unfoldable pub swap_in : ℕ → ℕ → ℕ → ℕ
swap_in netIn netOut o = ceil_div (netIn * o) (netOut - o)

-- LP to tokens: lp × net / supply, down; for deposits up, but the 1 is added only where the quotient is not 0
unfoldable pub lp_amount : RoundDirection → ℕ → ℕ → ℕ → ℕ
lp_amount Floor lp supply net = lp * net / supply
lp_amount Ceiling lp supply net = cond (eqb (lp * net / supply) 0) 0 (ceil_div (lp * net) supply)

-- ---- called alone
unfoldable pub swap_base_input_without_fees : ℕ → ℕ → ℕ → Answer
swap_base_input_without_fees d netIn netOut =
    outcome
    ((eqb (netIn + d) 0, panicked)
    ∷ (past (swap_out netIn netOut d), panicked)
    ∷ [])
    Err
    (Ok (swap_out netIn netOut d))

-- o at or above netOut is 11
unfoldable pub swap_base_output_without_fees : ℕ → ℕ → ℕ → Answer
swap_base_output_without_fees o netIn netOut =
    outcome
    ((leb netOut o, panicked)
    ∷ (past (swap_in netIn netOut o), panicked)
    ∷ [])
    Err
    (Ok (swap_in netIn netOut o))

-- Document 02, (d): what the division of lp × net by the supply yields, the quotient, of up to 128 bits in two halves, and the remainder; supply 0
-- is none. 'Quotient times supply plus remainder is the product, with the remainder below the supply' stands in the contract.
unfoldable pub lp_divided : ℕ → ℕ → ℕ → Result (Divided U128) ℕ
lp_divided lp net supply = outcome ((eqb supply 0, zero_trading_tokens) ∷ []) Err (Ok (divided_wide (lp * net) supply))

-- one token's part: supply 0 is none
unfoldable pub lp_part : RoundDirection → ℕ → ℕ → ℕ → Answer
lp_part direction lp supply net =
    outcome
    ((eqb supply 0, zero_trading_tokens)
    ∷ (past (lp_amount direction lp supply net), panicked)
    ∷ [])
    Err
    (Ok (lp_amount direction lp supply net))

abbrev pub tokens : ℕ → TradingTokens
tokens n = record { 0 = n }

-- both tokens' parts
unfoldable pub lp_tokens_to_trading_tokens : RoundDirection → ℕ → ℕ → ℕ → ℕ → Result TradingTokenResult ℕ
lp_tokens_to_trading_tokens direction lp supply net0 net1 =
    outcome
    ((eqb supply 0, zero_trading_tokens)
    ∷ (past (lp_amount direction lp supply net0), panicked)
    ∷ (past (lp_amount direction lp supply net1), panicked)
    ∷ [])
    Err
    (Ok (record { amount0 = tokens (lp_amount direction lp supply net0); amount1 = tokens (lp_amount direction lp supply net1) }))
