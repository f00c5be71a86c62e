-- Document 01, 'math.rs, then fees.rs', with document 02 (a). Rates are in millionths.
-- 'Called alone these take u64 amounts and rates; none answers 4, a rate sum or result past 2^64 − 1 answers 8.'
use Rattle.std.specs.Prelude.{Ok, Err, ℕ, ◌+◌, ◌*◌, ◌-◌, ◌/◌, cond, [], ◌∷◌, leb, eqb}
use Rattle.divide.specs.Division.{ceil_div}
use Rattle.refusal.specs.Refusal.{zero_trading_tokens, math_overflow}
use Rattle.refusal.specs.Tests.{outcome, past}
use Rattle.answer.specs.Answer.{Answer}

abbrev pub million : ℕ
million = 1000000

-- amount × rate / 1,000,000, rounded up and rounded down
unfoldable pub fee_up : ℕ → ℕ → ℕ
fee_up amount rate = ceil_div (amount * rate) million

unfoldable pub fee_down : ℕ → ℕ → ℕ
fee_down amount rate = amount * rate / million

-- the creator's part of a fee at both rates: 0 at a rate sum of 0 (02 (a)), else total × creator / (trade + creator), down
unfoldable pub split : ℕ → ℕ → ℕ → ℕ
split total trade creator = cond (eqb (trade + creator) 0) 0 (total * creator / (trade + creator))

-- the amount before a fee: the amount itself at rate 0, else amount × 1,000,000 / (1,000,000 − rate), up
unfoldable pub pre_fee : ℕ → ℕ → ℕ
pre_fee amount rate = cond (eqb rate 0) amount (ceil_div (amount * million) (million - rate))

-- ---- called alone
unfoldable pub ceil_fee : ℕ → ℕ → Answer
ceil_fee amount rate = outcome ((past (fee_up amount rate), math_overflow) ∷ []) Err (Ok (fee_up amount rate))

unfoldable pub floor_fee : ℕ → ℕ → Answer
floor_fee amount rate = outcome ((past (fee_down amount rate), math_overflow) ∷ []) Err (Ok (fee_down amount rate))

-- trading and creator fee: rounded up
abbrev pub trading_fee : ℕ → ℕ → Answer
trading_fee amount rate = ceil_fee amount rate

abbrev pub creator_fee : ℕ → ℕ → Answer
creator_fee amount rate = ceil_fee amount rate

-- protocol, fund and shared part: rounded down
abbrev pub protocol_fee : ℕ → ℕ → Answer
protocol_fee amount rate = floor_fee amount rate

abbrev pub fund_fee : ℕ → ℕ → Answer
fund_fee amount rate = floor_fee amount rate

abbrev pub creator_fee_shared_amount : ℕ → ℕ → Answer
creator_fee_shared_amount amount rate = floor_fee amount rate

-- a rate sum past u64, 8; one of 0 is no refusal, its split is 0
unfoldable pub split_creator_fee : ℕ → ℕ → ℕ → Answer
split_creator_fee total trade creator =
    outcome
    ((past (trade + creator), math_overflow)
    ∷ (past (split total trade creator), math_overflow)
    ∷ [])
    Err
    (Ok (split total trade creator))

-- none at 1,000,000 or more
unfoldable pub calculate_pre_fee_amount : ℕ → ℕ → Answer
calculate_pre_fee_amount amount rate =
    outcome
    ((leb million rate, zero_trading_tokens)
    ∷ (past (pre_fee amount rate), math_overflow)
    ∷ [])
    Err
    (Ok (pre_fee amount rate))
