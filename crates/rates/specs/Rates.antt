-- Document 01, 'The calls' and 'constant_product.rs, then calculator.rs': the limits of a pool's rates, the rate that counts, and its fee model.
use Rattle.std.specs.Prelude.{ℕ, ◌+◌, Bool, not, cond, ◌&&◌, ◌||◌, [], ◌∷◌, ltb, eqb}
use Rattle.refusal.specs.Refusal.{invalid_input}
use Rattle.refusal.specs.Tests.{Tests, ◌then◌}
use Rattle.rates.specs.declared.Rates.{Rates}
use Rattle.rates.specs.declared.Terms.{Terms}
use Rattle.fees.specs.Fees.{million}

-- the highest that trade and creator rate may sum to
abbrev pub highest_fee_rate : ℕ
highest_fee_rate = 999999

-- trade + creator above 999,999, protocol + fund above 1,000,000, summed without wrap, 3
unfoldable pub rate_limits : Rates → ℕ → Tests
rate_limits rates creator_rate =
    (ltb highest_fee_rate (rates.trade + creator_rate), invalid_input)
    ∷ (ltb million (rates.protocol + rates.fund), invalid_input)
    ∷ []

-- opening's limits on trade + creator and protocol + fund, whether creator fees are enabled or not, 3
abbrev pub limit_tests : Rates → Tests
limit_tests rates = rate_limits rates rates.creator

-- the rates of an opening: these limits, and share above 1,000,000, 3
unfoldable pub rate_tests : Rates → Tests
rate_tests rates = limit_tests rates then ((ltb million rates.share, invalid_input) ∷ [])

-- fee model 0 means input always, 1 input if token 0 goes in, 2 input if token 1 goes in
unfoldable pub on_input : ℕ → Bool → Bool
on_input model zeroIn = eqb model 0 || (eqb model 1 && zeroIn || eqb model 2 && not zeroIn)

-- creator rate counts as 0 unless the pool enables it
abbrev pub creator_rate : Terms → ℕ
creator_rate t = cond t.enabled t.rates.creator 0
