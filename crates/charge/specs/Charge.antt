-- Document 02 (c), 'Transfer charge': what a token's charge takes of an amount, what reaches the other side, and what is to be sent so that
-- an amount does.
use Rattle.std.specs.Prelude.{Ok, Err, ℕ, ◌+◌, ◌-◌, ◌*◌, min, cond, [], ◌∷◌, ltb, eqb}
use Rattle.refusal.specs.Refusal.{transfer_fee_calculate_not_match}
use Rattle.refusal.specs.Tests.{Tests, past, outcome}
use Rattle.divide.specs.Division.{ceil_div}
use Rattle.answer.specs.Answer.{Answer}
use Rattle.charge.specs.declared.Charge.{Charge}
use Rattle.charge.specs.declared.Charges.{Charges}
use Rattle.charge.specs.declared.Charged.{Charged}

-- points are per 10,000
abbrev pub ten_thousand : ℕ
ten_thousand = 10000

-- the charge on n: n × points / 10,000 rounded up, capped at the maximum and at n
unfoldable pub charge_on : Charge → ℕ → ℕ
charge_on c n = min (min (ceil_div (n * c.points) ten_thousand) c.maximum) n

-- what reaches the other side: n less the charge
unfoldable pub rest_of : Charge → ℕ → ℕ
rest_of c n = n - charge_on c n

-- the charge on the least amount whose rest is w: w × points / (10,000 − points) rounded up, capped at the maximum. From 10,000 points on all is
-- charged up to the maximum: then it is the maximum, or 0 where w is 0
unfoldable pub charge_for : Charge → ℕ → ℕ
charge_for c w =
    cond (ltb c.points ten_thousand)
    (min (ceil_div (w * c.points) (ten_thousand - c.points)) c.maximum)
    (cond (eqb w 0) 0 c.maximum)

-- the least amount whose rest is w; `LeastSent` of Least.antt says that it is
unfoldable pub least_sent : Charge → ℕ → ℕ
least_sent c w = w + charge_for c w

-- no u64 has the rest w, 14
abbrev pub sent_tests : Charge → ℕ → Tests
sent_tests c w = (past (least_sent c w), transfer_fee_calculate_not_match) ∷ []

-- ---- `get_transfer_inverse_fee`: the charge on that least amount, or 14. `get_transfer_fee` is `charge_on`
unfoldable pub inverse_fee : Charge → ℕ → Answer
inverse_fee c w = outcome (sent_tests c w) Err (Ok (charge_for c w))

-- ---- a pool's two tokens
abbrev pub no_charge : Charge
no_charge = record { points = 0; maximum = 0 }

abbrev pub no_charges : Charges
no_charges = record { token0 = no_charge; token1 = no_charge }

-- 0 where none is meant
abbrev pub nothing_charged : Charged
nothing_charged = record { charge0 = 0; charge1 = 0 }

-- the charges on what is sent of each token, by a solver or out of a vault
abbrev pub charged_on : Charges → ℕ → ℕ → Charged
charged_on c amount0 amount1 = record { charge0 = charge_on c.token0 amount0; charge1 = charge_on c.token1 amount1 }
