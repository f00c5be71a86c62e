-- What the private steps of this crate answer. No public definition rests on these.
use Rattle.std.specs.Prelude.{Result, Ok, Err, ℕ, ◌+◌, ◌≤◌, ◌<◌, Bool, true, false, not, [], ◌∷◌, ltb, eqb}
use Rattle.refusal.specs.Refusal.{require_violated, exceeded_slippage}
use Rattle.refusal.specs.Tests.{Tests, outcome}
use Rattle.fees.specs.Fees.{million}
use Rattle.rates.specs.declared.Rates.{Rates}
use Rattle.rates.specs.declared.Terms.{Terms}
use Rattle.rates.specs.Rates.{highest_fee_rate, creator_rate, on_input}
use Rattle.calculator.specs.declared.SwapResult.{SwapResult}
use Rattle.calculator.specs.Calculator.{input_answer, output_answer}
use Rattle.accounting.specs.declared.Books.{Books}
use Rattle.accounting.specs.declared.Nets.{Nets}
use Rattle.accounting.specs.Counters.{of_token, counters0, counters1, net0, net1}
use Rattle.charge.specs.declared.Charge.{Charge}
use Rattle.quotes.specs.Quotes.{charge_in, charge_out, net_tests}

-- the token of the amount that the caller names: by input the input's, by output the output's
abbrev pub near_token : Bool → Bool → Bool
near_token true zeroIn = zeroIn
near_token false zeroIn = not zeroIn

-- its charge, and the charge of the token that the swap finds
abbrev pub near_charge : Bool → Terms → Bool → Charge
near_charge true t zeroIn = charge_in zeroIn t
near_charge false t zeroIn = charge_out zeroIn t

abbrev pub far_charge : Bool → Terms → Bool → Charge
far_charge true t zeroIn = charge_out zeroIn t
far_charge false t zeroIn = charge_in zeroIn t

-- the nets, past their tests and the model's
unfoldable pub nets_at : Books → ℕ → Result Nets ℕ
nets_at b model = outcome (net_tests b model) Err (Ok (record { net0 = net0 b; net1 = net1 b }))

-- terms and books that have passed the tests up to the model
pub record Swappable (t : Terms) (b : Books) : Type 0 where
  pub fees : t.rates.trade + t.rates.creator ≤ highest_fee_rate
  pub shares : t.rates.protocol + t.rates.fund ≤ million
  pub covered0 : counters0 b.fees ≤ b.vault0
  pub covered1 : counters1 b.fees ≤ b.vault1
  pub some0 : 0 < net0 b
  pub some1 : 0 < net1 b

-- the calculator's answer
abbrev pub answer_at : Bool → Bool → Rates → ℕ → ℕ → ℕ → ℕ → Result SwapResult ℕ
answer_at true = input_answer
answer_at false = output_answer

abbrev pub answer_of : Bool → Terms → Bool → ℕ → ℕ → ℕ → Result SwapResult ℕ
answer_of byInput t zeroIn n0 n1 amount =
    answer_at byInput (on_input t.fee_model zeroIn) t.rates (creator_rate t) (of_token zeroIn n0 n1) (of_token zeroIn n1 n0) amount

-- the limit on the solver's side, past the test whether what is sent is past u64
abbrev pub limit_tests : Bool → ℕ → ℕ → Tests
limit_tests true received limit = (eqb received 0, require_violated) ∷ (ltb received limit, exceeded_slippage) ∷ []
limit_tests false sent limit = (ltb limit sent, exceeded_slippage) ∷ []
