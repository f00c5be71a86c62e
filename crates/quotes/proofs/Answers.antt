-- Terms and books that have passed the tests up to the model: the calculator's answer, and that the vault covers its output.
-- Assumes nothing.
use mathlib.Core.Path.{◌≡◌, sym, ◌∙◌}
use mathlib.Core.Bool.{Bool, true, false, cond}
use Prim.Native.Nat.{ℕ, ◌≤◌, ◌<◌}
use native.Mathlib.Omega.{arith}
use Rattle.std.specs.Prelude.{Ok, Err}
use Rattle.refusal.specs.Tests.{Tests, outcome}
use Rattle.refusal.proofs.Stops.{turns, facts, Passed, outcome_past}
use Rattle.rates.specs.declared.Terms.{Terms}
use Rattle.rates.specs.Rates.{creator_rate}
use Rattle.calculator.specs.declared.SwapResult.{SwapResult}
use Rattle.calculator.specs.Calculator.{quote_tests, input_answer, output_answer}
use Rattle.calculator.specs.Stages.{Limited}
use Rattle.calculator.proofs.Swaps.{past_limits_lem}
use Rattle.calculator.proofs.FairSwaps.{Fair, input_fair, output_fair}
use Rattle.accounting.specs.declared.Books.{Books}
use Rattle.accounting.specs.Counters.{of_token}
use Rattle.quotes.specs.Quotes.{net_in, net_out, with_fees, calculator_tests}
use Rattle.quotes.specs.Stages.{Swappable, answer_at}

module _ (t : Terms) (b : Books) (ok : Swappable t b) (zeroIn fee : Bool) (amount : ℕ) where
  -- the rate that counts is within the limits, as the pool's own is
  limited : Limited t.rates (creator_rate t)
  limited = record { fees = omega (arith, rate_le t.enabled t.rates.creator); shares = ok.shares }
    where
      rate_le : (b : Bool) (rate : ℕ) → cond b rate 0 ≤ rate
      rate_le true rate = omega arith
      rate_le false rate = omega arith

  some_in : (z : Bool) → 0 < net_in z b
  some_in true = ok.some0
  some_in false = ok.some1

  within_vault : (z : Bool) → net_out z b ≤ of_token z b.vault1 b.vault0
  within_vault true = omega arith
  within_vault false = omega arith

  abbrev tests : Bool → Tests
  tests byInput = calculator_tests byInput fee t.rates (creator_rate t) (net_in zeroIn b) (net_out zeroIn b) amount

  abbrev result : Bool → SwapResult
  result byInput = with_fees byInput fee t.rates (creator_rate t) (net_in zeroIn b) (net_out zeroIn b) amount

  -- past the rate limits and the net's test
  pub answer_is :
      (byInput : Bool)
      → answer_at byInput fee t.rates (creator_rate t) (net_in zeroIn b) (net_out zeroIn b) amount
      ≡ outcome (tests byInput) Err (Ok (result byInput))
  unfolding input_answer output_answer
  answer_is true = let some = some_in zeroIn in sym (outcome_past _ _ _ _ (omega (arith, turns)) ∙ past_limits_lem _ _ limited _ _ _)
  answer_is false = sym (past_limits_lem _ _ limited _ _ _)

  -- what a fair swap pays out is within the net, and so within the vault
  covers : (d o : ℕ) (s : SwapResult) → Fair fee (net_in zeroIn b) (net_out zeroIn b) d o s → s.output ≤ of_token zeroIn b.vault1 b.vault0
  covers d o s fair = omega (arith, fair.pays, fair.within, within_vault zeroIn)

  pub result_covered : (byInput : Bool) → Passed (tests byInput) → (result byInput).output ≤ of_token zeroIn b.vault1 b.vault0
  unfolding quote_tests
  result_covered true h = covers _ _ _ (input_fair _ _ _ _ (omega (arith, limited)) limited.shares fee amount)
  result_covered false h = covers _ _ _ (output_fair _ _ _ _ (omega (arith, limited)) limited.shares fee amount (omega (arith, facts, h)))
