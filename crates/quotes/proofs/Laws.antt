-- The stages of a quote make up its one list of tests: front, amount at the vault, nets, calculator, and the limit on the solver's side. What an
-- accepted quote tells.
-- Assumes nothing.
use mathlib.Core.Path.{◌≡◌, refl, sym, ap, ◌∙◌}
use mathlib.Core.Bool.{Bool, true, false}
use mathlib.Core.List.{[], ◌∷◌}
use Prim.Native.Nat.{ℕ, ◌≤◌}
use native.Mathlib.Omega.{arith}
use lib.Dec.{eqb}
use Rattle.std.specs.Prelude.{Result, Ok, Err}
use Rattle.refusal.specs.Refusal.{require_violated}
use Rattle.refusal.specs.Tests.{Tests, ◌then◌, outcome, tested}
use Rattle.refusal.proofs.Stops.{facts, numbered, Passed, outcome_then, passed_left, passed_right}
use Rattle.refusal.proofs.Stages.{stage_passed, stage_value}
use Rattle.rates.specs.declared.Terms.{Terms}
use Rattle.rates.specs.Rates.{rate_limits, limit_tests as feeLimits, creator_rate, on_input}
use Rattle.calculator.specs.declared.SwapResult.{SwapResult}
use Rattle.calculator.specs.Calculator.{quote_tests}
use Rattle.accounting.specs.declared.Books.{Books}
use Rattle.accounting.specs.declared.Nets.{Nets}
use Rattle.accounting.specs.Counters.{of_token, net0, net1, counter_tests}
use Rattle.charge.specs.declared.Charged.{Charged}
use Rattle.charge.specs.declared.End.{End}
use Rattle.charge.specs.Charge.{charge_on}
use Rattle.charge.specs.Transfers.{sent_of, far_amount, far_tests, transferred}
use Rattle.quotes.specs.declared.Quote.{Quote}
use Rattle.quotes.specs.Quotes.{net_in, net_out, vault_amount, charged_of, result_of, looked, front_tests, wanted_tests, net_tests, calculator_tests, solver_amount, slippage_tests, all_tests, quote_of}
use Rattle.quotes.specs.Stages.{near_token, near_charge, far_charge, nets_at, Swappable, answer_of, limit_tests}
use Rattle.quotes.proofs.Chain.{next, staged, checked, passing}
use Rattle.quotes.proofs.Answers.{answer_is, result_covered}
use Rattle.quotes.proofs.Sides.{looked_later, charges_are}

-- what is known past the rate limits and the nets' tests
swappable : (t : Terms) (b : Books) (model : ℕ) → Passed (feeLimits t.rates) → Passed (net_tests b model) → Swappable t b
unfolding rate_limits ◌then◌ counter_tests
swappable t b model f g = record {
  fees = omega (arith, facts, f);
  shares = omega (arith, facts, f);
  covered0 = omega (arith, facts, g);
  covered1 = omega (arith, facts, g);
  some0 = omega (arith, facts, g);
  some1 = omega (arith, facts, g);
}

module _ (byInput : Bool) (t : Terms) (status : ℕ) (b : Books) (direction amount limit clock : ℕ) where
  abbrev zero_in : Bool
  zero_in = eqb direction 0

  abbrev fee : Bool
  fee = on_input t.fee_model zero_in

  abbrev moved : ℕ
  moved = vault_amount byInput t zero_in amount

  abbrev s : SwapResult
  s = result_of byInput t b zero_in moved

  abbrev netted : Tests
  netted = net_tests b t.fee_model

  abbrev calculated : Tests
  calculated = calculator_tests byInput fee t.rates (creator_rate t) (net_in zero_in b) (net_out zero_in b) moved

  abbrev slips : Tests
  slips = slippage_tests byInput (solver_amount byInput t zero_in s) limit

  abbrev tests : Tests
  tests = all_tests byInput t status b direction amount limit clock

  abbrev quote : Result Quote ℕ
  quote = quote_of byInput t status b direction amount limit clock

  abbrev good : Quote
  good = record { result = s; net0 = net0 b; net1 = net1 b; charged = charged_of byInput t zero_in amount s }

  -- no test gives the number 0
  pub all_numbered : numbered tests ≡ true
  unfolding all_tests rate_limits counter_tests quote_tests ◌then◌
  all_numbered = go byInput (looked byInput direction amount moved) zero_in fee (net_in zero_in b) (net_out zero_in b) moved (solver_amount byInput t zero_in s)
    where
      go : (i : Bool) (l : ℕ) (z f : Bool) (x y m o : ℕ)
          → numbered (front_tests t status direction l clock
          then (wanted_tests i t z amount
          then (net_tests b t.fee_model
          then (calculator_tests i f t.rates (creator_rate t) x y m then slippage_tests i o limit)))) ≡ true
      go true l z f x y m o = refl
      go false l z f x y m o = refl

  -- ---- an accepted quote: all its tests are passed, and it is the definition's result with the nets and the charges
  abbrev looks : Tests
  looks = front_tests t status direction (looked byInput direction amount moved) clock

  abbrev wants : Tests
  wants = wanted_tests byInput t zero_in amount

  module _ {q : Quote} (e : quote ≡ Ok q) where
    pub quote_passed : Passed tests
    unfolding quote_of
    quote_passed = stage_passed good tests e

    pub quote_told : good ≡ q
    unfolding quote_of
    quote_told = stage_value good tests e

    after_looks : Passed (wants then (netted then (calculated then slips)))
    unfolding all_tests
    after_looks = passed_right looks (wants then (netted then (calculated then slips))) quote_passed

    after_wants : Passed (netted then (calculated then slips))
    after_wants = passed_right wants _ after_looks

    quote_swappable : Swappable t b
    unfolding all_tests
    quote_swappable =
        swappable t b t.fee_model (passed_left (feeLimits t.rates) _ (passed_left looks (wants then (netted then (calculated then slips))) quote_passed))
        (passed_left netted (calculated then slips) after_wants)

    pub quote_covered : q.result.output ≤ of_token zero_in b.vault1 b.vault0
    quote_covered =
        rw (sym quote_told)
        (result_covered t b quote_swappable zero_in fee moved byInput
        (passed_left calculated slips (passed_right netted (calculated then slips) after_wants)))

  -- ---- the stages, as the code has them
  abbrev fronts : Tests
  fronts = front_tests t status direction amount clock

  abbrev quoted_of : Nets → End → SwapResult → End → Quote
  quoted_of nets near result far = record {
    result = result;
    net0 = nets.net0;
    net1 = nets.net1;
    charged = record {
      charge0 = of_token (near_token byInput zero_in) near.charge far.charge;
      charge1 = of_token (near_token byInput zero_in) far.charge near.charge;
    };
  }

  abbrev held : Nets → End → SwapResult → Result Quote ℕ
  held nets near result =
      next (transferred byInput (far_charge byInput t zero_in) (of_token byInput result.output result.input)) (λ far.
      next (tested (limit_tests byInput far.amount limit)) (λ _.
      Ok (quoted_of nets near result far)))

  abbrev priced : End → Result Quote ℕ
  priced near =
      next (nets_at b t.fee_model) (λ nets.
      next (answer_of byInput t zero_in nets.net0 nets.net1 near.amount) (λ result. held nets near result))

  abbrev pub stages : Result Quote ℕ
  stages =
      next (tested fronts) (λ _.
      next (transferred byInput (near_charge byInput t zero_in) amount) (λ near.
      next (tested ((eqb near.amount 0, require_violated) ∷ [])) (λ _. priced near)))

  -- ---- each stage by its tests and its value
  abbrev near_end : End
  near_end = let c = near_charge byInput t zero_in in record { amount = far_amount byInput c amount; charge = charge_on c (sent_of byInput c amount) }

  abbrev nets : Nets
  nets = record { net0 = net0 b; net1 = net1 b }

  -- what can't be sent, 14, and the limit make up the last stage
  slips_are : (i : Bool) (x : SwapResult) {A : Type 0} (bad : ℕ → A) (a : A)
      → let c = far_charge i t zero_in in
      let n = of_token i x.output x.input in
      outcome (far_tests i c n) bad (outcome (limit_tests i (far_amount i c n) limit) bad a) ≡ outcome (slippage_tests i (solver_amount i t zero_in x) limit) bad a
  unfolding outcome
  slips_are true x bad a = refl
  slips_are false x bad a = refl

  held_is : held nets near_end s ≡ outcome slips Err (Ok good)
  unfolding transferred
  held_is =
      let c = far_charge byInput t zero_in in
      let n = of_token byInput s.output s.input in
      let ts = limit_tests byInput (far_amount byInput c n) limit in
      staged (far_tests byInput c n) _ _
      ∙ ap (outcome (far_tests byInput c n) Err)
      (checked ts _ ∙ ap (λ (x : Charged). outcome ts Err (Ok (record { result = s; net0 = net0 b; net1 = net1 b; charged = x }))) (charges_are t b amount byInput zero_in))
      ∙ slips_are byInput s Err (Ok good)

  -- at the vault is what the definition says
  near_moved : (i : Bool) → far_amount i (near_charge i t zero_in) amount ≡ vault_amount i t zero_in amount
  near_moved true = refl
  near_moved false = refl

  priced_is : Passed (feeLimits t.rates) → priced near_end ≡ outcome netted Err (outcome calculated Err (outcome slips Err (Ok good)))
  unfolding nets_at
  priced_is f =
      staged netted nets _
      ∙ passing netted Err (λ g.
      let ok = swappable t b t.fee_model f g in
      ap (λ (n : ℕ). next (answer_of byInput t zero_in (net0 b) (net1 b) n) (λ result. held nets near_end result)) (near_moved byInput)
      ∙ ap (λ (a : Result SwapResult ℕ). next a (λ result. held nets near_end result)) (answer_is t b ok zero_in fee moved byInput)
      ∙ staged calculated s _
      ∙ ap (outcome calculated Err) held_is)

  wants_are : (i : Bool) → far_tests i (near_charge i t zero_in) amount ≡ wanted_tests i t zero_in amount
  wants_are true = refl
  wants_are false = refl

  abbrev last : Result Quote ℕ
  last = outcome netted Err (outcome calculated Err (outcome slips Err (Ok good)))

  near_is :
      Passed (feeLimits t.rates)
      → next (transferred byInput (near_charge byInput t zero_in) amount) (λ near. next (tested ((eqb near.amount 0, require_violated) ∷ [])) (λ _. priced near))
      ≡ outcome wants Err (outcome ((eqb moved 0, require_violated) ∷ []) Err last)
  unfolding transferred
  near_is f =
      staged (far_tests byInput (near_charge byInput t zero_in) amount) near_end _
      ∙ (λ i. outcome (wants_are byInput i) Err (next (tested ((eqb (near_moved byInput i) 0, require_violated) ∷ [])) (λ _. priced near_end)))
      ∙ ap (outcome wants Err) (checked ((eqb moved 0, require_violated) ∷ []) _ ∙ ap (outcome ((eqb moved 0, require_violated) ∷ []) Err) (priced_is f))

  quote_is : outcome looks Err (outcome wants Err last) ≡ quote
  unfolding quote_of all_tests
  quote_is =
      ap (λ (r : Result Quote ℕ). outcome looks Err (outcome wants Err (outcome netted Err r))) (outcome_then calculated slips Err (Ok good))
      ∙ ap (λ (r : Result Quote ℕ). outcome looks Err (outcome wants Err r)) (outcome_then netted (calculated then slips) Err (Ok good))
      ∙ ap (outcome looks Err) (outcome_then wants (netted then (calculated then slips)) Err (Ok good))
      ∙ outcome_then looks (wants then (netted then (calculated then slips))) Err (Ok good)

  pub stages_are : stages ≡ quote
  stages_are =
      checked fronts _
      ∙ passing fronts Err (λ h. near_is (passed_left (feeLimits t.rates) _ h))
      ∙ looked_later t direction amount Err last byInput status clock
      ∙ quote_is
