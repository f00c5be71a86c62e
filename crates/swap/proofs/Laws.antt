-- A swap's stages, quote, books and ring, make up its one list of tests.
-- Assumes nothing.
use mathlib.Core.Path.{◌≡◌, refl, ap, ◌∙◌}
use mathlib.Core.Bool.{Bool, true, false}
use Prim.Native.Nat.{ℕ, ◌+◌, ◌-◌}
use lib.Dec.{eqb}
use Rattle.std.specs.Prelude.{Result, Ok, Err}
use Rattle.refusal.specs.Tests.{Tests, ◌then◌, outcome}
use Rattle.refusal.proofs.Stops.{outcome_map, outcome_then}
use Rattle.rates.specs.declared.Terms.{Terms}
use Rattle.rates.specs.Rates.{rate_limits, on_input}
use Rattle.calculator.specs.declared.SwapResult.{SwapResult}
use Rattle.calculator.specs.Calculator.{quote_tests}
use Rattle.charge.specs.declared.Charged.{Charged}
use Rattle.accounting.specs.declared.FeeCounters.{FeeCounters}
use Rattle.accounting.specs.declared.Books.{Books}
use Rattle.accounting.specs.Counters.{of_token, net0, net1, counter_tests}
use Rattle.accounting.specs.Booking.{creator_token, booked, past_tests, booking_tests, booking_answer}
use Rattle.oracle.specs.declared.Ring.{Ring}
use Rattle.oracle.specs.declared.Update.{Update}
use Rattle.oracle.specs.Ring.{Entry, price, ring_tests, accepted_update, observed}
use Rattle.oracle.specs.Update.{after_of}
use Rattle.receipt.specs.Kind.{swap_base_input_kind, swap_base_output_kind}
use Rattle.quotes.specs.declared.Quote.{Quote}
use Rattle.quotes.specs.Quotes.{vault_amount, charged_of, result_of, all_tests, quote_of}
use Rattle.quotes.proofs.Chain.{next, staged}
use Rattle.swap.specs.declared.SwapAfter.{SwapAfter}
use Rattle.swap.specs.Swap.{last_tests, input_tests, output_tests, swap_tests, refused_swap, kind_of, swap_receipt, paid_books, accepted_swap, swap_after}
use Rattle.swap.specs.Stages.{room, paid_in, pay_tests, paid_at, swap_answer}

pub kind_is : (byInput : Bool) → of_token byInput swap_base_input_kind swap_base_output_kind ≡ kind_of byInput
kind_is true = refl
kind_is false = refl

-- ---- the books, as the code has them: each vault in its token's place
module _ (zeroIn zeroFee : Bool) (s : SwapResult) (b : Books) where
  abbrev vault_in : ℕ
  vault_in = of_token zeroIn b.vault0 b.vault1

  abbrev with_vaults : FeeCounters → ℕ → Books
  with_vaults fees vault =
      let left = of_token zeroIn b.vault1 b.vault0 - s.output in
      record { vault0 = of_token zeroIn vault left; vault1 = of_token zeroIn left vault; fees = fees; supply = b.supply }

  abbrev pub books_stages : Result Books ℕ
  books_stages =
      next (booking_answer zeroIn zeroFee s.protocol s.fund s.creator b.fees) (λ fees.
      next (paid_in vault_in s.input) (λ vault. Ok (with_vaults fees vault)))

  vaults_are : (z : Bool) (fees : FeeCounters)
      → let left = of_token z b.vault1 b.vault0 - s.output in
      let vault = of_token z b.vault0 b.vault1 + s.input in
      record { vault0 = of_token z vault left; vault1 = of_token z left vault; fees = fees; supply = b.supply } ≡ paid_books z s fees b
  unfolding paid_books
  vaults_are true fees = refl
  vaults_are false fees = refl

  pub books_are : books_stages ≡ paid_at zeroIn zeroFee s b
  unfolding booking_answer paid_at
  books_are =
      let counted = booking_tests zeroIn zeroFee s.protocol s.fund s.creator b.fees in
      let fees = booked zeroIn zeroFee s.protocol s.fund s.creator b.fees in
      staged counted fees (λ fees. next (paid_in vault_in s.input) (λ vault. Ok (with_vaults fees vault)))
      ∙ ap (outcome counted Err)
      (staged (room vault_in s.input) (vault_in + s.input) (λ vault. Ok (with_vaults fees vault))
      ∙ ap (λ (c : Books). outcome (room vault_in s.input) Err (Ok c)) (vaults_are zeroIn fees))
      ∙ outcome_then counted (room vault_in s.input) Err (Ok (paid_books zeroIn s fees b))

module _ (t : Terms) (status : ℕ) (b : Books) (ring : Ring) (e : Entry) (direction amount limit clock : ℕ) (byInput : Bool) where
  abbrev zero_in : Bool
  zero_in = eqb direction 0

  abbrev fee : Bool
  fee = on_input t.fee_model zero_in

  abbrev zero_fee : Bool
  zero_fee = creator_token fee zero_in

  abbrev s : SwapResult
  s = result_of byInput t b zero_in (vault_amount byInput t zero_in amount)

  abbrev charges : Charged
  charges = charged_of byInput t zero_in amount s

  abbrev quotes : Tests
  quotes = all_tests byInput t status b direction amount limit clock

  abbrev pays : Tests
  pays = pay_tests zero_in zero_fee s b

  abbrev price0 : ℕ
  price0 = price (net0 b) (net1 b)

  abbrev price1 : ℕ
  price1 = price (net1 b) (net0 b)

  abbrev rings : Tests
  rings = ring_tests ring e clock price0 price1

  abbrev quoted : Quote
  quoted = record { result = s; net0 = net0 b; net1 = net1 b; charged = charges }

  abbrev paid : Books
  paid = paid_books zero_in s (booked zero_in zero_fee s.protocol s.fund s.creator b.fees) b

  -- the three stages' tests are the swap's
  tests_are : quotes then (pays then rings) ≡ swap_tests byInput zero_in fee zero_fee s t status b ring e direction amount limit clock
  unfolding all_tests input_tests output_tests last_tests rate_limits counter_tests quote_tests past_tests booking_tests ◌then◌
  tests_are = go byInput
    where
      go :
          (i : Bool)
          → let r = result_of i t b zero_in (vault_amount i t zero_in amount) in
          all_tests i t status b direction amount limit clock then (pay_tests zero_in zero_fee r b then rings)
          ≡ swap_tests i zero_in fee zero_fee r t status b ring e direction amount limit clock
      go true = refl
      go false = refl

  -- ---- the stages, as the code has them
  abbrev after : Quote → Books → Update → SwapAfter
  after q c u = record { books = c; ring = after_of u; receipt = swap_receipt byInput zero_in zero_fee q.result q.charged clock; update = Ok u }

  abbrev ringed : Quote → Books → Result SwapAfter ℕ
  ringed q c = next (observed ring e clock (price q.net0 q.net1) (price q.net1 q.net0)) (λ u. Ok (after q c u))

  abbrev pub stages : Result SwapAfter ℕ
  stages =
      next (quote_of byInput t status b direction amount limit clock) (λ q.
      next (paid_at zero_in zero_fee q.result b) (λ c. ringed q c))

  abbrev good : SwapAfter
  good = accepted_swap byInput zero_in zero_fee s charges (booked zero_in zero_fee s.protocol s.fund s.creator b.fees) b ring e price0 price1 clock

  ringed_is : ringed quoted paid ≡ outcome rings Err (Ok good)
  unfolding observed accepted_swap
  ringed_is = staged rings (accepted_update ring e clock price0 price1) _

  paid_is : next (paid_at zero_in zero_fee s b) (λ c. ringed quoted c) ≡ outcome (pays then rings) Err (Ok good)
  unfolding paid_at
  paid_is = staged pays paid _ ∙ ap (outcome pays Err) ringed_is ∙ outcome_then pays rings Err (Ok good)

  pub stages_are : stages ≡ swap_answer byInput t status b ring e direction amount limit clock
  unfolding quote_of swap_answer
  stages_are =
      staged quotes quoted _
      ∙ ap (outcome quotes Err) paid_is
      ∙ outcome_then quotes (pays then rings) Err (Ok good)
      ∙ ap (λ (ts : Tests). outcome ts Err (Ok good)) tests_are

  -- a refused one leaves all as it was
  abbrev pub given : Result SwapAfter ℕ → SwapAfter
  given (Ok a) = a
  given (Err n) = refused_swap b ring n

  pub given_is : given (swap_answer byInput t status b ring e direction amount limit clock) ≡ swap_after byInput t status b ring e direction amount limit clock
  unfolding swap_answer swap_after
  given_is = outcome_map given _ Err (Ok good)
