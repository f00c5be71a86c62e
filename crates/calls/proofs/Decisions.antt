-- Every call, and the opening, as its tests and what it gives where all of them are passed.
-- Assumes nothing.
use Prim.Native.Nat.{ℕ}
use mathlib.Core.Path.{◌≡◌, refl, ap, ◌∙◌}
use mathlib.Core.Bool.{Bool, true, false, ◌&&◌}
use mathlib.Core.List.{[], ◌∷◌}
use lib.Dec.{eqb, leb}
use Rattle.refusal.specs.Tests.{Tests, ◌then◌, outcome}
use Rattle.refusal.proofs.Stops.{numbered, outcome_map}
use Rattle.fees.specs.Fees.{fee_down}
use Rattle.rates.specs.Rates.{rate_limits, on_input}
use Rattle.calculator.specs.declared.SwapResult.{SwapResult}
use Rattle.accounting.specs.Counters.{counter_tests}
use Rattle.charge.specs.declared.Charged.{Charged}
use Rattle.charge.specs.Charge.{rest_of, least_sent, nothing_charged, charged_on}
use Rattle.accounting.specs.Booking.{creator_token, booked}
use Rattle.oracle.specs.Ring.{seen, price}
use Rattle.receipt.specs.Kind.{opening_kind as kind}
use Rattle.receipt.specs.Receipt.{refused_books, amounts}
use Rattle.status.specs.Status.{flagged, status_tests, status_after}
use Rattle.receipt.specs.Kind.{set_status_kind as statusKind}
use Rattle.settlement.specs.Settlement.{settlement_tests, settlement_receipt, settled, settlement_at, settlement_after}
use Rattle.worth.specs.Worth.{amount_tests, part}
use Rattle.liquidity.specs.Liquidity.{deposit_tests, deposited, deposit_at, deposit_after, paid, withdraw_tests, withdrawn, withdraw_at, withdraw_after}
use Rattle.opening.specs.declared.Opening.{Opening}
use Rattle.opening.specs.declared.OpeningAfter.{OpeningAfter}
use Rattle.opening.specs.Opening.{supply_of, opening_tests, books_with, opened_terms, refused_opening, opening_after}
use Rattle.quotes.specs.Quotes.{vault_amount, charged_of, result_of}
use Rattle.swap.specs.Swap.{last_tests, input_tests, output_tests, swap_tests, refused_swap, swap_receipt, accepted_swap, swap_after}
use Rattle.pool.specs.State.{net0, net1, start_with, refused, booked_in, standing_in, swapped_in, Done, done_of}
use Rattle.pool.specs.Calls.{zero_pool, zero_entries, opening, decision_of, swap_base_input, swap_base_output, deposit, withdraw, settlement, set_status}
use Rattle.calls.specs.declared.Call.{Call}
use Rattle.calls.specs.declared.Call.TheVariants.{SwapBaseInput, SwapBaseOutput, Deposit, Withdraw, Settle, SetStatus}
use Rattle.calls.specs.Next.{State, besides, next}

-- ---- the tests of a call at a point, and what it gives past all of them
pub record Decision : Type 0 where
  pub tests : Tests
  pub accepted : Done

-- either swap: the side of its creator fee, what it moves and charges, its tests and what it gives
abbrev pub fee_on_input : State → ℕ → Bool
fee_on_input s direction = on_input s.pool.terms.fee_model (eqb direction 0)

abbrev pub swap_of : Bool → State → ℕ → ℕ → SwapResult
swap_of byInput s direction amount =
    result_of byInput s.pool.terms s.pool.books (eqb direction 0) (vault_amount byInput s.pool.terms (eqb direction 0) amount)

-- and the charges on its transfers
abbrev pub charges_of : Bool → State → ℕ → ℕ → Charged
charges_of byInput s direction amount = charged_of byInput s.pool.terms (eqb direction 0) amount (swap_of byInput s direction amount)

abbrev pub accepted_at : Bool → State → Bool → Bool → SwapResult → Charged → ℕ → Done
accepted_at byInput s zeroIn zeroFee swap charged clock =
    let p = s.pool in
    done_of s.entries
    (swapped_in p
    (accepted_swap byInput zeroIn zeroFee swap charged (booked zeroIn zeroFee swap.protocol swap.fund swap.creator p.books.fees) p.books p.ring
    (seen p.ring s.entries) (price (net0 p) (net1 p)) (price (net1 p) (net0 p)) clock))

abbrev pub swap_decision : Bool → State → ℕ → ℕ → ℕ → ℕ → Decision
swap_decision byInput s direction amount limit clock =
    let p = s.pool in
    let zeroIn = eqb direction 0 in
    let zeroFee = creator_token (fee_on_input s direction) zeroIn in
    let swap = swap_of byInput s direction amount in
    record {
      tests =
          swap_tests byInput zeroIn (fee_on_input s direction) zeroFee swap p.terms p.status p.books p.ring (seen p.ring s.entries)
          direction amount limit clock;
      accepted = accepted_at byInput s zeroIn zeroFee swap (charges_of byInput s direction amount) clock;
    }

unfoldable pub decision : State → Call → Decision
decision s (SwapBaseInput direction amount minimum clock) = swap_decision true s direction amount minimum clock
decision s (SwapBaseOutput direction amount maximum clock) = swap_decision false s direction amount maximum clock
decision s (Deposit lp maximum0 maximum1) =
    let p = s.pool in
    let b = p.books in
    let amount0 = part true lp.0 b.supply (net0 p) in
    let amount1 = part true lp.0 b.supply (net1 p) in
    let sent0 = least_sent p.terms.charges.token0 amount0 in
    let sent1 = least_sent p.terms.charges.token1 amount1 in
    record {
      tests = deposit_tests amount0 amount1 sent0 sent1 p.status b lp.0 maximum0.0 maximum1.0;
      accepted = besides s.entries (booked_in p (deposited amount0 amount1 (charged_on p.terms.charges sent0 sent1) b lp.0));
    }
decision s (Withdraw lp owned minimum0 minimum1) =
    let p = s.pool in
    let b = p.books in
    let amount0 = part false lp.0 b.supply (net0 p) in
    let amount1 = part false lp.0 b.supply (net1 p) in
    let paid0 = paid lp.0 b.supply (net0 p) in
    let paid1 = paid lp.0 b.supply (net1 p) in
    let received0 = rest_of p.terms.charges.token0 paid0 in
    let received1 = rest_of p.terms.charges.token1 paid1 in
    record {
      tests = withdraw_tests amount0 amount1 received0 received1 p.status b lp.0 owned.0 minimum0.0 minimum1.0;
      accepted = besides s.entries (booked_in p (withdrawn paid0 paid1 (charged_on p.terms.charges paid0 paid1) b lp.0));
    }
decision s (Settle share) =
    let p = s.pool in
    let b = p.books in
    let shared0 = fee_down b.fees.creator0 share in
    let shared1 = fee_down b.fees.creator1 share in
    record {
      tests = settlement_tests shared0 shared1 b share;
      accepted = besides s.entries (booked_in p (settled shared0 shared1 p.terms.charges b));
    }
decision s (SetStatus bit flag) = record {
  tests = status_tests bit flag;
  accepted =
      besides s.entries
      (standing_in s.pool (record { status = flagged bit flag s.pool.status; receipt = amounts statusKind 0 0 0 0 0 nothing_charged }));
}

abbrev pub tests_of : State → Call → Tests
tests_of s c = (decision s c).tests

abbrev pub accepted_of : State → Call → Done
accepted_of s c = (decision s c).accepted

-- the opening
unfoldable pub opening_decision : Opening → Decision
opening_decision o = record {
  tests = opening_tests o;
  accepted =
      besides zero_entries
      (record {
        pool = start_with (books_with o.amount0 o.amount1 (supply_of o)) (opened_terms o) o.grid;
        receipt = amounts kind o.amount0 o.amount1 0 0 (supply_of o) nothing_charged;
      });
}

-- ---- these are the calls and the opening
-- the refusal at a point: pool and ring as they were, the number and zeros
abbrev pub refused_at : State → ℕ → Done
refused_at s n = besides s.entries (refused s.pool n)

-- where a refused opening leaves a caller: a pool and entries of zeros
abbrev pub zero_state : State
zero_state = record { pool = zero_pool; entries = zero_entries }

abbrev pub number_of : Done → ℕ
number_of d = d.after.receipt.number

-- every test's number has at most two digits
abbrev pub two_digits : Tests → Bool
two_digits [] = true
two_digits (t ∷ ts) = leb t.1 99 && two_digits ts

-- d comes out of a decision at a point; no test has the number 0, and the accepted result has
pub record Decides (s : State) (k : Decision) (d : Done) : Type 0 where
  pub by_tests : d ≡ outcome k.tests (refused_at s) k.accepted
  pub tests_numbered : numbered k.tests ≡ true
  pub tests_short : two_digits k.tests ≡ true
  pub accepted_zero : number_of k.accepted ≡ 0

-- what comes out over the pool's parts, made into what the call gives
decides :
    {A : Type 0} (s : State) (made : A → Done) (ts : Tests) (bad : ℕ → A) (good : A) {d : Done}
    → d ≡ made (outcome ts bad good) → (λ (n : ℕ). made (bad n)) ≡ refused_at s
    → numbered ts ≡ true → two_digits ts ≡ true → number_of (made good) ≡ 0
    → Decides s (record { tests = ts; accepted = made good }) d
decides s made ts bad good e r n l z = record {
  by_tests = e ∙ outcome_map made ts bad good ∙ ap (λ (bad' : ℕ → Done). outcome ts bad' (made good)) r;
  tests_numbered = n;
  tests_short = l;
  accepted_zero = z;
}

pub call_decides : (s : State) (c : Call) → Decides s (decision s c) (next s c)
unfolding next decision refused refused_books refused_swap decision_of swap_base_input swap_base_output swap_after input_tests output_tests last_tests accepted_swap swap_receipt
    rate_limits counter_tests amount_tests ◌then◌
    deposit deposit_after deposit_at deposit_tests withdraw withdraw_after withdraw_at withdraw_tests
    settlement settlement_after settlement_at settlement_tests settlement_receipt set_status status_after status_tests amounts
call_decides s (SwapBaseInput direction amount minimum clock) = decides s (λ a. done_of s.entries (swapped_in s.pool a)) _ _ _ refl refl refl refl refl
call_decides s (SwapBaseOutput direction amount maximum clock) = decides s (λ a. done_of s.entries (swapped_in s.pool a)) _ _ _ refl refl refl refl refl
call_decides s (Deposit lp maximum0 maximum1) = decides s (λ a. besides s.entries (booked_in s.pool a)) _ _ _ refl refl refl refl refl
call_decides s (Withdraw lp owned minimum0 minimum1) = decides s (λ a. besides s.entries (booked_in s.pool a)) _ _ _ refl refl refl refl refl
call_decides s (Settle share) = decides s (λ a. besides s.entries (booked_in s.pool a)) _ _ _ refl refl refl refl refl
call_decides s (SetStatus bit flag) = decides s (λ a. besides s.entries (standing_in s.pool a)) _ _ _ refl refl refl refl refl

pub opening_decides : (o : Opening) → Decides zero_state (opening_decision o) (opening o)
unfolding opening opening_decision opening_after opening_tests ◌then◌ refused_opening zero_pool refused amounts
opening_decides o =
    decides zero_state (λ (a : OpeningAfter). besides zero_entries (record { pool = start_with a.books a.terms a.grid; receipt = a.receipt })) _ _ _ refl refl refl refl refl
