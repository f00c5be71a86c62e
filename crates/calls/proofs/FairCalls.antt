-- Swaps that pass their tests are fair, and the counters are within the vaults.
-- Assumes nothing.
use Prim.Native.Nat.{ℕ, ◌+◌, ◌≤◌, ◌<◌}
use mathlib.Core.Path.{◌≡◌}
use mathlib.Core.Bool.{Bool, true, false, cond}
use native.Mathlib.Omega.{arith}
use borrow.Author.Tests.{ltb-false, leb-false}
use lib.Dec.{ltb, eqb}
use Rattle.refusal.specs.Tests.{◌then◌}
use Rattle.refusal.proofs.Stops.{Passed}
use Rattle.fees.specs.Fees.{million}
use Rattle.rates.specs.declared.Terms.{Terms}
use Rattle.rates.specs.Rates.{highest_fee_rate, rate_limits, creator_rate}
use Rattle.curve.specs.ConstantProduct.{swap_out}
use Rattle.calculator.specs.Calculator.{curve_input, curve_output}
use Rattle.calculator.proofs.FairSwaps.{entering, Fair, input_fair, output_fair}
use Rattle.accounting.specs.Counters.{counter_tests}
use Rattle.accounting.proofs.Laws.{Covered}
use Rattle.quotes.specs.Quotes.{net_in, net_out, vault_amount}
use Rattle.swap.specs.Swap.{input_tests, output_tests}
use Rattle.calls.specs.Next.{State}
use Rattle.calls.proofs.Decisions.{fee_on_input, swap_of, swap_decision}

-- the tests on the rates leave them within the limits; the creator rate that counts is the pool's or 0
rates_limited : (t : Terms) → ltb highest_fee_rate (t.rates.trade + t.rates.creator) ≡ false → t.rates.trade + creator_rate t < million
rates_limited t e = go t.enabled (ltb-false highest_fee_rate (t.rates.trade + t.rates.creator) e)
  where
    go : (b : Bool) → t.rates.trade + t.rates.creator ≤ highest_fee_rate → t.rates.trade + cond b t.rates.creator 0 < million
    go true l = omega arith
    go false l = omega arith

-- what enters the curve and what leaves it
abbrev pub into_curve : Bool → State → ℕ → ℕ → ℕ
into_curve true s direction amount =
    let t = s.pool.terms in
    entering (fee_on_input s direction) t.rates (creator_rate t) (vault_amount true t (eqb direction 0) amount)
into_curve false s direction amount =
    let t = s.pool.terms in
    let b = s.pool.books in
    let zeroIn = eqb direction 0 in
    curve_input (fee_on_input s direction) (creator_rate t) (net_in zeroIn b) (net_out zeroIn b) (vault_amount false t zeroIn amount)

abbrev pub out_of_curve : Bool → State → ℕ → ℕ → ℕ
out_of_curve true s direction amount =
    let b = s.pool.books in
    let zeroIn = eqb direction 0 in
    swap_out (net_in zeroIn b) (net_out zeroIn b) (into_curve true s direction amount)
out_of_curve false s direction amount =
    let t = s.pool.terms in
    curve_output (fee_on_input s direction) (creator_rate t) (vault_amount false t (eqb direction 0) amount)

-- on the nets of the pool, in that direction
abbrev pub FairAt : Bool → State → ℕ → ℕ → Type 0
FairAt byInput s direction amount =
    let b = s.pool.books in
    let zeroIn = eqb direction 0 in
    Fair (fee_on_input s direction) (net_in zeroIn b) (net_out zeroIn b) (into_curve byInput s direction amount) (out_of_curve byInput s direction amount)
    (swap_of byInput s direction amount)

pub swap_fair :
    (byInput : Bool) (s : State) (direction amount limit clock : ℕ) → Passed (swap_decision byInput s direction amount limit clock).tests
    → FairAt byInput s direction amount
unfolding input_tests output_tests rate_limits counter_tests ◌then◌
swap_fair true s direction amount limit clock t =
    let r = s.pool.terms.rates in
    let trade = rates_limited s.pool.terms t.0 in
    let shares = ltb-false million (r.protocol + r.fund) t.1.0 in
    input_fair r (creator_rate s.pool.terms) _ _ trade shares (fee_on_input s direction) (vault_amount true s.pool.terms (eqb direction 0) amount)
swap_fair false s direction amount limit clock t =
    let r = s.pool.terms.rates in
    let trade = rates_limited s.pool.terms t.0 in
    let shares = ltb-false million (r.protocol + r.fund) t.1.0 in
    output_fair r (creator_rate s.pool.terms) _ _ trade shares (fee_on_input s direction) (vault_amount false s.pool.terms (eqb direction 0) amount) (search leb-false)

pub swap_covered :
    (byInput : Bool) (s : State) (direction amount limit clock : ℕ) → Passed (swap_decision byInput s direction amount limit clock).tests
    → Covered s.pool.books
unfolding input_tests output_tests rate_limits counter_tests ◌then◌
swap_covered true s direction amount limit clock t = record { covered0 = search ltb-false; covered1 = search ltb-false }
swap_covered false s direction amount limit clock t = record { covered0 = search ltb-false; covered1 = search ltb-false }
