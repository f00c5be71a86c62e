-- On a free exchange day a swap moves what the curve gives or asks, and no fee is charged. No test of a swap gives 4.
-- Assumes nothing.
use Prim.Native.Nat.{ℕ, ◌+◌, ◌-◌}
use mathlib.Core.Path.{◌≡◌, refl, sym, ◌∙◌}
use mathlib.Core.Bool.{Bool, true, false, cond, not, ◌&&◌, false≢true}
use mathlib.Core.List.{[], ◌∷◌}
use native.Mathlib.Nat.{mul-zero, zero-mul, sub_self, sub-zero}
use native.Mathlib.Omega.{arith}
use lib.Dec.{eqb}
use borrow.Author.Tests.{eqb-false}
use Rattle.refusal.specs.Tests.{Tests, ◌then◌, outcome}
use Rattle.rates.specs.declared.Rates.{Rates}
use Rattle.rates.specs.Rates.{rate_limits, on_input}
use Rattle.fees.specs.Fees.{fee_up, fee_down, split, pre_fee}
use Rattle.curve.specs.ConstantProduct.{swap_out, swap_in}
use Rattle.calculator.specs.Calculator.{charged, swap_base_input, curve_output, curve_input, with_fees, swap_base_output}
use Rattle.accounting.specs.Counters.{counter_tests}
use Rattle.receipt.specs.Receipt.{refusal}
use Rattle.swap.specs.declared.SwapAfter.{SwapAfter}
use Rattle.swap.specs.Swap.{last_tests, input_tests, output_tests, refused_swap, swap_receipt, accepted_swap, swap_after}
use Rattle.edges.specs.FreeDays.{free_of_fees, FreeDays, NoSwapAnswers4}

-- ---- nothing of an amount, anything of nothing
no_fee : (amount : ℕ) → fee_up amount 0 ≡ 0
unfolding fee_up
no_fee amount = rw (mul-zero amount) refl

no_share : (rate : ℕ) → fee_down 0 rate ≡ 0
unfolding fee_down
no_share rate = rw (zero-mul rate) refl

charged_nothing : (rates : Rates) (input output : ℕ) → charged rates input output 0 0 ≡ free_of_fees input output
unfolding charged
charged_nothing rates input output = rw (no_share rates.protocol, no_share rates.fund) refl

-- ---- at a rate sum of 0
module _ (rates : Rates) (creator x y amount : ℕ) (free : rates.trade + creator ≡ 0) where
  no_trade_lem : rates.trade ≡ 0
  no_trade_lem = omega arith

  no_creator : creator ≡ 0
  no_creator = omega arith

  no_split : (total : ℕ) → split total rates.trade creator ≡ 0
  unfolding split
  no_split total = rw free refl

  by_input : (on_input : Bool) → swap_base_input on_input rates creator x y amount ≡ free_of_fees amount (swap_out x y amount)
  unfolding swap_base_input
  by_input true = rw (free, no_fee amount, no_split 0, sub-zero amount) (charged_nothing _ _ _)
  by_input false =
      let out : ℕ = swap_out x y amount in
      rw (no_trade_lem, no_creator, no_fee amount, sub-zero amount, no_fee out, sub-zero out) (charged_nothing _ _ _)

  by_output : (on_input : Bool) → swap_base_output on_input rates creator x y amount ≡ free_of_fees (swap_in x y amount) amount
  unfolding swap_base_output with_fees curve_input curve_output pre_fee
  by_output true =
      let asked : ℕ = swap_in x y amount in
      rw (free, no_split (asked - asked), sub_self asked) (charged_nothing _ _ _)
  by_output false =
      let asked : ℕ = swap_in x y amount in
      rw (no_trade_lem, no_creator, sub_self asked, sub_self amount) (charged_nothing _ _ _)

pub free_days : FreeDays
free_days t b zeroIn amount free =
    let side : Bool = on_input t.fee_model zeroIn in
    (by_input _ _ _ _ _ free side, by_output _ _ _ _ _ free side)

-- ---- no test gives 4
abbrev lacks4 : Tests → Bool
lacks4 [] = true
lacks4 (t ∷ ts) = not (eqb t.1 4) && lacks4 ts

-- then neither does the swap
abbrev number_of : SwapAfter → ℕ
number_of d = d.receipt.number

never4 :
    (refused : ℕ → SwapAfter) (accepted : SwapAfter) → ((n : ℕ) → number_of (refused n) ≡ n) → number_of accepted ≡ 0
    → (ts : Tests) → lacks4 ts ≡ true → number_of (outcome ts refused accepted) ≡ 4 → ⊥
unfolding outcome
never4 refused accepted r a [] l e = omega (arith, a, e)
never4 refused accepted r a (t ∷ ts) l e = go t.0 (eqb t.1 4) refl l e (never4 refused accepted r a ts)
  where
    go :
        (b c : Bool) → eqb t.1 4 ≡ c → (not c && lacks4 ts) ≡ true → number_of (cond b (refused t.1) (outcome ts refused accepted)) ≡ 4
        → (lacks4 ts ≡ true → number_of (outcome ts refused accepted) ≡ 4 → ⊥) → ⊥
    go b true f l e rest = false≢true l
    go true false f l e rest = eqb-false t.1 4 f (sym (r t.1) ∙ e)
    go false false f l e rest = rest l e

pub no_swap_answers_4 : NoSwapAnswers4
unfolding swap_after input_tests output_tests last_tests rate_limits counter_tests ◌then◌ refused_swap refusal accepted_swap swap_receipt
no_swap_answers_4 true t status b ring e direction amount limit clock = never4 _ _ (λ n. refl) refl _ refl
no_swap_answers_4 false t status b ring e direction amount limit clock = never4 _ _ (λ n. refl) refl _ refl
