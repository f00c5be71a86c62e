-- A swap's rate limits come first, then closed, then the amount; of deposits and withdrawals closed, then the amount.
-- Assumes nothing.
use Prim.Native.Nat.{ℕ, ◌+◌}
use mathlib.Core.Path.{◌≡◌, refl, sym, ap, ◌∙◌}
use mathlib.Core.Bool.{Bool, true, false, cond}
use native.Mathlib.Omega.{arith}
use lib.Dec.{ltb, eqb}
use Rattle.refusal.specs.Tests.{Tests, ◌then◌, outcome}
use Rattle.refusal.proofs.Stops.{one_of, neither, outcome_at}
use Rattle.fees.specs.Fees.{million}
use Rattle.rates.specs.declared.Terms.{Terms}
use Rattle.rates.specs.Rates.{highest_fee_rate, rate_limits}
use Rattle.accounting.specs.declared.Books.{Books}
use Rattle.charge.specs.declared.Charge.{Charge}
use Rattle.charge.specs.declared.Charges.{Charges}
use Rattle.charge.specs.Charge.{rest_of}
use Rattle.charge.proofs.Rest.{rest_le}
use Rattle.oracle.specs.declared.Ring.{Ring}
use Rattle.oracle.specs.Ring.{Entry}
use Rattle.receipt.specs.Receipt.{refused_books}
use Rattle.status.specs.Status.{bit}
use Rattle.liquidity.specs.Liquidity.{deposit_tests, deposit_at, deposit_after, withdraw_tests, withdraw_at, withdraw_after}
use Rattle.quotes.specs.Quotes.{charge_in, looked, front_tests}
use Rattle.swap.specs.declared.SwapAfter.{SwapAfter}
use Rattle.swap.specs.Swap.{input_tests, output_tests, refused_swap, swap_after}
use Rattle.edges.specs.Closed.{past_limits, closed_to_swaps, SwapOrder, DepositOrder, WithdrawalOrder, ClosedBeforeNothing}

is_none : (n : ℕ) → n ≡ 0 → eqb n 0 ≡ true
is_none n e = ap (λ (n : ℕ). eqb n 0) e

-- ---- both swaps' front, whatever follows it
module _ (t : Terms) (status direction amount clock : ℕ) (rest : Tests) (bad : ℕ → SwapAfter) (good : SwapAfter) where
  abbrev came : SwapAfter
  came = outcome (front_tests t status direction amount clock then rest) bad good

  abbrev rates : Bool
  rates = ltb highest_fee_rate (t.rates.trade + t.rates.creator)

  abbrev shares : Bool
  shares = ltb million (t.rates.protocol + t.rates.fund)

  past_limits_lem : past_limits t ≡ true → came ≡ bad 3
  unfolding rate_limits ◌then◌
  past_limits_lem h = one_of rates shares h (λ e. sym (outcome_at 0 _ bad good e)) (λ e f. sym (outcome_at 1 _ bad good (e, f)))

  module _ (h : past_limits t ≡ false) where
    while_closed : closed_to_swaps t status clock ≡ true → came ≡ bad 1
    unfolding rate_limits ◌then◌
    while_closed c =
        let l = neither rates shares h in
        one_of (bit 2 status) (ltb clock t.open_time) c
        (λ e. sym (outcome_at 2 _ bad good (l.0, (l.1, e))))
        (λ e f. sym (outcome_at 3 _ bad good (l.0, (l.1, (e, f)))))

    asked_for_none : closed_to_swaps t status clock ≡ false → amount ≡ 0 → came ≡ bad 10
    unfolding rate_limits ◌then◌
    asked_for_none c a =
        let l = neither rates shares h in
        let o = neither (bit 2 status) (ltb clock t.open_time) c in
        sym (outcome_at 4 _ bad good (l.0, (l.1, (o.0, (o.1, is_none amount a)))))

-- either swap begins with it, on an amount of which nothing is left where it is 0
module _ (byInput : Bool) (t : Terms) (status : ℕ) (b : Books) (ring : Ring) (e : Entry) (direction amount limit clock : ℕ) where
  ordered :
      (seen : ℕ) → (amount ≡ 0 → seen ≡ 0) → (rest : Tests) (good : SwapAfter)
      → swap_after byInput t status b ring e direction amount limit clock ≡ came t status direction seen clock rest (refused_swap b ring) good
      → SwapOrder byInput t status b ring e direction amount limit clock
  ordered seen z rest good f = record {
    limits = λ h. f ∙ past_limits_lem t status direction seen clock rest (refused_swap b ring) good h;
    closed = λ h c. f ∙ while_closed t status direction seen clock rest (refused_swap b ring) good h c;
    none = λ h c a. f ∙ asked_for_none t status direction seen clock rest (refused_swap b ring) good h c (z a);
  }

nothing_arrives : (c : Charge) (direction amount : ℕ) → amount ≡ 0 → looked true direction amount (rest_of c amount) ≡ 0
nothing_arrives c direction amount e = go (ltb 1 direction)
  where
    go : (b : Bool) → cond b amount (rest_of c amount) ≡ 0
    go true = e
    go false = let l = rest_le c amount in omega arith

swap_order :
    (byInput : Bool) (t : Terms) (status : ℕ) (b : Books) (ring : Ring) (e : Entry) (direction amount limit clock : ℕ)
    → SwapOrder byInput t status b ring e direction amount limit clock
unfolding swap_after input_tests output_tests
swap_order true t status b ring e direction amount limit clock =
    ordered true t status b ring e direction amount limit clock _ (nothing_arrives (charge_in (eqb direction 0) t) direction amount) _ _ refl
swap_order false t status b ring e direction amount limit clock = ordered false t status b ring e direction amount limit clock _ (λ a. a) _ _ refl

-- ---- deposits and withdrawals
deposit_order : (c : Charges) (status : ℕ) (b : Books) (lp maximum0 maximum1 : ℕ) → DepositOrder c status b lp maximum0 maximum1
unfolding deposit_after deposit_at deposit_tests
deposit_order c status b lp maximum0 maximum1 = record {
  closed = λ h. sym (outcome_at 0 _ (refused_books b) _ h);
  none = λ h e. sym (outcome_at 1 _ (refused_books b) _ (h, is_none lp e));
}

withdrawal_order : (c : Charges) (status : ℕ) (b : Books) (lp owned minimum0 minimum1 : ℕ) → WithdrawalOrder c status b lp owned minimum0 minimum1
unfolding withdraw_after withdraw_at withdraw_tests
withdrawal_order c status b lp owned minimum0 minimum1 = record {
  closed = λ h. sym (outcome_at 0 _ (refused_books b) _ h);
  amount = λ h r.
      one_of (eqb lp 0) (ltb owned lp) r
      (λ e. sym (outcome_at 1 _ (refused_books b) _ (h, e)))
      (λ e f. sym (outcome_at 2 _ (refused_books b) _ (h, (e, f))));
}

pub closed_before_nothing : ClosedBeforeNothing
closed_before_nothing = record { swaps = swap_order; deposits = deposit_order; withdrawals = withdrawal_order }
