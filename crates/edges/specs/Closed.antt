-- Document 02 (b), 'Closed comes before nothing': what it means for every swap, deposit and withdrawal. The order is fixed: a swap's rate
-- limits, 3; closed to such calls, 1; the amount, 10. The pool's calls are `swap_after`, `deposit_after` and `withdraw_after`; over plain memory only
-- a record that is no pool, 3, comes before.
use Rattle.std.specs.Prelude.{ℕ, ◌+◌, ◌≡◌, Bool, true, false, ◌||◌, ltb, eqb}
use Rattle.refusal.specs.Refusal.{not_approved, invalid_input, require_violated}
use Rattle.fees.specs.Fees.{million}
use Rattle.rates.specs.declared.Terms.{Terms}
use Rattle.rates.specs.Rates.{highest_fee_rate}
use Rattle.accounting.specs.declared.Books.{Books}
use Rattle.charge.specs.declared.Charges.{Charges}
use Rattle.oracle.specs.declared.Ring.{Ring}
use Rattle.oracle.specs.Ring.{Entry}
use Rattle.receipt.specs.Receipt.{refused_books}
use Rattle.status.specs.Status.{bit}
use Rattle.liquidity.specs.Liquidity.{deposit_after, withdraw_after}
use Rattle.swap.specs.Swap.{refused_swap, swap_after}

-- trade + creator above 999,999 or protocol + fund above 1,000,000
abbrev pub past_limits : Terms → Bool
past_limits t = ltb highest_fee_rate (t.rates.trade + t.rates.creator) || ltb million (t.rates.protocol + t.rates.fund)

-- bit 2 set or clock before open time
abbrev pub closed_to_swaps : Terms → ℕ → ℕ → Bool
closed_to_swaps t status clock = bit 2 status || ltb clock t.open_time

-- a withdrawal's amount is refused: lp 0 or above the owner's
abbrev pub amount_refused : ℕ → ℕ → Bool
amount_refused lp owned = eqb lp 0 || ltb owned lp

-- either swap, whatever else it asks
pub record SwapOrder (byInput : Bool) (t : Terms) (status : ℕ) (b : Books) (ring : Ring) (e : Entry) (direction amount limit clock : ℕ) : Type 0 where
  pub limits :
      past_limits t ≡ true
      → swap_after byInput t status b ring e direction amount limit clock ≡ refused_swap b ring invalid_input
  pub closed :
      past_limits t ≡ false → closed_to_swaps t status clock ≡ true
      → swap_after byInput t status b ring e direction amount limit clock ≡ refused_swap b ring not_approved
  pub none :
      past_limits t ≡ false → closed_to_swaps t status clock ≡ false → amount ≡ 0
      → swap_after byInput t status b ring e direction amount limit clock ≡ refused_swap b ring require_violated

-- deposits and withdrawals look at no open time
pub record DepositOrder (c : Charges) (status : ℕ) (b : Books) (lp maximum0 maximum1 : ℕ) : Type 0 where
  pub closed : bit 0 status ≡ true → deposit_after c status b lp maximum0 maximum1 ≡ refused_books b not_approved
  pub none : bit 0 status ≡ false → lp ≡ 0 → deposit_after c status b lp maximum0 maximum1 ≡ refused_books b require_violated

pub record WithdrawalOrder (c : Charges) (status : ℕ) (b : Books) (lp owned minimum0 minimum1 : ℕ) : Type 0 where
  pub closed : bit 1 status ≡ true → withdraw_after c status b lp owned minimum0 minimum1 ≡ refused_books b not_approved
  pub amount :
      bit 1 status ≡ false → amount_refused lp owned ≡ true
      → withdraw_after c status b lp owned minimum0 minimum1 ≡ refused_books b require_violated

pub record ClosedBeforeNothing : Type 0 where
  pub swaps :
      (byInput : Bool) (t : Terms) (status : ℕ) (b : Books) (ring : Ring) (e : Entry) (direction amount limit clock : ℕ)
      → SwapOrder byInput t status b ring e direction amount limit clock
  pub deposits : (c : Charges) (status : ℕ) (b : Books) (lp maximum0 maximum1 : ℕ) → DepositOrder c status b lp maximum0 maximum1
  pub withdrawals : (c : Charges) (status : ℕ) (b : Books) (lp owned minimum0 minimum1 : ℕ) → WithdrawalOrder c status b lp owned minimum0 minimum1
