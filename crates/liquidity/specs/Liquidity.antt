-- Document 01, 'Deposit' (lp, two maximums) and 'Withdrawal' (lp, the owner's LP, two minimums), with document 02 (b), (c) and (e), over the
-- tokens' charges c, the status and the books b.
use Rattle.std.specs.Prelude.{ℕ, ◌+◌, ◌-◌, min, Bool, true, false, [], ◌∷◌, ltb, eqb}
use Rattle.refusal.specs.Refusal.{require_violated, not_approved, panicked, exceeded_slippage, math_overflow, transfer_fee_calculate_not_match, left_lp_amount_too_less}
use Rattle.refusal.specs.Tests.{Tests, ◌then◌, past, outcome}
use Rattle.accounting.specs.declared.Books.{Books}
use Rattle.accounting.specs.Counters.{net0, net1, counter_tests}
use Rattle.accounting.specs.Locked.{lock_lp_amount}
use Rattle.charge.specs.declared.Charges.{Charges}
use Rattle.charge.specs.declared.Charged.{Charged}
use Rattle.charge.specs.Charge.{rest_of, least_sent, charged_on}
use Rattle.receipt.specs.declared.BooksAfter.{BooksAfter}
use Rattle.receipt.specs.Kind.{deposit_kind, withdraw_kind}
use Rattle.receipt.specs.Receipt.{amounts, refused_books}
use Rattle.status.specs.Status.{bit}
use Rattle.worth.specs.Worth.{amount_tests, part}

-- ---- deposit
-- bit 0 set, 1; lp 0, 10; 8, 7; none or an amount 0, 4; an amount past u64, 11; no u64 can be sent that leaves an amount, 14; what is sent above a
-- maximum, 2; vault 8; supply past u64, 11. The amounts are those that reach the vaults
unfoldable pub deposit_tests : ℕ → ℕ → ℕ → ℕ → ℕ → Books → ℕ → ℕ → ℕ → Tests
deposit_tests amount0 amount1 sent0 sent1 status b lp maximum0 maximum1 =
    (bit 0 status, not_approved)
    ∷ (eqb lp 0, require_violated)
    ∷ (counter_tests b
    then (amount_tests amount0 amount1 b.supply
    then ((past sent0, transfer_fee_calculate_not_match)
    ∷ (past sent1, transfer_fee_calculate_not_match)
    ∷ (ltb maximum0 sent0, exceeded_slippage)
    ∷ (ltb maximum1 sent1, exceeded_slippage)
    ∷ (past (b.vault0 + amount0), math_overflow)
    ∷ (past (b.vault1 + amount1), math_overflow)
    ∷ (past (b.supply + lp), panicked)
    ∷ [])))

abbrev pub deposited : ℕ → ℕ → Charged → Books → ℕ → BooksAfter
deposited amount0 amount1 charged b lp = record {
  books = record { vault0 = b.vault0 + amount0; vault1 = b.vault1 + amount1; fees = b.fees; supply = b.supply + lp };
  receipt = amounts deposit_kind amount0 amount1 0 0 lp charged;
}

-- the sent amounts are the least whose rests are the amounts, and bear the charges
unfoldable pub deposit_at : ℕ → ℕ → Charges → ℕ → Books → ℕ → ℕ → ℕ → BooksAfter
deposit_at amount0 amount1 c status b lp maximum0 maximum1 =
    let sent0 = least_sent c.token0 amount0 in
    let sent1 = least_sent c.token1 amount1 in
    outcome (deposit_tests amount0 amount1 sent0 sent1 status b lp maximum0 maximum1) (refused_books b)
    (deposited amount0 amount1 (charged_on c sent0 sent1) b lp)

-- for deposits the amounts are rounded up
unfoldable pub deposit_after : Charges → ℕ → Books → ℕ → ℕ → ℕ → BooksAfter
deposit_after c status b lp maximum0 maximum1 =
    deposit_at (part true lp b.supply (net0 b)) (part true lp b.supply (net1 b)) c status b lp maximum0 maximum1

-- ---- withdrawal
-- bit 1, 1; lp 0 or above the owner's, 10; 8, 7; 4; 11; amounts capped at the nets, then charged; what is received below a minimum, 2; lp above
-- supply, 11; fewer than 100 LP are left, 15
unfoldable pub withdraw_tests : ℕ → ℕ → ℕ → ℕ → ℕ → Books → ℕ → ℕ → ℕ → ℕ → Tests
withdraw_tests amount0 amount1 received0 received1 status b lp owned minimum0 minimum1 =
    (bit 1 status, not_approved)
    ∷ (eqb lp 0, require_violated)
    ∷ (ltb owned lp, require_violated)
    ∷ (counter_tests b
    then (amount_tests amount0 amount1 b.supply
    then ((ltb received0 minimum0, exceeded_slippage)
    ∷ (ltb received1 minimum1, exceeded_slippage)
    ∷ (ltb b.supply lp, panicked)
    ∷ (ltb (b.supply - lp) lock_lp_amount, left_lp_amount_too_less)
    ∷ [])))

abbrev pub withdrawn : ℕ → ℕ → Charged → Books → ℕ → BooksAfter
withdrawn paid0 paid1 charged b lp = record {
  books = record { vault0 = b.vault0 - paid0; vault1 = b.vault1 - paid1; fees = b.fees; supply = b.supply - lp };
  receipt = amounts withdraw_kind 0 0 paid0 paid1 lp charged;
}

unfoldable pub withdraw_at : ℕ → ℕ → ℕ → ℕ → Charges → ℕ → Books → ℕ → ℕ → ℕ → ℕ → BooksAfter
withdraw_at amount0 amount1 paid0 paid1 c status b lp owned minimum0 minimum1 =
    outcome
    (withdraw_tests amount0 amount1 (rest_of c.token0 paid0) (rest_of c.token1 paid1) status b lp owned minimum0 minimum1)
    (refused_books b)
    (withdrawn paid0 paid1 (charged_on c paid0 paid1) b lp)

-- amounts capped at the nets
abbrev pub paid : ℕ → ℕ → ℕ → ℕ
paid lp supply net = min net (part false lp supply net)

unfoldable pub withdraw_after : Charges → ℕ → Books → ℕ → ℕ → ℕ → ℕ → BooksAfter
withdraw_after c status b lp owned minimum0 minimum1 =
    withdraw_at (part false lp b.supply (net0 b)) (part false lp b.supply (net1 b))
    (paid lp b.supply (net0 b)) (paid lp b.supply (net1 b))
    c status b lp owned minimum0 minimum1

-- ---- both as one call
abbrev pub change_after : Bool → Charges → ℕ → Books → ℕ → ℕ → ℕ → ℕ → BooksAfter
change_after true c status b lp owned maximum0 maximum1 = deposit_after c status b lp maximum0 maximum1
change_after false c status b lp owned minimum0 minimum1 = withdraw_after c status b lp owned minimum0 minimum1
