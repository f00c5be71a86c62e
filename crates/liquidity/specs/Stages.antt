-- What the private steps of this crate answer. No public definition rests on these.
use Rattle.std.specs.Prelude.{Result, Ok, Err, ℕ, ◌+◌, ◌-◌, Bool, true, false, [], ◌∷◌, ltb, eqb}
use Rattle.refusal.specs.Refusal.{require_violated, not_approved, panicked, exceeded_slippage, math_overflow, transfer_fee_calculate_not_match, left_lp_amount_too_less}
use Rattle.refusal.specs.Tests.{Tests, past, outcome}
use Rattle.accounting.specs.declared.Books.{Books}
use Rattle.accounting.specs.Counters.{net0, net1}
use Rattle.accounting.specs.Locked.{lock_lp_amount}
use Rattle.charge.specs.declared.Charges.{Charges}
use Rattle.charge.specs.declared.Charged.{Charged}
use Rattle.charge.specs.Charge.{rest_of, least_sent, charged_on}
use Rattle.receipt.specs.declared.BooksAfter.{BooksAfter}
use Rattle.status.specs.Status.{bit}
use Rattle.worth.specs.Worth.{part}
use Rattle.liquidity.specs.Liquidity.{deposit_tests, deposited, withdraw_tests, withdrawn, paid}

-- the tests before the nets'
abbrev pub front_tests : Bool → ℕ → ℕ → ℕ → Tests
front_tests true status lp owned = (bit 0 status, not_approved) ∷ (eqb lp 0, require_violated) ∷ []
front_tests false status lp owned = (bit 1 status, not_approved) ∷ (eqb lp 0, require_violated) ∷ (ltb owned lp, require_violated) ∷ []

-- a deposit whose limits are kept: vault 8; supply past u64, 11
abbrev pub room_tests : ℕ → ℕ → Books → ℕ → Tests
room_tests amount0 amount1 b lp =
    (past (b.vault0 + amount0), math_overflow) ∷ (past (b.vault1 + amount1), math_overflow) ∷ (past (b.supply + lp), panicked) ∷ []

abbrev pub booked_deposit : ℕ → ℕ → Charged → Books → ℕ → Result BooksAfter ℕ
booked_deposit amount0 amount1 charged b lp = outcome (room_tests amount0 amount1 b lp) Err (Ok (deposited amount0 amount1 charged b lp))

-- the amounts at the vaults are known: no u64 can be sent that leaves one, 14; what is sent above a maximum, 2
abbrev pub deposit_last : ℕ → ℕ → ℕ → ℕ → Books → ℕ → ℕ → ℕ → Tests
deposit_last amount0 amount1 sent0 sent1 b lp maximum0 maximum1 =
    (past sent0, transfer_fee_calculate_not_match)
    ∷ (past sent1, transfer_fee_calculate_not_match)
    ∷ (ltb maximum0 sent0, exceeded_slippage)
    ∷ (ltb maximum1 sent1, exceeded_slippage)
    ∷ room_tests amount0 amount1 b lp

abbrev pub deposit_rest : ℕ → ℕ → Charges → Books → ℕ → ℕ → ℕ → Result BooksAfter ℕ
deposit_rest amount0 amount1 c b lp maximum0 maximum1 =
    outcome (deposit_last amount0 amount1 (least_sent c.token0 amount0) (least_sent c.token1 amount1) b lp maximum0 maximum1) Err
    (Ok (deposited amount0 amount1 (charged_on c (least_sent c.token0 amount0) (least_sent c.token1 amount1)) b lp))

-- what is received below a minimum, 2; lp above supply, 11; fewer than 100 LP are left, 15
abbrev pub withdraw_last : ℕ → ℕ → Books → ℕ → ℕ → ℕ → Tests
withdraw_last received0 received1 b lp minimum0 minimum1 =
    (ltb received0 minimum0, exceeded_slippage)
    ∷ (ltb received1 minimum1, exceeded_slippage)
    ∷ (ltb b.supply lp, panicked)
    ∷ (ltb (b.supply - lp) lock_lp_amount, left_lp_amount_too_less)
    ∷ []

abbrev pub withdraw_rest : ℕ → ℕ → Charges → Books → ℕ → ℕ → ℕ → Result BooksAfter ℕ
withdraw_rest paid0 paid1 c b lp minimum0 minimum1 =
    outcome (withdraw_last (rest_of c.token0 paid0) (rest_of c.token1 paid1) b lp minimum0 minimum1) Err
    (Ok (withdrawn paid0 paid1 (charged_on c paid0 paid1) b lp))

-- a whole deposit or withdrawal: the books and the receipt after it, or the number that refuses it
unfoldable pub changed : Bool → Charges → ℕ → Books → ℕ → ℕ → ℕ → ℕ → Result BooksAfter ℕ
changed true c status b lp owned maximum0 maximum1 =
    let amount0 = part true lp b.supply (net0 b) in
    let amount1 = part true lp b.supply (net1 b) in
    let sent0 = least_sent c.token0 amount0 in
    let sent1 = least_sent c.token1 amount1 in
    outcome (deposit_tests amount0 amount1 sent0 sent1 status b lp maximum0 maximum1) Err
    (Ok (deposited amount0 amount1 (charged_on c sent0 sent1) b lp))
changed false c status b lp owned minimum0 minimum1 =
    let paid0 = paid lp b.supply (net0 b) in
    let paid1 = paid lp b.supply (net1 b) in
    outcome
    (withdraw_tests (part false lp b.supply (net0 b)) (part false lp b.supply (net1 b)) (rest_of c.token0 paid0) (rest_of c.token1 paid1) status b lp
    owned minimum0 minimum1)
    Err
    (Ok (withdrawn paid0 paid1 (charged_on c paid0 paid1) b lp))
