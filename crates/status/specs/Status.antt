-- Document 01, 'Status' (bit, flag): the status alone, whose set bits close. Bit 0 closes deposits, 1 withdrawals, 2 swaps.
use Rattle.std.specs.Prelude.{ℕ, ◌+◌, ◌-◌, ◌*◌, ◌/◌, ◌%◌, ◌^◌, Bool, [], ◌∷◌, ltb, eqb}
use Rattle.refusal.specs.Refusal.{invalid_input}
use Rattle.refusal.specs.Tests.{Tests, outcome}
use Rattle.charge.specs.Charge.{nothing_charged}
use Rattle.receipt.specs.Kind.{set_status_kind}
use Rattle.receipt.specs.Receipt.{refusal, amounts}
use Rattle.status.specs.declared.StatusAfter.{StatusAfter}

-- a set bit of the status closes
abbrev pub bit : ℕ → ℕ → Bool
bit b status = eqb (status / 2 ^ b % 2) 1

-- flag 0 clears the bit, 1 sets it; the others stay
unfoldable pub flagged : ℕ → ℕ → ℕ → ℕ
flagged bit flag status = status - status / 2 ^ bit % 2 * 2 ^ bit + flag * 2 ^ bit

-- bit above 2 or flag above 1, 3
unfoldable pub status_tests : ℕ → ℕ → Tests
status_tests bit flag =
    (ltb 2 bit, invalid_input)
    ∷ (ltb 1 flag, invalid_input)
    ∷ []

unfoldable pub status_after : ℕ → ℕ → ℕ → StatusAfter
status_after status bit flag =
    outcome (status_tests bit flag) (λ n. record { status = status; receipt = refusal n })
    (record { status = flagged bit flag status; receipt = amounts set_status_kind 0 0 0 0 0 nothing_charged })
