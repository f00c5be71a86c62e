-- Document 02 (g): opening, deposit and withdrawal with a register and a holder's number. Pool, ring and receipt are those of the call without a
-- register.
use Rattle.std.specs.Prelude.{ℕ, ◌-◌, not, List, [], ◌∷◌, eqb}
use Rattle.refusal.specs.Tests.{Tests, ◌then◌, outcome}
use Rattle.curve.specs.ConstantProduct.{tokens}
use Rattle.accounting.specs.Locked.{lock_lp_amount}
use Rattle.register.specs.declared.Holder.{Holder}
use Rattle.register.specs.Holders.{balance_of}
use Rattle.register.specs.Changes.{register_tests, with_opener, credit_tests, credited, debited}
use Rattle.opening.specs.declared.Opening.{Opening}
use Rattle.pool.specs.State.{refused, Done, done}
use Rattle.pool.specs.Calls.{zero_pool, zero_entries, opening}
use Rattle.calls.specs.declared.Call.{Call}
use Rattle.calls.specs.declared.Call.TheVariants.{Deposit, Withdraw}
use Rattle.calls.specs.Next.{State, next}

-- a deposit or a withdrawal by a holder of the register
pub data Registered : Type 0 where
  deposit : (holder lp maximum0 maximum1 : ℕ) → Registered
  withdraw : (holder lp minimum0 minimum1 : ℕ) → Registered

abbrev pub holder_of : Registered → ℕ
holder_of (deposit holder lp maximum0 maximum1) = holder
holder_of (withdraw holder lp minimum0 minimum1) = holder

-- the call without a register: 'the owner's LP is read from the register', the balance of the holder's entry, 0 where he has none
abbrev pub without_register : List Holder → Registered → Call
without_register es (deposit holder lp maximum0 maximum1) = Deposit (record { 0 = lp }) (tokens maximum0) (tokens maximum1)
without_register es (withdraw holder lp minimum0 minimum1) =
    Withdraw (record { 0 = lp }) (record { 0 = balance_of holder es }) (tokens minimum0) (tokens minimum1)

-- a call's own tests, as one test with the number that they gave
abbrev pub own_tests : Done → Tests
own_tests d = (not (eqb d.after.receipt.number 0), d.after.receipt.number) ∷ []

-- what a deposit tests last
abbrev pub last_tests : List Holder → Registered → Tests
last_tests es (deposit holder lp maximum0 maximum1) = credit_tests holder lp es
last_tests es (withdraw holder lp minimum0 minimum1) = []

-- 3 first; then the tests of the call without a register; then a deposit's 8 and 16
unfoldable pub registered_tests : State → List Holder → Registered → Tests
registered_tests s es c = register_tests (holder_of c) es then own_tests (next s (without_register es c)) then last_tests es c

-- 'Deposit credits, withdrawal debits'
abbrev pub entered : List Holder → Registered → List Holder
entered es (deposit holder lp maximum0 maximum1) = credited holder lp es
entered es (withdraw holder lp minimum0 minimum1) = debited holder lp es

-- what a call with a register gives: all that one without gives, and the list
pub record Entered : Type 0 where
  pub given : Done
  pub holders : List Holder

-- 'a refused call leaves the list unchanged', pool and ring too
unfoldable pub next_with : State → List Holder → Registered → Entered
next_with s es c =
    outcome (registered_tests s es c) (λ n. record { given = done (refused s.pool n) s.entries; holders = es })
    (record { given = next s (without_register es c); holders = entered es c })

-- ---- opening
unfoldable pub opening_tests_with : Opening → List Holder → ℕ → Tests
opening_tests_with o es holder = register_tests holder es then own_tests (opening o)

-- 'The opener is entered with the opening supply less the locked 100.'
abbrev pub opener_of : Opening → ℕ → Holder
opener_of o holder = record { number = holder; balance = (opening o).after.pool.books.supply - lock_lp_amount }

-- a refused opening gives its number with a pool and ring of zeros
unfoldable pub opening_with : Opening → List Holder → ℕ → Entered
opening_with o es holder =
    outcome (opening_tests_with o es holder) (λ n. record { given = done (refused zero_pool n) zero_entries; holders = es })
    (record { given = opening o; holders = with_opener (opener_of o holder) es })
