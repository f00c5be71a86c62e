-- What the code finds of a holder in a list, and what it makes of it. Contracts of functions below the library's use these; no definition of the
-- documents does.
use Rattle.std.specs.Prelude.{ℕ, ◌+◌, ◌-◌, Bool, true, false, cond, not, ◌&&◌, List, [], ◌∷◌, eqb, ltb, slice_index, Result, Ok, Err}
use Rattle.refusal.specs.Refusal.{math_overflow, require_violated, register_full}
use Rattle.refusal.specs.Tests.{past, outcome}
use Rattle.register.specs.declared.Holder.{Holder}
use Rattle.seats.specs.declared.Seat.{Seat}
use Rattle.seats.specs.declared.Change.{Change}
use Rattle.register.specs.Holders.{balance_of}
use Rattle.register.specs.Changes.{register_tests, is_full, place_of}

-- an entry's two numbers: one with a balance of this number, and one of balance 0
abbrev pub pair_of : ℕ → List ℕ → Bool
pair_of k e = eqb (slice_index e 0) k && not (eqb (slice_index e 1) 0)

abbrev pub free_pair : List ℕ → Bool
free_pair e = eqb (slice_index e 1) 0

-- a holder's seat; in a list that is no register nobody has one
abbrev pub seat_in : ℕ → List Holder → Seat
seat_in k es = record { holder = k; balance = balance_of k es; place = cond (is_full k es) (Err (place_of k es)) (Ok (place_of k es)) }

unfoldable pub seat_of : ℕ → List Holder → Result Seat ℕ
seat_of k es = outcome (register_tests k es) Err (Ok (seat_in k es))

-- a seat's place, that of a full list too
abbrev pub either_place : Result ℕ ℕ → ℕ
either_place (Ok place) = place
either_place (Err place) = place

-- what stands at a seat's place; a number where the list is full
abbrev pub entry_at : Result ℕ ℕ → ℕ → Holder → Result Change ℕ
entry_at (Err place) n e = Err n
entry_at (Ok place) n e = Ok (record { place = place; entry = e })

-- a credit and a debit from a seat: past u64, 8; full, 16. An amount of 0 or more than the balance, 10
unfoldable pub credit_of : ℕ → Seat → Result Change ℕ
credit_of amount s =
    outcome ((past (s.balance + amount), math_overflow) ∷ []) Err
    (entry_at s.place register_full (record { number = s.holder; balance = s.balance + amount }))

unfoldable pub debit_of : ℕ → Seat → Result Change ℕ
debit_of amount s =
    outcome ((eqb amount 0, require_violated) ∷ (ltb s.balance amount, require_violated) ∷ []) Err
    (Ok (record { place = either_place s.place; entry = record { number = s.holder; balance = s.balance - amount } }))

abbrev pub change_of : Bool → ℕ → Seat → Result Change ℕ
change_of true amount s = credit_of amount s
change_of false amount s = debit_of amount s
