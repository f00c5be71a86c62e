-- A deposit or a withdrawal with its arguments, and an opening whose arguments are no memory. No definition of Lent rests on these.
use Rattle.std.specs.Prelude.{ℕ, Bool, true, false, List}
use Rattle.register.specs.Numbers.{entries_of}
use Rattle.opening.specs.declared.Opening.{Opening}
use Rattle.calls.specs.Registered.{Registered, deposit, withdraw, opening_with}
use Rattle.register_calls.specs.Lent.{RegisterMemory, stored_with}

abbrev pub registered_call : Bool → ℕ → ℕ → ℕ → ℕ → Registered
registered_call true holder lp maximum0 maximum1 = deposit holder lp maximum0 maximum1
registered_call false holder lp minimum0 minimum1 = withdraw holder lp minimum0 minimum1

-- `register_opened_on` is this with the arguments of sixteen numbers
abbrev pub register_opened_for : List ℕ → List ℕ → List ℕ → List ℕ → Opening → ℕ → RegisterMemory
register_opened_for pool entries receipt holders o holder =
    stored_with pool entries receipt holders (opening_with o (entries_of holders) holder)
