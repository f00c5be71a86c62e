-- Document 02 (g): 'The register is a lent list of holder entries, each a number from 1 and an LP balance, at most 256.'
use Rattle.std.specs.Prelude.{ℕ, suc, ◌+◌, Bool, true, false, cond, not, ◌&&◌, ◌||◌, List, [], ◌∷◌, ◌==◌}
use Rattle.register.specs.declared.Holder.{Holder}

abbrev pub most_holders : ℕ
most_holders = 256

-- an entry of zeros
abbrev pub zero_holder : Holder
zero_holder = record { number = 0; balance = 0 }

-- an entry of balance 0 is free for anyone, whichever number stands there
abbrev pub is_free : Holder → Bool
is_free e = e.balance == 0

-- the entry of holder k: one with a balance, of his number
abbrev pub is_of : ℕ → Holder → Bool
is_of k e = not (is_free e) && e.number == k

-- whether some entry passes
unfoldable pub some : (Holder → Bool) → List Holder → Bool
some p [] = false
some p (e ∷ es) = p e || some p es

-- the place of the first that passes, counted from 0; where none does, the length
unfoldable pub first_of : (Holder → Bool) → List Holder → ℕ
first_of p [] = 0
first_of p (e ∷ es) = cond (p e) 0 (suc (first_of p es))

-- no number 0 and no number twice among the entries with a balance
unfoldable pub numbered : List Holder → Bool
numbered [] = true
numbered (e ∷ es) = (is_free e || (not (e.number == 0) && not (some (is_of e.number) es))) && numbered es

-- a holder's balance: that of his entry with one, else 0
unfoldable pub balance_of : ℕ → List Holder → ℕ
balance_of k [] = 0
balance_of k (e ∷ es) = cond (is_of k e) e.balance (balance_of k es)

-- the sum of the balances
unfoldable pub total : List Holder → ℕ
total [] = 0
total (e ∷ es) = e.balance + total es
