-- Document 02 (g): the tests of a call with a register, and what an opening, a credit and a debit do to the list.
use Rattle.std.specs.Prelude.{ℕ, ◌+◌, ◌-◌, Bool, cond, not, ◌&&◌, List, [], ◌∷◌, length, replicate, ◌==◌, nat_lt, slice_set}
use Rattle.refusal.specs.Refusal.{invalid_input, math_overflow, require_violated, register_full}
use Rattle.refusal.specs.Tests.{Tests, past}
use Rattle.register.specs.declared.Holder.{Holder}
use Rattle.register.specs.Holders.{most_holders, zero_holder, is_of, is_free, some, first_of, numbered, balance_of}

-- 'A list of no or over 256 entries, one with a number 0 or a number twice among its entries with a balance, or a holder 0 answers 3 first.'
unfoldable pub register_tests : ℕ → List Holder → Tests
register_tests k es =
    ((length es == 0), invalid_input)
    ∷ (nat_lt most_holders (length es), invalid_input)
    ∷ (not (numbered es), invalid_input)
    ∷ ((k == 0), invalid_input)
    ∷ []

-- ---- opening: 'sets the list to zeros and enters the opener first'
unfoldable pub with_opener : Holder → List Holder → List Holder
with_opener opener [] = []
with_opener opener (e ∷ es) = opener ∷ replicate (length es) zero_holder

-- ---- credit
-- 'a new holder, which is one without a balance', 'when every entry has a balance'
abbrev pub is_full : ℕ → List Holder → Bool
is_full k es = not (some (is_of k) es) && not (some is_free es)

-- 'A credit past u64 answers 8, last but one. A deposit by a new holder when every entry has a balance answers 16, as the last test.'
unfoldable pub credit_tests : ℕ → ℕ → List Holder → Tests
credit_tests k amount es = (past (balance_of k es + amount), math_overflow) ∷ (is_full k es, register_full) ∷ []

-- a holder's entry; a new holder 'takes the first entry of balance 0'
unfoldable pub place_of : ℕ → List Holder → ℕ
place_of k es = cond (some (is_of k) es) (first_of (is_of k) es) (first_of is_free es)

unfoldable pub credited : ℕ → ℕ → List Holder → List Holder
credited k amount es = slice_set es (place_of k es) (record { number = k; balance = balance_of k es + amount })

-- ---- debit
-- document 01, 'Withdrawal': lp 0 or above the owner's, 10
unfoldable pub debit_tests : ℕ → ℕ → List Holder → Tests
debit_tests k amount es = ((amount == 0), require_violated) ∷ (nat_lt (balance_of k es) amount, require_violated) ∷ []

-- 'An entry whose balance falls to 0 keeps its number'
unfoldable pub debited : ℕ → ℕ → List Holder → List Holder
debited k amount es = slice_set es (first_of (is_of k) es) (record { number = k; balance = balance_of k es - amount })
