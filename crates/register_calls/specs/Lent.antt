-- Document 02 (g) over a caller's plain memory: opening, deposit and withdrawal with a register, whose list is lent beside record, ring and receipt
-- as two numbers an entry.
use Rattle.std.specs.Prelude.{ℕ, cond, List, [], ◌∷◌, eqb}
use Rattle.refusal.specs.Tests.{outcome}
use Rattle.receipt.specs.Receipt.{refusal}
use Rattle.register.specs.Holders.{balance_of}
use Rattle.register.specs.Changes.{register_tests}
use Rattle.register.specs.Numbers.{entries_of, numbers_of}
use Rattle.calls.specs.Next.{state_of}
use Rattle.calls.specs.Registered.{Registered, Entered, next_with, opening_with}
use Rattle.words.specs.Words.{opening_of, pool_words, pool_of, receipt_words}
use Rattle.memory.specs.Memory.{record_tests}

-- the number that is returned, and what the caller's memory then holds
pub record RegisterMemory : Type 0 where
  pub number : ℕ
  pub pool : List ℕ
  pub entries : List ℕ
  pub receipt : List ℕ
  pub holders : List ℕ

-- what a function returns, with what its lent memory holds as it does
abbrev pub register_memory : ℕ → List ℕ → List ℕ → List ℕ → List ℕ → RegisterMemory
register_memory number pool entries receipt holders = record { number = number; pool = pool; entries = entries; receipt = receipt; holders = holders }

-- a refused call leaves record, ring and list as they were; its receipt is the number and zeros, whatever was in it
unfoldable pub untouched_with : List ℕ → List ℕ → List ℕ → List ℕ → ℕ → RegisterMemory
untouched_with pool entries receipt holders number = register_memory number pool entries (receipt_words (refusal number)) holders

-- what a call gives, written where it is accepted
unfoldable pub stored_with : List ℕ → List ℕ → List ℕ → List ℕ → Entered → RegisterMemory
stored_with pool entries receipt holders e =
    let x = e.given.after.receipt in
    cond (eqb x.number 0)
    (register_memory 0 (pool_words e.given.after.pool) e.given.entries (receipt_words x) (numbers_of e.holders))
    (untouched_with pool entries receipt holders x.number)

-- a deposit or a withdrawal; a record that is no pool answers 3 as the register's tests do
unfoldable pub register_called_on : List ℕ → List ℕ → List ℕ → List ℕ → Registered → RegisterMemory
register_called_on pool entries receipt holders c =
    outcome (record_tests pool) (untouched_with pool entries receipt holders)
    (stored_with pool entries receipt holders (next_with (state_of (pool_of pool) entries) (entries_of holders) c))

-- an opening, whatever record and ring hold
unfoldable pub register_opened_on : List ℕ → List ℕ → List ℕ → List ℕ → List ℕ → ℕ → RegisterMemory
register_opened_on pool entries receipt holders arguments holder =
    stored_with pool entries receipt holders (opening_with (opening_of arguments) (entries_of holders) holder)

-- ---- one holder's balance
pub record BalanceMemory : Type 0 where
  pub number : ℕ
  pub balance : List ℕ

abbrev pub balance_memory : ℕ → List ℕ → BalanceMemory
balance_memory number balance = record { number = number; balance = balance }

-- a list that is no register, or a holder 0, answers 3, and nothing is written
unfoldable pub balance_on : List ℕ → ℕ → List ℕ → BalanceMemory
balance_on holders holder balance =
    outcome (register_tests holder (entries_of holders)) (λ number. balance_memory number balance)
    (balance_memory 0 (balance_of holder (entries_of holders) ∷ []))
