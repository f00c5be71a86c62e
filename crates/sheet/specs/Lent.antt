-- A row over lent memory: the pool's record and a receipt in the order of `words`, and the ring's entries; the rates go by value.
use Rattle.std.specs.Prelude.{Option, List, ℕ}
use Rattle.refusal.specs.Tests.{outcome}
use Rattle.rates.specs.declared.Rates.{Rates}
use Rattle.oracle.specs.Ring.{Entries}
use Rattle.receipt.specs.Receipt.{refusal}
use Rattle.rows.specs.declared.row.Row.{Row}
use Rattle.words.specs.Words.{pool_words, pool_of, receipt_words}
use Rattle.memory.specs.Memory.{record_tests}
use Rattle.sheet.specs.Sheet.{Sheet, Turn, perform}

-- the sheet that the memory holds
abbrev pub sheet_in : Rates → List ℕ → Entries → Sheet
sheet_in rates pool entries = record { rates = rates; pool = pool_of pool; entries = entries }

-- the rates that are returned, and what the memory then holds
pub record RowMemory : Type 0 where
  pub rates : Rates
  pub pool : List ℕ
  pub entries : Entries
  pub receipt : List ℕ

abbrev pub row_memory : Rates → List ℕ → Entries → List ℕ → RowMemory
row_memory rates pool entries receipt = record { rates = rates; pool = pool; entries = entries; receipt = receipt }

-- what a row does, in numbers
abbrev pub turn_words : Turn → RowMemory
turn_words t = row_memory t.sheet.rates (pool_words t.sheet.pool) t.sheet.entries (receipt_words t.receipt)

-- a row on the sheet that the memory holds; a record that is no pool is refused, whatever the row
unfoldable pub performed_on : Rates → List ℕ → Entries → Option Row → RowMemory
performed_on rates pool entries row =
    outcome (record_tests pool) (λ number. row_memory rates pool entries (receipt_words (refusal number)))
    (turn_words (perform (sheet_in rates pool entries) row))
