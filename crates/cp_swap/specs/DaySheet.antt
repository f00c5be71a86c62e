-- A day sheet over a caller's plain memory: the pool's record, the ring's entries, the sheet's numbers (the rates for the next opening, and how many
-- bytes of a row that is begun are held), those bytes, the input, the output, and how far a piece has come.
use Rattle.std.specs.Prelude.{ℕ, List, [], ◌∷◌, length, take}
use Rattle.refusal.specs.Tests.{outcome}
use Rattle.rates.specs.declared.Rates.{Rates}
use Rattle.words.specs.Words.{rates_of, at, pool_words, pool_of}
use Rattle.sheet.specs.Sheet.{Sheet}
use Rattle.stream.specs.Pieces.{Left, feed, left_by, LeftAtEnd, finish, left_at_end}
use Rattle.memory.specs.Memory.{record_tests}

-- the number that is returned, and what the caller's memory then holds
pub record SheetMemory : Type 0 where
  pub number : ℕ
  pub pool : List ℕ
  pub entries : List ℕ
  pub sheet : List ℕ
  pub held : List ℕ
  pub output : List ℕ
  pub progress : List ℕ

-- what a function returns, with what its lent memory holds as it does
abbrev pub sheet_memory : ℕ → List ℕ → List ℕ → List ℕ → List ℕ → List ℕ → List ℕ → SheetMemory
sheet_memory number pool entries sheet held output progress = record {
  number = number;
  pool = pool;
  entries = entries;
  sheet = sheet;
  held = held;
  output = output;
  progress = progress;
}

-- the rates for the next opening, and how many bytes are held
abbrev pub begun_at : ℕ
begun_at = 5

abbrev pub sheet_words : Rates → ℕ → List ℕ
sheet_words r begun = r.trade ∷ r.protocol ∷ r.fund ∷ r.creator ∷ r.share ∷ begun ∷ []

abbrev pub sheet_in : List ℕ → List ℕ → List ℕ → Sheet
sheet_in pool entries sheet = record { rates = rates_of sheet; pool = pool_of pool; entries = entries }

-- a piece: the bytes taken and the bytes written are the progress. A record that is no pool is refused, and nothing is written
unfoldable pub stored_piece : Left → SheetMemory
stored_piece l = record {
  number = 0;
  pool = pool_words l.sheet.pool;
  entries = l.sheet.entries;
  sheet = sheet_words l.sheet.rates l.begun;
  held = l.held;
  output = l.output;
  progress = l.taken ∷ l.written ∷ [];
}

unfoldable pub fed_on : List ℕ → List ℕ → List ℕ → List ℕ → List ℕ → List ℕ → List ℕ → SheetMemory
fed_on pool entries sheet held input output progress =
    outcome (record_tests pool)
    (λ number. record { number = number; pool = pool; entries = entries; sheet = sheet; held = held; output = output; progress = progress })
    (stored_piece (left_by output (feed (length output) (sheet_in pool entries sheet) (take (at sheet begun_at) held) input)))

-- the end of the input: the last row, where one is begun; none is begun after it
unfoldable pub stored_end : List ℕ → LeftAtEnd → SheetMemory
stored_end held l = record {
  number = 0;
  pool = pool_words l.sheet.pool;
  entries = l.sheet.entries;
  sheet = sheet_words l.sheet.rates 0;
  held = held;
  output = l.output;
  progress = 0 ∷ l.written ∷ [];
}

unfoldable pub ended_on : List ℕ → List ℕ → List ℕ → List ℕ → List ℕ → List ℕ → SheetMemory
ended_on pool entries sheet held output progress =
    outcome (record_tests pool)
    (λ number. record { number = number; pool = pool; entries = entries; sheet = sheet; held = held; output = output; progress = progress })
    (stored_end held (left_at_end output (finish (sheet_in pool entries sheet) (take (at sheet begun_at) held))))
