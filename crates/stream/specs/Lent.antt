-- A piece, and the end of the input, over lent memory: the pool's record in the order of `words`, the ring's entries, the bytes that are held,
-- and the output; the rates for the next opening go by value. A record that is no pool is refused, and nothing is written.
use Rattle.std.specs.Prelude.{Result, Ok, Err, ℕ, List, length, take}
use Rattle.refusal.specs.Tests.{outcome}
use Rattle.rates.specs.declared.Rates.{Rates}
use Rattle.oracle.specs.Ring.{Entries}
use Rattle.words.specs.Words.{pool_words}
use Rattle.memory.specs.Memory.{record_tests}
use Rattle.sheet.specs.Lent.{sheet_in}
use Rattle.stream.specs.declared.feed.Fed.{Fed}
use Rattle.stream.specs.declared.feed.Ended.{Ended}
use Rattle.stream.specs.Pieces.{feed, finish, Left, left_by, LeftAtEnd, left_at_end}

-- ---- a piece: what is returned, and what the memory then holds
pub record FedMemory : Type 0 where
  pub answer : Result Fed ℕ
  pub pool : List ℕ
  pub entries : Entries
  pub held : List ℕ
  pub output : List ℕ

abbrev pub fed_memory : Result Fed ℕ → List ℕ → Entries → List ℕ → List ℕ → FedMemory
fed_memory answer pool entries held output = record { answer = answer; pool = pool; entries = entries; held = held; output = output }

-- all that a piece leaves, in numbers
abbrev pub left_words : Left → FedMemory
left_words l =
    fed_memory (Ok (record { going = record { rates = l.sheet.rates; begun = l.begun }; taken = l.taken; written = l.written }))
    (pool_words l.sheet.pool) l.sheet.entries l.held l.output

unfoldable pub fed_over : Rates → ℕ → List ℕ → Entries → List ℕ → List ℕ → List ℕ → FedMemory
fed_over rates begun pool entries held input output =
    outcome (record_tests pool) (λ number. fed_memory (Err number) pool entries held output)
    (left_words (left_by output (feed (length output) (sheet_in rates pool entries) (take begun held) input)))

-- ---- the end of the input
pub record EndMemory : Type 0 where
  pub answer : Result Ended ℕ
  pub pool : List ℕ
  pub entries : Entries
  pub output : List ℕ

abbrev pub end_memory : Result Ended ℕ → List ℕ → Entries → List ℕ → EndMemory
end_memory answer pool entries output = record { answer = answer; pool = pool; entries = entries; output = output }

abbrev pub end_words : LeftAtEnd → EndMemory
end_words l = end_memory (Ok (record { rates = l.sheet.rates; written = l.written })) (pool_words l.sheet.pool) l.sheet.entries l.output

unfoldable pub ended_over : Rates → ℕ → List ℕ → Entries → List ℕ → List ℕ → EndMemory
ended_over rates begun pool entries held output =
    outcome (record_tests pool) (λ number. end_memory (Err number) pool entries output)
    (end_words (left_at_end output (finish (sheet_in rates pool entries) (take begun held))))
