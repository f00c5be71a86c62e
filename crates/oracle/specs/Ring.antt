-- Document 01, 'oracle.rs', with document 02 (f): the ring's entries, each a clock and two sums modulo 2^128, and what an update comes to. The head
-- carries the ring's grid: its spacing in seconds, and its length, how many of the 100 lent entries are its own.
use Rattle.std.specs.Prelude.{Result, Ok, Err, ℕ, ◌+◌, ◌*◌, ◌-◌, ◌/◌, ◌%◌, ◌^◌, Bool, true, cond, not, ◌&&◌, ◌||◌, List, [], ◌∷◌, ltb, leb, eqb, get_or, set}
use Rattle.refusal.specs.Refusal.{math_overflow, panicked}
use Rattle.wide.specs.Value.{u128_of}
use Rattle.refusal.specs.Tests.{Tests, outcome}
use Rattle.oracle.specs.declared.Grid.{Grid}
use Rattle.oracle.specs.declared.Ring.{Ring}
use Rattle.oracle.specs.declared.Observation.{Observation}
use Rattle.oracle.specs.declared.Update.{Update}
use Rattle.oracle.specs.declared.Update.TheVariants.{Kept, Stored}

-- ---- the entries: five numbers each, the clock and the two halves of each sum
abbrev pub Entries : Type 0
Entries = List ℕ

-- so many are lent, whatever the ring's length
abbrev pub observation_num : ℕ
observation_num = 100

-- their numbers
abbrev pub ring_words : ℕ
ring_words = 500

pub record Entry : Type 0 where
  pub clock : ℕ
  pub sum0 : ℕ
  pub sum1 : ℕ

abbrev pub number_at : Entries → ℕ → ℕ
number_at entries k = get_or entries k 0

unfoldable pub entry_at : Entries → ℕ → Entry
entry_at entries i = record {
  clock = number_at entries (5 * i);
  sum0 = number_at entries (5 * i + 1) * 2 ^ 64 + number_at entries (5 * i + 2);
  sum1 = number_at entries (5 * i + 3) * 2 ^ 64 + number_at entries (5 * i + 4);
}

unfoldable pub with_entry : Entries → ℕ → Entry → Entries
with_entry entries i e =
    set (set (set (set (set entries (5 * i) e.clock)
    (5 * i + 1) (e.sum0 / 2 ^ 64))
    (5 * i + 2) (e.sum0 % 2 ^ 64))
    (5 * i + 3) (e.sum1 / 2 ^ 64))
    (5 * i + 4) (e.sum1 % 2 ^ 64)

-- the entry at the ring's index
abbrev pub newest : Ring → Entries → Entry
newest ring entries = entry_at entries ring.index

-- a length above 100, or an index at or past the length
abbrev pub outside : Ring → Bool
outside ring = ltb observation_num ring.grid.length || leb ring.grid.length ring.index

-- the newest entry as an update sees it; entries at or past the length are not read: outside the ring it sees zeros
abbrev pub seen : Ring → Entries → Entry
seen ring entries = cond (outside ring) (record { clock = 0; sum0 = 0; sum1 = 0 }) (newest ring entries)

-- ---- prices and sums
-- price 0 is net1 × 2^32 / net0 down, price 1 its mirror
unfoldable pub price : ℕ → ℕ → ℕ
price net other = other * 2 ^ 32 / net

-- a sum after some seconds at a price, modulo 2^128
abbrev pub added : ℕ → ℕ → ℕ → ℕ
added sum price seconds = (sum + price * seconds) % 2 ^ 128

-- ---- update, at a clock and two prices; e is the newest entry
-- a mark of 0 becomes the entry's clock
abbrev pub mark_of : Ring → Entry → ℕ
mark_of ring e = cond (eqb ring.mark 0) e.clock ring.mark

-- the seconds since the mark
abbrev pub seconds : Ring → Entry → ℕ → ℕ
seconds ring e clock = clock - mark_of ring e

-- no seconds since mark or entry
abbrev pub still : Ring → Entry → ℕ → Bool
still ring e clock = leb clock (mark_of ring e) || leb clock e.clock

-- the sums move: the ring is in use, and seconds have passed
abbrev pub moves : Ring → Entry → ℕ → Bool
moves ring e clock = ring.used && not (still ring e clock)

-- past 2^128 − 1
abbrev pub past128 : ℕ → Bool
past128 n = leb (2 ^ 128) n

-- a length above 100, or an index at or past the length, is 11; price × seconds past 2^128 − 1 is 8
abbrev pub ring_tests : Ring → Entry → ℕ → ℕ → ℕ → Tests
ring_tests ring e clock price0 price1 =
    (outside ring, panicked)
    ∷ (moves ring e clock && past128 (price0 * seconds ring e clock), math_overflow)
    ∷ (moves ring e clock && past128 (price1 * seconds ring e clock), math_overflow)
    ∷ []

-- the index moves on, length − 1 to 0
abbrev pub next_index : Grid → ℕ → ℕ
next_index grid i = cond (eqb i (grid.length - 1)) 0 (i + 1)

-- under `spacing` seconds since the entry it is overwritten
abbrev pub overwrites : Grid → Entry → ℕ → Bool
overwrites grid e clock = ltb (clock - e.clock) grid.spacing

-- a head in use; its grid stays
abbrev pub head : Grid → ℕ → ℕ → Ring
head grid index mark = record { used = true; index = index; mark = mark; grid = grid }

-- the newest sums, moved on, as an observation of some clock; `u128_of` takes a number modulo 2^128
abbrev pub moved_on : Ring → Entry → ℕ → ℕ → ℕ → ℕ → Observation
moved_on ring e clock price0 price1 entryClock = record {
  clock = entryClock;
  sum0 = u128_of (e.sum0 + price0 * seconds ring e clock);
  sum1 = u128_of (e.sum1 + price1 * seconds ring e clock);
}

-- what an accepted update comes to: first use stores clock and zero sums; no seconds since mark or entry: nothing is stored;
-- under `spacing` seconds since the entry it is stored in its place and with its clock, else in the next place
unfoldable pub accepted_update : Ring → Entry → ℕ → ℕ → ℕ → Update
accepted_update ring e clock price0 price1 =
    cond (not ring.used)
    (Stored (head ring.grid ring.index clock) (record { clock = clock; sum0 = u128_of 0; sum1 = u128_of 0 }))
    (cond (still ring e clock)
    (Kept (head ring.grid ring.index (mark_of ring e)))
    (cond (overwrites ring.grid e clock)
    (Stored (head ring.grid ring.index clock) (moved_on ring e clock price0 price1 e.clock))
    (Stored (head ring.grid (next_index ring.grid ring.index) clock) (moved_on ring e clock price0 price1 clock))))

unfoldable pub observed : Ring → Entry → ℕ → ℕ → ℕ → Result Update ℕ
observed ring e clock price0 price1 = outcome (ring_tests ring e clock price0 price1) Err (Ok (accepted_update ring e clock price0 price1))
