-- Document 02 (g) in a caller's memory: an accepted opening with a register, and then any list of the library's calls whose deposits and withdrawals
-- all take that register, each on record, ring, receipt and list as the call before it left them.
use Rattle.std.specs.Prelude.{ℕ, ◌≡◌, List, [], ◌∷◌, length, take}
use Rattle.register.specs.Numbers.{entries_of}
use Rattle.calls.specs.Next.{state_of}
use Rattle.history.specs.Register.{Turn, enters, other, Point, turned_all, HoldsAt}
use Rattle.words.specs.Words.{pool_of}
use Rattle.memory.specs.Memory.{called_on}
use Rattle.register_calls.specs.Lent.{RegisterMemory, register_memory, register_called_on, register_opened_on}

-- a call on the memory as it stands; one without a register leaves the list alone
abbrev pub turned_in : RegisterMemory → Turn → RegisterMemory
turned_in m (enters c) = register_called_on m.pool m.entries m.receipt m.holders c
turned_in m (other c without) =
    let n = called_on m.pool m.entries m.receipt c in
    register_memory n.number n.pool n.entries n.receipt m.holders

unfoldable pub memory_after_all : RegisterMemory → List Turn → RegisterMemory
memory_after_all m [] = m
memory_after_all m (t ∷ ts) = memory_after_all (turned_in m t) ts

-- the pool, the ring's entries and the register that the numbers hold
abbrev pub point_held : RegisterMemory → Point
point_held m = record { state = state_of (pool_of m.pool) m.entries; holders = entries_of m.holders }

pub record HoldsInRegister (opened : RegisterMemory) (count : ℕ) (ts : List Turn) : Type 0 where
  -- after any of the calls the memory holds the point that document 02's definitions give
  pub in_memory : (i : ℕ) → point_held (memory_after_all opened (take i ts)) ≡ turned_all (point_held opened) (take i ts)
  -- and all that the theorem on registers says is true of it
  pub holds : (i : ℕ) → HoldsAt count (point_held (memory_after_all opened (take i ts)))

-- whatever the memory held before the opening
unfoldable pub RegisterInMemory : Type 0
RegisterInMemory =
    (pool entries receipt holders arguments : List ℕ) (holder : ℕ)
    → let opened = register_opened_on pool entries receipt holders arguments holder in
    opened.number ≡ 0 → (ts : List Turn) → HoldsInRegister opened (length (entries_of holders)) ts
