-- Document 02 (f), 'Spacing and length of the price ring', what it means for every call on every pool, opened or built by hand: entries at or past
-- the length are neither read nor written, none of their numbers. An opening is no call on a pool; accepted, it sets all 500 numbers to 0.
use Rattle.std.specs.Prelude.{ℕ, ◌*◌, ◌≤◌, ◌<◌, ◌≡◌, true, length}
use Rattle.oracle.specs.declared.Ring.{Ring}
use Rattle.oracle.specs.Ring.{Entries, ring_words, number_at, outside}
use Rattle.pool.specs.declared.state.Pool.{Pool}
use Rattle.calls.specs.declared.Call.{Call}
use Rattle.calls.specs.declared.Call.TheVariants.{SwapBaseInput, SwapBaseOutput}
use Rattle.calls.specs.Next.{State, state_of, next}

-- how many numbers the entries before the length have: five each
abbrev pub own_numbers : State → ℕ
own_numbers s = 5 * s.pool.ring.grid.length

-- the same number at every place before n
abbrev pub AlikeBefore : ℕ → Entries → Entries → Type 0
AlikeBefore n a b = (k : ℕ) → k < n → number_at a k ≡ number_at b k

abbrev pub number_of : State → Call → ℕ
number_of s c = (next s c).after.receipt.number

-- a pool with another ring, its head and its entries
abbrev pub with_ring : Pool → Ring → Entries → State
with_ring p ring entries = state_of (record { books = p.books; terms = p.terms; status = p.status; ring = ring }) entries

-- outside the ring (a length above 100, or an index at or past the length) a swap is not accepted, and answers 11 where it would be accepted with
-- some other ring
abbrev pub Answers11 : State → Call → Type 0
Answers11 s c =
    (number_of s c ≡ 0 → ⊥)
    × ((ring : Ring) (entries : Entries) → number_of (with_ring s.pool ring entries) c ≡ 0 → number_of s c ≡ 11)

pub record WithinLength : Type 0 where
  -- no call changes the spacing or the length; a ring that has an entry at its index keeps one, and one that has none gets none
  pub stays : (s : State) (c : Call) → (next s c).after.pool.ring.grid ≡ s.pool.ring.grid
  pub inside : (s : State) (c : Call) → outside (next s c).after.pool.ring ≡ outside s.pool.ring
  -- no number at or past the length is written
  pub unwritten : (s : State) (c : Call) (k : ℕ) → own_numbers s ≤ k → number_at (next s c).entries k ≡ number_at s.entries k
  -- nor read: with any others in their places a call gives the same pool and the same receipt, and leaves the same numbers before them
  pub unread :
      (s : State) (others : Entries) (c : Call) → length s.entries ≡ ring_words → length others ≡ ring_words
      → AlikeBefore (own_numbers s) s.entries others
      → let d = next s c in let e = next (state_of s.pool others) c in
      (d.after ≡ e.after) × AlikeBefore (own_numbers s) d.entries e.entries
  -- outside the ring both swaps answer so
  pub refused :
      (s : State) (direction amount limit clock : ℕ) → outside s.pool.ring ≡ true
      → Answers11 s (SwapBaseInput direction amount limit clock) × Answers11 s (SwapBaseOutput direction amount limit clock)
