-- How a number that stands twice is found: entries of one mark are linked. The contracts of this crate's own functions use these; no definition of the
-- documents does.
use Rattle.std.specs.Prelude.{◌≡◌, ℕ, ◌+◌, ◌*◌, ◌/◌, ◌%◌, ◌<◌, ◌≤◌, Bool, not, ◌&&◌, List, length, drop, ◌==◌, ◌≢◌, slice_index, slice_index_or}
use Rattle.register.specs.declared.Holder.{Holder}
use Rattle.register.specs.Holders.{zero_holder, is_free, first_of}

-- a constant, the lower half of a number times the salt and its upper half times the salt's square (of 31 bits), modulo a prime
abbrev pub mixed_of : ℕ → ℕ → ℕ
mixed_of salt number = (1640531527 + number % 4294967296 * salt + number / 4294967296 * (salt * salt % 2147483647)) % 4294967311

-- the sum of a number's halves
abbrev pub folded_of : ℕ → ℕ
folded_of n = n / 4294967296 + n % 4294967296

-- a number times its own lowest 31 bits
abbrev pub times_itself : ℕ → ℕ
times_itself n = n * (n % 2147483648)

-- the mark of a number
unfoldable pub mark_of : ℕ → ℕ → ℕ
mark_of salt number = times_itself (folded_of (times_itself (mixed_of salt number))) / 134217728 % 1024

-- an entry with a balance, of this mark
abbrev pub has_mark : ℕ → ℕ → Holder → Bool
has_mark salt mark e = not (is_free e) && mark_of salt e.number == mark

-- the first entry of this mark from a place on; where none is, the length
abbrev pub next_of : ℕ → ℕ → List Holder → ℕ → ℕ
next_of salt mark es i = i + first_of (has_mark salt mark) (drop i es)

-- from a place on each entry with a balance is linked to the next one of its mark
abbrev pub LinkedFrom : ℕ → List ℕ → List Holder → ℕ → Type 0
LinkedFrom salt links es i =
    (p : ℕ) → i ≤ p → p < length es → ((slice_index_or es p zero_holder).balance ≢ 0)
    → slice_index links p ≡ next_of salt (mark_of salt (slice_index_or es p zero_holder).number) es (p + 1)

-- at a place stands an entry with a balance, linked as all those behind it
pub record Linked (links : List ℕ) (es : List Holder) (i : ℕ) : Type 0 where
  pub salt : ℕ
  pub inside : i < length es
  pub few : length es ≤ 256
  pub held : (slice_index_or es i zero_holder).balance ≡ 0 → ⊥
  pub from : LinkedFrom salt links es i
