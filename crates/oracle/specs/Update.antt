-- What the cases of `Update` stand for, and the ring's update whole: a number, the head, and what the entries then hold.
use Rattle.std.specs.Prelude.{Result, Ok, Err, ℕ, cond}
use Rattle.wide.specs.Value.{value}
use Rattle.oracle.specs.declared.Ring.{Ring}
use Rattle.oracle.specs.declared.Observation.{Observation}
use Rattle.oracle.specs.declared.Update.{Update}
use Rattle.oracle.specs.declared.Update.TheVariants.{Kept, Stored}
use Rattle.oracle.specs.Ring.{Entries, Entry, outside, seen, with_entry, observed}

-- an observation in whole numbers
abbrev pub entry_of : Observation → Entry
entry_of o = record { clock = o.clock; sum0 = value o.sum0; sum1 = value o.sum1 }

-- the entries that an update leaves, whatever its refusal is told by: only `Stored` writes, at the index of the head that it gives; outside the ring
-- nothing is written
abbrev pub stored_by : {E : Type 0} → Entries → Result Update E → Entries
stored_by entries (Err e) = entries
stored_by entries (Ok (Kept ring)) = entries
stored_by entries (Ok (Stored ring o)) = cond (outside ring) entries (with_entry entries ring.index (entry_of o))

-- where it is told by its number
abbrev pub stored_in : Entries → Result Update ℕ → Entries
stored_in entries update = stored_by entries update

-- the head that an accepted update leaves
abbrev pub after_of : Update → Ring
after_of (Kept next) = next
after_of (Stored next o) = next

-- ---- the whole answer, on a head and entries
pub record Answered : Type 0 where
  pub number : ℕ
  pub ring : Ring
  pub entries : Entries

-- what a call gives back, on the head that it was asked of: a refused one leaves the head as it was
abbrev pub answered : Ring → Result Ring ℕ → Entries → Answered
answered ring (Err n) entries = record { number = n; ring = ring; entries = entries }
answered ring (Ok next) entries = record { number = 0; ring = next; entries = entries }

-- the number and the head: a refused update leaves the head as it was
abbrev pub answer_of : Ring → Entries → Result Update ℕ → Answered
answer_of ring entries (Err n) = record { number = n; ring = ring; entries = stored_in entries (Err n) }
answer_of ring entries (Ok u) = record { number = 0; ring = after_of u; entries = stored_in entries (Ok u) }

unfoldable pub update : Ring → Entries → ℕ → ℕ → ℕ → Answered
update ring entries clock price0 price1 = answer_of ring entries (observed ring (seen ring entries) clock price0 price1)
