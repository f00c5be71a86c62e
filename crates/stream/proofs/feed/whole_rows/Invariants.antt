-- `stream::feed::whole_rows` meets its contract. The loop's invariant: the rows up to a place are answered, and the others have still to be.
use Prim.Native.Nat.{ℕ, ◌-◌, ◌≤◌}
use mathlib.Core.Path.{◌≡◌}
use mathlib.Core.List.{List, []}
use lib.ListN.{length}
use Rattle.memory.specs.Steps.{IsRecord}
use Rattle.sheet.specs.Lent.{sheet_in}
use Rattle.stream.specs.Pieces.{Fed}
use Rattle.stream.specs.Stages.{Midway}
use Rattle.stream.proofs.feed.whole_rows.Given as goal

abbrev pub invariant-loop-output : goal.invariant-loop-output
invariant-loop-output l =
    (l.from ≤ length l.input)
    × (l.written ≤ length l.output)
    × (length l.output ≡ length l.initial.output)
    × ((whole : Fed) (before : List ℕ) → Midway whole before l.input (sheet_in l.initial.rates l.initial.pool l.initial.ring) [] l.initial.from l.initial.written l.initial.output → Midway whole before l.input (sheet_in l.rates l.pool l.ring) [] l.from l.written l.output)
    × IsRecord l.pool

abbrev pub decreases-loop-output : goal.decreases-loop-output
decreases-loop-output l = length l.output - l.written
