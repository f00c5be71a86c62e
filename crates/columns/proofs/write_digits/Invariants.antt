-- What the loop keeps: what is left of the number, before what is written, is the column.
use Rattle.std.proofs.Common.{◌≡◌, ◌<◌, ◌++◌, length, drop}
use Rattle.columns.specs.Column.{blanks_before, column}
use Rattle.columns.proofs.write_digits.Given as goal

abbrev pub invariant-loop-at : goal.invariant-loop-at
invariant-loop-at l = record {
  within : l.at < length l.part;
  column : blanks_before l.at l.rest ++ drop l.at l.part ≡ column (length l.part) l.value;
}

abbrev pub decreases-loop-at : goal.decreases-loop-at
decreases-loop-at l = l.at
