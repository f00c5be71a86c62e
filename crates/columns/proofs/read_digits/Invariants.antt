-- What the loop keeps: the number so far fits, and with the digits still to come reads as all of them.
use Rattle.std.proofs.Common.{◌≡◌, ◌≤◌, drop}
use Rattle.refusal.specs.Tests.{u64_max}
use Rattle.columns.specs.Column.{read_digits, in_range}
use Rattle.columns.proofs.read_digits.Given as goal

abbrev pub invariant-loop-byte : goal.invariant-loop-byte
invariant-loop-byte l = record {
  fits : l.value ≤ u64_max;
  reads : in_range (read_digits 0 l.bytes) ≡ in_range (read_digits l.value (drop l.byte-index l.bytes));
}
