-- `day_sheet::main`: the blocks that are lent keep their lengths, and the record stays a pool's.
use Rattle.std.proofs.Common.{◌≡◌, length}
use Rattle.memory.specs.Steps.{IsRecord}
use Rattle.day_sheet.proofs.main.Given as goal

abbrev pub invariant-pieces : goal.invariant-pieces
invariant-pieces l = (8192 ≡ length l.input) × IsRecord l.pool
