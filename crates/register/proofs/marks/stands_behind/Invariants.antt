use Rattle.std.proofs.Common.{◌-◌, length}
use Rattle.register.specs.Numbers.{holders_of}
use Rattle.register.proofs.Walk.{Walked}
use Rattle.register.proofs.marks.stands_behind.Given as goal

abbrev pub invariant-loop-i : goal.invariant-loop-i
invariant-loop-i l = Walked l.links (holders_of l.entries) l.at l.i

abbrev pub decreases-loop-i : goal.decreases-loop-i
decreases-loop-i l = length l.entries - l.i
