use Rattle.register.specs.Numbers.{holders_of}
use Rattle.register.proofs.Rising.{Rising}
use Rattle.register.proofs.marks.rising.Given as goal

abbrev pub invariant-loop-i : goal.invariant-loop-i
invariant-loop-i l = Rising (holders_of l.entries) l.next l.i
