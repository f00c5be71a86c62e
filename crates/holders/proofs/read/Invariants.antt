use Rattle.holders.proofs.Reading.{Filled}
use Rattle.holders.proofs.read.Given as goal

abbrev pub invariant-loop-i : goal.invariant-loop-i
invariant-loop-i l = Filled l.entries l.pairs l.i
