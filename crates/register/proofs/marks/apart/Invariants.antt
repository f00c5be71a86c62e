use Rattle.register.specs.Numbers.{holders_of}
use Rattle.register.proofs.Back.{Behind}
use Rattle.register.proofs.marks.apart.Given as goal

abbrev pub invariant-loop-i : goal.invariant-loop-i
invariant-loop-i l = Behind l.salt (holders_of l.entries) l.nearest l.links l.i
