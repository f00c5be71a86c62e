-- `root::isqrt_u64` meets its contract: the guess is never too low (`Guess`), and falls until it is not too high. The measure is the guess.
use Prim.Native.Nat.{◌<◌}
use Rattle.root.proofs.Newton.{Guess}
use Rattle.root.proofs.isqrt_u64.Given as goal

abbrev pub invariant-loop-quotient : goal.invariant-loop-quotient
invariant-loop-quotient l = (0 < l.x) × Guess l.x l.guess l.quotient

abbrev pub decreases-loop-quotient : goal.decreases-loop-quotient
decreases-loop-quotient l = l.guess
