-- `root::isqrt` meets its contract: the guess is never too low, and falls until it is not too high. The measure is the guess.
use Prim.Native.Nat.{◌+◌, ◌*◌, ◌^◌, ◌<◌}
use Rattle.wide.specs.Value.{value}
use Rattle.root.proofs.isqrt.Given as goal

abbrev pub invariant-loop-guess : goal.invariant-loop-guess
invariant-loop-guess l = (value l.n < (l.guess + 1) * (l.guess + 1)) × (l.guess < 2 ^ 64)

abbrev pub decreases-loop-guess : goal.decreases-loop-guess
decreases-loop-guess l = l.guess
