-- The bytes that were begun, and those of the part that were passed, stand in front.
use Prim.Native.Nat.{◌+◌}
use mathlib.Core.Path.{◌≡◌}
use mathlib.Core.List.{◌++◌}
use lib.ListN.{length, take}
use Rattle.stream.proofs.feed.append.Given as goal

abbrev pub invariant-loop-i : goal.invariant-loop-i
invariant-loop-i l = (length l.held ≡ 103) × (take (l.begun + l.i) l.held ≡ take l.begun l.initial.held ++ take l.i l.part)
