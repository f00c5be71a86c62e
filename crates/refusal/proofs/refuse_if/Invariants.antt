-- The loop of `refusal::refuse_if`: past the tests so far, the others decide.
use Rattle.std.proofs.Common.{◌≡◌, drop}
use Rattle.refusal.specs.Tests.{tested_by}
use Rattle.refusal.proofs.refuse_if.Given as goal

abbrev pub invariant-loop-fails : goal.invariant-loop-fails
invariant-loop-fails g l = tested_by l.tests ≡ tested_by (drop l.fails-index l.tests)
