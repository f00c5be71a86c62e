-- `shipped::slicing_in_memory` meets its contract.
use mathlib.Core.Path.{refl}
use Rattle.shipped.proofs.Slicing.{slicing_in_memory}
use Rattle.shipped.proofs.slicing_in_memory.Goals as goal

pub returns : goal.returns
returns c = (refl, slicing_in_memory)
