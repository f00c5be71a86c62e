-- `shipped::register_theorem` meets its contract.
use mathlib.Core.Path.{refl}
use Rattle.shipped.proofs.Registers.{register_in_memory}
use Rattle.shipped.proofs.register_theorem.Goals as goal

pub returns : goal.returns
returns c = (refl, register_in_memory)
