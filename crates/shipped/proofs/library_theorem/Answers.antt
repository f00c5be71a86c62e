-- `shipped::library_theorem` meets its contract.
use mathlib.Core.Path.{refl}
use Rattle.shipped.proofs.Library.{library_theorem}
use Rattle.shipped.proofs.library_theorem.Goals as goal

pub returns : goal.returns
returns c = (refl, library_theorem)
