-- `shipped::mixed_theorem` meets its contract.
use mathlib.Core.Path.{refl}
use Rattle.shipped.proofs.Mixed.{row_points, mixed_theorem}
use Rattle.shipped.proofs.mixed_theorem.Goals as goal

pub returns : goal.returns
returns c = (refl, row_points, mixed_theorem)
