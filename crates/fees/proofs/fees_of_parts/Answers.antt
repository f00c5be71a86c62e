-- `fees::fees_of_parts` meets its contract.
use mathlib.Core.Path.{refl}
use Rattle.fees.proofs.Parts.{fees_of_parts}
use Rattle.fees.proofs.fees_of_parts.Goals as goal

pub returns : goal.returns
returns c = (refl, fees_of_parts)
