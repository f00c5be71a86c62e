-- `edges::no_charge_no_change` meets its contract.
use mathlib.Core.Path.{refl}
use Rattle.edges.proofs.NoCharge.{no_charge_no_change}
use Rattle.edges.proofs.no_charge_no_change.Goals as goal

pub returns : goal.returns
returns c = (refl, no_charge_no_change)
