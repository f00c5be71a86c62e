-- `charge::least_sent` meets its contract.
use mathlib.Core.Path.{refl}
use Rattle.charge.proofs.Rest.{least_sent_lem}
use Rattle.charge.proofs.least_sent.Goals as goal

pub returns : goal.returns
returns c = (refl, least_sent_lem)
