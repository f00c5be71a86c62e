-- `share::scale_ceil` meets its contract: an amount that is not short is scaled in two parts (`Shares.antt`).
use Rattle.std.proofs.Common.{arith}
use Rattle.std.proofs.lemmas.Grind.{common_steps}
use Rattle.math.specs.Ratio.{fit}
use Rattle.share.proofs.Shares.{scaled_is}
use Rattle.share.proofs.scale_ceil.Goals as goal

pub returns-in_err-scaled : goal.returns-in_err-scaled
unfolding fit
returns-in_err-scaled c = rw (scaled_is _ _ _ c.requires.0) (grind (arith, common_steps))

pub returns : goal.returns
unfolding fit
returns c = rw (scaled_is _ _ _ c.requires.0) (grind (arith, common_steps))
