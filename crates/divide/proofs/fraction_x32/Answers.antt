-- `divide::fraction_x32` meets its contract: one digit of the shifted numbers (`fraction`).
use Rattle.divide.proofs.Long.{fraction}
use Rattle.divide.proofs.fraction_x32.Goals as goal

pub returns : goal.returns
returns c =
    fraction c.args.a c.args.b c.norm_shift-shift.result c.requires c.norm_shift-shift.ensures.1 _ _ c.digit.ensures
