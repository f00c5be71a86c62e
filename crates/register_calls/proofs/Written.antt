-- An entry written as its two numbers, and the opener over zeros: what shows that the places are inside, and what then stands there.
-- Assumes nothing.
use Rattle.std.proofs.Common.{length-set}
use Rattle.register.proofs.Pairs.{both_in, entry_written, whole, opener_written}

pub ruleset entered_at = (both_in, entry_written, length-set)

pub ruleset opener_first = (whole, opener_written, length-set)
