-- The measure is the high half: what the first division leaves is below the divisor, and so below it.
use Rattle.divide.proofs.+long_division.Given as goal

abbrev pub decreases-long_division : goal.decreases-long_division
decreases-long_division l = l.high
