-- `shipped::day_theorem` meets its contract.
use mathlib.Core.Path.{refl}
use Rattle.shipped.proofs.Rows.{openings_seen}
use Rattle.shipped.proofs.Day.{day_theorem, printed_theorem}
use Rattle.shipped.proofs.DayMemory.{day_memory_theorem}
use Rattle.shipped.proofs.day_theorem.Goals as goal

pub returns : goal.returns
returns c = (refl, openings_seen, day_theorem, printed_theorem, day_memory_theorem)
