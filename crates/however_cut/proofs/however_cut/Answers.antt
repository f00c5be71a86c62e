-- `however_cut::however_cut` meets its contract.
use mathlib.Core.Path.{refl}
use Rattle.however_cut.proofs.Cuts.{however_cut, all_taken, goes_on_everywhere, pieces_are_the_whole}
use Rattle.however_cut.proofs.however_cut.Goals as goal

pub returns : goal.returns
returns c = (refl, however_cut, all_taken, goes_on_everywhere, pieces_are_the_whole)
