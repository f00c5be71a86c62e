-- Document 02 (h) in a caller's memory, whatever its numbers: the library's swaps by input, each slice on record, ring and receipt as the one before
-- left them, and the whole sum on those that the first slice gets.
use Rattle.std.specs.Prelude.{ℕ, List}
use Rattle.receipt.specs.declared.Receipt.{Receipt}
use Rattle.slicing.specs.Slicing.{Slice, sum, unlimited, swaps, NoGain, NoGainWithCharges}
use Rattle.memory.specs.Memory.{Memory}
use Rattle.shipped.specs.Library.{called_next, answered, receipts_in}

-- the receipt that the memory holds after each slice, and after the whole
abbrev pub in_turn_in : Memory → ℕ → List Slice → List Receipt
in_turn_in m direction slices = receipts_in m (swaps direction slices)

abbrev pub at_once_in : Memory → ℕ → List Slice → ℕ → Receipt
at_once_in m direction slices clock = answered (called_next m (unlimited direction (sum slices) clock))

unfoldable pub SlicingInMemory : Type 0
SlicingInMemory =
    (m : Memory) (direction : ℕ) (slices : List Slice) (clock : ℕ)
    → let each = in_turn_in m direction slices in let whole = at_once_in m direction slices clock in
    NoGain each whole × NoGainWithCharges each whole
