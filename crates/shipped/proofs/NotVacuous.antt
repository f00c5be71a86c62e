-- The theorems speak of something: lists that are accepted, by computation.
-- Assumes nothing.
use Prim.Native.Nat.{ℕ, ◌*◌}
use mathlib.Core.Path.{◌≡◌, refl}
use mathlib.Core.Bool.{true, false}
use mathlib.Core.List.{List, [], ◌∷◌, map}
use native.Mathlib.Omega.{arith}
use lib.ListN.{length, replicate, take, get_or}
use lib.Seq.{take_all}
use Rattle.refusal.specs.Tests.{first}
use Rattle.receipt.specs.declared.Receipt.{Receipt}
use Rattle.register.specs.Numbers.{pairs_of, entries_of, numbers_of}
use Rattle.calls.specs.declared.Call.TheVariants.{SwapBaseInput}
use Rattle.calls.specs.Registered.{deposit, withdraw}
use Rattle.calls.proofs.Unfolded.{all}
use Rattle.history.specs.Register.{Turn, enters, other}
use Rattle.history.proofs.NotVacuous.{some_calls}
use Rattle.columns.specs.Column.{read_digits, in_range, read_column}
use Rattle.rows.specs.Row.{row_bytes, read_row, rows_from, rows}
use Rattle.memory.specs.Memory.{Memory, untouched, stored, record_tests, called_on, opened_on}
use Rattle.register_calls.specs.Lent.{RegisterMemory, untouched_with, stored_with, register_called_on, register_opened_on}
use Rattle.sheet.specs.Sheet.{empty_sheet, keep_rates, replaced, perform, day_sheet}
use Rattle.sheet.specs.Turns.{sheet_after, receipts_of, asks_opening}
use Rattle.however_cut.specs.HoweverCut.{fed_all}
use Rattle.however_cut.proofs.Cuts.{whole_taken}
use Rattle.stream.specs.Pieces.{finish, left_at_end}
use Rattle.cp_swap.specs.DaySheet.{stored_end, ended_on}
use Rattle.edges.specs.Example.{bytes_then, rows_of, input, output}
use Rattle.edges.proofs.Example.{example}
use Rattle.shipped.specs.Openings.{no_opening}
use Rattle.shipped.specs.Library.{receipts_in}
use Rattle.shipped.specs.Day.{receipts_to, receipts_between, Opens, Found}
use Rattle.shipped.specs.Mixed.{Lent, Use, call, opening, registered, opening_by, piece, end, used, newlines, receipts_by, receipts_by_all}
use Rattle.shipped.specs.Register.{turned_in}

abbrev kinds : List Receipt → List ℕ
kinds xs = map (λ (x : Receipt). x.kind) xs

abbrev some_arguments : ℕ → ℕ → List ℕ
some_arguments amount0 amount1 = amount0 ∷ amount1 ∷ 0 ∷ 1 ∷ 0 ∷ 2500 ∷ 120000 ∷ 40000 ∷ 1000 ∷ 100000 ∷ 100 ∷ 50 ∷ 25 ∷ 1000000 ∷ 60 ∷ 2 ∷ []

-- ---- the library: an accepted opening with charges in a memory of zeros, and a call of each kind after it, all of them accepted
abbrev some_memory : Memory
some_memory = opened_on (replicate 27 0) (replicate 500 0) (replicate 18 0) (some_arguments 1000000 4000000)

pub opening_accepted : some_memory.number ≡ 0
unfolding all untouched stored opened_on
opening_accepted = refl

pub calls_accepted : kinds (receipts_in some_memory some_calls) ≡ 2 ∷ 3 ∷ 4 ∷ 5 ∷ 6 ∷ 7 ∷ []
unfolding all untouched stored record_tests called_on opened_on receipts_in
calls_accepted = refl

-- ---- with a register: document 02 (g)'s example on a list of 3, with a swap between; after each call its number and the list
abbrev some_register : RegisterMemory
some_register = register_opened_on (replicate 27 0) (replicate 500 0) (replicate 18 0) (replicate 6 0) (some_arguments 1000000 4000000) 7

abbrev told : RegisterMemory → List ℕ
told m = m.number ∷ m.holders

unfoldable pub told_all : RegisterMemory → List Turn → List (List ℕ)
told_all m [] = []
told_all m (t ∷ ts) = told (turned_in m t) ∷ told_all (turned_in m t) ts

abbrev deposits : ℕ → ℕ → Turn
deposits holder lp = enters (deposit holder lp 10000 10000)

abbrev withdraws : ℕ → ℕ → Turn
withdraws holder lp = enters (withdraw holder lp 0 0)

unfoldable pub some_turns : List Turn
some_turns =
    deposits 8 1000
    ∷ deposits 9 500
    ∷ deposits 10 500
    ∷ withdraws 8 1000
    ∷ withdraws 8 1
    ∷ other (SwapBaseInput 0 10000 1 150) refl
    ∷ deposits 10 500
    ∷ deposits 8 5
    ∷ withdraws 10 500
    ∷ deposits 8 5
    ∷ withdraws 0 5
    ∷ []

pub register_opened : told some_register ≡ 0 ∷ 7 ∷ 1999900 ∷ 0 ∷ 0 ∷ 0 ∷ 0 ∷ []
unfolding all pairs_of entries_of numbers_of untouched_with stored_with register_opened_on
register_opened = refl

pub register_example :
    told_all some_register some_turns
    ≡ (0 ∷ 7 ∷ 1999900 ∷ 8 ∷ 1000 ∷ 0 ∷ 0 ∷ [])
    ∷ (0 ∷ 7 ∷ 1999900 ∷ 8 ∷ 1000 ∷ 9 ∷ 500 ∷ [])
    ∷ (16 ∷ 7 ∷ 1999900 ∷ 8 ∷ 1000 ∷ 9 ∷ 500 ∷ [])
    ∷ (0 ∷ 7 ∷ 1999900 ∷ 8 ∷ 0 ∷ 9 ∷ 500 ∷ [])
    ∷ (10 ∷ 7 ∷ 1999900 ∷ 8 ∷ 0 ∷ 9 ∷ 500 ∷ [])
    ∷ (0 ∷ 7 ∷ 1999900 ∷ 8 ∷ 0 ∷ 9 ∷ 500 ∷ [])
    ∷ (0 ∷ 7 ∷ 1999900 ∷ 10 ∷ 500 ∷ 9 ∷ 500 ∷ [])
    ∷ (16 ∷ 7 ∷ 1999900 ∷ 10 ∷ 500 ∷ 9 ∷ 500 ∷ [])
    ∷ (0 ∷ 7 ∷ 1999900 ∷ 10 ∷ 0 ∷ 9 ∷ 500 ∷ [])
    ∷ (0 ∷ 7 ∷ 1999900 ∷ 8 ∷ 5 ∷ 9 ∷ 500 ∷ [])
    ∷ (3 ∷ 7 ∷ 1999900 ∷ 8 ∷ 5 ∷ 9 ∷ 500 ∷ [])
    ∷ []
unfolding all untouched stored record_tests called_on pairs_of entries_of numbers_of untouched_with stored_with register_called_on register_opened_on told_all some_turns
register_example = refl

-- ---- the day sheet: document 01's example, whose opening and swap are two points of one opening
pub one_opening : no_opening (receipts_between (rows_of input) 2 3) ≡ true
unfolding all first read_digits in_range read_column read_row rows_from empty_sheet keep_rates replaced perform bytes_then rows_of input sheet_after receipts_of no_opening
one_opening = refl

-- and point 2 is after an accepted opening
pub opened_by_then : no_opening (receipts_to (rows_of input) 2) ≡ false
unfolding all first read_digits in_range read_column read_row rows_from empty_sheet keep_rates replaced perform bytes_then rows_of input sheet_after receipts_of no_opening
opened_by_then = refl

-- as its bytes tell: row 1 opens, row 2 does not
pub second_row_opens : Opens (rows_of input) (day_sheet (rows_of input)) 1
unfolding read_digits in_range read_column read_row rows_from bytes_then rows_of input output
second_row_opens = rw example (record { asks = refl; shows0 = refl })

pub third_row_asks : asks_opening (read_row (get_or (rows (rows_of input)) 2 [])) ≡ false
unfolding read_digits in_range read_column read_row rows_from bytes_then rows_of input
third_row_asks = refl

-- one piece with room for all its rows takes all of any input
pub all_taken_at_once :
    (input : List ℕ) → (fed_all empty_sheet [] input (record { shown = length input; room = row_bytes * length input } ∷ [])).taken ≡ length input
unfolding fed_all
all_taken_at_once input =
    let whole : take (length input) input ≡ input = take_all (length input) input (omega arith) in
    rw whole (omega (arith, whole_taken (row_bytes * length input) empty_sheet [] input (omega arith)))

pub second_row : Found (day_sheet (rows_of input)) 1 1000000 4000000 2000000
unfolding read_digits in_range read_column bytes_then rows_of output
second_row = rw example (record { in_net0 = refl; in_net1 = refl; in_supply = refl })

pub third_row : Found (day_sheet (rows_of input)) 2 1009996 3960495 2000000
unfolding read_digits in_range read_column bytes_then rows_of output
third_row = rw example (record { in_net0 = refl; in_net1 = refl; in_supply = refl })

-- ---- one memory
abbrev zero_lent : Lent
zero_lent = record { pool = replicate 27 0; entries = replicate 500 0; receipt = replicate 18 0 }

-- a day sheet's rates, opening and swap
pub sheet_accepted : kinds (receipts_by zero_lent (piece (replicate 6 0) (replicate 103 0) (rows_of input) (replicate 309 0) (replicate 2 0))) ≡ 0 ∷ 1 ∷ 2 ∷ []
unfolding all first read_digits in_range read_column read_row rows_from keep_rates replaced perform bytes_then rows_of input receipts_of newlines receipts_by
sheet_accepted = refl

abbrev some_row : List ℕ
some_row = rows_of (" 2                   1                5000                   1                 200                   0" ∷ [])

-- an opening, a call, another opening over the same memory, a deposit with a register that no opening made, an opening with a register and a withdrawal
-- with it, the end of a day sheet that holds a row, and a row of another day sheet
unfoldable pub some_uses : List Use
some_uses =
    opening (some_arguments 1000000 4000000)
    ∷ call (SwapBaseInput 0 10000 1 150)
    ∷ opening (some_arguments 5000000 2000000)
    ∷ registered (3 ∷ 400 ∷ []) (deposit 3 1000 10000 10000)
    ∷ opening_by (some_arguments 5000000 2000000) (replicate 6 0) 7
    ∷ registered (7 ∷ 3162177 ∷ 0 ∷ 0 ∷ 0 ∷ 0 ∷ []) (withdraw 7 1000 0 0)
    ∷ end (0 ∷ 0 ∷ 0 ∷ 0 ∷ 0 ∷ 102 ∷ []) some_row (replicate 103 0) (replicate 2 0)
    ∷ piece (replicate 6 0) (replicate 103 0) some_row (replicate 103 0) (replicate 2 0)
    ∷ []

pub uses_accepted : kinds (receipts_by_all zero_lent some_uses) ≡ 1 ∷ 2 ∷ 1 ∷ 4 ∷ 1 ∷ 5 ∷ 2 ∷ 2 ∷ []
unfolding all first read_digits in_range read_column read_row rows_from perform bytes_then rows_of untouched stored record_tests called_on opened_on receipts_of used
    finish left_at_end stored_end ended_on newlines pairs_of entries_of numbers_of untouched_with stored_with register_called_on register_opened_on receipts_by receipts_by_all
    some_uses
uses_accepted = refl
