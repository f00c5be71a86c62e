-- Demand 3 and document 02 (e) of every day sheet, and of the numbers in its rows.
-- Assumes nothing.
use Prim.Native.Nat.{ℕ, zero, suc, ◌≤◌, ◌<◌}
use mathlib.Core.Path.{◌≡◌, refl, sym, ap, ◌∙◌}
use mathlib.Core.Bool.{Bool, true, false, not, ◌&&◌, true≢false}
use mathlib.Core.List.{List, [], ◌∷◌}
use native.Mathlib.Omega.{arith}
use borrow.Author.Tests.{eqb-true}
use lib.Dec.{eqb}
use lib.ListN.{length, take, drop, get_or}
use Rattle.pool.specs.State.{net0, net1}
use Rattle.history.specs.Afresh.{start}
use Rattle.std.specs.Prelude.{Some}
use Rattle.columns.specs.Column.{read_column}
use Rattle.rows.specs.Row.{read_row, rows}
use Rattle.sheet.specs.Sheet.{Sheet, empty_sheet, perform, day_sheet}
use Rattle.sheet.specs.Turns.{sheet_after, receipts_of, state_in, is_opening, asks_opening}
use Rattle.sheet.proofs.Within.{empty_fits}
use Rattle.however_cut.specs.HoweverCut.{AllTaken}
use Rattle.however_cut.proofs.Cuts.{all_taken}
use Rattle.shipped.specs.Openings.{no_opening, HoldsAlong}
use Rattle.shipped.specs.Day.{OpeningsSeen, state_at, receipts_to, receipts_between, written_in_cuts, DayTheorem, Opens, PrintedTheorem}
use Rattle.shipped.specs.Written.{row_of, row_receipt}
use Rattle.shipped.proofs.Went.{SoundAt, zeros_sound, went_sound, went_locked, holds_along}
use Rattle.shipped.proofs.Rows.{rows_went, openings_seen, points_went}
use Rattle.shipped.proofs.Printed.{rows_show}

start_sound : SoundAt (start 0 0) (state_in empty_sheet)
unfolding empty_sheet
start_sound = zeros_sound

points_hold : (input : List ℕ) → HoldsAlong (state_at input) (receipts_to input) (receipts_between input)
unfolding no_opening
points_hold input =
    holds_along _ _ _
    (λ k. went_sound (start 0 0) (rows_went empty_sheet (take k (rows input))) start_sound)
    (λ k. went_locked [] (λ e. absurd (true≢false e)) (rows_went empty_sheet (take k (rows input))))
    (λ i j l. points_went empty_sheet (rows input) i j l)

pub day_theorem : DayTheorem
unfolding DayTheorem AllTaken day_sheet
day_theorem input cuts taken = record {
  whole = all_taken input cuts taken;
  holds = points_hold input;
  shows = λ k l. rw (all_taken input cuts taken) (rows_show empty_sheet (rows input) empty_fits k l);
}

-- ---- of the bytes alone
-- rows of which none opens
none_between :
    (s : Sheet) (rs : List (List ℕ)) (i j : ℕ)
    → ((k : ℕ) → i ≤ k → k < j → k < length rs → is_opening (row_receipt s rs k) ≡ false)
    → no_opening (drop i (receipts_of s (take j rs))) ≡ true
unfolding no_opening receipts_of sheet_after
none_between s rs zero zero h = refl
none_between s rs (suc i) zero h = refl
none_between s [] zero (suc j) h = refl
none_between s [] (suc i) (suc j) h = refl
none_between s (x ∷ rs) zero (suc j) h =
    rw (h 0 (omega arith) (omega arith) (omega arith))
    (none_between (perform s (read_row x)).sheet rs zero j (λ k a b c. h (suc k) (omega arith) (omega arith) (omega arith)))
none_between s (x ∷ rs) (suc i) (suc j) h =
    none_between (perform s (read_row x)).sheet rs i j (λ k a b c. h (suc k) (omega arith) (omega arith) (omega arith))

-- a row that does not open, as its bytes tell
not_opened :
    (input output : List ℕ) (k : ℕ) → let x = row_receipt empty_sheet (rows input) k in
    read_column (take 2 (row_of output k)) ≡ Some x.number → (Opens input output k → ⊥) → is_opening x ≡ false
unfolding OpeningsSeen
not_opened input output k shown none =
    let r = read_row (get_or (rows input) k []) in
    let s = sheet_after empty_sheet (take k (rows input)) in
    openings_seen s r
    ∙ go (asks_opening r) (eqb (perform s r).receipt.number 0) refl refl
  where
    go :
        (a b : Bool) → asks_opening (read_row (get_or (rows input) k [])) ≡ a
        → eqb (row_receipt empty_sheet (rows input) k).number 0 ≡ b → (a && b) ≡ false
    go false b p q = refl
    go true false p q = refl
    go true true p q = absurd (none (record { asks = p; shows0 = shown ∙ ap Some (eqb-true _ _ q) }))

-- a row that opens is among the rows up to a later one
row_opened :
    (s : Sheet) (rs : List (List ℕ)) (k i : ℕ) → k < i → k < length rs → is_opening (row_receipt s rs k) ≡ true
    → no_opening (receipts_of s (take i rs)) ≡ false
unfolding no_opening receipts_of sheet_after
row_opened s rs k zero h l e = absurd (omega arith)
row_opened s [] k (suc i) h l e = absurd (omega arith)
row_opened s (x ∷ rs) zero (suc i) h l e = rw e
row_opened s (x ∷ rs) (suc k) (suc i) h l e =
    let t = perform s (read_row x) in
    both_false (not (is_opening t.receipt)) (row_opened t.sheet rs k i (omega arith) (omega arith) e)
  where
    both_false : (a : Bool) {b : Bool} → b ≡ false → (a && b) ≡ false
    both_false true e = e
    both_false false e = refl

-- a row that opens, as its bytes tell
was_opened :
    (input output : List ℕ) (k : ℕ) → let x = row_receipt empty_sheet (rows input) k in
    read_column (take 2 (row_of output k)) ≡ Some x.number → Opens input output k → is_opening x ≡ true
unfolding OpeningsSeen
was_opened input output k shown o =
    let r = read_row (get_or (rows input) k []) in
    let s = sheet_after empty_sheet (take k (rows input)) in
    let x = (perform s r).receipt in
    let accepted : x.number ≡ 0 = read_back (sym shown ∙ o.shows0) in
    openings_seen s r ∙ rw (o.asks, accepted)
  where
    read_back : {a b : ℕ} → Some a ≡ Some b → a ≡ b
    read_back e = cc

pub printed_theorem : PrintedTheorem
unfolding PrintedTheorem DayTheorem
printed_theorem input cuts taken i j l k a b s c d m at_i at_j =
    let day = day_theorem input cuts taken in
    let u = day.shows i (omega arith) in
    let v = day.shows j k in
    let p = (state_at input (suc i)).pool in
    let q = (state_at input (suc j)).pool in
    let a-is : a ≡ net0 p = cc in
    let b-is : b ≡ net1 p = cc in
    let s-is : s ≡ p.books.supply = cc in
    let c-is : c ≡ net0 q = cc in
    let d-is : d ≡ net1 q = cc in
    let m-is : m ≡ q.books.supply = cc in
    record {
      floor = rw (a-is, b-is, s-is) (day.holds.floor (suc i));
      rise = λ n.
          rw (a-is, b-is, s-is, c-is, d-is, m-is)
          (day.holds.rise (suc i) (suc j) (omega arith)
          (none_between empty_sheet (rows input) (suc i) (suc j)
          (λ q e f g. not_opened input (written_in_cuts cuts input) q (day.shows q g).number (n q (omega arith) (omega arith)))));
      locked = λ q e o. rw s-is (day.holds.locked (suc i) (opened q e o));
      alive = λ q e o. rw (a-is, b-is) (day.holds.alive (suc i) (opened q e o));
    }
  where
    opened : (q : ℕ) → q ≤ i → Opens input (written_in_cuts cuts input) q → no_opening (receipts_to input (suc i)) ≡ false
    opened q e o =
        let l : q < length (rows input) = omega arith in
        row_opened empty_sheet (rows input) q (suc i) (omega arith) l
        (was_opened input (written_in_cuts cuts input) q ((day_theorem input cuts taken).shows q l).number o)
