-- A row, written column after column.
use Prim.Native.Nat.{ℕ, suc, ◌+◌, ◌-◌, ◌≤◌, ◌<◌}
use mathlib.Core.Path.{◌≡◌, refl, sym, ap, ◌∙◌}
use mathlib.Core.Bool.{true, false}
use mathlib.Core.List.{List, [], ◌∷◌, ◌++◌, append_assoc}
use native.Mathlib.Omega.{arith}
use native.Mathlib.Nat.{add-sub_cancel_left}
use borrow.Author.Tests.{le-leb, lt-leb}
use borrow.Rule.Slice.PartMut.{put_mid}
use lib.ListN.{length, get_or, set, drop, length-append, length-drop, drop_of_length-le}
use lib.Seq.{drop-cons, drop-drop, drop-append-add, take_at, set_at}
use Rattle.columns.specs.Column.{column, has_room, with_column}
use Rattle.rows.specs.Row.{newline, write_row, with_row}
use Rattle.columns.proofs.ColumnWritten.{in_row, column_length}

-- a row that is written up to a place, and as it was from there on
record Begun (row : List ℕ) (at : ℕ) (front now : List ℕ) : Type 0 where
  is : now ≡ front ++ drop at row
  long : length front ≡ at

-- what stands past a place beyond the front
past_front : (row front : List ℕ) (at width : ℕ) → length front ≡ at → drop (at + width) (front ++ drop at row) ≡ drop (at + width) row
past_front row front at width h =
    ap (λ (k : ℕ). drop (k + width) (front ++ drop at row)) (sym h) ∙ (drop-append-add front (drop at row) width ∙ drop-drop width at row)

-- one column more
next :
    (row front : List ℕ) (at width n : ℕ) {now after : List ℕ} → at + width ≤ length row → Begun row at front now → after ≡ with_column now at width n
    → Begun row (at + width) (front ++ column width n) after
next row front at width n {now} {after} fits b e =
    let room : at + width ≤ length (front ++ drop at row) = simp (length-append, length-drop, b.long) (omega arith) in
    record {
      is =
          e
          ∙ (ap (λ (l : List ℕ). with_column l at width n) b.is
          ∙ (in_row (front ++ drop at row) at width n room
          ∙ rw (take_at front (drop at row) at b.long, past_front row front at width b.long, append_assoc)));
      long = simp (length-append, column_length width n, b.long);
    }

-- the newline, the row's last byte
ended : (row front : List ℕ) (at : ℕ) {now : List ℕ} → length row ≡ suc at → Begun row at front now → set now at newline ≡ front ++ (newline ∷ [])
ended row front at {now} h b =
    ap (λ (l : List ℕ). set l at newline) (b.is ∙ ap (λ (l : List ℕ). front ++ l) (drop-cons row at 0 (omega arith)))
    ∙ (set_at front (get_or row at 0) (drop (suc at) row) newline at b.long ∙ rw (drop_of_length-le row {i = suc at} (omega arith)))

pub row_written :
    (row : List ℕ) (number a b c d e : ℕ) {row1 row2 row3 row4 row5 row6 : List ℕ} → length row ≡ 103
    → row1 ≡ with_column row 0 2 number
    → row2 ≡ with_column row1 2 20 a
    → row3 ≡ with_column row2 22 20 b
    → row4 ≡ with_column row3 42 20 c
    → row5 ≡ with_column row4 62 20 d
    → row6 ≡ with_column row5 82 20 e
    → set row6 102 newline ≡ write_row number a b c d e
unfolding write_row
row_written row number a b c d e h h1 h2 h3 h4 h5 h6 =
    let b1 = next row [] 0 2 number (omega arith) (record { is = refl; long = refl }) h1 in
    let b2 = next row _ 2 20 a (omega arith) b1 h2 in
    let b3 = next row _ 22 20 b (omega arith) b2 h3 in
    let b4 = next row _ 42 20 c (omega arith) b3 h4 in
    let b5 = next row _ 62 20 d (omega arith) b4 h5 in
    let b6 = next row _ 82 20 e (omega arith) b5 h6 in
    ended row _ 102 h b6 ∙ simp append_assoc

-- ---- a row at a place of a longer text
pub no_room : (text : List ℕ) (at : ℕ) (row : List ℕ) → length text < at + 103 → (false ≡ has_room text at 103) × (text ≡ with_row text at row)
unfolding with_row
no_room text at row h = let e = lt-leb (at + 103) (length text) h in (sym e, rw e)

pub has_place : (text : List ℕ) (at : ℕ) → at + 103 ≤ length text → has_room text at 103 ≡ true
has_place text at h = le-leb (at + 103) (length text) h

pub row_put_back :
    (text : List ℕ) (at : ℕ) (row wrote : List ℕ) → at + 103 ≤ length text → wrote ≡ row → put_mid at (at + 103 - at) text wrote ≡ with_row text at row
unfolding with_row
row_put_back text at row wrote h e = rw (le-leb (at + 103) (length text) h, e, add-sub_cancel_left at 103, drop-drop 103 at text)

pub row_length : (number a b c d e : ℕ) → length (write_row number a b c d e) ≡ 103
unfolding write_row
row_length number a b c d e =
    simp (length-append, column_length 2 number, column_length 20 a, column_length 20 b, column_length 20 c, column_length 20 d, column_length 20 e)
