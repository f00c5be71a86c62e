-- The rows that are written, and the numbers in their columns.
-- Assumes nothing.
use Prim.Native.Nat.{ℕ, zero, suc, ◌+◌, ◌-◌, ◌*◌, ◌^◌, ◌≤◌, ◌<◌}
use mathlib.Core.Path.{◌≡◌, refl, ap, ◌∙◌}
use mathlib.Core.List.{List, [], ◌∷◌, ◌++◌, append_assoc}
use native.Mathlib.Omega.{arith}
use lib.ListN.{length, take, drop, get_or, length-append}
use lib.Seq.{take-append-add, drop-append-add, take_at, drop_at}
use Rattle.refusal.specs.Tests.{u64_max}
use Rattle.pool.specs.State.{net0, net1}
use Rattle.calls.proofs.Within.{BooksFit}
use Rattle.std.specs.Prelude.{Some}
use Rattle.columns.specs.Column.{read_column, column}
use Rattle.columns.proofs.ColumnWritten.{column_length}
use Rattle.columns.proofs.ColumnBack.{column_back}
use Rattle.rows.specs.Row.{newline, column_at, read_row, write_row}
use Rattle.rows.proofs.RowWritten.{row_length}
use Rattle.sheet.specs.Sheet.{Sheet, Turn, perform, first_amount, second_amount, yielded, run}
use Rattle.sheet.specs.Turns.{sheet_after, state_in}
use Rattle.sheet.proofs.Within.{TurnFits, row_turn_fits, rows_fit, first_fits, second_fits}
use Rattle.shipped.specs.Written.{row_of, Shows, ShowsRows}
use Rattle.shipped.proofs.Rows.{row_after}

-- ---- a column of a row that is written
column_in :
    (front col back : List ℕ) (at width : ℕ) → length front ≡ at → length col ≡ width → at + width ≤ 102
    → take width (drop at (take 102 (front ++ (col ++ back)))) ≡ col
column_in front col back at width h w l =
    let e : 102 ≡ length front + (length col + (102 - at - width)) = omega arith in
    ap (λ (n : ℕ). take width (drop at (take n (front ++ (col ++ back))))) e
    ∙ rw (take-append-add front (col ++ back) (length col + (102 - at - width)), take-append-add col back (102 - at - width))
    (ap (take width) (drop_at front (col ++ take (102 - at - width) back) at h) ∙ take_at col (take (102 - at - width) back) width w)

column_shown :
    (bytes front : List ℕ) (width n : ℕ) (back : List ℕ) (at : ℕ) → bytes ≡ front ++ (column (suc width) n ++ back) → length front ≡ at → at + suc width ≤ 102
    → n < 10 ^ suc width → n ≤ u64_max → read_column (take (suc width) (drop at (take 102 bytes))) ≡ Some n
column_shown bytes front width n back at is h l short fits =
    ap (λ (l : List ℕ). read_column (take (suc width) (drop at (take 102 l)))) is
    ∙ ap read_column (column_in front (column (suc width) n) back at (suc width) h (column_length (suc width) n) l)
    ∙ column_back width n short fits

module _ (n a b c d e : ℕ) (rest : List ℕ) where
  abbrev whole : List ℕ
  whole = write_row n a b c d e ++ rest

  pub shown_number : n ≤ 99 → read_column (take 2 (take 102 whole)) ≡ Some n
  unfolding write_row
  shown_number h =
      column_shown whole [] 1 n (column 20 a ++ (column 20 b ++ (column 20 c ++ (column 20 d ++ (column 20 e ++ ((newline ∷ []) ++ rest)))))) 0
      (simp append_assoc) refl (omega arith) (omega arith) (omega arith)

  pub shown_first : a ≤ u64_max → column_at (take 102 whole) 0 ≡ Some a
  unfolding write_row
  shown_first h =
      column_shown whole (column 2 n) 19 a (column 20 b ++ (column 20 c ++ (column 20 d ++ (column 20 e ++ ((newline ∷ []) ++ rest))))) 2
      (simp append_assoc) (column_length 2 n) (omega arith) (omega arith) h

  pub shown_second : b ≤ u64_max → column_at (take 102 whole) 1 ≡ Some b
  unfolding write_row
  shown_second h =
      column_shown whole (column 2 n ++ column 20 a) 19 b (column 20 c ++ (column 20 d ++ (column 20 e ++ ((newline ∷ []) ++ rest)))) 22
      (simp append_assoc) (simp (length-append, column_length 2 n, column_length 20 a)) (omega arith) (omega arith) h

  pub shown_third : c ≤ u64_max → column_at (take 102 whole) 2 ≡ Some c
  unfolding write_row
  shown_third h =
      column_shown whole (column 2 n ++ (column 20 a ++ column 20 b)) 19 c (column 20 d ++ (column 20 e ++ ((newline ∷ []) ++ rest))) 42
      (simp append_assoc) (simp (length-append, column_length 2 n, column_length 20 a, column_length 20 b)) (omega arith) (omega arith) h

  pub shown_fourth : d ≤ u64_max → column_at (take 102 whole) 3 ≡ Some d
  unfolding write_row
  shown_fourth h =
      column_shown whole (column 2 n ++ (column 20 a ++ (column 20 b ++ column 20 c))) 19 d (column 20 e ++ ((newline ∷ []) ++ rest)) 62
      (simp append_assoc) (simp (length-append, column_length 2 n, column_length 20 a, column_length 20 b, column_length 20 c)) (omega arith) (omega arith) h

  pub shown_fifth : e ≤ u64_max → column_at (take 102 whole) 4 ≡ Some e
  unfolding write_row
  shown_fifth h =
      column_shown whole (column 2 n ++ (column 20 a ++ (column 20 b ++ (column 20 c ++ column 20 d)))) 19 e ((newline ∷ []) ++ rest) 82
      (simp append_assoc)
      (simp (length-append, column_length 2 n, column_length 20 a, column_length 20 b, column_length 20 c, column_length 20 d)) (omega arith) (omega arith) h

-- ---- the rows of an output
yielded_length : (t : Turn) → length (yielded t) ≡ 103
unfolding yielded
yielded_length t = row_length _ _ _ _ _ _

-- row k, and what follows it
record RowAt (s : Sheet) (rs : List (List ℕ)) (k : ℕ) : Type 0 where
  more : List ℕ
  is : drop (103 * k) (run s rs) ≡ yielded (perform (sheet_after s (take k rs)) (read_row (get_or rs k []))) ++ more

row_at : (k : ℕ) (s : Sheet) (rs : List (List ℕ)) → k < length rs → RowAt s rs k
unfolding run sheet_after
row_at k s [] h = absurd (omega arith)
row_at zero s (x ∷ rs) h = record { more = run (perform s (read_row x)).sheet rs; is = refl }
row_at (suc k) s (x ∷ rs) h =
    let t = perform s (read_row x) in
    let r = row_at k t.sheet rs (omega arith) in
    let e : 103 * suc k ≡ length (yielded t) + 103 * k = omega (arith, yielded_length t) in
    record {
      more = r.more;
      is = ap (λ (n : ℕ). drop n (yielded t ++ run t.sheet rs)) e ∙ drop-append-add (yielded t) (run t.sheet rs) (103 * k) ∙ r.is;
    }

turn_shows :
    (output : List ℕ) (k : ℕ) (t : Turn) (more : List ℕ) → drop (103 * k) output ≡ yielded t ++ more → TurnFits t
    → Shows output k t.receipt (state_in t.sheet)
unfolding yielded
turn_shows output k t more is f =
    let x = t.receipt in
    let p = t.sheet.pool in
    let n = x.number in
    let a = first_amount x in
    let b = second_amount x in
    let at : row_of output k ≡ take 102 (yielded t ++ more) = ap (take 102) is in
    record {
      number = ap (λ (l : List ℕ). read_column (take 2 l)) at ∙ shown_number n a b (net0 p) (net1 p) p.books.supply more f.receipt.number;
      first = ap (λ (l : List ℕ). column_at l 0) at ∙ shown_first n a b (net0 p) (net1 p) p.books.supply more (first_fits x f.receipt);
      second = ap (λ (l : List ℕ). column_at l 1) at ∙ shown_second n a b (net0 p) (net1 p) p.books.supply more (second_fits x f.receipt);
      shown_net0 = ap (λ (l : List ℕ). column_at l 2) at ∙ shown_third n a b (net0 p) (net1 p) p.books.supply more (omega (arith, f.books.vault0));
      shown_net1 = ap (λ (l : List ℕ). column_at l 3) at ∙ shown_fourth n a b (net0 p) (net1 p) p.books.supply more (omega (arith, f.books.vault1));
      shown_supply = ap (λ (l : List ℕ). column_at l 4) at ∙ shown_fifth n a b (net0 p) (net1 p) p.books.supply more f.books.supply;
    }

pub rows_show : (s : Sheet) (rs : List (List ℕ)) → BooksFit s.pool.books → ShowsRows (run s rs) s rs
rows_show s rs fits k h =
    let before = sheet_after s (take k rs) in
    let bytes = get_or rs k [] in
    let r = row_at k s rs h in
    rw (row_after k s rs h) at
    (turn_shows (run s rs) k (perform before (read_row bytes)) r.more r.is (row_turn_fits before bytes (rows_fit s (take k rs) fits)))
