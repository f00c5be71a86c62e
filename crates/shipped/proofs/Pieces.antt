-- A piece of a day sheet answers the rows that it ends, and the end of the input its last row.
-- Assumes nothing.
use Prim.Native.Nat.{ℕ, zero, suc, ◌-◌, ◌/◌, ◌≤◌, ◌<◌}
use mathlib.Core.Path.{◌≡◌, refl, sym, ap, ◌∙◌}
use mathlib.Core.Bool.{true, false}
use mathlib.Core.List.{List, [], ◌∷◌, ◌++◌}
use native.Mathlib.Omega.{arith}
use borrow.Author.Tests.{ltb-true, ltb-false}
use lib.Dec.{eqb, ltb}
use lib.ListN.{take}
use Rattle.std.specs.Prelude.{Option}
use Rattle.rows.specs.declared.row.Row.{Row}
use Rattle.rows.specs.Row.{newline, row_bytes, read_row, rows_from}
use Rattle.sheet.specs.Sheet.{Sheet, perform, yielded, run}
use Rattle.sheet.specs.Turns.{sheet_after}
use Rattle.stream.specs.Pieces.{kept, Fed, feed, finish}
use Rattle.stream.proofs.GoesOn.{by_tests}
use Rattle.however_cut.proofs.Alike.{next_byte, last_row, ReadAlike, none, more, kept_rows, run_reads}
use Rattle.shipped.specs.Mixed.{newlines, rows_ended}

-- the sheet after some rows, and what they yield
pub record Answers (s : Sheet) (rs : List (List ℕ)) (after : Sheet) (written : List ℕ) : Type 0 where
  pub sheet : after ≡ sheet_after s rs
  pub rows : written ≡ run s rs

-- rows that are read alike are answered alike
after_reads : (s : Sheet) {xs ys : List (List ℕ)} → ReadAlike xs ys → sheet_after s xs ≡ sheet_after s ys
unfolding sheet_after
after_reads s none = refl
after_reads s (more {a} {b} {xs} {ys} e rest) =
    ap (λ (r : Option Row). sheet_after (perform s r).sheet xs) e ∙ after_reads (perform s (read_row b)).sheet rest

take_alike : (k : ℕ) {xs ys : List (List ℕ)} → ReadAlike xs ys → ReadAlike (take k xs) (take k ys)
take_alike zero h = none
take_alike (suc k) none = none
take_alike (suc k) (more e h) = more e (take_alike k h)

alike_answers :
    (s : Sheet) {xs ys : List (List ℕ)} {after : Sheet} {written : List ℕ} → ReadAlike xs ys → Answers s xs after written → Answers s ys after written
alike_answers s h a = record { sheet = a.sheet ∙ after_reads s h; rows = a.rows ∙ run_reads s h }

-- no row, and one before others
no_row : (s : Sheet) (begun : List ℕ) {rs : List (List ℕ)} → rs ≡ [] → Answers s rs s []
unfolding sheet_after run
no_row s begun e = rw e (record { sheet = refl; rows = refl })

one_row :
    (s : Sheet) (row : List ℕ) (rs : List (List ℕ)) (f : Fed)
    → let t = perform s (read_row row) in Answers t.sheet rs f.sheet f.written → Answers s (row ∷ rs) f.sheet (yielded t ++ f.written)
unfolding sheet_after run
one_row s row rs f a = record { sheet = a.sheet; rows = ap (λ (l : List ℕ). yielded (perform s (read_row row)) ++ l) a.rows }

-- ---- the rows that end in a piece, byte after byte
take_none : (k : ℕ) {A : Type 0} → take {A = A} k [] ≡ []
take_none zero = refl
take_none (suc k) = refl

no_room : (room : ℕ) (begun bytes : List ℕ) → room < row_bytes → rows_ended room begun bytes ≡ []
no_room room begun bytes h =
    let e : room / row_bytes ≡ 0 = omega arith in
    ap (λ (k : ℕ). take k (take (newlines bytes) (rows_from begun bytes))) e

row_ends :
    (room : ℕ) (begun : List ℕ) (byte : ℕ) (bytes : List ℕ) → row_bytes ≤ room → eqb byte newline ≡ true
    → rows_ended room begun (byte ∷ bytes) ≡ begun ∷ rows_ended (room - row_bytes) [] bytes
unfolding newlines
row_ends room begun byte bytes h e =
    let k : room / row_bytes ≡ suc ((room - row_bytes) / row_bytes) = omega arith in
    rw (k, e, next_byte begun byte bytes true e)

row_goes_on :
    (room : ℕ) (begun : List ℕ) (byte : ℕ) (bytes : List ℕ) → eqb byte newline ≡ false
    → rows_ended room begun (byte ∷ bytes) ≡ rows_ended room (begun ++ (byte ∷ [])) bytes
unfolding newlines
row_goes_on room begun byte bytes e = rw (e, next_byte begun byte bytes false e)

pub piece_answers :
    (room : ℕ) (s : Sheet) (begun piece : List ℕ) → let f = feed room s begun piece in Answers s (rows_ended room begun piece) f.sheet f.written
unfolding feed newlines
piece_answers room s begun [] = no_row s begun (take_none (room / row_bytes))
piece_answers room s begun (byte ∷ bytes) =
    let t = perform s (read_row begun) in
    let more_bytes = begun ++ (byte ∷ []) in
    let rest = feed (room - row_bytes) t.sheet [] bytes in
    let P : Fed → Type 0 = λ f. Answers s (rows_ended room begun (byte ∷ bytes)) f.sheet f.written in
    by_tests P (ltb room row_bytes) (eqb byte newline)
    (λ full. no_row s begun (no_room room begun (byte ∷ bytes) (ltb-true room row_bytes full)))
    (λ fits e.
    rw (row_ends room begun byte bytes (ltb-false room row_bytes fits) e)
    (one_row s begun (rows_ended (room - row_bytes) [] bytes) rest (piece_answers (room - row_bytes) t.sheet [] bytes)))
    (λ fits e.
    rw (row_goes_on room begun byte bytes e)
    (alike_answers s (take_alike (room / row_bytes) (take_alike (newlines bytes) (kept_rows more_bytes bytes))) (piece_answers room s (kept more_bytes) bytes)))

last_sheet : (s : Sheet) (begun : List ℕ) → (finish s begun).sheet ≡ sheet_after s (rows_from begun [])
unfolding finish rows_from sheet_after
last_sheet s [] = refl
last_sheet s (b ∷ bs) = refl

pub end_answers : (s : Sheet) (begun : List ℕ) → let f = finish s begun in Answers s (rows_from begun []) f.sheet f.written
end_answers s begun = record { sheet = last_sheet s begun; rows = sym (last_row s begun) }
