-- What the rows of an input write, row after row and byte after byte.
-- Assumes nothing.
use Prim.Native.Nat.{ℕ, ◌<◌}
use mathlib.Core.Path.{◌≡◌, refl, sym, ap, ◌∙◌}
use mathlib.Core.Bool.{Bool, true, false, cond}
use mathlib.Core.List.{List, [], ◌∷◌, ◌++◌, append-nil}
use native.Mathlib.Omega.{arith}
use borrow.Author.Tests.{leb-true, leb-false}
use lib.Dec.{eqb, leb}
use lib.ListN.{length, length-append, length-take}
use lib.Seq.{take_all}
use Rattle.std.specs.Prelude.{Option}
use Rattle.rows.specs.declared.row.Row.{Row}
use Rattle.rows.specs.Row.{newline, read_row, rows_from}
use Rattle.rows.proofs.RowRead.{other_length}
use Rattle.sheet.specs.Sheet.{Sheet, perform, yielded, run}
use Rattle.stream.specs.Pieces.{kept, finish}

-- ---- one byte, and the end
-- a newline ends the row that is begun, any other byte belongs to it
pub next_byte :
    (begun : List ℕ) (byte : ℕ) (bytes : List ℕ) (ends : Bool) → eqb byte newline ≡ ends
    → rows_from begun (byte ∷ bytes) ≡ cond ends (begun ∷ rows_from [] bytes) (rows_from (begun ++ (byte ∷ [])) bytes)
unfolding rows_from
next_byte [] byte bytes ends e = rw e
next_byte (b ∷ bs) byte bytes ends e = rw e

pub last_row : (s : Sheet) (begun : List ℕ) → run s (rows_from begun []) ≡ (finish s begun).written
unfolding run rows_from finish
last_row s [] = refl
last_row s (b ∷ bs) = append-nil (yielded (perform s (read_row (b ∷ bs))))

-- ---- rows that read alike whatever follows: the same bytes, or too many in both
data Alike (a b : List ℕ) : Type 0 where
  same : a ≡ b → Alike a b
  long : 102 < length a → 102 < length b → Alike a b

read_alike : {a b : List ℕ} → Alike a b → read_row a ≡ read_row b
read_alike (same e) = ap read_row e
read_alike {a} {b} (long h k) = other_length a (λ e. omega arith) ∙ sym (other_length b (λ e. omega arith))

alike_after : {a b : List ℕ} (more : List ℕ) → Alike a b → Alike (a ++ more) (b ++ more)
alike_after more (same e) = same (ap (λ (l : List ℕ). l ++ more) e)
alike_after more (long h k) = long (simp length-append (omega arith)) (simp length-append (omega arith))

-- as many are kept of a longer row as make it too long
kept_alike : (bytes : List ℕ) → Alike (kept bytes) bytes
kept_alike bytes = go (leb (length bytes) 102) refl
  where
    go : (fits : Bool) → leb (length bytes) 102 ≡ fits → Alike (kept bytes) bytes
    go false e = long (simp length-take (omega (arith, leb-false))) (omega (arith, leb-false))
    go true e = same (take_all 103 bytes (omega (arith, leb-true)))

-- ---- rows that are read alike, one by one
pub data ReadAlike : List (List ℕ) → List (List ℕ) → Type 0 where
  none : ReadAlike [] []
  more : {a b : List ℕ} {xs ys : List (List ℕ)} → read_row a ≡ read_row b → ReadAlike xs ys → ReadAlike (a ∷ xs) (b ∷ ys)

alike_same : (xs : List (List ℕ)) → ReadAlike xs xs
alike_same [] = none
alike_same (x ∷ xs) = more refl (alike_same xs)

last_alike : (a b : List ℕ) → Alike a b → ReadAlike (rows_from a []) (rows_from b [])
unfolding rows_from
last_alike a b (same e) = rw e (alike_same (rows_from b []))
last_alike [] b (long h k) = absurd (omega arith)
last_alike (x ∷ xs) [] (long h k) = absurd (omega arith)
last_alike (x ∷ xs) (y ∷ ys) (long h k) = more (read_alike (long h k)) none

rows_alike : (a b rest : List ℕ) → Alike a b → ReadAlike (rows_from a rest) (rows_from b rest)
rows_alike a b [] h = last_alike a b h
rows_alike a b (byte ∷ bytes) h = go (eqb byte newline) refl (rows_alike (a ++ (byte ∷ [])) (b ++ (byte ∷ [])) bytes (alike_after (byte ∷ []) h))
  where
    go :
        (ends : Bool) → eqb byte newline ≡ ends → ReadAlike (rows_from (a ++ (byte ∷ [])) bytes) (rows_from (b ++ (byte ∷ [])) bytes)
        → ReadAlike (rows_from a (byte ∷ bytes)) (rows_from b (byte ∷ bytes))
    go true e rest = rw (next_byte a byte bytes true e, next_byte b byte bytes true e) (more (read_alike h) (alike_same (rows_from [] bytes)))
    go false e rest = rw (next_byte a byte bytes false e, next_byte b byte bytes false e) rest

-- what is not kept of a row that is begun changes nothing
pub kept_rows : (begun rest : List ℕ) → ReadAlike (rows_from (kept begun) rest) (rows_from begun rest)
kept_rows begun rest = rows_alike (kept begun) begun rest (kept_alike begun)

-- they write alike
pub run_reads : (s : Sheet) {xs ys : List (List ℕ)} → ReadAlike xs ys → run s xs ≡ run s ys
unfolding run
run_reads s none = refl
run_reads s (more {a} {b} {xs} {ys} e rest) =
    ap (λ (r : Option Row). yielded (perform s r) ++ run (perform s r).sheet xs) e
    ∙ ap (λ (l : List ℕ). yielded (perform s (read_row b)) ++ l) (run_reads (perform s (read_row b)).sheet rest)

pub run_kept : (s : Sheet) (begun rest : List ℕ) → run s (rows_from (kept begun) rest) ≡ run s (rows_from begun rest)
run_kept s begun rest = run_reads s (kept_rows begun rest)
