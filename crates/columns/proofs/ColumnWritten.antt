-- Writing a column from its last byte to its first.
use Prim.Native.Nat.{ℕ, zero, suc, ◌+◌, ◌-◌, ◌/◌, ◌%◌, ◌≤◌, ◌<◌}
use mathlib.Core.Path.{◌≡◌, refl, sym, ap, ◌∙◌}
use mathlib.Core.Bool.{true, false, cond}
use mathlib.Core.List.{List, [], ◌∷◌, ◌++◌, append_assoc}
use native.Mathlib.Numerals.{add-one}
use native.Mathlib.Omega.{arith}
use borrow.Author.Tests.{ne_eqb, le-leb, lt-leb}
use lib.Dec.{eqb}
use lib.ListN.{length, set, take, drop, replicate, length-set, length-append, length-drop, replicate-append-replicate, drop_of_length-le}
use lib.Seq.{drop-cons, get_or-set_same, drop-set-lt, drop-drop, length-take-le, take_at, drop_at}
use Rattle.columns.specs.Column.{blank, digit_byte, blanks_before, column, has_room, with_column, formatted, placed}

-- the last digit of what is left of a number; a blank where nothing is left
abbrev pub digit_or_blank : ℕ → ℕ
digit_or_blank n = cond (eqb n 0) blank (digit_byte (n % 10))

all_blank : (width : ℕ) → blanks_before width 0 ≡ replicate width blank
unfolding blanks_before
all_blank zero = refl
all_blank (suc width) = refl

pub one_more : (width n : ℕ) → blanks_before (suc width) n ≡ blanks_before width (n / 10) ++ (digit_or_blank n ∷ [])
unfolding blanks_before
one_more width zero = rw (all_blank width, replicate-append-replicate width 1 blank, add-one width)
one_more width (suc n) = rw (ne_eqb (suc n) 0 (λ e. omega arith))

-- from a place that was just written on
drop_set : (part : List ℕ) (at byte : ℕ) → at < length part → drop at (set part at byte) ≡ byte ∷ drop (suc at) part
drop_set part at byte h =
    let k : at < length (set part at byte) = simp length-set h in
    drop-cons (set part at byte) at 0 k ∙ rw (get_or-set_same part at byte 0 h, drop-set-lt (suc at) part at byte (omega arith))

-- the last digit, which stands even of 0
pub last_written :
    (part : List ℕ) (at byte n : ℕ) → at + 1 ≡ length part → byte ≡ digit_byte (n % 10) → blanks_before at (n / 10) ++ drop at (set part at byte) ≡ column (length part) n
unfolding column
last_written part at byte n h e =
    rw (e, drop_set part at (digit_byte (n % 10)) (omega arith), drop_of_length-le part {i = suc at} (omega arith), ← h, add-one at)

pub none_written : (part : List ℕ) (n : ℕ) → length part ≡ 0 → part ≡ column (length part) n
unfolding column
none_written [] n h = refl
none_written (byte ∷ part) n h = absurd (omega arith)

-- one byte more before it
more_written : (part : List ℕ) (at rest : ℕ) → at < length part → blanks_before at (rest / 10) ++ drop at (set part at (digit_or_blank rest)) ≡ blanks_before (suc at) rest ++ drop (suc at) part
more_written part at rest h = rw (drop_set part at (digit_or_blank rest) h, one_more at rest, append_assoc)

-- two bytes more before it
pub two_written :
    (part : List ℕ) (at rest ones tens : ℕ) → 1 < at → at < length part → ones ≡ digit_or_blank rest → tens ≡ digit_or_blank (rest / 10)
    → blanks_before (at - 2) (rest / 100) ++ drop (at - 2) (set (set part (at - 1) ones) (at - 2) tens) ≡ blanks_before at rest ++ drop at part
two_written part at rest ones tens h k e f =
    let once = set part (at - 1) (digit_or_blank rest) in
    let hundredth : rest / 100 ≡ rest / 10 / 10 = omega arith in
    let first : suc (at - 1) ≡ at = omega arith in
    let second : suc (at - 2) ≡ at - 1 = omega arith in
    rw (e, f, hundredth)
    (more_written once (at - 2) (rest / 10) (simp length-set (omega arith))
    ∙ (ap (λ (i : ℕ). blanks_before i (rest / 10) ++ drop i once) second
    ∙ (more_written part (at - 1) rest (omega arith) ∙ ap (λ (i : ℕ). blanks_before i rest ++ drop i part) first)))

-- the first byte, where one is left
pub first_written :
    (part : List ℕ) (at rest byte : ℕ) → at < length part → at ≡ 1 → byte ≡ digit_or_blank rest → blanks_before at rest ++ drop at part ≡ set part 0 byte
unfolding blanks_before
first_written part at rest byte h one e = rw (one, e) (sym (more_written part 0 rest (omega arith)))

-- or none is
pub all_written : (part : List ℕ) (at rest : ℕ) → at ≡ 0 → blanks_before at rest ++ drop at part ≡ part
unfolding blanks_before
all_written part at rest none = rw none

-- ---- lengths
pub blanks_length : (width n : ℕ) → length (blanks_before width n) ≡ width
unfolding blanks_before
blanks_length zero n = refl
blanks_length (suc width) n = ap length (one_more width n) ∙ (simp (length-append, blanks_length width (n / 10)) (omega arith))

pub column_length : (width n : ℕ) → length (column width n) ≡ width
unfolding column
column_length zero n = refl
column_length (suc width) n = simp (length-append, blanks_length width (n / 10)) (omega arith)

-- ---- a column of a row
pub too_short : (row : List ℕ) (at width n : ℕ) → length row < at + width → (false ≡ has_room row at width) × (row ≡ with_column row at width n)
unfolding with_column
too_short row at width n h = let e = lt-leb (at + width) (length row) h in (sym e, rw e)

pub in_row : (row : List ℕ) (at width n : ℕ) → at + width ≤ length row → with_column row at width n ≡ take at row ++ (column width n ++ drop (at + width) row)
unfolding with_column
in_row row at width n h = rw (le-leb (at + width) (length row) h)

-- the part that was lent, filled and put back
pub put_back :
    (row : List ℕ) (at width n : ℕ) → at + width ≤ length row
    → (true ≡ has_room row at width) × (take at row ++ (column (length (take width (drop at row))) n ++ drop width (drop at row)) ≡ with_column row at width n)
put_back row at width n h =
    let k : length (take width (drop at row)) ≡ width = length-take-le width (drop at row) (simp length-drop (omega arith)) in
    (sym (le-leb (at + width) (length row) h), rw (k, drop-drop width at row) (sym (in_row row at width n h)))

-- what formatting hands back: the filled part, or none
pub filled_part : (row : List ℕ) (at n : ℕ) → at + 20 ≤ length row → take 20 (drop at (with_column row at 20 n)) ≡ formatted row at n
unfolding formatted
filled_part row at n h =
    rw (le-leb (at + 20) (length row) h)
    (ap (λ (l : List ℕ). take 20 (drop at l)) (in_row row at 20 n h)
    ∙ (ap (take 20) (drop_at (take at row) (column 20 n ++ drop (at + 20) row) at (length-take-le at row (omega arith)))
    ∙ take_at (column 20 n) (drop (at + 20) row) 20 (column_length 20 n)))

pub filled_place : (row : List ℕ) (start : ℕ × ℕ) (at : ℕ) → at + 20 ≤ length row → (start.0, at + start.1) ≡ placed row start at
unfolding placed
filled_place row start at h = rw (le-leb (at + 20) (length row) h)

pub no_part : (row : List ℕ) (at n : ℕ) → has_room row at 20 ≡ false → formatted row at n ≡ []
unfolding formatted
no_part row at n h = rw h

pub no_place : (row : List ℕ) (start : ℕ × ℕ) (at : ℕ) → has_room row at 20 ≡ false → placed row start at ≡ start
unfolding placed
no_place row start at h = rw h
