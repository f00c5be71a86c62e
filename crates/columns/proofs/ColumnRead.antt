-- Reading a column byte by byte.
use Prim.Native.Nat.{ℕ, zero, suc, ◌+◌, ◌*◌, ◌-◌, ◌≤◌, ◌<◌}
use mathlib.Core.Path.{◌≡◌, refl, sym, ap, ◌∙◌}
use mathlib.Core.Bool.{Bool, true, false, cond, not, ◌&&◌}
use mathlib.Core.List.{List, [], ◌∷◌}
use native.Mathlib.Numerals.{add-one}
use native.Mathlib.Omega.{arith}
use borrow.Author.Tests.{lt-ltb, le-ltb, le-leb, ne_eqb, ltb-true, ltb-false, leb-true}
use lib.Dec.{ltb, leb}
use lib.ListN.{length, get_or, take, drop, length-drop, drop_of_length-le}
use lib.Seq.{drop-cons}
use Rattle.refusal.specs.Tests.{u64_max, past}
use Rattle.std.specs.Prelude.{Option, Some, None, position, ◌==◌}
use Rattle.std.specs.List.{position_or_len}
use Rattle.std.proofs.lemmas.Bool.Decides.{nat_tests}
use Rattle.std.proofs.lemmas.List.{take_rest}
use Rattle.std.proofs.lemmas.List.Quantifiers.{position-Some}
use Rattle.columns.specs.Stages.{with_digit}
use Rattle.columns.specs.Column.{blank, is_digit, read_digits, in_range, read_column}

-- ---- blanks before
pub blank_first : (bytes : List ℕ) → read_column (blank ∷ bytes) ≡ read_column bytes
unfolding read_column
blank_first [] = refl
blank_first (byte ∷ bytes) = refl

pub past_blank : (bytes : List ℕ) (at : ℕ) → at < length bytes → get_or bytes at 0 ≡ blank → read_column (drop at bytes) ≡ read_column (drop (suc at) bytes)
past_blank bytes at h e = ap read_column (drop-cons bytes at 0 h) ∙ (ap (λ (b : ℕ). read_column (b ∷ drop (suc at) bytes)) e ∙ blank_first (drop (suc at) bytes))

-- ---- digits
abbrev Read : ℕ → List ℕ → Option ℕ
Read value bytes = in_range (read_digits value bytes)

first_byte : (bytes : List ℕ) (at value : ℕ) → at < length bytes → Read value (drop at bytes) ≡ Read value (get_or bytes at 0 ∷ drop (suc at) bytes)
first_byte bytes at value h = ap (Read value) (drop-cons bytes at 0 h)

pub one_digit_more : (bytes : List ℕ) (at value : ℕ) → at < length bytes → 48 ≤ get_or bytes at 0 → get_or bytes at 0 ≤ 57 → Read value (drop at bytes) ≡ Read (value * 10 + (get_or bytes at 0 - 48)) (drop (suc at) bytes)
unfolding read_digits
one_digit_more bytes at value h low high = first_byte bytes at value h ∙ rw (le-leb 48 (get_or bytes at 0) low, le-leb (get_or bytes at 0) 57 high)

-- what is past 2^64 − 1 stays past it
pub stays_past : (value : ℕ) (bytes : List ℕ) → u64_max < value → Read value bytes ≡ None
unfolding read_digits in_range
stays_past value [] h = rw (lt-ltb u64_max value h)
stays_past value (byte ∷ bytes) h = go (is_digit byte) (stays_past (value * 10 + (byte - 48)) bytes (omega arith))
  where
    go : (digit : Bool) → Read (value * 10 + (byte - 48)) bytes ≡ None → in_range (cond digit (read_digits (value * 10 + (byte - 48)) bytes) None) ≡ None
    go true past = past
    go false past = refl

-- what the digits still to come make of a number with one digit more
abbrev go_on : Option ℕ → List ℕ → Option ℕ
go_on None bytes = None
go_on (Some value) bytes = Read value bytes

one_byte : (value byte : ℕ) (bytes : List ℕ) → Read value (byte ∷ bytes) ≡ go_on (with_digit value byte) bytes
unfolding read_digits in_range with_digit
one_byte value byte bytes = go (is_digit byte) (past n) refl
  where
    n : ℕ
    n = value * 10 + (byte - 48)

    go : (digit over : Bool) → past n ≡ over → in_range (cond digit (read_digits n bytes) None) ≡ go_on (cond digit (cond over None (Some n)) None) bytes
    go true true e = stays_past n bytes (ltb-true u64_max n e)
    go true false e = refl
    go false over e = refl

pub digit_stops : (value at : ℕ) (bytes : List ℕ) → with_digit value (get_or bytes at 0) ≡ None → at < length bytes → Read value (drop at bytes) ≡ None
digit_stops value at bytes e h = first_byte bytes at value h ∙ one_byte value (get_or bytes at 0) (drop (suc at) bytes) ∙ rw e

pub digit_taken : (value at : ℕ) (bytes : List ℕ) (more : ℕ) → with_digit value (get_or bytes at 0) ≡ Some more → at < length bytes → Read value (drop at bytes) ≡ Read more (drop (at + 1) bytes)
digit_taken value at bytes more e h = first_byte bytes at value h ∙ one_byte value (get_or bytes at 0) (drop (suc at) bytes) ∙ rw (e, add-one at)

pub all_read : (bytes : List ℕ) (at value : ℕ) → length bytes ≤ at → value ≤ u64_max → Read value (drop at bytes) ≡ Some value
unfolding read_digits in_range
all_read bytes at value h fits = rw (drop_of_length-le bytes h, le-ltb u64_max value fits)

-- ---- a number with no blank before it and no zero before a digit
one_digit : (byte : ℕ) → read_column (byte ∷ []) ≡ Read 0 (byte ∷ [])
unfolding read_digits in_range read_column
one_digit byte = go (leb 48 byte) (leb byte 57) refl
  where
    go : (low high : Bool) → leb byte 57 ≡ high → cond (low && high) (Some (byte - 48)) None ≡ in_range (cond (low && high) (Some (0 * 10 + (byte - 48))) None)
    go true true e =
        let h : byte ≤ 57 = leb-true byte 57 e in
        let k : 0 * 10 + (byte - 48) ≤ u64_max = omega arith in
        rw (le-ltb u64_max (0 * 10 + (byte - 48)) k) (ap Some (omega arith))
    go true false e = refl
    go false high e = refl

number_first : (byte : ℕ) (bytes : List ℕ) → (byte ≡ blank → ⊥) → (byte ≡ 48 → length bytes ≡ 0) → read_column (byte ∷ bytes) ≡ Read 0 (byte ∷ bytes)
unfolding read_column
number_first byte [] h z = one_digit byte
number_first byte (next ∷ bytes) h z =
    let k : byte ≡ 48 → ⊥ = λ e. let l : suc (length bytes) ≡ 0 = z e in omega arith in
    rw (ne_eqb byte blank h, ne_eqb byte 48 k)

pub number_at :
    (bytes : List ℕ) (at : ℕ) → at < length bytes → (get_or bytes at 0 ≡ blank → ⊥) → (get_or bytes at 0 ≡ 48 → length bytes ≤ suc at) → read_column (drop at bytes) ≡ Read 0 (drop at bytes)
number_at bytes at h b z =
    ap read_column (drop-cons bytes at 0 h)
    ∙ (number_first (get_or bytes at 0) (drop (suc at) bytes) b (λ e. let k : length bytes ≤ suc at = z e in simp length-drop (omega arith)) ∙ sym (first_byte bytes at 0 h))

zero_first : (bytes : List ℕ) → 0 < length bytes → read_column (48 ∷ bytes) ≡ None
unfolding read_column
zero_first [] h = absurd (omega arith)
zero_first (next ∷ bytes) h = refl

pub zero_at : (bytes : List ℕ) (at : ℕ) → suc at < length bytes → get_or bytes at 0 ≡ 48 → read_column (drop at bytes) ≡ None
zero_at bytes at h z =
    let k : 0 < length (drop (suc at) bytes) = simp length-drop (omega arith) in
    ap read_column (drop-cons bytes at 0 (omega arith)) ∙ (ap (λ (b : ℕ). read_column (b ∷ drop (suc at) bytes)) z ∙ zero_first (drop (suc at) bytes) k)

pub none_left : (bytes : List ℕ) (at : ℕ) → length bytes ≤ at → read_column (drop at bytes) ≡ None
unfolding read_column
none_left bytes at h = rw (drop_of_length-le bytes h)

-- ---- the blanks before it
abbrev begins : ℕ → Bool
begins byte = not (byte == blank)

is_blank : (byte : ℕ) → begins byte ≡ false → byte ≡ blank
is_blank byte e = grind (arith, nat_tests)

no_blank : (byte : ℕ) → begins byte ≡ true → byte ≡ blank → ⊥
no_blank byte e is = grind (arith, nat_tests)

blanks_skipped : (bytes : List ℕ) (at : ℕ) → at ≤ length bytes → ((k : ℕ) → k < at → begins (get_or bytes k 0) ≡ false) → read_column bytes ≡ read_column (drop at bytes)
blanks_skipped bytes zero h blanks = refl
blanks_skipped bytes (suc at) h blanks =
    blanks_skipped bytes at (omega arith) (λ k less. blanks k (omega arith))
    ∙ past_blank bytes at (omega arith) (is_blank (get_or bytes at 0) (blanks at (omega arith)))

none_begins : (bytes : List ℕ) → length bytes ≤ position_or_len begins bytes → read_column bytes ≡ None
unfolding read_column
none_begins [] h = refl
none_begins (byte ∷ bytes) h = go (begins byte) refl h (λ k. none_begins bytes k)
  where
    go :
        (b : Bool) → begins byte ≡ b → length (byte ∷ bytes) ≤ cond (not b) (1 + position_or_len begins bytes) 0
        → (length bytes ≤ position_or_len begins bytes → read_column bytes ≡ None) → read_column (byte ∷ bytes) ≡ None
    go true e h rest = absurd (omega arith)
    go false e h rest = ap (λ (b : ℕ). read_column (b ∷ bytes)) (is_blank byte e) ∙ blank_first bytes ∙ rest (omega arith)

pub no_number : (bytes : List ℕ) → position begins bytes ≡ None → read_column bytes ≡ None
no_number bytes e = go (ltb (position_or_len begins bytes) (length bytes)) refl e
  where
    go : (b : Bool) → ltb (position_or_len begins bytes) (length bytes) ≡ b → cond b (Some (position_or_len begins bytes)) None ≡ None → read_column bytes ≡ None
    go true l e = cc
    go false l e = none_begins bytes (ltb-false _ _ l)

pub zero_before : (bytes : List ℕ) (at : ℕ) → position begins bytes ≡ Some at → get_or bytes at 0 ≡ 48 → at + 1 < length bytes → read_column bytes ≡ None
zero_before bytes at e z h =
    let s = position-Some begins bytes at 0 e in
    blanks_skipped bytes at (omega (arith, s.0)) s.2 ∙ zero_at bytes at (omega arith) z

pub number_from :
    (bytes : List ℕ) (at : ℕ) → position begins bytes ≡ Some at → (get_or bytes at 0 ≡ 48 → length bytes ≤ suc at)
    → read_column bytes ≡ Read 0 (take (length bytes - at) (drop at bytes))
number_from bytes at e z =
    let s = position-Some begins bytes at 0 e in
    rw (take_rest bytes at)
    (blanks_skipped bytes at (omega (arith, s.0)) s.2 ∙ number_at bytes at s.0 (no_blank (get_or bytes at 0) s.1) z)
