-- A number that is written in a column is read back from it; what is read is a u64.
-- Assumes nothing.
use Prim.Native.Nat.{ℕ, zero, suc, ◌+◌, ◌-◌, ◌*◌, ◌/◌, ◌%◌, ◌^◌, ◌≤◌, ◌<◌}
use mathlib.Core.Path.{◌≡◌, refl, ap, ◌∙◌}
use mathlib.Core.Bool.{Bool, true, false, cond, ◌&&◌}
use mathlib.Core.List.{List, [], ◌∷◌, ◌++◌, append_assoc}
use native.Mathlib.Omega.{arith}
use borrow.Author.Tests.{eqb-true, eqb-false, ltb-false, leb-true}
use lib.Dec.{eqb, leb}
use lib.ListN.{length, replicate}
use Rattle.refusal.specs.Tests.{u64_max, past}
use Rattle.std.specs.Prelude.{Option, Some, None}
use Rattle.columns.specs.Column.{blank, digit_byte, read_digits, in_range, read_column, blanks_before, column}
use Rattle.columns.proofs.ColumnRead.{blank_first, number_at, one_digit_more, all_read}

-- ---- written, and read back
-- digits that begin a number, and what follows them
abbrev Read : ℕ → List ℕ → Option ℕ
Read n bytes = in_range (read_digits n bytes)

-- what is read after the digits of n, or after blanks alone
reading : ℕ → List ℕ → Option ℕ
reading n bytes = cond (eqb n 0) (read_column bytes) (Read n bytes)

blanks_read : (k : ℕ) (bytes : List ℕ) → read_column (replicate k blank ++ bytes) ≡ read_column bytes
blanks_read zero bytes = refl
blanks_read (suc k) bytes = blank_first (replicate k blank ++ bytes) ∙ blanks_read k bytes

-- the last digit of a number that is not 0, or that nothing follows
digit_read : (n : ℕ) (bytes : List ℕ) → (n ≡ 0 → length bytes ≡ 0) → reading (n / 10) (digit_byte (n % 10) ∷ bytes) ≡ Read n bytes
unfolding reading
digit_read n bytes z = go (eqb (n / 10) 0) refl
  where
    d : ℕ
    d = digit_byte (n % 10)

    more : (k : ℕ) → k * 10 + n % 10 ≡ n → Read k (digit_byte (n % 10) ∷ bytes) ≡ Read n bytes
    more k e = one_digit_more (digit_byte (n % 10) ∷ bytes) 0 k (omega arith) (omega arith) (omega arith) ∙ ap (λ (m : ℕ). Read m bytes) (omega arith)

    go : (b : Bool) → eqb (n / 10) 0 ≡ b → cond b (read_column (digit_byte (n % 10) ∷ bytes)) (Read (n / 10) (digit_byte (n % 10) ∷ bytes)) ≡ Read n bytes
    go true e =
        let q : n / 10 ≡ 0 = eqb-true (n / 10) 0 e in
        number_at (digit_byte (n % 10) ∷ bytes) 0 (omega arith) (λ f. omega arith) (λ f. let g = z (omega arith) in omega arith) ∙ more 0 (omega arith)
    go false e = more (n / 10) (omega arith)

front_read : (width n : ℕ) (bytes : List ℕ) → n < 10 ^ width → read_column (blanks_before width n ++ bytes) ≡ reading n bytes
unfolding blanks_before reading
front_read zero n bytes h = let e : n ≡ 0 = omega arith in rw e
front_read (suc width) n bytes h = go (eqb n 0) refl (front_read width (n / 10) (digit_byte (n % 10) ∷ bytes) (omega arith))
  where
    go :
        (b : Bool) → eqb n 0 ≡ b → read_column (blanks_before width (n / 10) ++ (digit_byte (n % 10) ∷ bytes)) ≡ reading (n / 10) (digit_byte (n % 10) ∷ bytes)
        → read_column (cond b (replicate (suc width) blank) (blanks_before width (n / 10) ++ (digit_byte (n % 10) ∷ [])) ++ bytes) ≡ cond b (read_column bytes) (Read n bytes)
    go true e rest = blanks_read (suc width) bytes
    go false e rest =
        ap read_column (append_assoc (blanks_before width (n / 10)) (digit_byte (n % 10) ∷ []) bytes)
        ∙ rest
        ∙ digit_read n bytes (λ z. absurd (eqb-false n 0 e z))

pub column_back : (width n : ℕ) → n < 10 ^ suc width → n ≤ u64_max → read_column (column (suc width) n) ≡ Some n
unfolding column
column_back width n h fits =
    front_read width (n / 10) (digit_byte (n % 10) ∷ []) (omega arith)
    ∙ digit_read n [] (λ z. refl)
    ∙ all_read [] 0 n (omega arith) fits

-- ---- what is read
abbrev pub ReadFits : Option ℕ → Type 0
ReadFits None = Unit {0}
ReadFits (Some n) = n ≤ u64_max

range_fits : (r : Option ℕ) → ReadFits (in_range r)
unfolding in_range
range_fits None = tt
range_fits (Some n) = go (past n) refl
  where
    go : (b : Bool) → past n ≡ b → ReadFits (cond b None (Some n))
    go true e = tt
    go false e = ltb-false u64_max n e

pub column_fits : (bytes : List ℕ) → ReadFits (read_column bytes)
unfolding read_column
column_fits [] = tt
column_fits (byte ∷ []) = go (leb 48 byte) (leb byte 57) refl
  where
    go : (low high : Bool) → leb byte 57 ≡ high → ReadFits (cond (low && high) (Some (byte - 48)) None)
    go true true e = let h = leb-true byte 57 e in omega arith
    go true false e = tt
    go false high e = tt
column_fits (byte ∷ next ∷ bytes) = go (eqb byte blank) (eqb byte (digit_byte 0)) _ _ (column_fits (next ∷ bytes)) (range_fits (read_digits 0 (byte ∷ next ∷ bytes)))
  where
    go :
        (b z : Bool) (r q : Option ℕ) → ReadFits r → ReadFits q → ReadFits (cond b r (cond z None q))
    go true z r q h k = h
    go false true r q h k = tt
    go false false r q h k = k
