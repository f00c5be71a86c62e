-- Lines of an input: the bytes before a newline, and what is kept of a row.
use Prim.Native.Nat.{ℕ, zero, suc, ◌+◌, ◌-◌, ◌≤◌, ◌<◌}
use mathlib.Core.Path.{◌≡◌, refl, sym, ap, ◌∙◌}
use mathlib.Core.Bool.{Bool, true, false, cond, ◌||◌}
use mathlib.Core.List.{List, [], ◌∷◌, ◌++◌}
use native.Mathlib.Omega.{arith}
use native.Mathlib.Nat.{min-le_left}
use native.Mathlib.Decide.{dec_le}
use borrow.Author.Tests.{eqb-true, ltb-false}
use Rattle.std.specs.Prelude.{position, unwrap_or, Some, None, ◌==◌}
use Rattle.std.specs.List.{list_any, position_or_len}
use Rattle.std.proofs.lemmas.List.Recursion.{is_position_or_len}
use lib.Dec.{eqb, ltb}
use lib.ListN.{length, take, drop, length-take, length-drop}
use lib.Seq.{take_all, length-take-le}
use Rattle.rows.specs.Row.{newline, read_row}
use Rattle.rows.proofs.RowRead.{other_length}
use Rattle.stream.specs.Pieces.{kept}
use Rattle.stream.specs.Stages.{line_length}

-- ---- a line
pub line_within : (bytes : List ℕ) → line_length bytes ≤ length bytes
unfolding line_length
line_within [] = omega arith
line_within (byte ∷ bytes) = go (eqb byte newline) (line_within bytes)
  where
    go : (ends : Bool) → line_length bytes ≤ length bytes → cond ends zero (suc (line_length bytes)) ≤ suc (length bytes)
    go true h = omega arith
    go false h = omega arith

-- where not all bytes stand before it, a newline ends the line
pub line_ends : (bytes : List ℕ) → line_length bytes < length bytes → drop (line_length bytes) bytes ≡ newline ∷ drop (suc (line_length bytes)) bytes
unfolding line_length
line_ends [] h = absurd (omega arith)
line_ends (byte ∷ bytes) h = go (eqb byte newline) refl (line_ends bytes) h
  where
    go : (ends : Bool) → eqb byte newline ≡ ends
        → (line_length bytes < length bytes → drop (line_length bytes) bytes ≡ newline ∷ drop (suc (line_length bytes)) bytes)
        → cond ends zero (suc (line_length bytes)) < suc (length bytes)
        → drop (cond ends zero (suc (line_length bytes))) (byte ∷ bytes) ≡ newline ∷ drop (suc (cond ends zero (suc (line_length bytes)))) (byte ∷ bytes)
    go true e later h = ap (λ (b : ℕ). b ∷ bytes) (eqb-true byte newline e)
    go false e later h = later (omega arith)

-- what the search finds in the bytes from a place on
pub record Line (input : List ℕ) (from n : ℕ) : Type 0 where
  pub rest : take (length input - from) (drop from input) ≡ drop from input
  pub is : n ≡ line_length (drop from input)
  pub within : n ≤ length (drop from input)
  pub long : length (drop from input) ≡ length input - from

pub line_found : (input : List ℕ) (from n : ℕ) → n ≡ line_length (take (length input - from) (drop from input)) → Line input from n
line_found input from n e =
    let long = length-drop from input in
    let rest = take_all (length input - from) (drop from input) (omega arith) in
    let is = e ∙ ap line_length rest in
    record { rest = rest; is = is; within = omega (arith, is, line_within (drop from input)); long = long }

-- ---- many bytes at once
abbrev ends_line : ℕ → Bool
ends_line byte = byte == newline

-- bytes with no newline among them stand before whatever follows
pub none_among : (n : ℕ) (bytes : List ℕ) → n ≤ length bytes → list_any ends_line (take n bytes) ≡ false → line_length bytes ≡ n + line_length (drop n bytes)
unfolding line_length
none_among zero bytes h e = omega arith
none_among (suc n) [] h e = absurd (omega arith)
none_among (suc n) (byte ∷ bytes) h e = go (eqb byte newline) e (λ k. none_among n bytes (omega arith) k)
  where
    go :
        (ends : Bool) → ends || list_any ends_line (take n bytes) ≡ false
        → (list_any ends_line (take n bytes) ≡ false → line_length bytes ≡ n + line_length (drop n bytes))
        → cond ends zero (suc (line_length bytes)) ≡ suc n + line_length (drop n bytes)
    go true e later = cc
    go false e later = let k = later e in omega arith

-- the place of the first newline, or the end
line_is : (bytes : List ℕ) → line_length bytes ≡ position_or_len ends_line bytes
unfolding line_length
line_is = is_position_or_len line_length ends_line refl (λ byte bytes. ap (cond (eqb byte newline) zero) (omega arith))

pub at_position : (bytes : List ℕ) → unwrap_or (position ends_line bytes) (length bytes) ≡ line_length bytes
at_position bytes = go (ltb (position_or_len ends_line bytes) (length bytes)) refl
  where
    go : (b : Bool) → ltb (position_or_len ends_line bytes) (length bytes) ≡ b → unwrap_or (cond b (Some (position_or_len ends_line bytes)) None) (length bytes) ≡ line_length bytes
    go true e = sym (line_is bytes)
    go false e = omega (arith, ltb-false _ _ e, line_within bytes, line_is bytes)

-- ---- what is kept of a row
pub kept_whole : (bytes : List ℕ) → length bytes ≤ 103 → kept bytes ≡ bytes
kept_whole bytes h = take_all 103 bytes h

pub kept_short : (bytes : List ℕ) → length (kept bytes) ≤ 103
kept_short bytes = rw (length-take 103 bytes) (min-le_left 103 (length bytes))

take_again : (n : ℕ) (a b : List ℕ) → take n (take n a ++ b) ≡ take n (a ++ b)
take_again zero a b = refl
take_again (suc n) [] b = refl
take_again (suc n) (x ∷ a) b = ap (λ (l : List ℕ). x ∷ l) (take_again n a b)

pub kept_again : (a b : List ℕ) → kept (kept a ++ b) ≡ kept (a ++ b)
kept_again a b = take_again 103 a b

-- 103 bytes make a row unreadable, and so do more
pub read_kept : (row : List ℕ) → read_row (kept row) ≡ read_row row
read_kept row = go (dec_le (length row) 103)
  where
    go : Dec (length row ≤ 103) → read_row (kept row) ≡ read_row row
    go (yes h) = ap read_row (kept_whole row h)
    go (no h) =
        let k = length-take-le 103 row (omega arith) in
        other_length (kept row) (λ e. omega arith) ∙ sym (other_length row (λ e. omega arith))
