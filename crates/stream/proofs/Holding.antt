-- A row that is begun, in the bytes that hold it.
use Prim.Native.Nat.{ℕ, ◌+◌, ◌-◌, ◌≤◌, ◌<◌, min}
use mathlib.Core.Path.{◌≡◌, sym, ap, ◌∙◌}
use mathlib.Core.List.{List, ◌++◌, append_assoc, append-nil}
use native.Mathlib.Nat.{add-zero, add-suc}
use native.Mathlib.Numerals.{add-one}
use native.Mathlib.Decide.{dec_le}
use native.Mathlib.Omega.{arith}
use lib.ListN.{length, get_or, set, take, drop, replicate, length-append, length-take, length-drop, drop_of_length-le}
use lib.Seq.{take-suc, take-suc-set, take_all, take-append-add, take-append_seam, length-take-le}
use Rattle.stream.specs.Pieces.{kept, holding}

-- ---- bytes after those that are begun, one by one
pub none_appended : (begun : ℕ) (held part : List ℕ) → take (begun + 0) held ≡ take begun held ++ take 0 part
none_appended begun held part = rw (add-zero begun, append-nil)

pub one_appended :
    (held₀ held part : List ℕ) (begun i : ℕ) → begun + i < length held → i < length part → take (begun + i) held ≡ take begun held₀ ++ take i part
    → take (begun + (i + 1)) (set held (begun + i) (get_or part i 0)) ≡ take begun held₀ ++ take (i + 1) part
one_appended held₀ held part begun i h k e =
    rw (add-one i, add-suc begun i, take-suc-set held (begun + i) (get_or part i 0) h, e, take-suc part i 0 k, append_assoc)

-- no more than 103 are kept
kept_part : (held part : List ℕ) (begun : ℕ) → length held ≡ 103 → begun ≤ 103 → kept (take begun held ++ part) ≡ take begun held ++ take (103 - begun) part
kept_part held part begun h k =
    let l = length-take-le begun held (omega arith) in
    let e : length (take begun held) + (103 - begun) ≡ 103 = omega arith in
    ap (λ (n : ℕ). take n (take begun held ++ part)) (sym e) ∙ take-append-add (take begun held) part (103 - begun)

take_least : (a : ℕ) (l : List ℕ) → take (min (length l) a) l ≡ take a l
take_least a l = go (dec_le (length l) a)
  where
    go : Dec (length l ≤ a) → take (min (length l) a) l ≡ take a l
    go (yes h) = let e : min (length l) a ≡ length l = omega arith in rw e (take_all (length l) l (omega arith) ∙ sym (take_all a l h))
    go (no h) = let e : min (length l) a ≡ a = omega arith in rw e

pub all_appended :
    (held₀ held part : List ℕ) (begun n i : ℕ) → length held₀ ≡ 103 → begun ≤ 103 → n ≡ min (length part) (103 - begun) → i ≡ n
    → take (begun + i) held ≡ take begun held₀ ++ take i part
    → (begun + n ≡ length (kept (take begun held₀ ++ part))) × (take (begun + n) held ≡ kept (take begun held₀ ++ part))
all_appended held₀ held part begun n i h k e f g =
    let same : kept (take begun held₀ ++ part) ≡ take begun held₀ ++ take n part =
    rw (e, take_least (103 - begun) part) (kept_part held₀ part begun h k) in
    let long : length (take begun held₀ ++ take n part) ≡ begun + n = simp (length-append, length-take) (omega arith) in
    (sym (ap length same ∙ long), (rw f at g) ∙ sym same)

-- ---- all 103 bytes
pub least_begun : (begun : ℕ) (held : List ℕ) → length held ≡ 103 → take (min begun 103) held ≡ take begun held
least_begun begun held h = go (dec_le begun 103)
  where
    go : Dec (begun ≤ 103) → take (min begun 103) held ≡ take begun held
    go (yes k) = let e : min begun 103 ≡ begun = omega arith in rw e
    go (no k) = let e : min begun 103 ≡ 103 = omega arith in rw e (take_all 103 held (omega arith) ∙ sym (take_all begun held (omega arith)))

pub begun_short : (begun : ℕ) (held : List ℕ) → length held ≡ 103 → length (take begun held) ≤ 103
begun_short begun held h = rw (length-take begun held) (omega arith)

pub then_zeros :
    (held row zeros : List ℕ) (n : ℕ) → length held ≡ 103 → n ≤ 103 → n ≡ length row → take n held ≡ row
    → zeros ≡ replicate (length (take (length held - n) (drop n held))) 0
    → take n held ++ (zeros ++ drop (length held - n) (drop n held)) ≡ holding row
unfolding holding
then_zeros held row zeros n h k e f g =
    let long = length-drop n held in
    rw (g, take_all (length held - n) (drop n held) (omega arith), drop_of_length-le (drop n held) {i = length held - n} (omega arith), append-nil, long, h, f, e)

-- the row is in front
pub row_held : (row : List ℕ) (n : ℕ) → n ≡ length row → take n (holding row) ≡ row
unfolding holding
row_held row n e = rw e (take-append_seam row (replicate (103 - length row) 0))
