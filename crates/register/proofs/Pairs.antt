-- Plain numbers as entries: how many there are, an entry read and written as its two numbers.
-- Assumes nothing.
use Rattle.std.proofs.Common.{◌≡◌, ℕ, zero, suc, ◌+◌, ◌/◌, ◌%◌, ◌<◌, ◌≤◌, Bool, true, false, cond, eqb, List, [], ◌∷◌, length, get_or, set, replicate, sym, refl, ap, ◌∙◌, arith, eq-eqb, ne_eqb, eqb-true}
use Rattle.std.specs.Simd.{first_chunks}
use Rattle.std.proofs.lemmas.List.{length-map, get_or-map}
use Rattle.register.specs.declared.Holder.{Holder}
use Rattle.register.specs.Holders.{zero_holder}
use Rattle.register.specs.Changes.{with_opener}
use Rattle.register.specs.Numbers.{pairs_of, entries_of, numbers_of, holder_of, holders_of}

low : (m : List ℕ) → length (pairs_of m) + length (pairs_of m) ≤ length m
unfolding pairs_of
low [] = omega arith
low (a ∷ []) = omega arith
low (a ∷ b ∷ m) = omega (arith, low m)

high : (m : List ℕ) → length m < length (pairs_of m) + length (pairs_of m) + 2
unfolding pairs_of
high [] = omega arith
high (a ∷ []) = omega arith
high (a ∷ b ∷ m) = omega (arith, high m)

-- ---- how many
pub odd_none : (m : List ℕ) → (length m % 2 ≡ 0 → ⊥) → entries_of m ≡ []
unfolding entries_of
odd_none m h = rw (ne_eqb (length m % 2) 0 h)

even_pairs : (m : List ℕ) → length m % 2 ≡ 0 → entries_of m ≡ pairs_of m
unfolding entries_of
even_pairs m h = rw (eq-eqb (length m % 2) 0 h)

pub half : (m : List ℕ) → length m % 2 ≡ 0 → length m / 2 ≡ length (entries_of m)
half m h = rw (even_pairs m h) (omega (arith, low m, high m))

-- what holds of the entries of an even count of numbers, and of none, holds of those of any
by_count : (P : List Holder → Type 0) (m : List ℕ) → (length m % 2 ≡ 0 → P (pairs_of m)) → P [] → P (entries_of m)
unfolding entries_of
by_count P m even empty = go (eqb (length m % 2) 0) refl
  where
    go : (b : Bool) → eqb (length m % 2) 0 ≡ b → P (cond b (pairs_of m) [])
    go true e = even (eqb-true _ _ e)
    go false e = empty

pub both_in : (m : List ℕ) → length (entries_of m) + length (entries_of m) ≤ length m
both_in m = by_count (λ es. length es + length es ≤ length m) m (λ h. low m) (omega arith)

-- numbers that are entries at all are twice as many
pub whole : (m : List ℕ) → 0 < length (entries_of m) → length m ≡ length (entries_of m) + length (entries_of m)
whole m =
    by_count (λ es. 0 < length es → length m ≡ length es + length es) m (λ h l. omega (arith, low m, high m))
    (λ l. absurd (omega (arith, l)))

-- ---- the numbers as arrays of two
chunked : (k : ℕ) (m : List ℕ) → length m ≡ k + k → holders_of (first_chunks 2 k m) ≡ pairs_of m
unfolding pairs_of
chunked zero [] h = refl
chunked zero (a ∷ m) h = absurd (omega (arith, h))
chunked (suc k) [] h = absurd (omega (arith, h))
chunked (suc k) (a ∷ []) h = absurd (omega (arith, h))
chunked (suc k) (a ∷ b ∷ m) h = ap (λ (es : List Holder). record { number = a; balance = b } ∷ es) (chunked k m (omega (arith, h)))

pub arrays_even : (m : List ℕ) → length m % 2 ≡ 0 → holders_of (first_chunks 2 (length m / 2) m) ≡ entries_of m
arrays_even m h = chunked (length m / 2) m (omega (arith, h)) ∙ sym (even_pairs m h)

pub holders_length : (ps : List (List ℕ)) → length (holders_of ps) ≡ length ps
holders_length ps = length-map ps holder_of

pub pairs_counted : (ps : List (List ℕ)) (m : List ℕ) → holders_of ps ≡ entries_of m → length ps ≡ length (entries_of m)
pairs_counted ps m e = sym (holders_length ps) ∙ ap length e

pub pairs_within : (ps : List (List ℕ)) (m : List ℕ) → holders_of ps ≡ entries_of m → length ps + length ps ≤ length m
pairs_within ps m e = omega (arith, pairs_counted ps m e, both_in m)

pub holder_at : (ps : List (List ℕ)) (i : ℕ) → i < length ps → holder_of (get_or ps i []) ≡ get_or (holders_of ps) i zero_holder
holder_at ps i h = sym (get_or-map holder_of ps i [] zero_holder h)

-- ---- an entry
twice : (i : ℕ) → suc i + suc i ≡ suc (suc (i + i))
twice i = omega arith

twice_one : (i : ℕ) → suc i + suc i + 1 ≡ suc (suc (i + i + 1))
twice_one i = omega arith

-- ---- written

numbers_pairs : (m : List ℕ) → length m % 2 ≡ 0 → m ≡ numbers_of (pairs_of m)
unfolding pairs_of numbers_of
numbers_pairs [] h = refl
numbers_pairs (a ∷ []) h = absurd (omega (arith, h))
numbers_pairs (a ∷ b ∷ m) h = ap (λ (l : List ℕ). a ∷ b ∷ l) (numbers_pairs m (omega (arith, h)))

pair_set :
    (m : List ℕ) (i : ℕ) (e : Holder) → length m % 2 ≡ 0 → i < length (pairs_of m)
    → set (set m (i + i) e.number) (i + i + 1) e.balance ≡ numbers_of (set (pairs_of m) i e)
unfolding pairs_of numbers_of
pair_set [] i e h l = absurd (omega (arith, l))
pair_set (a ∷ []) i e h l = absurd (omega (arith, l))
pair_set (a ∷ b ∷ m) zero e h l = ap (λ (n : List ℕ). e.number ∷ e.balance ∷ n) (numbers_pairs m (omega (arith, h)))
pair_set (a ∷ b ∷ m) (suc i) e h l =
    (λ t. set (set (a ∷ b ∷ m) (twice i t) e.number) (twice_one i t) e.balance)
    ∙ ap (λ (n : List ℕ). a ∷ b ∷ n) (pair_set m i e (omega (arith, h)) (omega (arith, l)))

pub entry_written :
    (m : List ℕ) (i : ℕ) (e : Holder) → i < length (entries_of m)
    → set (set m (i + i) e.number) (i + i + 1) e.balance ≡ numbers_of (set (entries_of m) i e)
entry_written m i e =
    by_count (λ es. i < length es → set (set m (i + i) e.number) (i + i + 1) e.balance ≡ numbers_of (set es i e)) m
    (λ h l. pair_set m i e h l) (λ l. absurd (omega (arith, l)))

-- ---- entries as numbers are read as these entries
pub numbers_length : (es : List Holder) → length (numbers_of es) ≡ length es + length es
unfolding numbers_of
numbers_length [] = refl
numbers_length (e ∷ es) = omega (arith, numbers_length es)

pairs_back : (es : List Holder) → pairs_of (numbers_of es) ≡ es
unfolding pairs_of numbers_of
pairs_back [] = refl
pairs_back (e ∷ es) = ap (λ (fs : List Holder). e ∷ fs) (pairs_back es)

pub entries_back : (es : List Holder) → entries_of (numbers_of es) ≡ es
entries_back es = even_pairs (numbers_of es) (omega (arith, numbers_length es)) ∙ pairs_back es

-- ---- an opening's list
zeros : (n : ℕ) → numbers_of (replicate n zero_holder) ≡ replicate (n + n) 0
unfolding numbers_of
zeros zero = refl
zeros (suc n) = ap (λ (l : List ℕ). 0 ∷ 0 ∷ l) (zeros n) ∙ rw (twice n)

pub opener_written :
    (m : List ℕ) (e : Holder) → 0 < length (entries_of m)
    → set (set (replicate (length m) 0) 0 e.number) 1 e.balance ≡ numbers_of (with_opener e (entries_of m))
unfolding with_opener numbers_of
opener_written m e h = go (entries_of m) h (whole m h)
  where
    go :
        (es : List Holder) → 0 < length es → length m ≡ length es + length es
        → set (set (replicate (length m) 0) 0 e.number) 1 e.balance ≡ numbers_of (with_opener e es)
    go [] l w = absurd (omega (arith, l))
    go (x ∷ es) l w = rw (w ∙ twice (length es)) (ap (λ (n : List ℕ). e.number ∷ e.balance ∷ n) (sym (zeros (length es))))
