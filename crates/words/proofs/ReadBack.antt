-- What is read back from the numbers is what they were made of.
-- Assumes nothing.
use Prim.Native.Nat.{ℕ, zero, suc, ◌+◌}
use mathlib.Core.Path.{◌≡◌, refl, sym, ap, ◌∙◌}
use mathlib.Core.Bool.{Bool, true, false}
use mathlib.Core.List.{List, [], ◌∷◌}
use native.Mathlib.Omega.{arith}
use borrow.Author.Tests.{eqb-true, eqb-false, ltb-false}
use lib.Dec.{eqb, ltb}
use lib.ListN.{length, drop, drop_of_length-le}
use lib.Seq.{drop-cons}
use Rattle.receipt.specs.declared.Receipt.{Receipt}
use Rattle.pool.specs.declared.state.Pool.{Pool}
use Rattle.words.specs.Words.{pool_length, enabled_at, used_at, word, at, pool_words, pool_of, receipt_words, receipt_of}

flag_read : (flag : Bool) → eqb (word flag) 1 ≡ flag
flag_read true = refl
flag_read false = refl

pub pool_read : (p : Pool) → pool_of (pool_words p) ≡ p
pool_read p = rw (flag_read p.terms.enabled, flag_read p.ring.used)

-- numbers of which each is spelled out from a place on
abbrev spelled : ℕ → ℕ → List ℕ → List ℕ
spelled zero i w = []
spelled (suc n) i w = at w i ∷ spelled n (suc i) w

spelled_whole : (n i : ℕ) (w : List ℕ) → length w ≡ i + n → spelled n i w ≡ drop i w
spelled_whole zero i w long = sym (drop_of_length-le w {i = i} (omega arith))
spelled_whole (suc n) i w long =
    ap (λ (l : List ℕ). at w i ∷ l) (spelled_whole n (suc i) w (omega arith)) ∙ sym (drop-cons w i 0 (omega arith))

flag_word : (n : ℕ) → ltb 1 n ≡ false → word (eqb n 1) ≡ n
flag_word n h = go (eqb n 1) refl
  where
    go : (b : Bool) → eqb n 1 ≡ b → word (eqb n 1) ≡ n
    go true e = rw e (sym (eqb-true n 1 e))
    go false e = rw e (omega (arith, eqb-false n 1 e, ltb-false 1 n h))

-- a record whose flags are flags is that of the pool that it holds
pub words_read : (w : List ℕ) → length w ≡ pool_length → ltb 1 (at w enabled_at) ≡ false → ltb 1 (at w used_at) ≡ false → pool_words (pool_of w) ≡ w
words_read w long enabled used = rw (flag_word (at w enabled_at) enabled, flag_word (at w used_at) used) (spelled_whole pool_length 0 w long)

pub receipt_read : (r : Receipt) → receipt_of (receipt_words r) ≡ r
receipt_read r = refl
