-- That a row begins with some numbers, as std's `starts_with` says it; behind the row only nothing stands.
-- Assumes nothing.
use Rattle.std.proofs.Common.{◌≡◌, refl, ℕ, ◌<◌, Bool, true, false, cond, ◌&&◌, eqb, List, [], ◌∷◌, length, drop, take, nat_eq}
use native.Mathlib.Omega.{arith}
use borrow.Author.Tests.{ne_eqb}
use Rattle.std.proofs.lemmas.List.{drop_all}
use Rattle.std.specs.Cmp.Lexicographic.{pointwise}
use Rattle.std.specs.Bool.{◌==◌}
use Rattle.words.specs.Words.{begins_with}

pub begins_is : (row found : List ℕ) → pointwise nat_eq found (take (length found) row) ≡ begins_with row found
unfolding begins_with
begins_is [] [] = refl
begins_is (y ∷ ys) [] = refl
begins_is [] (x ∷ xs) = refl
begins_is (y ∷ ys) (x ∷ xs) = rw (begins_is ys xs) (both (eqb x y))
  where
    both : (b : Bool) → (b && begins_with ys xs) ≡ cond b (begins_with ys xs) false
    both true = refl
    both false = refl

pub past_row : (row found : List ℕ) (at : ℕ) → length row < at → (length found == 0) ≡ begins_with (drop at row) found
unfolding begins_with
past_row row found at h = rw (drop_all at row (omega arith)) (empty found)
  where
    empty : (found : List ℕ) → (length found == 0) ≡ begins_with [] found
    empty [] = refl
    empty (x ∷ xs) = ne_eqb _ _ (omega arith)
