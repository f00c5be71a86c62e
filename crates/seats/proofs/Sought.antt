-- One step of the search for a holder's entry, from the first on.
-- Assumes nothing.
use Rattle.std.proofs.Common.{◌≡◌, ℕ, ◌+◌, ◌<◌, ◌≤◌, List, length, get_or, drop, arith}
use Rattle.register.specs.declared.Holder.{Holder}
use Rattle.register.specs.Holders.{zero_holder, is_of, first_of}
use Rattle.register.proofs.Search.{hit, miss, over, his, free_not, other_not}

module _ (k i : ℕ) (es : List Holder) where
  -- an entry with a balance of that number is the first from itself on
  pub own_here :
      i < length es → ((get_or es i zero_holder).balance ≡ 0 → ⊥) → (get_or es i zero_holder).number ≡ k
      → first_of (is_of k) (drop i es) ≡ 0
  own_here l b n = omega (arith, hit es i (is_of k) l (his k (get_or es i zero_holder) b n))

  -- a free entry is not, nor is one of another number
  pub free_here :
      i < length es → (get_or es i zero_holder).balance ≡ 0 → first_of (is_of k) (drop i es) ≡ 1 + first_of (is_of k) (drop (i + 1) es)
  free_here l b = omega (arith, miss es i (is_of k) l (free_not k (get_or es i zero_holder) b))

  pub other_here :
      i < length es → ((get_or es i zero_holder).number ≡ k → ⊥)
      → first_of (is_of k) (drop i es) ≡ 1 + first_of (is_of k) (drop (i + 1) es)
  other_here l n = omega (arith, miss es i (is_of k) l (other_not k (get_or es i zero_holder) n))

  -- behind the last entry is none
  pub none_here : length es ≤ i → first_of (is_of k) (drop i es) ≡ 0
  none_here l = omega (arith, over es i (is_of k) l)

pub ruleset own_search = (own_here, free_here, other_here, none_here)
