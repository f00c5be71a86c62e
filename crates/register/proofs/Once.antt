-- No number 0 and no number twice: entry by entry, and from the last entry back.
-- Assumes nothing.
use Rattle.std.proofs.Common.{◌≡◌, ℕ, zero, suc, ◌+◌, ◌<◌, Bool, true, false, not, ◌&&◌, ◌||◌, eqb, List, [], ◌∷◌, length, get_or, drop, refl, eq-eqb, ne_eqb}
use Rattle.register.specs.declared.Holder.{Holder}
use Rattle.register.specs.Holders.{zero_holder, is_free, is_of, some, numbered}
use Rattle.register.proofs.Search.{rest}

-- ---- of all entries, so of the last ones
and_right : (a b : Bool) → b ≡ false → a && b ≡ false
and_right true b h = h
and_right false b h = refl

pub not_behind : (es : List Holder) (i : ℕ) → numbered (drop i es) ≡ false → numbered es ≡ false
unfolding numbered
not_behind es zero h = h
not_behind [] (suc i) h = h
not_behind (e ∷ es) (suc i) h =
    and_right (is_free e || (not (eqb e.number 0) && not (some (is_of e.number) es))) (numbered es) (not_behind es i h)

-- ---- one entry more
module _ (es : List Holder) (i : ℕ) (h : i < length es) where
  abbrev e : Holder
  e = get_or es i zero_holder

  numbered_at :
      numbered (drop i es)
      ≡ (is_free e || (not (eqb e.number 0) && not (some (is_of e.number) (drop (i + 1) es)))) && numbered (drop (i + 1) es)
  unfolding numbered
  numbered_at = rw (rest es i h)

  pub free_on : e.balance ≡ 0 → numbered (drop i es) ≡ numbered (drop (i + 1) es)
  free_on f = rw (numbered_at, eq-eqb e.balance 0 f)

  pub zero_stops : (e.balance ≡ 0 → ⊥) → e.number ≡ 0 → numbered (drop i es) ≡ false
  zero_stops f z = rw (numbered_at, ne_eqb e.balance 0 f, eq-eqb e.number 0 z)

  pub twice_stops :
      (e.balance ≡ 0 → ⊥) → (e.number ≡ 0 → ⊥) → some (is_of e.number) (drop (i + 1) es) ≡ true → numbered (drop i es) ≡ false
  twice_stops f z s = rw (numbered_at, ne_eqb e.balance 0 f, ne_eqb e.number 0 z, s)

  pub once_on :
      (e.balance ≡ 0 → ⊥) → (e.number ≡ 0 → ⊥) → some (is_of e.number) (drop (i + 1) es) ≡ false
      → numbered (drop i es) ≡ numbered (drop (i + 1) es)
  once_on f z s = rw (numbered_at, ne_eqb e.balance 0 f, ne_eqb e.number 0 z, s)
