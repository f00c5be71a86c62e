-- What a credit and a debit do to a list: the sum of the balances, and whose balance changes.
-- Assumes nothing.
use Rattle.std.proofs.Common.{◌≡◌, ℕ, zero, suc, ◌+◌, ◌-◌, ◌<◌, ◌≤◌, Bool, true, false, cond, not, ◌&&◌, List, [], ◌∷◌, length, get_or, set, sym, refl, ap, ◌∙◌, arith, eq-eqb, ne_eqb, eqb-true}
use mathlib.Core.Bool.{false≢true}
use Rattle.register.specs.declared.Holder.{Holder}
use Rattle.register.specs.Holders.{zero_holder, is_of, is_free, some, first_of, balance_of, total}
use Rattle.register.specs.Changes.{is_full, place_of, credited, debited}
use Rattle.register.proofs.Search.{is_of_lem, free_not, other_not, found, before, balance_at_lem, no_balance, in_some, out_some}

-- ---- one entry changed
pub total_set : (es : List Holder) (i : ℕ) (e : Holder) → i < length es → total (set es i e) + (get_or es i zero_holder).balance ≡ total es + e.balance
unfolding total
total_set [] i e h = absurd (omega (arith, h))
total_set (x ∷ es) zero e h = omega arith
total_set (x ∷ es) (suc i) e h = omega (arith, total_set es i e (omega (arith, h)))

-- the balance of one whose entry it neither was nor is
pub others :
    (j : ℕ) (es : List Holder) (i : ℕ) (e : Holder) → is_of j (get_or es i zero_holder) ≡ false → is_of j e ≡ false
    → balance_of j (set es i e) ≡ balance_of j es
unfolding balance_of
others j [] i e h g = refl
others j (x ∷ es) zero e h g = rw (h, g)
others j (x ∷ es) (suc i) e h g = ap (λ (n : ℕ). cond (is_of j x) x.balance n) (others j es i e h g)

-- the balance of one whose first entry it is
own_set :
    (k : ℕ) (es : List Holder) (i : ℕ) (e : Holder) → i < length es → is_of k e ≡ true
    → ((m : ℕ) → m < i → is_of k (get_or es m zero_holder) ≡ false)
    → balance_of k (set es i e) ≡ e.balance
unfolding balance_of
own_set k [] i e h g f = absurd (omega (arith, h))
own_set k (x ∷ es) zero e h g f = rw g
own_set k (x ∷ es) (suc i) e h g f =
    rw (f 0 (omega arith)) (own_set k es i e (omega (arith, h)) g (λ m l. f (suc m) (omega (arith, l))))

-- ---- a credit that finds a place
module _ (k : ℕ) (es : List Holder) (open-list : is_full k es ≡ false) where
  -- what holds of the holder's own entry, and of the first free one where he has none, holds of the entry that changes
  pub by_place :
      (P : ℕ → Type 0) → (some (is_of k) es ≡ true → P (first_of (is_of k) es))
      → (some (is_of k) es ≡ false → some is_free es ≡ true → P (first_of is_free es)) → P (place_of k es)
  unfolding place_of
  by_place P own new = go (some (is_of k) es) refl (some is_free es) refl open-list
    where
      go :
          (a : Bool) → some (is_of k) es ≡ a → (b : Bool) → some is_free es ≡ b → not a && not b ≡ false
          → P (cond a (first_of (is_of k) es) (first_of is_free es))
      go true f b g z = own f
      go false f true g z = new f g
      go false f false g z = absurd (false≢true (sym z))

  pub place_in : place_of k es < length es
  place_in = by_place (λ i. i < length es) (λ h. in_some (is_of k) es h) (λ h g. in_some is_free es g)

  -- the first free entry has no balance, nor has a new holder
  free_balance : some is_free es ≡ true → (get_or es (first_of is_free es) zero_holder).balance ≡ 0
  free_balance g = eqb-true (get_or es (first_of is_free es) zero_holder).balance 0 (found is_free es (in_some is_free es g))

  pub place_balance : (get_or es (place_of k es) zero_holder).balance ≡ balance_of k es
  place_balance =
      by_place (λ i. (get_or es i zero_holder).balance ≡ balance_of k es) (λ h. sym (balance_at_lem k es)) (λ h g. free_balance g ∙ sym (no_balance k es h))

  -- the entry was his or free, so of no other holder
  pub no_others : (j : ℕ) → (k ≡ j → ⊥) → is_of j (get_or es (place_of k es) zero_holder) ≡ false
  no_others j ne =
      by_place (λ i. is_of j (get_or es i zero_holder) ≡ false)
      (λ h. let e = get_or es (first_of (is_of k) es) zero_holder in other_not j e (λ z. ne (sym (is_of_lem k e (found (is_of k) es (in_some (is_of k) es h))).0 ∙ z)))
      (λ h g. free_not j (get_or es (first_of is_free es) zero_holder) (free_balance g))

  -- no entry before it is his
  none_before : (m : ℕ) → m < place_of k es → is_of k (get_or es m zero_holder) ≡ false
  none_before =
      by_place (λ i. (m : ℕ) → m < i → is_of k (get_or es m zero_holder) ≡ false) (λ h m l. before (is_of k) es m l)
      (λ h g m l. before (is_of k) es m (omega (arith, out_some (is_of k) es h, in_some is_free es g, l)))

  module _ (amount : ℕ) where
    abbrev after : Holder
    after = record { number = k; balance = balance_of k es + amount }

    pub credit_total : total (credited k amount es) ≡ total es + amount
    unfolding credited
    credit_total = omega (arith, total_set es (place_of k es) after place_in, place_balance)

    pub credit_only : (j : ℕ) → (k ≡ j → ⊥) → balance_of j (credited k amount es) ≡ balance_of j es
    unfolding credited
    credit_only j ne = others j es (place_of k es) after (no_others j ne) (other_not j after ne)

    pub credit_own : (amount ≡ 0 → ⊥) → balance_of k (credited k amount es) ≡ balance_of k es + amount
    unfolding credited
    credit_own ne =
        own_set k es (place_of k es) after place_in
        (rw (ne_eqb (balance_of k es + amount) 0 (λ z. ne (omega (arith, z))), eq-eqb k k refl)) none_before

-- ---- a debit of some LP, and no more than the balance
module _ (k amount : ℕ) (es : List Holder) (some-lp : amount ≡ 0 → ⊥) (covered : amount ≤ balance_of k es) where
  pub has_entry : some (is_of k) es ≡ true
  has_entry = go (some (is_of k) es) refl
    where
      go : (b : Bool) → some (is_of k) es ≡ b → b ≡ true
      go true e = refl
      go false e = absurd (some-lp (omega (arith, covered, no_balance k es e)))

  pub owner_in : first_of (is_of k) es < length es
  owner_in = in_some (is_of k) es has_entry

  -- so the place of a credit is that of a debit
  pub same_place : place_of k es ≡ first_of (is_of k) es
  unfolding place_of
  same_place = rw has_entry

  pub not_full : is_full k es ≡ false
  not_full = rw has_entry

  abbrev left : Holder
  left = record { number = k; balance = balance_of k es - amount }

  pub debit_total : total (debited k amount es) + amount ≡ total es
  unfolding debited
  debit_total = omega (arith, total_set es (first_of (is_of k) es) left owner_in, balance_at_lem k es, covered)

  pub debit_only : (j : ℕ) → (k ≡ j → ⊥) → balance_of j (debited k amount es) ≡ balance_of j es
  unfolding debited
  debit_only j ne =
      others j es (first_of (is_of k) es) left (rw same_place at (no_others k es not_full j ne)) (other_not j left ne)

  pub debit_rest : (balance_of k es - amount ≡ 0 → ⊥) → balance_of k (debited k amount es) ≡ balance_of k es - amount
  unfolding debited
  debit_rest ne =
      own_set k es (first_of (is_of k) es) left owner_in (rw (ne_eqb (balance_of k es - amount) 0 ne, eq-eqb k k refl)) (λ m l. before (is_of k) es m l)
