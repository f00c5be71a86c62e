-- A credit and a debit keep a register one: no number 0 and no number twice among its entries with a balance. An opening makes one.
-- Assumes nothing.
use Rattle.std.proofs.Common.{◌≡◌, ℕ, zero, suc, ◌+◌, ◌-◌, ◌≤◌, Bool, true, false, cond, not, ◌&&◌, ◌||◌, eqb, List, [], ◌∷◌, length, set, replicate, sym, refl, ap, ◌∙◌, arith, ne_eqb, eqb-true}
use mathlib.Core.Bool.{false≢true}
use lib.ListN.{length-replicate}
use borrow.Author.Tests.{eqb-false}
use Rattle.refusal.proofs.Stops.{neither}
use Rattle.register.specs.declared.Holder.{Holder}
use Rattle.register.specs.Holders.{zero_holder, is_of, is_free, some, first_of, numbered, balance_of, total}
use Rattle.register.specs.Changes.{is_full, place_of, with_opener, credited, debited}
use Rattle.register.proofs.Search.{is_of_lem, his, free_not, other_not, no_balance}
use Rattle.register.proofs.Laws.{by_place, debit_rest}

-- no entry passes, nor does the one that is put there
none_set : (p : Holder → Bool) (es : List Holder) (i : ℕ) (e : Holder) → some p es ≡ false → p e ≡ false → some p (set es i e) ≡ false
unfolding some
none_set p [] i e h g = refl
none_set p (x ∷ es) zero e h g = rw (g, (neither (p x) (some p es) h).1)
none_set p (x ∷ es) (suc i) e h g =
    let both = neither (p x) (some p es) h in
    rw (both.0, none_set p es i e both.1 g)

-- ---- the numbers, entry by entry
abbrev Good : Holder → List Holder → Type 0
Good x es = (x.balance ≡ 0 → ⊥) → (x.number ≡ 0 → ⊥) × (some (is_of x.number) es ≡ false)

numbered_in : (x : Holder) (es : List Holder) → Good x es → numbered es ≡ true → numbered (x ∷ es) ≡ true
unfolding numbered
numbered_in x es h g = go (is_free x) refl
  where
    go : (b : Bool) → is_free x ≡ b → (b || (not (eqb x.number 0) && not (some (is_of x.number) es))) && numbered es ≡ true
    go true e = g
    go false e =
        let f = h (eqb-false x.balance 0 e) in
        rw (ne_eqb x.number 0 f.0, f.1) g

numbered_out : (x : Holder) (es : List Holder) → numbered (x ∷ es) ≡ true → Good x es × (numbered es ≡ true)
unfolding numbered
numbered_out x es h = go (is_free x) refl (eqb x.number 0) refl (some (is_of x.number) es) refl (numbered es) refl h
  where
    go :
        (a : Bool) → is_free x ≡ a → (b : Bool) → eqb x.number 0 ≡ b → (d : Bool) → some (is_of x.number) es ≡ d → (m : Bool) → numbered es ≡ m
        → (a || (not b && not d)) && m ≡ true → Good x es × (numbered es ≡ true)
    go true e b f d g true i z = ((λ n. absurd (n (eqb-true x.balance 0 e))), i)
    go true e b f d g false i z = absurd (false≢true z)
    go false e false f false g true i z = ((λ n. (eqb-false x.number 0 f, g)), i)
    go false e false f false g false i z = absurd (false≢true z)
    go false e false f true g m i z = absurd (false≢true z)
    go false e true f d g m i z = absurd (false≢true z)

-- an entry of number k, from 1, put where no other entry is holder k's
numbered_set :
    (k : ℕ) (es : List Holder) (i : ℕ) (e : Holder) → (k ≡ 0 → ⊥) → e.number ≡ k → some (is_of k) (set es i zero_holder) ≡ false
    → numbered es ≡ true → numbered (set es i e) ≡ true
unfolding some
numbered_set k [] i e z n a h = h
numbered_set k (x ∷ es) zero e z n a h =
    numbered_in e es (λ b. ((λ w. z (sym n ∙ w)), ap (λ (j : ℕ). some (is_of j) es) n ∙ a)) (numbered_out x es h).1
numbered_set k (x ∷ es) (suc i) e z n a h =
    let both = neither (is_of k x) (some (is_of k) (set es i zero_holder)) a in
    let good = numbered_out x es h in
    numbered_in x (set es i e)
    (λ b. (
      (good.0 b).0,
      none_set (is_of x.number) es i e (good.0 b).1
          (other_not x.number e (λ w. false≢true (sym both.0 ∙ his k x b (sym w ∙ n)))),
    ))
    (numbered_set k es i e z n both.1 good.1)

-- no other entry is the holder's
alone : (k : ℕ) (es : List Holder) → numbered es ≡ true → some (is_of k) (set es (first_of (is_of k) es) zero_holder) ≡ false
unfolding some first_of
alone k [] h = refl
alone k (x ∷ es) h = go (is_of k x) refl (numbered_out x es h).0 (alone k es (numbered_out x es h).1)
  where
    go :
        (b : Bool) → is_of k x ≡ b → Good x es → some (is_of k) (set es (first_of (is_of k) es) zero_holder) ≡ false
        → some (is_of k) (set (x ∷ es) (cond b 0 (suc (first_of (is_of k) es))) zero_holder) ≡ false
    go true e g more = let own = is_of_lem k x e in ap (λ (j : ℕ). some (is_of j) es) (sym own.0) ∙ (g own.1).1
    go false e g more = rw (e, more)

-- nor is it one, if what is put there is not
freed : (p : Holder → Bool) (es : List Holder) (i : ℕ) (e : Holder) → some p (set es i zero_holder) ≡ false → p e ≡ false → some p (set es i e) ≡ false
unfolding some
freed p [] i e a g = refl
freed p (x ∷ es) zero e a g = rw (g, (neither (p zero_holder) (some p es) a).1)
freed p (x ∷ es) (suc i) e a g =
    let both = neither (p x) (some p (set es i zero_holder)) a in
    rw (both.0, freed p es i e both.1 g)

module _ (k amount : ℕ) (es : List Holder) (h : numbered es ≡ true) where
  pub credit_numbered : (k ≡ 0 → ⊥) → is_full k es ≡ false → numbered (credited k amount es) ≡ true
  unfolding credited
  credit_numbered z e =
      numbered_set k es (place_of k es) (record { number = k; balance = balance_of k es + amount }) z refl
      (by_place k es e (λ i. some (is_of k) (set es i zero_holder) ≡ false) (λ f. alone k es h)
      (λ f g. none_set (is_of k) es (first_of is_free es) zero_holder f (free_not k zero_holder refl))) h

  pub debit_numbered : (k ≡ 0 → ⊥) → numbered (debited k amount es) ≡ true
  unfolding debited
  debit_numbered z =
      numbered_set k es (first_of (is_of k) es) (record { number = k; balance = balance_of k es - amount }) z refl (alone k es h) h

  -- a debit's holder has the amount less
  pub debit_own : (amount ≡ 0 → ⊥) → amount ≤ balance_of k es → balance_of k (debited k amount es) + amount ≡ balance_of k es
  unfolding debited
  debit_own ne l = go (eqb (balance_of k es - amount) 0) refl
    where
      e : Holder
      e = record { number = k; balance = balance_of k es - amount }

      go :
          (b : Bool) → eqb (balance_of k es - amount) 0 ≡ b
          → balance_of k (set es (first_of (is_of k) es) e) + amount ≡ balance_of k es
      go true f =
          let z : balance_of k es - amount ≡ 0 = eqb-true _ 0 f in
          let gone : balance_of k (set es (first_of (is_of k) es) e) ≡ 0 = no_balance k (set es (first_of (is_of k) es) e) (freed (is_of k) es (first_of (is_of k) es) e (alone k es h) (free_not k e z)) in
          omega (arith, gone, z, l)
      go false f = omega (arith, debit_rest k amount es ne l (eqb-false _ 0 f), l)

-- ---- an opening's list: as long as it was, numbered, and its sum is the opener's balance
zeros_numbered : (n : ℕ) → numbered (replicate n zero_holder) ≡ true
unfolding numbered
zeros_numbered zero = refl
zeros_numbered (suc n) = zeros_numbered n

zeros_total : (n : ℕ) → total (replicate n zero_holder) ≡ 0
unfolding total
zeros_total zero = refl
zeros_total (suc n) = omega (arith, zeros_total n)

zeros_none : (k n : ℕ) → some (is_of k) (replicate n zero_holder) ≡ false
unfolding some
zeros_none k zero = refl
zeros_none k (suc n) = zeros_none k n

pub opened_numbered : (e : Holder) (es : List Holder) → (e.number ≡ 0 → ⊥) → numbered (with_opener e es) ≡ true
unfolding with_opener numbered
opened_numbered e [] z = refl
opened_numbered e (x ∷ es) z =
    numbered_in e (replicate (length es) zero_holder) (λ b. (z, zeros_none e.number (length es))) (zeros_numbered (length es))

pub opened_length : (e : Holder) (es : List Holder) → length (with_opener e es) ≡ length es
unfolding with_opener
opened_length e [] = refl
opened_length e (x ∷ es) = ap suc (length-replicate (length es) zero_holder)

pub opened_total : (e : Holder) (es : List Holder) → (length es ≡ 0 → ⊥) → total (with_opener e es) ≡ e.balance
unfolding with_opener total
opened_total e [] z = absurd (z refl)
opened_total e (x ∷ es) z = omega (arith, zeros_total (length es))
