-- The first entry that passes: what is known of it, a search entry by entry, and a holder's balance at the place of his entry.
-- Assumes nothing.
use Rattle.std.proofs.Common.{◌≡◌, ℕ, zero, suc, ◌+◌, ◌<◌, ◌≤◌, Bool, true, false, cond, not, ◌&&◌, ◌||◌, eqb, ltb, List, [], ◌∷◌, length, get_or, drop, sym, refl, ap, ◌∙◌, add-one, arith, length-drop, drop_of_length-le, get_or-drop, drop-cons, drop-drop, ltb-false, ltb-true, le-ltb, lt-ltb, eq-eqb, ne_eqb, eqb-true}
use mathlib.Core.Bool.{false≢true}
use lib.Dec.{leb-suc-suc}
use borrow.Author.Tests.{eqb-false}
use Rattle.register.specs.declared.Holder.{Holder}
use Rattle.register.specs.Holders.{zero_holder, is_free, is_of, some, first_of, balance_of}

-- ---- an entry's tests, by its two numbers
pub held_of : (e : Holder) (n k : ℕ) → not (is_free e) && eqb n k ≡ true → (n ≡ k) × (e.balance ≡ 0 → ⊥)
held_of e n k h = go (is_free e) refl (eqb n k) refl h
  where
    go : (a : Bool) → is_free e ≡ a → (b : Bool) → eqb n k ≡ b → not a && b ≡ true → (n ≡ k) × (e.balance ≡ 0 → ⊥)
    go true f b g h = absurd (false≢true h)
    go false f true g h = (eqb-true n k g, eqb-false e.balance 0 f)
    go false f false g h = absurd (false≢true h)

pub is_of_lem : (k : ℕ) (e : Holder) → is_of k e ≡ true → (e.number ≡ k) × (e.balance ≡ 0 → ⊥)
is_of_lem k e h = held_of e e.number k h

pub his : (k : ℕ) (e : Holder) → (e.balance ≡ 0 → ⊥) → e.number ≡ k → is_of k e ≡ true
his k e h n = rw (ne_eqb e.balance 0 h, eq-eqb e.number k n)

pub free_not : (k : ℕ) (e : Holder) → e.balance ≡ 0 → is_of k e ≡ false
free_not k e h = rw (eq-eqb e.balance 0 h)

pub other_not : (k : ℕ) (e : Holder) → (e.number ≡ k → ⊥) → is_of k e ≡ false
other_not k e h = go (is_free e)
  where
    go : (a : Bool) → not a && eqb e.number k ≡ false
    go true = refl
    go false = ne_eqb e.number k h

-- ---- the first that passes
pub some_is : (p : Holder → Bool) (es : List Holder) → some p es ≡ ltb (first_of p es) (length es)
unfolding some first_of
some_is p [] = refl
some_is p (e ∷ es) = go (p e) (some_is p es)
  where
    go : (b : Bool) → some p es ≡ ltb (first_of p es) (length es) → b || some p es ≡ ltb (cond b 0 (suc (first_of p es))) (suc (length es))
    go true more = sym (lt-ltb 0 (suc (length es)) (omega arith))
    go false more = more ∙ sym (leb-suc-suc (suc (first_of p es)) (length es))

pub some_in : (p : Holder → Bool) (es : List Holder) → first_of p es < length es → some p es ≡ true
some_in p es h = some_is p es ∙ lt-ltb (first_of p es) (length es) h

pub some_out : (p : Holder → Bool) (es : List Holder) → length es ≤ first_of p es → some p es ≡ false
some_out p es h = some_is p es ∙ le-ltb (first_of p es) (length es) h

pub in_some : (p : Holder → Bool) (es : List Holder) → some p es ≡ true → first_of p es < length es
in_some p es h = ltb-true _ _ (sym (some_is p es) ∙ h)

pub out_some : (p : Holder → Bool) (es : List Holder) → some p es ≡ false → length es ≤ first_of p es
out_some p es h = ltb-false _ _ (sym (some_is p es) ∙ h)

pub first_within : (p : Holder → Bool) (es : List Holder) → first_of p es ≤ length es
unfolding first_of
first_within p [] = omega arith
first_within p (e ∷ es) = go (p e) (first_within p es)
  where
    go : (b : Bool) → first_of p es ≤ length es → cond b 0 (suc (first_of p es)) ≤ suc (length es)
    go true more = omega arith
    go false more = omega (arith, more)

pub found : (p : Holder → Bool) (es : List Holder) → first_of p es < length es → p (get_or es (first_of p es) zero_holder) ≡ true
unfolding first_of
found p [] h = absurd (omega (arith, h))
found p (e ∷ es) h = go (p e) refl h (found p es)
  where
    go :
        (b : Bool) → p e ≡ b → cond b 0 (suc (first_of p es)) < suc (length es)
        → (first_of p es < length es → p (get_or es (first_of p es) zero_holder) ≡ true)
        → p (get_or (e ∷ es) (cond b 0 (suc (first_of p es))) zero_holder) ≡ true
    go true f h more = f
    go false f h more = more (omega (arith, h))

pub before : (p : Holder → Bool) (es : List Holder) (i : ℕ) → i < first_of p es → p (get_or es i zero_holder) ≡ false
unfolding first_of
before p [] i h = absurd (omega (arith, h))
before p (e ∷ es) i h = go (p e) refl i h (before p es)
  where
    go :
        (b : Bool) → p e ≡ b → (i : ℕ) → i < cond b 0 (suc (first_of p es))
        → ((m : ℕ) → m < first_of p es → p (get_or es m zero_holder) ≡ false) → p (get_or (e ∷ es) i zero_holder) ≡ false
    go true f i h more = absurd (omega (arith, h))
    go false f zero h more = f
    go false f (suc i) h more = more i (omega (arith, h))

-- what passes one test passes another: up to the first that passes the other none passes the one
pub passed_over :
    (p q : Holder → Bool) → ((e : Holder) → p e ≡ true → q e ≡ true) → (es : List Holder) → some p es ≡ some p (drop (first_of q es) es)
unfolding some first_of
passed_over p q within [] = refl
passed_over p q within (e ∷ es) = go (q e) refl (p e) refl (passed_over p q within es)
  where
    go :
        (b : Bool) → q e ≡ b → (a : Bool) → p e ≡ a → some p es ≡ some p (drop (first_of q es) es)
        → p e || some p es ≡ some p (drop (cond b 0 (suc (first_of q es))) (e ∷ es))
    go true f a g more = refl
    go false f true g more = absurd (false≢true (sym f ∙ within e g))
    go false f false g more = ap (λ (b : Bool). b || some p es) g ∙ more

-- a holder's balance is that of the entry found, 0 where none is
pub balance_at_lem : (k : ℕ) (es : List Holder) → balance_of k es ≡ (get_or es (first_of (is_of k) es) zero_holder).balance
unfolding balance_of first_of
balance_at_lem k [] = refl
balance_at_lem k (e ∷ es) = go (is_of k e) (balance_at_lem k es)
  where
    go :
        (b : Bool) → balance_of k es ≡ (get_or es (first_of (is_of k) es) zero_holder).balance
        → cond b e.balance (balance_of k es) ≡ (get_or (e ∷ es) (cond b 0 (suc (first_of (is_of k) es))) zero_holder).balance
    go true more = refl
    go false more = more

pub no_balance : (k : ℕ) (es : List Holder) → some (is_of k) es ≡ false → balance_of k es ≡ 0
unfolding some balance_of
no_balance k [] h = refl
no_balance k (e ∷ es) h = go (is_of k e) h (no_balance k es)
  where
    go :
        (b : Bool) → b || some (is_of k) es ≡ false → (some (is_of k) es ≡ false → balance_of k es ≡ 0)
        → cond b e.balance (balance_of k es) ≡ 0
    go true f more = absurd (false≢true (sym f))
    go false f more = more f

-- ---- a search from a place on
module _ (es : List Holder) (i : ℕ) where
  pub rest : i < length es → drop i es ≡ get_or es i zero_holder ∷ drop (i + 1) es
  rest h = drop-cons es i zero_holder h ∙ rw (add-one i)

  module _ (p : Holder → Bool) where
    first_at : i < length es → first_of p (drop i es) ≡ cond (p (get_or es i zero_holder)) 0 (suc (first_of p (drop (i + 1) es)))
    unfolding first_of
    first_at h = rw (rest h)

    pub some_at : i < length es → some p (drop i es) ≡ p (get_or es i zero_holder) || some p (drop (i + 1) es)
    unfolding some
    some_at h = rw (rest h)

    pub none_left : length es ≤ i → some p (drop i es) ≡ false
    unfolding some
    none_left h = rw (drop_of_length-le es h)

    pub hit : i < length es → p (get_or es i zero_holder) ≡ true → i ≡ i + first_of p (drop i es)
    hit h e = rw (first_at h, e) (omega arith)

    pub miss : i < length es → p (get_or es i zero_holder) ≡ false → i + first_of p (drop i es) ≡ (i + 1) + first_of p (drop (i + 1) es)
    miss h e = rw (first_at h, e) (omega arith)

    pub over : length es ≤ i → i ≡ i + first_of p (drop i es)
    unfolding first_of
    over h = rw (drop_of_length-le es h) (omega arith)

    pub within_from : i ≤ length es → i + first_of p (drop i es) ≤ length es
    within_from l = omega (arith, l, first_within p (drop i es), length-drop i es)

    pub found_from : (j : ℕ) → i ≤ length es → j ≡ i + first_of p (drop i es) → j < length es → p (get_or es j zero_holder) ≡ true
    found_from j l e h =
        ap (λ (k : ℕ). p (get_or es k zero_holder)) e
        ∙ ap p (sym (get_or-drop i es (first_of p (drop i es)) zero_holder))
        ∙ found p (drop i es) (rw (length-drop i es) (omega (arith, l, e, h)))

    pub passed_from :
        (q : Holder → Bool) → ((e : Holder) → q e ≡ true → p e ≡ true) → (j : ℕ) → j ≡ i + first_of p (drop i es)
        → some q (drop i es) ≡ some q (drop j es)
    passed_from q within j e =
        passed_over q p within (drop i es) ∙ ap (some q) (drop-drop (first_of p (drop i es)) i es) ∙ ap (λ (k : ℕ). some q (drop k es)) (sym e)
