-- Numbers that rise: none stands twice.
-- Assumes nothing.
use Rattle.std.proofs.Common.{◌≡◌, ℕ, ◌+◌, ◌-◌, ◌<◌, ◌≤◌, Bool, true, false, ◌||◌, List, [], ◌∷◌, length, get_or, drop, sym, refl, ap, ◌∙◌, subst, arith, drop_of_length-le}
use Rattle.register.specs.declared.Holder.{Holder}
use Rattle.register.specs.Holders.{zero_holder, is_of, some, numbered}
use Rattle.register.proofs.Search.{is_of_lem, rest}
use Rattle.register.proofs.Once.{free_on, once_on}

-- no number of an entry with a balance is below this
abbrev AtLeast : ℕ → List Holder → Type 0
AtLeast n [] = Unit {0}
AtLeast n (e ∷ es) = ((e.balance ≡ 0 → ⊥) → n ≤ e.number) × AtLeast n es

none_below : (n k : ℕ) (es : List Holder) → AtLeast n es → k < n → some (is_of k) es ≡ false
unfolding some
none_below n k [] h l = refl
none_below n k (e ∷ es) h l = go (is_of k e) refl (none_below n k es h.1 l)
  where
    go : (b : Bool) → is_of k e ≡ b → some (is_of k) es ≡ false → b || some (is_of k) es ≡ false
    go true g more = let own = is_of_lem k e g in absurd (omega (arith, h.0 own.1, own.0, l))
    go false g more = more

at_least_less : (n m : ℕ) (es : List Holder) → m ≤ n → AtLeast n es → AtLeast m es
at_least_less n m [] l h = tt
at_least_less n m (e ∷ es) l h = ((λ f. omega (arith, l, h.0 f)), at_least_less n m es l h.1)

-- ---- from the last entry back
pub record Rising (es : List Holder) (next i : ℕ) : Type 0 where
  pub inside : i ≤ length es
  pub least : AtLeast next (drop i es)
  -- a number 0 is still to be asked for
  pub numbers : (next ≡ 0 → ⊥) → numbered (drop i es) ≡ true

pub end_rising : (es : List Holder) (next i : ℕ) → i ≡ length es → Rising es next i
unfolding numbered
end_rising es next i e =
    let past : length es ≤ i = omega (arith, e) in
    let none_left : drop i es ≡ [] = drop_of_length-le es past in
    record {
      inside = omega (arith, e);
      least = subst (AtLeast next) (sym none_left) tt;
      numbers = λ f. ap numbered none_left;
    }

module _ (es : List Holder) (next i : ℕ) (h : Rising es next i) where
  module _ (above : 0 < i) (e : Holder) (at : e ≡ get_or es (i - 1) zero_holder) where
    place : i - 1 < length es
    place = omega (arith, h.inside, above)

    on : i - 1 + 1 ≡ i
    on = omega (arith, above)

    back : drop (i - 1) es ≡ e ∷ drop i es
    back = rest es (i - 1) place ∙ rw (at, on)

    pub free_rising : e.balance ≡ 0 → Rising es next (i - 1)
    free_rising f = record {
      inside = omega (arith, h.inside);
      least = subst (AtLeast next) (sym back) ((λ g. absurd (g f)), h.least);
      numbers = λ g. free_on es (i - 1) place (rw at at f) ∙ ap (λ (j : ℕ). numbered (drop j es)) on ∙ h.numbers g;
    }

    pub more_rising : (e.balance ≡ 0 → ⊥) → e.number < next → Rising es e.number (i - 1)
    more_rising f l = record {
      inside = omega (arith, h.inside);
      least = subst (AtLeast e.number) (sym back) ((λ g. omega arith), at_least_less next e.number (drop i es) (omega (arith, l)) h.least);
      numbers = λ g.
          once_on es (i - 1) place (rw at at f) (rw at at g) (rw on (rw at at (none_below next e.number (drop i es) h.least l)))
          ∙ ap (λ (j : ℕ). numbered (drop j es)) on
          ∙ h.numbers (λ z. omega (arith, z, l));
    }
