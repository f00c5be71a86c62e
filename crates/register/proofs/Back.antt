-- From the last entry back: the entries behind a place are numbered, and linked by their marks.
-- Assumes nothing.
use Rattle.std.proofs.Common.{◌≡◌, ℕ, ◌+◌, ◌-◌, ◌<◌, ◌≤◌, Bool, true, false, not, eqb, List, length, get_or, drop, set, replicate, sym, refl, ap, ◌∙◌, subst, arith, length-set, drop_of_length-le, get_or-set_other, get_or-set_same, eqb-true}
use lib.ListN.{length-replicate, get_or-replicate}
use borrow.Author.Tests.{eqb-false}
use Rattle.register.specs.declared.Holder.{Holder}
use Rattle.register.specs.Holders.{zero_holder, is_of, some, numbered}
use Rattle.register.specs.Marks.{mark_of, has_mark, next_of, LinkedFrom, Linked}
use Rattle.register.proofs.Search.{hit, miss, over}
use Rattle.register.proofs.Once.{not_behind, free_on, zero_stops, twice_stops, once_on}
use Rattle.register.proofs.Walk.{marked, unmarked, free_unmarked}

pub record Behind (salt : ℕ) (es : List Holder) (nearest links : List ℕ) (i : ℕ) : Type 0 where
  pub few : length es ≤ 256
  pub inside : i ≤ length es
  pub numbers : numbered (drop i es) ≡ true
  -- of each mark the nearest entry behind
  pub near : (m : ℕ) → m < 1024 → get_or nearest m 0 ≡ next_of salt m es i
  pub linked : LinkedFrom salt links es i
  pub marks : length nearest ≡ 1024
  pub places : length links ≡ 256

pub end_behind : (salt : ℕ) (es : List Holder) (i : ℕ) → length es ≤ 256 → i ≡ length es → Behind salt es (replicate 1024 i) (replicate 256 i) i
unfolding numbered
end_behind salt es i few e =
    let past : length es ≤ i = omega (arith, e) in
    record {
      few = few;
      inside = omega (arith, e);
      numbers = ap numbered (drop_of_length-le es past);
      near = λ m l. get_or-replicate 1024 m i 0 l ∙ over es i (has_mark salt m) past;
      linked = λ p above below held. absurd (omega (arith, above, below, e));
      marks = length-replicate 1024 i;
      places = length-replicate 256 i;
    }

-- an entry with a balance and the number 0, before numbered ones: the list is not numbered
pub zero_here :
    (es : List Holder) (i : ℕ) → 0 < i → i ≤ length es → ((get_or es (i - 1) zero_holder).balance ≡ 0 → ⊥)
    → (get_or es (i - 1) zero_holder).number ≡ 0 → numbered (drop i es) ≡ true → numbered (drop i es) ≡ not (numbered es)
zero_here es i above inside f z n =
    n ∙ ap not (sym (not_behind es (i - 1) (zero_stops es (i - 1) (omega (arith, inside, above)) f z)))

module _ (salt : ℕ) (es : List Holder) (nearest links : List ℕ) (i : ℕ) (h : Behind salt es nearest links i) where
  module _ (above : 0 < i) (e : Holder) (at : e ≡ get_or es (i - 1) zero_holder) where
    place : i - 1 < length es
    place = omega (arith, h.inside, above)

    next : i - 1 + 1 ≡ i
    next = omega (arith, above)

    pub twice_refused :
        (e.balance ≡ 0 → ⊥) → (e.number ≡ 0 → ⊥) → some (is_of (get_or es (i - 1) zero_holder).number) (drop (i - 1 + 1) es) ≡ true
        → false ≡ numbered es
    twice_refused f z s = sym (not_behind es (i - 1) (twice_stops es (i - 1) place (rw at at f) (rw at at z) s))

    pub zero_refused : (e.balance ≡ 0 → ⊥) → e.number ≡ 0 → false ≡ numbered es
    zero_refused f z = sym (not_behind es (i - 1) (zero_stops es (i - 1) place (rw at at f) (rw at at z)))

    -- a mark that the entry does not have has the same nearest entry
    same_near : (m : ℕ) → has_mark salt m (get_or es (i - 1) zero_holder) ≡ false → next_of salt m es i ≡ next_of salt m es (i - 1)
    same_near m f = sym (miss es (i - 1) (has_mark salt m) place f ∙ ap (next_of salt m es) next)

    other_place : (p : ℕ) → i - 1 ≤ p → (p ≡ i - 1 → ⊥) → i ≤ p
    other_place p from g = omega (arith, from, g)

    pub free_behind : e.balance ≡ 0 → Behind salt es nearest links (i - 1)
    free_behind f = record {
      few = h.few;
      inside = omega (arith, h.inside);
      numbers = free_on es (i - 1) place (rw at at f) ∙ ap (λ (j : ℕ). numbered (drop j es)) next ∙ h.numbers;
      near = λ m l. h.near m l ∙ same_near m (free_unmarked salt m (get_or es (i - 1) zero_holder) (rw at at f));
      linked = λ p from below held. h.linked p (omega (arith, other_place p from (λ g. held (ap (λ (k : ℕ). (get_or es k zero_holder).balance) g ∙ rw at at f)))) below held;
      marks = h.marks;
      places = h.places;
    }

    module _ (f : e.balance ≡ 0 → ⊥) (m : ℕ) (is : m ≡ mark_of salt e.number) (small : m < 1024) where
      own_mark : m ≡ mark_of salt (get_or es (i - 1) zero_holder).number
      own_mark = is ∙ ap (λ (x : Holder). mark_of salt x.number) at

      own_link :
          get_or (set links (i - 1) (get_or nearest m 0)) (i - 1) 0 ≡ next_of salt (mark_of salt (get_or es (i - 1) zero_holder).number) es (i - 1 + 1)
      own_link =
          get_or-set_same links (i - 1) (get_or nearest m 0) 0 (omega (arith, h.places, h.few, place))
          ∙ h.near m small
          ∙ ap (λ (k : ℕ). next_of salt k es i) own_mark
          ∙ ap (next_of salt (mark_of salt (get_or es (i - 1) zero_holder).number) es) (sym next)

      own_near : get_or (set nearest m (i - 1)) m 0 ≡ next_of salt m es (i - 1)
      own_near =
          get_or-set_same nearest m (i - 1) 0 (omega (arith, h.marks, small))
          ∙ hit es (i - 1) (has_mark salt m) place (marked salt m (get_or es (i - 1) zero_holder) (rw at at f) (sym own_mark))

      on : LinkedFrom salt (set links (i - 1) (get_or nearest m 0)) es (i - 1)
      on p from below held = go (eqb p (i - 1)) refl
        where
          go :
              (b : Bool) → eqb p (i - 1) ≡ b
              → get_or (set links (i - 1) (get_or nearest m 0)) p 0 ≡ next_of salt (mark_of salt (get_or es p zero_holder).number) es (p + 1)
          go true g =
              subst
              (λ (q : ℕ). get_or (set links (i - 1) (get_or nearest m 0)) q 0 ≡ next_of salt (mark_of salt (get_or es q zero_holder).number) es (q + 1))
              (sym (eqb-true p (i - 1) g)) own_link
          go false g =
              get_or-set_other links (i - 1) p (get_or nearest m 0) 0 (eqb-false p (i - 1) g)
              ∙ h.linked p (other_place p from (eqb-false p (i - 1) g)) below held

      pub now_linked : Linked (set links (i - 1) (get_or nearest m 0)) es (i - 1)
      now_linked = record { salt = salt; inside = place; few = h.few; held = rw at at f; from = on }

      nearer : (k : ℕ) → k < 1024 → get_or (set nearest m (i - 1)) k 0 ≡ next_of salt k es (i - 1)
      nearer k l = go (eqb k m) refl
        where
          go : (b : Bool) → eqb k m ≡ b → get_or (set nearest m (i - 1)) k 0 ≡ next_of salt k es (i - 1)
          go true g = subst (λ (q : ℕ). get_or (set nearest m (i - 1)) q 0 ≡ next_of salt q es (i - 1)) (sym (eqb-true k m g)) own_near
          go false g =
              get_or-set_other nearest m k (i - 1) 0 (eqb-false k m g)
              ∙ h.near k l
              ∙ same_near k (unmarked salt k (get_or es (i - 1) zero_holder) (λ same. eqb-false k m g (sym (own_mark ∙ same))))

      pub once_behind :
          (e.number ≡ 0 → ⊥) → some (is_of (get_or es (i - 1) zero_holder).number) (drop (i - 1 + 1) es) ≡ false
          → Behind salt es (set nearest m (i - 1)) (set links (i - 1) (get_or nearest m 0)) (i - 1)
      once_behind z s = record {
        few = h.few;
        inside = omega (arith, h.inside);
        numbers = once_on es (i - 1) place (rw at at f) (rw at at z) s ∙ ap (λ (j : ℕ). numbered (drop j es)) next ∙ h.numbers;
        near = nearer;
        linked = on;
        marks = length-set nearest m (i - 1) ∙ h.marks;
        places = length-set links (i - 1) (get_or nearest m 0) ∙ h.places;
      }
