-- A walk along the links from an entry: what it has passed over does not have the entry's number.
-- Assumes nothing.
use Rattle.std.proofs.Common.{◌≡◌, ℕ, ◌+◌, ◌<◌, ◌≤◌, Bool, true, false, not, ◌&&◌, ◌||◌, eqb, List, length, get_or, drop, sym, refl, ap, ◌∙◌, arith, eq-eqb, ne_eqb}
use Rattle.register.specs.declared.Holder.{Holder}
use Rattle.register.specs.Holders.{zero_holder, is_free, is_of, some}
use Rattle.register.specs.Marks.{mark_of, has_mark, next_of, Linked}
use Rattle.register.proofs.Search.{held_of, is_of_lem, other_not, his, some_at, none_left, within_from, found_from, passed_from}

-- an entry with a balance has the mark of its number, and so have all of its number
pub marked : (salt m : ℕ) (e : Holder) → (e.balance ≡ 0 → ⊥) → mark_of salt e.number ≡ m → has_mark salt m e ≡ true
marked salt m e h n = rw (ne_eqb e.balance 0 h, eq-eqb (mark_of salt e.number) m n)

pub unmarked : (salt m : ℕ) (e : Holder) → (mark_of salt e.number ≡ m → ⊥) → has_mark salt m e ≡ false
unmarked salt m e h = go (is_free e)
  where
    go : (a : Bool) → not a && eqb (mark_of salt e.number) m ≡ false
    go true = refl
    go false = ne_eqb (mark_of salt e.number) m h

pub free_unmarked : (salt m : ℕ) (e : Holder) → e.balance ≡ 0 → has_mark salt m e ≡ false
free_unmarked salt m e h = rw (eq-eqb e.balance 0 h)

of_mark : (salt k : ℕ) (e : Holder) → is_of k e ≡ true → has_mark salt (mark_of salt k) e ≡ true
of_mark salt k e h = let own = is_of_lem k e h in marked salt (mark_of salt k) e own.1 (ap (mark_of salt) own.0)

-- ---- the walk
abbrev number_at : List Holder → ℕ → ℕ
number_at es at = (get_or es at zero_holder).number

pub record Walked (links : List ℕ) (es : List Holder) (at i : ℕ) : Type 0 where
  pub linked : Linked links es at
  pub behind : at < i
  pub within : i ≤ length es
  pub mark : i < length es → has_mark linked.salt (mark_of linked.salt (number_at es at)) (get_or es i zero_holder) ≡ true
  pub left : some (is_of (number_at es at)) (drop (at + 1) es) ≡ some (is_of (number_at es at)) (drop i es)

module _ (links : List ℕ) (es : List Holder) (at : ℕ) where
  abbrev own : ℕ
  own = number_at es at

  pub walk_start : Linked links es at → Walked links es at (get_or links at 0)
  walk_start h =
      let next = h.from at (omega arith) h.inside h.held in
      record {
        linked = h;
        behind = omega (arith, next);
        within = omega (arith, next, within_from es (at + 1) (has_mark h.salt (mark_of h.salt own)) (omega (arith, h.inside)));
        mark = λ l. found_from es (at + 1) (has_mark h.salt (mark_of h.salt own)) (get_or links at 0) (omega (arith, h.inside)) next l;
        left = passed_from es (at + 1) (has_mark h.salt (mark_of h.salt own)) (is_of own) (of_mark h.salt own) (get_or links at 0) next;
      }

  module _ (i : ℕ) (w : Walked links es at i) where
    abbrev s : ℕ
    s = w.linked.salt

    -- the link of an entry on the way leads to the next of its mark, which is that of the number sought
    link_on : i < length es → get_or links i 0 ≡ next_of s (mark_of s own) es (i + 1)
    link_on l =
        let m = held_of (get_or es i zero_holder) (mark_of s (number_at es i)) (mark_of s own) (w.mark l) in
        w.linked.from i (omega (arith, w.behind)) l m.1 ∙ ap (λ (k : ℕ). next_of s k es (i + 1)) m.0

    module _ (e a : Holder) (here : e ≡ get_or es i zero_holder) (there : a ≡ get_or es at zero_holder) where
      pub walk_on : i < length es → (e.number ≡ a.number → ⊥) → Walked links es at (get_or links i 0)
      walk_on l other = record {
        linked = w.linked;
        behind = omega (arith, link_on l, w.behind);
        within = omega (arith, link_on l, within_from es (i + 1) (has_mark s (mark_of s own)) (omega (arith, l)));
        mark = λ l'. found_from es (i + 1) (has_mark s (mark_of s own)) (get_or links i 0) (omega (arith, l)) (link_on l) l';
        left =
            w.left
            ∙ some_at es i (is_of own) l
            ∙ ap (λ (b : Bool). b || some (is_of own) (drop (i + 1) es)) (other_not own (get_or es i zero_holder) (λ f. other (rw (here, there) f)))
            ∙ passed_from es (i + 1) (has_mark s (mark_of s own)) (is_of own) (of_mark s own) (get_or links i 0) (link_on l);
      }

      pub walk_found : i < length es → e.number ≡ a.number → true ≡ some (is_of own) (drop (at + 1) es)
      walk_found l same =
          let m = held_of (get_or es i zero_holder) (mark_of s (number_at es i)) (mark_of s own) (w.mark l) in
          sym
          (w.left
          ∙ some_at es i (is_of own) l
          ∙ ap (λ (b : Bool). b || some (is_of own) (drop (i + 1) es)) (his own (get_or es i zero_holder) m.1 (ap (λ (x : Holder). x.number) (sym here) ∙ same ∙ ap (λ (x : Holder). x.number) there)))

    pub walk_past : length es ≤ i → false ≡ some (is_of own) (drop (at + 1) es)
    walk_past l = sym (w.left ∙ none_left es i (is_of own) l)
