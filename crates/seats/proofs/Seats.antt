-- A holder's seat, by the places that were found in the list.
-- Assumes nothing.
use Rattle.std.proofs.Common.{◌≡◌, ℕ, ◌<◌, Bool, true, false, cond, not, ◌&&◌, eqb, List, [], length, get_or, Ok, Err, Some, None, sym, refl, ap, ◌∙◌, arith}
use Rattle.std.specs.Option.{ok_or}
use Rattle.std.specs.List.{position, position_or_len}
use Rattle.std.proofs.lemmas.List.Recursion.{is_position_or_len}
use Rattle.register.specs.declared.Holder.{Holder}
use Rattle.register.specs.Holders.{zero_holder, is_of, is_free, some, first_of, balance_of}
use Rattle.register.specs.Changes.{place_of}
use Rattle.register.specs.Numbers.{holder_of, holders_of}
use Rattle.register.proofs.Search.{some_is, in_some, out_some, first_within, balance_at_lem, no_balance}
use Rattle.register.proofs.Pairs.{holders_length, holder_at}
use Rattle.seats.specs.Stages.{pair_of, free_pair, seat_in}

-- of the pairs the first that passes, as of the entries
module _ (q : List ℕ → Bool) (p : Holder → Bool) (same : (e : List ℕ) → p (holder_of e) ≡ q e) (ps : List (List ℕ)) where
  first_pair : first_of p (holders_of ps) ≡ position_or_len q ps
  unfolding first_of
  first_pair = is_position_or_len (λ es. first_of p (holders_of es)) q refl (λ e es. rw (same e) (ap (λ (n : ℕ). cond (q e) 0 n) (omega arith))) ps

  found_pair : cond (some p (holders_of ps)) (Some (first_of p (holders_of ps))) None ≡ position q ps
  found_pair = rw (some_is p (holders_of ps), holders_length ps, first_pair) refl

  -- where none passes, the place is the one past the last
  placed_pair :
      cond (some p (holders_of ps)) (Ok (first_of p (holders_of ps))) (Err (first_of p (holders_of ps))) ≡ ok_or (position q ps) (length ps)
  placed_pair = go (some p (holders_of ps)) refl found_pair
    where
      past_last : some p (holders_of ps) ≡ false → first_of p (holders_of ps) ≡ length ps
      past_last h = omega (arith, out_some p (holders_of ps) h, first_within p (holders_of ps), holders_length ps)

      go :
          (b : Bool) → some p (holders_of ps) ≡ b → cond b (Some (first_of p (holders_of ps))) None ≡ position q ps
          → cond b (Ok (first_of p (holders_of ps))) (Err (first_of p (holders_of ps))) ≡ ok_or (position q ps) (length ps)
      go true h e = ap (λ o. ok_or o (length ps)) e
      go false h e = ap Err (past_last h) ∙ ap (λ o. ok_or o (length ps)) e

own_pair : (k : ℕ) (e : List ℕ) → is_of k (holder_of e) ≡ pair_of k e
own_pair k e = go (eqb (get_or e 1 0) 0) (eqb (get_or e 0 0) k)
  where
    go : (a b : Bool) → not a && b ≡ b && not a
    go true true = refl
    go true false = refl
    go false true = refl
    go false false = refl

turned : (b : Bool) (n : ℕ) → cond b (Ok n) (Err n) ≡ cond (not b) (Err n) (Ok n)
turned true n = refl
turned false n = refl

module _ (k : ℕ) (ps : List (List ℕ)) where
  abbrev es : List Holder
  es = holders_of ps

  pub own_seat :
      (place : ℕ) → Some place ≡ position (pair_of k) ps
      → record { holder = k; balance = get_or (get_or ps place []) 1 0; place = Ok place } ≡ seat_in k es
  unfolding place_of
  own_seat place found = go (some (is_of k) es) refl (found ∙ sym (found_pair (pair_of k) (is_of k) (own_pair k) ps))
    where
      go :
          (b : Bool) → some (is_of k) es ≡ b → Some place ≡ cond b (Some (first_of (is_of k) es)) None
          → record { holder = k; balance = get_or (get_or ps place []) 1 0; place = Ok place } ≡ seat_in k es
      go true h e =
          let at : place ≡ first_of (is_of k) es = cc in
          let inside : place < length ps = omega (arith, at, in_some (is_of k) es h, holders_length ps) in
          let balance : get_or (get_or ps place []) 1 0 ≡ balance_of k es = ap (λ (x : Holder). x.balance) (holder_at ps place inside) ∙ ap (λ (i : ℕ). (get_or es i zero_holder).balance) at ∙ sym (balance_at_lem k es) in
          rw (balance, at, h) refl
      go false h e = cc

  pub new_seat :
      (free : _) → None ≡ position (pair_of k) ps → free ≡ ok_or (position free_pair ps) (length ps)
      → record { holder = k; balance = 0; place = free } ≡ seat_in k es
  unfolding place_of
  new_seat free none at = go (some (is_of k) es) refl (none ∙ sym (found_pair (pair_of k) (is_of k) (own_pair k) ps))
    where
      go :
          (b : Bool) → some (is_of k) es ≡ b → None ≡ cond b (Some (first_of (is_of k) es)) None
          → record { holder = k; balance = 0; place = free } ≡ seat_in k es
      go true h e = cc
      go false h e = rw (at, ← placed_pair free_pair is_free (λ e. refl) ps, turned, h, no_balance k es h) refl
