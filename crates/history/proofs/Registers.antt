-- Document 02 (g): the balances plus 100 are the supply, and a call changes the balance of its holder only.
-- Assumes nothing.
use Prim.Native.Nat.{ℕ, ◌+◌, ◌≤◌}
use mathlib.Core.Path.{◌≡◌, refl, sym, ap, subst, ◌∙◌}
use mathlib.Core.Bool.{Bool, true, false, not}
use mathlib.Core.List.{List, [], ◌∷◌}
use native.Mathlib.Omega.{arith}
use lib.Dec.{eqb}
use lib.ListN.{length, take, length-set}
use borrow.Author.Tests.{eqb-true, eqb-false, ltb-false, ne_eqb, le-ltb}
use Rattle.refusal.proofs.Stops.{first_none}
use Rattle.curve.specs.ConstantProduct.{tokens}
use Rattle.accounting.specs.Locked.{lock_lp_amount}
use Rattle.register.specs.declared.Holder.{Holder}
use Rattle.register.specs.Holders.{balance_of, total, numbered}
use Rattle.register.specs.Changes.{register_tests, credit_tests, credited, debited}
use Rattle.register.proofs.Laws.{credit_total, credit_only, credit_own, debit_total, debit_only}
use Rattle.register.proofs.Valid.{credit_numbered, debit_numbered, debit_own, opened_numbered, opened_length, opened_total}
use Rattle.calls.specs.Next.{State}
use Rattle.calls.specs.Registered.{Registered, deposit, withdraw, holder_of, Entered, next_with, opener_of, opening_with}
use Rattle.calls.proofs.Entries.{AcceptedWith, entered_tells, opened_tells}
use Rattle.history.specs.Register.{Turn, enters, other, Point, point_after, turned, turned_all, IsHolder, Own, HoldsAt, RegisterTheorem}
use Rattle.history.proofs.Locked.{opening_locked}
use Rattle.history.proofs.LpCalls.{supply_of, supply_stays, deposit_moves, withdraw_moves}

-- what every call keeps
record Keeps (count : ℕ) (es : List Holder) (supply : ℕ) : Type 0 where
  as_long : length es ≡ count
  numbers : numbered es ≡ true
  sums : total es + lock_lp_amount ≡ supply

-- ---- one call with the register that is accepted
module _ (s : State) (es : List Holder) where
  credit_keeps :
      (count k lp maximum0 maximum1 : ℕ) (e : Entered) → AcceptedWith s es (deposit k lp maximum0 maximum1) e
      → Keeps count es s.pool.books.supply → Keeps count e.holders (supply_of e.given)
  unfolding register_tests credit_tests credited
  credit_keeps count k lp maximum0 maximum1 e a h =
      let room = a.last.1.0 in
      let moves = deposit_moves s (record { 0 = lp }) (tokens maximum0) (tokens maximum1) a.own in
      rw (a.given, a.holders)
      (record {
        as_long = length-set es _ _ ∙ h.as_long;
        numbers = credit_numbered k lp es h.numbers (eqb-false k 0 a.registered.1.1.1.0) room;
        sums = omega (arith, credit_total k es room lp, moves.0, h.sums);
      })

  debit_keeps :
      (count k lp minimum0 minimum1 : ℕ) (e : Entered) → AcceptedWith s es (withdraw k lp minimum0 minimum1) e
      → Keeps count es s.pool.books.supply → Keeps count e.holders (supply_of e.given)
  unfolding register_tests debited
  debit_keeps count k lp minimum0 minimum1 e a h =
      let moves = withdraw_moves s (record { 0 = lp }) (record { 0 = balance_of k es }) (tokens minimum0) (tokens minimum1) a.own in
      rw (a.given, a.holders)
      (record {
        as_long = length-set es _ _ ∙ h.as_long;
        numbers = debit_numbered k lp es h.numbers (eqb-false k 0 a.registered.1.1.1.0);
        sums = omega (arith, debit_total k lp es moves.1 moves.2, moves.0, h.sums);
      })

  -- whose balance it changes, and by what
  only_his : (c : Registered) (e : Entered) → AcceptedWith s es c e → (j : ℕ) → (holder_of c ≡ j → ⊥) → balance_of j e.holders ≡ balance_of j es
  unfolding credit_tests
  only_his (deposit k lp maximum0 maximum1) e a j ne = ap (balance_of j) a.holders ∙ credit_only k es a.last.1.0 lp j ne
  only_his (withdraw k lp minimum0 minimum1) e a j ne =
      let moves = withdraw_moves s (record { 0 = lp }) (record { 0 = balance_of k es }) (tokens minimum0) (tokens minimum1) a.own in
      ap (balance_of j) a.holders ∙ debit_only k lp es moves.1 moves.2 j ne

  by_its_lp : (c : Registered) (e : Entered) → AcceptedWith s es c e → numbered es ≡ true → Own c (balance_of (holder_of c) es) (balance_of (holder_of c) e.holders)
  unfolding credit_tests
  by_its_lp (deposit k lp maximum0 maximum1) e a h =
      let moves = deposit_moves s (record { 0 = lp }) (tokens maximum0) (tokens maximum1) a.own in
      ap (balance_of k) a.holders ∙ credit_own k es a.last.1.0 lp moves.1
  by_its_lp (withdraw k lp minimum0 minimum1) e a h =
      let moves = withdraw_moves s (record { 0 = lp }) (record { 0 = balance_of k es }) (tokens minimum0) (tokens minimum1) a.own in
      ap (λ (l : List Holder). balance_of k l + lp) a.holders ∙ debit_own k lp es h moves.1 moves.2

-- ---- one call of a list
-- what holds where it is refused, and where it is accepted, holds
by_number : (n : ℕ) {P : Type 0} → ((n ≡ 0 → ⊥) → P) → (n ≡ 0 → P) → P
by_number n {P} bad good = go (eqb n 0) refl
  where
    go : (b : Bool) → eqb n 0 ≡ b → P
    go true e = good (eqb-true n 0 e)
    go false e = bad (eqb-false n 0 e)

abbrev KeepsAt : ℕ → Point → Type 0
KeepsAt count p = Keeps count p.holders p.state.pool.books.supply

entered_keeps : (count : ℕ) (p : Point) (c : Registered) → KeepsAt count p → KeepsAt count (turned p (enters c))
entered_keeps count p c h =
    let e = next_with p.state p.holders c in
    let told = entered_tells p.state p.holders c in
    by_number e.given.after.receipt.number
    (λ f. let l = told.where_refused f in
    rw l.list (subst (λ (s : State). Keeps count p.holders s.pool.books.supply) (sym l.all.unchanged) h))
    (λ z. go c (told.where_accepted z))
  where
    go : (c : Registered) → AcceptedWith p.state p.holders c (next_with p.state p.holders c) → KeepsAt count (turned p (enters c))
    go (deposit k lp maximum0 maximum1) a = credit_keeps p.state p.holders count k lp maximum0 maximum1 _ a h
    go (withdraw k lp minimum0 minimum1) a = debit_keeps p.state p.holders count k lp minimum0 minimum1 _ a h

turn_keeps : (count : ℕ) (p : Point) (t : Turn) → KeepsAt count p → KeepsAt count (turned p t)
turn_keeps count p (enters c) h = entered_keeps count p c h
turn_keeps count p (other c without) h = record {
  as_long = h.as_long;
  numbers = h.numbers;
  sums = h.sums ∙ sym (supply_stays p.state c without);
}

turns_keep : (count : ℕ) (p : Point) (ts : List Turn) → KeepsAt count p → KeepsAt count (turned_all p ts)
unfolding turned_all
turns_keep count p [] h = h
turns_keep count p (t ∷ ts) h = turns_keep count (turned p t) ts (turn_keeps count p t h)

-- ---- at a point
turn_only : (p : Point) (t : Turn) (k : ℕ) → (IsHolder t k → ⊥) → balance_of k (turned p t).holders ≡ balance_of k p.holders
turn_only p (other c without) k ne = refl
turn_only p (enters c) k ne =
    let told = entered_tells p.state p.holders c in
    by_number (next_with p.state p.holders c).given.after.receipt.number
    (λ f. ap (balance_of k) (told.where_refused f).list)
    (λ z. only_his p.state p.holders c _ (told.where_accepted z) k ne)

holds_at : (count : ℕ) → (count ≡ 0 → ⊥) → count ≤ 256 → (p : Point) → KeepsAt count p → HoldsAt count p
unfolding register_tests
holds_at count some few p h =
    let long = h.as_long in
    record {
      length_stays = long;
      stays = λ k z.
          sym (first_none (register_tests k p.holders)
          (ne_eqb _ 0 (λ e. some (sym long ∙ e)), (le-ltb 256 (length p.holders) (omega (arith, long, few)), (ap not h.numbers, (ne_eqb k 0 z, tt)))));
      balances = h.sums;
      only = turn_only p;
      own = λ c z. by_its_lp p.state p.holders c _ ((entered_tells p.state p.holders c).where_accepted z) h.numbers;
      refused = λ c f. ((entered_tells p.state p.holders c).where_refused f).list;
    }

-- ---- the start, and every list
pub register_theorem : RegisterTheorem
unfolding RegisterTheorem register_tests
register_theorem o es holder z =
    let a = (opened_tells o es holder).where_accepted z in
    let t = a.registered in
    let some : length es ≡ 0 → ⊥ = eqb-false _ 0 t.0 in
    let opener = opener_of o holder in
    let first-point : KeepsAt (length es) (point_after (opening_with o es holder)) =
    rw (a.given, a.holders)
    (record {
      as_long = opened_length opener es;
      numbers = opened_numbered opener es (eqb-false holder 0 t.1.1.1.0);
      sums = omega (arith, opened_total opener es some, opening_locked o a.own);
    }) in
    (a.given, λ ts i. holds_at (length es) some (ltb-false _ _ t.1.0) _ (turns_keep (length es) _ (take i ts) first-point))
