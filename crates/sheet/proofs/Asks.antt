-- What a row does, by its kind: rates, an opening, or the call that it asks for.
-- Assumes nothing.
use mathlib.Core.Path.{◌≡◌, refl, ◌∙◌}
use mathlib.Core.Bool.{Bool, true, false, cond, ◌&&◌}
use native.Mathlib.Omega.{arith}
use lib.Dec.{eqb}
use borrow.Author.Tests.{eq-eqb, ne_eqb}
use Rattle.refusal.specs.Refusal.{unreadable_row}
use Rattle.pool.specs.Calls.{opening}
use Rattle.calls.specs.declared.Call.{Call}
use Rattle.calls.specs.declared.Call.TheVariants.{SwapBaseInput, SwapBaseOutput, Deposit, Withdraw, Settle, SetStatus}
use Rattle.calls.specs.Next.{state_of, next}
use Rattle.words.specs.Words.{share_of}
use Rattle.rows.specs.declared.row.Row.{Row}
use Rattle.std.specs.Prelude.{Some}
use Rattle.sheet.specs.Sheet.{Sheet, Turn, refused_row, called, keep_rates, replaced, unless_spare, perform, opening_with}
use Rattle.sheet.specs.Stages.{readable, call_of, called_for}
use Rattle.sheet.proofs.Picks.{picks_true, picks_false}

-- ---- a row
module _ (s : Sheet) where
  -- a call, where the row is readable
  abbrev asked : Bool → Call → Turn
  asked b c = unless_spare b s (called s (next (state_of s.pool s.entries) c))

  -- the kind decides on both at once
  either : (k b b' : Bool) (c c' : Call) (t u : Turn) → asked b c ≡ t → asked b' c' ≡ u → asked (cond k b b') (cond k c c') ≡ cond k t u
  either true b b' c c' t u f g = f
  either false b b' c c' t u f g = g

  -- kind 7, or none
  last : (k b : Bool) (c : Call) (t : Turn) → asked b c ≡ t → asked (cond k b false) c ≡ cond k t (refused_row s unreadable_row)
  last true b c t f = f
  last false b c t f = refl

  -- kind 0
  pub keeps_rates :
      (r : Row) → r.kind ≡ 0 → keep_rates s (record { trade = r.a; protocol = r.b; fund = r.c; creator = r.d; share = r.e }) ≡ perform s (Some r)
  unfolding perform
  keeps_rates r is = picks_true (eqb r.kind 0) _ _ (eq-eqb r.kind 0 is)

  -- kind 1
  pub opens : (r : Row) → r.kind ≡ 1 → replaced s (opening (opening_with r.a r.b r.c r.d r.e s.rates)) ≡ perform s (Some r)
  unfolding perform
  opens r is =
      picks_true (eqb r.kind 1) _ _ (eq-eqb r.kind 1 is)
      ∙ picks_false (eqb r.kind 0) _ _ (ne_eqb r.kind 0 (λ e. omega arith))

  -- and the others
  pub asks : (r : Row) → (r.kind ≡ 0 → ⊥) → (r.kind ≡ 1 → ⊥) → called_for s r ≡ perform s (Some r)
  unfolding called_for readable call_of perform next
  asks r not-rates not-opening =
      either (eqb r.kind 2) (eqb r.e 0) _ (SwapBaseInput r.a r.b r.c r.d) _ _ _ refl
      (either (eqb r.kind 3) (eqb r.e 0) _ (SwapBaseOutput r.a r.b r.c r.d) _ _ _ refl
      (either (eqb r.kind 4) (eqb r.d 0 && eqb r.e 0) _ (Deposit (record { 0 = r.a }) (record { 0 = r.b }) (record { 0 = r.c })) _ _ _ refl
      (either (eqb r.kind 5) (eqb r.e 0) _ (Withdraw (record { 0 = r.a }) (record { 0 = r.b }) (record { 0 = r.c }) (record { 0 = r.d })) _ _ _ refl
      (either (eqb r.kind 6) (eqb r.a 0 && eqb r.b 0 && eqb r.c 0 && eqb r.d 0 && eqb r.e 0) _ (Settle (share_of s.pool)) _ _ _ refl
      (last (eqb r.kind 7) (eqb r.c 0 && eqb r.d 0 && eqb r.e 0) (SetStatus r.a r.b) _ refl)))))
      ∙ picks_false (eqb r.kind 1) _ _ (ne_eqb r.kind 1 not-opening)
      ∙ picks_false (eqb r.kind 0) _ _ (ne_eqb r.kind 0 not-rates)
