-- What a call makes of the supply: a deposit and a withdrawal that are accepted move it by their LP, every other call leaves it.
-- Assumes nothing.
use Prim.Native.Nat.{ℕ, ◌+◌, ◌≤◌}
use mathlib.Core.Path.{◌≡◌, refl, sym}
use mathlib.Core.Bool.{false, false≢true}
use native.Mathlib.Omega.{arith}
use borrow.Author.Tests.{eqb-false, ltb-false}
use Rattle.refusal.specs.Tests.{◌then◌}
use Rattle.refusal.proofs.Stops.{outcome_elim}
use Rattle.accounting.specs.Counters.{counter_tests}
use Rattle.worth.specs.Worth.{amount_tests}
use Rattle.liquidity.specs.Liquidity.{deposit_tests, withdraw_tests}
use Rattle.swap.specs.Swap.{accepted_swap, paid_books}
use Rattle.curve.specs.declared.constant_product.LpTokens.{LpTokens}
use Rattle.curve.specs.declared.constant_product.TradingTokens.{TradingTokens}
use Rattle.pool.specs.State.{refused, Done}
use Rattle.calls.specs.declared.Call.{Call}
use Rattle.calls.specs.declared.Call.TheVariants.{SwapBaseInput, SwapBaseOutput, Deposit, Withdraw, Settle, SetStatus}
use Rattle.calls.specs.Next.{State, next}
use Rattle.calls.proofs.Decisions.{decision, tests_of, accepted_of, refused_at, call_decides}
use Rattle.calls.proofs.Refusals.{call_number_tells}
use Rattle.history.specs.Register.{moves_lp}

abbrev pub supply_of : Done → ℕ
supply_of d = d.after.pool.books.supply

accepted_stays : (s : State) (c : Call) → moves_lp c ≡ false → supply_of (accepted_of s c) ≡ s.pool.books.supply
unfolding decision accepted_swap paid_books
accepted_stays s (SwapBaseInput direction amount minimum clock) e = refl
accepted_stays s (SwapBaseOutput direction amount maximum clock) e = refl
accepted_stays s (Deposit lp maximum0 maximum1) e = absurd (false≢true (sym e))
accepted_stays s (Withdraw lp owned minimum0 minimum1) e = absurd (false≢true (sym e))
accepted_stays s (Settle share) e = refl
accepted_stays s (SetStatus bit flag) e = refl

pub supply_stays : (s : State) (c : Call) → moves_lp c ≡ false → supply_of (next s c) ≡ s.pool.books.supply
unfolding refused
supply_stays s c e =
    rw (call_decides s c).by_tests
    (outcome_elim (λ (d : Done). supply_of d ≡ s.pool.books.supply) (tests_of s c) (refused_at s) (accepted_of s c) (λ n. refl) (λ h. accepted_stays s c e))

module _ (s : State) (lp : LpTokens) where
  pub deposit_moves :
      (maximum0 maximum1 : TradingTokens) → let d = next s (Deposit lp maximum0 maximum1) in d.after.receipt.number ≡ 0
      → (supply_of d ≡ s.pool.books.supply + lp.0) × (lp.0 ≡ 0 → ⊥)
  unfolding decision deposit_tests
  deposit_moves maximum0 maximum1 z =
      let a = (call_number_tells s (Deposit lp maximum0 maximum1)).where_accepted z in
      (rw a.result, eqb-false lp.0 0 a.passed.1.0)

  pub withdraw_moves :
      (owned : LpTokens) (minimum0 minimum1 : TradingTokens) → let d = next s (Withdraw lp owned minimum0 minimum1) in d.after.receipt.number ≡ 0
      → (supply_of d + lp.0 ≡ s.pool.books.supply) × (lp.0 ≡ 0 → ⊥) × (lp.0 ≤ owned.0)
  unfolding decision withdraw_tests counter_tests amount_tests ◌then◌
  withdraw_moves owned minimum0 minimum1 z =
      let a = (call_number_tells s (Withdraw lp owned minimum0 minimum1)).where_accepted z in
      let t = a.passed in
      (rw a.result (omega (arith, ltb-false)), eqb-false lp.0 0 t.1.0, ltb-false owned.0 lp.0 t.1.1.0)
