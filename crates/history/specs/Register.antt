-- Document 02 (g), of lists of calls: 'After an accepted opening with a register, at every point of a list whose deposits and withdrawals all take that
-- register, each as the call before it left it and nobody else writing to it, the balances plus 100 are the supply, and a call changes the balance
-- of its holder only.'
use Rattle.std.specs.Prelude.{ℕ, ◌+◌, ◌≡◌, Bool, true, false, List, [], ◌∷◌, length, take}
use Rattle.refusal.specs.Tests.{first}
use Rattle.accounting.specs.Locked.{lock_lp_amount}
use Rattle.register.specs.declared.Holder.{Holder}
use Rattle.register.specs.Holders.{balance_of, total}
use Rattle.register.specs.Changes.{register_tests}
use Rattle.opening.specs.declared.Opening.{Opening}
use Rattle.pool.specs.Calls.{opening}
use Rattle.calls.specs.declared.Call.{Call}
use Rattle.calls.specs.declared.Call.TheVariants.{SwapBaseInput, SwapBaseOutput, Deposit, Withdraw, Settle, SetStatus}
use Rattle.calls.specs.Next.{State, left}
use Rattle.calls.specs.Registered.{Registered, Entered, deposit, withdraw, holder_of, next_with, opening_with}
use Rattle.history.specs.Run.{Step, call, registered, taken}

-- whether a call is a deposit or a withdrawal
abbrev pub moves_lp : Call → Bool
moves_lp (SwapBaseInput direction amount minimum clock) = false
moves_lp (SwapBaseOutput direction amount maximum clock) = false
moves_lp (Deposit lp maximum0 maximum1) = true
moves_lp (Withdraw lp owned minimum0 minimum1) = true
moves_lp (Settle share) = false
moves_lp (SetStatus bit flag) = false

-- a call of such a list: a deposit or a withdrawal with the register, or a call that is neither
pub data Turn : Type 0 where
  enters : Registered → Turn
  other : (c : Call) → moves_lp c ≡ false → Turn

-- a point of such a list: pool, ring and register
pub record Point : Type 0 where
  pub state : State
  pub holders : List Holder

abbrev pub point_after : Entered → Point
point_after e = record { state = left e.given; holders = e.holders }

-- a call as a step of a run, and the point that it leaves; a call without a register leaves it alone
abbrev pub step_at : Point → Turn → Step
step_at p (enters c) = registered p.holders c
step_at p (other c without) = call c

abbrev pub holders_after : Point → Turn → List Holder
holders_after p (enters c) = (next_with p.state p.holders c).holders
holders_after p (other c without) = p.holders

abbrev pub turned : Point → Turn → Point
turned p t = record { state = left (taken p.state (step_at p t)); holders = holders_after p t }

-- the point after a list of calls
unfoldable pub turned_all : Point → List Turn → Point
turned_all p [] = p
turned_all p (t ∷ ts) = turned_all (turned p t) ts

-- whether a holder is the one whose call it is
abbrev pub IsHolder : Turn → ℕ → Type 0
IsHolder (enters c) k = holder_of c ≡ k
IsHolder (other c without) k = ⊥

-- what a call that is accepted makes of its holder's balance
abbrev pub Own : Registered → ℕ → ℕ → Type 0
Own (deposit holder lp maximum0 maximum1) before after = after ≡ before + lp
Own (withdraw holder lp minimum0 minimum1) before after = after + lp ≡ before

-- at a point of a list that began with so many entries, and of any call there
pub record HoldsAt (count : ℕ) (p : Point) : Type 0 where
  -- the list is still a register, of the same length: no holder from 1 is answered 3 for it
  pub length_stays : length p.holders ≡ count
  pub stays : (k : ℕ) → (k ≡ 0 → ⊥) → first (register_tests k p.holders) ≡ 0
  -- the balances plus 100 are the supply
  pub balances : total p.holders + lock_lp_amount ≡ p.state.pool.books.supply
  -- a call changes the balance of its holder only, other calls nobody's
  pub only : (t : Turn) (k : ℕ) → (IsHolder t k → ⊥) → balance_of k (turned p t).holders ≡ balance_of k p.holders
  -- an accepted deposit adds its LP to its holder's, an accepted withdrawal takes its LP from it
  pub own :
      (c : Registered) → let e = next_with p.state p.holders c in
      e.given.after.receipt.number ≡ 0 → Own c (balance_of (holder_of c) p.holders) (balance_of (holder_of c) e.holders)
  -- a refused one leaves the list as it was
  pub refused :
      (c : Registered) → let e = next_with p.state p.holders c in
      (e.given.after.receipt.number ≡ 0 → ⊥) → e.holders ≡ p.holders

-- for every opening with a register that is accepted, every list of calls and every point of it; pool and ring are the opening's without a
-- register, so demand 3 holds of them
unfoldable pub RegisterTheorem : Type 0
RegisterTheorem =
    (o : Opening) (es : List Holder) (holder : ℕ) → let e = opening_with o es holder in
    e.given.after.receipt.number ≡ 0
    → (e.given ≡ opening o) × ((ts : List Turn) (i : ℕ) → HoldsAt (length es) (turned_all (point_after e) (take i ts)))
