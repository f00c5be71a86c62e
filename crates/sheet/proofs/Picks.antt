-- What a test picks, once it is known.
-- Assumes nothing.
use Prim.Native.Nat.{ℕ}
use mathlib.Core.Path.{◌≡◌, refl, sym, ap}
use mathlib.Core.Bool.{Bool, true, false, cond}
use mathlib.Core.List.{[], ◌∷◌}
use Rattle.std.specs.Prelude.{Ok, Err}
use Rattle.refusal.specs.Tests.{Tests, outcome, tested, tested_by}
use Rattle.refusal.proofs.Stops.{Passed}
use Rattle.refusal.proofs.Stages.{same_number, ok_ne_err}

pub picks_true : {A : Type 0} (b : Bool) (x y : A) → b ≡ true → x ≡ cond b x y
picks_true b x y h = rw h

pub picks_false : {A : Type 0} (b : Bool) (x y : A) → b ≡ false → y ≡ cond b x y
picks_false b x y h = rw h

-- ---- a stage of tests alone, by what it answered: it refuses with that number, or all of them are passed
pub refused_by : {A : Type 0} (ts : Tests) (n : ℕ) (refused : ℕ → A) (accepted : A) → tested ts ≡ Err n → refused n ≡ outcome ts refused accepted
unfolding tested outcome
refused_by [] n refused accepted e = absurd (ok_ne_err e)
refused_by (t ∷ ts) n refused accepted e = go t.0 e (λ k. refused_by ts n refused accepted k)
  where
    go :
        (b : Bool) → cond b (Err t.1) (tested_by ts) ≡ Err n → (tested_by ts ≡ Err n → refused n ≡ outcome ts refused accepted)
        → refused n ≡ cond b (refused t.1) (outcome ts refused accepted)
    go true e rest = ap refused (sym (same_number e))
    go false e rest = rest e

pub passed : {u : Unit {0}} (ts : Tests) → tested ts ≡ Ok u → Passed ts
unfolding tested
passed [] e = tt
passed {u} (t ∷ ts) e = go t.0 refl e (λ k. passed ts k)
  where
    go : (b : Bool) → t.0 ≡ b → cond b (Err t.1) (tested_by ts) ≡ Ok u → (tested_by ts ≡ Ok u → Passed ts) → (t.0 ≡ false) × Passed ts
    go true h e rest = absurd (ok_ne_err (sym e))
    go false h e rest = (h, rest e)
