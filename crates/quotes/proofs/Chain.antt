-- A call made of stages with `?`, as one expression: a stage answers a value, which the stages after it take, or refuses the call.
-- Assumes nothing.
use mathlib.Core.Path.{◌≡◌, refl, ap, ◌∙◌}
use mathlib.Core.Bool.{Bool, true, false, cond}
use mathlib.Core.List.{[], ◌∷◌}
use Rattle.std.specs.Prelude.{ℕ, Result, Ok, Err}
use Rattle.refusal.specs.Tests.{Tests, outcome, tested}
use Rattle.refusal.proofs.Stops.{Passed, outcome_map}
use Rattle.refusal.proofs.Stages.{tested_is}

abbrev pub next : {A B : Type 0} → Result A ℕ → (A → Result B ℕ) → Result B ℕ
next (Ok a) f = f a
next (Err n) f = Err n

-- past a stage's tests its value is taken
pub staged : {A B : Type 0} (ts : Tests) (value : A) (f : A → Result B ℕ) → next (outcome ts Err (Ok value)) f ≡ outcome ts Err (f value)
staged {A} ts value f = outcome_map (λ (r : Result A ℕ). next r f) ts Err (Ok value)

pub checked : {B : Type 0} (ts : Tests) (f : Unit {0} → Result B ℕ) → next (tested ts) f ≡ outcome ts Err (f tt)
checked ts f = ap (λ (r : Result (Unit {0}) ℕ). next r f) (tested_is ts) ∙ staged ts tt f

-- what stands past tests may rest on them
pub passing : {A : Type 0} (ts : Tests) (bad : ℕ → A) {x y : A} → (Passed ts → x ≡ y) → outcome ts bad x ≡ outcome ts bad y
unfolding outcome
passing [] bad f = f tt
passing {A} (t ∷ ts) bad {x} {y} f = go t.0 refl (λ g. passing ts bad g)
  where
    go :
        (b : Bool) → t.0 ≡ b → ((Passed ts → x ≡ y) → outcome ts bad x ≡ outcome ts bad y)
        → cond b (bad t.1) (outcome ts bad x) ≡ cond b (bad t.1) (outcome ts bad y)
    go true e rest = refl
    go false e rest = rest (λ h. f (e, h))
