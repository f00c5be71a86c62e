-- A call made of stages, each of which answers with `?`: a stage's `Err` refuses the call, and past a stage's `Ok` the next ones decide.
-- Assumes nothing.
use mathlib.Core.Path.{◌≡◌, refl, sym, ap, ◌∙◌}
use mathlib.Core.Bool.{Bool, true, false, cond, false≢true}
use mathlib.Core.List.{[], ◌∷◌, ◌++◌}
use Rattle.std.specs.Prelude.{ℕ, Result, Ok, Err, is_ok}
use Rattle.refusal.specs.Tests.{Tests, ◌then◌, outcome, tested, either_of}
use Rattle.refusal.proofs.Stops.{Passed, outcome_then, outcome_all}

module _ {X : Type 0} where
  abbrev number_in : Result X ℕ → ℕ
  number_in (Ok x) = 0
  number_in (Err n) = n

  abbrev value_in : X → Result X ℕ → X
  value_in d (Ok x) = x
  value_in d (Err n) = d

  pub same_number : {n m : ℕ} → ◌≡◌ {A = Result X ℕ} (Err n) (Err m) → n ≡ m
  same_number e = ap number_in e

  pub same_value : {x y : X} → ◌≡◌ {A = Result X ℕ} (Ok x) (Ok y) → x ≡ y
  same_value {x} e = ap (value_in x) e

  pub ok_ne_err : {x : X} {n : ℕ} → ◌≡◌ {A = Result X ℕ} (Ok x) (Err n) → ⊥
  ok_ne_err e = false≢true (sym (ap is_ok e))

  module _ (value : X) where
    -- a stage of tests that answers with a value
    abbrev stage : Tests → Result X ℕ
    stage ts = outcome ts (λ n. Err n) (Ok value)

    pub stage_err :
        {A : Type 0} (xs ys : Tests) (n : ℕ) (bad : ℕ → A) (good : A) → stage xs ≡ Err n → bad n ≡ outcome (xs then ys) bad good
    unfolding outcome ◌then◌
    stage_err [] ys n bad good e = absurd (ok_ne_err e)
    stage_err (t ∷ xs) ys n bad good e = go t.0 e (stage_err xs ys n bad good)
      where
        go :
            (b : Bool) → cond b (Err t.1) (stage xs) ≡ Err n → (stage xs ≡ Err n → bad n ≡ outcome (xs ++ ys) bad good)
            → bad n ≡ cond b (bad t.1) (outcome (xs ++ ys) bad good)
        go true e rest = ap bad (sym (same_number e))
        go false e rest = rest e

    pub stage_passed : (xs : Tests) {w : X} → stage xs ≡ Ok w → Passed xs
    unfolding outcome
    stage_passed [] e = tt
    stage_passed (t ∷ xs) {w} e = go t.0 refl e (λ e. stage_passed xs e)
      where
        go : (b : Bool) → t.0 ≡ b → cond b (Err t.1) (stage xs) ≡ Ok w → (stage xs ≡ Ok w → Passed xs) → (t.0 ≡ false) × Passed xs
        go true h e rest = absurd (ok_ne_err (sym e))
        go false h e rest = (h, rest e)

    pub stage_value : (xs : Tests) {w : X} → stage xs ≡ Ok w → value ≡ w
    stage_value xs e = same_value (outcome_all xs (λ n. Err n) (Ok value) (stage_passed xs e) ∙ e)

    pub stage_ok :
        {A : Type 0} (xs ys : Tests) {w : X} (bad : ℕ → A) (good : A) → stage xs ≡ Ok w → outcome ys bad good ≡ outcome (xs then ys) bad good
    stage_ok xs ys bad good e = outcome_all xs bad (outcome ys bad good) (stage_passed xs e) ∙ outcome_then xs ys bad good

-- tests alone are a stage that answers with nothing
pub tested_is : (ts : Tests) → tested ts ≡ outcome ts (λ n. Err n) (Ok tt)
unfolding tested outcome
tested_is [] = refl
tested_is (t ∷ ts) = ap (cond t.0 (Err t.1)) (tested_is ts)

-- two stages of tests as one
joined : (xs ys : Tests) → either_of (tested xs) (tested ys) ≡ tested (xs then ys)
unfolding either_of tested ◌then◌
joined [] ys = refl
joined (t ∷ xs) ys = go t.0 (joined xs ys)
  where
    go :
        (b : Bool) → either_of (tested xs) (tested ys) ≡ tested (xs ++ ys)
        → either_of (cond b (Err t.1) (tested xs)) (tested ys) ≡ cond b (Err t.1) (tested (xs ++ ys))
    go true e = refl
    go false e = e

pub stages_joined :
    (xs ys : Tests) (first second both : Result Unit ℕ) → first ≡ tested xs → second ≡ tested ys → both ≡ either_of first second → both ≡ tested (xs then ys)
stages_joined xs ys first second both e f g = g ∙ (λ i. either_of (e i) (f i)) ∙ joined xs ys
