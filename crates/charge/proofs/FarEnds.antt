-- Transfers seen from one end: what one that isn't refused gives, and that they are free at no points.
-- Assumes nothing.
use mathlib.Core.Path.{◌≡◌, refl, sym, ap, ◌∙◌}
use mathlib.Core.Bool.{Bool, true, false, ◌&&◌, false≢true}
use Prim.Native.Nat.{ℕ, ◌≤◌}
use lib.Dec.{eqb}
use borrow.Author.Tests.{le-ltb, eqb-true}
use Rattle.std.specs.Prelude.{Result, Ok, Err}
use Rattle.refusal.specs.Tests.{Tests, u64_max, ◌then◌, outcome}
use Rattle.refusal.proofs.Stages.{stage_err, stage_ok, stage_value}
use Rattle.refusal.proofs.Stops.{outcome_map}
use Rattle.accounting.specs.Counters.{of_token}
use Rattle.charge.specs.declared.Charge.{Charge}
use Rattle.charge.specs.declared.Charges.{Charges}
use Rattle.charge.specs.declared.End.{End}
use Rattle.charge.specs.declared.Ends.{Ends}
use Rattle.charge.specs.Charge.{charge_on, least_sent, nothing_charged, charged_on}
use Rattle.charge.specs.Transfers.{sent_of, far_amount, far_tests, transferred, both_transferred}
use Rattle.charge.proofs.Rest.{charge_none, rest_none, sent_none}

-- ---- accepted
abbrev pub accepted_end : Bool → Charge → ℕ → End
accepted_end forward c n = record { amount = far_amount forward c n; charge = charge_on c (sent_of forward c n) }

abbrev pub accepted_ends : Bool → Charges → ℕ → ℕ → Ends
accepted_ends forward c n0 n1 =
    record {
      amount0 = far_amount forward c.token0 n0;
      amount1 = far_amount forward c.token1 n1;
      charged = charged_on c (sent_of forward c.token0 n0) (sent_of forward c.token1 n1);
    }

abbrev pub both_tests : Bool → Charges → ℕ → ℕ → Tests
both_tests forward c n0 n1 = far_tests forward c.token0 n0 then far_tests forward c.token1 n1

pub far_is : (forward : Bool) (c : Charge) (n : ℕ) {e : End} → transferred forward c n ≡ Ok e → accepted_end forward c n ≡ e
unfolding transferred
far_is forward c n h = stage_value (accepted_end forward c n) (far_tests forward c n) h

-- ---- one of each token
-- the second's answer for both
abbrev second : Result Ends ℕ → Result End ℕ → Result Ends ℕ
second both (Ok e) = both
second both (Err n) = Err n

module _ (forward : Bool) (c : Charges) (n0 n1 : ℕ) where
  pub first_refuses : {n : ℕ} → transferred forward c.token0 n0 ≡ Err n → Err n ≡ both_transferred forward c n0 n1
  unfolding transferred both_transferred
  first_refuses {n} h = stage_err (accepted_end forward c.token0 n0) (far_tests forward c.token0 n0) (far_tests forward c.token1 n1) n Err _ h

  past_first : {e0 : End} (r : Result End ℕ) → transferred forward c.token0 n0 ≡ Ok e0 → transferred forward c.token1 n1 ≡ r → second (Ok (accepted_ends forward c n0 n1)) r ≡ both_transferred forward c n0 n1
  unfolding transferred both_transferred
  past_first r h0 h1 =
      ap (second (Ok (accepted_ends forward c n0 n1))) (sym h1)
      ∙ outcome_map (second (Ok (accepted_ends forward c n0 n1))) (far_tests forward c.token1 n1) Err (Ok (accepted_end forward c.token1 n1))
      ∙ stage_ok (accepted_end forward c.token0 n0) (far_tests forward c.token0 n0) (far_tests forward c.token1 n1) Err _ h0

  pub second_refuses :
      {e0 : End} {n : ℕ} → transferred forward c.token0 n0 ≡ Ok e0 → transferred forward c.token1 n1 ≡ Err n
      → Err n ≡ both_transferred forward c n0 n1
  second_refuses h0 h1 = past_first (Err _) h0 h1

  pub none_refuses :
      {e0 e1 : End} → transferred forward c.token0 n0 ≡ Ok e0 → transferred forward c.token1 n1 ≡ Ok e1
      → Ok (record { amount0 = e0.amount; amount1 = e1.amount; charged = record { charge0 = e0.charge; charge1 = e1.charge } }) ≡ both_transferred forward c n0 n1
  none_refuses h0 h1 = rw (sym (far_is forward c.token0 n0 h0), sym (far_is forward c.token1 n1 h1)) (past_first (Ok _) h0 h1)

-- forward there is no test: what is sent bears its charges
pub all_forward : (c : Charges) (n0 n1 : ℕ) → both_transferred true c n0 n1 ≡ Ok (accepted_ends true c n0 n1)
unfolding both_transferred outcome ◌then◌
all_forward c n0 n1 = refl

-- ---- at no points
pub free_transfer : (forward : Bool) (c : Charge) (n : ℕ) → c.points ≡ 0 → n ≤ u64_max → Ok (record { amount = n; charge = 0 }) ≡ transferred forward c n
unfolding transferred outcome
free_transfer true c n none fits = rw (rest_none c none n, charge_none c none n) refl
free_transfer false c n none fits = rw (charge_none c none (least_sent c n), sent_none c none n, le-ltb u64_max n fits) refl

module _ (c : Charges) (none : eqb c.token0.points 0 && eqb c.token1.points 0 ≡ true) where
  no_points : (c.token0.points ≡ 0) × (c.token1.points ≡ 0)
  no_points = go (eqb c.token0.points 0) refl (eqb c.token1.points 0) refl none
    where
      go : (a : Bool) → eqb c.token0.points 0 ≡ a → (b : Bool) → eqb c.token1.points 0 ≡ b → a && b ≡ true → (c.token0.points ≡ 0) × (c.token1.points ≡ 0)
      go true e true f g = (eqb-true c.token0.points 0 e, eqb-true c.token1.points 0 f)
      go true e false f g = absurd (false≢true g)
      go false e b f g = absurd (false≢true g)

  pub free_one : (zero forward : Bool) (n : ℕ) → n ≤ u64_max → Ok (record { amount = n; charge = 0 }) ≡ transferred forward (of_token zero c.token0 c.token1) n
  free_one true forward n fits = free_transfer forward c.token0 n no_points.0 fits
  free_one false forward n fits = free_transfer forward c.token1 n no_points.1 fits

  pub free_charged : (n0 n1 : ℕ) → nothing_charged ≡ charged_on c n0 n1
  free_charged n0 n1 = rw (charge_none c.token0 no_points.0 n0, charge_none c.token1 no_points.1 n1) refl

  pub free_both : (forward : Bool) (n0 n1 : ℕ) → n0 ≤ u64_max → n1 ≤ u64_max → Ok (record { amount0 = n0; amount1 = n1; charged = nothing_charged }) ≡ both_transferred forward c n0 n1
  unfolding both_transferred outcome ◌then◌
  free_both true n0 n1 fits0 fits1 = rw (rest_none c.token0 no_points.0 n0, rest_none c.token1 no_points.1 n1, charge_none c.token0 no_points.0 n0, charge_none c.token1 no_points.1 n1) refl
  free_both false n0 n1 fits0 fits1 =
      rw (charge_none c.token0 no_points.0 (least_sent c.token0 n0), charge_none c.token1 no_points.1 (least_sent c.token1 n1), sent_none c.token0 no_points.0 n0, sent_none c.token1 no_points.1 n1, le-ltb u64_max n0 fits0, le-ltb u64_max n1 fits1)
      refl
