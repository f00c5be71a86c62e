-- Front, worth and last stage, each with an answer of its own, make up the one list of tests of a deposit or a withdrawal.
-- Assumes nothing.
use mathlib.Core.Path.{◌≡◌, refl, sym, ap, ◌∙◌}
use mathlib.Core.Bool.{Bool, true, false}
use Prim.Native.Nat.{ℕ, min, ◌≤◌}
use native.Mathlib.Omega.{arith}
use Rattle.std.specs.Prelude.{Result, Ok, Err}
use Rattle.refusal.specs.Tests.{Tests, ◌then◌, outcome, tested}
use Rattle.refusal.proofs.Stops.{outcome_map}
use Rattle.refusal.proofs.Stages.{stage_err, stage_ok, tested_is}
use Rattle.accounting.specs.declared.Books.{Books}
use Rattle.accounting.specs.Counters.{counter_tests}
use Rattle.charge.specs.declared.Charges.{Charges}
use Rattle.charge.specs.Charge.{rest_of, least_sent, charged_on}
use Rattle.receipt.specs.declared.BooksAfter.{BooksAfter}
use Rattle.receipt.specs.Receipt.{refused_books}
use Rattle.worth.specs.declared.Worth.{Worth}
use Rattle.worth.specs.Worth.{amount_tests, worth_of}
use Rattle.worth.proofs.Answers.{worth_tests, some, worth_is}
use Rattle.liquidity.specs.Liquidity.{deposit_tests, deposited, deposit_at, deposit_after, withdraw_tests, withdrawn, withdraw_at, withdraw_after, change_after}
use Rattle.liquidity.specs.Stages.{front_tests, deposit_last, deposit_rest, withdraw_last, withdraw_rest, changed}

-- what a withdrawal pays out of a worth
abbrev paid0 : Worth → ℕ
paid0 w = min w.net0.0 w.amount0.0

abbrev paid1 : Worth → ℕ
paid1 w = min w.net1.0 w.amount1.0

-- the last stage, and what is booked past it, on a worth
abbrev pub last_tests : Bool → Worth → Charges → Books → ℕ → ℕ → ℕ → Tests
last_tests true w c b lp limit0 limit1 =
    deposit_last w.amount0.0 w.amount1.0 (least_sent c.token0 w.amount0.0) (least_sent c.token1 w.amount1.0) b lp limit0 limit1
last_tests false w c b lp limit0 limit1 = withdraw_last (rest_of c.token0 (paid0 w)) (rest_of c.token1 (paid1 w)) b lp limit0 limit1

abbrev pub booking : Bool → Worth → Charges → Books → ℕ → BooksAfter
booking true w c b lp =
    deposited w.amount0.0 w.amount1.0 (charged_on c (least_sent c.token0 w.amount0.0) (least_sent c.token1 w.amount1.0)) b lp
booking false w c b lp = withdrawn (paid0 w) (paid1 w) (charged_on c (paid0 w) (paid1 w)) b lp

abbrev pub last_stage : Bool → Worth → Charges → Books → ℕ → ℕ → ℕ → Result BooksAfter ℕ
last_stage isDeposit w c b lp limit0 limit1 = outcome (last_tests isDeposit w c b lp limit0 limit1) (λ n. Err n) (Ok (booking isDeposit w c b lp))

-- the stages one after another are the call's list
staged :
    (isDeposit : Bool) (c : Charges) (status : ℕ) (b : Books) (lp owned limit0 limit1 : ℕ)
    → outcome
    (front_tests isDeposit status lp owned then (worth_tests isDeposit b lp then last_tests isDeposit (some isDeposit b lp) c b lp limit0 limit1))
    (λ n. Err n)
    (Ok (booking isDeposit (some isDeposit b lp) c b lp))
    ≡ changed isDeposit c status b lp owned limit0 limit1
unfolding ◌then◌ counter_tests amount_tests deposit_tests withdraw_tests changed
staged true c status b lp owned limit0 limit1 = refl
staged false c status b lp owned limit0 limit1 = refl

-- the one place that makes of a refusal the books as they were
abbrev given : Books → Result BooksAfter ℕ → BooksAfter
given b (Ok after) = after
given b (Err n) = refused_books b n

answered :
    (isDeposit : Bool) (c : Charges) (status : ℕ) (b : Books) (lp owned limit0 limit1 : ℕ)
    → given b (changed isDeposit c status b lp owned limit0 limit1) ≡ change_after isDeposit c status b lp owned limit0 limit1
unfolding changed deposit_at deposit_after withdraw_at withdraw_after
answered true c status b lp owned limit0 limit1 = outcome_map (given b) _ (λ n. Err n) (Ok _)
answered false c status b lp owned limit0 limit1 = outcome_map (given b) _ (λ n. Err n) (Ok _)

module _ (isDeposit : Bool) (c : Charges) (status : ℕ) (b : Books) (lp owned limit0 limit1 : ℕ) where
  -- refused by its front
  pub front_refuses : {n : ℕ} → Err n ≡ tested (front_tests isDeposit status lp owned) → Err n ≡ changed isDeposit c status b lp owned limit0 limit1
  front_refuses {n} e =
      stage_err tt (front_tests isDeposit status lp owned) _ n (λ n. Err n) _ (sym (e ∙ tested_is _)) ∙ staged isDeposit c status b lp owned limit0 limit1

  module _ {u : Unit} (front : Ok u ≡ tested (front_tests isDeposit status lp owned)) where
    past_front :
        outcome (worth_tests isDeposit b lp then last_tests isDeposit (some isDeposit b lp) c b lp limit0 limit1) (λ n. Err n) (Ok (booking isDeposit (some isDeposit b lp) c b lp))
        ≡ changed isDeposit c status b lp owned limit0 limit1
    past_front =
        stage_ok tt (front_tests isDeposit status lp owned) _ (λ n. Err n) _ (sym (front ∙ tested_is _)) ∙ staged isDeposit c status b lp owned limit0 limit1

    -- refused by its worth
    pub worth_refuses : {n : ℕ} → Err n ≡ worth_of isDeposit b lp → Err n ≡ changed isDeposit c status b lp owned limit0 limit1
    unfolding worth_of
    worth_refuses {n} e = stage_err (some isDeposit b lp) (worth_tests isDeposit b lp) _ n (λ n. Err n) _ (sym e) ∙ past_front

    -- past both the last stage decides
    module _ {w : Worth} (of-worth : Ok w ≡ worth_of isDeposit b lp) where
      past_worth : {r : Result BooksAfter ℕ} → r ≡ last_stage isDeposit w c b lp limit0 limit1 → r ≡ changed isDeposit c status b lp owned limit0 limit1
      unfolding worth_of
      past_worth e =
          e
          ∙ ap (λ (w : Worth). last_stage isDeposit w c b lp limit0 limit1) (worth_is isDeposit b lp of-worth)
          ∙ stage_ok (some isDeposit b lp) (worth_tests isDeposit b lp) _ (λ n. Err n) _ (sym of-worth)
          ∙ past_front

      pub past_deposit :
          {r : Result BooksAfter ℕ} → isDeposit ≡ true → r ≡ deposit_rest w.amount0.0 w.amount1.0 c b lp limit0 limit1
          → r ≡ changed isDeposit c status b lp owned limit0 limit1
      past_deposit d e = past_worth (rw d e)

      pub past_withdrawal :
          {r : Result BooksAfter ℕ} {p0 p1 : ℕ} → isDeposit ≡ false → p0 ≡ paid0 w → p1 ≡ paid1 w → r ≡ withdraw_rest p0 p1 c b lp limit0 limit1
          → r ≡ changed isDeposit c status b lp owned limit0 limit1
      past_withdrawal d e0 e1 e = past_worth (rw d (rw (e0, e1) at e))

  -- the answer
  pub accepted : {after : BooksAfter} → Ok after ≡ changed isDeposit c status b lp owned limit0 limit1 → after ≡ change_after isDeposit c status b lp owned limit0 limit1
  accepted e = ap (given b) e ∙ answered isDeposit c status b lp owned limit0 limit1

  pub refused : {n : ℕ} → Err n ≡ changed isDeposit c status b lp owned limit0 limit1 → refused_books b n ≡ change_after isDeposit c status b lp owned limit0 limit1
  refused e = ap (given b) e ∙ answered isDeposit c status b lp owned limit0 limit1

-- the nets lie within the vaults
pub nets_within :
    (isDeposit : Bool) (b : Books) (lp : ℕ) {w : Worth} → Ok w ≡ worth_of isDeposit b lp → (w.net0.0 ≤ b.vault0) × (w.net1.0 ≤ b.vault1)
nets_within isDeposit b lp e =
    let s = worth_is isDeposit b lp e in
    (rw (ap (λ (w : Worth). w.net0.0) s) (omega arith), rw (ap (λ (w : Worth). w.net1.0) s) (omega arith))
