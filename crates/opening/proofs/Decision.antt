-- A refusal becomes the refused opening, whichever test it comes from.
-- Assumes nothing.
use Prim.Native.Nat.{ℕ}
use mathlib.Core.Path.{◌≡◌, ap, ◌∙◌}
use Rattle.std.specs.Prelude.{Result, Ok, Err}
use Rattle.refusal.proofs.Stops.{outcome_map}
use Rattle.opening.specs.declared.Opening.{Opening}
use Rattle.opening.specs.declared.OpeningAfter.{OpeningAfter}
use Rattle.opening.specs.Opening.{opening_tests, refused_opening, opening_after}
use Rattle.opening.specs.Stages.{opened}

abbrev given : Result OpeningAfter ℕ → OpeningAfter
given (Ok after) = after
given (Err n) = refused_opening n

answered : (o : Opening) → given (opened o) ≡ opening_after o
unfolding opening_after opened
answered o = outcome_map given (opening_tests o) (λ n. Err n) (Ok _)

pub accepted : (o : Opening) {after : OpeningAfter} → Ok after ≡ opened o → after ≡ opening_after o
accepted o e = ap given e ∙ answered o

pub refused : (o : Opening) {n : ℕ} → Err n ≡ opened o → refused_opening n ≡ opening_after o
refused o e = ap given e ∙ answered o
