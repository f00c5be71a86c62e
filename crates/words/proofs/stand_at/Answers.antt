-- `words::stand_at` meets its contract.
use Rattle.std.proofs.Common.{◌∙◌, ap}
use Rattle.std.proofs.lemmas.List.{take_rest}
use native.Mathlib.Omega.{arith}
use Rattle.words.specs.Words.{begins_with}
use Rattle.words.proofs.Rows.{begins_is, past_row}
use Rattle.words.proofs.stand_at.Goals as goal

pub returns-in-Some : goal.returns-in-Some
returns-in-Some c =
    let a = c.args in
    c.starts_with.ensures.value
    ∙ begins_is _ _
    ∙ ap (λ l. begins_with l a.found.now) (c.in-Some.ensures.lookup.0.2 ∙ take_rest a.row.now a.at)

pub returns-in-None : goal.returns-in-None
returns-in-None c = c.is_empty.ensures ∙ past_row c.args.row.now c.args.found.now c.args.at (omega (arith, c.in-None.ensures.lookup))
