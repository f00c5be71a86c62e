-- `holders::enter_opener` meets its contract.
use Rattle.std.proofs.Common.{sym, ◌∙◌, eqb-true, rules}
use borrow.Author.Tests.{eqb-false}
use Rattle.holders.proofs.Reading.{opener_first, opener_nowhere}
use Rattle.holders.proofs.enter_opener.Goals as goal

pub returns-then-not-is_empty : goal.returns-then-not-is_empty
returns-then-not-is_empty c =
    opener_first c.args.opener c.args.holders.now c.fill.new.self (c.fill.ensures.after (search rules))
    (eqb-false _ 0 (sym c.is_empty.ensures ∙ c.if-not-is_empty.true))

pub returns-else-not-is_empty : goal.returns-else-not-is_empty
returns-else-not-is_empty c =
    opener_nowhere c.args.opener c.args.holders.now c.fill.new.self (c.fill.ensures.after (search rules))
    (eqb-true _ 0 (sym c.is_empty.ensures ∙ c.if-not-is_empty.false))
