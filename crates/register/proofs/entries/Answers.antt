-- `register::entries` meets its contract.
use Rattle.std.proofs.Common.{sym, ap, ◌∙◌, eqb-true}
use borrow.Author.Tests.{eqb-false}
use Rattle.register.specs.Numbers.{holders_of}
use Rattle.register.proofs.Pairs.{arrays_even, odd_none}
use Rattle.register.proofs.entries.Goals as goal

pub returns-then-is_empty : goal.returns-then-is_empty
returns-then-is_empty c =
    ap holders_of c.as_chunks.ensures.front
    ∙ arrays_even c.args.numbers.now (sym c.as_chunks.ensures.back_len ∙ eqb-true _ 0 (sym c.is_empty.ensures ∙ c.if-is_empty.true))

pub returns-else-is_empty : goal.returns-else-is_empty
returns-else-is_empty c =
    sym (odd_none c.args.numbers.now (λ even. eqb-false _ 0 (sym c.is_empty.ensures ∙ c.if-is_empty.false) (c.as_chunks.ensures.back_len ∙ even)))
