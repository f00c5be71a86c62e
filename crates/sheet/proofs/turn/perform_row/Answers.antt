-- `sheet::turn::perform_row` meets its contract: rates, an opening, or a call (`Taken.antt`, `Asks.antt`).
use mathlib.Core.Path.{refl, sym, ap, ◌∙◌}
use borrow.Author.Rules.{rules}
use Rattle.std.proofs.lemmas.Result.{err_from_is_err_and}
use Rattle.rates.specs.declared.Rates.{Rates}
use Rattle.words.specs.Words.{pool_of}
use Rattle.memory.specs.Memory.{memory}
use Rattle.sheet.specs.Sheet.{Sheet, keep_rates}
use Rattle.sheet.specs.Lent.{sheet_in, turn_words}
use Rattle.sheet.proofs.Taken.{rates_refused, rates_kept, record_kept, not_called, call_taken, opening_taken}
use Rattle.sheet.proofs.Asks.{keeps_rates, opens, asks}
use Rattle.sheet.proofs.turn.perform_row.Goals as goal

pub returns-in_err-check-in-0 : goal.returns-in_err-check-in-0
returns-in_err-check-in-0 c =
    let a = c.args in
    let w = a.pool.now in
    let e = a.ring.now in
    let s : Sheet = sheet_in a.rates w e in
    let p = err_from_is_err_and c.from_residual.result c.from_residual.ensures.1 in
    rw (p.1, p.2)
    (record_kept a.rates w e c.requires a.rates _
    ∙ rates_refused a.rates c.rates_of-next.result (pool_of w) e _ (sym c.check.ensures ∙ c.in_err-check-in-0.was)
    ∙ ap (λ (next : Rates). turn_words (keep_rates s next)) c.rates_of-next.ensures
    ∙ ap turn_words (keeps_rates s a.row c.in-0.is))

pub returns-in_ok-check-in-0 : goal.returns-in_ok-check-in-0
returns-in_ok-check-in-0 c =
    let a = c.args in
    let w = a.pool.now in
    let e = a.ring.now in
    let s : Sheet = sheet_in a.rates w e in
    record_kept a.rates w e c.requires c.rates_of-next.result _
    ∙ rates_kept a.rates c.rates_of-next.result (pool_of w) e (sym c.check.ensures ∙ c.in_ok-check-in-0.was) c.refuse.ensures.1
    ∙ ap (λ (next : Rates). turn_words (keep_rates s next)) c.rates_of-next.ensures
    ∙ ap turn_words (keeps_rates s a.row c.in-0.is)

pub returns-in-1 : goal.returns-in-1
returns-in-1 c =
    let a = c.args in
    let left = c.open_on.new in
    opening_taken a.rates a.pool.now a.ring.now c.requires a.receipt.now _
    (memory c.open_on.result left.pool left.ring left.receipt) (rw c.opening_of.ensures at c.open_on.ensures)
    ∙ ap turn_words (opens (sheet_in a.rates a.pool.now a.ring.now) a.row c.in-1.is)

pub returns-then-not-is_readable : goal.returns-then-not-is_readable
returns-then-not-is_readable c =
    let a = c.args in
    let s : Sheet = sheet_in a.rates a.pool.now a.ring.now in
    not_called a.rates a.pool.now a.ring.now c.requires a.row (sym c.is_readable.ensures ∙ c.if-not-is_readable.true) refl
    ∙ ap turn_words (asks s a.row (search rules) (search rules))

pub returns-else-not-is_readable : goal.returns-else-not-is_readable
returns-else-not-is_readable c =
    let a = c.args in
    let left = c.call_for.new in
    let s : Sheet = sheet_in a.rates a.pool.now a.ring.now in
    call_taken a.rates a.pool.now a.ring.now c.requires a.receipt.now c.share_of-share.result a.row
    (memory c.call_for.result left.pool left.ring left.receipt)
    (sym c.is_readable.ensures ∙ c.if-not-is_readable.false) c.share_of-share.ensures c.call_for.ensures
    ∙ ap turn_words (asks s a.row (search rules) (search rules))
