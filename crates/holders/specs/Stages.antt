-- The list as it is read for the core, and a credit and a debit as one. No public definition rests on these.
use Rattle.std.specs.Prelude.{ℕ, Bool, true, false, cond, List, [], ltb, length}
use Rattle.refusal.specs.Tests.{Tests}
use Rattle.register.specs.declared.Holder.{Holder}
use Rattle.register.specs.Holders.{most_holders}
use Rattle.holders.specs.Lent.{credit_answers, credit_leaves, debit_answers, debit_leaves}

-- of a list of over 256 entries none is read: it answers 3 as an empty one does
unfoldable pub readable : List Holder → List Holder
readable es = cond (ltb most_holders (length es)) [] es

-- a credit's, or a debit's
abbrev pub answers : Bool → ℕ → ℕ → List Holder → Tests
answers true = credit_answers
answers false = debit_answers

abbrev pub leaves : Bool → ℕ → ℕ → List Holder → List Holder
leaves true = credit_leaves
leaves false = debit_leaves
