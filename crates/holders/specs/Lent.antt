-- What a credit and a debit by themselves answer, and the list that they leave: 'a refused call leaves the list unchanged'.
use Rattle.std.specs.Prelude.{ℕ, List}
use Rattle.refusal.specs.Tests.{Tests, ◌then◌, outcome}
use Rattle.register.specs.declared.Holder.{Holder}
use Rattle.register.specs.Changes.{register_tests, credit_tests, credited, debit_tests, debited}

unfoldable pub credit_answers : ℕ → ℕ → List Holder → Tests
credit_answers k amount es = register_tests k es then credit_tests k amount es

unfoldable pub credit_leaves : ℕ → ℕ → List Holder → List Holder
credit_leaves k amount es = outcome (credit_answers k amount es) (λ n. es) (credited k amount es)

unfoldable pub debit_answers : ℕ → ℕ → List Holder → Tests
debit_answers k amount es = register_tests k es then debit_tests k amount es

unfoldable pub debit_leaves : ℕ → ℕ → List Holder → List Holder
debit_leaves k amount es = outcome (debit_answers k amount es) (λ n. es) (debited k amount es)
