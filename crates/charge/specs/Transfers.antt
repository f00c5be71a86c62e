-- Transfers as the calls make them, seen from one end. Forward an amount is sent, and the other end is what arrives; back an amount is to
-- arrive, and the other end is the least that is sent for it, or 14. No call's definition rests on these.
use Rattle.std.specs.Prelude.{Result, Ok, Err, ℕ, Bool, true, false, []}
use Rattle.refusal.specs.Tests.{Tests, ◌then◌, outcome}
use Rattle.charge.specs.declared.Charge.{Charge}
use Rattle.charge.specs.declared.Charges.{Charges}
use Rattle.charge.specs.declared.End.{End}
use Rattle.charge.specs.declared.Ends.{Ends}
use Rattle.charge.specs.Charge.{charge_on, rest_of, least_sent, sent_tests, charged_on}

-- what is sent
abbrev pub sent_of : Bool → Charge → ℕ → ℕ
sent_of true c n = n
sent_of false c w = least_sent c w

-- the other end
abbrev pub far_amount : Bool → Charge → ℕ → ℕ
far_amount true c n = rest_of c n
far_amount false c w = least_sent c w

-- forward no test
abbrev pub far_tests : Bool → Charge → ℕ → Tests
far_tests true c n = []
far_tests false c w = sent_tests c w

unfoldable pub transferred : Bool → Charge → ℕ → Result End ℕ
transferred forward c n =
    outcome (far_tests forward c n) Err
    (Ok (record { amount = far_amount forward c n; charge = charge_on c (sent_of forward c n) }))

-- both tokens'
unfoldable pub both_transferred : Bool → Charges → ℕ → ℕ → Result Ends ℕ
both_transferred forward c n0 n1 =
    outcome (far_tests forward c.token0 n0 then far_tests forward c.token1 n1) Err
    (Ok (record {
      amount0 = far_amount forward c.token0 n0;
      amount1 = far_amount forward c.token1 n1;
      charged = charged_on c (sent_of forward c.token0 n0) (sent_of forward c.token1 n1);
    }))
