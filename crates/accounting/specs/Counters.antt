-- Document 01: 'vault t is the whole balance of token t; net t is vault t less its protocol, fund and creator counters'.
-- A token is a Bool here: true is token 0, false is token 1.
use Rattle.std.specs.Prelude.{Result, Ok, Err, ℕ, ◌+◌, ◌-◌, Bool, true, false, [], ◌∷◌, ltb}
use Rattle.refusal.specs.Refusal.{math_overflow, insufficient_vault}
use Rattle.refusal.specs.Tests.{Tests, past, outcome}
use Rattle.accounting.specs.declared.FeeCounters.{FeeCounters}
use Rattle.accounting.specs.declared.Books.{Books}
use Rattle.accounting.specs.declared.Nets.{Nets}

-- of two things, token 0's and token 1's, that of a token
abbrev pub of_token : {A : Type 0} → Bool → A → A → A
of_token true a b = a
of_token false a b = b

abbrev pub zero_counters : FeeCounters
zero_counters = record { protocol0 = 0; protocol1 = 0; fund0 = 0; fund1 = 0; creator0 = 0; creator1 = 0 }

-- a token's counters together
abbrev pub counters0 : FeeCounters → ℕ
counters0 f = f.protocol0 + f.fund0 + f.creator0

abbrev pub counters1 : FeeCounters → ℕ
counters1 f = f.protocol1 + f.fund1 + f.creator1

-- the nets
abbrev pub net0 : Books → ℕ
net0 b = b.vault0 - counters0 b.fees

abbrev pub net1 : Books → ℕ
net1 b = b.vault1 - counters1 b.fees

-- counters' sums 8, vaults 7
unfoldable pub counter_tests : Books → Tests
counter_tests b =
    (past (counters0 b.fees), math_overflow)
    ∷ (past (counters1 b.fees), math_overflow)
    ∷ (ltb b.vault0 (counters0 b.fees), insufficient_vault)
    ∷ (ltb b.vault1 (counters1 b.fees), insufficient_vault)
    ∷ []

-- the two nets as an answer
unfoldable pub nets_answer : Books → Result Nets ℕ
nets_answer b = outcome (counter_tests b) Err (Ok (record { net0 = net0 b; net1 = net1 b }))
