-- Document 01, the booking of a swap: 'A swap's protocol and fund fee are added to those counters of its input token,
-- its creator fee to the creator counter of that fee's token.'
use Rattle.std.specs.Prelude.{Result, Ok, Err, ℕ, ◌+◌, Bool, true, false, not, cond, [], ◌∷◌}
use Rattle.refusal.specs.Refusal.{panicked}
use Rattle.refusal.specs.Tests.{Tests, past, outcome}
use Rattle.accounting.specs.declared.FeeCounters.{FeeCounters}
use Rattle.accounting.specs.Counters.{of_token}

-- the creator fee's token: the input's, or the output's where the fee is on output
abbrev pub creator_token : Bool → Bool → Bool
creator_token true zeroIn = zeroIn
creator_token false zeroIn = not zeroIn

-- a fee to the counters of one token or the other
abbrev pub to0 : Bool → ℕ → ℕ → ℕ
to0 token counter fee = cond token (counter + fee) counter

abbrev pub to1 : Bool → ℕ → ℕ → ℕ
to1 token counter fee = cond token counter (counter + fee)

unfoldable pub booked : Bool → Bool → ℕ → ℕ → ℕ → FeeCounters → FeeCounters
booked inToken feeToken protocol fund creator f = record {
  protocol0 = to0 inToken f.protocol0 protocol;
  protocol1 = to1 inToken f.protocol1 protocol;
  fund0 = to0 inToken f.fund0 fund;
  fund1 = to1 inToken f.fund1 fund;
  creator0 = to0 feeToken f.creator0 creator;
  creator1 = to1 feeToken f.creator1 creator;
}

-- a counter past u64, 11: the three counters, and the fees that go to them
unfoldable pub past_tests : ℕ → ℕ → ℕ → ℕ → ℕ → ℕ → Tests
past_tests counterProtocol counterFund counterCreator protocol fund creator =
    (past (counterProtocol + protocol), panicked)
    ∷ (past (counterFund + fund), panicked)
    ∷ (past (counterCreator + creator), panicked)
    ∷ []

unfoldable pub booking_tests : Bool → Bool → ℕ → ℕ → ℕ → FeeCounters → Tests
booking_tests inToken feeToken protocol fund creator f =
    past_tests
    (of_token inToken f.protocol0 f.protocol1)
    (of_token inToken f.fund0 f.fund1)
    (of_token feeToken f.creator0 f.creator1)
    protocol fund creator

-- the counters after it as an answer
unfoldable pub booking_answer : Bool → Bool → ℕ → ℕ → ℕ → FeeCounters → Result FeeCounters ℕ
booking_answer inToken feeToken protocol fund creator f =
    outcome (booking_tests inToken feeToken protocol fund creator f) Err (Ok (booked inToken feeToken protocol fund creator f))
