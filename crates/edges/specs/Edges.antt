-- Document 01, 'Edges': the starred ones and the worked day, with what document 02 (a) makes of one, the answers that 02 (b) changes, pools whose
-- tokens carry charges (02 (c)), withdrawals about the locked 100 (02 (e)), the ring's spacing and length (02 (f)), and calls with a register
-- (02 (g)), in one table. Each row is an opening, what is asked of its pool, and what must come out.
use Rattle.std.specs.Prelude.{ℕ, ◌+◌, ◌-◌, ◌≡◌, List, [], ◌∷◌, ◌++◌, length, get_or, replicate}
use Rattle.refusal.specs.Tests.{u64_max}
use Rattle.rates.specs.declared.Rates.{Rates}
use Rattle.charge.specs.declared.Charges.{Charges}
use Rattle.charge.specs.Charge.{no_charges}
use Rattle.oracle.specs.declared.Grid.{Grid}
use Rattle.oracle.specs.Ring.{entry_at}
use Rattle.curve.specs.declared.constant_product.LpTokens.{LpTokens}
use Rattle.curve.specs.ConstantProduct.{tokens}
use Rattle.register.specs.declared.Holder.{Holder}
use Rattle.register.specs.Holders.{zero_holder}
use Rattle.pool.specs.State.{Done, net0, net1}
use Rattle.opening.specs.declared.Opening.{Opening}
use Rattle.pool.specs.Calls.{opening}
use Rattle.calls.specs.declared.Call.{Call}
use Rattle.calls.specs.declared.Call.TheVariants.{SwapBaseInput, SwapBaseOutput, Deposit, Withdraw, SetStatus}
use Rattle.calls.specs.Next.{State, left, next}
use Rattle.calls.specs.Registered.{Registered, deposit, withdraw, Entered, next_with, opening_with}
use Rattle.sheet.specs.Sheet.{day_grid}

pub data Asked : Type 0 where
  itself : Asked
  -- a call after others
  following : List Call → Call → Asked
  -- the opening itself by a holder of a register; a deposit or a withdrawal with the register after others
  itself_with : List Holder → ℕ → Asked
  following_with : List Holder → ℕ → List Registered → Registered → Asked
  -- one on a list made by hand, after calls without a register
  on_list : List Holder → List Call → Registered → Asked

abbrev call : Call → Asked
call c = following [] c

-- a call once this bit of the status is set
abbrev closed : ℕ → Call → Asked
closed bit c = following (SetStatus bit 1 ∷ []) c

-- what the documents speak of
pub data Field : Type 0 where
  number : Field
  paid_in0 : Field
  paid_in1 : Field
  paid_out0 : Field
  paid_out1 : Field
  charge0 : Field
  charge1 : Field
  trade_fee : Field
  protocol_fee : Field
  fund_fee : Field
  creator_fee : Field
  from_curve1 : Field
  net_after0 : Field
  net_after1 : Field
  supply_after : Field
  -- of the ring: its index and mark, and an entry's clock and sums
  ring_index : Field
  ring_mark : Field
  clock_at : ℕ → Field
  sum0_at : ℕ → Field
  sum1_at : ℕ → Field
  -- of the register: its length, and an entry's number and balance
  holders_count : Field
  holder_at : ℕ → Field
  balance_at : ℕ → Field

pub record Edge : Type 0 where
  pub opens : Opening
  pub asked : Asked
  pub out : List (Field × ℕ)

-- ---- what comes out
-- the point after some calls
abbrev pub point_after : State → List Call → State
point_after s [] = s
point_after s (c ∷ cs) = point_after (left (next s c)) cs

-- a call without a register has no list
abbrev pub without : Done → Entered
without d = record { given = d; holders = [] }

-- one with a register gets pool, ring and list as the one before left them
abbrev pub entered_at : Entered → Registered → Entered
entered_at e c = next_with (left e.given) e.holders c

abbrev pub entered_after : Entered → List Registered → Entered
entered_after e [] = e
entered_after e (c ∷ cs) = entered_after (entered_at e c) cs

abbrev pub answer : Opening → Asked → Entered
answer o itself = without (opening o)
answer o (following before c) = without (next (point_after (left (opening o)) before) c)
answer o (itself_with es holder) = opening_with o es holder
answer o (following_with es holder before c) = entered_at (entered_after (opening_with o es holder) before) c
answer o (on_list es before c) = next_with (point_after (left (opening o)) before) es c

abbrev pub shown : Field → Entered → ℕ
shown number e = e.given.after.receipt.number
shown paid_in0 e = e.given.after.receipt.paid.in0
shown paid_in1 e = e.given.after.receipt.paid.in1
shown paid_out0 e = e.given.after.receipt.paid.out0
shown paid_out1 e = e.given.after.receipt.paid.out1
shown charge0 e = e.given.after.receipt.charged.charge0
shown charge1 e = e.given.after.receipt.charged.charge1
shown trade_fee e = e.given.after.receipt.trade.trade_fee
shown protocol_fee e = e.given.after.receipt.trade.protocol_fee
shown fund_fee e = e.given.after.receipt.trade.fund_fee
shown creator_fee e = e.given.after.receipt.trade.creator_fee
-- what the curve gave, a creator fee on the output not yet taken
shown from_curve1 e = e.given.after.receipt.paid.out1 + e.given.after.receipt.trade.creator_fee
shown net_after0 e = net0 e.given.after.pool
shown net_after1 e = net1 e.given.after.pool
shown supply_after e = e.given.after.pool.books.supply
shown ring_index e = e.given.after.pool.ring.index
shown ring_mark e = e.given.after.pool.ring.mark
shown (clock_at i) e = (entry_at e.given.entries i).clock
shown (sum0_at i) e = (entry_at e.given.entries i).sum0
shown (sum1_at i) e = (entry_at e.given.entries i).sum1
shown holders_count e = length e.holders
shown (holder_at i) e = (get_or e.holders i zero_holder).number
shown (balance_at i) e = (get_or e.holders i zero_holder).balance

-- what a row's fields show, and what they must show
abbrev pub found : Entered → List (Field × ℕ) → List ℕ
found e [] = []
found e (f ∷ fs) = shown f.0 e ∷ found e fs

abbrev pub wanted : List (Field × ℕ) → List ℕ
wanted [] = []
wanted (f ∷ fs) = f.1 ∷ wanted fs

abbrev pub all_found : List Edge → List (List ℕ)
all_found [] = []
all_found (e ∷ es) = found (answer e.opens e.asked) e.out ∷ all_found es

abbrev pub all_wanted : List Edge → List (List ℕ)
all_wanted [] = []
all_wanted (e ∷ es) = wanted e.out ∷ all_wanted es

-- ---- the table
abbrev trade_and_creator : ℕ → ℕ → Rates
trade_and_creator trade creator = record { trade = trade; protocol = 120000; fund = 40000; creator = creator; share = 0 }

abbrev day_rates : ℕ → Rates
day_rates creator = trade_and_creator 2500 creator

abbrev open_with : ℕ → ℕ → ℕ → ℕ → ℕ → Rates → Charges → Grid → Opening
open_with amount0 amount1 model enabled time rates charges grid = record {
  amount0 = amount0;
  amount1 = amount1;
  model = model;
  enabled = enabled;
  open_time = time;
  rates = rates;
  charges = charges;
  grid = grid;
}

-- 1,000,000 by 4,000,000, open for swaps from this clock on
abbrev open_from : ℕ → ℕ → ℕ → Rates → Opening
open_from time model enabled rates = open_with 1000000 4000000 model enabled time rates no_charges day_grid

abbrev day : ℕ → ℕ → Rates → Opening
day = open_from 0

abbrev worked : Opening
worked = day 0 0 (day_rates 0)

abbrev square : ℕ → Opening
square amount = open_with amount amount 0 0 0 (day_rates 0) no_charges day_grid

-- the worked opening, with charges: points and maximum of token 0, then of token 1
abbrev charging : ℕ → ℕ → ℕ → ℕ → Opening
charging points0 maximum0 points1 maximum1 =
    open_with 1000000 4000000 0 0 0 (day_rates 0)
    (record { token0 = record { points = points0; maximum = maximum0 }; token1 = record { points = points1; maximum = maximum1 } })
    day_grid

-- token 0 at 100 points with maximum 50, token 1 at 25 points with maximum 2^64 − 1, which caps nothing
abbrev prize : Opening
prize = charging 100 50 25 u64_max

-- amounts, model, and the ring's spacing and length
abbrev spaced_on : ℕ → ℕ → ℕ → ℕ → ℕ → Opening
spaced_on amount0 amount1 model spacing length = open_with amount0 amount1 model 0 0 (day_rates 0) no_charges (record { spacing = spacing; length = length })

-- the worked opening, with a spacing and a length
abbrev spaced : ℕ → ℕ → Opening
spaced = spaced_on 1000000 4000000 0

-- the worked swap, at a clock
abbrev worked_swap : ℕ → Call
worked_swap clock = SwapBaseInput 0 10000 1 clock

abbrev lp : ℕ → LpTokens
lp n = record { 0 = n }

-- an entry of a register; a list of n entries of zeros
abbrev holder : ℕ → ℕ → Holder
holder k balance = record { number = k; balance = balance }

abbrev fresh : ℕ → List Holder
fresh n = replicate n zero_holder

-- a deposit and a withdrawal of so much LP by a holder, whatever it costs or gives
abbrev deposits : ℕ → ℕ → Registered
deposits amount k = deposit k amount u64_max u64_max

abbrev withdraws : ℕ → ℕ → Registered
withdraws amount k = withdraw k amount 0 0

-- the worked opening by holder 7 on a list of 3, and then calls in turn
abbrev turn : List Registered → Registered → Asked
turn before c = following_with (fresh 3) 7 before c

-- what the three entries hold
abbrev three : ℕ → Holder → Holder → Holder → List (Field × ℕ)
three n a b c =
    (number, n)
    ∷ (holders_count, 3)
    ∷ (holder_at 0, a.number)
    ∷ (balance_at 0, a.balance)
    ∷ (holder_at 1, b.number)
    ∷ (balance_at 1, b.balance)
    ∷ (holder_at 2, c.number)
    ∷ (balance_at 2, c.balance)
    ∷ []

-- the first calls of the worked example, one to nine, those that are refused among them
abbrev turns1 : List Registered
turns1 = deposits 1000 8 ∷ []

abbrev turns2 : List Registered
turns2 = turns1 ++ (deposits 500 9 ∷ [])

abbrev turns3 : List Registered
turns3 = turns2 ++ (deposits 500 10 ∷ [])

abbrev turns4 : List Registered
turns4 = turns3 ++ (withdraws 1000 8 ∷ [])

abbrev turns5 : List Registered
turns5 = turns4 ++ (withdraws 1 8 ∷ [])

abbrev turns6 : List Registered
turns6 = turns5 ++ (deposits 500 10 ∷ [])

abbrev turns7 : List Registered
turns7 = turns6 ++ (deposits 5 8 ∷ [])

abbrev turns8 : List Registered
turns8 = turns7 ++ (withdraws 500 10 ∷ [])

abbrev turns9 : List Registered
turns9 = turns8 ++ (deposits 5 8 ∷ [])

abbrev edge : Opening → Asked → List (Field × ℕ) → Edge
edge o a out = record { opens = o; asked = a; out = out }

unfoldable pub edges : List Edge
edges =
    -- the worked day
    edge worked itself ((number, 0) ∷ (net_after0, 1000000) ∷ (net_after1, 4000000) ∷ (supply_after, 2000000) ∷ [])
    ∷ edge worked (call (SwapBaseInput 0 10000 1 100))
    ((number, 0) ∷ (paid_in0, 10000) ∷ (paid_out1, 39505) ∷ (net_after0, 1009996) ∷ (net_after1, 3960495) ∷ (supply_after, 2000000) ∷ [])
    -- by output 39,505 costs 10,000; 4,000,000 is 11
    ∷ edge worked (call (SwapBaseOutput 0 39505 10000 100)) ((number, 0) ∷ (paid_in0, 10000) ∷ (paid_out1, 39505) ∷ [])
    ∷ edge worked (call (SwapBaseOutput 0 4000000 10000 100)) ((number, 11) ∷ [])
    -- input 1 is 10; fee on 2 is 1
    ∷ edge worked (call (SwapBaseInput 0 1 0 100)) ((number, 10) ∷ [])
    ∷ edge worked (call (SwapBaseInput 0 2 0 100)) ((number, 0) ∷ (trade_fee, 1) ∷ [])
    -- deposit LP 1 is 4, 3 takes 2 and 6; withdrawal of 3 gives 1 and 6
    ∷ edge worked (call (Deposit (lp 1) (tokens 100) (tokens 100))) ((number, 4) ∷ [])
    ∷ edge worked (call (Deposit (lp 3) (tokens 100) (tokens 100))) ((number, 0) ∷ (paid_in0, 2) ∷ (paid_in1, 6) ∷ [])
    ∷ edge worked (call (Withdraw (lp 3) (lp 2000000) (tokens 0) (tokens 0))) ((number, 0) ∷ (paid_out0, 1) ∷ (paid_out1, 6) ∷ [])
    -- enabled creator rate 1,000: 10,000 in pays creator 10, trade 25; model 2, token 0 in: curve 39,505, creator 40, out 39,465
    ∷ edge (day 0 1 (day_rates 1000)) (call (SwapBaseInput 0 10000 1 100)) ((number, 0) ∷ (creator_fee, 10) ∷ (trade_fee, 25) ∷ [])
    ∷ edge (day 2 1 (day_rates 1000)) (call (SwapBaseInput 0 10000 1 100)) ((number, 0) ∷ (from_curve1, 39505) ∷ (creator_fee, 40) ∷ (paid_out1, 39465) ∷ [])
    -- opening 100 by 100 is 13, 101 by 101 accepted
    ∷ edge (square 100) itself ((number, 13) ∷ [])
    ∷ edge (square 101) itself ((number, 0) ∷ [])
    -- trade + creator 999,999 passes, 1,000,000 is 3
    ∷ edge (day 0 0 (trade_and_creator 999999 0)) itself ((number, 0) ∷ [])
    ∷ edge (day 0 0 (trade_and_creator 999999 1)) itself ((number, 3) ∷ [])
    -- trade and creator rate 0, fee on input: accepted (02 (a)), all fees 0; by output the input is what the curve asks
    ∷ edge (day 0 0 (trade_and_creator 0 0)) (call (SwapBaseInput 0 10000 1 100))
    ((number, 0) ∷ (paid_in0, 10000) ∷ (paid_out1, 39603) ∷ (trade_fee, 0) ∷ (protocol_fee, 0) ∷ (fund_fee, 0) ∷ (creator_fee, 0) ∷ (net_after0, 1010000) ∷ (net_after1, 3960397) ∷ [])
    ∷ edge (day 0 0 (trade_and_creator 0 0)) (call (SwapBaseOutput 0 39603 10000 100))
    ((number, 0) ∷ (paid_in0, 10000) ∷ (paid_out1, 39603) ∷ (trade_fee, 0) ∷ (protocol_fee, 0) ∷ (fund_fee, 0) ∷ (creator_fee, 0) ∷ (net_after0, 1010000) ∷ (net_after1, 3960397) ∷ [])
    -- closed comes before nothing (02 (b)): by output of 0, by status and by open time; deposit of LP 0; withdrawal of LP 0 and of more than the owner's
    ∷ edge worked (closed 2 (SwapBaseOutput 0 0 10000 100)) ((number, 1) ∷ [])
    ∷ edge (open_from 101 0 0 (day_rates 0)) (call (SwapBaseOutput 0 0 10000 100)) ((number, 1) ∷ [])
    ∷ edge worked (closed 0 (Deposit (lp 0) (tokens 100) (tokens 100))) ((number, 1) ∷ [])
    ∷ edge worked (closed 1 (Withdraw (lp 0) (lp 2000000) (tokens 0) (tokens 0))) ((number, 1) ∷ [])
    ∷ edge worked (closed 1 (Withdraw (lp 3) (lp 2) (tokens 0) (tokens 0))) ((number, 1) ∷ [])
    -- charges (02 (c)). By input 10,000: 9,950 arrive; 39,309 leave, of which 39,210 are received
    ∷ edge prize (call (SwapBaseInput 0 10000 39210 100)) ((number, 0) ∷ (paid_in0, 9950) ∷ (charge0, 50) ∷ (paid_out1, 39309) ∷ (charge1, 99) ∷ [])
    ∷ edge prize (call (SwapBaseInput 0 10000 39211 100)) ((number, 2) ∷ [])
    -- by output 39,210: 39,309 leave, 9,950 arrive, 10,000 are sent; no u64 leaves 2^64 − 1
    ∷ edge prize (call (SwapBaseOutput 0 39210 10000 100)) ((number, 0) ∷ (paid_in0, 9950) ∷ (charge0, 50) ∷ (paid_out1, 39309) ∷ (charge1, 99) ∷ [])
    ∷ edge prize (call (SwapBaseOutput 0 39210 9999 100)) ((number, 2) ∷ [])
    ∷ edge prize (call (SwapBaseOutput 0 u64_max u64_max 100)) ((number, 14) ∷ [])
    -- of 1 nothing arrives; where the direction is unknown the amount itself is looked at
    ∷ edge prize (call (SwapBaseInput 0 1 0 100)) ((number, 10) ∷ [])
    ∷ edge prize (call (SwapBaseInput 2 1 0 100)) ((number, 5) ∷ [])
    ∷ edge prize (call (SwapBaseInput 2 0 0 100)) ((number, 10) ∷ [])
    -- deposit and withdrawal of 10,000 LP
    ∷ edge prize (call (Deposit (lp 10000) (tokens 5050) (tokens 20051))) ((number, 0) ∷ (paid_in0, 5000) ∷ (charge0, 50) ∷ (paid_in1, 20000) ∷ (charge1, 51) ∷ [])
    ∷ edge prize (call (Withdraw (lp 10000) (lp 2000000) (tokens 4950) (tokens 19950))) ((number, 0) ∷ (paid_out0, 5000) ∷ (charge0, 50) ∷ (paid_out1, 20000) ∷ (charge1, 50) ∷ [])
    -- points 9,999 open, 10,000 is 3
    ∷ edge (charging 9999 0 9999 0) itself ((number, 0) ∷ (charge0, 0) ∷ (charge1, 0) ∷ [])
    ∷ edge (charging 10000 0 0 0) itself ((number, 3) ∷ [])
    ∷ edge (charging 0 0 10000 0) itself ((number, 3) ∷ [])
    -- the least sent, out of the vault, for 10: 100,000 at 9,999 points, 11 at 1 point, 15 at 9,999 points with maximum 5
    ∷ edge (charging 0 0 9999 u64_max) (call (SwapBaseOutput 0 10 u64_max 100)) ((number, 0) ∷ (paid_out1, 100000) ∷ (charge1, 99990) ∷ [])
    ∷ edge (charging 0 0 1 u64_max) (call (SwapBaseOutput 0 10 u64_max 100)) ((number, 0) ∷ (paid_out1, 11) ∷ (charge1, 1) ∷ [])
    ∷ edge (charging 0 0 9999 5) (call (SwapBaseOutput 0 10 u64_max 100)) ((number, 0) ∷ (paid_out1, 15) ∷ (charge1, 5) ∷ [])
    -- the hundred that stays (02 (e)): a withdrawal of 1,999,900 leaves 100; one LP more, and all of them, are 15; more than there are is 11
    ∷ edge worked (call (Withdraw (lp 1999900) (lp 1999900) (tokens 999950) (tokens 3999800)))
    ((number, 0) ∷ (paid_out0, 999950) ∷ (paid_out1, 3999800) ∷ (net_after0, 50) ∷ (net_after1, 200) ∷ (supply_after, 100) ∷ [])
    ∷ edge worked (call (Withdraw (lp 1999901) (lp 1999901) (tokens 0) (tokens 0))) ((number, 15) ∷ (supply_after, 2000000) ∷ [])
    ∷ edge worked (call (Withdraw (lp 2000000) (lp 2000000) (tokens 0) (tokens 0))) ((number, 15) ∷ [])
    ∷ edge worked (call (Withdraw (lp 2000001) (lp 2000001) (tokens 0) (tokens 0))) ((number, 11) ∷ [])
    -- a minimum that is not met comes first
    ∷ edge worked (call (Withdraw (lp 1999901) (lp 1999901) (tokens 999951) (tokens 0))) ((number, 2) ∷ [])
    -- of 101 by 101 the opener gets 1: a withdrawal of 1 leaves 100, of 2 is 15
    ∷ edge (square 101) (call (Withdraw (lp 1) (lp 1) (tokens 1) (tokens 1))) ((number, 0) ∷ (net_after0, 100) ∷ (net_after1, 100) ∷ (supply_after, 100) ∷ [])
    ∷ edge (square 101) (call (Withdraw (lp 2) (lp 2) (tokens 0) (tokens 0))) ((number, 15) ∷ [])
    -- the ring's spacing and length (02 (f)): 1 to 3,600 seconds, 2 to 100 entries, else 3
    ∷ edge (spaced 1 2) itself ((number, 0) ∷ [])
    ∷ edge (spaced 3600 100) itself ((number, 0) ∷ [])
    ∷ edge (spaced 0 2) itself ((number, 3) ∷ [])
    ∷ edge (spaced 3601 100) itself ((number, 3) ∷ [])
    ∷ edge (spaced 1 1) itself ((number, 3) ∷ [])
    ∷ edge (spaced 3600 101) itself ((number, 3) ∷ [])
    -- after 9, before 13
    ∷ edge (spaced_on 1000000 4000000 3 0 101) itself ((number, 9) ∷ [])
    ∷ edge (spaced_on 100 100 0 0 100) itself ((number, 3) ∷ [])
    ∷ edge (spaced_on 100 100 0 15 101) itself ((number, 3) ∷ [])
    -- after clock 100 at spacing 15, a swap at 114 overwrites and at 115 advances
    ∷ edge worked (following (worked_swap 100 ∷ []) (worked_swap 114))
    ((number, 0) ∷ (ring_index, 0) ∷ (ring_mark, 114) ∷ (clock_at 0, 100) ∷ (sum0_at 0, 235785835796) ∷ (sum1_at 0, 15334092592) ∷ (clock_at 1, 0) ∷ [])
    ∷ edge worked (following (worked_swap 100 ∷ []) (worked_swap 115))
    ((number, 0) ∷ (ring_index, 1) ∷ (ring_mark, 115) ∷ (clock_at 0, 100) ∷ (sum0_at 0, 0) ∷ (clock_at 1, 115) ∷ (sum0_at 1, 252627681210) ∷ (sum1_at 1, 16429384920) ∷ [])
    -- likewise at spacing 3,600: at 3,699 and at 3,700
    ∷ edge (spaced 3600 2) (following (worked_swap 100 ∷ []) (worked_swap 3699)) ((number, 0) ∷ (ring_index, 0) ∷ (clock_at 0, 100) ∷ (sum0_at 0, 60613801644986) ∷ (clock_at 1, 0) ∷ [])
    ∷ edge (spaced 3600 2) (following (worked_swap 100 ∷ []) (worked_swap 3700)) ((number, 0) ∷ (ring_index, 1) ∷ (clock_at 0, 100) ∷ (clock_at 1, 3700) ∷ (sum0_at 1, 60630643490400) ∷ [])
    -- at length 2 the third entry is written at index 0; likewise at spacing 1, the swaps a second apart
    ∷ edge (spaced 15 2) (following (worked_swap 100 ∷ worked_swap 115 ∷ []) (worked_swap 130))
    ((number, 0) ∷ (ring_index, 0) ∷ (clock_at 0, 130) ∷ (sum0_at 0, 500333209695) ∷ (sum1_at 0, 33185237895) ∷ (clock_at 1, 115) ∷ (clock_at 2, 0) ∷ [])
    ∷ edge (spaced 1 2) (following (worked_swap 100 ∷ worked_swap 101 ∷ []) (worked_swap 102))
    ((number, 0) ∷ (ring_index, 0) ∷ (clock_at 0, 102) ∷ (sum0_at 0, 33355547313) ∷ (sum1_at 0, 2212349193) ∷ (clock_at 1, 101) ∷ (clock_at 2, 0) ∷ [])
    -- the register of holders (02 (g)), its worked example: the opener is entered first, with the supply less the locked 100
    ∷ edge worked (itself_with (fresh 3) 7) ((supply_after, 2000000) ∷ three 0 (holder 7 1999900) zero_holder zero_holder)
    ∷ edge worked (turn [] (deposits 1000 8)) ((supply_after, 2001000) ∷ three 0 (holder 7 1999900) (holder 8 1000) zero_holder)
    ∷ edge worked (turn turns1 (deposits 500 9)) ((supply_after, 2001500) ∷ three 0 (holder 7 1999900) (holder 8 1000) (holder 9 500))
    -- every entry has a balance, and holder 10 is new: 16
    ∷ edge worked (turn turns2 (deposits 500 10)) ((supply_after, 2001500) ∷ three 16 (holder 7 1999900) (holder 8 1000) (holder 9 500))
    -- an entry whose balance falls to 0 keeps its number, and is free for anyone
    ∷ edge worked (turn turns3 (withdraws 1000 8)) ((supply_after, 2000500) ∷ three 0 (holder 7 1999900) (holder 8 0) (holder 9 500))
    ∷ edge worked (turn turns4 (withdraws 1 8)) ((supply_after, 2000500) ∷ three 10 (holder 7 1999900) (holder 8 0) (holder 9 500))
    ∷ edge worked (turn turns5 (deposits 500 10)) ((supply_after, 2001000) ∷ three 0 (holder 7 1999900) (holder 10 500) (holder 9 500))
    ∷ edge worked (turn turns6 (deposits 5 8)) ((supply_after, 2001000) ∷ three 16 (holder 7 1999900) (holder 10 500) (holder 9 500))
    ∷ edge worked (turn turns7 (withdraws 500 10)) ((supply_after, 2000500) ∷ three 0 (holder 7 1999900) (holder 10 0) (holder 9 500))
    ∷ edge worked (turn turns8 (deposits 5 8)) ((supply_after, 2000505) ∷ three 0 (holder 7 1999900) (holder 8 5) (holder 9 500))
    ∷ edge worked (turn turns9 (withdraws 5 0)) ((supply_after, 2000505) ∷ three 3 (holder 7 1999900) (holder 8 5) (holder 9 500))
    -- a holder's entry is the one with his balance, whatever is free before it; a new one takes the first entry of balance 0, not the one of his number
    ∷ edge worked (on_list (holder 7 0 ∷ holder 8 0 ∷ holder 7 5 ∷ []) [] (deposits 500 7)) (three 0 (holder 7 0) (holder 8 0) (holder 7 505))
    ∷ edge worked (on_list (holder 8 0 ∷ holder 8 5 ∷ holder 9 1 ∷ []) [] (withdraws 5 8)) (three 0 (holder 8 0) (holder 8 0) (holder 9 1))
    ∷ edge worked (on_list (holder 7 5 ∷ holder 9 0 ∷ holder 8 0 ∷ []) [] (deposits 500 8)) (three 0 (holder 7 5) (holder 8 500) (holder 8 0))
    -- no entry, 1, 256 and 257: 3 for none and for more than 256
    ∷ edge worked (on_list [] [] (deposits 500 8)) ((number, 3) ∷ (holders_count, 0) ∷ [])
    ∷ edge worked (on_list (fresh 1) [] (deposits 500 8)) ((number, 0) ∷ (holders_count, 1) ∷ (holder_at 0, 8) ∷ (balance_at 0, 500) ∷ [])
    ∷ edge worked (on_list (fresh 255 ++ (holder 8 1 ∷ [])) [] (deposits 500 8))
    ((number, 0) ∷ (holders_count, 256) ∷ (holder_at 0, 0) ∷ (holder_at 255, 8) ∷ (balance_at 255, 501) ∷ [])
    ∷ edge worked (on_list (fresh 257) [] (deposits 500 8)) ((number, 3) ∷ (holders_count, 257) ∷ (balance_at 0, 0) ∷ [])
    -- a number 0 or a number twice is 3 only among entries with a balance; a holder 0 is 3
    ∷ edge worked (on_list (holder 0 1 ∷ zero_holder ∷ zero_holder ∷ []) [] (deposits 500 8)) (three 3 (holder 0 1) zero_holder zero_holder)
    ∷ edge worked (on_list (holder 9 1 ∷ holder 9 1 ∷ zero_holder ∷ []) [] (deposits 500 8)) (three 3 (holder 9 1) (holder 9 1) zero_holder)
    ∷ edge worked (on_list (holder 9 1 ∷ holder 9 0 ∷ zero_holder ∷ []) [] (deposits 500 8)) (three 0 (holder 9 1) (holder 8 500) zero_holder)
    ∷ edge worked (on_list (holder 9 1 ∷ holder 9 1 ∷ holder 8 5 ∷ []) [] (withdraws 5 8)) (three 3 (holder 9 1) (holder 9 1) (holder 8 5))
    ∷ edge worked (on_list (fresh 1) [] (deposits 500 0)) ((number, 3) ∷ [])
    -- 3 first: before closed, and before an opening's own 6; its old entries are tested too
    ∷ edge worked (on_list [] (SetStatus 0 1 ∷ []) (deposits 0 8)) ((number, 3) ∷ [])
    ∷ edge worked (on_list (fresh 1) (SetStatus 1 1 ∷ []) (withdraws 1 0)) ((number, 3) ∷ [])
    ∷ edge (square 0) (itself_with (holder 9 1 ∷ holder 9 1 ∷ zero_holder ∷ []) 7) (three 3 (holder 9 1) (holder 9 1) zero_holder)
    ∷ edge worked (itself_with (fresh 1) 0) ((number, 3) ∷ (holders_count, 1) ∷ (balance_at 0, 0) ∷ [])
    ∷ edge worked (itself_with [] 7) ((number, 3) ∷ [])
    ∷ edge worked (itself_with (fresh 257) 7) ((number, 3) ∷ (balance_at 0, 0) ∷ [])
    -- an opening's own tests leave the old entries; accepted, it clears them
    ∷ edge (square 100) (itself_with (holder 9 1 ∷ []) 7) ((number, 13) ∷ (holder_at 0, 9) ∷ (balance_at 0, 1) ∷ [])
    ∷ edge worked (itself_with (holder 9 1 ∷ holder 8 1 ∷ holder 9 0 ∷ []) 7) (three 0 (holder 7 1999900) zero_holder zero_holder)
    -- then the call's own tests: closed before 10 and before the credit's 8, 10 for one without an entry, a vault's 8 before 16
    ∷ edge worked (on_list (fresh 1) (SetStatus 1 1 ∷ []) (withdraws 1 8)) ((number, 1) ∷ [])
    ∷ edge worked (on_list (holder 8 u64_max ∷ []) (SetStatus 0 1 ∷ []) (deposits 500 8)) ((number, 1) ∷ [])
    ∷ edge worked (on_list (fresh 1) [] (withdraws 1 8)) ((number, 10) ∷ [])
    ∷ edge (square u64_max) (on_list (holder 9 1 ∷ []) [] (deposits 1000000 8)) ((number, 8) ∷ (holder_at 0, 9) ∷ [])
    -- a balance may reach 2^64 − 1 and not pass it, 8
    ∷ edge worked (on_list (holder 8 (u64_max - 500) ∷ []) [] (deposits 500 8)) ((number, 0) ∷ (balance_at 0, u64_max) ∷ [])
    ∷ edge worked (on_list (holder 8 (u64_max - 499) ∷ []) [] (deposits 500 8)) ((number, 8) ∷ (balance_at 0, u64_max - 499) ∷ (supply_after, 2000000) ∷ [])
    ∷ []

-- what comes out is what must, in every row
abbrev pub EdgesHold : Type 0
EdgesHold = all_found edges ≡ all_wanted edges
