-- What a call does with the ring stays within its length: only a swap uses the ring, and its update stays within the length (`Within.antt` of oracle).
-- Assumes nothing.
use Prim.Native.Nat.{ℕ}
use mathlib.Core.Path.{◌≡◌, refl, sym, ap, ◌∙◌}
use mathlib.Core.Bool.{Bool, true, false, true≢false}
use mathlib.Core.List.{[], ◌∷◌, ◌++◌}
use lib.ListN.{take, drop}
use Rattle.std.specs.Prelude.{Ok}
use Rattle.refusal.specs.Tests.{Tests, ◌then◌, first}
use Rattle.refusal.proofs.Stops.{Passed, outcome_elim}
use Rattle.rates.specs.Rates.{rate_limits}
use Rattle.accounting.specs.Counters.{counter_tests}
use Rattle.oracle.specs.declared.Ring.{Ring}
use Rattle.oracle.specs.Ring.{Entries, Entry, number_at, outside, accepted_update}
use Rattle.oracle.specs.Update.{stored_in, after_of}
use Rattle.oracle.proofs.Within as W
use Rattle.swap.specs.Swap.{last_tests, input_tests, output_tests, accepted_swap, swap_after}
use Rattle.pool.specs.declared.state.Decision.{Decision}
use Rattle.pool.specs.declared.state.Pool.{Pool}
use Rattle.pool.specs.State.{refused, Done, done_of, swapped_in}
use Rattle.pool.specs.Calls.{zero_entries, opening, decision_of, swap_base_input, swap_base_output}
use Rattle.calls.specs.declared.Call.{Call}
use Rattle.calls.specs.declared.Call.TheVariants.{SwapBaseInput, SwapBaseOutput, Deposit, Withdraw, Settle, SetStatus}
use Rattle.calls.specs.Next.{State, state_of, next}
use Rattle.calls.proofs.Decisions.{decision, swap_decision, tests_of, accepted_of, refused_at, call_decides}
use Rattle.calls.proofs.InRing.{in_ring}
use Rattle.calls.proofs.Refusals.{call_number_tells}
use Rattle.calls.proofs.Unfolded.{all}
use Rattle.sheet.specs.Sheet.{opening_with}
use Rattle.edges.specs.WithinLength.{own_numbers, AlikeBefore, number_of, with_ring, Answers11, WithinLength}

-- ---- what holds of a pool's ring, and of the ring that an update leaves, holds after every call: the other calls, and a refused one, leave it as it was
module _ (s : State) (P : Ring → Entries → Type 0) where
  abbrev Here : Done → Type 0
  Here d = P d.after.pool.ring d.entries

  -- an accepted update, which is inside the ring
  abbrev Updated : Type 0
  Updated =
      (e : Entry) (clock price0 price1 : ℕ) → outside s.pool.ring ≡ false
      → let u = accepted_update s.pool.ring e clock price0 price1 in P (after_of u) (stored_in s.entries (Ok u))

  accepted : (c : Call) → P s.pool.ring s.entries → Updated → Passed (tests_of s c) → Here (accepted_of s c)
  unfolding decision accepted_swap
  accepted (SwapBaseInput direction amount minimum clock) h u t = u _ _ _ _ (in_ring true s direction amount minimum clock t)
  accepted (SwapBaseOutput direction amount maximum clock) h u t = u _ _ _ _ (in_ring false s direction amount maximum clock t)
  accepted (Deposit lp maximum0 maximum1) h u t = h
  accepted (Withdraw lp owned minimum0 minimum1) h u t = h
  accepted (Settle share) h u t = h
  accepted (SetStatus bit flag) h u t = h

  after_each : (c : Call) → P s.pool.ring s.entries → Updated → Here (next s c)
  unfolding refused
  after_each c h u = rw (call_decides s c).by_tests (outcome_elim Here (tests_of s c) (refused_at s) (accepted_of s c) (λ n. h) (accepted c h u))

-- ---- what is read: a decision over the entry that is seen, on entries that are alike
module _ (n : ℕ) (a b : Entries) where
  abbrev Same : Done → Done → Type 0
  Same d e = (d.after ≡ e.after) × AlikeBefore n d.entries e.entries

  decided_alike : (decide : Entry → Decision) (x y : Entry) → x ≡ y → W.Alike n a b → Same (done_of a (decide x)) (done_of b (decide y))
  decided_alike decide x y e t = (
    ap (λ (z : Entry). (decide z).after) e,
    λ k l. (W.stored_alike n a b (decide x).update t).before k l ∙ ap (λ (z : Entry). number_at (stored_in b (decide z).update) k) e,
  )

next_alike :
    (s : State) (others : Entries) (c : Call) → W.Alike (own_numbers s) s.entries others
    → Same (own_numbers s) s.entries others (next s c) (next (state_of s.pool others) c)
unfolding next swap_base_input swap_base_output decision_of
next_alike s others (SwapBaseInput direction amount minimum clock) t =
    let p = s.pool in
    decided_alike _ _ _ (λ (e : Entry). swapped_in p (swap_after true p.terms p.status p.books p.ring e direction amount minimum clock)) _ _ (W.seen_alike p.ring _ _ t) t
next_alike s others (SwapBaseOutput direction amount maximum clock) t =
    let p = s.pool in
    decided_alike _ _ _ (λ (e : Entry). swapped_in p (swap_after false p.terms p.status p.books p.ring e direction amount maximum clock)) _ _ (W.seen_alike p.ring _ _ t) t
next_alike s others (Deposit lp maximum0 maximum1) t = (refl, t.before)
next_alike s others (Withdraw lp owned minimum0 minimum1) t = (refl, t.before)
next_alike s others (Settle share) t = (refl, t.before)
next_alike s others (SetStatus bit flag) t = (refl, t.before)

-- ---- outside the ring: the tests before the ring's are the same with any other ring, and are passed there
stops_behind : (xs ys zs : Tests) (b : Bool) (n : ℕ) → Passed (xs ++ ys) → b ≡ true → n ≡ first (xs ++ ((b, n) ∷ zs))
unfolding first
stops_behind [] ys zs b n t h = rw h
stops_behind (x ∷ xs) ys zs b n t h = rw t.0 (stops_behind xs ys zs b n t.1 h)

stops_there :
    (byInput : Bool) (s : State) (ring : Ring) (entries : Entries) (direction amount limit clock : ℕ) → outside s.pool.ring ≡ true
    → Passed (swap_decision byInput (with_ring s.pool ring entries) direction amount limit clock).tests
    → 11 ≡ first (swap_decision byInput s direction amount limit clock).tests
unfolding input_tests output_tests last_tests rate_limits counter_tests ◌then◌
stops_there true s ring entries direction amount limit clock h t =
    let here = (swap_decision true s direction amount limit clock).tests in
    let there = (swap_decision true (with_ring s.pool ring entries) direction amount limit clock).tests in
    stops_behind (take 19 here) (drop 19 there) (drop 20 here) (outside s.pool.ring) 11 t h
stops_there false s ring entries direction amount limit clock h t =
    let here = (swap_decision false s direction amount limit clock).tests in
    let there = (swap_decision false (with_ring s.pool ring entries) direction amount limit clock).tests in
    stops_behind (take 23 here) (drop 23 there) (drop 24 here) (outside s.pool.ring) 11 t h

answers_11 :
    (s : State) (c : Call) → (Passed (tests_of s c) → ⊥)
    → ((ring : Ring) (entries : Entries) → Passed (tests_of (with_ring s.pool ring entries) c) → 11 ≡ first (tests_of s c)) → Answers11 s c
answers_11 s c none stops = (
  refuses,
  λ ring entries z.
      ((call_number_tells s c).where_refused refuses).number_first
      ∙ sym (stops ring entries ((call_number_tells (with_ring s.pool ring entries) c).where_accepted z).passed),
)
  where
    refuses : number_of s c ≡ 0 → ⊥
    refuses z = none ((call_number_tells s c).where_accepted z).passed

swaps_answer_11 :
    (s : State) (direction amount limit clock : ℕ) → outside s.pool.ring ≡ true
    → Answers11 s (SwapBaseInput direction amount limit clock) × Answers11 s (SwapBaseOutput direction amount limit clock)
unfolding decision
swaps_answer_11 s direction amount limit clock h = (
  answers_11 s (SwapBaseInput direction amount limit clock) (λ t. true≢false (sym h ∙ in_ring true s direction amount limit clock t))
      (λ ring entries t. stops_there true s ring entries direction amount limit clock h t),
  answers_11 s (SwapBaseOutput direction amount limit clock) (λ t. true≢false (sym h ∙ in_ring false s direction amount limit clock t))
      (λ ring entries t. stops_there false s ring entries direction amount limit clock h t),
)

pub within_length : WithinLength
within_length = record {
  stays = λ s c. after_each s (λ ring _. ring.grid ≡ s.pool.ring.grid) c refl (λ e clock price0 price1 _. W.grid_stays s.pool.ring e clock price0 price1);
  inside = λ s c.
      after_each s (λ ring _. outside ring ≡ outside s.pool.ring) c refl (λ e clock price0 price1 h. W.stays_inside s.pool.ring e clock price0 price1 h ∙ sym h);
  unwritten = λ s c k l.
      after_each s (λ _ entries. number_at entries k ≡ number_at s.entries k) c refl (λ e clock price0 price1 _. W.unwritten s.pool.ring e clock price0 price1 s.entries k l);
  unread = λ s others c l m h. next_alike s others c (record { long = l; other_long = m; before = h });
  refused = swaps_answer_11;
}

-- ---- it speaks of something: the worked swap is accepted by the worked pool, and is 11 where its ring has two entries and the index is 2
abbrev worked_pool : Pool
worked_pool = (opening (opening_with 1000000 4000000 0 0 0 (record { trade = 2500; protocol = 120000; fund = 40000; creator = 0; share = 0 }))).after.pool

abbrev worked_swap : Call
worked_swap = SwapBaseInput 0 10000 1 100

pub accepted_inside : number_of (state_of worked_pool zero_entries) worked_swap ≡ 0
unfolding all
accepted_inside = refl

pub eleven_outside :
    number_of (with_ring worked_pool (record { used = false; index = 2; mark = 0; grid = record { spacing = 15; length = 2 } }) zero_entries) worked_swap ≡ 11
unfolding all
eleven_outside = refl
