-- What a call leaves and what its receipt shows stay within their columns: vaults, supply and amounts are u64, a number has two digits.
-- No call's receipt is an opening's.
-- Assumes nothing.
use Prim.Native.Nat.{ℕ, suc, ◌+◌, ◌*◌, ◌-◌, ◌^◌, ◌≤◌, ◌<◌, min}
use mathlib.Core.Path.{◌≡◌, refl, ap}
use mathlib.Core.Bool.{Bool, true, false, cond, ◌&&◌, false≢true}
use mathlib.Core.List.{[], ◌∷◌}
use native.Mathlib.Omega.{arith}
use native.Mathlib.Nat.{mul-le-mul, min-le_left, le_trans}
use borrow.Author.Tests.{ltb-false, leb-true, eqb-true, eqb-false}
use lib.Dec.{eqb, leb}
use Rattle.root.proofs.WholeRoot.{root_fits}
use Rattle.refusal.specs.Tests.{Tests, u64_max, ◌then◌, past, first}
use Rattle.refusal.proofs.Stops.{Passed, outcome_elim}
use Rattle.rates.specs.Rates.{rate_limits}
use Rattle.calculator.specs.declared.SwapResult.{SwapResult}
use Rattle.accounting.specs.declared.FeeCounters.{FeeCounters}
use Rattle.accounting.specs.declared.Books.{Books}
use Rattle.accounting.specs.Counters.{of_token, counter_tests}
use Rattle.charge.specs.declared.Charged.{Charged}
use Rattle.receipt.specs.declared.Receipt.{Receipt}
use Rattle.receipt.specs.Receipt.{refusal, amounts}
use Rattle.settlement.specs.Settlement.{settlement_tests, settlement_receipt}
use Rattle.worth.specs.Worth.{amount_tests}
use Rattle.liquidity.specs.Liquidity.{deposit_tests, withdraw_tests}
use Rattle.opening.specs.declared.Opening.{Opening}
use Rattle.quotes.specs.Quotes.{net_out}
use Rattle.swap.specs.Swap.{last_tests, input_tests, output_tests, paid_books, swap_receipt, accepted_swap}
use Rattle.pool.specs.State.{Done, refused}
use Rattle.pool.specs.Calls.{opening}
use Rattle.calls.specs.declared.Call.{Call}
use Rattle.calls.specs.declared.Call.TheVariants.{SwapBaseInput, SwapBaseOutput, Deposit, Withdraw, Settle, SetStatus}
use Rattle.calls.specs.Next.{State, next, left}
use Rattle.calls.proofs.Decisions.{decision, tests_of, accepted_of, refused_at, call_decides, opening_decision, opening_decides, number_of, swap_of, charges_of, swap_decision, two_digits}
use Rattle.calls.proofs.Refusals.{call_number_tells, opening_number_tells}
use Rattle.calls.proofs.FairCalls.{swap_fair}

-- the books of a pool
pub record BooksFit (b : Books) : Type 0 where
  pub vault0 : b.vault0 ≤ u64_max
  pub vault1 : b.vault1 ≤ u64_max
  pub supply : b.supply ≤ u64_max

pub record ReceiptFits (x : Receipt) : Type 0 where
  pub number : x.number ≤ 99
  pub in0 : x.paid.in0 ≤ u64_max
  pub in1 : x.paid.in1 ≤ u64_max
  pub out0 : x.paid.out0 ≤ u64_max
  pub out1 : x.paid.out1 ≤ u64_max

-- what a call or an opening gave
pub record DoneFits (d : Done) : Type 0 where
  pub books : BooksFit d.after.pool.books
  pub receipt : ReceiptFits d.after.receipt

-- ---- numbers
pub first_short : (ts : Tests) → two_digits ts ≡ true → first ts ≤ 99
unfolding first
first_short [] h = omega arith
first_short (t ∷ ts) h = go t.0 (leb t.1 99) refl h (first_short ts)
  where
    go : (b short : Bool) → leb t.1 99 ≡ short → (short && two_digits ts) ≡ true → (two_digits ts ≡ true → first ts ≤ 99) → cond b t.1 (first ts) ≤ 99
    go b false e h rest = absurd (false≢true h)
    go true true e h rest = leb-true t.1 99 e
    go false true e h rest = rest h

pub refusal_fits : (n : ℕ) → n ≤ 99 → ReceiptFits (refusal n)
unfolding refusal
refusal_fits n h = record { number = h; in0 = omega arith; in1 = omega arith; out0 = omega arith; out1 = omega arith }

-- ---- an accepted call
module _ (swap : SwapResult) (b : Books) (fits : BooksFit b) where
  abbrev Room : Bool → Type 0
  Room zeroIn = past (of_token zeroIn b.vault0 b.vault1 + swap.input) ≡ false

  swap_books_fit : (fees : FeeCounters) (zeroIn : Bool) → Room zeroIn → BooksFit (paid_books zeroIn swap fees b)
  unfolding paid_books
  swap_books_fit fees true e = let l : b.vault0 + swap.input ≤ u64_max = ltb-false u64_max _ e in record { vault0 = omega arith; vault1 = omega (arith, fits.vault1); supply = fits.supply }
  swap_books_fit fees false e = let l : b.vault1 + swap.input ≤ u64_max = ltb-false u64_max _ e in record { vault0 = omega (arith, fits.vault0); vault1 = omega arith; supply = fits.supply }

  swap_receipt_fits :
      (byInput zeroFee : Bool) (charged : Charged) (clock : ℕ) (zeroIn : Bool) → Room zeroIn → swap.output ≤ net_out zeroIn b
      → ReceiptFits (swap_receipt byInput zeroIn zeroFee swap charged clock)
  unfolding swap_receipt
  swap_receipt_fits byInput zeroFee charged clock true e o =
      let l : b.vault0 + swap.input ≤ u64_max = ltb-false u64_max _ e in
      record { number = omega arith; in0 = omega arith; in1 = omega arith; out0 = omega arith; out1 = omega (arith, fits.vault1) }
  swap_receipt_fits byInput zeroFee charged clock false e o =
      let l : b.vault1 + swap.input ≤ u64_max = ltb-false u64_max _ e in
      record { number = omega arith; in0 = omega arith; in1 = omega arith; out0 = omega (arith, fits.vault0); out1 = omega arith }

swap_fits :
    (byInput : Bool) (s : State) (direction amount limit clock : ℕ) → BooksFit s.pool.books
    → Passed (swap_decision byInput s direction amount limit clock).tests → DoneFits (swap_decision byInput s direction amount limit clock).accepted
unfolding accepted_swap input_tests output_tests last_tests rate_limits counter_tests ◌then◌
swap_fits byInput s direction amount limit clock h t =
    let fair = swap_fair byInput s direction amount limit clock t in
    let room = has_room byInput t in
    record {
      books = swap_books_fit (swap_of byInput s direction amount) s.pool.books h _ (eqb direction 0) room;
      receipt = swap_receipt_fits (swap_of byInput s direction amount) s.pool.books h byInput _ (charges_of byInput s direction amount) clock (eqb direction 0) room (omega (arith, fair.pays, fair.within));
    }
  where
    has_room : (i : Bool) → Passed (swap_decision i s direction amount limit clock).tests → Room (swap_of i s direction amount) s.pool.books h (eqb direction 0)
    has_room true t = search
    has_room false t = search

-- a withdrawal is capped at the net
capped_fits : (vault counters amount : ℕ) → vault ≤ u64_max → min (vault - counters) amount ≤ u64_max
capped_fits vault counters amount h = le_trans (min-le_left (vault - counters) amount) (omega arith)

accepted_fits : (s : State) (c : Call) → BooksFit s.pool.books → Passed (tests_of s c) → DoneFits (accepted_of s c)
unfolding decision deposit_tests withdraw_tests counter_tests amount_tests ◌then◌ settlement_tests settlement_receipt amounts
accepted_fits s (SwapBaseInput direction amount minimum clock) h t = swap_fits true s direction amount minimum clock h t
accepted_fits s (SwapBaseOutput direction amount maximum clock) h t = swap_fits false s direction amount maximum clock h t
accepted_fits s (Deposit lp maximum0 maximum1) h t = record {
  books = record { vault0 = omega (arith, ltb-false); vault1 = omega (arith, ltb-false); supply = omega (arith, ltb-false) };
  receipt = record { number = omega arith; in0 = omega (arith, ltb-false); in1 = omega (arith, ltb-false); out0 = omega arith; out1 = omega arith };
}
accepted_fits s (Withdraw lp owned minimum0 minimum1) h t = record {
  books = record { vault0 = omega (arith, h.vault0); vault1 = omega (arith, h.vault1); supply = omega (arith, h.supply) };
  receipt = record {
    number = omega arith;
    in0 = omega arith;
    in1 = omega arith;
    out0 = capped_fits s.pool.books.vault0 _ _ h.vault0;
    out1 = capped_fits s.pool.books.vault1 _ _ h.vault1;
  };
}
accepted_fits s (Settle share) h t = record {
  books = record { vault0 = omega (arith, h.vault0); vault1 = omega (arith, h.vault1); supply = h.supply };
  receipt = record {
    number = omega arith;
    in0 = omega arith;
    in1 = omega arith;
    out0 = omega (arith, h.vault0, ltb-false);
    out1 = omega (arith, h.vault1, ltb-false);
  };
}
accepted_fits s (SetStatus bit flag) h t = record {
  books = record { vault0 = h.vault0; vault1 = h.vault1; supply = h.supply };
  receipt = record { number = omega arith; in0 = omega arith; in1 = omega arith; out0 = omega arith; out1 = omega arith };
}

-- ---- any call
unchanged_fits : (s : State) (d : Done) → left d ≡ s → BooksFit s.pool.books → BooksFit d.after.pool.books
unchanged_fits s d e h = rw (ap (λ (l : State). l.pool) e) h

pub call_fits : (s : State) (c : Call) → BooksFit s.pool.books → DoneFits (next s c)
call_fits s c h = go (eqb (number_of (next s c)) 0) refl
  where
    go : (b : Bool) → eqb (number_of (next s c)) 0 ≡ b → DoneFits (next s c)
    go true e = let a = (call_number_tells s c).where_accepted (eqb-true _ _ e) in rw a.result (accepted_fits s c h a.passed)
    go false e =
        let r = (call_number_tells s c).where_refused (eqb-false _ _ e) in
        let short : number_of (next s c) ≤ 99 = rw r.number_first (first_short (tests_of s c) (call_decides s c).tests_short) in
        record { books = unchanged_fits s (next s c) r.unchanged h; receipt = rw r.zeros (refusal_fits _ short) }

-- ---- an opening of two u64
product_below : (x y u : ℕ) → x ≤ u → y ≤ u → x * y < suc u * suc u
product_below x y u h k = omega (arith, mul-le-mul h k)

module _ (o : Opening) where
  abbrev here : Done
  here = opening o

  -- a refused one gives a number of two digits
  pub opening_short : number_of here ≤ 99
  opening_short = go (eqb (number_of here) 0) refl
    where
      go : (b : Bool) → eqb (number_of here) 0 ≡ b → number_of here ≤ 99
      go true e = omega (arith, eqb-true (number_of here) 0 e)
      go false e =
          let t = (opening_number_tells o).where_refused (eqb-false _ _ e) in
          rw t.number_first (first_short _ (opening_decides o).tests_short)

  pub opening_fits : number_of here ≡ 0 → o.amount0 ≤ u64_max → o.amount1 ≤ u64_max → DoneFits here
  unfolding opening_decision amounts
  opening_fits z h k =
      let below : o.amount0 * o.amount1 < 2 ^ 128 = product_below o.amount0 o.amount1 u64_max h k in
      rw ((opening_number_tells o).where_accepted z).result
      (record {
        books = record { vault0 = h; vault1 = k; supply = omega (arith, root_fits (o.amount0 * o.amount1) below) };
        receipt = record { number = omega arith; in0 = h; in1 = k; out0 = omega arith; out1 = omega arith };
      })

-- ---- the kind of a receipt
-- a call's is not an opening's
accepted_kind : (s : State) (c : Call) → eqb (accepted_of s c).after.receipt.kind 1 ≡ false
unfolding decision accepted_swap swap_receipt amounts settlement_receipt
accepted_kind s (SwapBaseInput direction amount minimum clock) = refl
accepted_kind s (SwapBaseOutput direction amount maximum clock) = refl
accepted_kind s (Deposit lp maximum0 maximum1) = refl
accepted_kind s (Withdraw lp owned minimum0 minimum1) = refl
accepted_kind s (Settle share) = refl
accepted_kind s (SetStatus bit flag) = refl

refused_kind : (s : State) (n : ℕ) → eqb (refused_at s n).after.receipt.kind 1 ≡ false
unfolding refused refusal
refused_kind s n = refl

pub call_kind : (s : State) (c : Call) → eqb (next s c).after.receipt.kind 1 ≡ false
call_kind s c =
    rw (call_decides s c).by_tests
    (outcome_elim (λ (d : Done). eqb d.after.receipt.kind 1 ≡ false) (tests_of s c) (refused_at s) (accepted_of s c) (refused_kind s) (λ _. accepted_kind s c))

-- an accepted opening's receipt has kind 1 and its amounts
pub record OpeningReceipt (amount0 amount1 : ℕ) (x : Receipt) : Type 0 where
  pub number : x.number ≡ 0
  pub kind : x.kind ≡ 1
  pub in0 : x.paid.in0 ≡ amount0
  pub in1 : x.paid.in1 ≡ amount1

pub opening_receipt : (o : Opening) → number_of (opening o) ≡ 0 → OpeningReceipt o.amount0 o.amount1 (opening o).after.receipt
unfolding opening_decision amounts
opening_receipt o z = rw ((opening_number_tells o).where_accepted z).result (record { number = refl; kind = refl; in0 = refl; in1 = refl })
