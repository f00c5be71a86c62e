-- The order of the numbers: the pool's record, its ring's head, its tokens' charges, the ring's spacing and length last; the receipt. And what it is
-- for numbers to stand in a row.
use Rattle.std.specs.Prelude.{ℕ, Bool, true, false, cond, List, [], ◌∷◌, eqb, get_or}
use Rattle.rates.specs.declared.Rates.{Rates}
use Rattle.receipt.specs.declared.Receipt.{Receipt}
use Rattle.opening.specs.declared.Opening.{Opening}
use Rattle.pool.specs.declared.state.Pool.{Pool}
use Rattle.pool.specs.State.{net0, net1}
use Rattle.words.specs.declared.Holdings.{Holdings}

-- the numbers of a record, and the places of its two flags
abbrev pub pool_length : ℕ
pool_length = 27

abbrev pub enabled_at : ℕ
enabled_at = 12

abbrev pub used_at : ℕ
used_at = 18

abbrev pub word : Bool → ℕ
word flag = cond flag 1 0

abbrev pub pool_words : Pool → List ℕ
pool_words p =
    p.books.vault0 ∷ p.books.vault1
    ∷ p.books.fees.protocol0 ∷ p.books.fees.protocol1 ∷ p.books.fees.fund0 ∷ p.books.fees.fund1
    ∷ p.books.fees.creator0 ∷ p.books.fees.creator1
    ∷ p.books.supply ∷ p.status ∷ p.terms.open_time ∷ p.terms.fee_model ∷ word p.terms.enabled
    ∷ p.terms.rates.trade ∷ p.terms.rates.protocol ∷ p.terms.rates.fund ∷ p.terms.rates.creator ∷ p.terms.rates.share
    ∷ word p.ring.used ∷ p.ring.index ∷ p.ring.mark
    ∷ p.terms.charges.token0.points ∷ p.terms.charges.token0.maximum
    ∷ p.terms.charges.token1.points ∷ p.terms.charges.token1.maximum
    ∷ p.ring.grid.spacing ∷ p.ring.grid.length
    ∷ []

abbrev pub receipt_words : Receipt → List ℕ
receipt_words r =
    r.number ∷ r.kind ∷ r.trade.direction ∷ r.trade.clock
    ∷ r.paid.in0 ∷ r.paid.in1 ∷ r.paid.out0 ∷ r.paid.out1 ∷ r.paid.lp
    ∷ r.trade.trade_fee ∷ r.trade.protocol_fee ∷ r.trade.fund_fee ∷ r.trade.creator_fee ∷ r.trade.creator_fee_token
    ∷ r.shared.shared0 ∷ r.shared.shared1
    ∷ r.charged.charge0 ∷ r.charged.charge1
    ∷ []

abbrev pub at : List ℕ → ℕ → ℕ
at w i = get_or w i 0

-- the rates of an opening
abbrev pub rates_of : List ℕ → Rates
rates_of w = record { trade = at w 0; protocol = at w 1; fund = at w 2; creator = at w 3; share = at w 4 }

-- the arguments of an opening
abbrev pub opening_of : List ℕ → Opening
opening_of w = record {
  amount0 = at w 0;
  amount1 = at w 1;
  model = at w 2;
  enabled = at w 3;
  open_time = at w 4;
  rates = record { trade = at w 5; protocol = at w 6; fund = at w 7; creator = at w 8; share = at w 9 };
  charges = record { token0 = record { points = at w 10; maximum = at w 11 }; token1 = record { points = at w 12; maximum = at w 13 } };
  grid = record { spacing = at w 14; length = at w 15 };
}

abbrev pub pool_of : List ℕ → Pool
pool_of w = record {
  books = record {
    vault0 = at w 0;
    vault1 = at w 1;
    fees = record { protocol0 = at w 2; protocol1 = at w 3; fund0 = at w 4; fund1 = at w 5; creator0 = at w 6; creator1 = at w 7 };
    supply = at w 8;
  };
  terms = record {
    rates = record { trade = at w 13; protocol = at w 14; fund = at w 15; creator = at w 16; share = at w 17 };
    charges = record { token0 = record { points = at w 21; maximum = at w 22 }; token1 = record { points = at w 23; maximum = at w 24 } };
    fee_model = at w 11;
    open_time = at w 10;
    enabled = eqb (at w enabled_at) 1;
  };
  status = at w 9;
  ring = record { used = eqb (at w used_at) 1; index = at w 19; mark = at w 20; grid = record { spacing = at w 25; length = at w 26 } };
}

abbrev pub receipt_of : List ℕ → Receipt
receipt_of w = record {
  number = at w 0;
  kind = at w 1;
  paid = record { in0 = at w 4; in1 = at w 5; out0 = at w 6; out1 = at w 7; lp = at w 8 };
  trade = record {
    direction = at w 2;
    clock = at w 3;
    trade_fee = at w 9;
    protocol_fee = at w 10;
    fund_fee = at w 11;
    creator_fee = at w 12;
    creator_fee_token = at w 13;
  };
  shared = record { shared0 = at w 14; shared1 = at w 15 };
  charged = record { charge0 = at w 16; charge1 = at w 17 };
}

-- what a row of the day sheet shows of a pool, and the rate at which it settles
abbrev pub holdings_of : Pool → Holdings
holdings_of p = record { net0 = net0 p; net1 = net1 p; supply = p.books.supply }

abbrev pub share_of : Pool → ℕ
share_of p = p.terms.rates.share

-- Whether a row begins with these numbers.
unfoldable pub begins_with : List ℕ → List ℕ → Bool
begins_with row [] = true
begins_with [] (x ∷ xs) = false
begins_with (y ∷ ys) (x ∷ xs) = cond (eqb x y) (begins_with ys xs) false
