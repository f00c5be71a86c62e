-- Document 02 (h) on document 01's pool, 1,000,000 by 4,000,000: amounts swapped at once and in slices, one table. Each row is an opening, a direction
-- and slices, and what their swaps must show.
use Rattle.std.specs.Prelude.{ℕ, ◌≡◌, List, [], ◌∷◌, map, length, replicate}
use Rattle.refusal.specs.Tests.{u64_max}
use Rattle.charge.specs.declared.Charges.{Charges}
use Rattle.charge.specs.Charge.{no_charges}
use Rattle.receipt.specs.declared.Receipt.{Receipt}
use Rattle.opening.specs.declared.Opening.{Opening}
use Rattle.pool.specs.Calls.{opening}
use Rattle.calls.specs.Next.{left}
use Rattle.slicing.specs.Slicing.{Slice, in_turn, at_once, output, received, together}

-- what a swap's receipt shows: its number, both charges, the output and what is received of it
pub record Shown : Type 0 where
  pub number : ℕ
  pub charge0 : ℕ
  pub charge1 : ℕ
  pub out : ℕ
  pub arrives : ℕ

pub record Row : Type 0 where
  pub opens : Opening
  pub direction : ℕ
  pub slices : List Slice
  -- the whole at once, each slice, and the outputs of the slices together, with what is received of them
  pub whole : Shown
  pub each : List Shown
  pub outputs : ℕ
  pub arrivals : ℕ

-- ---- what comes out; the whole is swapped at clock 100
abbrev pub shown : Receipt → Shown
shown x = record { number = x.number; charge0 = x.charged.charge0; charge1 = x.charged.charge1; out = output x; arrives = received x }

abbrev pub found : Row → Row
found r =
    let s = left (opening r.opens) in
    let xs = in_turn s r.direction r.slices in
    record {
      opens = r.opens;
      direction = r.direction;
      slices = r.slices;
      whole = shown (at_once s r.direction r.slices 100);
      each = map shown xs;
      outputs = together output xs;
      arrivals = together received xs;
    }

-- ---- the table
-- fee model, creator fee enabled (0 or 1), its rate, charges
abbrev day : ℕ → ℕ → ℕ → Charges → Opening
day model enabled creator charges = record {
  amount0 = 1000000;
  amount1 = 4000000;
  model = model;
  enabled = enabled;
  open_time = 0;
  rates = record { trade = 2500; protocol = 120000; fund = 40000; creator = creator; share = 0 };
  charges = charges;
  grid = record { spacing = 15; length = 100 };
}

abbrev worked : Opening
worked = day 0 0 0 no_charges

-- token 0 at 100 points with maximum 50, token 1 at 25 points with maximum 2^64 − 1
abbrev prize : Opening
prize = day 0 0 0 (record { token0 = record { points = 100; maximum = 50 }; token1 = record { points = 25; maximum = u64_max } })

abbrev slice : ℕ → ℕ → Slice
slice amount clock = record { amount = amount; clock = clock }

-- 10,000 in three, the last 15 seconds later
abbrev three : List Slice
three = slice 3333 100 ∷ slice 3333 100 ∷ slice 3334 115 ∷ []

-- accepted, with these charges
abbrev charged : ℕ → ℕ → ℕ → ℕ → Shown
charged charge0 charge1 out arrives = record { number = 0; charge0 = charge0; charge1 = charge1; out = out; arrives = arrives }

-- with charges of 0
abbrev gives : ℕ → Shown
gives out = charged 0 0 out out

abbrev row : Opening → ℕ → List Slice → Shown → List Shown → ℕ → ℕ → Row
row opens direction slices whole each outputs arrivals = record {
  opens = opens;
  direction = direction;
  slices = slices;
  whole = whole;
  each = each;
  outputs = outputs;
  arrivals = arrivals;
}

-- a row without charges
abbrev free : Opening → ℕ → List Slice → Shown → List Shown → ℕ → Row
free opens direction slices whole each outputs = row opens direction slices whole each outputs outputs

unfoldable pub rows : List Row
rows =
    -- 10,000 in two and in ten
    free worked 0 (replicate 2 (slice 5000 100)) (gives 39505) (gives 19849 ∷ gives 19652 ∷ []) 39501
    ∷ free worked 0 (replicate 10 (slice 1000 100)) (gives 39505)
    (gives 3984 ∷ gives 3976 ∷ gives 3968 ∷ gives 3960 ∷ gives 3952 ∷ gives 3944 ∷ gives 3936 ∷ gives 3928 ∷ gives 3921 ∷ gives 3913 ∷ []) 39482
    -- in three, with a creator rate of 1,000: the fee on input, and on output
    ∷ free (day 0 1 1000 no_charges) 0 three (gives 39466) (gives 13240 ∷ gives 13152 ∷ gives 13069 ∷ []) 39461
    ∷ free (day 2 1 1000 no_charges) 0 three (gives 39465) (gives 13237 ∷ gives 13150 ∷ gives 13067 ∷ []) 39454
    -- the other direction: the slices give exactly as much as the whole
    ∷ free worked 1 (slice 6 100 ∷ slice 6 115 ∷ []) (gives 2) (gives 1 ∷ gives 1 ∷ []) 2
    -- with charges, in both directions
    ∷ row prize 0 three (charged 50 99 39309 39210)
    (charged 34 33 13116 13083 ∷ charged 34 33 13031 12998 ∷ charged 34 33 12949 12916 ∷ []) 39096 38997
    ∷ row prize 1 (slice 15000 100 ∷ slice 15000 115 ∷ []) (charged 50 75 7407 7357) (charged 38 38 3717 3679 ∷ charged 37 38 3689 3652 ∷ []) 7406 7331
    ∷ []

abbrev pub WorkedSlices : Type 0
WorkedSlices = (length rows ≡ 7) × (map found rows ≡ rows)
