-- Document 01, 'The day sheet': what each row does, and the row that it yields.
use Rattle.std.specs.Prelude.{Option, Some, None, ℕ, Bool, cond, ◌&&◌, ◌||◌, List, [], ◌∷◌, ◌++◌, eqb}
use Rattle.refusal.specs.Refusal.{unreadable_row}
use Rattle.refusal.specs.Tests.{first}
use Rattle.rates.specs.declared.Rates.{Rates}
use Rattle.rates.specs.Rates.{rate_tests}
use Rattle.charge.specs.Charge.{no_charges}
use Rattle.oracle.specs.declared.Grid.{Grid}
use Rattle.oracle.specs.Ring.{Entries}
use Rattle.receipt.specs.declared.Receipt.{Receipt}
use Rattle.pool.specs.declared.state.Pool.{Pool}
use Rattle.pool.specs.declared.state.After.{After}
use Rattle.receipt.specs.Receipt.{refusal}
use Rattle.pool.specs.State.{net0, net1, Done}
use Rattle.opening.specs.declared.Opening.{Opening}
use Rattle.opening.specs.Opening.{zero_rates}
use Rattle.pool.specs.Calls.{zero_pool, zero_entries, opening, swap_base_input, swap_base_output, deposit, withdraw, settlement, set_status}
use Rattle.rows.specs.declared.row.Row.{Row}
use Rattle.rows.specs.Row.{read_row, write_row, rows}
use Rattle.receipt.specs.Kind as Kind

-- the rates for the next opening, the pool, and the ring's entries
pub record Sheet : Type 0 where
  pub rates : Rates
  pub pool : Pool
  pub entries : Entries

-- before an accepted opening all is 0
unfoldable pub empty_sheet : Sheet
empty_sheet = record { rates = zero_rates; pool = zero_pool; entries = zero_entries }

-- what a row does: the sheet after it, and the receipt
pub record Turn : Type 0 where
  pub sheet : Sheet
  pub receipt : Receipt

abbrev pub refused_row : Sheet → ℕ → Turn
refused_row s n = record { sheet = s; receipt = refusal n }

-- a call on the pool and ring
abbrev pub called : Sheet → Done → Turn
called s d = record { sheet = record { rates = s.rates; pool = d.after.pool; entries = d.entries }; receipt = d.after.receipt }

abbrev pub called_besides : Sheet → After → Turn
called_besides s a = record { sheet = record { rates = s.rates; pool = a.pool; entries = s.entries }; receipt = a.receipt }

-- kind 0: rates, tested as in opening; refused ones are not kept
unfoldable pub keep_rates : Sheet → Rates → Turn
keep_rates s rates =
    cond (eqb (first (rate_tests rates)) 0)
    (record { sheet = record { rates = rates; pool = s.pool; entries = s.entries }; receipt = refusal 0 })
    (refused_row s (first (rate_tests rates)))

-- an accepted opening replaces pool and ring; a refused one keeps them
unfoldable pub replaced : Sheet → Done → Turn
replaced s d = cond (eqb d.after.receipt.number 0) (called s d) (refused_row s d.after.receipt.number)

-- spare numbers are 0
abbrev pub unless_spare : Bool → Sheet → Turn → Turn
unless_spare spare s t = cond spare t (refused_row s unreadable_row)

-- the day sheet opens with a spacing of 15 and a length of 100 (document 02 (f))
abbrev pub day_grid : Grid
day_grid = record { spacing = 15; length = 100 }

-- kind 1: amounts, model, enabled, open time; the rates are those of the last accepted row of kind 0, and no token carries a charge
abbrev pub opening_with : ℕ → ℕ → ℕ → ℕ → ℕ → Rates → Opening
opening_with amount0 amount1 model enabled openTime rates = record {
  amount0 = amount0;
  amount1 = amount1;
  model = model;
  enabled = enabled;
  open_time = openTime;
  rates = rates;
  charges = no_charges;
  grid = day_grid;
}

unfoldable pub perform : Sheet → Option Row → Turn
perform s None = refused_row s unreadable_row
perform s (Some r) =
    cond (eqb r.kind 0) (keep_rates s (record { trade = r.a; protocol = r.b; fund = r.c; creator = r.d; share = r.e }))
    (cond (eqb r.kind Kind.opening_kind) (replaced s (opening (opening_with r.a r.b r.c r.d r.e s.rates)))
    (cond (eqb r.kind Kind.swap_base_input_kind) (unless_spare (eqb r.e 0) s (called s (swap_base_input s.pool s.entries r.a r.b r.c r.d)))
    (cond (eqb r.kind Kind.swap_base_output_kind) (unless_spare (eqb r.e 0) s (called s (swap_base_output s.pool s.entries r.a r.b r.c r.d)))
    (cond (eqb r.kind Kind.deposit_kind) (unless_spare (eqb r.d 0 && eqb r.e 0) s (called_besides s (deposit s.pool r.a r.b r.c)))
    (cond (eqb r.kind Kind.withdraw_kind) (unless_spare (eqb r.e 0) s (called_besides s (withdraw s.pool r.a r.b r.c r.d)))
    (cond (eqb r.kind Kind.settle_creator_fee_kind) (unless_spare (eqb r.a 0 && eqb r.b 0 && eqb r.c 0 && eqb r.d 0 && eqb r.e 0) s (called_besides s (settlement s.pool s.pool.terms.rates.share)))
    (cond (eqb r.kind Kind.set_status_kind) (unless_spare (eqb r.c 0 && eqb r.d 0 && eqb r.e 0) s (called_besides s (set_status s.pool r.a r.b)))
    (refused_row s unreadable_row))))))))

-- ---- the row that it yields: refusal number or 0, two amounts, nets, supply
-- a swap's input and output; tokens 0 and 1 of a deposit, withdrawal or settlement; else 0
abbrev pub is_swap : Receipt → Bool
is_swap x = eqb x.kind Kind.swap_base_input_kind || eqb x.kind Kind.swap_base_output_kind

abbrev pub swap_input : Receipt → ℕ
swap_input x = cond (eqb x.trade.direction 0) x.paid.in0 x.paid.in1

abbrev pub swap_output : Receipt → ℕ
swap_output x = cond (eqb x.trade.direction 0) x.paid.out1 x.paid.out0

abbrev pub first_amount : Receipt → ℕ
first_amount x =
    cond (is_swap x) (swap_input x)
    (cond (eqb x.kind Kind.deposit_kind) x.paid.in0
    (cond (eqb x.kind Kind.withdraw_kind || eqb x.kind Kind.settle_creator_fee_kind) x.paid.out0
    0))

abbrev pub second_amount : Receipt → ℕ
second_amount x =
    cond (is_swap x) (swap_output x)
    (cond (eqb x.kind Kind.deposit_kind) x.paid.in1
    (cond (eqb x.kind Kind.withdraw_kind || eqb x.kind Kind.settle_creator_fee_kind) x.paid.out1
    0))

unfoldable pub yielded : Turn → List ℕ
yielded t =
    write_row t.receipt.number (first_amount t.receipt) (second_amount t.receipt)
    (net0 t.sheet.pool) (net1 t.sheet.pool) t.sheet.pool.books.supply

-- ---- the whole sheet
-- the rows in turn
unfoldable pub run : Sheet → List (List ℕ) → List ℕ
run s [] = []
run s (r ∷ rs) = let t = perform s (read_row r) in yielded t ++ run t.sheet rs

unfoldable pub day_sheet : List ℕ → List ℕ
day_sheet input = run empty_sheet (rows input)
