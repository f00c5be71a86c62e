-- `memory::lent::swap_on` meets its contract.
use Rattle.std.proofs.Common.{rules, ◌≡◌}
use Rattle.refusal.specs.Tests.{first, tested}
use Rattle.memory.specs.Memory.{record_tests}
use Rattle.memory.proofs.Stores.{swap_left}
use Rattle.memory.proofs.lent.swap_on.Goals.{After-store}
use Rattle.memory.proofs.lent.swap_on.Goals as goal

passed : (c : After-store) → first (record_tests c.args.pool.now) ≡ 0
unfolding record_tests tested first
passed c = search rules

pub returns : goal.returns
returns c =
    let a = c.args in
    swap_left a.pool.now a.ring.now a.receipt.now a.by_input a.direction a.amount a.limit a.clock (passed c)
    c.pool_in.ensures c.decide-decision.ensures c.store.ensures c.give-number.ensures
