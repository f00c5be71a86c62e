-- `stream::feed::carry` meets its contract: bytes behind those that are begun, then zeros (`Holding.antt`).
use mathlib.Core.Path.{◌≡◌}
use mathlib.Core.List.{◌++◌}
use Prim.Native.Nat.{◌≤◌}
use native.Mathlib.Omega.{arith}
use lib.ListN.{take}
use Rattle.stream.specs.Pieces.{kept}
use Rattle.stream.proofs.Lines.{kept_short}
use Rattle.stream.proofs.Holding.{least_begun, then_zeros}
use Rattle.stream.proofs.feed.carry.Goals as goal

pub returns : goal.returns
returns c =
    let args = c.args in
    let row = kept (take args.begun args.held.now ++ args.part.now) in
    let same : take c.min.result args.held.now ≡ take args.begun args.held.now =
    rw c.min.ensures (least_begun args.begun args.held.now c.requires) in
    let long = rw same at c.append-n.ensures.0 in
    let front = rw same at c.append-n.ensures.1 in
    let within : c.append-n.result ≤ 103 = omega (arith, long, kept_short (take args.begun args.held.now ++ args.part.now)) in
    let all = then_zeros c.append-n.new.held row c.fill.new.self c.append-n.result c.append-n.ensures.2 within long front (c.fill.ensures.after (λ y e. e)) in
    record { long = long; all = all; within = within }
