use denote.Param.{param}
use denote.Param.Send.{IsSend, IsSync, cell_keyless, sendable}
use Rattle.std.proofs.Common.{rules}
use Rattle.std.proofs.Crossing.{crosses}
use Rattle.own_sessions.proofs.Crossing.{chain_keyless}
use Rattle.atomic_table.proofs.Sent.{shares_keyless}
use Rattle.atomic_table.proofs.send_lease.SendLease.TheSendSync as lease
use denote.Builtin.{u64}
use Rattle.std.specs.contracts.option.Option as option
use Rattle.std.specs.contracts.alloc.Global as heap
use Rattle.std.specs.contracts.impls.GlobalAllocator.TheImpl as GlobalAllocator
use Rattle.rv_shared.specs.contracts.kept.Kept as kept
use Rattle.rv_shared.specs.contracts.shared.Shared.{the_row}
use Rattle.std.proofs.option.Option.TheSendSync as some
use Rattle.own_sessions.proofs.sessions.work_all.Goals as goal

pub for_each_mut-requires-send-T : goal.for_each_mut-requires-send-T
unfolding types.Keyed.entry denote.Memory.part_of
for_each_mut-requires-send-T g c κs within = search rules depth 20

pub for_each_mut-requires-sync-F : goal.for_each_mut-requires-sync-F
unfolding types.Keyed.entry denote.Memory.part_of
for_each_mut-requires-sync-F g c κs within =
    let value = kept.the_row (param 0 g.row.C) g.C.Served in
    let held = option.the_row value in
    let sent : IsSend held = some.the_send value (search (sendable, crosses) depth 20) in
    let shared : IsSync (the_row (param 0 g.row.C) g.C.Served) = record { shared = λ d b o κ. ((λ x. ((((((((λ vs. (tt, λ q. search cell_keyless), (λ vs. (tt, λ q. search cell_keyless), ((tt, λ _. tt), tt))), λ _. tt), shares_keyless held sent _ _ _ _ _ _), (λ vs. ((tt, tt), λ q. search cell_keyless), (λ vs. ((tt, tt), λ q. search cell_keyless), ((lease.the_sync u64 heap.the_row GlobalAllocator.ghosts (search (sendable, crosses)) (search crosses)).shared _ _ _ κ, ((lease.the_sync held heap.the_row GlobalAllocator.ghosts (search (sendable, crosses)) (search crosses)).shared _ _ _ κ, (search (rules, cell_keyless) depth 20, tt)))))), λ _. tt), (λ vs. ((tt, tt), λ q. search cell_keyless), tt)), λ _. tt), tt), (λ α. ((λ νs. chain_keyless νs _ α), λ n. tt), (((λ α. ((λ νs. chain_keyless νs _ α), λ n. tt), (λ α. ((λ νs. chain_keyless νs _ α), λ n. tt), tt)), λ _. tt), tt))), λ _. tt) } in
    record { shared = λ x b o κ. (((λ _. tt, c.type_bounds.sync-R.shared _ _ _ _), ((λ _. tt, shared.shared _ _ _ _), ((λ _. tt, λ α. ((λ νs. chain_keyless νs _ α), λ n. tt)), tt))), λ q. tt) }
