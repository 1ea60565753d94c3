use Rattle.std.proofs.Common.{◌≡◌, ◌≤◌, length, ap, sym, subst, ◌∙◌, arith, rules}
use Rattle.std.specs.List.{All}
use Rattle.rv_value.proofs.Lists.{to_all}
use Rattle.rv_model.specs.declared.entry.Entry.{Entry}
use Rattle.rv_believed.specs.History.{IsLegal}
use Rattle.rv_audit.specs.Auditing.{SaysOfEntries}
use Rattle.rv_audit.specs.Places.{end_told, BreaksAt, FollowsSo, ReplaysSo}
use Rattle.rv_audit.proofs.Concluding.{breaks, concludes, few_done, sessions_readable}
use Rattle.rv_audit.proofs.Short.{script_short}
use Rattle.rv_audit.proofs.auditing.audit_entries.Goals as goal

pub follow-requires-clause-sessions : goal.follow-requires-clause-sessions
follow-requires-clause-sessions c = sessions_readable c.args.entries.items c.requires.readable

pub replayed-requires : goal.replayed-requires
replayed-requires c =
    let g = subst (λ ps. FollowsSo ps c.args.entries.items c.in_ok-followed.followed) c.as_slice.ensures c.in_ok-followed.ensures in
    subst (All (λ (e : Entry). length e.text ≤ 4096)) (sym c.as_slice-2.ensures.value) (to_all (λ (e : Entry). length e.text ≤ 4096) c.in_ok-followed.followed.entries.items (g.no_longer 4096 (script_short c.args.script.now c.requires.fits)))

pub overflow_cast-result : goal.overflow_cast-result
overflow_cast-result c =
    let g = subst (λ ps. FollowsSo ps c.args.entries.items c.in_ok-followed.followed) c.as_slice.ensures c.in_ok-followed.ensures in
    let b = subst (λ es. BreaksAt es c.in-Broken.entry) c.as_slice-2.ensures.value (subst (ReplaysSo c.as_slice-2.result.now) c.in-Broken.is c.in_ok-entry.ensures) in
    let to = b.to in
    let few = few_done c.args.script.now.phases c.args.entries.items c.in_ok-followed.followed.entries.items c.in_ok-followed.followed.end g.end in
    let most = c.requires.few in
    omega (arith, to, few, most)

pub returns-in-Broken : goal.returns-in-Broken
returns-in-Broken c =
    let g = subst (λ ps. FollowsSo ps c.args.entries.items c.in_ok-followed.followed) c.as_slice.ensures c.in_ok-followed.ensures in
    let b = subst (λ es. BreaksAt es c.in-Broken.entry) c.as_slice-2.ensures.value (subst (ReplaysSo c.as_slice-2.result.now) c.in-Broken.is c.in_ok-entry.ensures) in
    breaks c.args.script.now c.args.entries.items c.in_ok-followed.followed.entries.items c.in_ok-followed.followed.end c.in-Broken.entry g.fronts g.only g.end b

pub told_end-requires : goal.told_end-requires
told_end-requires c =
    let g = subst (λ ps. FollowsSo ps c.args.entries.items c.in_ok-followed.followed) c.as_slice.ensures c.in_ok-followed.ensures in
    let few = few_done c.args.script.now.phases c.args.entries.items c.in_ok-followed.followed.entries.items c.in_ok-followed.followed.end g.end in
    let most = c.requires.few in
    let count : c.len.result ≡ length c.in_ok-followed.followed.entries.items = search rules in
    omega (arith, few, most, count)

pub returns : goal.returns
returns c =
    let g = subst (λ ps. FollowsSo ps c.args.entries.items c.in_ok-followed.followed) c.as_slice.ensures c.in_ok-followed.ensures in
    let legal = subst IsLegal c.as_slice-2.ensures.value (subst (ReplaysSo c.as_slice-2.result.now) c.in-Legal.is c.in_ok-entry.ensures) in
    let count : c.len.result ≡ length c.in_ok-followed.followed.entries.items = search rules in
    subst (SaysOfEntries c.args.script.now c.args.entries.items) (sym (c.told_end.ensures ∙ ap (end_told c.in_ok-followed.followed.end) count)) (concludes c.args.script.now c.args.entries.items c.in_ok-followed.followed.entries.items c.in_ok-followed.followed.end g.fronts g.end legal)
