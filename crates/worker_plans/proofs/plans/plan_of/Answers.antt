use Rattle.std.proofs.Common.{◌≡◌, ◌∙◌, Err, Ok, ap, length, map, subst, sym}
use Rattle.std.proofs.lemmas.List.{length-map}
use Rattle.checks.specs.Checks.{Comes, ◌▷◌}
use Rattle.checks.proofs.Steps.{goes_on, stops}
use Rattle.worker_pairing.specs.Faults.{most_events, most_workers, named_count, within_limit}
use Rattle.worker_pairing.specs.Marks.{in_text}
use Rattle.worker_members.specs.Held.{member_held, members_held, numbered_held}
use Rattle.worker_plans.specs.inner.Chains.{from_peers}
use Rattle.worker_plans.proofs.Chaining.{limits-so, regroup}
use Rattle.worker_plans.proofs.plans.plan_of.Goals as goal

pub returns-in-Ok-clause-comes : goal.returns-in-Ok-clause-comes
returns-in-Ok-clause-comes g c =
    let ms = members_held c.args.members.now in
    let old = g.T.Types.atoms c.args.types.now in
    let new = g.T.Types.atoms c.from_peers.new.types in
    regroup (within_limit most_workers (named_count ms) c.args.at) (λ _. within_limit most_events (length (in_text ms)) c.args.at) (λ _. from_peers g.T.Types.passes ms) old new c.from_peers.result
    (goes_on (within_limit most_workers (named_count ms) c.args.at ▷ λ _. within_limit most_events (length (in_text ms)) c.args.at) (λ _. from_peers g.T.Types.passes ms) old old new tt c.from_peers.result
    (limits-so c.deref.result.now c.args.members.now.workers.items c.named_workers.result c.args.text.now c.args.at old (Ok tt) c.deref.ensures.value c.named_workers.ensures c.requires.text (c.in-Ok.ensures old))
    c.from_peers.ensures.comes)

pub returns-in-Err-clause-comes : goal.returns-in-Err-clause-comes
returns-in-Err-clause-comes g c =
    let ms = members_held c.args.members.now in
    let old = g.T.Types.atoms c.args.types.now in
    regroup (within_limit most_workers (named_count ms) c.args.at) (λ _. within_limit most_events (length (in_text ms)) c.args.at) (λ _. from_peers g.T.Types.passes ms) old old _
    (stops (within_limit most_workers (named_count ms) c.args.at ▷ λ _. within_limit most_events (length (in_text ms)) c.args.at) (λ _. from_peers g.T.Types.passes ms) old old c.in-Err.stop
    (limits-so c.deref.result.now c.args.members.now.workers.items c.named_workers.result c.args.text.now c.args.at old (Err c.in-Err.stop) c.deref.ensures.value c.named_workers.ensures c.requires.text (c.in-Err.ensures old)))
