use Rattle.std.proofs.Common.{◌∙◌, ap, map}
use Rattle.worker_members.specs.Held.{members_held, numbered_held}
use Rattle.worker_plans.proofs.Same.{pairs-ok}
use Rattle.worker_plans.proofs.checking.has_pairs.Goals as goal

pub pairs-requires : goal.pairs-requires
pairs-requires c = ap (map numbered_held) c.deref.ensures.value ∙ c.requires

pub returns : goal.returns
returns c = pairs-ok c.args.given.now c.in_ok-due.due.items c.deref-2.result.now (members_held c.args.found.now.members) c.same_pairs.result c.deref-2.ensures.value c.in_ok-due.ensures c.same_pairs.ensures
