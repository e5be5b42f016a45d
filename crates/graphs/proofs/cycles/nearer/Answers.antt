use Rattle.std.proofs.Common.{◌∙◌, subst}
use Rattle.graphs.specs.declared.cycles.Near.{Near}
use Rattle.graphs.specs.inner.Searching.{IsNearestOf}
use Rattle.graphs.proofs.Greedy.{nearest-begins, nearest-joined}
use Rattle.graphs.proofs.cycles.nearer.Goals as goal

pub returns-in-Some-nearest : goal.returns-in-Some-nearest
returns-in-Some-nearest c all numbers is k =
    let new : Near = record { number = c.args.number; steps = c.in-Some.steps } in
    nearest-joined all numbers c.in-Some-nearest.near new c.sooner.result (k ∙ c.in-Some.is) c.sooner.ensures (subst (IsNearestOf all numbers) c.in-Some-nearest.is is)

pub returns-in-None : goal.returns-in-None
returns-in-None c all numbers is k = nearest-begins all numbers c.args.number c.in-Some.steps (k ∙ c.in-Some.is) (subst (IsNearestOf all numbers) c.in-None.is is)
