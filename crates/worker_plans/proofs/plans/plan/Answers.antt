use Rattle.std.proofs.Common.{◌≡◌, ◌∙◌, ap, map, subst, sym}
use Rattle.checks.specs.Checks.{Comes}
use Rattle.checks.proofs.Steps.{ran_out}
use Rattle.worker_pairing.specs.Faults.{plans}
use Rattle.worker_pairing.specs.Marks.{members_of}
use Rattle.worker_members.specs.Held.{numbered_held}
use Rattle.worker_messages.specs.Defined.{AreDefined}
use Rattle.worker_plans.proofs.plans.plan.Goals as goal

pub plan_of-requires-clause-members : goal.plan_of-requires-clause-members
plan_of-requires-clause-members g c = subst (AreDefined (g.T.Types.atoms c.args.types.now)) (sym c.in-Ok.ensures.members) c.requires

pub plan_of-requires-clause-text : goal.plan_of-requires-clause-text
plan_of-requires-clause-text g c = ap (map numbered_held) c.deref.ensures.value ∙ c.in-Ok.ensures.text

pub returns-in-Ok-clause-comes : goal.returns-in-Ok-clause-comes
returns-in-Ok-clause-comes g c =
    subst (λ ms. Comes (plans g.T.Types.passes c.args.f.now.at ms) (g.T.Types.atoms c.args.types.now) c.plan_of.result (g.T.Types.atoms c.plan_of.new.types)) c.in-Ok.ensures.members c.plan_of.ensures.comes

pub returns-in-Err-clause-comes : goal.returns-in-Err-clause-comes
returns-in-Err-clause-comes g c = ran_out (plans g.T.Types.passes c.args.f.now.at (members_of c.args.f.now)) _ _
