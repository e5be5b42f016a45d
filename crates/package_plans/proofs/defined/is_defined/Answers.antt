use Rattle.std.proofs.Common.{subst}
use Rattle.worker_messages.specs.Defined.{AreDefined}
use Rattle.package_plans.proofs.Defining.{all-defined}
use Rattle.package_plans.proofs.defined.is_defined.Goals as goal

pub returns : goal.returns
returns c = λ yes env e. subst (AreDefined env) c.in_ok-members.ensures (all-defined env c.args.atoms _ e (c.are_members_below.ensures yes))
