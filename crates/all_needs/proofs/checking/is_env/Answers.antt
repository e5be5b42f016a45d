use Rattle.std.proofs.Common.{subst}
use Rattle.type_model.specs.Defined.{IsEnv}
use Rattle.all_needs.proofs.checking.is_env.Goals as goal

pub returns : goal.returns
returns g c = subst IsEnv c.env.ensures c.defs.ensures.env
