use Rattle.std.specs.Str.{chars}
use Rattle.std.proofs.lemmas.Result.{IfOk-weaker}
use Rattle.module_loader.proofs.faults.no_name.Goals as goal

pub returns : goal.returns
unfolding chars
returns c = IfOk-weaker c.new.result _ _ (λ name is. is) c.new.ensures
