use Rattle.module_loader.proofs.Made.{names-modules}
use Rattle.module_loader.proofs.laws.modules_are_named.Goals as goal

pub returns : goal.returns
returns c = names-modules
