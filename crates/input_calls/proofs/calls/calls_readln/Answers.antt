use Rattle.input_calls.specs.Calls.{package_calls}
use Rattle.input_calls.proofs.Asking.{found-exactly}
use Rattle.input_calls.proofs.calls.calls_readln.Goals as goal

pub returns : goal.returns
returns c = found-exactly (package_calls c.args.package.now) c.all.result c.all.ensures
