-- A narrowed variable that holds a value is read by itself.
use Rattle.std.proofs.Common.{ap}
use Rattle.op_model.specs.Local.{loaded}
use Rattle.machine_model.specs.Machine.{asks}
use Rattle.eval_model.specs.Tasks.{doing}
use Rattle.eval_model.specs.Narrowed.{NarrowedReadsGoOn}

pub reads-go-on : NarrowedReadsGoOn
reads-go-on facts c captured l slot t ts (v, (held, belongs)) = (v, ap (λ o. asks (λ m. doing m ts) (loaded l slot o)) held, belongs)
