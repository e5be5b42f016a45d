use Rattle.eval_model.proofs.Narrowed.{reads-go-on}
use Rattle.eval_model.proofs.laws.narrowed_reads_go_on.Goals as goal

pub returns : goal.returns
returns c = reads-go-on
