use Rattle.code_keeping_workers.proofs.Named.{workers-are-started}
use Rattle.code_keeping_workers.proofs.laws.workers_are_started.Goals as goal

pub returns : goal.returns
returns g c = workers-are-started g.N.Meaning.answers
