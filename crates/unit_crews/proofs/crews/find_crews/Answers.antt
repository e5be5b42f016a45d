use Rattle.unit_crews.proofs.Noting.{has-crews}
use Rattle.unit_crews.proofs.crews.find_crews.Goals as goal

pub returns : goal.returns
returns c = has-crews c.args.package.now c.deref.result.now c.note_functions.new.self.counts.items c.deref.ensures.value c.in_ok-note_functions.ensures.0
