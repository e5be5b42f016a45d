use Rattle.std.proofs.Common.{refl}
use Rattle.needs_of_rows.specs.declared.found.Found.{Found}
use Rattle.needs_of_rows.proofs.Finding.{found-one}
use Rattle.needs_of_rows.proofs.found.Found.ask.Goals as goal

pub returns : goal.returns
returns c =
    let old = c.args.self.now in
    let new : Found = record { questions = c.put.new.questions; refused = old.refused; full = c.put.new.full } in
    found-one old new c.args.question refl c.put.ensures
