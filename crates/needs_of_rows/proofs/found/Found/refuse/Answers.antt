use Rattle.std.proofs.Common.{refl, true}
use Rattle.needs_of_rows.specs.declared.found.Found.{Found}
use Rattle.needs_of_rows.proofs.Finding.{found-none}
use Rattle.needs_of_rows.proofs.found.Found.refuse.Goals as goal

pub returns : goal.returns
returns c =
    let old = c.args.self.now in
    let new : Found = record { questions = old.questions; refused = true; full = old.full } in
    found-none old new refl refl
