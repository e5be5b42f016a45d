use Rattle.std.proofs.Common.{true}
use Rattle.parse_stmt.proofs.ChosenMaking.{local-chosen}
use Rattle.parse_stmt.proofs.reader.StmtReader.final_stmt.Goals as goal

pub returns-clause-chosen : goal.returns-clause-chosen
returns-clause-chosen c = local-chosen true c.in_ok-ty.ty c.in_ok-ty.name c.in_ok-ty.value c.place-at.result
