use Rattle.std.proofs.Common.{false}
use Rattle.parse_stmt.proofs.ChosenMaking.{local-chosen}
use Rattle.parse_stmt.proofs.reader.StmtReader.declared.Goals as goal

pub returns-clause-chosen : goal.returns-clause-chosen
returns-clause-chosen c = local-chosen false c.in_ok-ty.ty c.in_ok-ty.name c.in_ok-ty.value c.place-at.result
