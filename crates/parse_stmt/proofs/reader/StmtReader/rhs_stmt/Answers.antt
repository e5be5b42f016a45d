use Rattle.parse_stmt.proofs.ChosenMaking.{rhs-chosen}
use Rattle.parse_stmt.proofs.reader.StmtReader.rhs_stmt.Goals as goal

pub returns-clause-chosen : goal.returns-clause-chosen
returns-clause-chosen c = rhs-chosen c.in_ok-rhs.rhs c.place-at.result
