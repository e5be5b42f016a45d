use Rattle.check_laws.proofs.StmtLaw.{stmt-positions-are-kept}
use Rattle.check_laws.proofs.laws.stmt_positions_are_kept.Goals as goal

pub returns : goal.returns
returns g c = stmt-positions-are-kept g.T.Types.passes
