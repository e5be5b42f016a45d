use Rattle.typed_stmts.proofs.laws.needs_keep_stored.Goals as goal
use Rattle.typed_stmts.proofs.Keeping.{stmts-keep-stored}

pub returns : goal.returns
returns g c = λ names env place. stmts-keep-stored g.T.Types.passes names env place
