use Rattle.kept_done.proofs.Law.{done-is-kept}
use Rattle.kept_done.proofs.laws.done_is_kept.Goals as goal

pub returns : goal.returns
returns g c = done-is-kept g.T.Types.passes
