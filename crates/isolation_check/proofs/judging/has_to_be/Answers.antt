use Rattle.isolation_check.proofs.Judges.{judged-below}
use Rattle.isolation_check.proofs.judging.has_to_be.Goals as goal

pub returns-clause-judged : goal.returns-clause-judged
returns-clause-judged g c = λ names.
    judged-below g.T.Types.passes names c.args.at (g.T.Types.atoms c.args.types.now) c.args.s.now c.args.t.now _ _ c.is_below.ensures.atoms c.is_below.ensures.comes
