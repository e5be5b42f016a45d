use Rattle.flow_narrowing.proofs.Belonging.{belong-true}
use Rattle.flow_narrowing.proofs.narrowed.narrow_true.Goals as goal

pub returns-clause-belongs : goal.returns-clause-belongs
returns-clause-belongs g c = belong-true (g.T.Types.atoms c.args.types.now) c.args.s.now c.args.t.now c.written_of_both.result c.written_of_both.ensures.both
