use Rattle.flow_narrowing.proofs.Belonging.{belongs-false}
use Rattle.flow_narrowing.proofs.Failing.{gives-false}
use Rattle.flow_narrowing.proofs.narrowed.narrow_false.Goals as goal

pub returns-clause-is : goal.returns-clause-is
returns-clause-is g c =
    gives-false (g.T.Types.atoms c.args.types.now) (g.T.Types.atoms c.failing.new.types) c.args.s.now c.args.t.now c.in_ok-written_of_both.field-0 c.in_ok-failed.failed
    c.failing.ensures.atoms c.in_ok-failed.ensures.failing c.in_ok-written_of_both.ensures.both

pub returns-clause-belongs : goal.returns-clause-belongs
returns-clause-belongs g c = belongs-false (g.T.Types.atoms c.args.types.now) c.args.s.now c.args.t.now c.in_ok-written_of_both.field-0 (returns-clause-is g c)
