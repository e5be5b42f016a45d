use Rattle.type_model.specs.Inclusion.{Sub}
use Rattle.pair_questions.proofs.Singles.{where-first-ok, where-not}
use Rattle.pair_questions.proofs.names.and_below.Goals as goal

pub returns-in-true-clause-both : goal.returns-in-true-clause-both
returns-in-true-clause-both g c = where-first-ok c.args.first c.in-true.is (Sub (g.T.Types.atoms c.args.types.now) c.args.s.now c.args.t.now) c.is_subtype.result c.is_subtype.ensures.answer

pub returns-in-false-clause-both : goal.returns-in-false-clause-both
returns-in-false-clause-both g c = where-not c.args.first c.in-false.is (Sub (g.T.Types.atoms c.args.types.now) c.args.s.now c.args.t.now)
