use Rattle.test_answers.specs.ValueTypes.{AsksOfAtom, AsksTested}
use Rattle.code_verifier.proofs.Leading.{fault-on}
use Rattle.test_answers.proofs.Answering.{are-exact}
use Rattle.test_answers.proofs.ValueShapes.{values-defined}
use Rattle.test_answers.proofs.answers.atom_answers.Goals as goal

pub answers_of-requires-clause-left : goal.answers_of-requires-clause-left
answers_of-requires-clause-left g c = values-defined (g.T.Types.atoms c.args.types.now) c.args.atom c.requires.atom c.in-Ok.s c.in-Ok.ensures

pub returns-in-Ok-clause-answers : goal.returns-in-Ok-clause-answers
returns-in-Ok-clause-answers g c = are-exact (g.T.Types.atoms c.args.types.now) c.args.atom c.in-Ok.s c.in-Ok.ensures c.args.tested.now c.answers_of.result c.answers_of.ensures.answers

pub returns-in-Ok-clause-limit : goal.returns-in-Ok-clause-limit
returns-in-Ok-clause-limit g c =
    let env = g.T.Types.atoms c.args.types.now in
    fault-on g.T.Types.passes env (AsksTested c.in-Ok.s c.args.tested.now) (AsksOfAtom env c.args.tested.now c.args.atom) (λ asked h. (c.in-Ok.s, c.in-Ok.ensures, h)) c.answers_of.result c.answers_of.ensures.limit
