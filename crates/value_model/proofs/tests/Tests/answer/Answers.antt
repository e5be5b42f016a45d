use Rattle.std.specs.Prelude.{false}
use Rattle.value_model.proofs.Lookups.{answer_at}
use Rattle.value_model.proofs.tests.Tests.answer.Goals as goal

pub bounds-answers-test : goal.bounds-answers-test
bounds-answers-test c = (answer_at c.args.self.now c.args.atom c.args.test c.answers.result.now c.answers.ensures c.requires.tested).0

pub returns : goal.returns
returns c = (answer_at c.args.self.now c.args.atom c.args.test c.answers.result.now c.answers.ensures c.requires.tested).1 false
