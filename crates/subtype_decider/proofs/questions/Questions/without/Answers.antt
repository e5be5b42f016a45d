use Rattle.std.proofs.Common.{length}
use Rattle.type_diagrams.proofs.Keeping.{extends-within, extends-more}
use Rattle.subtype_decider.proofs.Resting.{rest-grown}
use Rattle.subtype_decider.proofs.questions.Questions.without.Goals as goal

pub returns-clause-rest : goal.returns-clause-rest
returns-clause-rest c =
    let n = length c.args.env.now in
    rest-grown c.args.env.now c.of-2.new.self c.diff.new.self (extends-more n c.of-2.new.self.diagrams c.diff.new.self c.diff.ensures.extends) c.of-2.ensures.rest

pub returns-clause-extends : goal.returns-clause-extends
returns-clause-extends c =
    let n = length c.args.env.now in
    let made = extends-more n c.of-2.new.self.diagrams c.diff.new.self c.diff.ensures.extends in
    extends-within n c.args.self.now.diagrams c.of.new.self.diagrams c.diff.new.self c.of.ensures.extends (extends-within n c.of.new.self.diagrams c.of-2.new.self.diagrams c.diff.new.self c.of-2.ensures.extends made)
