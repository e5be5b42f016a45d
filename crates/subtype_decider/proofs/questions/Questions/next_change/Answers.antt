use Rattle.std.proofs.Common.{length}
use Rattle.type_diagrams.proofs.Keeping.{extends-within}
use Rattle.subtype_decider.proofs.questions.Questions.next_change.Goals as goal

pub returns-in_err-step-clause-extends : goal.returns-in_err-step-clause-extends
returns-in_err-step-clause-extends g c =
    extends-within (length c.args.call.now.env.now) c.args.self.now.diagrams c.loop-self.self.diagrams c.step.new.self.diagrams c.loop-self.invariant.extends c.step.ensures.extends
