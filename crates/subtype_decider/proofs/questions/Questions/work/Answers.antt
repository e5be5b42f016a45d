use Rattle.std.proofs.Common.{length, ◌∙◌}
use Rattle.type_diagrams.proofs.Keeping.{extends-within}
use Rattle.subtype_decider.proofs.questions.Questions.work.Goals as goal

pub returns-in_err-next_change-clause-extends : goal.returns-in_err-next_change-clause-extends
returns-in_err-next_change-clause-extends g c =
    extends-within (length c.args.call.now.env.now) c.args.self.now.diagrams c.loop-self.self.diagrams c.next_change.new.self.diagrams c.loop-self.invariant.extends c.next_change.ensures.extends

pub returns-then-has_shape-clause-extends : goal.returns-then-has_shape-clause-extends
returns-then-has_shape-clause-extends g c =
    extends-within (length c.args.call.now.env.now) c.args.self.now.diagrams c.loop-self.self.diagrams c.next_change.new.self.diagrams c.loop-self.invariant.extends c.next_change.ensures.extends

pub loop-self-preserved : goal.loop-self-preserved
loop-self-preserved g c = record {
  extends = extends-within (length c.args.call.now.env.now) c.args.self.now.diagrams c.loop-self.self.diagrams c.next_change.new.self.diagrams c.loop-self.invariant.extends c.next_change.ensures.extends;
  began = c.next_change.ensures.began ∙ c.loop-self.invariant.began;
  working = c.in_ok-next_change.ensures.working;
  knows = c.in_ok-next_change.ensures.knows c.args.call.now.first c.loop-self.invariant.knows;
}
