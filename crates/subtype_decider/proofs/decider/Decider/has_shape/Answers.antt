use Rattle.std.proofs.Common.{subst, All, Contains}
use Rattle.bal_base.specs.Stops.{IfFault}
use Rattle.type_model.specs.Calls.{Alone}
use Rattle.type_diagrams.specs.Reach.{Passes}
use Rattle.type_diagrams.specs.Tables.{condition}
use Rattle.subtype_decider.specs.Deciders.{Findings}
use Rattle.subtype_decider.proofs.Answering.{alone-Reached, kept_as}
use Rattle.subtype_decider.proofs.decider.Decider.has_shape.Goals as goal

pub returns-clause-limit : goal.returns-clause-limit
returns-clause-limit c =
    let t = c.args.t.now in
    let env = c.self.inside.env in
    subst (λ (f : Findings). IfFault c.find.result (Passes f.atoms (Alone t))) c.self.view_is
    (c.find.ensures.limit (Alone t) (alone-Reached env t (condition c.of.new.self.diagrams c.in_ok-question.question) c.in_ok-question.ensures.gives.condition))

pub returns-in_err-question-clause-kept : goal.returns-in_err-question-clause-kept
returns-in_err-question-clause-kept c =
    subst (λ (f : Findings). All (Contains c.of.new.self.table) f.table) c.self.view_is (kept_as c.self.inside.questions.table c.of.new.self.table c.of.ensures.table)

pub returns-clause-kept : goal.returns-clause-kept
returns-clause-kept c =
    subst (λ (f : Findings). All (Contains c.find.new.self.table) f.table) c.self.view_is (subst (All (Contains c.find.new.self.table)) c.of.ensures.table c.find.ensures.kept)
