use Rattle.std.proofs.Common.{◌≡◌, IfOk, length, subst}
use Rattle.type_model.specs.Defined.{IsDefined}
use Rattle.type_model.specs.Inclusion.{HaveSameShapes}
use Rattle.type_model.specs.Membership.{In}
use Rattle.type_diagrams.specs.Tables.{condition}
use Rattle.type_diagrams.specs.Whole.{IsMetWhere}
use Rattle.type_diagrams.proofs.Shapes.{IfOk-map}
use Rattle.subtype_decider.specs.Deciders.{Findings}
use Rattle.subtype_decider.proofs.Answering.{met-HaveSameShapes}
use Rattle.subtype_decider.proofs.decider.Decider.compact.Goals as goal

pub returns-in_err-question-clause-table : goal.returns-in_err-question-clause-table
returns-in_err-question-clause-table c = subst (λ (f : Findings). c.of.new.self.table ≡ f.table) c.self.view_is c.of.ensures.table

pub returns-clause-table : goal.returns-clause-table
returns-clause-table c = subst (λ (f : Findings). c.of.new.self.table ≡ f.table) c.self.view_is c.of.ensures.table

pub returns-clause-defined : goal.returns-clause-defined
returns-clause-defined c =
    subst (λ (f : Findings). IfOk c.type_of.result (IsDefined f.atoms)) c.self.view_is (c.type_of.ensures.names (length c.self.inside.env) c.of.ensures.rest.defined)

pub returns-clause-shapes : goal.returns-clause-shapes
returns-clause-shapes c =
    let env = c.self.inside.env in
    let t = c.args.t.now in
    let of = condition c.of.new.self.diagrams c.in_ok-question.question in
    subst (λ (f : Findings). IfOk c.type_of.result (λ s. HaveSameShapes f.atoms s t)) c.self.view_is
    (IfOk-map (λ s. IsMetWhere env of (λ x. In env x s)) _ (λ s met. met-HaveSameShapes env s t of met c.in_ok-question.ensures.shapes)
    c.type_of.result (c.type_of.ensures.shapes env c.defs-atoms.ensures.env.bound c.in_ok-question.ensures.looks))
