use Rattle.std.proofs.Common.{subst, rules, All, Contains, Err}
use Rattle.bal_base.specs.Stops.{IfFault}
use Rattle.type_model.specs.declared.basic.SemType.{SemType}
use Rattle.type_model.specs.declared.answers.TypeLimit.{TypeLimit}
use Rattle.type_model.specs.Calls.{Alone}
use Rattle.type_model.specs.Inclusion.{HasExactly}
use Rattle.type_model.specs.Parts.{StandsAt}
use Rattle.type_diagrams.specs.Reach.{Passes}
use Rattle.type_diagrams.specs.Tables.{condition}
use Rattle.subtype_decider.specs.Deciders.{Findings}
use Rattle.subtype_decider.proofs.Answering.{alone-Reached, kept_as}
use Rattle.subtype_decider.proofs.Passing.{handed}
use Rattle.subtype_decider.proofs.Projected.{written-HasExactly}
use Rattle.subtype_decider.proofs.decider.Decider.member.Goals as goal

pub returns-in_err-question-clause-kept : goal.returns-in_err-question-clause-kept
returns-in_err-question-clause-kept c =
    subst (λ (f : Findings). All (Contains c.of.new.self.table) f.table) c.self.view_is (kept_as c.self.inside.questions.table c.of.new.self.table c.of.ensures.table)

pub returns-in_err-parts-clause-kept : goal.returns-in_err-parts-clause-kept
returns-in_err-parts-clause-kept c =
    subst (λ (f : Findings). All (Contains c.project.new.self.table) f.table) c.self.view_is (subst (All (Contains c.project.new.self.table)) c.of.ensures.table c.project.ensures.kept)

pub returns-in_err-parts-clause-limit : goal.returns-in_err-parts-clause-limit
returns-in_err-parts-clause-limit c =
    let t = c.args.t.now in
    let env = c.self.inside.env in
    let limit = c.project.ensures.limit (Alone t) (alone-Reached env t (condition c.of.new.self.diagrams c.in_ok-question.question) c.in_ok-question.ensures.gives.condition) in
    let h = subst (λ (f : Findings). IfFault {T = SemType} {F = TypeLimit} (Err c.in_err-parts.field-0.0) (Passes f.atoms (Alone t))) c.self.view_is
    (handed SemType (Passes env (Alone t)) (Passes env (Alone t)) c.project.result c.in_err-parts.field-0.0 c.in_err-parts.was (λ l p. p) limit) in
    search rules

pub returns-in_err-type_of-clause-kept : goal.returns-in_err-type_of-clause-kept
returns-in_err-type_of-clause-kept c =
    subst (λ (f : Findings). All (Contains c.project.new.self.table) f.table) c.self.view_is (subst (All (Contains c.project.new.self.table)) c.of.ensures.table c.project.ensures.kept)

pub returns-clause-kept : goal.returns-clause-kept
returns-clause-kept c =
    subst (λ (f : Findings). All (Contains c.project.new.self.table) f.table) c.self.view_is (subst (All (Contains c.project.new.self.table)) c.of.ensures.table c.project.ensures.kept)

pub returns-clause-shapes : goal.returns-clause-shapes
returns-clause-shapes c =
    let t = c.args.t.now in
    let env = c.self.inside.env in
    let keys = c.args.keys.now in
    let parts = c.in_ok-parts.ensures.parts in
    subst (λ (f : Findings). HasExactly f.atoms c.in_ok-type_of.field-0 (StandsAt f.atoms t keys)) c.self.view_is
    (written-HasExactly env c.project.new.self.diagrams (condition c.of.new.self.diagrams c.in_ok-question.question) keys c.in_ok-parts.parts t c.in_ok-type_of.field-0
    parts (c.in_ok-type_of.ensures.shapes env c.defs-atoms.ensures.env.bound parts.looks) c.in_ok-question.ensures.shapes)
