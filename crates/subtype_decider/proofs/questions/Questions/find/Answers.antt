use Rattle.std.proofs.Common.{Option, rules, subst}
use Rattle.bal_base.specs.declared.shape.Shape.{Shape}
use Rattle.type_diagrams.specs.Reach.{Passes}
use Rattle.type_diagrams.specs.Tables.{condition}
use Rattle.type_diagrams.specs.Conditions.{IsShapeOf}
use Rattle.type_diagrams.proofs.Copied.{IsShapeOf-copied}
use Rattle.subtype_decider.proofs.Passing.{handed}
use Rattle.subtype_decider.proofs.questions.Questions.find.Goals as goal

pub returns-in_err-decide-clause-limit : goal.returns-in_err-decide-clause-limit
returns-in_err-decide-clause-limit g c asked reached =
    let h = handed (Option Shape) (Passes c.args.env.now asked) (Passes c.args.env.now asked) c.decide.result c.in_err-decide.field-0.0 c.in_err-decide.was (λ l p. p) (c.decide.ensures.limit asked reached) in
    search rules

pub returns-in_ok-copied-in-Some-clause-found : goal.returns-in_ok-copied-in-Some-clause-found
returns-in_ok-copied-in-Some-clause-found g c =
    let env = c.args.env.now in
    let found = c.in-Some.ensures env c.decide.ensures.rest in
    let x = IsShapeOf-copied env c.in-Some.shape.now c.in_ok-copied-in-Some.field-0 c.in_ok-copied-in-Some.ensures (condition c.decide.new.self.diagrams c.args.question) found in
    subst (λ d. IsShapeOf env d c.in_ok-copied-in-Some.field-0) (c.decide.ensures.extends.keeps.conditions c.args.question c.requires.diagram) x
