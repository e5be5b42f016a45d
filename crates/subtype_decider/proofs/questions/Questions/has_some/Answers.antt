use Rattle.std.proofs.Common.{Bool, rules, sym, subst}
use Rattle.std.specs.Option.{option_copied}
use Rattle.type_diagrams.specs.Conditions.{IsShapeOf}
use Rattle.type_diagrams.specs.Reach.{Passes}
use Rattle.type_diagrams.specs.Tables.{condition}
use Rattle.subtype_decider.specs.Closed.{FindsShapeOf, TellsSome}
use Rattle.subtype_decider.proofs.Passing.{handed}
use Rattle.subtype_decider.proofs.Telling.{found-TellsSome}
use Rattle.subtype_decider.proofs.questions.Questions.has_some.Goals as goal

pub returns-in_err-decide-clause-limit : goal.returns-in_err-decide-clause-limit
returns-in_err-decide-clause-limit c asked reached =
    let h = handed Bool (Passes c.args.env.now asked) (Passes c.args.env.now asked) c.decide.result c.in_err-decide.field-0.0 c.in_err-decide.was (λ l p. p) (c.decide.ensures.limit asked reached) in
    search rules

pub returns-clause-some : goal.returns-clause-some
returns-clause-some c =
    let env = c.args.env.now in
    let of = condition c.args.self.now.diagrams c.args.question in
    let found = subst (λ d. FindsShapeOf env d (option_copied c.shape.result)) (c.decide.ensures.extends.keeps.conditions c.args.question c.requires.diagram) (c.shape.ensures env c.decide.ensures.rest) in
    subst (TellsSome (IsShapeOf env of)) (sym c.is_some.ensures) (found-TellsSome env of c.shape.result found)
