use Rattle.std.proofs.Common.{[], get_or, length, ◌≤◌, All, Option, rules, arith, sym, subst}
use Rattle.std.proofs.lemmas.List.Elements.{All-tail}
use Rattle.bal_base.specs.declared.shape.Shape.{Shape}
use Rattle.type_diagrams.specs.Conditions.{IsShapeOf}
use Rattle.type_diagrams.specs.Reach.{Passes}
use Rattle.type_diagrams.specs.Tables.{condition}
use Rattle.type_diagrams.proofs.Shapes.{IfOk-map}
use Rattle.empty_arrow.specs.Arrows.{IsArrow}
use Rattle.empty_arrow.specs.Giving.{TellsGiven}
use Rattle.empty_arrow.proofs.Giving.{no_arguments}
use Rattle.empty_arrow.proofs.PairSteps.{rest_of, first-rest}
use Rattle.subtype_decider.specs.Closed.{FindsShapeOf}
use Rattle.subtype_decider.proofs.ArrowSteps.{told-some, told-none, found-TellsGiven, given-TellsGiven}
use Rattle.subtype_decider.proofs.Passing.{handed}
use Rattle.subtype_decider.proofs.questions.Questions.taken_give.Goals as goal

pub returns-in_err-has_some-in-len1-up-clause-limit : goal.returns-in_err-has_some-in-len1-up-clause-limit
returns-in_err-has_some-in-len1-up-clause-limit c asked reached =
    let Is = Passes c.args.env.now asked in
    let h = handed (Option Shape) Is Is c.has_some.result c.in_err-has_some-in-len1-up.field-0.0 c.in_err-has_some-in-len1-up.was (λ l p. p) (c.has_some.ensures.limit asked reached) in
    search rules

pub returns-then-not-branch-clause-gives : goal.returns-then-not-branch-clause-gives
returns-then-not-branch-clause-gives c =
    let env = c.args.env.now in
    let of = condition c.args.self.now.diagrams c.args.arguments in
    no_arguments env of c.args.taken.now [] c.args.results.now.items (told-none (IsShapeOf env of) c.in_ok-has_some-in-len1-up.field-0 c.if-not-branch.true c.in_ok-has_some-in-len1-up.ensures.some)

pub all_outcomes-requires-clause-others : goal.all_outcomes-requires-clause-others
all_outcomes-requires-clause-others c =
    let env = c.args.env.now in
    let taken = c.args.taken.now in
    let some : 1 ≤ length taken = omega arith in
    subst (λ e. All (IsArrow e) (rest_of taken)) (sym c.defs.ensures.value) (All-tail (IsArrow env) (get_or taken 0 0) (rest_of taken) (subst (All (IsArrow env)) (first-rest taken some) c.requires.taken))

pub returns-in-empty-clause-gives : goal.returns-in-empty-clause-gives
returns-in-empty-clause-gives c =
    let env = c.args.env.now in
    let of = condition c.args.self.now.diagrams c.args.arguments in
    let types = c.args.results.now.items in
    IfOk-map (FindsShapeOf env of) (TellsGiven env of c.args.taken.now [] types types) (found-TellsGiven env of c.args.taken.now types c.in-empty.len_below) c.find.result c.find.ensures.found

pub returns-in_ok-push-in-len1-up-clause-gives : goal.returns-in_ok-push-in-len1-up-clause-gives
returns-in_ok-push-in-len1-up-clause-gives c =
    let env = c.args.env.now in
    let of = condition c.args.self.now.diagrams c.args.arguments in
    let shape = told-some (IsShapeOf env of) c.in_ok-has_some-in-len1-up.field-0 c.if-not-branch.false c.in_ok-has_some-in-len1-up.ensures.some in
    given-TellsGiven env of c.args.taken.now c.args.results.now.items c.push.new.self.items c.in_ok-all_outcomes-in-len1-up.field-0 c.defs.result.now (omega arith) c.defs.ensures.value c.requires.lists shape c.in_ok-all_outcomes-in-len1-up.ensures c.in_ok-push-in-len1-up.ensures.items
