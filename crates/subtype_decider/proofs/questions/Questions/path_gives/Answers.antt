use Rattle.std.proofs.Common.{[], All, Option, rules, sym, subst, ◌∙◌}
use Rattle.bal_base.specs.declared.shape.Shape.{Shape}
use Rattle.type_diagrams.specs.declared.kind.Kind.TheVariants.{Function as Functions}
use Rattle.type_diagrams.specs.Reach.{Passes}
use Rattle.type_diagrams.specs.Tables.{condition}
use Rattle.type_diagrams.specs.Turns.{IsShapeOn}
use Rattle.type_diagrams.proofs.AskedDiagrams.{then_all}
use Rattle.type_diagrams.proofs.PathShapes.{atoms-are}
use Rattle.type_diagrams.proofs.Shapes.{IfOk-map}
use Rattle.empty_arrow.specs.Arrows.{IsArrow}
use Rattle.empty_arrow.specs.Giving.{TellsGiven, TellsResults}
use Rattle.empty_arrow.specs.Pairs.{AsksArguments}
use Rattle.empty_arrow.proofs.GivenPaths.{no_functions, path-TellsResults}
use Rattle.subtype_decider.proofs.ArrowSteps.{told-none, told-some}
use Rattle.subtype_decider.proofs.Passing.{handed}
use Rattle.subtype_decider.proofs.questions.Questions.path_gives.Goals as goal

pub returns-in_err-has_function-clause-limit : goal.returns-in_err-has_function-clause-limit
returns-in_err-has_function-clause-limit c asked leads =
    let Is = Passes c.args.env.now asked in
    let h = handed (Option Shape) Is Is c.has_function.result c.in_err-has_function.field-0.0 c.in_err-has_function.was (λ l p. p) (c.has_function.ensures.limit asked leads.question leads.reached leads.path) in
    search rules

pub returns-then-not-branch-clause-gives : goal.returns-then-not-branch-clause-gives
returns-then-not-branch-clause-gives c =
    let env = c.args.env.now in
    let On = IsShapeOn env Functions c.args.path.now in
    no_functions env On (condition c.args.self.now.diagrams c.args.arguments) c.args.results.now.items (told-none On c.in_ok-has_function.field-0 c.if-not-branch.true c.in_ok-has_function.ensures.some)

pub arrows_give-requires-clause-arrows : goal.arrows_give-requires-clause-arrows
arrows_give-requires-clause-arrows c =
    subst (All (IsArrow c.args.env.now)) (sym (c.deref.ensures.value ∙ c.in_ok-wanted.ensures)) (atoms-are c.args.env.now Functions c.args.path.now.pos c.requires.literals.holding)

pub returns-clause-extends : goal.returns-clause-extends
returns-clause-extends c = then_all _ _ _ _ c.has_function.ensures.extends c.arrows_give.ensures.extends

pub returns-clause-gives : goal.returns-clause-gives
returns-clause-gives c =
    let env = c.args.env.now in
    let p = c.args.path.now in
    let On = IsShapeOn env Functions p in
    let old = c.args.self.now.diagrams in
    let now = c.has_function.new.self.diagrams in
    let of = condition old c.args.arguments in
    let begun = c.args.results.now.items in
    let new = c.arrows_give.new.results.items in
    let same = c.has_function.ensures.extends.keeps.conditions c.args.arguments c.requires.diagram in
    let f = told-some On c.in_ok-has_function.field-0 c.if-not-branch.false c.in_ok-has_function.ensures.some in
    IfOk-map (TellsGiven env (condition now c.args.arguments) c.new-taken.result.items c.deref.result.now begun new) (TellsResults env On of begun new)
    (λ o h. path-TellsResults env c.requires.few p (atoms-are env Functions p.pos c.requires.literals.holding) (atoms-are env Functions p.neg c.requires.literals.failing) c.requires.short of c.requires.lists f.0 f.1 begun new o
    (subst (λ xs. TellsGiven env of [] xs begun new o) (c.deref.ensures.value ∙ c.in_ok-wanted.ensures) (subst (λ ts. TellsGiven env of ts c.deref.result.now begun new o) c.new-taken.ensures.items (subst (λ d. TellsGiven env d c.new-taken.result.items c.deref.result.now begun new o) same h))))
    c.arrows_give.result c.arrows_give.ensures.gives

pub returns-clause-limit : goal.returns-clause-limit
returns-clause-limit c asked leads =
    let env = c.args.env.now in
    let same = c.has_function.ensures.extends.keeps.conditions c.args.arguments c.requires.diagram in
    c.arrows_give.ensures.limit asked (λ d a. leads.arguments d (subst (λ xs. AsksArguments env (condition c.args.self.now.diagrams c.args.arguments) xs d) (c.deref.ensures.value ∙ c.in_ok-wanted.ensures) (subst (λ e. AsksArguments env e c.deref.result.now d) same a)))
