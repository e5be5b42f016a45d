use Rattle.std.proofs.Common.{Bool, rules, subst}
use Rattle.type_diagrams.specs.declared.kind.Kind.TheVariants.{Function as Functions}
use Rattle.type_diagrams.specs.Reach.{Passes}
use Rattle.type_diagrams.specs.Tables.{condition}
use Rattle.type_diagrams.specs.Turns.{Turns}
use Rattle.type_diagrams.proofs.AskedDiagrams.{not_yet, then_all}
use Rattle.type_diagrams.proofs.Reaching.{member-Looks}
use Rattle.subtype_decider.proofs.FunctionPaths.{path-IsReady, too_many-Passes, member-Reached}
use Rattle.subtype_decider.proofs.Passing.{handed}
use Rattle.subtype_decider.proofs.Resting.{rest-grown}
use Rattle.subtype_decider.proofs.Telling.{no_lower}
use Rattle.subtype_decider.proofs.questions.Questions.has_function.Goals as goal

pub loop-turn-init : goal.loop-turn-init
loop-turn-init c = (c.requires.rest, not_yet _ _)

pub settle-requires : goal.settle-requires
settle-requires c = path-IsReady c.args.env.now c.args.path.now c.loop-turn.self c.loop-turn.invariant.0 c.requires.literals

pub returns-in_err-turn-clause-rest : goal.returns-in_err-turn-clause-rest
returns-in_err-turn-clause-rest c = rest-grown c.args.env.now c.loop-turn.self c.settle.new.diagrams c.settle.ensures.extends c.loop-turn.invariant.0

pub returns-in_err-turn-clause-extends : goal.returns-in_err-turn-clause-extends
returns-in_err-turn-clause-extends c = then_all _ _ _ _ c.loop-turn.invariant.1 c.settle.ensures.extends

pub returns-in-Shape-clause-rest : goal.returns-in-Shape-clause-rest
returns-in-Shape-clause-rest c = rest-grown c.args.env.now c.loop-turn.self c.settle.new.diagrams c.settle.ensures.extends c.loop-turn.invariant.0

pub returns-in-Shape-clause-extends : goal.returns-in-Shape-clause-extends
returns-in-Shape-clause-extends c = then_all _ _ _ _ c.loop-turn.invariant.1 c.settle.ensures.extends

pub returns-in-Empty-clause-rest : goal.returns-in-Empty-clause-rest
returns-in-Empty-clause-rest c = rest-grown c.args.env.now c.loop-turn.self c.settle.new.diagrams c.settle.ensures.extends c.loop-turn.invariant.0

pub returns-in-Empty-clause-extends : goal.returns-in-Empty-clause-extends
returns-in-Empty-clause-extends c = then_all _ _ _ _ c.loop-turn.invariant.1 c.settle.ensures.extends

pub returns-in-Empty-clause-some : goal.returns-in-Empty-clause-some
returns-in-Empty-clause-some c x on =
    let env = c.args.env.now in
    let rest = rest-grown env c.loop-turn.self c.settle.new.diagrams c.settle.ensures.extends c.loop-turn.invariant.0 in
    let turn = subst (Turns env c.settle.new.diagrams c.loop-turn.self.table Functions c.args.path.now) c.in-Empty.is c.in_ok-turn.ensures.turn in
    no_lower env c.settle.new.diagrams c.loop-turn.self.table rest.closed x (turn x on)

pub learn-requires-clause-rest : goal.learn-requires-clause-rest
learn-requires-clause-rest c = rest-grown c.args.env.now c.loop-turn.self c.settle.new.diagrams c.settle.ensures.extends c.loop-turn.invariant.0

pub learn-requires-clause-looks : goal.learn-requires-clause-looks
learn-requires-clause-looks c =
    let env = c.args.env.now in
    let turn = subst (Turns env c.settle.new.diagrams c.loop-turn.self.table Functions c.args.path.now) c.in-Ask.is c.in_ok-turn.ensures.turn in
    member-Looks env Functions c.args.path.now (condition c.settle.new.diagrams c.in-Ask.question) turn.2

pub loop-turn-smaller : goal.loop-turn-smaller
loop-turn-smaller c = c.in_ok-learn-in-Ask.ensures.less

pub loop-turn-preserved : goal.loop-turn-preserved
loop-turn-preserved c = (c.in_ok-learn-in-Ask.ensures.rest, then_all _ _ _ _ c.loop-turn.invariant.1 (then_all _ _ _ _ c.settle.ensures.extends c.learn.ensures.extends))

pub returns-in_err-learn-in-Ask-clause-extends : goal.returns-in_err-learn-in-Ask-clause-extends
returns-in_err-learn-in-Ask-clause-extends c = then_all _ _ _ _ c.loop-turn.invariant.1 (then_all _ _ _ _ c.settle.ensures.extends c.learn.ensures.extends)

pub returns-in_err-turn-clause-limit : goal.returns-in_err-turn-clause-limit
returns-in_err-turn-clause-limit c asked question reached path =
    let h = handed Bool _ (Passes c.args.env.now asked) c.settle.result c.in_err-turn.field-0.0 c.in_err-turn.was (too_many-Passes c.args.env.now c.args.path.now asked question reached path) c.settle.ensures.limit in
    search rules

pub returns-in_err-learn-in-Ask-clause-limit : goal.returns-in_err-learn-in-Ask-clause-limit
returns-in_err-learn-in-Ask-clause-limit c asked question reached path =
    let env = c.args.env.now in
    let turn = subst (Turns env c.settle.new.diagrams c.loop-turn.self.table Functions c.args.path.now) c.in-Ask.is c.in_ok-turn.ensures.turn in
    let Is = Passes env asked in
    let d = condition c.settle.new.diagrams c.in-Ask.question in
    let h = handed Bool Is Is c.learn.result c.in_err-learn-in-Ask.field-0.0 c.in_err-learn-in-Ask.was (λ l p. p) (c.learn.ensures.limit asked (member-Reached env c.args.path.now asked question reached path d turn.2)) in
    search rules
