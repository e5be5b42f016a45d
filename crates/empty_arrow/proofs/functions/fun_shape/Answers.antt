use Rattle.std.proofs.Common.{All, sym, ◌∙◌, subst}
use Rattle.type_diagrams.specs.declared.kind.Kind.TheVariants.{Function as Functions}
use Rattle.type_diagrams.specs.Members.{atoms_in}
use Rattle.empty_arrow.specs.Arrows.{IsArrow}
use Rattle.empty_arrow.specs.Graphs.{TellsGraph}
use Rattle.empty_arrow.proofs.FunctionTurns.{graph-Turns}
use Rattle.empty_arrow.proofs.GraphLaws.{no_marked_function}
use Rattle.type_diagrams.proofs.Tellings.{sound-keeps}
use Rattle.type_diagrams.proofs.PathShapes.{atoms-are}
use Rattle.type_diagrams.proofs.AskedDiagrams.{then_all}
use Rattle.empty_arrow.proofs.functions.fun_shape.Goals as goal

pub graph-requires-clause-wanted : goal.graph-requires-clause-wanted
graph-requires-clause-wanted g c =
    let env = c.args.env.now in
    subst (All (IsArrow env)) (sym (c.deref.ensures.value ∙ c.in_ok-wanted.ensures)) (atoms-are env Functions c.args.path.now.pos c.requires.literals.holding)

pub graph-requires-clause-unwanted : goal.graph-requires-clause-unwanted
graph-requires-clause-unwanted g c =
    let env = c.args.env.now in
    subst (All (IsArrow env)) (sym (c.deref-2.ensures.value ∙ c.in_ok-unwanted.ensures)) (atoms-are env Functions c.args.path.now.neg c.requires.literals.failing)

pub graph-requires-clause-sound : goal.graph-requires-clause-sound
graph-requires-clause-sound g c = sound-keeps c.args.env.now c.args.dia.now c.base_of.new.dia (g.M.Member.kept c.args.m.now) c.base_of.ensures.extends.keeps c.requires.sound

pub returns-then-is_marked-clause-turns : goal.returns-then-is_marked-clause-turns
returns-then-is_marked-clause-turns g c =
    λ x on. absurd (no_marked_function c.args.env.now c.args.path.now (sym c.is_marked.ensures ∙ c.if-is_marked.true) x on.1)

pub returns-in_err-turn-clause-extends : goal.returns-in_err-turn-clause-extends
returns-in_err-turn-clause-extends g c = then_all _ _ _ _ c.base_of.ensures.extends c.graph.ensures.extends

pub returns-clause-extends : goal.returns-clause-extends
returns-clause-extends g c = then_all _ _ _ _ c.base_of.ensures.extends c.graph.ensures.extends

pub returns-clause-turns : goal.returns-clause-turns
returns-clause-turns g c =
    let env = c.args.env.now in
    let p = c.args.path.now in
    let kept = g.M.Member.kept c.args.m.now in
    let wanted = c.deref.ensures.value ∙ c.in_ok-wanted.ensures in
    let unwanted = c.deref-2.ensures.value ∙ c.in_ok-unwanted.ensures in
    graph-Turns env c.in_ok-turn.ensures.few c.graph.new.dia kept p
    (atoms-are env Functions p.pos c.requires.literals.holding)
    (atoms-are env Functions p.neg c.requires.literals.failing)
    (sym c.is_marked.ensures ∙ c.if-is_marked.false) c.in_ok-turn.turn
    (subst (λ ws. TellsGraph env c.graph.new.dia kept ws (atoms_in p.neg) c.in_ok-turn.turn) wanted
    (subst (λ us. TellsGraph env c.graph.new.dia kept c.deref.result.now us c.in_ok-turn.turn) unwanted c.in_ok-turn.ensures.tells))
