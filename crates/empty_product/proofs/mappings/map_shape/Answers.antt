use Rattle.std.proofs.Common.{All, sym, subst, ◌∙◌}
use Rattle.std.proofs.lemmas.Bool.{false≢true}
use Rattle.type_diagrams.specs.declared.kind.Kind.TheVariants.{Mapping as Mappings}
use Rattle.type_diagrams.specs.Members.{IsMappingOutOfPlay, atoms_in}
use Rattle.type_diagrams.proofs.AskedDiagrams.{then_all}
use Rattle.type_diagrams.proofs.PathShapes.{atoms-are, has_mark}
use Rattle.type_diagrams.proofs.Shapes.{IfOk-map}
use Rattle.empty_product.specs.Mappings.{TellsMappings}
use Rattle.empty_product.specs.Play.{AreInPlay, IsMappingAtom}
use Rattle.empty_product.proofs.MappingBodies.{playing-are}
use Rattle.empty_product.proofs.MappingTurns.{mappings-Turns}
use Rattle.empty_product.proofs.MarkedPaths.{no_mark_both_ways}
use Rattle.empty_product.proofs.mappings.map_shape.Goals as goal

pub returns-then-has_both_marks-clause-turns : goal.returns-then-has_both_marks-clause-turns
returns-then-has_both_marks-clause-turns g c = λ x on.
    let both = c.has_both_marks.ensures.0 c.if-has_both_marks.true in
    absurd (no_mark_both_ways c.args.env.now Mappings c.args.path.now x both.0 both.1 on.1)

pub mappings_in_play-requires-clause-wanted : goal.mappings_in_play-requires-clause-wanted
mappings_in_play-requires-clause-wanted g c = subst (All (IsMappingAtom c.args.env.now)) (sym (c.as_slice-wanted.ensures.value ∙ c.in_ok-holding.ensures)) (atoms-are c.args.env.now Mappings c.args.path.now.pos c.requires.literals.holding)

pub mappings_in_play-requires-clause-unwanted : goal.mappings_in_play-requires-clause-unwanted
mappings_in_play-requires-clause-unwanted g c = subst (All (IsMappingAtom c.args.env.now)) (sym (c.as_slice.ensures.value ∙ c.in_ok-failing.ensures)) (atoms-are c.args.env.now Mappings c.args.path.now.neg c.requires.literals.failing)

pub settled-requires-clause-wanted : goal.settled-requires-clause-wanted
settled-requires-clause-wanted g c = subst (All (IsMappingAtom c.args.env.now)) (sym (c.as_slice-wanted.ensures.value ∙ c.in_ok-holding.ensures)) (atoms-are c.args.env.now Mappings c.args.path.now.pos c.requires.literals.holding)

pub settled-requires-clause-unwanted : goal.settled-requires-clause-unwanted
settled-requires-clause-unwanted g c =
    let env = c.args.env.now in
    let all = subst (All (IsMappingAtom env)) (sym (c.as_slice.ensures.value ∙ c.in_ok-failing.ensures)) (atoms-are env Mappings c.args.path.now.neg c.requires.literals.failing) in
    subst (All (IsMappingAtom env)) (sym c.as_slice-unwanted.ensures.value) (playing-are (IsMappingAtom env) (IsMappingOutOfPlay env c.as_slice-wanted.result.now) c.as_slice.result.now c.in_ok-playing.playing.items c.in_ok-playing.ensures.playing all)

pub returns-clause-extends : goal.returns-clause-extends
returns-clause-extends g c = then_all _ _ _ _ c.mappings_in_play.ensures.extends c.settled.ensures.extends

pub returns-clause-turns : goal.returns-clause-turns
returns-clause-turns g c =
    let env = c.args.env.now in
    let p = c.args.path.now in
    let kept = g.M.Member.kept c.args.m.now in
    let new = c.settled.new.dia in
    let playing = c.in_ok-playing.playing.items in
    let wanted = c.as_slice-wanted.ensures.value ∙ c.in_ok-holding.ensures in
    let play = subst (λ ws. AreInPlay (IsMappingOutOfPlay env ws) (atoms_in p.neg) playing) wanted (subst (λ us. AreInPlay (IsMappingOutOfPlay env c.as_slice-wanted.result.now) us playing) (c.as_slice.ensures.value ∙ c.in_ok-failing.ensures) c.in_ok-playing.ensures.playing) in
    IfOk-map _ _ (λ turn h. mappings-Turns env c.in_ok-playing.ensures.few new kept p c.requires.literals playing play (λ both. false≢true (sym c.if-has_both_marks.false ∙ c.has_both_marks.ensures.1 both)) turn
    (subst (λ ws. TellsMappings env ws (has_mark p) new kept playing turn) wanted
    (subst (λ m. TellsMappings env c.as_slice-wanted.result.now m new kept playing turn) c.is_marked.ensures
    (subst (λ us. TellsMappings env c.as_slice-wanted.result.now c.is_marked.result new kept us turn) c.as_slice-unwanted.ensures.value h))))
    c.settled.result c.settled.ensures.tells
