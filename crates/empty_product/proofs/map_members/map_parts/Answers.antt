use Rattle.std.proofs.Common.{◌++◌, All, sym, subst, ◌∙◌}
use Rattle.std.specs.Option.{option_copied}
use Rattle.std.proofs.lemmas.Bool.{false≢true}
use Rattle.type_diagrams.specs.declared.kind.Kind.TheVariants.{Mapping as Mappings}
use Rattle.type_diagrams.specs.Conditions.{nothing}
use Rattle.type_diagrams.specs.Members.{IsMappingOutOfPlay, atoms_in}
use Rattle.type_diagrams.proofs.AskedDiagrams.{then_all}
use Rattle.type_diagrams.proofs.Parts.{nothing-AreParts}
use Rattle.type_diagrams.proofs.Keeping.{extends-more}
use Rattle.type_diagrams.proofs.PathShapes.{atoms-are}
use Rattle.type_diagrams.proofs.Shapes.{IfOk-map, gives-keeps}
use Rattle.type_diagrams.proofs.Tellings.{sound-keeps}
use Rattle.empty_product.specs.MemberParts.{AreAskedKeys, TellsParts}
use Rattle.empty_product.specs.Play.{AreInPlay, IsMappingAtom}
use Rattle.empty_product.proofs.MappingBodies.{playing-are}
use Rattle.empty_product.proofs.MappingKeys.{parts-Project}
use Rattle.empty_product.proofs.MarkedPaths.{no_mark_both_ways}
use Rattle.empty_product.proofs.map_members.map_parts.Goals as goal

pub returns-in_err-never-clause-extends : goal.returns-in_err-never-clause-extends
returns-in_err-never-clause-extends g c = extends-more _ _ _ c.nothing.ensures.extends

pub returns-then-has_both_marks-clause-extends : goal.returns-then-has_both_marks-clause-extends
returns-then-has_both_marks-clause-extends g c = extends-more _ _ _ c.nothing.ensures.extends

pub returns-then-has_both_marks-clause-projects : goal.returns-then-has_both_marks-clause-projects
returns-then-has_both_marks-clause-projects g c =
    let env = c.args.env.now in
    let p = c.args.path.now in
    let kept = g.M.Member.kept c.args.m.now in
    let both = c.has_both_marks.ensures.0 c.if-has_both_marks.true in
    nothing-AreParts env c.nothing.new.self kept Mappings p _ c.in_ok-never.never c.in_ok-never.ensures.condition
    (λ x on. absurd (no_mark_both_ways env Mappings p x both.0 both.1 on.1))

pub mappings_in_play-requires-clause-wanted : goal.mappings_in_play-requires-clause-wanted
mappings_in_play-requires-clause-wanted g c = subst (All (IsMappingAtom c.args.env.now)) (sym (c.as_slice-wanted.ensures.value ∙ c.in_ok-holding.ensures)) (atoms-are c.args.env.now Mappings c.args.path.now.pos c.requires.literals.holding)

pub mappings_in_play-requires-clause-unwanted : goal.mappings_in_play-requires-clause-unwanted
mappings_in_play-requires-clause-unwanted g c = subst (All (IsMappingAtom c.args.env.now)) (sym (c.as_slice.ensures.value ∙ c.in_ok-failing.ensures)) (atoms-are c.args.env.now Mappings c.args.path.now.neg c.requires.literals.failing)

pub returns-in_err-playing-clause-extends : goal.returns-in_err-playing-clause-extends
returns-in_err-playing-clause-extends g c = then_all _ _ _ _ (extends-more _ _ _ c.nothing.ensures.extends) c.mappings_in_play.ensures.extends

pub asked_keys-requires-clause-wanted : goal.asked_keys-requires-clause-wanted
asked_keys-requires-clause-wanted g c = subst (All (IsMappingAtom c.args.env.now)) (sym (c.as_slice-wanted.ensures.value ∙ c.in_ok-holding.ensures)) (atoms-are c.args.env.now Mappings c.args.path.now.pos c.requires.literals.holding)

pub asked_keys-requires-clause-unwanted : goal.asked_keys-requires-clause-unwanted
asked_keys-requires-clause-unwanted g c =
    let env = c.args.env.now in
    let all = subst (All (IsMappingAtom env)) (sym (c.as_slice.ensures.value ∙ c.in_ok-failing.ensures)) (atoms-are env Mappings c.args.path.now.neg c.requires.literals.failing) in
    subst (All (IsMappingAtom env)) (sym c.as_slice-unwanted.ensures.value) (playing-are (IsMappingAtom env) (IsMappingOutOfPlay env c.as_slice-wanted.result.now) c.as_slice.result.now c.in_ok-playing.playing.items c.in_ok-playing.ensures.playing all)

pub returns-in_err-keys-clause-extends : goal.returns-in_err-keys-clause-extends
returns-in_err-keys-clause-extends g c = then_all _ _ _ _ (extends-more _ _ _ c.nothing.ensures.extends) c.mappings_in_play.ensures.extends

pub parts_at_keys-requires-clause-play : goal.parts_at_keys-requires-clause-play
parts_at_keys-requires-clause-play g c =
    let env = c.args.env.now in
    let p = c.args.path.now in
    let playing = c.in_ok-playing.playing.items in
    subst (AreInPlay (IsMappingOutOfPlay env (atoms_in p.pos)) (atoms_in p.neg)) (sym c.as_slice-unwanted.ensures.value)
    (subst (λ ws. AreInPlay (IsMappingOutOfPlay env ws) (atoms_in p.neg) playing) (c.as_slice-wanted.ensures.value ∙ c.in_ok-holding.ensures)
    (subst (λ us. AreInPlay (IsMappingOutOfPlay env c.as_slice-wanted.result.now) us playing) (c.as_slice.ensures.value ∙ c.in_ok-failing.ensures) c.in_ok-playing.ensures.playing))

pub parts_at_keys-requires-clause-one_way : goal.parts_at_keys-requires-clause-one_way
parts_at_keys-requires-clause-one_way g c = λ both. false≢true (sym c.if-has_both_marks.false ∙ c.has_both_marks.ensures.1 both)

pub parts_at_keys-requires-clause-never : goal.parts_at_keys-requires-clause-never
parts_at_keys-requires-clause-never g c =
    gives-keeps c.nothing.new.self c.mappings_in_play.new.dia nothing c.in_ok-never.never c.mappings_in_play.ensures.extends.keeps c.in_ok-never.ensures.condition

pub parts_at_keys-requires-clause-sound : goal.parts_at_keys-requires-clause-sound
parts_at_keys-requires-clause-sound g c =
    sound-keeps c.args.env.now c.args.dia.now c.mappings_in_play.new.dia (g.M.Member.kept c.args.m.now) (then_all _ _ _ _ (extends-more _ _ _ c.nothing.ensures.extends) c.mappings_in_play.ensures.extends).keeps c.requires.sound

pub returns-clause-extends : goal.returns-clause-extends
returns-clause-extends g c = then_all _ _ _ _ (then_all _ _ _ _ (extends-more _ _ _ c.nothing.ensures.extends) c.mappings_in_play.ensures.extends) c.parts_at_keys.ensures.extends

pub returns-clause-projects : goal.returns-clause-projects
returns-clause-projects g c =
    let env = c.args.env.now in
    let p = c.args.path.now in
    let kept = g.M.Member.kept c.args.m.now in
    let new = c.parts_at_keys.new.dia in
    let playing = c.in_ok-playing.playing.items in
    let keys = c.in_ok-keys.keys.items in
    let name = option_copied c.args.name in
    let asked = subst (λ ws. AreAskedKeys env (ws ++ playing) name keys) (c.as_slice-wanted.ensures.value ∙ c.in_ok-holding.ensures)
    (subst (λ us. AreAskedKeys env (c.as_slice-wanted.result.now ++ us) name keys) c.as_slice-unwanted.ensures.value c.in_ok-keys.ensures) in
    IfOk-map _ _ (λ pr h. parts-Project env new kept p playing keys name asked pr
    (subst (λ ks. TellsParts env new kept p playing ks pr) c.as_slice-2.ensures.value
    (subst (λ us. TellsParts env new kept p us c.as_slice-2.result.now pr) c.as_slice-unwanted.ensures.value h))) c.parts_at_keys.result c.parts_at_keys.ensures.tells
