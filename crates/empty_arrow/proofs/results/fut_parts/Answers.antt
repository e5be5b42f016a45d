use Rattle.std.proofs.Common.{All, inl, inr, sym, ◌∙◌, subst, [], map, ◌+◌, length, ◌≡◌}
use Rattle.std.proofs.lemmas.List.Elements.{All-weaker}
use Rattle.type_model.specs.declared.answers.Keys.TheVariants.{Results}
use Rattle.type_diagrams.specs.declared.kind.Kind.TheVariants.{Future as Futures}
use Rattle.type_diagrams.specs.Conditions.{asks}
use Rattle.type_diagrams.specs.Members.{atoms_in}
use Rattle.type_diagrams.specs.Turns.{Turns}
use Rattle.type_diagrams.specs.Whole.{Gives}
use Rattle.type_diagrams.proofs.AskedDiagrams.{then_all, then_on}
use Rattle.type_diagrams.proofs.Parts.{nothing-AreParts}
use Rattle.type_diagrams.proofs.PathShapes.{IsAtomOf, atoms-are}
use Rattle.type_diagrams.proofs.Reaching.{one-Looks, type-Looks}
use Rattle.type_diagrams.proofs.Tellings.{lower-keeps, sound-keeps}
use Rattle.empty_arrow.specs.Parts.{HasPart, part_of}
use Rattle.empty_arrow.proofs.FutureParts.{shape-AreParts}
use Rattle.empty_arrow.proofs.PartLaws.{future-HasPart}
use Rattle.empty_arrow.proofs.results.fut_parts.Goals as goal

pub within_parts-requires : goal.within_parts-requires
within_parts-requires g c =
    let env = c.args.env.now in
    subst (All (HasPart env)) (sym (c.deref.ensures.value ∙ c.in_ok-wanted-in-Shape.ensures))
    (All-weaker (IsAtomOf env Futures) (HasPart env) (future-HasPart env) (atoms_in c.args.path.now.pos) (atoms-are env Futures c.args.path.now.pos c.requires.literals.holding))

pub returns-in_err-parts-in-Shape-clause-extends : goal.returns-in_err-parts-in-Shape-clause-extends
returns-in_err-parts-in-Shape-clause-extends g c = then_all _ _ _ _ c.fut_shape.ensures.extends c.within_parts.ensures.extends

pub returns-in-Shape-clause-extends : goal.returns-in-Shape-clause-extends
returns-in-Shape-clause-extends g c = then_all _ _ _ _ c.fut_shape.ensures.extends c.within_parts.ensures.extends

pub returns-in-Shape-clause-projects : goal.returns-in-Shape-clause-projects
returns-in-Shape-clause-projects g c =
    let env = c.args.env.now in
    let p = c.args.path.now in
    let kept = g.M.Member.kept c.args.m.now in
    let given = subst (λ ws. Gives c.within_parts.new.dia (asks (map (part_of env) ws) []) c.in_ok-parts-in-Shape.parts) (c.deref.ensures.value ∙ c.in_ok-wanted-in-Shape.ensures) c.in_ok-parts-in-Shape.ensures.made in
    let turn = subst (Turns env c.fut_shape.new.dia kept Futures p) c.in-Shape.is c.in_ok-fut_shape.ensures.turns in
    shape-AreParts env c.in_ok-parts-in-Shape.ensures.few p (atoms-are env Futures p.pos c.requires.literals.holding) (atoms-are env Futures p.neg c.requires.literals.failing)
    c.within_parts.new.dia kept c.in_ok-parts-in-Shape.parts c.in_ok-_places._places c.in_ok-_places.ensures given c.in-Shape.field-0 turn

pub returns-in_err-none-in-Empty-clause-extends : goal.returns-in_err-none-in-Empty-clause-extends
returns-in_err-none-in-Empty-clause-extends g c = then_on _ _ _ _ c.fut_shape.ensures.extends c.nothing.ensures.extends

pub returns-in-Empty-clause-extends : goal.returns-in-Empty-clause-extends
returns-in-Empty-clause-extends g c = then_on _ _ _ _ c.fut_shape.ensures.extends c.nothing.ensures.extends

pub returns-in-Empty-clause-projects : goal.returns-in-Empty-clause-projects
returns-in-Empty-clause-projects g c =
    let env = c.args.env.now in
    let p = c.args.path.now in
    let kept = g.M.Member.kept c.args.m.now in
    let q = c.in_ok-none-in-Empty.none in
    let turn = subst (Turns env c.fut_shape.new.dia kept Futures p) c.in-Empty.is c.in_ok-fut_shape.ensures.turns in
    let sound = sound-keeps env c.args.dia.now c.fut_shape.new.dia kept c.fut_shape.ensures.extends.keeps c.requires.sound in
    nothing-AreParts env c.nothing.new.self kept Futures p Results q c.in_ok-none-in-Empty.ensures.condition
    (λ x on. lower-keeps env c.fut_shape.new.dia c.nothing.new.self kept x c.nothing.ensures.extends.keeps sound (turn x on))
