use Rattle.std.proofs.Common.{All, get_or, take, sym, subst, ◌∙◌, arith}
use Rattle.std.proofs.lemmas.List.{take_more}
use Rattle.type_diagrams.specs.declared.kind.Kind.TheVariants.{Mapping as Mappings}
use Rattle.type_diagrams.specs.declared.projection.Projection.TheVariants.{Parts, Ask}
use Rattle.type_diagrams.specs.Members.{IsMappingOutOfPlay, atoms_in}
use Rattle.type_diagrams.specs.Tables.{condition}
use Rattle.type_diagrams.proofs.AskedDiagrams.{not_yet, then_all}
use Rattle.type_diagrams.proofs.PathShapes.{atoms-are, has_mark}
use Rattle.type_diagrams.proofs.Tellings.{sound-keeps}
use Rattle.empty_product.specs.Cells.{LooksAtParts}
use Rattle.empty_product.specs.MemberParts.{AreMembers, TellsMembers}
use Rattle.empty_product.specs.Play.{IsMappingAtom}
use Rattle.empty_product.proofs.MappingBodies.{playing-are}
use Rattle.empty_product.proofs.MappingKeys.{asked-Turns, more-AreMembers, no-AreMembers}
use Rattle.empty_product.proofs.map_members.parts_at_keys.Goals as goal

pub loop-key-init : goal.loop-key-init
loop-key-init g c =
    let env = c.args.context.now.env.now in
    let kept = g.M.Member.kept c.args.context.now.m.now in (
      not_yet _ _,
      no-AreMembers env c.args.dia.now kept c.args.path.now c.args.unwanted.now c.args.never c.requires.never,
    )

pub parts_at_key-requires-clause-wanted : goal.parts_at_key-requires-clause-wanted
parts_at_key-requires-clause-wanted g c =
    let env = c.args.context.now.env.now in
    subst (All (IsMappingAtom env)) (sym (c.as_slice-wanted.ensures.value ∙ c.in_ok-holding.ensures)) (atoms-are env Mappings c.args.path.now.pos c.requires.literals.holding)

pub parts_at_key-requires-clause-unwanted : goal.parts_at_key-requires-clause-unwanted
parts_at_key-requires-clause-unwanted g c =
    let env = c.args.context.now.env.now in
    let p = c.args.path.now in
    playing-are (IsMappingAtom env) (IsMappingOutOfPlay env (atoms_in p.pos)) (atoms_in p.neg) c.args.unwanted.now c.requires.play (atoms-are env Mappings p.neg c.requires.literals.failing)

pub returns-in_err-next-clause-extends : goal.returns-in_err-next-clause-extends
returns-in_err-next-clause-extends g c = then_all _ _ _ _ c.loop-key.invariant.0 c.parts_at_key.ensures.extends

pub returns-in-Ask-clause-extends : goal.returns-in-Ask-clause-extends
returns-in-Ask-clause-extends g c = then_all _ _ _ _ c.loop-key.invariant.0 c.parts_at_key.ensures.extends

pub returns-in-Ask-clause-tells : goal.returns-in-Ask-clause-tells
returns-in-Ask-clause-tells g c =
    let env = c.args.context.now.env.now in
    let p = c.args.path.now in
    let kept = g.M.Member.kept c.args.context.now.m.now in
    let playing = c.args.unwanted.now in
    let old = c.loop-key.dia in
    let new = c.parts_at_key.new.dia in
    let key = c.key-item.result in
    let found = c.loop-key.found in
    let sound = sound-keeps env c.args.dia.now old kept c.loop-key.invariant.0.keeps c.requires.sound in
    let told = subst (λ ws. TellsMembers env ws (has_mark p) new kept playing key (condition old found) (Ask c.in-Ask.question)) (c.as_slice-wanted.ensures.value ∙ c.in_ok-holding.ensures)
    (subst (λ m. TellsMembers env c.as_slice-wanted.result.now m new kept playing key (condition old found) (Ask c.in-Ask.question)) c.is_marked-marked.ensures
    (subst (TellsMembers env c.as_slice-wanted.result.now c.is_marked-marked.result new kept playing key (condition old found)) c.in-Ask.is c.in_ok-next.ensures.tells)) in
    asked-Turns env c.requires.few old new kept c.parts_at_key.ensures.extends.keeps sound p c.requires.literals playing c.requires.play c.requires.one_way (take c.loop-key.key-index c.args.keys.now) key found c.in-Ask.question told

pub loop-key-preserved : goal.loop-key-preserved
loop-key-preserved g c =
    let env = c.args.context.now.env.now in
    let p = c.args.path.now in
    let kept = g.M.Member.kept c.args.context.now.m.now in
    let playing = c.args.unwanted.now in
    let keys = c.args.keys.now in
    let old = c.loop-key.dia in
    let new = c.parts_at_key.new.dia in
    let key = c.key-item.result in
    let i = c.loop-key.key-index in
    let found = c.loop-key.found in
    let q = c.in-Parts.parts in
    let before = c.loop-key.invariant.1 in
    let sound = sound-keeps env c.args.dia.now old kept c.loop-key.invariant.0.keeps c.requires.sound in
    let looks = subst (LooksAtParts env new) c.in-Parts.is (c.in_ok-next.ensures.looks before.looks) in
    let told = subst (λ ws. TellsMembers env ws (has_mark p) new kept playing key (condition old found) (Parts q)) (c.as_slice-wanted.ensures.value ∙ c.in_ok-holding.ensures)
    (subst (λ m. TellsMembers env c.as_slice-wanted.result.now m new kept playing key (condition old found) (Parts q)) c.is_marked-marked.ensures
    (subst (TellsMembers env c.as_slice-wanted.result.now c.is_marked-marked.result new kept playing key (condition old found)) c.in-Parts.is c.in_ok-next.ensures.tells)) in (
      then_all _ _ _ _ c.loop-key.invariant.0 c.parts_at_key.ensures.extends,
      subst (λ ks. AreMembers env new kept p playing ks q) (sym (take_more keys i key (omega arith)))
          (more-AreMembers env c.requires.few old new kept c.parts_at_key.ensures.extends.keeps sound p c.requires.literals playing c.requires.play c.requires.one_way (take i keys) (get_or keys i key) found q before looks
          (subst (λ k. TellsMembers env (atoms_in p.pos) (has_mark p) new kept playing k (condition old found) (Parts q)) c.key-item.is told)),
    )
