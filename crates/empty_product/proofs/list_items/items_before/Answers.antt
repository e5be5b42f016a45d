use Rattle.std.proofs.Common.{◌≡◌, ◌<◌, ◌^◌, length, subst, arith}
use Rattle.type_diagrams.specs.declared.projection.Projection.TheVariants.{Parts}
use Rattle.type_diagrams.specs.Conditions.{nothing}
use Rattle.type_diagrams.specs.Tables.{condition}
use Rattle.type_diagrams.proofs.AskedDiagrams.{not_yet, then_all}
use Rattle.type_diagrams.proofs.Keeping.{keeps-further}
use Rattle.type_diagrams.proofs.Reaching.{nothing-Looks, one-Looks}
use Rattle.empty_product.specs.Items.{GivesLooking, StandsBefore, TellsListsAt, TellsListsBefore}
use Rattle.empty_product.specs.Lists.{HasHeldItem}
use Rattle.empty_product.proofs.Gathering.{none-Gathers}
use Rattle.empty_product.proofs.ItemPlaces.{AreAsked-keeps}
use Rattle.empty_product.proofs.NextItems.{next-TellsListsBefore}
use Rattle.empty_product.proofs.list_items.items_before.Goals as goal

pub loop-place-init : goal.loop-place-init
loop-place-init g c =
    let env = c.args.context.now.env.now in
    let old = c.args.dia.now in
    let kept = g.M.Member.kept c.args.context.now.m.now in
    let never = c.requires.never in (
      not_yet (length env) old,
      record { diagram = never.diagram; looks = one-Looks env nothing (condition old c.args.never) never.condition (nothing-Looks env) },
      λ base asked same. none-Gathers env old (StandsBefore env base c.args.literals.now.wanted.now c.args.literals.now.unwanted.now (λ n. n < 2 ^ 63) 0) (HasHeldItem env old kept) nothing c.args.never never
          (λ items y s. let lt = s.before in absurd (omega (arith, lt))),
    )

pub returns-in_err-parts-clause-extends : goal.returns-in_err-parts-clause-extends
returns-in_err-parts-clause-extends g c = then_all _ _ _ _ c.loop-place.invariant.0 c.items_at.ensures.extends

pub returns-in-Ask-clause-extends : goal.returns-in-Ask-clause-extends
returns-in-Ask-clause-extends g c = then_all _ _ _ _ c.loop-place.invariant.0 c.items_at.ensures.extends

pub returns-in-Ask-clause-tells : goal.returns-in-Ask-clause-tells
returns-in-Ask-clause-tells g c = λ base asked same.
    let mid = c.loop-place.dia in
    let told = c.in_ok-parts.ensures.tells base (AreAsked-keeps c.args.dia.now mid base c.args.bases.now c.loop-place.invariant.0.keeps asked) same in
    subst (TellsListsAt c.args.context.now.env.now base c.items_at.new.dia (g.M.Member.kept c.args.context.now.m.now) c.args.literals.now.wanted.now c.args.literals.now.unwanted.now (λ n. n < 2 ^ 63) c.loop-place.place (condition mid c.loop-place.found)) c.in-Ask.is told

pub loop-place-preserved : goal.loop-place-preserved
loop-place-preserved g c =
    let env = c.args.context.now.env.now in
    let kept = g.M.Member.kept c.args.context.now.m.now in
    let old = c.args.dia.now in
    let mid = c.loop-place.dia in
    let new = c.items_at.new.dia in
    let bases = c.args.bases.now in
    let place = c.loop-place.place in
    let wanted = c.args.literals.now.wanted.now in
    let unwanted = c.args.literals.now.unwanted.now in
    let first = c.loop-place.invariant.0.keeps in
    let last = keeps-further old mid new first c.items_at.ensures.extends.keeps in (
      then_all _ _ _ _ c.loop-place.invariant.0 c.items_at.ensures.extends,
      subst (GivesLooking env new) c.in-Parts.is c.in_ok-parts.ensures.question,
      λ base asked same.
          let told = c.in_ok-parts.ensures.tells base (AreAsked-keeps old mid base bases first asked) same in
          let here = subst (TellsListsAt env base new kept wanted unwanted (λ n. n < 2 ^ 63) place (condition mid c.loop-place.found)) c.in-Parts.is told in
          next-TellsListsBefore env base old mid new kept c.requires.sound first last wanted unwanted nothing c.loop-place.found (λ n. n < 2 ^ 63) place (c.loop-place.invariant.2 base asked same) (Parts c.in-Parts.parts) here,
    )

pub returns-clause-tells : goal.returns-clause-tells
returns-clause-tells g c = λ base asked same.
    let all : c.loop-place.place ≡ c.args.places = omega arith in
    subst (λ k. TellsListsBefore c.args.context.now.env.now base c.loop-place.dia (g.M.Member.kept c.args.context.now.m.now) c.args.literals.now.wanted.now c.args.literals.now.unwanted.now (λ n. n < 2 ^ 63) k nothing (Parts c.loop-place.found)) all (c.loop-place.invariant.2 base asked same)
