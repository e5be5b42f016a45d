use Rattle.std.proofs.Common.{◌≡◌, ⊎_elim, inl, inr, ◌+◌, ◌<◌, ◌≤◌, length, take, subst, arith}
use Rattle.std.proofs.lemmas.List.{length-take}
use Rattle.std.proofs.lemmas.Option.{slice_get_within}
use Rattle.type_diagrams.specs.declared.projection.Projection.TheVariants.{Parts}
use Rattle.type_diagrams.specs.Tables.{condition}
use Rattle.type_diagrams.proofs.AskedDiagrams.{gives_itself, not_yet, then_all}
use Rattle.type_diagrams.proofs.Keeping.{keeps-further}
use Rattle.empty_product.specs.Items.{GivesLooking, StandsInList, TellsListsAt}
use Rattle.empty_product.specs.Lists.{HasHeldItem}
use Rattle.empty_product.proofs.AtomLists.{order}
use Rattle.empty_product.proofs.Gathering.{none-Gathers}
use Rattle.empty_product.proofs.ItemPlaces.{AreAsked-keeps, AreAsked-take}
use Rattle.empty_product.proofs.NextItems.{more-TellsListsAt}
use Rattle.empty_product.proofs.list_items.short_items.Goals as goal

pub loop-length-init : goal.loop-length-init
loop-length-init g c =
    let env = c.args.context.now.env.now in
    let old = c.args.dia.now in
    let kept = g.M.Member.kept c.args.context.now.m.now in
    let place = c.args.place in (
      not_yet (length env) old,
      c.requires.found,
      λ base asked. none-Gathers env old (StandsInList env base c.args.literals.now.wanted.now c.args.literals.now.unwanted.now (λ n. n < place + 1) place) (HasHeldItem env old kept) (condition old c.args.found) c.args.found (gives_itself old c.args.found c.requires.found.diagram)
          (λ items y s. let long = slice_get_within items place y s.stands in let short = s.count in absurd (omega (arith, long, short))),
    )

pub returns-in_err-parts-clause-extends : goal.returns-in_err-parts-clause-extends
returns-in_err-parts-clause-extends g c = then_all _ _ _ _ c.loop-length.invariant.0 c.items_with_length.ensures.extends

pub returns-in-Ask-clause-extends : goal.returns-in-Ask-clause-extends
returns-in-Ask-clause-extends g c = then_all _ _ _ _ c.loop-length.invariant.0 c.items_with_length.ensures.extends

pub returns-in-Ask-clause-tells : goal.returns-in-Ask-clause-tells
returns-in-Ask-clause-tells g c = λ base asked.
    let env = c.args.context.now.env.now in
    let kept = g.M.Member.kept c.args.context.now.m.now in
    let mid = c.loop-length.dia in
    let bases = c.args.bases.now in
    let k = c.loop-length.length in
    let told = c.in_ok-parts.ensures.tells base (AreAsked-take mid base bases k (AreAsked-keeps c.args.dia.now mid base bases c.loop-length.invariant.0.keeps asked)) in
    subst (TellsListsAt env base c.items_with_length.new.dia kept c.args.literals.now.wanted.now c.args.literals.now.unwanted.now (λ n. n ≡ length (take k bases)) c.args.place (condition mid c.loop-length.all)) c.in-Ask.is told

pub loop-length-preserved : goal.loop-length-preserved
loop-length-preserved g c =
    let env = c.args.context.now.env.now in
    let kept = g.M.Member.kept c.args.context.now.m.now in
    let old = c.args.dia.now in
    let mid = c.loop-length.dia in
    let new = c.items_with_length.new.dia in
    let bases = c.args.bases.now in
    let k = c.loop-length.length in
    let place = c.args.place in
    let wanted = c.args.literals.now.wanted.now in
    let unwanted = c.args.literals.now.unwanted.now in
    let first = c.loop-length.invariant.0.keeps in
    let lt : k < length bases = omega arith in
    let taken : length (take k bases) ≡ k = omega (arith, length-take k bases, lt) in
    let last = keeps-further old mid new first c.items_with_length.ensures.extends.keeps in (
      then_all _ _ _ _ c.loop-length.invariant.0 c.items_with_length.ensures.extends,
      subst (GivesLooking env new) c.in-Parts.is c.in_ok-parts.ensures.question,
      λ base asked.
          let told = c.in_ok-parts.ensures.tells base (AreAsked-take mid base bases k (AreAsked-keeps old mid base bases first asked)) in
          let here = subst (TellsListsAt env base new kept wanted unwanted (λ n. n ≡ length (take k bases)) place (condition mid c.loop-length.all)) c.in-Parts.is told in
          more-TellsListsAt env base old mid new kept c.requires.sound first last wanted unwanted (condition old c.args.found) c.loop-length.all (λ n. n < k) (λ n. n ≡ length (take k bases)) (λ n. n < k + 1) place
          (λ n less. omega (arith, less))
          (λ n e. omega (arith, e, taken))
          (λ n less. ⊎_elim
          (λ (a : n < k). inl a)
          (λ (le : k ≤ n). let same : n ≡ length (take k bases) = omega (arith, le, less, taken) in inr same)
          (order n k))
          (c.loop-length.invariant.2 base asked) (Parts c.in-Parts.parts) here,
    )

pub returns-clause-tells : goal.returns-clause-tells
returns-clause-tells g c = λ base asked.
    let some = c.requires.place in
    let all : c.loop-length.length ≡ length c.args.bases.now = omega (arith, some) in
    subst (λ k. TellsListsAt c.args.context.now.env.now base c.loop-length.dia (g.M.Member.kept c.args.context.now.m.now) c.args.literals.now.wanted.now c.args.literals.now.unwanted.now (λ n. n < k) c.args.place (condition c.args.dia.now c.args.found) (Parts c.loop-length.all)) all (c.loop-length.invariant.2 base asked)
