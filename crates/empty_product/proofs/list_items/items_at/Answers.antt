use Rattle.std.proofs.Common.{⊎_elim, inl, inr, ◌<◌, ◌≤◌, ◌^◌, length, subst, arith}
use Rattle.type_diagrams.specs.Tables.{condition}
use Rattle.type_diagrams.proofs.AskedDiagrams.{then_all}
use Rattle.type_diagrams.proofs.Keeping.{keeps-further}
use Rattle.type_diagrams.proofs.Shapes.{IfOk-map}
use Rattle.empty_product.specs.Items.{TellsListsAt}
use Rattle.empty_product.proofs.AtomLists.{order}
use Rattle.empty_product.proofs.ItemPlaces.{AreAsked-keeps}
use Rattle.empty_product.proofs.NextItems.{more-TellsListsAt}
use Rattle.empty_product.proofs.list_items.items_at.Goals as goal

pub returns-in-Parts-clause-extends : goal.returns-in-Parts-clause-extends
returns-in-Parts-clause-extends g c = then_all _ _ _ _ c.short_items.ensures.extends c.items_of_longer.ensures.extends

pub returns-in-Parts-clause-tells : goal.returns-in-Parts-clause-tells
returns-in-Parts-clause-tells g c =
    let env = c.args.context.now.env.now in
    let kept = g.M.Member.kept c.args.context.now.m.now in
    let old = c.args.dia.now in
    let mid = c.short_items.new.dia in
    let new = c.items_of_longer.new.dia in
    let bases = c.args.bases.now in
    let m = length bases in
    let place = c.args.place in
    let wanted = c.args.literals.now.wanted.now in
    let unwanted = c.args.literals.now.unwanted.now in
    let found = condition old c.args.found in
    let first = c.short_items.ensures.extends.keeps in
    let last = keeps-further old mid new first c.items_of_longer.ensures.extends.keeps in
    let few : m < 2 ^ 63 = omega arith in
    IfOk-map _ _ (λ p tells base asked same.
    let before = subst (TellsListsAt env base mid kept wanted unwanted (λ n. n < m) place found) c.in-Parts.is (c.in_ok-parts.ensures.tells base asked) in
    more-TellsListsAt env base old mid new kept c.requires.sound first last wanted unwanted found c.in-Parts.parts (λ n. n < m) (λ n. (m ≤ n) × (n < 2 ^ 63)) (λ n. n < 2 ^ 63) place
    (λ n less. omega (arith, less, few))
    (λ n h. h.1)
    (λ n less. ⊎_elim (λ (a : n < m). inl a) (λ (le : m ≤ n). inr (le, less)) (order n m))
    before p (tells base (AreAsked-keeps old mid base bases first asked) same))
    c.items_of_longer.result c.items_of_longer.ensures.tells
