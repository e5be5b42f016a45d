use Rattle.std.proofs.Common.{ℕ, ◌≡◌, length, sym, subst, arith}
use Rattle.type_diagrams.specs.Conditions.{Condition}
use Rattle.type_diagrams.proofs.AskedDiagrams.{then_all}
use Rattle.empty_product.specs.Lists.{AreAsked, item_asked}
use Rattle.empty_product.proofs.ItemPlaces.{AreAsked-push}
use Rattle.empty_product.proofs.list_items.further_bases.Goals as goal

pub returns-in_err-further-clause-extends : goal.returns-in_err-further-clause-extends
returns-in_err-further-clause-extends c = then_all _ _ _ _ c.bases.ensures.extends c.base.ensures.extends

pub returns-in_err-push-clause-extends : goal.returns-in_err-push-clause-extends
returns-in_err-push-clause-extends c = then_all _ _ _ _ c.bases.ensures.extends c.base.ensures.extends

pub returns-clause-extends : goal.returns-clause-extends
returns-clause-extends c = then_all _ _ _ _ c.bases.ensures.extends c.base.ensures.extends

pub returns-clause-made : goal.returns-clause-made
returns-clause-made c =
    let asked : ℕ → Condition = item_asked c.args.env.now c.args.wanted.now c.args.marked in
    let qs = c.in_ok-all.all.items in
    let ok = c.in_ok-all.all.ok in
    let same : length qs ≡ c.len.result = omega (arith, c.len.ensures, ok.0) in
    subst (AreAsked c.base.new.dia asked) (sym c.in_ok-push.ensures.items) (AreAsked-push c.bases.new.dia c.base.new.dia asked qs c.len.result c.in_ok-further.further same c.base.ensures.extends.keeps c.in_ok-all.ensures.made c.in_ok-further.ensures.made)
