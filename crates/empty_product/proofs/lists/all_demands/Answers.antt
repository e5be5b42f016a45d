use Rattle.std.proofs.Common.{◌+◌, take, sym, subst, arith}
use Rattle.std.proofs.lemmas.List.{take_all}
use Rattle.type_diagrams.proofs.AskedDiagrams.{then_all}
use Rattle.empty_product.specs.Lists.{AreDemandsOf}
use Rattle.empty_product.proofs.DemandLists.{AreDemandsOf-more}
use Rattle.empty_product.proofs.lists.all_demands.Goals as goal

pub returns-in_err-demands-clause-extends : goal.returns-in_err-demands-clause-extends
returns-in_err-demands-clause-extends c = then_all _ _ _ _ c.loop-atom.invariant.0 c.demands.ensures.extends

pub returns-in_err-push-clause-extends : goal.returns-in_err-push-clause-extends
returns-in_err-push-clause-extends c = then_all _ _ _ _ c.loop-atom.invariant.0 c.demands.ensures.extends

pub loop-atom-preserved : goal.loop-atom-preserved
loop-atom-preserved c =
    let env = c.args.env.now in
    let i = c.loop-atom.atom-index in
    let u = c.in_ok-demands.field-0 in (
      then_all _ _ _ _ c.loop-atom.invariant.0 c.demands.ensures.extends,
      subst (AreDemandsOf env c.demands.new.dia c.args.places (take (i + 1) c.args.atoms.now)) (sym c.in_ok-push.ensures.items)
          (AreDemandsOf-more env c.loop-atom.dia c.demands.new.dia c.args.places c.args.atoms.now i c.loop-atom.unwanted.items u (omega arith) c.demands.ensures.extends.keeps c.loop-atom.invariant.1 c.in_ok-demands.ensures.made),
    )

pub returns-clause-made : goal.returns-clause-made
returns-clause-made c =
    subst (λ xs. AreDemandsOf c.args.env.now c.loop-atom.dia c.args.places xs c.loop-atom.unwanted.items) (take_all c.loop-atom.atom-index c.args.atoms.now (omega arith)) c.loop-atom.invariant.1
