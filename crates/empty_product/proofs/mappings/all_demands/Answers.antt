use Rattle.std.proofs.Common.{◌+◌, take, sym, subst, arith}
use Rattle.std.proofs.lemmas.List.{take_all}
use Rattle.std.specs.List.{AllZip}
use Rattle.type_diagrams.proofs.AskedDiagrams.{then_all}
use Rattle.empty_product.specs.Mappings.{AreDemandsOf}
use Rattle.empty_product.proofs.MappingBodies.{demands-keep, zip-more}
use Rattle.empty_product.proofs.mappings.all_demands.Goals as goal

pub returns-in_err-demands-clause-extends : goal.returns-in_err-demands-clause-extends
returns-in_err-demands-clause-extends c = then_all _ _ _ _ c.loop-atom.invariant.0 c.demands.ensures.extends

pub returns-in_err-push-clause-extends : goal.returns-in_err-push-clause-extends
returns-in_err-push-clause-extends c = then_all _ _ _ _ c.loop-atom.invariant.0 c.demands.ensures.extends

pub loop-atom-preserved : goal.loop-atom-preserved
loop-atom-preserved c =
    let env = c.args.env.now in
    let keys = c.args.keys.now in
    let atoms = c.args.atoms.now in
    let i = c.loop-atom.atom-index in
    let new = c.demands.new.dia in (
      then_all _ _ _ _ c.loop-atom.invariant.0 c.demands.ensures.extends,
      subst (AllZip (AreDemandsOf env new keys) (take (i + 1) atoms)) (sym c.in_ok-push.ensures.items)
          (zip-more (AreDemandsOf env c.loop-atom.dia keys) (AreDemandsOf env new keys) (demands-keep env c.loop-atom.dia new c.demands.ensures.extends.keeps keys) atoms c.loop-atom.unwanted.items i 0 c.in_ok-demands.field-0 (omega arith)
          c.loop-atom.invariant.1 c.in_ok-demands.ensures.demands),
    )

pub returns-clause-demands : goal.returns-clause-demands
returns-clause-demands c =
    subst (λ xs. AllZip (AreDemandsOf c.args.env.now c.loop-atom.dia c.args.keys.now) xs c.loop-atom.unwanted.items) (take_all c.loop-atom.atom-index c.args.atoms.now (omega arith)) c.loop-atom.invariant.1
