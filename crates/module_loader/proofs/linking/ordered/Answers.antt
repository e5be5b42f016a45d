use Rattle.std.proofs.Common.{◌∙◌, ◌<◌, ap, length, map, refl, subst, sym}
use Rattle.std.specs.Prelude.{None, Some}
use Rattle.graphs.specs.Ordering.{IsInside}
use Rattle.package_imports.specs.Order.{IsEachOnce, IsModuleOrder}
use Rattle.module_loader.specs.inner.Linked.{IsCycleTold}
use Rattle.module_loader.proofs.linking.ordered.Goals as goal

pub module_order-requires-clause-inside : goal.module_order-requires-clause-inside
module_order-requires-clause-inside c = subst (λ l. IsInside (map (λ v. v.items) l)) (sym c.as_slice-in-None.ensures.value) c.requires.inside

pub module_order-requires-clause-some : goal.module_order-requires-clause-some
module_order-requires-clause-some c = subst (λ l. 0 < length l) (sym c.as_slice-in-None.ensures.value) c.requires.some

pub returns-in-Some : goal.returns-in-Some
returns-in-Some c =
    let next = map (λ v. v.items) c.args.next.items in
    let told = subst (λ found. IsCycleTold c.as_slice.result.now (map (λ v. v.items) c.as_slice-2.result.now) found) c.in-Some.is c.in_ok-found.ensures in
    subst (λ names. IsCycleTold names next (Some c.in-Some.refusal)) c.as_slice.ensures.value
    (subst (λ l. IsCycleTold c.as_slice.result.now (map (λ v. v.items) l) (Some c.in-Some.refusal)) c.as_slice-2.ensures.value told)

pub returns-in_ok-order-in-None : goal.returns-in_ok-order-in-None
returns-in_ok-order-in-None c =
    let told = subst (λ found. IsCycleTold c.as_slice.result.now (map (λ v. v.items) c.as_slice-2.result.now) found) c.in-None.is c.in_ok-found.ensures in
    record {
      acyclic = subst (λ l. IsCycleTold c.as_slice.result.now (map (λ v. v.items) l) None) c.as_slice-2.ensures.value told;
      names_are = refl;
      numbers_are = refl;
      next_is = refl;
      ordered = subst (λ l. IsModuleOrder (map (λ v. v.items) l) c.in_ok-order-in-None.order.items) c.as_slice-in-None.ensures.value c.in_ok-order-in-None.ensures.order;
      each = subst (λ n. IsEachOnce n c.in_ok-order-in-None.order.items) (ap length c.as_slice-in-None.ensures.value ∙ c.requires.count) c.in_ok-order-in-None.ensures.each;
    }
