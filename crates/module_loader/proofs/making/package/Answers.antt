use Rattle.std.proofs.Common.{◌∙◌, ◌≡◌, ap, arith, length, map, refl, subst, sym}
use Rattle.std.specs.Prelude.{Some, slice_get}
use Rattle.package_making.specs.Making.{modules_from, numbered}
use Rattle.module_loader.specs.inner.Linked.{IsOrderOfFew}
use Rattle.module_loader.proofs.Putting.{few-modules}
use Rattle.module_loader.proofs.making.package.Goals as goal

pub place_of_main-main-requires : goal.place_of_main-main-requires
place_of_main-main-requires c = subst IsOrderOfFew (sym c.as_slice-order.ensures.value) c.requires

pub modules-requires : goal.modules-requires
modules-requires c =
    let few = few-modules c.args.linked.order.items c.requires in
    let same = ap length c.as_slice-order.ensures.value in
    omega arith

pub returns : goal.returns
returns c =
    let l = c.args.linked in
    let read = c.args.read.items in
    let order = c.as_slice-order.ensures.value in
    record {
      name = refl;
      org = refl;
      made = c.in_ok-modules.ensures
          ∙ (λ i. modules_from (c.as_slice.ensures.value i) (map (λ v. v.items) (c.as_slice-2.ensures.value i)) (order i) (numbered (c.as_slice-3.ensures.value i) 0 read) 0 (order i));
      main = subst (λ o. slice_get o c.place_of_main-main.result ≡ Some 0) order c.place_of_main-main.ensures;
    }
