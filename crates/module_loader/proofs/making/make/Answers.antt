use Rattle.bal_tree.specs.declared.package.Package.{Package}
use Rattle.std.proofs.Common.{refl, subst, sym}
use Rattle.module_loader.specs.Files.{AreRead}
use Rattle.module_loader.specs.inner.Linked.{IsLink, IsOfFew}
use Rattle.module_loader.specs.declared.linking.Link.TheVariants.{Ordered, Refused}
use Rattle.module_loader.proofs.Links.{made-of, modules-as}
use Rattle.module_loader.proofs.Stops.{files-at, refused-at}
use Rattle.module_loader.proofs.making.make.Goals as goal

pub link_modules-requires-clause-read : goal.link_modules-requires-clause-read
link_modules-requires-clause-read c = (c.requires.read.0, subst (AreRead 0 c.requires.read.0) (sym c.as_slice.ensures.value) c.requires.read.1)

pub package-requires : goal.package-requires
package-requires c = subst IsOfFew c.in-Ordered.is c.in_ok-link.ensures.few

pub returns-in-Refused-clause-files : goal.returns-in-Refused-clause-files
returns-in-Refused-clause-files c = files-at Package c.in-Refused.refusal c.args.read.items c.refused.result c.refused.ensures

pub returns-in-Refused-clause-rest : goal.returns-in-Refused-clause-rest
returns-in-Refused-clause-rest c = refused-at Package c.in-Refused.refusal c.args.read.items c.refused.result _ c.refused.ensures refl

pub returns-in-Refused-clause-refused : goal.returns-in-Refused-clause-refused
returns-in-Refused-clause-refused c =
    let read = c.args.read.items in
    refused-at Package c.in-Refused.refusal read c.refused.result _ c.refused.ensures
    (λ taken are same. subst (λ l. IsLink c.args.manifest c.args.folders.now taken l (Refused c.in-Refused.refusal)) c.as_slice.ensures.value
    (subst (IsLink c.args.manifest c.args.folders.now taken c.as_slice.result.now) c.in-Refused.is
    (c.in_ok-link.ensures.link taken (subst (AreRead 0 taken) (sym c.as_slice.ensures.value) are) same)))

pub returns-in_ok-made-in-Ordered-clause-package : goal.returns-in_ok-made-in-Ordered-clause-package
returns-in_ok-made-in-Ordered-clause-package c = λ taken are same.
    let read = c.args.read.items in
    let folders = c.args.folders.now in
    let linked =
    subst (λ l. IsLink c.args.manifest folders taken l (Ordered c.in-Ordered.linked)) c.as_slice.ensures.value
    (subst (IsLink c.args.manifest folders taken c.as_slice.result.now) c.in-Ordered.is
    (c.in_ok-link.ensures.link taken (subst (AreRead 0 taken) (sym c.as_slice.ensures.value) are) same)) in
    made-of c.args.manifest folders taken read c.in-Ordered.linked c.in_ok-made-in-Ordered.made (modules-as folders taken c.args.sources.now same c.requires.modules) linked c.in_ok-made-in-Ordered.ensures
