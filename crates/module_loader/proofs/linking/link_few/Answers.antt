use Rattle.std.proofs.Common.{◌≡◌, ◌∙◌, ◌≤◌, ap, arith, inr, length, subst, sym}
use Rattle.std.proofs.lemmas.Result.{IfOk-weaker}
use Rattle.module_loader.specs.inner.Linked.{import_refusal}
use Rattle.module_loader.specs.declared.limits.TheConstants.{MOST_MODULES}
use Rattle.module_loader.proofs.Links.{few-of, fewer-paths, link-of, none-found, numbered-as, ordering-as, refusal-found, some-folder}
use Rattle.module_loader.proofs.Lists.{map-long}
use Rattle.module_loader.proofs.linking.link_few.Goals as goal

pub import_fault-requires : goal.import_fault-requires
import_fault-requires c = c.requires.read

pub in_order-requires : goal.in_order-requires
in_order-requires c =
    fewer-paths c.args.manifest.now c.args.folders.now c.args.home.now c.in_ok-names-in-None.names.items c.requires.home c.in_ok-names-in-None.ensures (some-folder _ c.args.folders.now c.requires.modules)

pub returns-in-Some-clause-link : goal.returns-in-Some-clause-link
returns-in-Some-clause-link c = λ taken are same.
    let read = c.args.read.now in
    let here = sym c.in-Some.is ∙ (c.in_ok-found.ensures taken are ∙ ap (λ h. import_refusal h taken read) c.requires.home) in
    inr (c.requires.few, refusal-found c.args.manifest.now c.args.folders.now taken read c.in-Some.refusal here)

pub returns-in_ok-numbers-in-None-clause-link : goal.returns-in_ok-numbers-in-None-clause-link
returns-in_ok-numbers-in-None-clause-link c =
    let manifest = c.args.manifest.now in
    let folders = c.args.folders.now in
    let read = c.args.read.now in
    IfOk-weaker c.in_order.result _ _
    (λ link h. λ taken are same.
    let here = sym c.in-None.is ∙ (c.in_ok-found.ensures taken are ∙ ap (λ h. import_refusal h taken read) c.requires.home) in
    let numbers = c.in_ok-numbers-in-None.ensures ∙ numbered-as folders taken c.args.sources.now same in
    link-of manifest folders taken read link c.requires.few (none-found manifest folders taken read here)
    (ordering-as manifest folders taken read c.args.home.now c.in_ok-names-in-None.names.items c.in_ok-numbers-in-None.numbers.items link c.requires.home c.in_ok-names-in-None.ensures numbers h))
    c.in_order.ensures

pub returns-in_ok-numbers-in-None-clause-few : goal.returns-in_ok-numbers-in-None-clause-few
returns-in_ok-numbers-in-None-clause-few c =
    let folders = c.args.folders.now in
    let some = some-folder _ folders c.requires.modules in
    let count : length c.in_ok-names-in-None.names.items ≡ length folders = ap length c.in_ok-names-in-None.ensures ∙ map-long _ folders in
    IfOk-weaker c.in_order.result _ _
    (λ link h. few-of c.in_ok-names-in-None.names.items c.in_ok-numbers-in-None.numbers.items _ link (omega arith) (subst (λ n. n ≤ MOST_MODULES) (sym count) c.requires.few) h)
    c.in_order.ensures
