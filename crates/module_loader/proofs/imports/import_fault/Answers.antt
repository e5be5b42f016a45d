use Rattle.std.proofs.Common.{◌∙◌, Some, ap, sym}
use Rattle.std.proofs.lemmas.Result.{IfOk-weaker}
use Rattle.bal_base.specs.declared.fault.FaultCode.TheVariants.{Duplicate, NoModule}
use Rattle.module_loader.specs.Packages.{first_place, repeat_in, unknown_in}
use Rattle.module_loader.specs.inner.Linked.{refusal_or, refused_at}
use Rattle.module_loader.proofs.Placing.{first-in-files, repeats-are}
use Rattle.module_loader.proofs.imports.import_fault.Goals as goal

pub at_import-requires : goal.at_import-requires
at_import-requires c =
    first-in-files repeat_in repeats-are c.args.read.now c.in-Some.at c.requires (sym c.in_ok-found.ensures ∙ c.in-Some.is)

pub returns-in_ok-refusal-in-Some : goal.returns-in_ok-refusal-in-Some
returns-in_ok-refusal-in-Some c = λ taken are.
    let read = c.args.read.now in
    let here = sym c.in_ok-found.ensures ∙ c.in-Some.is in
    ap Some (c.in_ok-refusal-in-Some.ensures taken are) ∙ sym (ap (λ o. refusal_or (refused_at taken Duplicate o) (refused_at taken NoModule (first_place (unknown_in c.args.home.now) read))) here)

pub returns-in-None : goal.returns-in-None
returns-in-None c =
    let read = c.args.read.now in
    let here = sym c.in_ok-found.ensures ∙ c.in-None.is in
    IfOk-weaker c.unknown_fault.result _ _
    (λ found is. λ taken are. is taken are ∙ sym (ap (λ o. refusal_or (refused_at taken Duplicate o) (refused_at taken NoModule (first_place (unknown_in c.args.home.now) read))) here))
    c.unknown_fault.ensures
