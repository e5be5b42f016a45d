use Rattle.std.proofs.Common.{◌∙◌, Some, ap, sym}
use Rattle.bal_base.specs.declared.fault.FaultCode.TheVariants.{NoModule}
use Rattle.module_loader.specs.Packages.{unknown_in}
use Rattle.module_loader.specs.inner.Linked.{refused_at}
use Rattle.module_loader.proofs.Placing.{first-in-files, unknowns-are}
use Rattle.module_loader.proofs.imports.unknown_fault.Goals as goal

pub at_import-requires : goal.at_import-requires
at_import-requires c =
    let home = c.args.home.now in
    first-in-files (unknown_in home) (unknowns-are home) c.args.read.now c.in-Some.at c.requires (sym c.in_ok-found.ensures ∙ c.in-Some.is)

pub returns-in_ok-refusal-in-Some : goal.returns-in_ok-refusal-in-Some
returns-in_ok-refusal-in-Some c = λ taken are.
    let here = sym c.in_ok-found.ensures ∙ c.in-Some.is in
    ap Some (c.in_ok-refusal-in-Some.ensures taken are) ∙ sym (ap (refused_at taken NoModule) here)

pub returns-in-None : goal.returns-in-None
returns-in-None c = λ taken are. sym (ap (refused_at taken NoModule) (sym c.in_ok-found.ensures ∙ c.in-None.is))
