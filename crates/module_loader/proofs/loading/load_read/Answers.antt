use Rattle.std.proofs.Common.{subst, sym}
use Rattle.package_modules.specs.Modules.{AreModules}
use Rattle.module_loader.proofs.Links.{modules-as}
use Rattle.module_loader.proofs.Stops.{refused-weaker}
use Rattle.module_loader.proofs.loading.load_read.Goals as goal

pub make-requires-clause-modules : goal.make-requires-clause-modules
make-requires-clause-modules c =
    subst (λ l. AreModules l c.as_slice.result.now) (sym c.requires.folders) (subst (AreModules _) (sym c.as_slice.ensures.value) c.in_ok-folders.ensures)

pub returns-clause-refused : goal.returns-clause-refused
returns-clause-refused c =
    let folders = c.as_slice.result.now in
    let are = subst (λ l. AreModules l folders) (sym c.requires.folders) (subst (AreModules _) (sym c.as_slice.ensures.value) c.in_ok-folders.ensures) in
    refused-weaker c.make.result _ _
    (λ r after fault. λ taken reads same. record { folders = folders; modules = modules-as folders taken c.args.sources.now same are; fault = fault taken reads same })
    c.make.ensures.refused
