use Rattle.std.proofs.Common.{subst}
use Rattle.std.specs.Prelude.{Err, IfSome}
use Rattle.std.proofs.lemmas.Result.{IfOk-weaker}
use Rattle.bal_base.specs.declared.stop.Stop.TheVariants.{Fault, Memory}
use Rattle.folder_files.specs.Files.{names}
use Rattle.package_files.specs.Listings.{IsListing}
use Rattle.module_loader.specs.Faults.{IsRefusedFor}
use Rattle.module_loader.specs.Packages.{PackageOf}
use Rattle.module_loader.specs.declared.faults.LoadFault.TheVariants.{Folder}
use Rattle.module_loader.proofs.Due.{package-due, refusal-due}
use Rattle.module_loader.proofs.Loads.{still}
use Rattle.module_loader.proofs.Stops.{counts-on, refused-weaker}
use Rattle.module_loader.proofs.loading.load.Goals as goal

pub load_listed-requires : goal.load_listed-requires
load_listed-requires g c =
    still (λ files. IsListing (names files) c.in-Ok.listing) (g.F.Folder.files c.args.folder.now) (g.F.Folder.files c.list.new.folder) c.in-Ok.ensures.unchanged c.in-Ok.ensures.listed

pub returns-in-Ok-clause-faults : goal.returns-in-Ok-clause-faults
returns-in-Ok-clause-faults g c = counts-on _ _ _ c.load_listed.result c.in-Ok.ensures.faults c.load_listed.ensures.faults

pub returns-in-Ok-clause-package : goal.returns-in-Ok-clause-package
returns-in-Ok-clause-package g c =
    IfOk-weaker c.load_listed.result _ _ (λ p h. subst (λ w. IfSome w (λ files. PackageOf files p)) c.in-Ok.ensures.unchanged h) c.load_listed.ensures.package

pub returns-in-Ok-clause-refused : goal.returns-in-Ok-clause-refused
returns-in-Ok-clause-refused g c =
    refused-weaker c.load_listed.result _ _ (λ r read h. subst (λ w. IfSome w (λ files. IsRefusedFor files r read)) c.in-Ok.ensures.unchanged h) c.load_listed.ensures.refused

pub returns-in-Ok-clause-package_due : goal.returns-in-Ok-clause-package_due
returns-in-Ok-clause-package_due g c =
    package-due c.load_listed.result (g.F.Folder.files c.args.folder.now)
    (refused-weaker c.load_listed.result _ _ (λ r read h. subst (λ w. IfSome w (λ files. IsRefusedFor files r read)) c.in-Ok.ensures.unchanged h) c.load_listed.ensures.refused)

pub returns-in-Ok-clause-refusal_due : goal.returns-in-Ok-clause-refusal_due
returns-in-Ok-clause-refusal_due g c =
    refusal-due c.load_listed.result (g.F.Folder.files c.args.folder.now)
    (IfOk-weaker c.load_listed.result _ _ (λ p h. subst (λ w. IfSome w (λ files. PackageOf files p)) c.in-Ok.ensures.unchanged h) c.load_listed.ensures.package)
    (refused-weaker c.load_listed.result _ _ (λ r read h. subst (λ w. IfSome w (λ files. IsRefusedFor files r read)) c.in-Ok.ensures.unchanged h) c.load_listed.ensures.refused)

pub returns-in-Err-Memory-clause-package_due : goal.returns-in-Err-Memory-clause-package_due
returns-in-Err-Memory-clause-package_due g c = package-due (Err Memory) (g.F.Folder.files c.args.folder.now) tt

pub returns-in-Err-Memory-clause-refusal_due : goal.returns-in-Err-Memory-clause-refusal_due
returns-in-Err-Memory-clause-refusal_due g c = refusal-due (Err Memory) (g.F.Folder.files c.args.folder.now) tt tt

pub returns-in-Err-Fault-clause-package_due : goal.returns-in-Err-Fault-clause-package_due
returns-in-Err-Fault-clause-package_due g c = package-due (Err (Fault Folder)) (g.F.Folder.files c.args.folder.now) tt

pub returns-in-Err-Fault-clause-refusal_due : goal.returns-in-Err-Fault-clause-refusal_due
returns-in-Err-Fault-clause-refusal_due g c = refusal-due (Err (Fault Folder)) (g.F.Folder.files c.args.folder.now) tt tt
