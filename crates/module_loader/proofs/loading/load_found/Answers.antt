use Rattle.bal_tree.specs.declared.package.Package.{Package}
use Rattle.manifests.specs.declared.reading.Manifest.{Manifest}
use Rattle.std.proofs.Common.{subst}
use Rattle.std.specs.Prelude.{IfSome}
use Rattle.module_loader.specs.Faults.{IsRefusedFor}
use Rattle.module_loader.specs.Files.{IsManifest}
use Rattle.module_loader.specs.Packages.{PackageOf}
use Rattle.module_loader.specs.inner.Sources.{IsFound}
use Rattle.std.proofs.lemmas.Result.{IfOk-weaker}
use Rattle.module_loader.proofs.Loads.{manifest-first, manifest-refused, still}
use Rattle.module_loader.proofs.Stops.{counts-on, refused-weaker, stop-counts, stop-refused}
use Rattle.module_loader.proofs.loading.load_found.Goals as goal

pub folder_manifest-requires : goal.folder_manifest-requires
folder_manifest-requires g c = manifest-first c.args.listing.now c.args.sources.now (g.F.Folder.files c.args.folder.now) c.requires.found

pub load_all-requires-clause-found : goal.load_all-requires-clause-found
load_all-requires-clause-found g c =
    still (λ files. IsFound files c.args.listing.now c.args.sources.now) (g.F.Folder.files c.args.folder.now) (g.F.Folder.files c.folder_manifest.new.folder) c.in-Ok.ensures.unchanged c.requires.found

pub load_all-requires-clause-says : goal.load_all-requires-clause-says
load_all-requires-clause-says g c =
    still (λ files. IsManifest files c.in-Ok.manifest) (g.F.Folder.files c.args.folder.now) (g.F.Folder.files c.folder_manifest.new.folder) c.in-Ok.ensures.unchanged c.in-Ok.ensures.says

pub returns-in-Ok-clause-faults : goal.returns-in-Ok-clause-faults
returns-in-Ok-clause-faults g c = counts-on _ _ _ c.load_all.result c.in-Ok.ensures.faults c.load_all.ensures.faults

pub returns-in-Ok-clause-package : goal.returns-in-Ok-clause-package
returns-in-Ok-clause-package g c =
    IfOk-weaker c.load_all.result _ _ (λ p h. subst (λ w. IfSome w (λ files. PackageOf files p)) c.in-Ok.ensures.unchanged h) c.load_all.ensures.package

pub returns-in-Ok-clause-refused : goal.returns-in-Ok-clause-refused
returns-in-Ok-clause-refused g c =
    refused-weaker c.load_all.result _ _ (λ r read h. subst (λ w. IfSome w (λ files. IsRefusedFor files r read)) c.in-Ok.ensures.unchanged h) c.load_all.ensures.refused

pub returns-in-Err-clause-faults : goal.returns-in-Err-clause-faults
returns-in-Err-clause-faults g c = stop-counts Manifest Package _ _ c.in-Err.stop c.in-Err.ensures.faults

pub returns-in-Err-clause-refused : goal.returns-in-Err-clause-refused
returns-in-Err-clause-refused g c =
    stop-refused Manifest Package c.in-Err.stop _ _
    (λ r read bad. manifest-refused c.args.listing.now c.args.sources.now (g.F.Folder.files c.args.folder.now) r read c.requires.few c.requires.found bad) c.in-Err.ensures.bad
