use Rattle.std.specs.Prelude.{Vec, ℕ}
use Rattle.std.specs.Global.{Global}
use Rattle.manifests.specs.declared.reading.Manifest.{Manifest}
use Rattle.std.proofs.Common.{subst}
use Rattle.std.proofs.lemmas.Result.{IfOk-weaker}
use Rattle.manifests.specs.Manifests.{IsBad, Says}
use Rattle.module_loader.proofs.Fronts.{manifest-bad, manifest-opens, manifest-says}
use Rattle.module_loader.proofs.Stops.{files-count, refused-weaker, stop-counts, stop-refused}
use Rattle.module_loader.proofs.manifest.manifest_at.Goals as goal

pub bytes_of-requires : goal.bytes_of-requires
bytes_of-requires g c = manifest-opens (g.F.Folder.files c.args.folder.now) c.args.number c.requires

pub returns-in-Ok-clause-faults : goal.returns-in-Ok-clause-faults
returns-in-Ok-clause-faults g c = files-count _ _ c.manifest_of.result c.in-Ok.ensures.faults c.manifest_of.ensures.files

pub returns-in-Ok-clause-says : goal.returns-in-Ok-clause-says
returns-in-Ok-clause-says g c =
    IfOk-weaker c.manifest_of.result _ _
    (λ m says. manifest-says (g.F.Folder.files c.args.folder.now) c.args.number c.in-Ok.front.items m c.requires c.in-Ok.ensures.front (subst (λ b. Says b m) c.as_slice.ensures.value says))
    c.manifest_of.ensures.says

pub returns-in-Ok-clause-bad : goal.returns-in-Ok-clause-bad
returns-in-Ok-clause-bad g c =
    refused-weaker c.manifest_of.result _ _
    (λ r read is. manifest-bad (g.F.Folder.files c.args.folder.now) c.args.number c.in-Ok.front.items r read c.requires c.in-Ok.ensures.front (subst IsBad c.as_slice.ensures.value is.0, is.1, is.2))
    c.manifest_of.ensures.bad

pub returns-in-Err-clause-faults : goal.returns-in-Err-clause-faults
returns-in-Err-clause-faults g c = stop-counts (Vec ℕ Global) Manifest _ _ c.in-Err.stop c.in-Err.ensures.faults

pub returns-in-Err-clause-bad : goal.returns-in-Err-clause-bad
returns-in-Err-clause-bad g c = stop-refused (Vec ℕ Global) Manifest c.in-Err.stop _ _ (λ r read none. absurd none) c.in-Err.ensures.unrefused
