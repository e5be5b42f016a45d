use Rattle.std.proofs.Common.{◌≡◌, [], Err, refl, subst}
use Rattle.bal_base.specs.Stops.{IfFault}
use Rattle.manifests.specs.Manifests.{IsBad, bad_manifest}
use Rattle.manifests.specs.declared.reading.Manifest.{Manifest}
use Rattle.source_files.specs.Told.{refusal_of}
use Rattle.module_loader.proofs.Stops.{stop-by, stop-of-files}
use Rattle.module_loader.proofs.manifest.manifest_of.Goals as goal

pub returns-in-Err-Fault-clause-files : goal.returns-in-Err-Fault-clause-files
returns-in-Err-Fault-clause-files c = stop-of-files Manifest (refusal_of [] [] bad_manifest) [] c.bad.result c.bad.ensures

pub returns-in-Err-Fault-clause-bad : goal.returns-in-Err-Fault-clause-bad
returns-in-Err-Fault-clause-bad c =
    let told = subst (λ stop. IfFault {T = Manifest} (Err stop) (λ f. (f ≡ bad_manifest) × IsBad c.args.front.now)) c.in-Err-Fault.field-0-is c.in-Err-Fault.ensures.bad in
    stop-by Manifest (refusal_of [] [] bad_manifest) [] c.bad.result _ c.bad.ensures (told.1, refl, refl)
