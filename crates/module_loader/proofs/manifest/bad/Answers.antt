use Rattle.std.proofs.Common.{[], subst, sym}
use Rattle.source_files.specs.Told.{refusal_of}
use Rattle.module_loader.specs.inner.Linked.{IsStopBy}
use Rattle.manifests.specs.Manifests.{bad_manifest}
use Rattle.module_loader.proofs.manifest.bad.Goals as goal

pub returns-in-Ok : goal.returns-in-Ok
returns-in-Ok c = subst (IsStopBy (refusal_of [] [] bad_manifest) []) (sym c.refused.ensures) (c.unplaced.ensures, c.new.ensures.items)
