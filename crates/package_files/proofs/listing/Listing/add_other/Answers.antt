use Rattle.std.proofs.Common.{subst, sym}
use Rattle.package_files.proofs.Sources.{manifest-here, manifest-other, other-file, sources-other}
use Rattle.package_files.specs.Listings.{AreSources, IsFirstOf, manifest_name}
use Rattle.std.proofs.Common.{[], ◌∷◌, ◌++◌}
use Rattle.package_files.proofs.listing.Listing.add_other.Goals as goal

pub returns-then-is_manifest : goal.returns-then-is_manifest
returns-then-is_manifest c = λ names l at m.
    let old = c.args.self.now in
    let name = c.args.name.now in
    record {
      sources = subst (λ s. AreSources (names ++ name ∷ []) s) (sym c.add_manifest.ensures.sources) (sources-other names name old.sources l.sources m);
      manifest = subst (λ k. IsFirstOf (names ++ name ∷ []) manifest_name k) (sym c.add_manifest.ensures.manifest) (manifest-here names old.manifest name c.args.number (c.is_manifest.ensures.0 c.if-is_manifest.true) at l.manifest);
    }

pub returns-else-is_manifest : goal.returns-else-is_manifest
returns-else-is_manifest c = λ names l at m.
    let old = c.args.self.now in
    let name = c.args.name.now in
    record {
      sources = sources-other names name old.sources l.sources m;
      manifest = manifest-other names old.manifest name (λ e. other-file c.is_manifest.result c.if-is_manifest.false (c.is_manifest.ensures.1 e)) l.manifest;
    }
