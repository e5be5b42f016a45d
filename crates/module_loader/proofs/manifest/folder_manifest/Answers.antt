use Rattle.std.proofs.Common.{subst}
use Rattle.std.specs.Prelude.{IfSome}
use Rattle.folder_files.specs.Files.{names}
use Rattle.package_files.specs.Listings.{IsFirstOf, manifest_name}
use Rattle.module_loader.proofs.Fronts.{manifest-none}
use Rattle.module_loader.proofs.manifest.folder_manifest.Goals as goal

pub manifest_at-requires : goal.manifest_at-requires
manifest_at-requires g c =
    subst (λ o. IfSome (g.F.Folder.files c.args.folder.now) (λ files. IsFirstOf (names files) manifest_name o)) c.in-Some.is c.requires

pub returns-in_ok-without_file-in-None-clause-says : goal.returns-in_ok-without_file-in-None-clause-says
returns-in_ok-without_file-in-None-clause-says g c =
    manifest-none (g.F.Folder.files c.args.folder.now) c.in_ok-without_file-in-None.field-0
    (subst (λ o. IfSome (g.F.Folder.files c.args.folder.now) (λ files. IsFirstOf (names files) manifest_name o)) c.in-None.is c.requires) c.in_ok-without_file-in-None.ensures
