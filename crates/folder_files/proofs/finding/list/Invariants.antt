use Rattle.std.proofs.Common.{◌≡◌, ◌≤◌, length, take}
use Rattle.std.specs.Prelude.{IfSome}
use Rattle.package_files.specs.Listings.{IsListing}
use Rattle.folder_files.specs.Files.{names}
use Rattle.folder_files.proofs.finding.list.Given as goal

abbrev pub invariant-loop-number : goal.invariant-loop-number
invariant-loop-number g l =
    record {
      unchanged : g.F.Folder.files l.folder ≡ g.F.Folder.files l.fn.folder;
      faults : g.F.Folder.faults l.folder ≡ g.F.Folder.faults l.fn.folder;
      within : IfSome (g.F.Folder.files l.folder) (λ all. l.number-end ≤ length all);
      listed : IfSome (g.F.Folder.files l.folder) (λ all. IsListing (take l.number (names all)) l.listing);
    }
