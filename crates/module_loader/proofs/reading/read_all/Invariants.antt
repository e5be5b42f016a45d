use Rattle.std.proofs.Common.{◌≡◌, ◌≤◌, length}
use Rattle.module_loader.specs.declared.limits.TheConstants.{MOST_PACKAGE_BYTES}
use Rattle.module_loader.proofs.Adding.{AreReadSoFar}
use Rattle.module_loader.proofs.reading.read_all.Given as goal

abbrev pub invariant-loop-source : goal.invariant-loop-source
invariant-loop-source g l =
    record {
      unchanged : g.F.Folder.files l.folder ≡ g.F.Folder.files l.fn.folder;
      faults : g.F.Folder.faults l.folder ≡ g.F.Folder.faults l.fn.folder;
      count : length l.reading.read.items ≡ l.source-index;
      small : l.reading.bytes ≤ MOST_PACKAGE_BYTES;
      read : AreReadSoFar (g.F.Folder.files l.folder) l.sources l.source-index l.reading;
    }
