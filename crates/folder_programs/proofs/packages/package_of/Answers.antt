use Rattle.folder_programs.proofs.PackageFacts.{made-of, stop-counts, stop-loaded}
use Rattle.folder_programs.proofs.packages.package_of.Goals as goal

pub returns-in-Ok-clause-loaded : goal.returns-in-Ok-clause-loaded
returns-in-Ok-clause-loaded g c =
    made-of (g.F.Folder.files c.args.folder.now) c.in-Ok.«package» c.in-Ok.ensures.«package» c.in-Ok.ensures.refusal_due

pub returns-in-Err-clause-faults : goal.returns-in-Err-clause-faults
returns-in-Err-clause-faults g c = stop-counts c.in-Err.stop c.without_files.result c.without_files.ensures _ _ c.in-Err.ensures.faults

pub returns-in-Err-clause-loaded : goal.returns-in-Err-clause-loaded
returns-in-Err-clause-loaded g c =
    stop-loaded c.in-Err.stop c.without_files.result c.without_files.ensures (g.F.Folder.files c.args.folder.now)
    c.in-Err.ensures.refused c.in-Err.ensures.package_due c.in-Err.ensures.refusal_due
