use Rattle.folder_programs.proofs.PackageFacts.{unloaded-counts, unloaded-so}
use Rattle.folder_programs.proofs.ProgramAnswers.{of-package, source-counts}
use Rattle.folder_programs.proofs.compiling.compile.Goals as goal

pub returns-in-Ok-clause-faults : goal.returns-in-Ok-clause-faults
returns-in-Ok-clause-faults g c = source-counts _ _ c.package_program.result c.of_source.result c.in-Ok.ensures.faults c.of_source.ensures

pub returns-in-Ok-clause-compiled : goal.returns-in-Ok-clause-compiled
returns-in-Ok-clause-compiled g c =
    of-package (g.F.Folder.files c.args.folder.now) c.in-Ok.source c.package_program.result c.of_source.result c.in-Ok.ensures.loaded c.package_program.ensures c.of_source.ensures

pub returns-in-Err-clause-faults : goal.returns-in-Err-clause-faults
returns-in-Err-clause-faults g c = unloaded-counts _ _ c.in-Err.stop c.unloaded.result c.in-Err.ensures.faults c.unloaded.ensures

pub returns-in-Err-clause-compiled : goal.returns-in-Err-clause-compiled
returns-in-Err-clause-compiled g c =
    unloaded-so (g.F.Folder.files c.args.folder.now) c.in-Err.stop c.unloaded.result c.in-Err.ensures.loaded c.unloaded.ensures
