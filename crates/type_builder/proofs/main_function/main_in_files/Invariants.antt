use Rattle.std.proofs.Common.{◌≡◌, drop}
use Rattle.type_builder.specs.MainFunction.{main_in_files}
use Rattle.type_builder.proofs.main_function.main_in_files.Given as goal

abbrev pub invariant-loop-file : goal.invariant-loop-file
invariant-loop-file l = main_in_files l.files ≡ main_in_files (drop l.file-index l.files)
