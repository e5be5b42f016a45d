use Rattle.std.proofs.Common.{◌≡◌, drop}
use Rattle.descriptors.specs.Naming.{first_source}
use Rattle.descriptors.proofs.resolving.first_source.Given as goal

abbrev pub invariant-loop-file : goal.invariant-loop-file
invariant-loop-file l = first_source l.prefix l.files ≡ first_source l.prefix (drop l.file-index l.files)
