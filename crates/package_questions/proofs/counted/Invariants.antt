use Rattle.std.proofs.Common.{◌≡◌, ◌<◌, take}
use Rattle.package_questions.specs.PackageAnswers.{files_in}
use Rattle.package_questions.proofs.counted.Given as goal

abbrev pub invariant-loop-module : goal.invariant-loop-module
invariant-loop-module l = (l.count ≡ files_in (take l.module-index l.modules)) × (l.count < 4294967295)
