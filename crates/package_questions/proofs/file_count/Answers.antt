use Rattle.std.proofs.Common.{◌≡◌, subst}
use Rattle.std.specs.Prelude.{IfOk}
use Rattle.package_questions.specs.PackageAnswers.{files_in}
use Rattle.package_questions.proofs.file_count.Goals as goal

pub returns-clause-count : goal.returns-clause-count
returns-clause-count c = subst (λ ms. IfOk c.counted.result (λ n. n ≡ files_in ms)) c.as_slice.ensures c.counted.ensures.count
