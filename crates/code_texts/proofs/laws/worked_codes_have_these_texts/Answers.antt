use Rattle.std.proofs.Common.{refl}
use Rattle.std.specs.Fmt.{digits}
use Rattle.code_texts.proofs.laws.worked_codes_have_these_texts.Goals as goal

pub returns-clause-sum : goal.returns-clause-sum
unfolding digits
returns-clause-sum c = refl

pub returns-clause-workers : goal.returns-clause-workers
unfolding digits
returns-clause-workers c = refl

pub returns-clause-structures : goal.returns-clause-structures
unfolding digits
returns-clause-structures c = refl
