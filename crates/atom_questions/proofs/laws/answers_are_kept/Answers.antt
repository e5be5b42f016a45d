use Rattle.atom_questions.proofs.NeedsKept.{answers-kept}
use Rattle.atom_questions.proofs.laws.answers_are_kept.Goals as goal

pub returns : goal.returns
returns c = answers-kept
