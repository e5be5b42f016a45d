use Rattle.inherent_atoms.proofs.Noting.{notes-then}
use Rattle.inherent_atoms.proofs.steps.all.Goals as goal

pub returns : goal.returns
returns c = notes-then c.in_ok-all_steps.ensures (notes-then c.in_ok-rests.ensures c.in_ok-main_words.ensures)
