use Rattle.lower_model.proofs.Assembled.{assembled-is-lowered}
use Rattle.lower_model.proofs.laws.assembled_code_is_lowered.Goals as goal

pub returns : goal.returns
returns c = assembled-is-lowered
