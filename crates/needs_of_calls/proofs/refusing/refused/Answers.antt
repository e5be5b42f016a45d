use Rattle.std.proofs.Common.{refl}
use Rattle.check_words.proofs.Coming.{failed}
use Rattle.needs_of_calls.proofs.refusing.refused.Goals as goal

pub returns : goal.returns
returns c = λ s. failed (Unit {0}) _ _ s _ (record { has_code = refl; stands = refl; shows = refl })
