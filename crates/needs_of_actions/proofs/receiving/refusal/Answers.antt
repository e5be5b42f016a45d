use Rattle.std.proofs.Common.{refl}
use Rattle.bal_base.specs.declared.fault.FaultCode.TheVariants.{NeedsType}
use Rattle.check_words.proofs.Coming.{failed}
use Rattle.needs_of_actions.proofs.receiving.refusal.Goals as goal

pub returns : goal.returns
returns c = λ peer s. failed _ NeedsType c.args.at s _ (record { has_code = refl; stands = refl; shows = refl })
