use Rattle.std.proofs.Common.{refl}
use Rattle.worker_messages.proofs.Returned.{judged-error, judged-other}
use Rattle.worker_messages.proofs.returns.judged.Goals as goal

pub returns-in-true : goal.returns-in-true
returns-in-true c env = judged-error c.args.at c.args.is_error env c.in-true.is

pub returns-in-false : goal.returns-in-false
returns-in-false c env = judged-other c.args.at c.args.is_error env _ c.in-false.is (record { has_code = refl; stands = refl; shows = refl })
