use Rattle.std.proofs.Common.{subst}
use Rattle.check_words.specs.State.{IsLast}
use Rattle.needs_of_functions.proofs.captured.last_wanted.Goals as goal

pub returns : goal.returns
returns c = let h = c.in_ok-t.ensures in (h.0, subst (IsLast c.args.wants.now) h.1 c.in-Some.ensures, h.2)
