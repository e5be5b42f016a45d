use Rattle.std.proofs.Common.{sym}
use Rattle.check_words.proofs.Stepping.{told-last}
use Rattle.needs_of_loops.proofs.loops.popped.Goals as goal

pub returns : goal.returns
returns c = told-last _ _ _ _ c.in_ok-part.ensures (sym c.in_ok-boxed.ensures.ok)
