-- Strands that are waited for.
use Rattle.plain_run.proofs.Looking.{get-past, get-there}
use Rattle.plain_messages.proofs.Changing.{changed-past}

pub ruleset waiting = (get-there, get-past, changed-past)
