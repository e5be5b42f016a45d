use Rattle.std.proofs.Common.{arith}
use Rattle.std.specs.Option.{option_copied}
use Rattle.needs_of_places.proofs.AwaitedOne.{future-left, no-future}
use Rattle.needs_of_places.proofs.waits.future_ends.Goals as goal

pub returns-in-empty : goal.returns-in-empty
returns-in-empty c = λ place. no-future place (option_copied c.args.held) c.args.left.now _ _ (omega arith) c.refuse.ensures

pub returns-in-len1-up : goal.returns-in-len1-up
returns-in-len1-up c = λ place.
    future-left place (option_copied c.args.held) c.args.left.now c.t-item.result c.args.lent.results.now _ _ c.in-len1-up.len_at_least c.t-item.is c.requires.results c.waits_for.ensures
