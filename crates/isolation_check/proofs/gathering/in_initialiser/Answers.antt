use Rattle.isolation_check.specs.Parts.{initialiser_parts}
use Rattle.isolation_check.proofs.Growing.{whole-inside}
use Rattle.isolation_check.proofs.gathering.in_initialiser.Goals as goal

pub returns : goal.returns
returns c = record { inside = whole-inside (initialiser_parts c.args.i.now) c.whole.result c.none-found.result _ c.initialiser.ensures c.none-found.ensures.inside c.whole.ensures.found c.whole.ensures.room }
