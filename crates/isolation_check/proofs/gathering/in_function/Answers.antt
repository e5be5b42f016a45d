use Rattle.isolation_check.specs.Parts.{function_parts}
use Rattle.isolation_check.proofs.Growing.{whole-inside, whole-own}
use Rattle.isolation_check.proofs.gathering.in_function.Goals as goal

pub returns-clause-own : goal.returns-clause-own
returns-clause-own c = whole-own (function_parts c.args.f.now) c.whole.result c.none-found.result _ c.body.ensures c.none-found.ensures.own c.whole.ensures.found c.whole.ensures.room

pub returns-clause-inside : goal.returns-clause-inside
returns-clause-inside c = whole-inside (function_parts c.args.f.now) c.whole.result c.none-found.result _ c.body.ensures c.none-found.ensures.inside c.whole.ensures.found c.whole.ensures.room
