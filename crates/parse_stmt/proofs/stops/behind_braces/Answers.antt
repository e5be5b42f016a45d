use Rattle.parse_stmt.proofs.StopWithin.{braces-late}
use Rattle.parse_stmt.proofs.stops.behind_braces.Goals as goal

pub returns-then-rest-after : goal.returns-then-rest-after
returns-then-rest-after c = braces-late c.args.tokens.now c.in_ok-inside.inside.now c.in_ok-rest.rest.now c.args.after.now c.in_ok-inside.ensures.heads c.in_ok-rest.ensures.heads c.if-rest-after.true
