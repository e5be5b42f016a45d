use Rattle.std.proofs.Common.{OnOk}
use Rattle.lower_stmt.specs.Bodies.{body_of}
use Rattle.map_traces.specs.Events.{known_of}
use Rattle.code_maps.specs.Given.{Adds}
use Rattle.code_maps.proofs.Begun.{unit-told}
use Rattle.code_maps.proofs.units.unit.Goals as goal

pub returns : goal.returns
returns c =
    unit-told (known_of c.args.around) c.args.workers (body_of c.args.body) c.in_ok-trace.trace c.in_ok-draft.draft (λ points. OnOk c.plays.result (Adds points c.args.player.now c.plays.new.player)) c.in_ok-trace.ensures c.in_ok-draft.ensures
    c.plays.ensures
