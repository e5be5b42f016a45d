use Rattle.lower_stmt.specs.Bodies.{body_of}
use Rattle.code_maps.proofs.Begun.{played-adds}
use Rattle.code_maps.proofs.units.plays.Goals as goal

pub returns : goal.returns
returns c =
    played-adds c.args.workers (body_of c.args.body) c.args.trace.now c.args.draft.now c.deref-2.result.now c.deref.result.now c.args.player.now c.begin.new.self c.play.new.self c.deref.ensures.value c.deref-2.ensures.value
    c.in_ok-begin.ensures.maps c.in_ok-begin.ensures.waiting c.in_ok-begin.ensures.next c.in_ok-begin.ensures.tally c.in_ok-play.ensures
