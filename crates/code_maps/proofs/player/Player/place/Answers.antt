use Rattle.std.proofs.Common.{map, refl}
use Rattle.lower_expr.specs.Drafts.{step_of}
use Rattle.code_maps.proofs.Playing.{place-goes-at}
use Rattle.code_maps.proofs.player.Player.place.Goals as goal

pub returns-in_ok-pass-in-Some : goal.returns-in_ok-pass-in-Some
returns-in_ok-pass-in-Some c =
    let gone = c.in_ok-pass-in-Some.ensures in
    place-goes-at c.args.workers (map step_of c.args.steps.now) _ _ c.args.steps.now c.in-Some.step refl c.in-Some.ensures gone.maps gone.waiting gone.next gone.tally
