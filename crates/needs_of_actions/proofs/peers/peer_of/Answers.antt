use Rattle.std.proofs.Common.{◌≡◌, map, subst}
use Rattle.check_words.specs.Actions.{peer_named}
use Rattle.check_work.specs.Views.{state_of, unit_of}
use Rattle.check_work.proofs.Noting.{at-hand}
use Rattle.needs_of_actions.proofs.PeersNamed.{peer-comes}
use Rattle.needs_of_actions.proofs.peers.peer_of.Goals as goal

pub returns : goal.returns
returns c = λ env.
    let unit = c.in_ok-unit.unit.now in
    peer-comes (state_of env c.args.work.now) (map unit_of c.args.work.now.around.items) (unit_of unit) (at-hand _ _ _ c.in_ok-unit.ensures) c.args.peer.now c.in_ok-number.number
    (subst (λ ws. c.in_ok-number.number ≡ peer_named ws unit.worker c.args.peer.now) c.as_slice.ensures.value c.in_ok-number.ensures)
