use Rattle.code_maps.proofs.player.Player.pass.Goals as goal

pub returns-clause-maps : goal.returns-clause-maps
returns-clause-maps c = (c.in_ok-map.map, c.in_ok-map.ensures, c.in_ok-push.ensures.items)
