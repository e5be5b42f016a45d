use Rattle.std.proofs.Common.{◌∙◌, ◌<◌, None, arith, get_or, length, sym}
use Rattle.std.proofs.lemmas.List.{get_or_default}
use Rattle.worker_ranks.proofs.Named.{name-is, name-next}
use Rattle.worker_ranks.proofs.nodes.is_named.Goals as goal

pub loop-name-preserved : goal.loop-name-preserved
loop-name-preserved c =
    let i = c.loop-name.name-index in
    let name = get_or c.args.names.now i None in
    let lt : i < length c.args.names.now = omega arith in
    name-next c.args.names.now c.args.worker i name _ lt (get_or_default c.args.names.now i None name lt) (sym c.is_peer.ensures ∙ c.if-is_peer.false) c.loop-name.invariant

pub returns-then-is_peer : goal.returns-then-is_peer
returns-then-is_peer c =
    let i = c.loop-name.name-index in
    let name = get_or c.args.names.now i None in
    let lt : i < length c.args.names.now = omega arith in
    name-is c.args.names.now c.args.worker i name _ lt (get_or_default c.args.names.now i None name lt) (sym c.is_peer.ensures ∙ c.if-is_peer.true) c.loop-name.invariant
