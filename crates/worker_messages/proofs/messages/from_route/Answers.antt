use Rattle.std.proofs.Common.{Some, None}
use Rattle.worker_members.specs.Held.{members_held, numbered_held}
use Rattle.worker_messages.proofs.Fitted.{found-defined, found-on, way-found, way-none}
use Rattle.worker_messages.proofs.messages.from_route.Goals as goal

pub message_fits-requires-clause-sent : goal.message_fits-requires-clause-sent
message_fits-requires-clause-sent g c =
    let ms = members_held c.args.members.now in
    let found = found-on c.deref.result.now c.args.members.now.workers.items c.args.way.from c.args.way.to c.place_on-place.result _ (Some c.in-Some.sent) c.deref.ensures.value c.place_on-place.ensures c.in-Some.ensures in
    found-defined (g.T.Types.atoms c.args.types.now) ms c.args.way.from c.in-Some.sent c.requires.members found.said

pub returns-in-Some-clause-comes : goal.returns-in-Some-clause-comes
returns-in-Some-clause-comes g c =
    let ms = members_held c.args.members.now in
    let found = found-on c.deref.result.now c.args.members.now.workers.items c.args.way.from c.args.way.to c.place_on-place.result _ (Some c.in-Some.sent) c.deref.ensures.value c.place_on-place.ensures c.in-Some.ensures in
    way-found g.T.Types.passes ms (numbered_held c.args.event) c.args.way.from c.args.way.to c.in-Some.sent _ _ c.message_fits.result found c.message_fits.ensures.comes

pub returns-in-None-clause-comes : goal.returns-in-None-clause-comes
returns-in-None-clause-comes g c =
    let ms = members_held c.args.members.now in
    let found = found-on c.deref.result.now c.args.members.now.workers.items c.args.way.from c.args.way.to c.place_on-place.result _ None c.deref.ensures.value c.place_on-place.ensures c.in-None.ensures in
    way-none g.T.Types.passes ms (numbered_held c.args.event) c.args.way.from c.args.way.to _ found
