use Rattle.checks.proofs.Steps.{ran_out}
use Rattle.type_builder.specs.AtomPlaces.{package_places, room_for}
use Rattle.type_builder.proofs.room.check_room.Goals as goal

pub returns-in-Err : goal.returns-in-Err
returns-in-Err c = ran_out (room_for (package_places c.args.«package».now)) c.args.env.now c.args.env.now
