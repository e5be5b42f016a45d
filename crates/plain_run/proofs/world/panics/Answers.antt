use Rattle.std.proofs.Common.{None, ap, subst, ◌∙◌}
use Rattle.std.specs.Str.{chars}
use Rattle.plain_run.specs.Came.{IsErrorMade}
use Rattle.plain_run.specs.Held.{world_of}
use Rattle.plain_run.proofs.Made.{panic-past, panic-threw}
use Rattle.plain_run.proofs.PanicNames.{message-chars}
use Rattle.plain_run.proofs.world.panics.Goals as goal

pub returns-in-Some-clause-row : goal.returns-in-Some-clause-row
returns-in-Some-clause-row c =
    let w = world_of c.args.world.now in
    let v = world_of c.make_error.new.world in
    panic-threw w v c.args.name c.in_ok-message.message c.new-2.result (c.in_ok-message.ensures ∙ (ap chars c.message.ensures ∙ message-chars c.args.name)) c.new-2.ensures c.in-Some.number
    (subst (IsErrorMade w c.in_ok-message.message None c.new-2.result v) c.in-Some.is c.in_ok-number.ensures)

pub returns-in-None-clause-row : goal.returns-in-None-clause-row
returns-in-None-clause-row c =
    let w = world_of c.args.world.now in
    let v = world_of c.make_error.new.world in
    panic-past w v c.args.name c.in_ok-message.message c.new-2.result (c.in_ok-message.ensures ∙ (ap chars c.message.ensures ∙ message-chars c.args.name)) c.new-2.ensures
    (subst (IsErrorMade w c.in_ok-message.message None c.new-2.result v) c.in-None.is c.in_ok-number.ensures)

pub returns-in-None-clause-stays : goal.returns-in-None-clause-stays
returns-in-None-clause-stays c =
    (subst (IsErrorMade (world_of c.args.world.now) c.in_ok-message.message None c.new-2.result (world_of c.make_error.new.world)) c.in-None.is c.in_ok-number.ensures).0
