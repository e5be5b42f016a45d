use Rattle.std.proofs.Common.{◌-◌, rules}
use Rattle.std.specs.Vec.{vec_len}
use Rattle.plain_run.proofs.Given.{on-ok}
use Rattle.code_steps.specs.States.{call_of}
use Rattle.code_steps.proofs.LastCalls.{last-is}
use Rattle.code_steps.proofs.LastSteps.{awaits-so, has-enough}
use Rattle.code_steps.proofs.lasts.awaits_last.Goals as goal

pub taken-requires : goal.taken-requires
taken-requires c =
    let call = c.in-Some.call.now in
    let last = last-is c.args.calls.now.items (vec_len c.args.calls.now - 1) call call (search rules) (search rules) (search rules) in
    has-enough c.args.count _ last.below call last.was c.requires

pub returns-in-Some : goal.returns-in-Some
returns-in-Some c =
    let call = c.in-Some.call.now in
    let last = last-is c.args.calls.now.items (vec_len c.args.calls.now - 1) call (record { unit = call.unit; role = call.role; frame = c.taken.new.frame }) (search rules) (search rules) (search rules) in
    on-ok _ _ c.taken.result (λ h. awaits-so c.args.count _ _ last.below (call_of call) _ last.was last.is h) c.taken.ensures
