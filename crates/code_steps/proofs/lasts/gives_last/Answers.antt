use Rattle.std.proofs.Common.{◌-◌, rules}
use Rattle.std.specs.Vec.{vec_len}
use Rattle.std.specs.Prelude.{option_to_list}
use Rattle.plain_run.proofs.Given.{on-ok}
use Rattle.code_steps.specs.States.{call_of}
use Rattle.code_steps.proofs.LastCalls.{last-is}
use Rattle.code_steps.proofs.LastSteps.{gives-so, has-enough}
use Rattle.code_steps.proofs.lasts.gives_last.Goals as goal

pub taken-requires : goal.taken-requires
taken-requires c =
    let call = c.in-Some.call.now in
    let last = last-is c.args.calls.now.items (vec_len c.args.calls.now - 1) call call (search rules) (search rules) (search rules) in
    has-enough c.args.count _ last.below call last.was c.requires

pub returns-in_ok-taken-in-Some : goal.returns-in_ok-taken-in-Some
returns-in_ok-taken-in-Some c =
    let call = c.in-Some.call.now in
    let last = last-is c.args.calls.now.items (vec_len c.args.calls.now - 1) call (record { unit = call.unit; role = call.role; frame = c.resume.new.frame }) (search rules) (search rules) (search rules) in
    on-ok _ _ c.resume.result
    (λ h. gives-so c.args.count (option_to_list c.args.given) _ _ last.below (call_of call) _ _ last.was last.is c.in_ok-taken-in-Some.ensures h)
    c.resume.ensures
