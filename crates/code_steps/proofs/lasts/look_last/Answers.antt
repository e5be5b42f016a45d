use Rattle.std.proofs.Common.{◌≡◌, ◌-◌, rules, subst}
use Rattle.std.specs.Vec.{vec_len}
use Rattle.stack_code.specs.CodeMachine.{obeys}
use Rattle.code_frames.specs.Asking.{ask_of}
use Rattle.code_frames.specs.Frames.{standing_of}
use Rattle.code_frames.specs.Programs.{command_at}
use Rattle.code_steps.specs.States.{call_of}
use Rattle.code_steps.proofs.LastCalls.{last-is}
use Rattle.code_steps.proofs.LastSteps.{if-three, looks-there}
use Rattle.code_steps.proofs.lasts.look_last.Goals as goal

pub returns-in-Some : goal.returns-in-Some
returns-in-Some c =
    let p = c.args.program.now in
    let call = c.in-Some.call.now in
    let last = last-is c.args.calls.now.items (vec_len c.args.calls.now - 1) call (record { unit = call.unit; role = call.role; frame = c.look.new.frame }) (search rules) (search rules) (search rules) in
    if-three _ _ _ _ c.look.result
    (λ a looks stays enough. looks-there p _ _ (call_of call) last.below c.look.new.frame a last.was last.is
    (λ slots. subst (λ steps. obeys slots (standing_of call.frame) (command_at steps call.frame.place) ≡ ask_of slots a (standing_of c.look.new.frame)) c.as_slice.ensures.value (looks slots))
    stays enough)
    c.look.ensures.asks c.look.ensures.stays c.look.ensures.enough
