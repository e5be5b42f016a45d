use Rattle.std.proofs.Common.{None, Some, sym, ap, ◌∙◌}
use Rattle.std.specs.Prelude.{option_map}
use Rattle.machine_model.specs.Machine.{begun}
use Rattle.plain_run.specs.Held.{common_of}
use Rattle.code_steps.specs.Begins.{first_state}
use Rattle.code_frames.specs.Programs.{machine_of}
use Rattle.code_steps.specs.States.{call_of}
use Rattle.code_steps.proofs.starting.begins_with.Goals as goal

pub returns : goal.returns
returns c =
    ap Some c.in_ok-state_with-in-Some.ensures
    ∙ ap (option_map (first_state (common_of c.args.common)))
    (sym (ap (option_map call_of) c.in-Some.is) ∙ c.in_ok-begin.ensures ∙ ap (λ l. begun (machine_of c.args.program.now) c.args.first.unit l None) c.as_slice.ensures.value)
