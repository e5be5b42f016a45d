-- The next unit of strand 0 begins.
use Rattle.std.proofs.Common.{◌≡◌, [], ◌∷◌, Option, Some, None, sym, ap, ◌∙◌}
use Rattle.std.specs.Prelude.{option_map}
use Rattle.op_model.specs.Common.{Common, End}
use Rattle.op_model.specs.Strands.{settled}
use Rattle.machine_model.specs.Machine.{Moved, Next, State, begun, left_with, next_units, put}
use Rattle.stack_code.specs.CodeMachine.{Standing}
use Rattle.plain_run.specs.declared.held.ToRun.{ToRun}
use Rattle.code_frames.specs.declared.held.Program.{Program}
use Rattle.code_steps.specs.Ends.{TakesUnit}
use Rattle.code_frames.specs.Programs.{machine_of}

pub left-next : (p : Program) (old mid : Common) (end : End) (u : ToRun) → TakesUnit (Some u) old end mid → (s : State Standing) (r : Option (Next Standing)) → r ≡ option_map (λ f. Moved (put s (settled mid) (f ∷ []))) (begun (machine_of p) u.unit u.args.items None) → r ≡ left_with (machine_of p) s old end (next_units old end)
left-next p old mid end u (us, e, c) s r h =
    h
    ∙ (λ i. option_map (λ f. Moved (put s (settled (c i)) (f ∷ []))) (begun (machine_of p) u.unit u.args.items None))
    ∙ ap (left_with (machine_of p) s old end) (sym e)
