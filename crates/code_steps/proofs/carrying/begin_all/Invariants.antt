use Rattle.std.proofs.Common.{◌≡◌, ◌++◌, drop, map}
use Rattle.std.specs.Prelude.{option_map}
use Rattle.machine_model.specs.Machine.{all_begun}
use Rattle.plain_run.specs.Effects.{spawned_of}
use Rattle.code_frames.specs.Programs.{machine_of}
use Rattle.code_steps.specs.States.{calls_of}
use Rattle.code_steps.proofs.carrying.begin_all.Given as goal

abbrev pub invariant-loop-s : goal.invariant-loop-s
invariant-loop-s l =
    option_map (λ more. map (λ cs. calls_of cs.items) l.initial.others.items ++ more) (all_begun (machine_of l.program) (map spawned_of l.spawned))
    ≡ option_map (λ more. map (λ cs. calls_of cs.items) l.others.items ++ more) (all_begun (machine_of l.program) (map spawned_of (drop l.s-index l.spawned)))
