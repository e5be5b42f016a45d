use Rattle.std.proofs.Common.{arith, sym, ap, ◌∙◌, map}
use Rattle.std.specs.Prelude.{option_map}
use Rattle.machine_model.specs.Machine.{begun}
use Rattle.plain_run.specs.Held.{role_of}
use Rattle.code_frames.specs.Programs.{machine_of}
use Rattle.code_steps.specs.States.{call_of, calls_of}
use Rattle.code_steps.proofs.Spawning.{begun-next, begun-none}
use Rattle.code_steps.proofs.carrying.begin_all.Goals as goal

pub loop-s-preserved : goal.loop-s-preserved
loop-s-preserved c =
    let M = machine_of c.args.program.now in
    begun-next M c.args.spawned.now c.loop-s.s-index c.s-item.result (grind (arith, c.loop-s-test.true)) c.s-item.is (map (λ cs. calls_of cs.items) c.loop-s.others.items) _ (call_of c.in-Some.call) _ c.loop-s.invariant
    (sym (ap (option_map call_of) c.in-Some.is) ∙ c.in_ok-begin.ensures ∙ ap (λ l. begun M c.s-item.result.unit l (option_map role_of c.s-item.result.role)) c.as_slice.ensures.value)
    c.in_ok-add_strand-in-Some.ensures

pub returns-in-None : goal.returns-in-None
returns-in-None c =
    let M = machine_of c.args.program.now in
    begun-none M c.args.spawned.now c.loop-s.s-index c.s-item.result (grind (arith, c.loop-s-test.true)) c.s-item.is (map (λ cs. calls_of cs.items) c.loop-s.others.items) _ c.loop-s.invariant
    (sym (ap (option_map call_of) c.in-None.is) ∙ c.in_ok-begin.ensures ∙ ap (λ l. begun M c.s-item.result.unit l (option_map role_of c.s-item.result.role)) c.as_slice.ensures.value)
