use Rattle.std.proofs.Common.{◌≡◌, [], Option, Some, None, ap, length, refl, rules, subst, sym, ◌∙◌}
use Rattle.std.specs.Prelude.{Err}
use Rattle.bal_io.specs.Faults.{CountsFaults}
use Rattle.code_frames.specs.Programs.{machine_of}
use Rattle.code_steps.specs.declared.halts.Halt.{Halt}
use Rattle.code_runs.specs.inner.Turns.{IsTurned, output_in, turned_of}
use Rattle.code_runs.proofs.Written.{come-written, cut-behind, cut-here, goes-further, handed-on, told-empty}
use Rattle.code_runs.proofs.writing.follow.Goals as goal

pub loop-init : goal.loop-init
loop-init g c = (
  refl,
  λ words input ticks come empty. (come, sym (ap length empty), told-empty (output_in c.args.run.now) (g.O.Sink.written c.args.out.now) empty),
)

pub loop-preserved : goal.loop-preserved
loop-preserved g c =
    let M = machine_of c.args.made.now.program in (
      c.in-Ok-None.ensures.faults ∙ c.loop.invariant.0,
      λ words input ticks come empty.
          let before = c.loop.invariant.1 words input ticks come empty in
          let turned = subst (λ h. IsTurned M words input ticks c.args.seed (output_in c.loop.run) c.advance.new.run (turned_of h)) c.in-Ok-None.field-0-is (c.in-Ok-None.ensures.on words input ticks before.0) in
          let len : c.len-written.result ≡ length (output_in c.advance.new.run) = search rules in
          (turned.0, len, goes-further M words input ticks c.args.seed _ _ _ c.loop.run c.advance.new.run None c.loop.written before.1 before.2 turned c.in-Ok-None.ensures.ok),
    )

pub returns-in-Ok-Some-clause-faults : goal.returns-in-Ok-Some-clause-faults
returns-in-Ok-Some-clause-faults g c = c.in-Ok-Some.ensures.faults ∙ c.loop.invariant.0

pub returns-in-Ok-Some-clause-halts : goal.returns-in-Ok-Some-clause-halts
returns-in-Ok-Some-clause-halts g c = λ words input ticks come empty.
    let M = machine_of c.args.made.now.program in
    let before = c.loop.invariant.1 words input ticks come empty in
    let turned = subst (λ h. IsTurned M words input ticks c.args.seed (output_in c.loop.run) c.advance.new.run (turned_of h)) c.in-Ok-Some.field-0-is (c.in-Ok-Some.ensures.on words input ticks before.0) in
    turned.0

pub returns-in-Ok-Some-clause-written : goal.returns-in-Ok-Some-clause-written
returns-in-Ok-Some-clause-written g c = λ words input ticks come empty.
    let M = machine_of c.args.made.now.program in
    let before = c.loop.invariant.1 words input ticks come empty in
    let turned = subst (λ h. IsTurned M words input ticks c.args.seed (output_in c.loop.run) c.advance.new.run (turned_of h)) c.in-Ok-Some.field-0-is (c.in-Ok-Some.ensures.on words input ticks before.0) in
    goes-further M words input ticks c.args.seed _ _ _ c.loop.run c.advance.new.run (Some c.in-Ok-Some.how) c.loop.written before.1 before.2 turned c.in-Ok-Some.ensures.ok

pub returns-in-Err-clause-faults : goal.returns-in-Err-clause-faults
returns-in-Err-clause-faults g c =
    subst (λ n. CountsFaults {A = Halt} n (g.O.Sink.faults c.advance.new.out) (Err c.in-Err.stop)) c.loop.invariant.0
    (handed-on (Option Halt) Halt (g.O.Sink.faults c.loop.out) (g.O.Sink.faults c.advance.new.out) c.in-Err.stop c.in-Err.ensures.faults)

pub returns-in-Err-clause-cut : goal.returns-in-Err-clause-cut
returns-in-Err-clause-cut g c = λ words input ticks come empty.
    let M = machine_of c.args.made.now.program in
    let before = c.loop.invariant.1 words input ticks come empty in
    cut-behind M words input ticks c.args.seed (output_in c.loop.run) _ _ _ before.2 (c.in-Err.ensures.err words input ticks before.0 before.1)

pub returns-clause-cut : goal.returns-clause-cut
returns-clause-cut g c = λ words input ticks come empty.
    let M = machine_of c.args.made.now.program in
    let before = c.loop.invariant.1 words input ticks come empty in
    cut-here M words input ticks c.args.seed (output_in c.loop.run) _ _ before.2 (come-written M words input ticks c.args.seed c.loop.run before.0)
