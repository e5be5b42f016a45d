use Rattle.std.proofs.Common.{subst}
use Rattle.plain_run.specs.Held.{common_of}
use Rattle.code_steps.specs.inner.Lasts.{EntersLast}
use Rattle.code_steps.specs.States.{calls_of, others_of}
use Rattle.code_steps.proofs.LastSteps.{enters-done, enters-none}
use Rattle.code_steps.proofs.stepping.enters.Goals as goal

pub returns-then-branch : goal.returns-then-branch
returns-then-branch c = λ k asks.
    let p = c.args.program.now in
    let s = c.args.state.now in
    let old = calls_of s.calls.items in
    let new = calls_of c.enters_last.new.calls.items in
    enters-done p c.args.unit k c.args.count old new (common_of s.common) (others_of s) asks
    (subst (λ b. EntersLast p c.args.unit c.args.count old b new) c.if-branch.true c.in_ok-enters_last.ensures)

pub returns-else-branch : goal.returns-else-branch
returns-else-branch c = λ k asks.
    let p = c.args.program.now in
    let s = c.args.state.now in
    let old = calls_of s.calls.items in
    let new = calls_of c.enters_last.new.calls.items in
    enters-none p c.args.unit k c.args.count old new (common_of s.common) (others_of s) s asks
    (subst (λ b. EntersLast p c.args.unit c.args.count old b new) c.if-branch.false c.in_ok-enters_last.ensures)
