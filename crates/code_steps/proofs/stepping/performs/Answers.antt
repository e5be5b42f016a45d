use Rattle.std.proofs.Common.{refl, subst}
use Rattle.plain_run.specs.Effects as left
use Rattle.plain_run.proofs.Given.{if-ok}
use Rattle.code_steps.specs.inner.Lasts.{IsDoneFor}
use Rattle.code_steps.specs.States.{calls_of, others_of}
use Rattle.code_steps.proofs.LastSteps.{performed-so, stuck-done, undecided-done}
use Rattle.code_steps.proofs.stepping.performs.Goals as goal

pub returns-in-Stuck : goal.returns-in-Stuck
returns-in-Stuck c =
    let p = c.args.program.now in
    let s = c.args.state.now in
    let calls = calls_of s.calls.items in
    stuck-done p c.args.op c.args.count calls (others_of s) s.common c.ask_last.new.state.common c.requires
    (subst (IsDoneFor p c.args.op c.args.count calls s.common c.ask_last.new.state.common) c.in-Stuck.is c.in_ok-ask_last.ensures.row)

pub returns-in-Undecided : goal.returns-in-Undecided
returns-in-Undecided c =
    let p = c.args.program.now in
    let s = c.args.state.now in
    let calls = calls_of s.calls.items in
    undecided-done p c.args.op c.args.count calls (others_of s) s.common c.ask_last.new.state.common s c.requires
    (subst (IsDoneFor p c.args.op c.args.count calls s.common c.ask_last.new.state.common) c.in-Undecided.is c.in_ok-ask_last.ensures.row)

pub returns-in-Done : goal.returns-in-Done
returns-in-Done c =
    let p = c.args.program.now in
    let s = c.args.state.now in
    let mid = c.ask_last.new.state in
    let seen = c.in_ok-ask_last.ensures in
    if-ok _ _ c.carries.result
    (λ d h. performed-so p c.args.op c.args.count s.common.running s mid _ c.in-Done.effect d h seen.calls seen.others c.requires
    (subst (IsDoneFor p c.args.op c.args.count (calls_of s.calls.items) s.common mid.common) c.in-Done.is seen.row)
    (subst (left.Stays s.common mid.common) c.in-Done.is seen.stays) refl)
    c.carries.ensures
