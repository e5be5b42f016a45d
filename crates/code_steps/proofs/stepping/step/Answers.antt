use Rattle.std.proofs.Common.{subst, sym}
use Rattle.plain_run.specs.Held.{common_of}
use Rattle.plain_run.proofs.Given.{if-ok}
use Rattle.code_steps.specs.Answered.{IsStepped}
use Rattle.code_steps.specs.inner.Lasts.{AsksLast, CapturesLast, LooksLast}
use Rattle.code_steps.specs.States.{calls_of, others_of, state_of}
use Rattle.code_steps.proofs.LastSteps.{asks-of, at, captures-of, goes-of, stuck-of}
use Rattle.code_steps.proofs.stepping.step.Goals as goal

pub returns-in-On : goal.returns-in-On
returns-in-On c =
    let p = c.args.program.now in
    let s = c.args.state.now in
    let old = calls_of s.calls.items in
    let new = calls_of c.look_last.new.calls.items in
    goes-of p (state_of s) old new (subst (λ a. LooksLast p a old new) c.in-On.is c.in_ok-look_last.ensures)

pub returns-in-Stuck : goal.returns-in-Stuck
returns-in-Stuck c = λ next.
    let p = c.args.program.now in
    let s = c.args.state.now in
    let old = calls_of s.calls.items in
    let new = calls_of c.look_last.new.calls.items in
    stuck-of p (state_of s) next old new (subst (λ a. LooksLast p a old new) c.in-Stuck.is c.in_ok-look_last.ensures)

pub does-requires : goal.does-requires
does-requires c =
    let p = c.args.program.now in
    let old = calls_of c.args.state.now.calls.items in
    let new = calls_of c.look_last.new.calls.items in
    let (asks, same) = asks-of p c.in-Does.op c.in-Does.count old new (subst (λ a. LooksLast p a old new) c.in-Does.is c.in_ok-look_last.ensures) in
    subst (AsksLast p c.in-Does.op c.in-Does.count) (sym same) asks

pub returns-in-Does : goal.returns-in-Does
returns-in-Does c =
    let p = c.args.program.now in
    let s = c.args.state.now in
    let old = calls_of s.calls.items in
    let new = calls_of c.look_last.new.calls.items in
    let (asks, same) = asks-of p c.in-Does.op c.in-Does.count old new (subst (λ a. LooksLast p a old new) c.in-Does.is c.in_ok-look_last.ensures) in
    if-ok _ _ c.does.result (λ d h. subst (λ calls. IsStepped p (at (common_of s.common) calls (others_of s)) d c.does.new.state) same h) c.does.ensures

pub starts_last-requires : goal.starts_last-requires
starts_last-requires c =
    let p = c.args.program.now in
    let old = calls_of c.args.state.now.calls.items in
    let new = calls_of c.look_last.new.calls.items in
    let (asks, same) = captures-of p old new (subst (λ a. LooksLast p a old new) c.in-Captures.is c.in_ok-look_last.ensures) in
    subst (CapturesLast p) (sym same) asks

pub returns-in-Captures : goal.returns-in-Captures
returns-in-Captures c =
    let p = c.args.program.now in
    let s = c.args.state.now in
    let old = calls_of s.calls.items in
    let new = calls_of c.look_last.new.calls.items in
    let (asks, same) = captures-of p old new (subst (λ a. LooksLast p a old new) c.in-Captures.is c.in_ok-look_last.ensures) in
    if-ok _ _ c.starts_last.result (λ d h. subst (λ calls. IsStepped p (at (common_of s.common) calls (others_of s)) d c.starts_last.new.state) same h) c.starts_last.ensures
