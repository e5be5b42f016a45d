use Rattle.std.proofs.Common.{◌-◌, rules, subst, sym, ◌∙◌}
use Rattle.std.specs.Vec.{vec_len}
use Rattle.plain_operations.specs.Parts.{IsUndecided}
use Rattle.plain_run.specs.Effects.{IsPerformed}
use Rattle.plain_run.specs.declared.held.Caller.{Caller as HeldCaller}
use Rattle.plain_run.proofs.Given.{if-ok}
use Rattle.held_operations.specs.Operation.{operation_of}
use Rattle.code_steps.specs.inner.Lasts.{IsDoneFor}
use Rattle.code_steps.proofs.LastCalls.{last-is}
use Rattle.code_steps.proofs.LastSteps.{caller-so, has-call, has-enough, no-call}
use Rattle.code_steps.proofs.lasts.ask_last.Goals as goal

pub operands-values-requires : goal.operands-values-requires
operands-values-requires c =
    let s = c.args.state.now in
    let call = c.in-Some.call.now in
    let last = last-is s.calls.items (vec_len s.calls - 1) call call (search rules) (search rules) (search rules) in
    has-enough c.args.count _ last.below call last.was c.requires

pub returns-in-Some-clause-row : goal.returns-in-Some-clause-row
returns-in-Some-clause-row c =
    let p = c.args.program.now in
    let s = c.args.state.now in
    let call = c.in-Some.call.now in
    let last = last-is s.calls.items (vec_len s.calls - 1) call call (search rules) (search rules) (search rules) in
    let who : HeldCaller = record { unit = call.unit; role = call.role; depth = c.len-depth.result } in
    if-ok _ _ c.perform.result
    (λ done h. subst (λ calls. IsDoneFor p c.args.op c.args.count calls s.common c.perform.new.common done) (sym last.was) (
      who,
      caller-so call last.below c.len-depth.result (last.many ∙ search rules),
      subst (λ vs. IsPerformed p.facts (operation_of c.args.op) vs who s.common c.perform.new.common (IsUndecided p.facts vs s.common c.args.op) done) c.operands-values.ensures h,
    ))
    c.perform.ensures.row

pub returns-in-None-clause-row : goal.returns-in-None-clause-row
returns-in-None-clause-row c =
    absurd (has-call c.args.count _ (no-call c.args.state.now.calls.items c.deref.result.now c.deref.ensures.value (search rules)) c.requires)
