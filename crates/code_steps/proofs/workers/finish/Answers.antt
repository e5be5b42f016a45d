use Rattle.std.proofs.Common.{◌+◌, length, refl, subst}
use Rattle.plain_run.specs.Effects.{IsPerformed, Stays, effect_of}
use Rattle.plain_run.specs.Held.{common_of}
use Rattle.plain_operations.specs.Parts.{IsUndecided}
use Rattle.held_operations.specs.Operation.{operation_of}
use Rattle.code_steps.specs.Answered.{caller_over, over, with_common}
use Rattle.code_steps.specs.States.{call_of}
use Rattle.code_steps.specs.Steps.{awaiting}
use Rattle.code_steps.proofs.Answered.{done, if-both, performed-by, stays-so, stuck-by, stuck-operands, undecided}
use Rattle.code_steps.proofs.workers.finish.Goals as goal

pub returns-in-Stuck : goal.returns-in-Stuck
returns-in-Stuck c = λ old op vs asks row stays running.
    let p = c.args.program.now in
    let a = c.args.asked in
    let mid = c.args.state.now in
    let cause = IsUndecided p.facts vs old op in
    stuck-operands p (call_of a.call) (with_common old mid) mid (operation_of op) vs (awaiting a) asks
    (stuck-by p a.call (with_common old mid) op vs (length mid.calls.items + 1) refl mid.common cause
    (subst (IsPerformed p.facts (operation_of op) vs (caller_over a.call mid.calls.items) old mid.common cause) c.in-Stuck.is row))

pub returns-in-Undecided : goal.returns-in-Undecided
returns-in-Undecided c = λ old op vs asks row stays running.
    let p = c.args.program.now in
    let a = c.args.asked in
    let mid = c.args.state.now in
    let cause = IsUndecided p.facts vs old op in
    undecided p (call_of a.call) (with_common old mid) mid op vs (awaiting a) asks
    (subst (IsPerformed p.facts (operation_of op) vs (caller_over a.call mid.calls.items) old mid.common cause) c.in-Undecided.is row)

pub returns-in-Done : goal.returns-in-Done
returns-in-Done c =
    let p = c.args.program.now in
    let a = c.args.asked in
    let mid = c.args.state.now in
    let effect = c.in-Done.effect in
    if-both _ _ _ c.carry.result
    (λ d carries keeps old op vs asks row stays running.
    let cause = IsUndecided p.facts vs old op in
    let s = with_common old mid in
    let held = stays-so effect old mid.common (subst (Stays old mid.common) c.in-Done.is stays) in
    done p (call_of a.call) s _ (operation_of op) vs (awaiting a) (effect_of effect mid.common) d asks
    (performed-by p a.call s op vs (length mid.calls.items + 1) refl mid.common cause effect
    (subst (IsPerformed p.facts (operation_of op) vs (caller_over a.call mid.calls.items) old mid.common cause) c.in-Done.is row))
    (carries (over (call_of a.call) s) running refl held) (keeps (common_of old) held))
    c.carry.ensures.carries c.carry.ensures.stays
