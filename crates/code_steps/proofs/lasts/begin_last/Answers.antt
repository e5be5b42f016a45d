use Rattle.std.proofs.Common.{◌-◌, rules}
use Rattle.std.specs.Vec.{vec_len}
use Rattle.plain_run.proofs.Given.{if-ok}
use Rattle.code_steps.proofs.LastCalls.{last-is}
use Rattle.code_steps.proofs.LastSteps.{begun-so, has-call, has-enough, no-call}
use Rattle.code_steps.proofs.lasts.begin_last.Goals as goal

pub returns-in-None : goal.returns-in-None
returns-in-None c = absurd (has-call c.args.count _ (no-call c.args.calls.now.items c.deref.result.now c.deref.ensures.value (search rules)) c.requires)

pub operands-requires : goal.operands-requires
operands-requires c =
    let cs = c.args.calls.now in
    let call = c.in-Some.call.now in
    let last = last-is cs.items (vec_len cs - 1) call call (search rules) (search rules) (search rules) in
    has-enough c.args.count _ last.below call last.was c.requires

pub returns-in-Some : goal.returns-in-Some
returns-in-Some c =
    let p = c.args.program.now in
    let cs = c.args.calls.now in
    let call = c.in-Some.call.now in
    let last = last-is cs.items (vec_len cs - 1) call call (search rules) (search rules) (search rules) in
    if-ok _ _ c.begin_in.result (λ g h. begun-so p c.args.unit c.args.count _ last.below call _ g last.was c.operands.ensures h) c.begin_in.ensures
