use Rattle.std.proofs.Common.{◌-◌, rules}
use Rattle.std.specs.Vec.{vec_len}
use Rattle.code_steps.proofs.LastCalls.{last-is}
use Rattle.code_steps.proofs.LastSteps.{has-enough, values-so}
use Rattle.code_steps.proofs.lasts.value_last.Goals as goal

pub operands-requires : goal.operands-requires
operands-requires c =
    let cs = c.args.calls.now in
    let call = c.in-Some.call.now in
    let last = last-is cs.items (vec_len cs - 1) call call (search rules) (search rules) (search rules) in
    has-enough c.args.count _ last.below call last.was c.requires

pub returns-in-Some : goal.returns-in-Some
returns-in-Some c =
    let cs = c.args.calls.now in
    let call = c.in-Some.call.now in
    let last = last-is cs.items (vec_len cs - 1) call call (search rules) (search rules) (search rules) in
    values-so c.args.count _ last.below call _ last.was c.operands.ensures c.only.result c.only.ensures
