use Rattle.held_operations.specs.declared.op.Op.TheVariants as op
use Rattle.plain_operations.specs.Parts.{IsBeforeStrands, part_of}
use Rattle.plain_operations.proofs.Arms.{arm-any, arm-asked, arm-known, arm-one}
use Rattle.plain_operations.proofs.on_strands.on_strands.Goals as goal

pub returns-in-CallValue-clause-row : goal.returns-in-CallValue-clause-row
returns-in-CallValue-clause-row c = arm-asked (λ o. IsBeforeStrands (part_of o)) c.args.facts.now c.args.caller.now c.args.operands.now c.args.common.now c.perform_call_value.new.common c.args.op (op.CallValue c.in-CallValue.count) c.perform_call_value.result c.in-CallValue.is c.perform_call_value.ensures.row

pub returns-in-Start-clause-row : goal.returns-in-Start-clause-row
returns-in-Start-clause-row c = arm-known (λ o. IsBeforeStrands (part_of o)) c.args.facts.now c.args.caller.now c.args.operands.now c.args.common.now c.perform_start.new.common c.args.op (op.Start c.in-Start.unit c.in-Start.count) c.perform_start.result c.in-Start.is c.perform_start.ensures.row

pub returns-in-Send-clause-row : goal.returns-in-Send-clause-row
returns-in-Send-clause-row c = arm-known (λ o. IsBeforeStrands (part_of o)) c.args.facts.now c.args.caller.now c.args.operands.now c.args.common.now c.perform_send.new.common c.args.op (op.Send c.in-Send.worker) c.perform_send.result c.in-Send.is c.perform_send.ensures.row

pub returns-in-Post-clause-row : goal.returns-in-Post-clause-row
returns-in-Post-clause-row c = arm-known (λ o. IsBeforeStrands (part_of o)) c.args.facts.now c.args.caller.now c.args.operands.now c.args.common.now c.perform_post.new.common c.args.op (op.Post c.in-Post.worker) c.perform_post.result c.in-Post.is c.perform_post.ensures.row

pub returns-in-Done-clause-row : goal.returns-in-Done-clause-row
returns-in-Done-clause-row c = arm-one (λ o. IsBeforeStrands (part_of o)) c.args.facts.now c.args.caller.now c.args.operands.now c.args.common.now c.args.common.now c.args.op (op.Done c.in-Done.worker) c.perform_done.result c.in-Done.is (c.perform_done.ensures.row c.args.facts.now)

pub returns-in-Receive-clause-row : goal.returns-in-Receive-clause-row
returns-in-Receive-clause-row c = arm-known (λ o. IsBeforeStrands (part_of o)) c.args.facts.now c.args.caller.now c.args.operands.now c.args.common.now c.perform_receive.new.common c.args.op (op.Receive c.in-Receive.worker) c.perform_receive.result c.in-Receive.is c.perform_receive.ensures.row

pub returns-in-Flush-clause-row : goal.returns-in-Flush-clause-row
returns-in-Flush-clause-row c = arm-one (λ o. IsBeforeStrands (part_of o)) c.args.facts.now c.args.caller.now c.args.operands.now c.args.common.now c.args.common.now c.args.op (op.Flush c.in-Flush.worker) c.perform_flush.result c.in-Flush.is (c.perform_flush.ensures.row c.args.facts.now)

pub returns-in-WaitWorker-clause-row : goal.returns-in-WaitWorker-clause-row
returns-in-WaitWorker-clause-row c = arm-known (λ o. IsBeforeStrands (part_of o)) c.args.facts.now c.args.caller.now c.args.operands.now c.args.common.now c.perform_wait_worker.new.common c.args.op (op.WaitWorker c.in-WaitWorker.worker) c.perform_wait_worker.result c.in-WaitWorker.is c.perform_wait_worker.ensures.row

pub returns-in-WaitFuture-clause-row : goal.returns-in-WaitFuture-clause-row
returns-in-WaitFuture-clause-row c = arm-any (λ o. IsBeforeStrands (part_of o)) c.args.facts.now c.args.caller.now c.args.operands.now c.args.common.now c.perform_wait_future.new.common c.args.op op.WaitFuture c.perform_wait_future.result c.in-WaitFuture.is c.perform_wait_future.ensures.row

pub returns-in-WaitAny-clause-row : goal.returns-in-WaitAny-clause-row
returns-in-WaitAny-clause-row c = arm-known (λ o. IsBeforeStrands (part_of o)) c.args.facts.now c.args.caller.now c.args.operands.now c.args.common.now c.perform_wait_any.new.common c.args.op (op.WaitAny c.in-WaitAny.names) c.perform_wait_any.result c.in-WaitAny.is c.perform_wait_any.ensures.row
