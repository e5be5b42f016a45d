use Rattle.std.proofs.Common.{refl}
use Rattle.held_operations.specs.declared.op.Op.TheVariants as op
use Rattle.plain_operations.specs.Parts.{IsBeforeFrames, part_of}
use Rattle.plain_operations.proofs.Arms.{arm, arm-any, arm-one}
use Rattle.plain_run.proofs.Given.{if-ok}
use Rattle.plain_operations.proofs.on_frames.on_frames.Goals as goal

pub returns-in-Load-clause-row : goal.returns-in-Load-clause-row
returns-in-Load-clause-row c = arm-any (λ o. IsBeforeFrames (part_of o)) c.args.facts.now c.args.caller.now c.args.operands.now c.args.common.now c.perform_load.new.common c.args.op (op.Load c.in-Load.slot) c.perform_load.result c.in-Load.is c.perform_load.ensures.row

pub returns-in-LoadModule-clause-row : goal.returns-in-LoadModule-clause-row
returns-in-LoadModule-clause-row c = arm-any (λ o. IsBeforeFrames (part_of o)) c.args.facts.now c.args.caller.now c.args.operands.now c.args.common.now c.perform_load_module.new.common c.args.op (op.LoadModule c.in-LoadModule.variable) c.perform_load_module.result c.in-LoadModule.is c.perform_load_module.ensures.row

pub returns-in-Call-clause-row : goal.returns-in-Call-clause-row
returns-in-Call-clause-row c = arm-any (λ o. IsBeforeFrames (part_of o)) c.args.facts.now c.args.caller.now c.args.operands.now c.args.common.now c.args.common.now c.args.op (op.Call c.in-Call.unit c.in-Call.count) c.perform_call.result c.in-Call.is c.perform_call.ensures.row

pub returns-in-Tick-clause-row : goal.returns-in-Tick-clause-row
returns-in-Tick-clause-row c = arm (λ o. IsBeforeFrames (part_of o)) c.args.facts.now c.args.caller.now c.args.operands.now c.args.common.now c.perform_tick.new.common c.args.op op.Tick c.perform_tick.result c.in-Tick.is (if-ok _ _ c.perform_tick.result (λ done h. h c.args.facts.now c.args.caller.now refl) c.perform_tick.ensures.row)

pub returns-in-Return-clause-row : goal.returns-in-Return-clause-row
returns-in-Return-clause-row c = arm-one (λ o. IsBeforeFrames (part_of o)) c.args.facts.now c.args.caller.now c.args.operands.now c.args.common.now c.args.common.now c.args.op op.Return c.perform_return.result c.in-Return.is (c.perform_return.ensures.row c.args.facts.now c.args.caller.now)

pub returns-in-Panic-clause-row : goal.returns-in-Panic-clause-row
returns-in-Panic-clause-row c = arm-one (λ o. IsBeforeFrames (part_of o)) c.args.facts.now c.args.caller.now c.args.operands.now c.args.common.now c.args.common.now c.args.op op.Panic c.perform_panic.result c.in-Panic.is (c.perform_panic.ensures.row c.args.facts.now c.args.caller.now)

pub returns-in-StoreModule-clause-row : goal.returns-in-StoreModule-clause-row
returns-in-StoreModule-clause-row c = arm-one (λ o. IsBeforeFrames (part_of o)) c.args.facts.now c.args.caller.now c.args.operands.now c.args.common.now c.perform_store_module.new.common c.args.op (op.StoreModule c.in-StoreModule.variable) c.perform_store_module.result c.in-StoreModule.is (c.perform_store_module.ensures.row c.args.caller.now refl)
