use Rattle.std.proofs.Common.{arith}
use Rattle.type_model.specs.declared.basic.Ty.{Ty}
use Rattle.type_model.specs.SameType.{IsSameType}
use Rattle.tested_types.proofs.Noting.{notes-all, notes-next, notes-empty}
use Rattle.tested_types.proofs.members.all.Goals as goal

pub loop-m-init : goal.loop-m-init
loop-m-init c = notes-empty (λ (m : Ty) u. IsSameType u m.sem) _

pub loop-m-preserved : goal.loop-m-preserved
loop-m-preserved c = notes-next (λ (m : Ty) u. IsSameType u m.sem) c.args.members.now c.loop-m.m-index c.m-item.result _ _ _ (grind (arith, c.loop-m-test.true)) c.m-item.is c.loop-m.invariant c.in_ok-note.ensures

pub returns : goal.returns
returns c = notes-all (λ (m : Ty) u. IsSameType u m.sem) c.args.members.now c.loop-m.m-index _ _ (omega (arith, c.loop-m-test.false)) c.loop-m.invariant
