use Rattle.std.proofs.Common.{arith}
use Rattle.type_model.specs.declared.atoms.FieldDef.{FieldDef}
use Rattle.type_model.specs.SameType.{IsSameType}
use Rattle.tested_types.proofs.Noting.{notes-all, notes-next, notes-empty}
use Rattle.tested_types.proofs.members.fields.Goals as goal

pub loop-f-init : goal.loop-f-init
loop-f-init c = notes-empty (λ (f : FieldDef) u. IsSameType u f.ty.sem) _

pub loop-f-preserved : goal.loop-f-preserved
loop-f-preserved c = notes-next (λ (f : FieldDef) u. IsSameType u f.ty.sem) c.args.fields.now c.loop-f.f-index c.f-item.result _ _ _ (grind (arith, c.loop-f-test.true)) c.f-item.is c.loop-f.invariant c.in_ok-note.ensures

pub returns : goal.returns
returns c = notes-all (λ (f : FieldDef) u. IsSameType u f.ty.sem) c.args.fields.now c.loop-f.f-index _ _ (omega (arith, c.loop-f-test.false)) c.loop-f.invariant
