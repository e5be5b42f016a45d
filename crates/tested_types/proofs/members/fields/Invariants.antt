use Rattle.std.proofs.Common.{take}
use Rattle.std.specs.Prelude.{Any}
use Rattle.type_model.specs.declared.atoms.FieldDef.{FieldDef}
use Rattle.type_model.specs.SameType.{IsSameType}
use Rattle.tested_types.specs.Asked.{Notes}
use Rattle.tested_types.proofs.members.fields.Given as goal

abbrev pub invariant-loop-f : goal.invariant-loop-f
invariant-loop-f l = Notes (λ t. Any (λ (f : FieldDef). IsSameType t f.ty.sem) (take l.f-index l.fields)) l.fn.types.items l.types.items
