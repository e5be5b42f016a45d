use Rattle.std.proofs.Common.{take}
use Rattle.std.specs.Prelude.{Any}
use Rattle.type_model.specs.declared.basic.Ty.{Ty}
use Rattle.type_model.specs.SameType.{IsSameType}
use Rattle.tested_types.specs.Asked.{Notes}
use Rattle.tested_types.proofs.members.all.Given as goal

abbrev pub invariant-loop-m : goal.invariant-loop-m
invariant-loop-m l = Notes (λ t. Any (λ (m : Ty). IsSameType t m.sem) (take l.m-index l.members)) l.fn.types.items l.types.items
