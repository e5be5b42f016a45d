use Rattle.std.proofs.Common.{take}
use Rattle.std.specs.Prelude.{All, Any}
use Rattle.tested_types.specs.Asked.{HasMember, IsDefinedAt, Notes}
use Rattle.tested_types.proofs.members.members.Given as goal

abbrev pub invariant-loop-a : goal.invariant-loop-a
invariant-loop-a l =
    Notes (λ t. Any (λ a. HasMember l.atoms a t) (take l.a-index l.inherent)) l.fn.types.items l.types.items
    × All (IsDefinedAt l.atoms) (take l.a-index l.inherent)
