use Rattle.std.proofs.Common.{List, length}
use Rattle.type_model.specs.declared.atoms.AtomDef.{AtomDef}
use Rattle.subtype_decider.proofs.ResultTypes.{IsJoined}
use Rattle.subtype_decider.proofs.results.one_of.Given as goal

abbrev pub invariant-loop-t : goal.invariant-loop-t
invariant-loop-t l = (env : List AtomDef) → IsJoined env l.fn.types.items l.types.items l.union

abbrev pub decreases-loop-t : goal.decreases-loop-t
decreases-loop-t l = length l.types.items
