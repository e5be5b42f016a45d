use Rattle.std.proofs.Common.{ℕ, List}
use Rattle.type_model.specs.declared.atoms.AtomDef.{AtomDef}
use Rattle.type_model.specs.Defined.{NamesBelow}
use Rattle.type_diagrams.specs.Conditions.{LooksAtKinds}
use Rattle.type_diagrams.specs.Tables.{DependBelow, condition}
use Rattle.subtype_decider.proofs.WrittenTypes.{HasKinds}
use Rattle.subtype_decider.proofs.writing.type_of.Given as goal

abbrev pub invariant-loop-kind : goal.invariant-loop-kind
invariant-loop-kind l =
    ((n : ℕ) → DependBelow n l.diagrams.nodes → NamesBelow n l.written)
    × ((env : List AtomDef) → LooksAtKinds env (condition l.diagrams l.a) → HasKinds env (condition l.diagrams l.a) l.kind-index l.written)
