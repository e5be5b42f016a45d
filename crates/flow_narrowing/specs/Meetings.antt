-- Where two ways meet that began at one place, told by what changed in them.
use Rattle.std.specs.Prelude.{List, ℕ, Option, IfSome, slice_get}
use Rattle.type_model.specs.declared.atoms.AtomDef.{AtomDef}
use Rattle.type_model.specs.Defined.{TyBelow}
use Rattle.typed_tree.specs.SharedTypes.{Shared}
use Rattle.flow_narrowing.specs.declared.changes.Change.{Change}
use Rattle.flow_narrowing.specs.declared.changes.End.{End}
use Rattle.flow_narrowing.specs.declared.changes.Flows.{Flows}
use Rattle.flow_narrowing.specs.declared.flow.Flow.{Flow}
use Rattle.flow_narrowing.specs.declared.flow.Variable.{Variable}
use Rattle.flow_narrowing.specs.Changes.{told, undone}
use Rattle.flow_narrowing.specs.Flows.{IfShared, UnionOf, or_declared}

-- what is known at a place
abbrev pub flow_now : Flows → Flow
flow_now f = record { variables = f.variables.items; reached = f.reached }

-- what is known where a way has come to that began with these variables
abbrev pub flow_at : List Variable → End → Flow
flow_at vs e = record { variables = undone e.changes.items vs; reached = e.reached }

-- the variable at the index, which changed so in the two ways, is joined to u
abbrev pub TypeJoined : List AtomDef → List Change → List Change → ℕ → Variable → Option Shared → Type 0
TypeJoined env first second index v u =
    UnionOf env (or_declared (told first index v.narrowed) v.declared) (or_declared (told second index v.narrowed) v.declared)
    (told first index v.narrowed) (told second index v.narrowed) u

abbrev pub ChangeJoined : List AtomDef → List Variable → List Change → List Change → Change → Type 0
ChangeJoined env vs first second c = IfSome (slice_get vs c.index) (λ v. TypeJoined env first second c.index v c.was)

-- the type that the change gives names atoms that are there
abbrev pub ChangeBelow : ℕ → Change → Type 0
ChangeBelow n c = IfShared (TyBelow n) c.was
