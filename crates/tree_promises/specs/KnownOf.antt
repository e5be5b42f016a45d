-- What a checker knows of variables, as what is known of slots.
use Rattle.std.specs.Prelude.{ℕ, Bool, true, false, List, [], ◌∷◌, Some, None, replicate, slice_set}
use Rattle.std.specs.List.{AllZip}
use Rattle.type_model.specs.declared.atoms.AtomDef.{AtomDef}
use Rattle.type_model.specs.declared.basic.Ty.{Ty}
use Rattle.flow_narrowing.specs.declared.flow.Flow.{Flow as CheckedFlow}
use Rattle.flow_narrowing.specs.declared.flow.Variable.{Variable}
use Rattle.flow_narrowing.specs.Flows.{IsJoin, IsSameVariable, now}
use Rattle.flow_narrowing.specs.Narrowed.{WhereFalse, WhereTrue}
use Rattle.tree_promises.specs.Flows.{LeavesFalse, LeavesTrue}
use Rattle.tree_promises.specs.Known.{Flow, FlowBelow, Known}

-- the slots of variables hold values of their types here, and nothing is known of the others of so many
abbrev pub known_by : ℕ → List Variable → Known
known_by count [] = replicate count None
known_by count (v ∷ vs) = slice_set (known_by count vs) v.slot (Some (now v).sem)

abbrev pub if_reached : Bool → Known → Flow
if_reached true ks = Some ks
if_reached false ks = None

abbrev pub known_of : ℕ → CheckedFlow → Flow
known_of count f = if_reached f.reached (known_by count f.variables)

-- what is known where two ways of the same variables meet follows from what is known on each
abbrev pub JoinsFollow : Type 0
JoinsFollow =
    (env : List AtomDef) (count : ℕ) (f g h : CheckedFlow) → AllZip IsSameVariable f.variables g.variables → IsJoin env f g h
    → FlowBelow env (known_of count f) (known_of count h) × FlowBelow env (known_of count g) (known_of count h)

-- the types that a test leaves of a variable are those by which it is narrowed
abbrev pub TestsAgree : Type 0
TestsAgree =
    (env : List AtomDef) (s t u : Ty) → (WhereTrue env s t u → LeavesTrue env s.sem t.sem u.sem) × (WhereFalse env s t u → LeavesFalse env s.sem t.sem u.sem)
