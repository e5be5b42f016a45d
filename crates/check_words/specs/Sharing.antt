-- Types are shared: what is handed on is the same type by another handle. So what is put into the state is said up to handles.
use Rattle.std.specs.Prelude.{◌≡◌, Option, Some, None, Result, Ok, Err, ⊤}
use Rattle.std.specs.List.{AllZip}
use Rattle.flow_narrowing.specs.declared.flow.Flow.{Flow}
use Rattle.flow_narrowing.specs.declared.flow.Variable.{Variable}
use Rattle.flow_narrowing.specs.Flows.{AreSame, IsSameVariable}
use Rattle.typed_tree.specs.declared.unit.Captured.{Captured}
use Rattle.typed_tree.specs.SharedTypes.{Shared}
use Rattle.check_words.specs.State.{ChoiceAtWork, MatchAtWork, UnitAtWork, Ways}

-- the same type
abbrev pub SameShared : Shared → Shared → Type 0
SameShared t u = u.value ≡ t.value

-- the same thing, or none both times
abbrev pub SameOption : {A : Type 0} → (A → A → Type 0) → Option A → Option A → Type 0
SameOption R None None = ⊤
SameOption R (Some a) (Some b) = R a b
SameOption R None (Some b) = ⊥
SameOption R (Some a) None = ⊥

-- ---- flows

-- the same variable with the same type
pub record SameVariable (v u : Variable) : Type 0 where
  pub variable : IsSameVariable v u
  pub narrowed : AreSame v.narrowed u.narrowed

pub record SameFlow (f g : Flow) : Type 0 where
  pub variables : AllZip SameVariable f.variables g.variables
  pub reached : g.reached ≡ f.reached

pub record SameWays (w x : Ways) : Type 0 where
  pub yes : SameFlow w.yes x.yes
  pub no : SameFlow w.no x.no

-- ---- what is open

pub record SameChoice (c d : ChoiceAtWork) : Type 0 where
  pub before : SameFlow c.before d.before
  pub other : SameFlow c.other d.other
  pub first : SameFlow c.first d.first

pub record SameMatch (m n : MatchAtWork) : Type 0 where
  pub at : n.at ≡ m.at
  pub on : n.on ≡ m.on
  pub before : SameFlow m.before n.before
  pub left : SameShared m.left n.left
  pub patterns : n.patterns ≡ m.patterns
  pub clauses : n.clauses ≡ m.clauses
  pub ends : AllZip SameFlow m.ends n.ends

-- ---- units

pub record SameCaptured (c d : Captured) : Type 0 where
  pub slot : d.slot ≡ c.slot
  pub narrowed : d.narrowed ≡ c.narrowed
  pub ty : SameShared c.ty d.ty
  pub at : d.at ≡ c.at

pub record SameUnit (u v : UnitAtWork) : Type 0 where
  pub number : v.number ≡ u.number
  pub worker : v.worker ≡ u.worker
  pub slots : AllZip SameShared u.slots v.slots
  pub params : v.params ≡ u.params
  pub rest : v.rest ≡ u.rest
  pub rest_member : AreSame u.rest_member v.rest_member
  pub result : SameShared u.result v.result
  pub arrow : v.arrow ≡ u.arrow
  pub future : v.future ≡ u.future
  pub captured : AllZip SameCaptured u.captured v.captured
  pub flow : SameFlow u.flow v.flow
