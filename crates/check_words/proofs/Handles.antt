-- The same by other handles, one after another.
use Rattle.std.proofs.Common.{◌≡◌, ◌∙◌, List, [], ◌∷◌, Option, Some, None}
use Rattle.std.specs.List.{AllZip}
use Rattle.flow_narrowing.specs.declared.flow.Flow.{Flow}
use Rattle.flow_narrowing.specs.declared.flow.Variable.{Variable}
use Rattle.flow_narrowing.specs.Flows.{AreSame, IsSameVariable, now, or_declared}
use Rattle.typed_tree.specs.SharedTypes.{Shared}
use Rattle.check_words.specs.Sharing.{SameFlow, SameShared, SameVariable}

pub type-through : (s t u : Option Shared) → AreSame s t → AreSame t u → AreSame s u
type-through None None None h k = tt
type-through (Some s) (Some t) (Some u) h k = k ∙ h
type-through None (Some t) u h k = absurd h
type-through (Some s) None u h k = absurd h
type-through None None (Some u) h k = absurd k
type-through (Some s) (Some t) None h k = absurd k

pub same-variable-through : (v w x : Variable) → IsSameVariable v w → IsSameVariable w x → IsSameVariable v x
same-variable-through v w x h k =
    record {
      name = k.name ∙ h.name;
      slot = k.slot ∙ h.slot;
      declared = k.declared ∙ h.declared;
      fixed = k.fixed ∙ h.fixed;
      assigned = k.assigned ∙ h.assigned;
      captured = k.captured ∙ h.captured;
    }

pub variable-through : (v w x : Variable) → SameVariable v w → SameVariable w x → SameVariable v x
variable-through v w x h k =
    record {
      variable = same-variable-through v w x h.variable k.variable;
      narrowed = type-through v.narrowed w.narrowed x.narrowed h.narrowed k.narrowed;
    }

variables-through : (vs ws xs : List Variable) → AllZip SameVariable vs ws → AllZip SameVariable ws xs → AllZip SameVariable vs xs
variables-through [] [] [] h k = tt
variables-through (v ∷ vs) (w ∷ ws) (x ∷ xs) h k = (variable-through v w x h.0 k.0, variables-through vs ws xs h.1 k.1)
variables-through [] (w ∷ ws) xs h k = absurd h
variables-through (v ∷ vs) [] xs h k = absurd h
variables-through [] [] (x ∷ xs) h k = absurd k
variables-through (v ∷ vs) (w ∷ ws) [] h k = absurd k

pub flow-through : (f g k : Flow) → SameFlow f g → SameFlow g k → SameFlow f k
flow-through f g k h i = record { variables = variables-through f.variables g.variables k.variables h.variables i.variables; reached = i.reached ∙ h.reached }

-- the type that a variable has by other handles
or-declared-same : (s t : Option Shared) (d e : Shared) → AreSame s t → SameShared d e → or_declared t e ≡ or_declared s d
or-declared-same None None d e h k = k
or-declared-same (Some s) (Some t) d e h k = h
or-declared-same None (Some t) d e h k = absurd h
or-declared-same (Some s) None d e h k = absurd h

pub now-same : (v w : Variable) → SameVariable v w → now w ≡ now v
now-same v w h = or-declared-same v.narrowed w.narrowed v.declared w.declared h.narrowed h.variable.declared
