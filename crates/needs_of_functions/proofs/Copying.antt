-- Units by other handles of their types.
use Rattle.std.proofs.Common.{◌≡◌, List, [], Option, refl, subst, sym}
use Rattle.std.specs.List.{AllZip}
use Rattle.flow_narrowing.specs.declared.flow.Variable.{Variable}
use Rattle.flow_narrowing.specs.Flows.{AreSame}
use Rattle.typed_tree.specs.declared.unit.Captured.{Captured}
use Rattle.typed_tree.specs.SharedTypes.{Shared}
use Rattle.check_words.specs.Sharing.{SameCaptured, SameShared, SameUnit, SameVariable}
use Rattle.check_words.specs.State.{UnitAtWork}

-- nothing both times
none-same : {A : Type 0} (R : A → A → Type 0) (xs ys : List A) → xs ≡ [] → ys ≡ [] → AllZip R xs ys
none-same R xs ys e f = subst (λ zs. AllZip R zs ys) (sym e) (subst (λ zs. AllZip R [] zs) (sym f) tt)

-- a unit in which nothing is captured or seen
pub copied-unit : (u : UnitAtWork) (slots : List Shared) (member : Option Shared) (t : Shared) (cs : List Captured) (vs : List Variable) → u.captured ≡ [] → u.flow.variables ≡ []
    → cs ≡ [] → vs ≡ [] → AllZip SameShared u.slots slots → AreSame u.rest_member member → SameShared u.result t
    → SameUnit u (record u { slots = slots; rest_member = member; result = t; captured = cs; flow = record { variables = vs; reached = u.flow.reached } })
copied-unit u slots member t cs vs c v c2 v2 same rest result =
    record {
      number = refl;
      worker = refl;
      slots = same;
      params = refl;
      rest = refl;
      rest_member = rest;
      result = result;
      arrow = refl;
      future = refl;
      captured = none-same SameCaptured u.captured cs c c2;
      flow = record { variables = none-same SameVariable u.flow.variables vs v v2; reached = refl };
    }
