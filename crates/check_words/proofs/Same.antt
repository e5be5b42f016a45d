-- All things are the same as themselves.
use Rattle.std.proofs.Common.{List, [], ◌∷◌, Option, Some, None, refl}
use Rattle.std.specs.List.{AllZip}
use Rattle.flow_narrowing.specs.declared.flow.Flow.{Flow}
use Rattle.flow_narrowing.specs.declared.flow.Variable.{Variable}
use Rattle.flow_narrowing.specs.Flows.{AreSame}
use Rattle.typed_tree.specs.declared.unit.Captured.{Captured}
use Rattle.typed_tree.specs.SharedTypes.{Shared}
use Rattle.check_words.specs.Sharing.{SameCaptured, SameChoice, SameFlow, SameMatch, SameOption, SameShared, SameUnit, SameVariable, SameWays}
use Rattle.check_words.specs.State.{ChoiceAtWork, MatchAtWork, UnitAtWork, Ways}

pub same-list : {A : Type 0} (R : A → A → Type 0) → ((x : A) → R x x) → (xs : List A) → AllZip R xs xs
same-list R each [] = tt
same-list R each (x ∷ xs) = (each x, same-list R each xs)

pub same-option : {A : Type 0} (R : A → A → Type 0) → ((x : A) → R x x) → (x : Option A) → SameOption R x x
same-option R each None = tt
same-option R each (Some x) = each x

pub are-same : (t : Option Shared) → AreSame t t
are-same None = tt
are-same (Some t) = refl

pub same-variable : (v : Variable) → SameVariable v v
same-variable v =
    record {
      variable = record { name = refl; slot = refl; declared = refl; fixed = refl; assigned = refl; captured = refl };
      narrowed = are-same v.narrowed;
    }

pub same-flow : (f : Flow) → SameFlow f f
same-flow f = record { variables = same-list SameVariable same-variable f.variables; reached = refl }

pub same-ways : (w : Ways) → SameWays w w
same-ways w = record { yes = same-flow w.yes; no = same-flow w.no }

pub same-choice : (c : ChoiceAtWork) → SameChoice c c
same-choice c = record { before = same-flow c.before; other = same-flow c.other; first = same-flow c.first }

pub same-match : (m : MatchAtWork) → SameMatch m m
same-match m =
    record {
      at = refl;
      on = refl;
      before = same-flow m.before;
      left = refl;
      patterns = refl;
      clauses = refl;
      ends = same-list SameFlow same-flow m.ends;
    }

same-captured : (c : Captured) → SameCaptured c c
same-captured c = record { slot = refl; narrowed = refl; ty = refl; at = refl }

pub same-unit : (u : UnitAtWork) → SameUnit u u
same-unit u =
    record {
      number = refl;
      worker = refl;
      slots = same-list SameShared (λ t. refl) u.slots;
      params = refl;
      rest = refl;
      rest_member = are-same u.rest_member;
      result = refl;
      arrow = refl;
      future = refl;
      captured = same-list SameCaptured same-captured u.captured;
      flow = same-flow u.flow;
    }

pub ruleset sharing = (same-list, are-same, same-variable, same-flow, same-ways, same-choice, same-match, same-unit)
