-- What holds of the checkers at work between any two needs: each type that they have at hand names atoms that are there, and each part has
-- such a type. So every question that a need asks may be asked.
use Rattle.std.specs.Prelude.{ℕ, ◌<◌, ⊤, All, IfOk, IfSome, length}
use Rattle.descriptors.specs.Steps.{SignatureBelow}
use Rattle.flow_narrowing.specs.declared.flow.Flow.{Flow}
use Rattle.flow_narrowing.specs.Flows.{IfShared, VariablesBelow}
use Rattle.type_model.specs.Defined.{TyBelow}
use Rattle.typed_tree.specs.declared.expr.TypedExpr.{TypedExpr}
use Rattle.typed_tree.specs.Exprs.{type_of}
use Rattle.typed_tree.specs.SharedTypes.{Shared}
use Rattle.check_words.specs.State.{CallAtWork, Called, OfFunction, OfValue, OfLibrary, ChoiceAtWork, ConstructorAtWork, InitialiserAtWork, MatchAtWork, Site, State, UnitAtWork, Ways}

module _ (n : ℕ) where
  abbrev pub SharedBelow : Shared → Type 0
  SharedBelow t = TyBelow n t.value

  abbrev pub PartBelow : TypedExpr → Type 0
  PartBelow e = SharedBelow (type_of e)

  abbrev pub FlowBelow : Flow → Type 0
  FlowBelow f = VariablesBelow n f.variables

  pub record WaysBelow (w : Ways) : Type 0 where
    pub yes : FlowBelow w.yes
    pub no : FlowBelow w.no

  pub record ChoiceBelow (c : ChoiceAtWork) : Type 0 where
    pub before : FlowBelow c.before
    pub other : FlowBelow c.other
    pub first : FlowBelow c.first

  pub record MatchBelow (m : MatchAtWork) : Type 0 where
    pub before : FlowBelow m.before
    pub left : SharedBelow m.left
    pub ends : All FlowBelow m.ends

  pub record ConstructorBelow (c : ConstructorAtWork) : Type 0 where
    pub choice : IfSome c.choice (λ atom. atom < n)
    pub types : All (TyBelow n) c.types

  abbrev pub CalledBelow : Called → Type 0
  CalledBelow (OfFunction f) = SignatureBelow n f
  CalledBelow OfValue = ⊤
  CalledBelow (OfLibrary row receiver) = IfShared (TyBelow n) receiver

  abbrev pub CallBelow : CallAtWork → Type 0
  CallBelow c = CalledBelow c.callee

  pub record UnitBelow (u : UnitAtWork) : Type 0 where
    pub slots : All SharedBelow u.slots
    pub rest : IfSome u.rest (λ atom. atom < n)
    pub rest_member : IfShared (TyBelow n) u.rest_member
    pub result : SharedBelow u.result
    pub flow : FlowBelow u.flow

  abbrev pub SiteBelow : Site → Type 0
  SiteBelow site = All (λ r. IfOk r SharedBelow) site.results

  abbrev pub InitialiserBelow : InitialiserAtWork → Type 0
  InitialiserBelow i = UnitBelow i.unit

pub record Stands (s : State) : Type 0 where
  pub site : SiteBelow (length s.atoms) s.site
  pub found : All (PartBelow (length s.atoms)) s.found
  pub ways : IfSome s.ways (WaysBelow (length s.atoms))
  pub wants : All (IfShared (TyBelow (length s.atoms))) s.wants
  pub constructors : All (ConstructorBelow (length s.atoms)) s.constructors
  pub calls : All (CallBelow (length s.atoms)) s.calls
  pub choices : All (ChoiceBelow (length s.atoms)) s.choices
  pub matches : All (MatchBelow (length s.atoms)) s.matches
  pub units : All (UnitBelow (length s.atoms)) s.units
  pub initialiser : IfSome s.initialiser (InitialiserBelow (length s.atoms))
