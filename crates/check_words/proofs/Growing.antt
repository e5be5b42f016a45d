-- What stands still stands where there are more atoms.
use Rattle.std.proofs.Common.{◌<◌, ◌≤◌, ℕ, List, length, Option, Some, None, IfSome, Result, Ok, Err, IfOk, arith}
use Rattle.std.proofs.lemmas.List.Elements.{All-weaker}
use Rattle.bal_base.specs.declared.fault.Fault.{Fault}
use Rattle.descriptors.specs.declared.names.Signature.{Signature}
use Rattle.descriptors.specs.Steps.{SignatureBelow}
use Rattle.descriptors.proofs.Yielding.{kept-grows}
use Rattle.flow_narrowing.specs.declared.flow.Flow.{Flow}
use Rattle.flow_narrowing.specs.declared.flow.Variable.{Variable}
use Rattle.flow_narrowing.specs.Flows.{IfShared, VariableBelow}
use Rattle.type_model.specs.declared.atoms.AtomDef.{AtomDef}
use Rattle.type_model.specs.declared.basic.Ty.{Ty}
use Rattle.type_model.specs.Calls.{KeepsTypes}
use Rattle.type_model.specs.Defined.{TyBelow}
use Rattle.type_model.proofs.DefinedLaws.{TyBelow-more}
use Rattle.typed_tree.specs.Exprs.{type_of}
use Rattle.typed_tree.specs.SharedTypes.{Shared}
use Rattle.check_words.specs.Stands.{CallBelow, CalledBelow, ChoiceBelow, ConstructorBelow, FlowBelow, InitialiserBelow, MatchBelow, PartBelow, SharedBelow, Stands, UnitBelow, WaysBelow}
use Rattle.check_words.specs.State.{CallAtWork, Called, ChoiceAtWork, ConstructorAtWork, InitialiserAtWork, MatchAtWork, OfFunction, OfLibrary, OfValue, State, UnitAtWork, Ways}

module _ (m n : ℕ) (le : m ≤ n) where
  ty-more : (t : Ty) → TyBelow m t → TyBelow n t
  ty-more t h = TyBelow-more m n le t h

  shared-more : (t : Shared) → SharedBelow m t → SharedBelow n t
  shared-more t h = ty-more t.value h

  if-shared-more : (t : Option Shared) → IfShared (TyBelow m) t → IfShared (TyBelow n) t
  if-shared-more None h = tt
  if-shared-more (Some t) h = ty-more t.value h

  if-ty-more : (t : Option Ty) → IfSome t (TyBelow m) → IfSome t (TyBelow n)
  if-ty-more None h = tt
  if-ty-more (Some t) h = ty-more t h

  number-more : (k : ℕ) → k < m → k < n
  number-more k h = omega (arith, h, le)

  if-number-more : (k : Option ℕ) → IfSome k (λ atom. atom < m) → IfSome k (λ atom. atom < n)
  if-number-more None h = tt
  if-number-more (Some k) h = number-more k h

  result-more : (r : Result Shared Fault) → IfOk r (SharedBelow m) → IfOk r (SharedBelow n)
  result-more (Ok t) h = shared-more t h
  result-more (Err f) h = tt

  -- ---- what is known

  variable-more : (v : Variable) → VariableBelow m v → VariableBelow n v
  variable-more v h = record { declared = ty-more v.declared.value h.declared; narrowed = if-shared-more v.narrowed h.narrowed }

  flow-more : (f : Flow) → FlowBelow m f → FlowBelow n f
  flow-more f h = All-weaker (VariableBelow m) (VariableBelow n) variable-more f.variables h

  ways-more : (w : Option Ways) → IfSome w (WaysBelow m) → IfSome w (WaysBelow n)
  ways-more None h = tt
  ways-more (Some w) h = record { yes = flow-more w.yes h.yes; no = flow-more w.no h.no }

  -- ---- what is open

  choice-more : (c : ChoiceAtWork) → ChoiceBelow m c → ChoiceBelow n c
  choice-more c h = record { before = flow-more c.before h.before; other = flow-more c.other h.other; first = flow-more c.first h.first }

  match-more : (c : MatchAtWork) → MatchBelow m c → MatchBelow n c
  match-more c h =
      record { before = flow-more c.before h.before; left = shared-more c.left h.left; ends = All-weaker (FlowBelow m) (FlowBelow n) flow-more c.ends h.ends }

  constructor-more : (c : ConstructorAtWork) → ConstructorBelow m c → ConstructorBelow n c
  constructor-more c h = record { choice = if-number-more c.choice h.choice; types = All-weaker (TyBelow m) (TyBelow n) ty-more c.types h.types }

  signature-more : (f : Signature) → SignatureBelow m f → SignatureBelow n f
  signature-more f h = (
    All-weaker (TyBelow m) (TyBelow n) ty-more f.params h.0,
    if-ty-more f.rest h.1,
    ty-more f.result h.2,
    number-more f.arrow h.3,
    number-more f.lists h.4,
    number-more f.future h.5,
  )

  called-more : (c : Called) → CalledBelow m c → CalledBelow n c
  called-more (OfFunction f) h = signature-more f h
  called-more OfValue h = tt
  called-more (OfLibrary row receiver) h = if-shared-more receiver h

  call-more : (c : CallAtWork) → CallBelow m c → CallBelow n c
  call-more c h = called-more c.callee h

  -- ---- units

  unit-more : (u : UnitAtWork) → UnitBelow m u → UnitBelow n u
  unit-more u h =
      record {
        slots = All-weaker (SharedBelow m) (SharedBelow n) shared-more u.slots h.slots;
        rest = if-number-more u.rest h.rest;
        rest_member = if-shared-more u.rest_member h.rest_member;
        result = shared-more u.result h.result;
        flow = flow-more u.flow h.flow;
      }

  initialiser-more : (i : Option InitialiserAtWork) → IfSome i (InitialiserBelow m) → IfSome i (InitialiserBelow n)
  initialiser-more None h = tt
  initialiser-more (Some i) h = unit-more i.unit h

pub stands-grows : (s : State) (new : List AtomDef) → KeepsTypes s.atoms new → Stands s → Stands (record s { atoms = new })
stands-grows s new kept h =
    let m : ℕ = length s.atoms in
    let n : ℕ = length new in
    let le = kept-grows s.atoms new kept in
    record {
      site = All-weaker (λ r. IfOk r (SharedBelow m)) (λ r. IfOk r (SharedBelow n)) (result-more m n le) s.site.results h.site;
      found = All-weaker (PartBelow m) (PartBelow n) (λ e. shared-more m n le (type_of e)) s.found h.found;
      ways = ways-more m n le s.ways h.ways;
      wants = All-weaker (IfShared (TyBelow m)) (IfShared (TyBelow n)) (if-shared-more m n le) s.wants h.wants;
      constructors = All-weaker (ConstructorBelow m) (ConstructorBelow n) (constructor-more m n le) s.constructors h.constructors;
      calls = All-weaker (CallBelow m) (CallBelow n) (call-more m n le) s.calls h.calls;
      choices = All-weaker (ChoiceBelow m) (ChoiceBelow n) (choice-more m n le) s.choices h.choices;
      matches = All-weaker (MatchBelow m) (MatchBelow n) (match-more m n le) s.matches h.matches;
      units = All-weaker (UnitBelow m) (UnitBelow n) (unit-more m n le) s.units h.units;
      initialiser = initialiser-more m n le s.initialiser h.initialiser;
    }
