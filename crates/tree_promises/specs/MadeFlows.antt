-- What is made of parts of which it is known what they leave of the flow: for each expression, what it leaves itself.
use Rattle.std.specs.Prelude.{◌≡◌, ℕ, Bool, true, false, List, [], ◌∷◌, length, Option, Some, slice_get, slice_set, ⊤}
use Rattle.bal_base.specs.declared.place.Place.{Place}
use Rattle.type_model.specs.declared.atoms.AtomDef.{AtomDef}
use Rattle.type_model.specs.declared.basic.SemType.{SemType}
use Rattle.type_model.specs.Inclusion.{Sub}
use Rattle.operations.specs.declared.operation.Operation.{Operation}
use Rattle.typed_tree.specs.declared.expr.AnonymousFunction.{AnonymousFunction}
use Rattle.typed_tree.specs.declared.expr.TypedExpr.{TypedExpr}
use Rattle.typed_tree.specs.declared.form.Operator.TheVariants as operator
use Rattle.typed_tree.specs.declared.form.StrictForm.{StrictForm}
use Rattle.typed_tree.specs.declared.form.StrictForm.TheVariants as form
use Rattle.typed_tree.specs.declared.unit.Captured.{Captured}
use Rattle.typed_tree.specs.SharedTypes.{Shared, sem_of}
use Rattle.typed_tree.specs.Views.{IsAnd, IsCheck, IsConditional, IsElvis, IsFunctionOf, IsLocal, IsOr, IsParens, IsStrict, IsTrap}
use Rattle.held_operations.specs.Constructs.{operations_of}
use Rattle.eval_model.specs.Expressions.{error_type, nil_type}
use Rattle.eval_model.specs.Walk.{ExprOver}
use Rattle.tree_promises.specs.Flows.{Around, DoesFlow, LeavesFalse, LeavesTrue, flow_ways}
use Rattle.tree_promises.specs.Known.{BaseBelow, Below, Flow, FlowBelow, HasSome, IsFree, IsFreeIn, Known, Point, plain, told}

module _ (env : List AtomDef) (around : Around) where
  -- Where the first is known, and this wherever a panic lands, the expression may be evaluated; behind it the second is known, and the
  -- others where it is true and where it is false.
  abbrev pub LeavesFlow : Option Flow → TypedExpr → (before behind on_true on_false : Flow) → Type 0
  LeavesFlow base e before behind on_true on_false =
      (p q : Point) → Below env p (plain before base) → Below env (told on_true on_false (plain behind base)) q → ExprOver (flow_ways env around) e p q

  -- it says nothing of variables
  abbrev pub KeepsFlow : Option Flow → TypedExpr → Flow → Type 0
  KeepsFlow base e f = LeavesFlow base e f f f f

  abbrev pub AllKeep : Option Flow → List TypedExpr → Flow → Type 0
  AllKeep base [] f = ⊤
  AllKeep base (e ∷ es) f = KeepsFlow base e f × AllKeep base es f

  -- neither do operations
  abbrev pub OpKeeps : Option Flow → Flow → Operation → Type 0
  OpKeeps base f op = (p q : Point) → Below env p (plain f base) → Below env (plain f base) q → DoesFlow env around op p q

  abbrev pub OpsKeep : Option Flow → List Operation → Flow → Type 0
  OpsKeep base [] f = ⊤
  OpsKeep base (op ∷ ops) f = OpKeeps base f op × OpsKeep base ops f

  -- the variable is known, and where it is narrowed in a type below this one
  abbrev pub IsKnown : ℕ → Bool → SemType → Flow → Type 0
  IsKnown slot true t f = HasSome env (λ s. Sub env s t) slot f
  IsKnown slot false t f = HasSome env (λ s. ⊤) slot f

  abbrev pub AllKnown : List Captured → Flow → Type 0
  AllKnown [] f = ⊤
  AllKnown (c ∷ cs) f = IsKnown c.slot c.narrowed (sem_of c.ty) f × AllKnown cs f

  -- Of a slot of the construct's own nothing is known before it, nor wherever a panic lands; what it keeps passes the test, or fails it.
  pub record OwnTested (base : Option Flow) (f : Flow) (own : ℕ) (tested holds fails : SemType) : Type 0 where
    pub declared : SemType
    pub slot : slice_get around.slots own ≡ Some declared
    pub free : IsFree own base
    pub unknown : IsFreeIn own f
    pub on_true : LeavesTrue env declared tested holds
    pub on_false : LeavesFalse env declared tested fails

  pub record MadeKeepsFlow (base : Option Flow) : Type 0 where
    pub strict : (form : StrictForm) (parts : List TypedExpr) (t : Shared) (at : Place) (e : TypedExpr) (f : Flow) → IsStrict form parts t at e
        → AllKeep base parts f → OpsKeep base (operations_of form (length parts)) f → KeepsFlow base e f
    pub loaded : (slot : ℕ) (narrowed : Bool) (t : Shared) (at : Place) (e : TypedExpr) (f : Flow) → IsLocal slot narrowed t at e
        → IsKnown slot narrowed (sem_of t) f → KeepsFlow base e f
    -- a test of a variable narrows it
    pub tested : (slot : ℕ) (narrowed : Bool) (t u v : Shared) (at here : Place) (a e : TypedExpr) (ks : Known) (s holds fails : SemType)
        → IsLocal slot narrowed u at a → IsKnown slot narrowed (sem_of u) (Some ks) → IsStrict (form.Is t) (a ∷ []) v here e
        → slice_get ks slot ≡ Some (Some s) → LeavesTrue env s (sem_of t) holds → LeavesFalse env s (sem_of t) fails
        → LeavesFlow base e (Some ks) (Some ks) (Some (slice_set ks slot (Some holds))) (Some (slice_set ks slot (Some fails)))
    pub negated : (a e : TypedExpr) (t : Shared) (at : Place) (f g met unmet : Flow) → IsStrict (form.Operator operator.Not) (a ∷ []) t at e
        → LeavesFlow base a f g met unmet → LeavesFlow base e f g unmet met
    pub conjoined : (a b e : TypedExpr) (t : Shared) (at : Place) (f g met unmet h truly falsely i o : Flow) → IsAnd a b t at e
        → LeavesFlow base a f g met unmet → LeavesFlow base b met h truly falsely → FlowBelow env h i → FlowBelow env unmet i
        → FlowBelow env falsely o → FlowBelow env unmet o → LeavesFlow base e f i truly o
    pub disjoined : (a b e : TypedExpr) (t : Shared) (at : Place) (f g met unmet h truly falsely i o : Flow) → IsOr a b t at e
        → LeavesFlow base a f g met unmet → LeavesFlow base b unmet h truly falsely → FlowBelow env h i → FlowBelow env met i
        → FlowBelow env truly o → FlowBelow env met o → LeavesFlow base e f i o falsely
    pub chosen : (c a b e : TypedExpr) (t : Shared) (at : Place) (f g met unmet i : Flow) → IsConditional c a b t at e
        → LeavesFlow base c f g met unmet → KeepsFlow base a met → KeepsFlow base b unmet → FlowBelow env met i → FlowBelow env unmet i
        → LeavesFlow base e f i i i
    pub filled : (own : ℕ) (a b e : TypedExpr) (t : Shared) (at : Place) (f : Flow) (holds fails : SemType) → IsElvis own a b t at e
        → KeepsFlow base a f → KeepsFlow base b f → OwnTested base f own nil_type holds fails → Sub env fails (sem_of t) → KeepsFlow base e f
    pub checked : (panics : Bool) (own : ℕ) (a e : TypedExpr) (t : Shared) (at : Place) (f : Flow) (holds fails : SemType) → IsCheck panics own a t at e
        → KeepsFlow base a f → OwnTested base f own error_type holds fails → Sub env fails (sem_of t) → KeepsFlow base e f
    -- what is known before a trap is known wherever a panic in it lands
    pub trapped : (a e : TypedExpr) (t : Shared) (at : Place) (f : Flow) → IsTrap a t at e → KeepsFlow (Some f) a f → BaseBelow env f base → KeepsFlow base e f
    pub function : (g : AnonymousFunction) (value e : TypedExpr) (t : Shared) (at : Place) (f : Flow) → IsFunctionOf g value t at e
        → AllKnown g.captured f → KeepsFlow base e f
    pub enclosed : (a e : TypedExpr) (t : Shared) (at : Place) (f g met unmet : Flow) → IsParens a t at e → LeavesFlow base a f g met unmet
        → LeavesFlow base e f g met unmet
