-- Names as expressions: what the call of each makes.
use Rattle.std.proofs.Common.{◌≡◌, ◌↔◌, ◌++◌, ◌-◌, ◌&&◌, ℕ, Bool, true, false, not, List, [], ◌∷◌, length, Some, None, is_some, Result, Ok, Err, IfOk, IsErr, IsErrAnd, arith, rules, refl, sym, subst, ap}
use Rattle.std.proofs.lemmas.Bool.{false≢true}
use Rattle.std.proofs.lemmas.List.{append-nil, take_all}
use Rattle.bal_base.specs.declared.fault.Fault.{Fault}
use Rattle.bal_base.specs.declared.fault.FaultCode.{FaultCode}
use Rattle.bal_base.specs.declared.fault.FaultCode.TheVariants.{Captured}
use Rattle.bal_base.specs.declared.fault.Kept.TheVariants.{Nothing as ShowsNothing}
use Rattle.bal_base.specs.declared.place.Place.{Place}
use Rattle.bal_base.specs.declared.stop.Memory.{Memory as NoMemory}
use Rattle.bal_base.specs.declared.stop.Stop.{Stop}
use Rattle.bal_base.specs.declared.stop.Stop.TheVariants.{Memory, Fault as OwnFault}
use Rattle.bal_base.specs.declared.shape.Shape.{Shape}
use Rattle.checks.specs.Checks.{Check, Comes, gives_some, refuses, ◌▷◌}
use Rattle.checks.specs.Questions.{IsFault}
use Rattle.checks.proofs.Steps.{ran_out, stops}
use Rattle.descriptors.specs.Steps.{lifted}
use Rattle.flow_narrowing.specs.declared.flow.Variable.{Variable}
use Rattle.operations.specs.declared.operation.Constant.{Constant}
use Rattle.operations.specs.Rows.{shape_of}
use Rattle.type_model.specs.declared.atoms.AtomDef.{AtomDef}
use Rattle.type_model.specs.declared.basic.SemType.{SemType, Basic}
use Rattle.type_model.specs.declared.basic.Ty.{Ty}
use Rattle.type_model.specs.Membership.{In}
use Rattle.typed_tree.specs.declared.expr.TypedExpr.{TypedExpr}
use Rattle.typed_tree.specs.declared.form.StrictForm.{StrictForm}
use Rattle.typed_tree.specs.Exprs.{type_of}
use Rattle.typed_tree.specs.SharedTypes.{Shared}
use Rattle.typed_tree.specs.Views.{IsLocal, IsStrict}
use Rattle.typed_tree.proofs.ExprLayers.{expr_layers}
use Rattle.check_kinds.specs.Sets.{constant_set}
use Rattle.check_kinds.proofs.Shapes.{single-set}
use Rattle.check_words.specs.Sharing.{SameShared}
use Rattle.check_words.specs.Stands.{PartBelow, SharedBelow}
use Rattle.check_words.specs.State.{State, all_but, shared_now}
use Rattle.check_words.specs.Values.{gives_variable, uses}
use Rattle.check_words.specs.Words.{Atoms, Step, fails, makes, makes_strict, unless}
use Rattle.check_words.proofs.Coming.{failed, given, made, next}
use Rattle.check_work.proofs.Making.{part-below, strict-type}
use Rattle.seen_names.specs.Given.{IsSole, Puts, ended, with_part}

-- ---- stops

pub refused-puts : (code : FaultCode) (at : Place) (f : Fault) → IsFault code (Some at) ShowsNothing f → Puts (fails code at) (Err (OwnFault f))
unfolding Puts
refused-puts code at f h s = failed (Unit {0}) code at s f h

pub out-puts : (check : Step) → Puts check (Err Memory)
unfolding Puts
out-puts check s = ran_out check s s

-- what stopped a call is handed on by `?`
pub handed-stop : {A : Type 0} (m : Check State A) (old new : State) (stop : Stop Fault) (r : Result A (Stop Fault)) → IsErr r × IsErrAnd r (λ e. e ≡ stop) → Comes m old (Err stop) new
    → Comes m old r new
handed-stop m old new stop (Ok a) h k = absurd (false≢true h.0)
handed-stop m old new stop (Err s) h k = subst (λ e. Comes m old (Err e) new) (sym h.1) k

-- ---- parts

all-stay : {A : Type 0} (xs : List A) → all_but 0 xs ≡ xs
all-stay xs = take_all (length xs - 0) xs (omega arith)

-- a part of no parts
pub put : (P : Atoms → List TypedExpr → TypedExpr → Type 0) (s : State) (e : TypedExpr) → P s.atoms [] e → Comes (makes 0 P) s (Ok tt) (with_part s (Ok e))
put P s e p =
    made 0 P s (with_part s (Ok e)) [] e (record { kept = s.found; is = sym (append-nil s.found); many = refl }) p
    (ap (λ xs. record s { found = xs ++ e ∷ []; ways = None }) (sym (all-stay s.found)))

-- an expression without operands
pub sole-puts : (P : Atoms → Ty → Type 0) (form : StrictForm) (ty : Ty) (at : Place) (m : Result TypedExpr NoMemory) → ((env : Atoms) → P env ty) → IfOk m (IsSole form ty at)
    → Puts (makes_strict 0 form P at) (lifted m)
unfolding Puts
sole-puts P form ty at (Ok e) p h s = put _ s e (h.type, subst (P s.atoms) (sym h.is) (p s.atoms), h.strict)
sole-puts P form ty at (Err e) p h s = ran_out _ s s

-- behind something that is so in every state
pub then-puts : {A : Type 0} (P : State → A → Type 0) (more : A → Step) (a : A) (r : Result TypedExpr (Stop Fault)) → ((s : State) → P s a) → Puts (more a) r → Puts (gives_some P ▷ more) r
unfolding Puts
then-puts P more a r p h s = next (gives_some P) more s (with_part s r) (ended r) a s (given P s a (p s)) (h s)

pub variable-puts : (v : Variable) (at : Place) (t : Shared) (e : TypedExpr) → (v.captured && v.assigned) ≡ false → SameShared (shared_now v) t
    → IsLocal v.slot (is_some v.narrowed) t at e → Puts (gives_variable v at) (Ok e)
unfolding Puts
variable-puts v at t e free same is s =
    next (uses v at) _ s (with_part s (Ok e)) (Ok tt) tt s (subst (λ b. Comes (unless (not b) Captured at) s (Ok tt) s) (sym free) (given _ s tt refl)) (put _ s e (t, same, is))

pub lost-puts : (v : Variable) (at : Place) (r : Result TypedExpr (Stop Fault)) → (v.captured && v.assigned) ≡ true → Puts (fails Captured at) r → Puts (gives_variable v at) r
unfolding Puts Comes refuses
lost-puts v at (Err stop) is h s = stops (uses v at) _ s s stop (subst (λ b. Comes (unless (not b) Captured at) s (Err stop) s) (sym is) (h s))
lost-puts v at (Ok e) is h s = absurd (h s)

-- ---- which atoms they name

pub strict-below : (n : ℕ) (form : StrictForm) (parts : List TypedExpr) (t : Shared) (at : Place) (e : TypedExpr) → IsStrict form parts t at e → SharedBelow n t → PartBelow n e
strict-below n form parts t at e is h = part-below n e t (strict-type form parts t at e is) h

local-type : (slot : ℕ) (narrowed : Bool) (t : Shared) (at : Place) (e : TypedExpr) → IsLocal slot narrowed t at e → type_of e ≡ t
local-type slot narrowed t at e is = search (rules, expr_layers)

pub local-below : (n slot : ℕ) (narrowed : Bool) (t : Shared) (at : Place) (e : TypedExpr) → IsLocal slot narrowed t at e → SharedBelow n t → PartBelow n e
local-below n slot narrowed t at e is h = part-below n e t (local-type slot narrowed t at e is) h

pub lifted-if : {A : Type 0} (P : A → Type 0) (m : Result A NoMemory) → IfOk m P → IfOk (lifted m) P
lifted-if P (Ok a) h = h
lifted-if P (Err e) h = tt

-- ---- constants

pub only-value : (s : SemType) (c : Constant) → s ≡ Basic (constant_set c) → (env : List AtomDef) (x : Shape) → In env x s ↔ (x ≡ shape_of c)
only-value s c is env x = subst (λ t. In env x t ↔ (x ≡ shape_of c)) (sym is) (single-set c x)

pub ruleset putting = (out-puts)
