-- Initial values that end, as answers of calls, and that what stands still stands.
use Rattle.std.proofs.Common.{◌≡◌, ◌++◌, ◌∙◌, ℕ, Bool, true, false, List, [], ◌∷◌, length, Option, Some, None, IfSome, Result, Ok, Err, OnOk, ap, refl, subst, sym}
use Rattle.bal_base.specs.declared.fault.Fault.{Fault}
use Rattle.bal_base.specs.declared.place.Place.{Place}
use Rattle.bal_base.specs.declared.stop.Memory.{Memory as NoMemory}
use Rattle.bal_base.specs.declared.stop.Stop.{Stop}
use Rattle.bal_tree.specs.declared.def.VariableDef.{VariableDef}
use Rattle.checks.specs.Checks.{Check, Comes, gives_some, ◌▷◌}
use Rattle.descriptors.specs.declared.names.Names.{Names}
use Rattle.descriptors.specs.Naming.{entry_in}
use Rattle.type_model.specs.declared.basic.Ty.{Ty}
use Rattle.typed_tree.specs.declared.expr.TypedExpr.{TypedExpr}
use Rattle.typed_tree.specs.declared.package.Initial.{Initial}
use Rattle.typed_tree.specs.declared.package.ModuleVariable.{ModuleVariable}
use Rattle.typed_tree.specs.SharedTypes.{Shared}
use Rattle.check_words.specs.Calls.{closes_unit}
use Rattle.check_words.specs.Stands.{InitialiserBelow, Stands, UnitBelow}
use Rattle.check_words.specs.State.{InitialiserAtWork, State, UnitAtWork}
use Rattle.check_words.specs.Statements.{takes_part, takes_want}
use Rattle.check_words.specs.Units.{IsInitial, IsModuleVariable, ends_initial, ends_value, initialiser_now}
use Rattle.check_words.specs.Words.{wanted, wants_no_more}
use Rattle.check_words.proofs.Coming.{became-this, given, next}
use Rattle.needs_of_functions.specs.Defined.{IsVariable}
use Rattle.needs_of_functions.specs.Initials.{AddsVariable}
use Rattle.needs_of_functions.proofs.Defining.{variable-typed}

-- the type that is wanted is taken, and then what follows
pub want-then : {B : Type 0} (k : Shared → Check State B) (s mid new : State) (t : Shared) (r : Result B (Stop Fault)) → Comes takes_want s (Ok t) mid → Comes (k t) mid r new
    → Comes (wanted ▷ λ t. wants_no_more 1 ▷ λ u. k t) s r new
unfolding Comes ◌▷◌ gives_some
want-then k s mid new t r (x, s1, h, (u, s2, d, (e, f))) g =
    next wanted (λ y. wants_no_more 1 ▷ λ v. k y) s new r x s1 h
    (next (wants_no_more 1) (λ v. k x) s1 new r u s2 d (subst (λ y. Comes (k y) s2 r new) e (subst (λ (m : State). Comes (k t) m r new) f g)))

-- ---- the variable

pub adds-variable : (names : Names) (d : VariableDef) (t : Shared) (number : ℕ) (ty : Ty) (s : State) (v : ModuleVariable) (vs : List ModuleVariable)
    → IsVariable (entry_in names d.name.name s.site.scope.«module») number ty → IsModuleVariable d s.site.scope t v → vs ≡ s.done.variables ++ v ∷ []
    → AddsVariable names d t number s (record s { done = record s.done { variables = vs } })
adds-variable names d t number ty s v vs found is more =
    record { ty = ty; found = found; variable = v; is = is; after = ap (λ (xs : List ModuleVariable). record s { done = record s.done { variables = xs } }) more }

-- ---- the value

pub value-kept : (s : State) (i : InitialiserAtWork) (unit : UnitAtWork) (number : ℕ) (value : TypedExpr) (at : Place) (x : Initial) (vs : List Initial) (o : Option InitialiserAtWork)
    → s.initialiser ≡ Some i → IsInitial number value at x → vs ≡ i.values ++ x ∷ [] → o ≡ Some (record { unit = unit; values = vs })
    → Comes (ends_value true unit number value at) s (Ok tt) (record s { initialiser = o })
value-kept s i unit number value at x vs o is initial more e =
    next initialiser_now _ _ _ _ i s (next _ _ _ _ _ (Some i) s (given _ s (Some i) (sym is)) (given _ s i refl))
    (next _ _ _ _ _ x s (given _ s x initial)
    (became-this _ s _
    (ap (λ (y : Option InitialiserAtWork). record s { initialiser = y }) (e ∙ ap (λ (ys : List Initial). Some (record { unit = unit; values = ys })) more))))

pub kept-stands : (s : State) → Stands s → (unit : UnitAtWork) (vs : List Initial) (o : Option InitialiserAtWork) → o ≡ Some (record { unit = unit; values = vs })
    → UnitBelow (length s.atoms) unit → Stands (record s { initialiser = o })
kept-stands s h unit vs o e below =
    record {
      site = h.site;
      found = h.found;
      ways = h.ways;
      wants = h.wants;
      constructors = h.constructors;
      calls = h.calls;
      choices = h.choices;
      matches = h.matches;
      units = h.units;
      initialiser = subst (λ (x : Option InitialiserAtWork). IfSome x (InitialiserBelow (length s.atoms))) (sym e) below;
    }

-- by whether it is kept
pub ends-by : (b kept : Bool) (unit : UnitAtWork) (number : ℕ) (value : TypedExpr) (at : Place) (s new : State) → kept ≡ b
    → Comes (ends_value b unit number value at) s (Ok tt) new → Comes (ends_value kept unit number value at) s (Ok tt) new
ends-by b kept unit number value at s new e h = subst (λ (x : Bool). Comes (ends_value x unit number value at) s (Ok tt) new) (sym e) h

-- ---- the whole

pub initial-ends : (names : Names) (d : VariableDef) (kept : Bool) (s s1 s2 s3 s4 new : State) (value : TypedExpr) (t : Shared) (unit : UnitAtWork) (number : ℕ)
    → Comes takes_part s (Ok value) s1 → Comes takes_want s1 (Ok t) s2 → Comes closes_unit s2 (Ok unit) s3 → AddsVariable names d t number s3 s4
    → Comes (ends_value kept unit number value d.name.at) s4 (Ok tt) new → Comes (ends_initial names d kept) s (Ok tt) new
initial-ends names d kept s s1 s2 s3 s4 new value t unit number taken want closed added ended =
    next _ _ _ _ _ value s1 taken
    (want-then _ s1 s2 new t (Ok tt) want
    (next _ _ _ _ _ unit s3 closed
    (next _ _ _ _ _ s3.site s3 (given _ s3 s3.site refl)
    (next _ _ _ _ _ (number, added.ty) s3 (variable-typed names d s3 number added.ty added.found)
    (next _ _ _ _ _ added.variable s3 (given _ s3 added.variable added.is) (next _ _ _ _ _ tt s4 (became-this _ s3 s4 added.after) ended))))))

-- ---- answers

-- where something was made, what was made before it
pub made-too : (P Q : Type 0) (m : Result (Unit {0}) NoMemory) → (P → Q) → OnOk m P → OnOk m Q
made-too P Q (Ok a) f h = f h
made-too P Q (Err e) f h = tt

pub on-any : (P : Type 0) (r : Result (Unit {0}) (Stop Fault)) → P → OnOk r P
on-any P (Ok a) h = h
on-any P (Err e) h = tt
