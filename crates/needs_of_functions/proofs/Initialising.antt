-- Initial values that begin, as answers of calls, and that what stands still stands.
use Rattle.std.proofs.Common.{◌≡◌, ◌++◌, ◌∙◌, ℕ, Bool, true, false, List, [], ◌∷◌, length, All, Option, Some, None, IfSome, Ok, ap, refl, subst, sym}
use Rattle.bal_tree.specs.declared.def.VariableDef.{VariableDef}
use Rattle.checks.specs.Checks.{Comes}
use Rattle.descriptors.specs.declared.names.Names.{Names}
use Rattle.descriptors.specs.Described.{IsCopy}
use Rattle.descriptors.specs.Naming.{entry_in}
use Rattle.flow_narrowing.specs.Flows.{IfShared}
use Rattle.type_model.specs.declared.basic.Ty.{Ty}
use Rattle.type_model.specs.Defined.{TyBelow}
use Rattle.typed_tree.specs.SharedTypes.{Shared}
use Rattle.expr_needs.specs.declared.kind.Kind.TheVariants as kind
use Rattle.check_words.specs.Calls.{new_number, opens_unit}
use Rattle.check_words.specs.Sharing.{SameShared, SameUnit}
use Rattle.check_words.specs.Stands.{InitialiserBelow, SharedBelow, Stands, UnitBelow}
use Rattle.check_words.specs.State.{InitialiserAtWork, State, UnitAtWork}
use Rattle.check_words.specs.Units.{begins_initial, initialiser_now, initialiser_unit, keeps_at_work}
use Rattle.check_words.specs.Words.{OfKind}
use Rattle.check_words.proofs.Coming.{became-this, given, next}
use Rattle.check_words.proofs.Flowing.{want-put}
use Rattle.check_words.proofs.Regrouping.{regroup-three}
use Rattle.check_words.proofs.Standing.{also-has, stands-wants}
use Rattle.needs_of_units.proofs.Capturing.{same-unit-below}
use Rattle.needs_of_units.specs.Units.{bare_unit}
use Rattle.needs_of_functions.specs.Defined.{IsVariable}
use Rattle.needs_of_functions.specs.Initials.{new_if, opens_initial, wants_variable}
use Rattle.needs_of_functions.proofs.Defining.{variable-typed}

-- ---- the initialiser that is there

stays : (kept : Bool) (s : State) (i : InitialiserAtWork) → s.initialiser ≡ Some i → Comes (keeps_at_work kept i) s (Ok tt) s
stays true s i is = became-this _ s s (ap (λ (o : Option InitialiserAtWork). record s { initialiser = o }) is)
stays false s i is = given _ s tt refl

pub opens-there : (kept : Bool) (s new : State) (i : InitialiserAtWork) → s.initialiser ≡ Some i → Comes (opens_unit i.unit) s (Ok tt) new → Comes (opens_initial kept) s (Ok tt) new
opens-there kept s new i is opened =
    next initialiser_now _ _ _ _ i s (next _ _ _ _ _ (Some i) s (given _ s (Some i) (sym is)) (given _ s i refl))
    (next _ _ _ _ _ tt s (stays kept s i is) opened)

-- its unit by other handles
pub there-below : (s : State) → Stands s → (i : InitialiserAtWork) (v : UnitAtWork) → s.initialiser ≡ Some i → SameUnit i.unit v → UnitBelow (length s.atoms) v
there-below s h i v is same =
    same-unit-below (length s.atoms) i.unit v same (subst (λ (o : Option InitialiserAtWork). IfSome o (InitialiserBelow (length s.atoms))) is h.initialiser)

-- ---- a new one

module _ (kept : Bool) (s : State) (u : UnitAtWork) (o : Option InitialiserAtWork) (e : o ≡ new_if kept u s.initialiser) where
  new-kept : Comes (keeps_at_work kept (record { unit = u; values = [] })) s (Ok tt) (record s { initialiser = o })
  new-kept = by kept e
    where
      by : (b : Bool) → o ≡ new_if b u s.initialiser → Comes (keeps_at_work b (record { unit = u; values = [] })) s (Ok tt) (record s { initialiser = o })
      by true f = became-this _ s _ (ap (λ (x : Option InitialiserAtWork). record s { initialiser = x }) f)
      by false f = subst (λ (x : Option InitialiserAtWork). Comes (keeps_at_work false (record { unit = u; values = [] })) s (Ok tt) (record s { initialiser = x })) (sym f) (given _ s tt refl)

  pub new-stands : Stands s → UnitBelow (length s.atoms) u → Stands (record s { initialiser = o })
  new-stands h below =
      record {
        site = h.site;
        found = h.found;
        ways = h.ways;
        wants = h.wants;
        constructors = h.constructors;
        calls = h.calls;
        choices = h.choices;
        matches = h.matches;
        units = h.units;
        initialiser = subst (λ (x : Option InitialiserAtWork). IfSome x (InitialiserBelow (length s.atoms))) (sym e) (by kept);
      }
    where
      by : (b : Bool) → IfSome (new_if b u s.initialiser) (InitialiserBelow (length s.atoms))
      by true = below
      by false = h.initialiser

pub opens-new : (kept : Bool) (s mid new : State) (n : ℕ) (t handle : Shared) (u v : UnitAtWork) (o : Option InitialiserAtWork) → s.initialiser ≡ None → Comes new_number s (Ok n) mid
    → OfKind kind.ErrorOrNil mid.atoms t.value → u ≡ bare_unit n 0 t true → v ≡ bare_unit n 0 handle true → SameShared t handle → o ≡ new_if kept u mid.initialiser
    → ((w : UnitAtWork) → SameUnit w v → Comes (opens_unit w) (record mid { initialiser = o }) (Ok tt) new) → Comes (opens_initial kept) s (Ok tt) new
opens-new kept s mid new n t handle u v o none numbered is eu ev same eo opened =
    let i : InitialiserAtWork = record { unit = initialiser_unit n t; values = [] } in
    next initialiser_now _ _ _ _ i mid
    (next _ _ _ _ _ None s (given _ s None (sym none)) (next _ _ _ _ _ n mid numbered (next _ _ _ _ _ t mid (given _ mid t is) (given _ mid i refl))))
    (next _ _ _ _ _ tt (record mid { initialiser = o }) (new-kept kept mid (initialiser_unit n t) o (eo ∙ ap (λ x. new_if kept x mid.initialiser) eu))
    (opened (initialiser_unit n t) (subst (SameUnit (initialiser_unit n t)) (sym ev) same-new)))
  where
    same-new : SameUnit (initialiser_unit n t) (bare_unit n 0 handle true)
    same-new =
        record {
          number = refl;
          worker = refl;
          slots = tt;
          params = refl;
          rest = refl;
          rest_member = tt;
          result = same;
          arrow = refl;
          future = refl;
          captured = tt;
          flow = record { variables = tt; reached = refl };
        }

-- ---- the type that is wanted

module _ (s : State) (x : Shared) (ws : List (Option Shared)) (more : ws ≡ s.wants ++ Some x ∷ []) where
  pub variable-wanted : (names : Names) (d : VariableDef) (number : ℕ) (t : Ty) → IsVariable (entry_in names d.name.name s.site.scope.«module») number t → IsCopy t x.value
      → Comes (wants_variable names d) s (Ok tt) (record s { wants = ws })
  variable-wanted names d number t is copy =
      next _ _ _ _ _ (number, t) s (variable-typed names d s number t is) (next _ _ _ _ _ x s (given _ s x copy) (want-put s (Some x) (Some x) ws refl more))

  pub wanted-stands : Stands s → SharedBelow (length s.atoms) x → Stands (record s { wants = ws })
  wanted-stands h below =
      stands-wants s h ws
      (subst (All (IfShared (TyBelow (length s.atoms)))) (sym more) (also-has (IfShared (TyBelow (length s.atoms))) s.wants (Some x) h.wants below))

-- ---- the whole

pub initial-begins : (names : Names) (d : VariableDef) (kept : Bool) (s mid new : State) → Comes (opens_initial kept) s (Ok tt) mid → Comes (wants_variable names d) mid (Ok tt) new
    → Comes (begins_initial names d kept) s (Ok tt) new
initial-begins names d kept s mid new opened want =
    regroup-three initialiser_now (λ i. keeps_at_work kept i) (λ i u. opens_unit i.unit) (λ v. wants_variable names d) s new (Ok tt) (next _ _ _ _ _ tt mid opened want)
