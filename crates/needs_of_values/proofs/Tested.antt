-- Tests are what the need means.
use Rattle.std.proofs.Common.{◌≡◌, ◌++◌, ◌∙◌, ℕ, All, Bool, true, false, IfSome, IsErr, IsErrAnd, List, [], ◌∷◌, Option, Some, None, Result, Ok, Err, ap, if◌then◌else◌, length, option_map, refl, subst, sym}
use Rattle.std.specs.Prelude.{unwrap_or}
use Rattle.std.proofs.lemmas.Bool.{false≢true}
use Rattle.std.proofs.lemmas.List.Elements.{All-head, All-tail}
use Rattle.std.proofs.lemmas.Option.{none-some, same_Some}
use Rattle.bal_base.specs.declared.fault.Fault.{Fault}
use Rattle.bal_base.specs.declared.place.Place.{Place}
use Rattle.bal_base.specs.declared.stop.Stop.{Stop}
use Rattle.bal_base.specs.declared.text.Name.{Name}
use Rattle.bal_tree.specs.declared.name.Prefix.{Prefix}
use Rattle.bal_tree.specs.declared.name.QualifiedName.{QualifiedName}
use Rattle.checks.specs.Checks.{Check, Comes}
use Rattle.checks.proofs.Steps.{stops}
use Rattle.expr_needs.specs.declared.kind.Kind.TheVariants as kind
use Rattle.flow_narrowing.specs.declared.flow.Flow.{Flow}
use Rattle.flow_narrowing.specs.declared.flow.Variable.{Variable}
use Rattle.flow_narrowing.specs.Flows.{IfShared, VariableBelow}
use Rattle.type_model.specs.declared.answers.TypeLimit.{TypeLimit}
use Rattle.type_model.specs.declared.atoms.AtomDef.{AtomDef}
use Rattle.type_model.specs.Calls.{Asked}
use Rattle.type_model.specs.Defined.{TyBelow}
use Rattle.type_model.specs.Places.{is_same_text}
use Rattle.typed_tree.specs.declared.expr.TypedExpr.{TypedExpr}
use Rattle.typed_tree.specs.declared.form.StrictForm.TheVariants as form
use Rattle.typed_tree.specs.SharedTypes.{Shared}
use Rattle.check_kinds.specs.Over.{ComesOver}
use Rattle.check_words.specs.Joins.{narrows_to}
use Rattle.check_words.specs.Seen.{variable_behind, variable_named}
use Rattle.check_words.specs.Sharing.{SameFlow, SameOption, SameWays}
use Rattle.check_words.specs.Stands.{FlowBelow, SharedBelow, Stands, WaysBelow}
use Rattle.check_words.specs.State.{State, Ways, find_variable, shared_now, with_type}
use Rattle.check_words.specs.Values.{drops_want, tests, ways_if, ways_of_test}
use Rattle.check_words.specs.Words.{Atoms, OfKind, flow_now}
use Rattle.check_words.proofs.Coming.{became-this, given, next}
use Rattle.check_words.proofs.Flowing.{ways-set}
use Rattle.check_words.proofs.LastOnes.{kept-is}
use Rattle.check_words.proofs.Handles.{flow-through}
use Rattle.check_words.proofs.Retyping.{retyped-below, same-retyped}
use Rattle.check_words.proofs.Standing.{flow-below, front-have, last-has, stands-ways, stands-wants}
use Rattle.check_work.specs.declared.work.Ways.{Ways as WaysHeld}
use Rattle.check_work.specs.Parts.{Gathered}
use Rattle.check_work.specs.Views.{ways_of}
use Rattle.check_work.proofs.Making.{strict-made, strict-stands}
use Rattle.needs_of_values.specs.Tested.{ComesToWays}

-- ---- what a call comes to

module _ (m : Check State (Option Ways)) (s : State) where
  pub ways-told : (w : Option WaysHeld) → ComesToWays m s (Ok w) → (x : Option Ways) × Comes m s (Ok x) s × SameOption SameWays x (option_map ways_of w)
  unfolding ComesToWays
  ways-told w h = h

  pub stop-told : (stop : Stop Fault) → ComesToWays m s (Err stop) → Comes m s (Err stop) s
  unfolding ComesToWays
  stop-told stop h = h

  pub ways-come : (w : Option WaysHeld) (x : Option Ways) → Comes m s (Ok x) s → SameOption SameWays x (option_map ways_of w) → ComesToWays m s (Ok w)
  unfolding ComesToWays
  ways-come w x h same = (x, h, same)

  pub ways-stop : (stop : Stop Fault) (r : Result (Option WaysHeld) (Stop Fault)) → IsErr r × IsErrAnd r (λ e. e ≡ stop) → Comes m s (Err stop) s → ComesToWays m s r
  unfolding ComesToWays
  ways-stop stop (Ok b) h k = absurd (false≢true h.0)
  ways-stop stop (Err e) h k = subst (λ x. Comes m s (Err x) s) (sym h.1) k

-- ---- variables that are seen

found-has : (P : Variable → Type 0) (vs : List Variable) (name : Name) (v : Variable) → All P vs → find_variable vs name ≡ Some v → P v
found-has P [] name v h is = absurd (none-some v is)
found-has P (u ∷ vs) name v h is = by (is_same_text u.name name) (found-has P vs name v (All-tail P u vs h)) is
  where
    by : (b : Bool) → (find_variable vs name ≡ Some v → P v) → (if b then Some u else find_variable vs name) ≡ Some v → P v
    by true behind same = subst P (same_Some u v same) (All-head P u vs h)
    by false behind same = behind same

-- what holds of each variable holds of the one that the name stands for
pub named-has : (P : Variable → Type 0) (vs : List Variable) (q : QualifiedName) (v : Variable) → All P vs → variable_named vs q ≡ Some v → P v
named-has P vs q v h is = by q.prefix is
  where
    by : (p : Option Prefix) → variable_behind vs q p ≡ Some v → P v
    by None same = found-has P vs q.word.name v h same
    by (Some p) same = absurd (none-some v same)

pub now-below : (n : ℕ) (v : Variable) → VariableBelow n v → SharedBelow n (shared_now v)
now-below n v h = by v.narrowed h.narrowed
  where
    by : (t : Option Shared) → IfShared (TyBelow n) t → SharedBelow n (unwrap_or t v.declared)
    by None k = h.declared
    by (Some t) k = k

-- ---- by other names of what is the same

pub narrows-so : (passes : List AtomDef → Asked → TypeLimit → Type 0) (at : Place) (t s u : Shared) → s ≡ u → (old : Atoms) (r : Result (Shared × Shared) (Stop Fault)) (new : Atoms)
    → ComesOver (narrows_to passes s t at) old r new → ComesOver (narrows_to passes u t at) old r new
narrows-so passes at t s u e old r new h = subst (λ x. ComesOver (narrows_to passes x t at) old r new) e h

pub tested-as : (passes : List AtomDef → Asked → TypeLimit → Type 0) (at : Place) (p q : Option QualifiedName) (s new : State) (r : Result (Unit {0}) (Stop Fault)) → p ≡ q
    → Comes (tests passes p at) s r new → Comes (tests passes q at) s r new
tested-as passes at p q s new r e h = subst (λ o. Comes (tests passes o at) s r new) e h

pub named-in : (vs us : List Variable) (q : QualifiedName) (v : Option Variable) → vs ≡ us → v ≡ variable_named vs q → v ≡ variable_named us q
named-in vs us q v e h = h ∙ ap (λ xs. variable_named xs q) e

pub last-is : (xs ys : List (Option Shared)) (w v : Option Shared) → w ≡ v → xs ≡ ys ++ w ∷ [] → xs ≡ ys ++ v ∷ []
last-is xs ys w v e h = h ∙ ap (λ x. ys ++ x ∷ []) e

-- ---- a name that is tested

pub nothing-tested : (passes : List AtomDef → Asked → TypeLimit → Type 0) (at : Place) (t : Shared) (s : State) → ComesToWays (ways_of_test passes None t at) s (Ok None)
nothing-tested passes at t s = ways-come _ s None None (given _ s None refl) tt

module _ (passes : List AtomDef → Asked → TypeLimit → Type 0) (at : Place) (q : QualifiedName) (t : Shared) (s : State) where
  pub none-tested : ComesToWays (ways_if passes q None t at) s (Ok None)
  none-tested = ways-come _ s None None (given _ s None refl) tt

  module _ (f : Flow) (here : Comes flow_now s (Ok f) s) (v : Variable) where
    pub one-tested : (first second : Shared) (w : WaysHeld) → Comes (narrows_to passes (shared_now v) t at) s (Ok (first, second)) s → SameFlow (with_type q.word.name (Some first) f) w.yes
        → SameFlow (with_type q.word.name (Some second) f) w.no → ComesToWays (ways_if passes q (Some v) t at) s (Ok (Some w))
    one-tested first second w h holds fails =
        let ways : Ways = record { yes = with_type q.word.name (Some first) f; no = with_type q.word.name (Some second) f } in
        ways-come _ s (Some w) (Some ways) (next _ _ _ _ _ f s here (next _ _ _ _ _ (first, second) s h (given _ s (Some ways) refl))) (record { yes = holds; no = fails })

    pub test-stops : (stop : Stop Fault) → Comes (narrows_to passes (shared_now v) t at) s (Err stop) s → Comes (ways_if passes q (Some v) t at) s (Err stop) s
    test-stops stop h = next _ _ _ _ _ f s here (stops _ _ s s stop h)

  -- the name is looked up in what is known here
  pub name-tested : (f : Flow) → Comes flow_now s (Ok f) s → (r : Result (Option WaysHeld) (Stop Fault)) → ComesToWays (ways_if passes q (variable_named f.variables q) t at) s r
      → ComesToWays (ways_of_test passes (Some q) t at) s r
  unfolding ComesToWays
  name-tested f here (Ok w) h = (h.0, next _ _ _ _ _ f s here h.1, h.2)
  name-tested f here (Err stop) h = next _ _ _ _ _ f s here h

pub typed-below : (n : ℕ) (q : QualifiedName) (f g : Flow) (t : Shared) → FlowBelow n f → TyBelow n t.value → SameFlow (with_type q.word.name (Some t) f) g → FlowBelow n g
typed-below n q f g t flow below same = flow-below n _ g same (retyped-below n q.word.name (Some t) below f flow)

-- of a copy of what is known
pub typed-copy : (name : Name) (t : Shared) (f g k : Flow) → SameFlow f g → SameFlow (with_type name (Some t) g) k → SameFlow (with_type name (Some t) f) k
typed-copy name t f g k copy same = flow-through (with_type name (Some t) f) (with_type name (Some t) g) k (same-retyped name (Some t) (Some t) refl f g copy) same

-- ---- the whole

module _ (passes : List AtomDef → Asked → TypeLimit → Type 0) (at : Place) (name : Option QualifiedName) (s : State) (ws : List (Option Shared)) (t : Shared)
    (wanted : s.wants ≡ ws ++ Some t ∷ []) where
  -- behind what is wanted
  abbrev pub unwanted : State
  unwanted = record s { wants = ws }

  want-dropped : Comes drops_want s (Ok tt) unwanted
  want-dropped = became-this _ s unwanted (ap (λ xs. record s { wants = xs }) (sym (kept-is 1 s.wants ws (Some t ∷ []) wanted refl)))

  pub tests-come : (w : Option WaysHeld) (u : Shared) (es : List TypedExpr) → ComesToWays (ways_of_test passes name t at) unwanted (Ok w) → Gathered (form.Is t) 1 u at s.found es
      → OfKind kind.Truth s.atoms u.value → Comes (tests passes name at) s (Ok tt) (record s { wants = ws; found = es; ways = option_map ways_of w })
  tests-come w u es h g of =
      let told = ways-told _ unwanted w h in
      let mid : State = record s { wants = ws; found = es; ways = None } in
      next _ _ _ _ _ t s (given _ s t (record { kept = ws; is = wanted }))
      (next _ _ _ _ _ tt unwanted want-dropped
      (next _ _ _ _ _ told.0 unwanted told.1
      (next _ _ _ _ _ tt mid (strict-made (form.Is t) 1 u at unwanted es g (OfKind kind.Truth) of)
      (ways-set mid told.0 (option_map ways_of w) told.2 (record s { wants = ws; found = es; ways = option_map ways_of w }) refl))))

  pub tests-stop : (stop : Stop Fault) → ComesToWays (ways_of_test passes name t at) unwanted (Err stop) → Comes (tests passes name at) s (Err stop) unwanted
  tests-stop stop h =
      next _ _ _ _ _ t s (given _ s t (record { kept = ws; is = wanted }))
      (next _ _ _ _ _ tt unwanted want-dropped (stops _ _ unwanted unwanted stop (stop-told _ unwanted stop h)))

  pub want-below : Stands s → SharedBelow (length s.atoms) t
  want-below h = last-has (IfShared (TyBelow (length s.atoms))) s.wants (Some t) (record { kept = ws; is = wanted }) h.wants

  pub tests-stand : Stands s → (w : Option Ways) (u : Shared) (es : List TypedExpr) → IfSome w (WaysBelow (length s.atoms)) → Gathered (form.Is t) 1 u at s.found es → SharedBelow (length s.atoms) u
      → Stands (record s { wants = ws; found = es; ways = w })
  tests-stand h w u es ways g below =
      let others = front-have (IfShared (TyBelow (length s.atoms))) ws (Some t ∷ []) (subst (All (IfShared (TyBelow (length s.atoms)))) wanted h.wants) in
      stands-ways (record s { wants = ws; found = es; ways = None }) (strict-stands (form.Is t) 1 u at unwanted es g (stands-wants s h ws others) below) w ways
