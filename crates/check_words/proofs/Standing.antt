-- What stands still stands where a part of the state changes, or where there are more atoms.
use Rattle.std.proofs.Common.{◌≡◌, ◌++◌, ◌-◌, ℕ, Bool, List, [], ◌∷◌, length, All, Option, Some, None, IfSome, sym, subst}
use Rattle.std.specs.List.{AllZip}
use Rattle.std.proofs.lemmas.List.Elements.{All-append, All-cons, All-head, All-nil, All-tail, All-take}
use Rattle.flow_narrowing.specs.declared.flow.Flow.{Flow}
use Rattle.flow_narrowing.specs.declared.flow.Variable.{Variable}
use Rattle.flow_narrowing.specs.Flows.{AreSame, IfShared, VariableBelow, VariablesBelow}
use Rattle.type_model.specs.Defined.{TyBelow}
use Rattle.typed_tree.specs.declared.expr.TypedExpr.{TypedExpr}
use Rattle.typed_tree.specs.SharedTypes.{Shared}
use Rattle.check_words.specs.declared.access.Access.{Access}
use Rattle.check_words.specs.Sharing.{SameFlow, SameShared, SameVariable}
use Rattle.check_words.specs.Stands.{CallBelow, ChoiceBelow, ConstructorBelow, FlowBelow, MatchBelow, PartBelow, SharedBelow, Stands, UnitBelow, WaysBelow}
use Rattle.check_words.specs.State.{AreLast, BlockAtWork, CallAtWork, ChoiceAtWork, ConstructorAtWork, Done, IsLast, MatchAtWork, State, UnitAtWork, Ways, all_but}

-- ---- lists

module _ {A : Type 0} (P : A → Type 0) where
  pub back-have : (kept ys : List A) → All P (kept ++ ys) → All P ys
  back-have [] ys h = h
  back-have (x ∷ kept) ys h = back-have kept ys (All-tail P x (kept ++ ys) h)

  pub front-have : (kept ys : List A) → All P (kept ++ ys) → All P kept
  front-have [] ys h = All-nil P
  front-have (x ∷ kept) ys h = All-cons P x kept (All-head P x (kept ++ ys) h) (front-have kept ys (All-tail P x (kept ++ ys) h))

  pub last-has : (xs : List A) (x : A) → IsLast xs x → All P xs → P x
  last-has xs x l h = All-head P x [] (back-have l.kept (x ∷ []) (subst (All P) l.is h))

  pub last-have : (count : ℕ) (xs ys : List A) → AreLast xs count ys → All P xs → All P ys
  last-have count xs ys l h = back-have l.kept ys (subst (All P) l.is h)

  pub others-have : (count : ℕ) (xs : List A) → All P xs → All P (all_but count xs)
  others-have count xs h = All-take P (length xs - count) xs h

  pub also-has : (xs : List A) (x : A) → All P xs → P x → All P (xs ++ x ∷ [])
  also-has xs x h p = All-append P xs (x ∷ []) h (All-cons P x [] p (All-nil P))

-- ---- other handles of the same types

module _ (n : ℕ) where
  pub shared-below : (t u : Shared) → SameShared t u → SharedBelow n t → SharedBelow n u
  shared-below t u e h = subst (TyBelow n) (sym e) h

  pub same-below : (t u : Option Shared) → AreSame t u → IfShared (TyBelow n) t → IfShared (TyBelow n) u
  same-below None None e h = tt
  same-below (Some t) (Some u) e h = subst (TyBelow n) (sym e) h
  same-below None (Some u) e h = absurd e
  same-below (Some t) None e h = absurd e

  variable-below : (v u : Variable) → SameVariable v u → VariableBelow n v → VariableBelow n u
  variable-below v u s h =
      record {
        declared = subst (TyBelow n) (sym s.variable.declared) h.declared;
        narrowed = same-below v.narrowed u.narrowed s.narrowed h.narrowed;
      }

  variables-below : (vs us : List Variable) → AllZip SameVariable vs us → VariablesBelow n vs → VariablesBelow n us
  variables-below [] [] s h = All-nil _
  variables-below [] (u ∷ us) s h = absurd s
  variables-below (v ∷ vs) [] s h = absurd s
  variables-below (v ∷ vs) (u ∷ us) s h =
      All-cons (VariableBelow n) u us (variable-below v u s.0 (All-head (VariableBelow n) v vs h)) (variables-below vs us s.1 (All-tail (VariableBelow n) v vs h))

  pub flow-below : (f g : Flow) → SameFlow f g → FlowBelow n f → FlowBelow n g
  flow-below f g s h = variables-below f.variables g.variables s.variables h

  pub unit-with-flow : (u : UnitAtWork) (g : Flow) → UnitBelow n u → FlowBelow n g → UnitBelow n (record u { flow = g })
  unit-with-flow u g h k = record { slots = h.slots; rest = h.rest; rest_member = h.rest_member; result = h.result; flow = k }

  pub unit-with-slot : (u : UnitAtWork) (t : Shared) → UnitBelow n u → SharedBelow n t → UnitBelow n (record u { slots = u.slots ++ t ∷ [] })
  unit-with-slot u t h k =
      record { slots = also-has (SharedBelow n) u.slots t h.slots k; rest = h.rest; rest_member = h.rest_member; result = h.result; flow = h.flow }

  pub unit-replaced : (us kept : List UnitAtWork) (u v : UnitAtWork) → us ≡ kept ++ u ∷ [] → All (UnitBelow n) us → UnitBelow n v
      → All (UnitBelow n) (kept ++ v ∷ [])
  unit-replaced us kept u v is h k = also-has (UnitBelow n) kept v (front-have (UnitBelow n) kept (u ∷ []) (subst (All (UnitBelow n)) is h)) k

  pub unit-has : (us kept : List UnitAtWork) (u : UnitAtWork) → us ≡ kept ++ u ∷ [] → All (UnitBelow n) us → UnitBelow n u
  unit-has us kept u is h = last-has (UnitBelow n) us u (record { kept = kept; is = is }) h

-- ---- one part of the state changes

module _ (s : State) (h : Stands s) where
  pub stands-found : (es : List TypedExpr) → All (PartBelow (length s.atoms)) es → Stands (record s { found = es; ways = None })
  stands-found es all =
      record {
        site = h.site;
        found = all;
        ways = tt;
        wants = h.wants;
        constructors = h.constructors;
        calls = h.calls;
        choices = h.choices;
        matches = h.matches;
        units = h.units;
        initialiser = h.initialiser;
      }

  pub stands-ways : (w : Option Ways) → IfSome w (WaysBelow (length s.atoms)) → Stands (record s { ways = w })
  stands-ways w all =
      record {
        site = h.site;
        found = h.found;
        ways = all;
        wants = h.wants;
        constructors = h.constructors;
        calls = h.calls;
        choices = h.choices;
        matches = h.matches;
        units = h.units;
        initialiser = h.initialiser;
      }

  pub stands-wants : (ws : List (Option Shared)) → All (IfShared (TyBelow (length s.atoms))) ws → Stands (record s { wants = ws })
  stands-wants ws all =
      record {
        site = h.site;
        found = h.found;
        ways = h.ways;
        wants = all;
        constructors = h.constructors;
        calls = h.calls;
        choices = h.choices;
        matches = h.matches;
        units = h.units;
        initialiser = h.initialiser;
      }

  pub stands-constructors : (cs : List ConstructorAtWork) → All (ConstructorBelow (length s.atoms)) cs → Stands (record s { constructors = cs })
  stands-constructors cs all =
      record {
        site = h.site;
        found = h.found;
        ways = h.ways;
        wants = h.wants;
        constructors = all;
        calls = h.calls;
        choices = h.choices;
        matches = h.matches;
        units = h.units;
        initialiser = h.initialiser;
      }

  pub stands-calls : (cs : List CallAtWork) → All (CallBelow (length s.atoms)) cs → Stands (record s { calls = cs })
  stands-calls cs all =
      record {
        site = h.site;
        found = h.found;
        ways = h.ways;
        wants = h.wants;
        constructors = h.constructors;
        calls = all;
        choices = h.choices;
        matches = h.matches;
        units = h.units;
        initialiser = h.initialiser;
      }

  pub stands-choices : (cs : List ChoiceAtWork) → All (ChoiceBelow (length s.atoms)) cs → Stands (record s { choices = cs })
  stands-choices cs all =
      record {
        site = h.site;
        found = h.found;
        ways = h.ways;
        wants = h.wants;
        constructors = h.constructors;
        calls = h.calls;
        choices = all;
        matches = h.matches;
        units = h.units;
        initialiser = h.initialiser;
      }

  pub stands-matches : (ms : List MatchAtWork) → All (MatchBelow (length s.atoms)) ms → Stands (record s { matches = ms })
  stands-matches ms all =
      record {
        site = h.site;
        found = h.found;
        ways = h.ways;
        wants = h.wants;
        constructors = h.constructors;
        calls = h.calls;
        choices = h.choices;
        matches = all;
        units = h.units;
        initialiser = h.initialiser;
      }

  pub stands-units : (us : List UnitAtWork) → All (UnitBelow (length s.atoms)) us → Stands (record s { units = us })
  stands-units us all =
      record {
        site = h.site;
        found = h.found;
        ways = h.ways;
        wants = h.wants;
        constructors = h.constructors;
        calls = h.calls;
        choices = h.choices;
        matches = h.matches;
        units = all;
        initialiser = h.initialiser;
      }

  -- what has no types at hand
  pub stands-beside : (sorts : List Bool) (accesses : List Access) (blocks : List BlockAtWork) (done : Done)
      → Stands (record s { sorts = sorts; accesses = accesses; blocks = blocks; done = done })
  stands-beside sorts accesses blocks done =
      record {
        site = h.site;
        found = h.found;
        ways = h.ways;
        wants = h.wants;
        constructors = h.constructors;
        calls = h.calls;
        choices = h.choices;
        matches = h.matches;
        units = h.units;
        initialiser = h.initialiser;
      }
