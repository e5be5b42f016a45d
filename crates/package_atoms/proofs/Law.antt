-- What is found where all needs of a package are met has types that name atoms that are there.
use Rattle.std.proofs.Common.{◌≡◌, ◌≤◌, ℕ, Bool, true, false, List, [], ◌∷◌, All, Option, None, Some, arith, length, subst, sym, ap}
use Rattle.std.specs.List.{flat_map}
use Rattle.std.specs.Prelude.{if◌then◌else◌}
use Rattle.std.proofs.lemmas.List.Elements.{All-append, All-cons, All-head, All-nil, All-tail, All-weaker}
use Rattle.bal_tree.specs.declared.package.Package.{Package}
use Rattle.checks.specs.Checks.{Gives, gives_some, ◌▷◌}
use Rattle.descriptors.specs.declared.names.Names.{Names}
use Rattle.descriptors.specs.Steps.{AreNames}
use Rattle.needs.specs.Needs.{all_met}
use Rattle.type_model.specs.declared.answers.TypeLimit.{TypeLimit}
use Rattle.type_model.specs.declared.atoms.AtomDef.{AtomDef}
use Rattle.type_model.specs.Calls.{Asked}
use Rattle.type_model.specs.Defined.{IsEnv, TyBelow}
use Rattle.type_model.proofs.DefinedLaws.{TyBelow-more}
use Rattle.typed_tree.specs.declared.package.Initialiser.{Initialiser}
use Rattle.typed_tree.specs.declared.package.TypedPackage.{TypedPackage}
use Rattle.typed_tree.specs.declared.unit.TypedFunction.{TypedFunction}
use Rattle.typed_tree.specs.Exprs.{type_of}
use Rattle.typed_tree.specs.Listed.{Listed, nothing, one, ◌&◌}
use Rattle.typed_tree.specs.SharedTypes.{Shared}
use Rattle.isolation_check.specs.Isolated.{function_promises, initialiser_promises, own_parts, parts_inside, promised_call}
use Rattle.isolation_check.specs.Parts.{Noted, function_parts, initialiser_parts}
use Rattle.isolation_check.specs.Typed.{AreTyped, OwnBelow, PartBelow}
use Rattle.isolation_check.proofs.Held.{FunctionHeld, InitialiserHeld, NotedBelow}
use Rattle.expr_needs.specs.Needs.{Need}
use Rattle.flow_narrowing.specs.declared.flow.Variable.{Variable}
use Rattle.flow_narrowing.specs.Flows.{IfShared, VariableBelow}
use Rattle.check_words.specs.Meets.{meets}
use Rattle.check_words.specs.Stands.{FlowBelow, PartBelow as TypeBelow, Stands, UnitBelow}
use Rattle.check_words.specs.State.{State}
use Rattle.package_checks.specs.Checked.{IsAtWork, at_first, checked_package, standing}
use Rattle.package_atoms.specs.Laws.{CheckedPackagesAreTyped}
use Rattle.package_atoms.proofs.EachNeed.{need-kept}
use Rattle.package_atoms.proofs.Keeping.{core}
use Rattle.package_atoms.proofs.Words.{AtHand, Held, VariableHeld}

-- ---- where needs are met one behind another

module _ (m n : ℕ) (le : m ≤ n) where
  shared-more : (t : Shared) → TyBelow m t.value → TyBelow n t.value
  shared-more t h = TyBelow-more m n le t.value h

  if-more : (t : Option Shared) → IfShared (TyBelow m) t → IfShared (TyBelow n) t
  if-more None h = tt
  if-more (Some t) h = shared-more t h

  variable-more : (v : Variable) → VariableBelow m v → VariableBelow n v
  variable-more v h = record { declared = shared-more v.declared h.declared; narrowed = if-more v.narrowed h.narrowed }

-- what stands has types at hand that name atoms that are there at the end
at-hand : (s : State) (n : ℕ) → length s.atoms ≤ n → Stands s → AtHand n (core s)
at-hand s n le h =
    record {
      found = All-weaker (TypeBelow (length s.atoms)) (TypeBelow n) (λ e. shared-more (length s.atoms) n le (type_of e)) s.found h.found;
      wants = All-weaker (IfShared (TyBelow (length s.atoms))) (IfShared (TyBelow n)) (if-more (length s.atoms) n le) s.wants h.wants;
      flows = All-weaker (UnitBelow (length s.atoms)) (λ u. FlowBelow n u.flow)
          (λ u k. All-weaker (VariableBelow (length s.atoms)) (VariableBelow n) (variable-more (length s.atoms) n le) u.flow.variables k.flow) s.units h.units;
    }

module _ (passes : List AtomDef → Asked → TypeLimit → Type 0) (names : Names) where
  -- what is kept over a run
  record Kept (n : ℕ) (old new : State) : Type 0 where
    grows : length old.atoms ≤ length new.atoms
    held : length new.atoms ≤ n → IsAtWork names old → Held n (core old) → IsAtWork names new × Held n (core new)

  one-kept : (n : ℕ) (need : Need) (old new : State) → standing names (meets passes names) need old (Gives tt) new → Kept n old new
  one-kept n need old new (met, stays) =
      let p = (need-kept n passes names need).run old new tt met in
      record { grows = p.0; held = λ le work held. (stays work, (p.1 tt (held, at-hand old n (omega (arith, p.0, le)) work.stands)).0) }

  all-kept : (n : ℕ) (needs : Listed Need) (old new : State) → all_met (standing names (meets passes names)) needs old (Gives tt) new → Kept n old new
  unfolding ◌▷◌ gives_some
  all-kept n nothing old new (x, e) = subst (Kept n old) (sym e) (record { grows = omega arith; held = λ le work held. (work, held) })
  all-kept n (one need) old new x = one-kept n need old new x
  all-kept n (p & q) old new (u, mid, x, y) =
      let f = all-kept n p old mid x in
      let g = all-kept n q mid new y in
      record {
        grows = omega (arith, f.grows, g.grows);
        held = λ le work held. let h = f.held (omega (arith, g.grows, le)) work held in g.held le h.0 h.1;
      }

-- ---- what isolation looks at

module _ (n : ℕ) where
  own-below : (l : Listed Noted) → NotedBelow n l → All (PartBelow n) (own_parts l)
  own-below nothing h = All-nil (PartBelow n)
  own-below (one x) h = by x.anonymous
    where
      by : (anonymous : Bool) → All (PartBelow n) (if anonymous then [] else x.part ∷ [])
      by true = All-nil (PartBelow n)
      by false = All-cons (PartBelow n) x.part [] h (All-nil (PartBelow n))
  own-below (p & q) h = All-append (PartBelow n) (own_parts p) (own_parts q) (own-below p h.0) (own-below q h.1)

  inside-below : (l : Listed Noted) → NotedBelow n l → All (PartBelow n) (parts_inside l)
  inside-below nothing h = All-nil (PartBelow n)
  inside-below (one x) h = by x.anonymous
    where
      by : (anonymous : Bool) → All (PartBelow n) (if anonymous then x.part ∷ [] else [])
      by true = All-cons (PartBelow n) x.part [] h (All-nil (PartBelow n))
      by false = All-nil (PartBelow n)
  inside-below (p & q) h = All-append (PartBelow n) (parts_inside p) (parts_inside q) (inside-below p h.0) (inside-below q h.1)

  promise-below : (isolated : Bool) (f : TypedFunction) → All (PartBelow n) (promised_call isolated f)
  promise-below true f = All-cons (PartBelow n) _ [] tt (All-nil (PartBelow n))
  promise-below false f = All-nil (PartBelow n)

  own-held : (f : TypedFunction) → FunctionHeld n f → OwnBelow n f
  unfolding FunctionHeld
  own-held f h = own-below (function_parts f) h

  functions-promise : (fs : List TypedFunction) → All (FunctionHeld n) fs → All (PartBelow n) (flat_map function_promises fs)
  unfolding FunctionHeld
  functions-promise [] h = All-nil (PartBelow n)
  functions-promise (f ∷ fs) h =
      All-append (PartBelow n) (function_promises f) (flat_map function_promises fs)
      (All-append (PartBelow n) (promised_call f.isolated f) (parts_inside (function_parts f)) (promise-below f.isolated f)
      (inside-below (function_parts f) (All-head (FunctionHeld n) f fs h)))
      (functions-promise fs (All-tail (FunctionHeld n) f fs h))

  initialisers-promise : (is : List Initialiser) → All (InitialiserHeld n) is → All (PartBelow n) (flat_map initialiser_promises is)
  unfolding InitialiserHeld
  initialisers-promise [] h = All-nil (PartBelow n)
  initialisers-promise (i ∷ is) h =
      All-append (PartBelow n) (initialiser_promises i) (flat_map initialiser_promises is) (inside-below (initialiser_parts i) (All-head (InitialiserHeld n) i is h))
      (initialisers-promise is (All-tail (InitialiserHeld n) i is h))

  pub are-typed : (s : State) (t : TypedPackage) → t.functions.items ≡ s.done.functions → t.variables.items ≡ s.done.variables
      → t.initialisers.items ≡ s.done.initialisers → Held n (core s) → AreTyped n t
  unfolding Held
  are-typed s t functions variables initialisers h =
      let fs : All (FunctionHeld n) t.functions.items = subst (All (FunctionHeld n)) (sym functions) h.5.0 in
      let is : All (InitialiserHeld n) t.initialisers.items = subst (All (InitialiserHeld n)) (sym initialisers) h.5.3 in
      record {
        variables = subst (All (VariableHeld n)) (sym variables) h.5.2;
        functions = All-weaker (FunctionHeld n) (OwnBelow n) own-held t.functions.items fs;
        promised = All-append (PartBelow n) (flat_map function_promises t.functions.items) (flat_map initialiser_promises t.initialisers.items)
            (functions-promise t.functions.items fs) (initialisers-promise t.initialisers.items is);
      }

-- ---- the law

nothing-found : (n : ℕ) (env : List AtomDef) (p : Package) → Held n (core (at_first env p))
unfolding Held
nothing-found n env p = (All-nil _, All-nil _, All-nil _, All-nil _, tt, (All-nil _, All-nil _, All-nil _, All-nil _))

begins : (env : List AtomDef) (p : Package) (names : Names) → IsEnv env → AreNames env names → IsAtWork names (at_first env p)
begins env p names is named =
    record {
      env = is;
      named = named;
      stands = record {
        site = All-nil _;
        found = All-nil _;
        ways = tt;
        wants = All-nil _;
        constructors = All-nil _;
        calls = All-nil _;
        choices = All-nil _;
        matches = All-nil _;
        units = All-nil _;
        initialiser = tt;
      };
    }

pub checked-packages-are-typed : (passes : List AtomDef → Asked → TypeLimit → Type 0) → CheckedPackagesAreTyped passes
unfolding checked_package
checked-packages-are-typed passes names p old t new env named (s, met, typed, is) =
    let n : ℕ = length s.atoms in
    let run = all-kept passes names n _ (at_first old p) s met in
    let held = (run.held (omega arith) (begins old p names env named) (nothing-found n old p)).1 in
    record {
      grows = omega (arith, run.grows, ap length is);
      typed = subst (λ (k : List AtomDef). AreTyped (length k) t) (sym is) (are-typed n s t typed.functions typed.variables typed.initialisers held);
    }
