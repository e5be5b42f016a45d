-- Checked packages: from where a check begins to where it ends.
use Rattle.std.proofs.Common.{All, List, [], append-nil, map, refl, subst, sym, ◌∙◌, ◌≡◌}
use Rattle.std.proofs.lemmas.List.Elements.{All-append, All-nil}
use Rattle.bal_tree.specs.declared.package.Package.{Package}
use Rattle.check_laws.specs.FunctionLaws.{FunctionsEndWhole}
use Rattle.check_words.proofs.Standing.{back-have, front-have}
use Rattle.check_words.specs.Meets.{meets}
use Rattle.check_words.specs.Stands.{Stands}
use Rattle.check_words.specs.State.{State}
use Rattle.checks.specs.Checks.{Gives, gives_some, ◌▷◌}
use Rattle.descriptors.specs.Steps.{AreNames}
use Rattle.descriptors.specs.declared.names.Names.{Names}
use Rattle.expr_needs.specs.Needs.{Need}
use Rattle.needs.specs.Needs.{all_met}
use Rattle.operations.specs.Rows.{Surroundings}
use Rattle.package_checks.specs.Checked.{IsAtWork, IsTyped, at_first, checked_package, standing}
use Rattle.stmt_needs.specs.PackageTable.{package_needs}
use Rattle.tree_promises.specs.Placed.{Placed, function_placed, initialiser_placed, placed_units}
use Rattle.type_model.specs.Calls.{Asked}
use Rattle.type_model.specs.Defined.{IsEnv}
use Rattle.type_model.specs.declared.answers.TypeLimit.{TypeLimit}
use Rattle.type_model.specs.declared.atoms.AtomDef.{AtomDef}
use Rattle.typed_definitions.proofs.Joined.{joined-each, joined-of}
use Rattle.typed_definitions.specs.Functions.{AllWholeFunctionsAreTyped}
use Rattle.typed_definitions.specs.Initials.{AllInitialValuesAreTyped, IsAtRest}
use Rattle.typed_exprs.specs.Lines.{Run}
use Rattle.typed_needs.specs.Between.{IsTypedUnit, IsUnitAt}
use Rattle.name_resolution.specs.Definitions.{definitions_of}
use Rattle.std.specs.List.{AllZip}
use Rattle.tree_promises.specs.WellTyped.{AreNumbered}
use Rattle.typed_packages.proofs.Covered.{all-covered}
use Rattle.typed_packages.proofs.Numbered.{units-are-there}
use Rattle.typed_tree.specs.Units.{units_of}
use Rattle.unit_crews.specs.Laws.{PlacedUnitsAreCrewed}
use Rattle.typed_packages.proofs.Named.{are-named, take-values}
use Rattle.typed_packages.proofs.Tracking.{IsFunctionDone, IsVariableDone, all-tracked}
use Rattle.typed_packages.specs.Naming.{NamedUnitsAreTyped, NamesLead, RestsAreLists, functions_among, variables_among}
use Rattle.typed_packages.proofs.Steps.{FunctionIsAt, FunctionIsTyped, InitialiserIsAt, InitialiserIsTyped, IsFar, IsKnown, modules-steps, nothing-steps}
use Rattle.typed_packages.specs.Packages.{CheckedUnitsAreTyped, HasTypes, LeadsThere, PackageActs, place_in}
use Rattle.typed_tree.specs.Listed.{Listed, joined, members, nothing, one, ◌&◌}
use Rattle.typed_tree.specs.declared.package.TypedPackage.{TypedPackage}
use Rattle.typed_units.specs.Bodies.{AllBodiesMakeTyped}

module _ (passes : List AtomDef → Asked → TypeLimit → Type 0) (names : Names) where
  -- a run of the check of a package, between whose needs what is at hand stands
  run-of : (env : List AtomDef) (needs : Listed Need) (old new : State) → IsAtWork names old → all_met (standing names (meets passes names)) needs old (Gives tt) new
      → Run passes names env needs old new × IsAtWork names new
  unfolding ◌▷◌ gives_some
  run-of env nothing old new h (is, same) = ((is, same), subst (λ (s : State). IsAtWork names s) (sym same) h)
  run-of env (one n) old new h (met, stays) = let k : IsAtWork names new = stays h in ((met, record { env = k.env; stands = k.stands }), k)
  run-of env (p & q) old new h (u, mid, a, b) =
      let (x, k) = run-of env p old mid h a in
      let (y, l) = run-of env q mid new k b in
      ((tt, mid, x, y), l)

  at-work : (env : List AtomDef) (p : Package) → IsEnv env → AreNames env names → IsAtWork names (at_first env p)
  at-work env p is_env are_names =
      record {
        env = is_env;
        stands = record {
          site = All-nil _;
          found = All-nil _;
          ways = tt;
          wants = All-nil _;
          constructors = All-nil _;
          calls = All-nil _;
          choices = All-nil _;
          matches = All-nil _;
          units = All-nil _;
          initialiser = tt;
        };
        named = are_names;
      }

  at-rest : (env : List AtomDef) (p : Package) → IsAtRest (at_first env p)
  at-rest env p = record { found = refl; blocks = refl; matches = refl; units = refl; results = refl; workers = refl }

  module _ (functions_law : AllWholeFunctionsAreTyped passes) (initials_law : AllInitialValuesAreTyped passes) (whole : FunctionsEndWhole passes) (bodies : AllBodiesMakeTyped) where
    units-typed : (p : Package) (old new : List AtomDef) (t : TypedPackage) (s : State) → IsEnv old → AreNames old names
        → all_met (standing names (meets passes names)) (package_needs p) (at_first old p) (Gives tt) s → IsTyped names p s t → new ≡ s.atoms → LeadsThere new names t → PackageActs p
        → All (HasTypes new t) (placed_units t)
    units-typed p old new t s is_env are_names met is_typed atoms leads acts =
        let place : Surroundings = place_in t in
        let (run, work) = run-of new (package_needs p) (at_first old p) s (at-work old p is_env are_names) met in
        let steps = modules-steps passes names new place (functions_law names new place) (initials_law names new place) whole bodies leads.named leads.takes p.main p.modules
        acts 0 nothing (nothing-steps passes names new place (functions_law names new place) (initials_law names new place) whole bodies leads.named leads.takes)
        (at_first old p) s (at-rest old p) refl run in
        let functions-at : All (FunctionIsAt passes names new place) t.functions.items =
        joined-each (IsUnitAt place) function_placed t.functions.items
        (front-have (IsUnitAt place) (members (joined (map function_placed t.functions.items))) (members (joined (map initialiser_placed t.initialisers.items))) leads.units) in
        let initialisers-at : All (InitialiserIsAt passes names new place) t.initialisers.items =
        joined-each (IsUnitAt place) initialiser_placed t.initialisers.items
        (back-have (IsUnitAt place) (members (joined (map function_placed t.functions.items))) (members (joined (map initialiser_placed t.initialisers.items))) leads.units) in
        let far : IsFar passes names new place s =
        record {
          first = ([], atoms ∙ sym (append-nil s.atoms));
          functions = subst (All (FunctionIsAt passes names new place)) is_typed.functions functions-at;
          initialisers = subst (All (InitialiserIsAt passes names new place)) is_typed.initialisers initialisers-at;
        } in
        let known : IsKnown passes names new place s =
        steps.known far (record { functions = All-nil (FunctionIsTyped passes names new place); initialisers = All-nil (InitialiserIsTyped passes names new place) }) in
        All-append (IsTypedUnit new place) (members (joined (map function_placed t.functions.items))) (members (joined (map initialiser_placed t.initialisers.items)))
        (joined-of (IsTypedUnit new place) function_placed t.functions.items (subst (All (FunctionIsTyped passes names new place)) (sym is_typed.functions) known.functions))
        (joined-of (IsTypedUnit new place) initialiser_placed t.initialisers.items (subst (All (InitialiserIsTyped passes names new place)) (sym is_typed.initialisers) known.initialisers))

    -- what is done of the package is what its definitions say
    definitions-are-done : (p : Package) (old new : List AtomDef) (t : TypedPackage) (s : State) (place : Surroundings) → IsEnv old → AreNames old names
        → all_met (standing names (meets passes names)) (package_needs p) (at_first old p) (Gives tt) s → IsTyped names p s t
        → AllZip (IsVariableDone names) (variables_among (definitions_of p)) t.variables.items × AllZip (IsFunctionDone new names) (functions_among (definitions_of p)) t.functions.items
    definitions-are-done p old new t s place is_env are_names met is_typed =
        let (run, work) = run-of new (package_needs p) (at_first old p) s (at-work old p is_env are_names) met in
        let d = all-tracked passes names new place (functions_law names new place) (initials_law names new place) whole bodies p.main p.modules (at_first old p) s (at-rest old p) run in (
          subst (AllZip (IsVariableDone names) (variables_among (definitions_of p))) (sym (is_typed.variables ∙ d.variables)) d.variables_done,
          subst (AllZip (IsFunctionDone new names) (functions_among (definitions_of p))) (sym (is_typed.functions ∙ d.functions)) d.functions_done,
        )

    named-units : (p : Package) (old new : List AtomDef) (t : TypedPackage) (s : State) → IsEnv old → AreNames old names
        → all_met (standing names (meets passes names)) (package_needs p) (at_first old p) (Gives tt) s → IsTyped names p s t → new ≡ s.atoms → NamesLead names p → RestsAreLists new names
        → All (IsUnitAt (place_in t)) (placed_units t) → PackageActs p → All (HasTypes new t) (placed_units t)
    named-units p old new t s is_env are_names met is_typed atoms leads rests units acts =
        let (variables, functions) = definitions-are-done p old new t s (place_in t) is_env are_names met is_typed in
        let functions-at : All (λ f. All (IsUnitAt (place_in t)) (members (function_placed f))) t.functions.items =
        joined-each (IsUnitAt (place_in t)) function_placed t.functions.items
        (front-have (IsUnitAt (place_in t)) (members (joined (map function_placed t.functions.items))) (members (joined (map initialiser_placed t.initialisers.items))) units) in
        units-typed p old new t s is_env are_names met is_typed atoms
        (record {
          units = units;
          named = are-named new names p t leads rests variables functions functions-at;
          takes = take-values new names p t leads rests variables functions functions-at;
        }) acts

pub checked-units-are-typed : (passes : List AtomDef → Asked → TypeLimit → Type 0) → AllWholeFunctionsAreTyped passes → AllInitialValuesAreTyped passes → FunctionsEndWhole passes
    → AllBodiesMakeTyped → CheckedUnitsAreTyped passes
unfolding checked_package
checked-units-are-typed passes functions_law initials_law whole bodies names p old t new is_env are_names (s, met, is_typed, atoms) leads acts =
    units-typed passes names functions_law initials_law whole bodies p old new t s is_env are_names met is_typed atoms leads acts

pub named-units-are-typed : (passes : List AtomDef → Asked → TypeLimit → Type 0) → AllWholeFunctionsAreTyped passes → AllInitialValuesAreTyped passes → FunctionsEndWhole passes
    → AllBodiesMakeTyped → PlacedUnitsAreCrewed → NamedUnitsAreTyped passes
unfolding checked_package
named-units-are-typed passes functions_law initials_law whole bodies crews names p old t new is_env are_names (s, met, is_typed, atoms) leads rests numbered acts =
    let covered : map (λ (u : Placed). u.tree) (placed_units t) ≡ units_of t = all-covered crews t in
    record {
      covered = covered;
      units = named-units passes names functions_law initials_law whole bodies p old new t s is_env are_names met is_typed atoms leads rests (units-are-there new t covered numbered) acts;
    }
