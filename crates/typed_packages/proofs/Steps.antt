-- Definitions, files and modules, one behind another: between them nothing is open, what there is by now is the first part of what there is at the end, and all units of
-- functions and initialisers that are done are typed.
use Rattle.std.proofs.Common.{All, Bool, IfSome, List, None, Option, Some, [], ap, append-nil, map, refl, subst, suc, sym, ℕ, ◌++◌, ◌∙◌, ◌∷◌, ◌≡◌}
use Rattle.std.proofs.lemmas.List.Elements.{All-append, All-cons, All-head, All-nil, All-tail}
use Rattle.bal_tree.specs.declared.def.ConstDef.{ConstDef}
use Rattle.bal_tree.specs.declared.def.Def.TheVariants as def
use Rattle.bal_tree.specs.declared.def.Def.{Def}
use Rattle.bal_tree.specs.declared.def.FunctionDef.{FunctionDef}
use Rattle.bal_tree.specs.declared.def.VariableDef.{VariableDef}
use Rattle.bal_tree.specs.declared.package.Module.{Module}
use Rattle.bal_tree.specs.declared.package.SourceFile.{SourceFile}
use Rattle.bal_tree.specs.declared.types.TypeTree.{TypeTree}
use Rattle.std.specs.Global.{Box}
use Rattle.std.specs.Prelude.{nat_le}
use Rattle.check_laws.proofs.Still.{Still, still-asking, still-some, still-then}
use Rattle.check_laws.specs.FunctionLaws.{FunctionsEndWhole, IsAllSame}
use Rattle.check_words.proofs.Standing.{back-have, front-have}
use Rattle.check_words.specs.State.{BlockAtWork, InitialiserAtWork, MatchAtWork, State}
use Rattle.check_words.specs.Units.{IsInitialiser, constant_fits, ends_module, enters_file, keeps_initialiser}
use Rattle.checks.specs.Checks.{Gives, gives_some, ◌▷◌}
use Rattle.descriptors.specs.declared.names.Names.{Names}
use Rattle.eval_model.specs.Expressions.{nil_type}
use Rattle.expr_needs.specs.Needs.{EndsModule, EntersFile, IsConstant, Need}
use Rattle.needs.specs.Needs.{does, in_turn_from}
use Rattle.operations.specs.Rows.{Surroundings}
use Rattle.stmt_needs.specs.PackageTable.{def_needs, file_needs, function_needs, module_needs, module_needs_if, numbered_from, variable_needs}
use Rattle.tree_promises.specs.Placed.{Placed, begins_declared, function_placed, initialiser_placed, slot_types}
use Rattle.type_model.specs.Calls.{Asked}
use Rattle.type_model.specs.Inclusion.{Sub}
use Rattle.type_model.specs.declared.answers.TypeLimit.{TypeLimit}
use Rattle.type_model.specs.declared.atoms.AtomDef.{AtomDef}
use Rattle.typed_bodies.specs.Units.{units_of_clauses, units_of_stmts}
use Rattle.typed_definitions.proofs.Begun.{MoreAtoms, atoms-same}
use Rattle.typed_definitions.proofs.InitialValues.{fewer-atoms, rest-of}
use Rattle.typed_definitions.specs.Acting.{ActsOnItsOwn}
use Rattle.typed_definitions.specs.Functions.{AddsFunction, WholeFunctionIsTyped}
use Rattle.typed_definitions.specs.Initials.{InitialValueIsTyped, InitialiserIsFar, InitialiserIsKnown, IsAtRest, IsPartOf, UnitIsKnown, units_of_values, values_of}
use Rattle.typed_exprs.proofs.Steps.{parted}
use Rattle.typed_exprs.specs.Lines.{Run}
use Rattle.typed_needs.proofs.GoingStmts.{goes-constant}
use Rattle.typed_needs.specs.Between.{IsTypedUnit, IsUnitAt, units_in}
use Rattle.typed_needs.specs.Items.{AreFirst}
use Rattle.typed_needs.specs.Placing.{AreNamed}
use Rattle.typed_stmts.specs.Assigned.{TakeValues}
use Rattle.typed_packages.specs.Packages.{DefActs, FileActs, ModuleActs}
use Rattle.typed_tree.specs.Listed.{Listed, members, nothing, one, ◌&◌}
use Rattle.typed_tree.specs.SharedTypes.{sem_of}
use Rattle.typed_tree.specs.Units.{OfInitialiser}
use Rattle.typed_tree.specs.declared.expr.TypedExpr.{TypedExpr}
use Rattle.typed_tree.specs.declared.package.Initialiser.{Initialiser}
use Rattle.typed_tree.specs.declared.unit.TypedFunction.{TypedFunction}
use Rattle.typed_tree.specs.declared.unit.TypedUnit.{TypedUnit}
use Rattle.typed_trees.proofs.Leaving.{only-met}
use Rattle.typed_units.specs.Bodies.{AllBodiesMakeTyped, BodiesMakeTyped, InitialIsTyped}
use Rattle.typed_units.specs.Functions.{HasFunctions}

module _ (passes : List AtomDef → Asked → TypeLimit → Type 0) (names : Names) (env : List AtomDef) (place : Surroundings) where
  -- ---- functions and initialisers that are done

  abbrev pub FunctionIsAt : TypedFunction → Type 0
  FunctionIsAt f = All (IsUnitAt place) (members (function_placed f))

  abbrev pub InitialiserIsAt : Initialiser → Type 0
  InitialiserIsAt i = All (IsUnitAt place) (members (initialiser_placed i))

  abbrev pub FunctionIsTyped : TypedFunction → Type 0
  FunctionIsTyped f = All (IsTypedUnit env place) (members (function_placed f))

  abbrev pub InitialiserIsTyped : Initialiser → Type 0
  InitialiserIsTyped i = All (IsTypedUnit env place) (members (initialiser_placed i))

  pub record IsFar (s : State) : Type 0 where
    pub first : AreFirst env s.atoms
    pub functions : All FunctionIsAt s.done.functions
    pub initialisers : All InitialiserIsAt s.done.initialisers

  pub record IsKnown (s : State) : Type 0 where
    pub functions : All FunctionIsTyped s.done.functions
    pub initialisers : All InitialiserIsTyped s.done.initialisers

  -- ---- steps

  pub record Steps (old new : State) : Type 0 where
    pub rest : IsAtRest new
    pub far : IsFar new → IsFar old
    pub known : IsFar new → IsKnown old → IsKnown new
    pub initial_far : (u : Placed) → InitialiserIsFar env place u new → InitialiserIsFar env place u old
    pub initial_known : (u : Placed) → InitialiserIsFar env place u new → InitialiserIsKnown env place u old → InitialiserIsKnown env place u new

  steps-on : (r s t : State) → Steps r s → Steps s t → Steps r t
  steps-on r s t f g =
      record {
        rest = g.rest;
        far = λ h. f.far (g.far h);
        known = λ h k. g.known h (f.known (g.far h) k);
        initial_far = λ u h. f.initial_far u (g.initial_far u h);
        initial_known = λ u h k. g.initial_known u h (f.initial_known u (g.initial_far u h) k);
      }

  -- where atoms come and all else that is done stays
  steps-beside : (s t : State) → IsAtRest t → MoreAtoms s t → t.done.functions ≡ s.done.functions → t.done.initialisers ≡ s.done.initialisers → t.initialiser ≡ s.initialiser → Steps s t
  steps-beside s t rest more functions initialisers initialiser =
      record {
        rest = rest;
        far = λ h.
            record {
              first = fewer-atoms env s t more h.first;
              functions = subst (All FunctionIsAt) functions h.functions;
              initialisers = subst (All InitialiserIsAt) initialisers h.initialisers;
            };
        known = λ h k. record { functions = subst (All FunctionIsTyped) (sym functions) k.functions; initialisers = subst (All InitialiserIsTyped) (sym initialisers) k.initialisers };
        initial_far = λ u h.
            record {
              first = fewer-atoms env s t more h.first;
              part = subst (λ o. IfSome o (λ (i : InitialiserAtWork). IsPartOf u i.unit)) initialiser h.part;
              units = subst (λ o. All (IsUnitAt place) (units_of_values (values_of o))) initialiser h.units;
            };
        initial_known = λ u h k.
            record {
              unit = subst (λ o. IfSome o (λ (i : InitialiserAtWork). UnitIsKnown env place u i.unit)) (sym initialiser) k.unit;
              values = subst (λ o. All (InitialIsTyped env place u) (values_of o)) (sym initialiser) k.values;
              units = subst (λ o. All (IsTypedUnit env place) (units_of_values (values_of o))) (sym initialiser) k.units;
            };
      }

  steps-same : (s t : State) → IsAtRest s → t ≡ s → Steps s t
  steps-same s t rest e =
      steps-beside s t (subst (λ (x : State). IsAtRest x) (sym e) rest) (atoms-same s t (ap (λ (x : State). x.atoms) e)) (ap (λ (x : State). x.done.functions) e)
      (ap (λ (x : State). x.done.initialisers) e) (ap (λ (x : State). x.initialiser) e)

  -- ---- runs

  abbrev pub StepsOf : Listed Need → Type 0
  StepsOf needs = (old new : State) → IsAtRest old → Run passes names env needs old new → Steps old new

  none-steps : StepsOf nothing
  unfolding gives_some
  none-steps old new rest (is, same) = steps-same old new rest same

  both-step : (p q : Listed Need) → StepsOf p → StepsOf q → StepsOf (p & q)
  both-step p q f g old new rest run =
      let (m, a, b) = parted passes names env p q old new run in
      let s = f old m rest a in
      steps-on old m new s (g m new s.rest b)

  turn-steps : {X : Type 0} {C : X → Type 0} (f : X → Listed Need) → ((x : X) → C x → StepsOf (f x)) → (xs : List X) → All C xs → (start : Listed Need) → StepsOf start
      → StepsOf (in_turn_from start f xs)
  turn-steps f each [] all start begun = begun
  turn-steps {X} {C} f each (x ∷ xs) all start begun =
      turn-steps f each xs (All-tail C x xs all) (start & f x) (both-step start (f x) begun (each x (All-head C x xs all)))

  numbered-steps : {X : Type 0} {C : X → Type 0} (f : ℕ → X → Listed Need) → ((n : ℕ) (x : X) → C x → StepsOf (f n x)) → (xs : List X) → All C xs → (n : ℕ) (before : Listed Need)
      → StepsOf before → StepsOf (numbered_from before f n xs)
  numbered-steps f each [] all n before begun = begun
  numbered-steps {X} {C} f each (x ∷ xs) all n before begun =
      numbered-steps f each xs (All-tail C x xs all) (suc n) (before & f n x) (both-step before (f n x) begun (each n x (All-head C x xs all)))

  -- ---- constants and files

  pub constant-still : (tree : Option (Box TypeTree)) (d : ConstDef) → Still (constant_fits passes names tree d)
  constant-still None d = still-some _
  constant-still (Some tree) d =
      still-then _ _ (still-then _ _ (still-some _) (λ site. still-then _ _ (still-asking _) (λ t. still-some _))) (λ t. still-then _ _ (still-some _) (λ v. still-asking _))

  constant-steps : (d : ConstDef) → StepsOf (one (IsConstant d))
  constant-steps d old new rest run =
      let e : new ≡ record old { atoms = new.atoms } = constant-still d.ty d old new (Gives tt) run.0 in
      let g = goes-constant passes names d.ty d old new tt run.0 in
      steps-beside old new
      (rest-of old new rest (ap (λ (s : State). s.found) e) (ap (λ (s : State). s.blocks) e) (ap (λ (s : State). s.matches) e) (ap (λ (s : State). s.units) e) (ap (λ (s : State). s.site) e)
      (ap (λ (s : State). s.done.workers) e))
      (record { more = g.more; is = g.atoms }) (ap (λ (s : State). s.done.functions) e) (ap (λ (s : State). s.done.initialisers) e) (ap (λ (s : State). s.initialiser) e)

  file-entered : (m file : ℕ) → StepsOf (one (EntersFile m file))
  unfolding does
  file-entered m file old new rest run = by run.0
    where
      by : enters_file m file old (Gives tt) new → Steps old new
      by e =
          steps-beside old new
          (record {
            found = ap (λ (s : State). s.found) e ∙ rest.found;
            blocks = ap (λ (s : State). s.blocks) e ∙ rest.blocks;
            matches = ap (λ (s : State). s.matches) e ∙ rest.matches;
            units = ap (λ (s : State). s.units) e ∙ rest.units;
            results = ap (λ (s : State). s.site.results) e ∙ rest.results;
            workers = ap (λ (s : State). s.done.workers) e ∙ rest.workers;
          })
          (atoms-same old new (ap (λ (s : State). s.atoms) e)) (ap (λ (s : State). s.done.functions) e) (ap (λ (s : State). s.done.initialisers) e)
          (ap (λ (s : State). s.initialiser) e)

  module _ (bodies : AllBodiesMakeTyped) where
    -- ---- where a module ends

    -- its unit, as it is placed
    abbrev placed_of : Initialiser → Placed
    placed_of x = record { tree = record { unit = x.unit; body = OfInitialiser x.values.items }; captured = 0; known = begins_declared 0 x.unit; crew = [] }

    pub record ModuleEnded (old new : State) : Type 0 where
      pub rest : IsAtRest new
      pub initialiser : new.initialiser ≡ None
      pub atoms : new.atoms ≡ old.atoms
      pub functions : new.done.functions ≡ old.done.functions
      pub variables : new.done.variables ≡ old.done.variables
      pub more : List Initialiser
      pub initialisers : new.done.initialisers ≡ old.done.initialisers ++ more
      pub typed : AreFirst env old.atoms → All InitialiserIsAt more → ((u : Placed) → InitialiserIsFar env place u old → InitialiserIsKnown env place u old) → All InitialiserIsTyped more

    -- an initialiser is kept, where there is one
    abbrev Keeps : ℕ → Option InitialiserAtWork → State → State → Type 0
    Keeps m None s t = t ≡ s
    Keeps m (Some i) s t = (x : Initialiser) × IsInitialiser m i x × (t ≡ record s { done = record s.done { initialisers = s.done.initialisers ++ x ∷ [] } })

    keeps-so : (m : ℕ) (o : Option InitialiserAtWork) (s t : State) → keeps_initialiser m o s (Gives tt) t → Keeps m o s t
    unfolding ◌▷◌ gives_some does
    keeps-so m None s t (is, e) = e
    keeps-so m (Some i) s t (x, a, (is, ea), e) =
        (x, is, e ∙ ap (λ (r : State). record r { done = record r.done { initialisers = r.done.initialisers ++ x ∷ [] } }) ea)

    module _ (i : InitialiserAtWork) (m : ℕ) (x : Initialiser) (is : IsInitialiser m i x) (old : State) (at_work : old.initialiser ≡ Some i) (first : AreFirst env old.atoms)
        (there : InitialiserIsAt x) where
      abbrev u : Placed
      u = placed_of x

      far-here : InitialiserIsFar env place u old
      far-here =
          record {
            first = first;
            part = subst (λ o. IfSome o (λ (j : InitialiserAtWork). IsPartOf u j.unit)) (sym at_work)
                (record {
                  later = [];
                  slots = ap (λ (v : TypedUnit). slot_types v) is.1 ∙ sym (append-nil (map sem_of i.unit.slots));
                  result = ap (λ (v : TypedUnit). sem_of v.result) is.1;
                });
            units = subst (λ o. All (IsUnitAt place) (units_of_values (values_of o))) (sym at_work)
                (subst (λ vs. All (IsUnitAt place) (units_of_values vs)) is.2 (All-tail (IsUnitAt place) u (units_of_values x.values.items) there));
          }

      one-typed : InitialiserIsKnown env place u old → InitialiserIsTyped x
      one-typed k =
          let unit : UnitIsKnown env place u i.unit = subst (λ o. IfSome o (λ (j : InitialiserAtWork). UnitIsKnown env place u j.unit)) at_work k.unit in
          let values : All (InitialIsTyped env place u) i.values = subst (λ o. All (InitialIsTyped env place u) (values_of o)) at_work k.values in
          let units : All (IsTypedUnit env place) (units_of_values i.values) = subst (λ o. All (IsTypedUnit env place) (units_of_values (values_of o))) at_work k.units in
          let nil : Sub env nil_type (sem_of u.tree.unit.result) = subst (λ s. Sub env nil_type s) (sym (ap (λ (v : TypedUnit). sem_of v.result) is.1)) unit.nil in
          let b : BodiesMakeTyped env place u = bodies env place u in
          let own : IsTypedUnit env place u = b.initialiser x.values.items refl (subst (All (InitialIsTyped env place u)) (sym is.2) values) nil in
          All-cons (IsTypedUnit env place) u (units_of_values x.values.items) own (subst (λ vs. All (IsTypedUnit env place) (units_of_values vs)) (sym is.2) units)

    ended-by : (m : ℕ) (o : Option InitialiserAtWork) (old a b new : State) → IsAtRest old → o ≡ old.initialiser → a ≡ old → Keeps m o a b → new ≡ record b { initialiser = None }
        → ModuleEnded old new
    ended-by m None old a b new rest is ea eb e =
        let all : b ≡ old = eb ∙ ea in
        record {
          rest = rest-of old new rest (ap (λ (s : State). s.found) e ∙ ap (λ (s : State). s.found) all) (ap (λ (s : State). s.blocks) e ∙ ap (λ (s : State). s.blocks) all)
              (ap (λ (s : State). s.matches) e ∙ ap (λ (s : State). s.matches) all) (ap (λ (s : State). s.units) e ∙ ap (λ (s : State). s.units) all)
              (ap (λ (s : State). s.site) e ∙ ap (λ (s : State). s.site) all) (ap (λ (s : State). s.done.workers) e ∙ ap (λ (s : State). s.done.workers) all);
          initialiser = ap (λ (s : State). s.initialiser) e;
          atoms = ap (λ (s : State). s.atoms) e ∙ ap (λ (s : State). s.atoms) all;
          functions = ap (λ (s : State). s.done.functions) e ∙ ap (λ (s : State). s.done.functions) all;
          variables = ap (λ (s : State). s.done.variables) e ∙ ap (λ (s : State). s.done.variables) all;
          more = [];
          initialisers = ap (λ (s : State). s.done.initialisers) e ∙ ap (λ (s : State). s.done.initialisers) all ∙ sym (append-nil old.done.initialisers);
          typed = λ first at known. All-nil InitialiserIsTyped;
        }
    ended-by m (Some i) old a b new rest is ea (x, isx, eb) e =
        let all : b ≡ record old { done = record old.done { initialisers = old.done.initialisers ++ x ∷ [] } } =
        eb ∙ ap (λ (s : State). record s { done = record s.done { initialisers = s.done.initialisers ++ x ∷ [] } }) ea in
        record {
          rest = rest-of old new rest (ap (λ (s : State). s.found) e ∙ ap (λ (s : State). s.found) all) (ap (λ (s : State). s.blocks) e ∙ ap (λ (s : State). s.blocks) all)
              (ap (λ (s : State). s.matches) e ∙ ap (λ (s : State). s.matches) all) (ap (λ (s : State). s.units) e ∙ ap (λ (s : State). s.units) all)
              (ap (λ (s : State). s.site) e ∙ ap (λ (s : State). s.site) all) (ap (λ (s : State). s.done.workers) e ∙ ap (λ (s : State). s.done.workers) all);
          initialiser = ap (λ (s : State). s.initialiser) e;
          atoms = ap (λ (s : State). s.atoms) e ∙ ap (λ (s : State). s.atoms) all;
          functions = ap (λ (s : State). s.done.functions) e ∙ ap (λ (s : State). s.done.functions) all;
          variables = ap (λ (s : State). s.done.variables) e ∙ ap (λ (s : State). s.done.variables) all;
          more = x ∷ [];
          initialisers = ap (λ (s : State). s.done.initialisers) e ∙ ap (λ (s : State). s.done.initialisers) all;
          typed = λ first at known.
              let there : InitialiserIsAt x = All-head InitialiserIsAt x [] at in
              let far = far-here i m x isx old (sym is) first there in
              All-cons InitialiserIsTyped x [] (one-typed i m x isx old (sym is) first there (known (placed_of x) far)) (All-nil InitialiserIsTyped);
        }

    pub module-ended : (m : ℕ) (old new : State) → IsAtRest old → ends_module m old (Gives tt) new → ModuleEnded old new
    unfolding ◌▷◌ gives_some does
    module-ended m old new rest (o, a, (is, ea), (u, b, kept, e)) =
        ended-by m o old a b new rest is ea (keeps-so m o a b kept) e

  -- ---- functions and variables

  module _ (functions_law : WholeFunctionIsTyped passes names env place) (initials_law : InitialValueIsTyped passes names env place) (whole : FunctionsEndWhole passes) (bodies : AllBodiesMakeTyped)
      (named : AreNamed env names place) (takes : TakeValues env names place) where
    function-steps : (d : FunctionDef) → ActsOnItsOwn d → StepsOf (function_needs d)
    function-steps d acts old new rest run =
        let same : IsAllSame old new = whole names d old new (only-met passes names env (function_needs d) old new run) in
        let f = functions_law d old new run rest.workers in
        let more : MoreAtoms old new = record { more = f.more; is = f.atoms } in
        let has : IsFar new → HasFunctions passes names env place new =
        (λ far.
        record {
          first = far.first;
          parts = subst (λ (es : List TypedExpr). All (IsUnitAt place) (units_in es)) (sym (same.found ∙ rest.found)) (All-nil (IsUnitAt place));
          blocks = subst (All (λ (b : BlockAtWork). All (IsUnitAt place) (units_of_stmts b.stmts))) (sym (same.blocks ∙ rest.blocks)) (All-nil _);
          matches = subst (All (λ (m : MatchAtWork). All (IsUnitAt place) (units_of_clauses m.clauses))) (sym (same.matches ∙ rest.matches)) (All-nil _);
          functions = far.functions;
        }) in
        let initialiser : new.initialiser ≡ old.initialiser = same.initialiser in
        record {
          rest = record {
            found = same.found ∙ rest.found;
            blocks = same.blocks ∙ rest.blocks;
            matches = same.matches ∙ rest.matches;
            units = same.units ∙ rest.units;
            results = f.results;
            workers = f.workers;
          };
          far = λ h.
              record {
                first = fewer-atoms env old new more h.first;
                functions = front-have FunctionIsAt old.done.functions (f.function ∷ []) (subst (All FunctionIsAt) f.functions h.functions);
                initialisers = subst (All InitialiserIsAt) f.initialisers h.initialisers;
              };
          known = λ h k.
              record {
                functions = subst (All FunctionIsTyped) (sym f.functions)
                    (All-append FunctionIsTyped old.done.functions (f.function ∷ []) k.functions
                    (All-cons FunctionIsTyped f.function [] (f.units named takes (has h) acts) (All-nil FunctionIsTyped)));
                initialisers = subst (All InitialiserIsTyped) (sym f.initialisers) k.initialisers;
              };
          initial_far = λ u h.
              record {
                first = fewer-atoms env old new more h.first;
                part = subst (λ o. IfSome o (λ (i : InitialiserAtWork). IsPartOf u i.unit)) initialiser h.part;
                units = subst (λ o. All (IsUnitAt place) (units_of_values (values_of o))) initialiser h.units;
              };
          initial_known = λ u h k.
              record {
                unit = subst (λ o. IfSome o (λ (i : InitialiserAtWork). UnitIsKnown env place u i.unit)) (sym initialiser) k.unit;
                values = subst (λ o. All (InitialIsTyped env place u) (values_of o)) (sym initialiser) k.values;
                units = subst (λ o. All (IsTypedUnit env place) (units_of_values (values_of o))) (sym initialiser) k.units;
              };
        }

    variable-steps : (kept : Bool) (d : VariableDef) → StepsOf (variable_needs kept d)
    variable-steps kept d old new rest run =
        let v = initials_law d kept old new run rest in
        let more : MoreAtoms old new = record { more = v.more; is = v.atoms } in
        record {
          rest = v.rest;
          far = λ h.
              record {
                first = fewer-atoms env old new more h.first;
                functions = subst (All FunctionIsAt) v.functions h.functions;
                initialisers = subst (All InitialiserIsAt) v.initialisers h.initialisers;
              };
          known = λ h k. record { functions = subst (All FunctionIsTyped) (sym v.functions) k.functions; initialisers = subst (All InitialiserIsTyped) (sym v.initialisers) k.initialisers };
          initial_far = λ u h. v.far u h;
          initial_known = λ u h k. v.known named takes u h k;
        }

    def-steps : (kept : Bool) (x : Def) → DefActs x → StepsOf (def_needs kept x)
    def-steps kept (def.«Type» d) acts = none-steps
    def-steps kept (def.Const d) acts = constant-steps d
    def-steps kept (def.Variable d) acts = variable-steps kept d
    def-steps kept (def.Function d) acts = function-steps d acts

    file-steps : (kept : Bool) (m file : ℕ) (f : SourceFile) → FileActs f → StepsOf (file_needs kept m file f)
    file-steps kept m file f acts =
        both-step (one (EntersFile m file)) _ (file-entered m file) (turn-steps (def_needs kept) (def-steps kept) f.tree.defs.items acts nothing none-steps)

    -- ---- modules

    pub record ModuleSteps (old new : State) : Type 0 where
      pub rest : IsAtRest new
      pub initialiser : new.initialiser ≡ None
      pub far : IsFar new → IsFar old
      pub known : IsFar new → IsKnown old → IsKnown new

    none-known : (u : Placed) (s : State) → s.initialiser ≡ None → InitialiserIsKnown env place u s
    none-known u s e =
        record {
          unit = subst (λ o. IfSome o (λ (i : InitialiserAtWork). UnitIsKnown env place u i.unit)) (sym e) tt;
          values = subst (λ o. All (InitialIsTyped env place u) (values_of o)) (sym e) (All-nil _);
          units = subst (λ o. All (IsTypedUnit env place) (units_of_values (values_of o))) (sym e) (All-nil _);
        }

    module-steps : (kept : Bool) (m : ℕ) (d : Module) → ModuleActs d → (old new : State) → IsAtRest old → old.initialiser ≡ None → Run passes names env (module_needs_if kept m d) old new
        → ModuleSteps old new
    module-steps kept m d acts old new rest none run =
        let (t, ra, rb) = parted passes names env (numbered_from nothing (file_needs kept m) 0 d.files) (one (EndsModule m)) old new run in
        let s = numbered-steps (file_needs kept m) (file-steps kept m) d.files acts 0 nothing none-steps old t rest ra in
        let e = module-ended bodies m t new s.rest rb.0 in
        let far-t : IsFar new → IsFar t =
        (λ h.
        record {
          first = subst (AreFirst env) e.atoms h.first;
          functions = subst (All FunctionIsAt) e.functions h.functions;
          initialisers = front-have InitialiserIsAt t.done.initialisers e.more (subst (All InitialiserIsAt) e.initialisers h.initialisers);
        }) in
        record {
          rest = e.rest;
          initialiser = e.initialiser;
          far = λ h. s.far (far-t h);
          known = λ h k.
              let kt = s.known (far-t h) k in
              let here : All InitialiserIsAt e.more = back-have InitialiserIsAt t.done.initialisers e.more (subst (All InitialiserIsAt) e.initialisers h.initialisers) in
              record {
                functions = subst (All FunctionIsTyped) (sym e.functions) kt.functions;
                initialisers = subst (All InitialiserIsTyped) (sym e.initialisers)
                    (All-append InitialiserIsTyped t.done.initialisers e.more kt.initialisers
                    (e.typed (far-t h).first here (λ u far. s.initial_known u far (none-known u old none))));
              };
        }

    pub modules-steps : (main : ℕ) (ms : List Module) → All ModuleActs ms → (n : ℕ) (before : Listed Need)
        → ((old new : State) → IsAtRest old → old.initialiser ≡ None → Run passes names env before old new → ModuleSteps old new)
        → (old new : State) → IsAtRest old → old.initialiser ≡ None → Run passes names env (numbered_from before (module_needs main) n ms) old new → ModuleSteps old new
    modules-steps main [] acts n before begun = begun
    modules-steps main (d ∷ ms) acts n before begun =
        modules-steps main ms (All-tail ModuleActs d ms acts) (suc n) (before & module_needs main n d) (λ old new rest none run.
        let (t, ra, rb) = parted passes names env before (module_needs main n d) old new run in
        let f = begun old t rest none ra in
        let g = module-steps (nat_le n main) n d (All-head ModuleActs d ms acts) t new f.rest f.initialiser rb in
        record { rest = g.rest; initialiser = g.initialiser; far = λ h. f.far (g.far h); known = λ h k. g.known h (f.known (g.far h) k) })

    pub nothing-steps : (old new : State) → IsAtRest old → old.initialiser ≡ None → Run passes names env nothing old new → ModuleSteps old new
    unfolding gives_some
    nothing-steps old new rest none (is, same) =
        subst (λ (s : State). ModuleSteps old s) (sym same) (record { rest = rest; initialiser = none; far = λ h. h; known = λ h k. k })
