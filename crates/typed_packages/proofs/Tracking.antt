-- What is done of a package, definition by definition: each variable is of the type that its name stands for, and each function is the unit of its signature.
use Rattle.std.proofs.Common.{Bool, List, None, Option, Some, [], ap, append-nil, append_assoc, map, refl, subst, suc, sym, ℕ, ◌++◌, ◌∙◌, ◌∷◌, ◌≡◌}
use Rattle.std.specs.List.{AllZip}
use Rattle.std.specs.Prelude.{nat_le}
use Rattle.bal_tree.specs.declared.def.Def.TheVariants as def
use Rattle.bal_tree.specs.declared.def.Def.{Def}
use Rattle.bal_tree.specs.declared.def.FunctionDef.{FunctionDef}
use Rattle.bal_tree.specs.declared.def.VariableDef.{VariableDef}
use Rattle.bal_tree.specs.declared.package.Module.{Module}
use Rattle.bal_tree.specs.declared.package.SourceFile.{SourceFile}
use Rattle.check_laws.specs.FunctionLaws.{FunctionsEndWhole, IsAllSame}
use Rattle.check_words.specs.State.{State}
use Rattle.check_words.specs.Units.{enters_file, signature_in}
use Rattle.checks.specs.Checks.{Gives, gives_some}
use Rattle.descriptors.specs.Described.{IsCopy}
use Rattle.descriptors.specs.Naming.{entry_in}
use Rattle.descriptors.specs.declared.names.Entry.{Entry}
use Rattle.descriptors.specs.declared.names.Meaning.TheVariants as meaning
use Rattle.descriptors.specs.declared.names.Meaning.{Meaning}
use Rattle.descriptors.specs.declared.names.Names.{Names}
use Rattle.descriptors.specs.declared.names.Scope.{Scope}
use Rattle.descriptors.specs.declared.names.Signature.{Signature}
use Rattle.expr_needs.specs.Needs.{EndsModule, EntersFile, Need}
use Rattle.name_resolution.specs.Definitions.{Placed as Definition, in_files, in_modules, placed}
use Rattle.needs.specs.Needs.{does, in_turn_from}
use Rattle.operations.specs.Rows.{Surroundings}
use Rattle.stmt_needs.specs.PackageTable.{def_needs, file_needs, function_needs, module_needs, module_needs_if, numbered_from}
use Rattle.tree_promises.specs.Placed.{signature_of}
use Rattle.type_model.specs.Calls.{Asked}
use Rattle.type_model.specs.declared.answers.TypeLimit.{TypeLimit}
use Rattle.type_model.specs.declared.atoms.AtomDef.{AtomDef}
use Rattle.type_model.specs.declared.basic.Ty.{Ty}
use Rattle.typed_definitions.proofs.InitialValues.{rest-of}
use Rattle.typed_definitions.specs.Functions.{IsUnitBy, WholeFunctionIsTyped}
use Rattle.typed_definitions.specs.Initials.{InitialValueIsTyped, IsAtRest}
use Rattle.typed_exprs.proofs.Steps.{parted}
use Rattle.typed_exprs.specs.Lines.{Run}
use Rattle.typed_packages.proofs.Steps.{constant-still, module-ended}
use Rattle.typed_packages.specs.Naming.{function_of, functions_among, variable_of, variables_among}
use Rattle.typed_tree.specs.Listed.{Listed, nothing, one, ◌&◌}
use Rattle.typed_tree.specs.declared.package.ModuleVariable.{ModuleVariable}
use Rattle.typed_tree.specs.declared.unit.TypedFunction.{TypedFunction}
use Rattle.typed_trees.proofs.Leaving.{only-met}
use Rattle.typed_units.specs.Bodies.{AllBodiesMakeTyped}
use Rattle.typed_units.specs.Functions.{unit_of_function}

-- ---- what is done for one definition

pub record IsVariableDone (names : Names) (x : ℕ × VariableDef) (v : ModuleVariable) : Type 0 where
  pub entry : Entry
  pub number : ℕ
  pub final : Bool
  pub type : Ty
  pub there : entry_in names x.1.name.name x.0 ≡ Some entry
  pub means : entry.meaning ≡ meaning.Variable number final type
  pub copied : IsCopy type v.ty.value

pub record IsFunctionDone (env : List AtomDef) (names : Names) (x : ℕ × FunctionDef) (f : TypedFunction) : Type 0 where
  pub entry : Entry
  pub signature : Signature
  pub there : entry_in names x.1.name.name x.0 ≡ Some entry
  pub means : entry.meaning ≡ meaning.Function signature
  pub number : f.unit.number ≡ signature.unit
  pub fits : IsUnitBy env signature (signature_of (Some (unit_of_function f)))

record Signed (o : Option Entry) (s : Signature) : Type 0 where
  pub entry : Entry
  pub there : o ≡ Some entry
  pub means : entry.meaning ≡ meaning.Function s

signed-by : (o : Option Entry) (s : Signature) → signature_in o ≡ s ∷ [] → Signed o s
signed-by None s e = absurd (let bad : ⊥ = cc in bad)
signed-by (Some x) s e = by x.meaning refl
  where
    by : (m : Meaning) → x.meaning ≡ m → Signed (Some x) s
    by (meaning.Function f) is =
        let one : f ≡ s = cc in
        record { entry = x; there = refl; means = is ∙ ap (λ (g : Signature). meaning.Function g) one }
    by (meaning.TypeName t) is = absurd (let bad : ⊥ = cc in bad)
    by (meaning.Constant t) is = absurd (let bad : ⊥ = cc in bad)
    by (meaning.Variable number final t) is = absurd (let bad : ⊥ = cc in bad)

-- ---- lists

zip-append : {A B : Type 0} (P : A → B → Type 0) (xs zs : List A) (ys ws : List B) → AllZip P xs ys → AllZip P zs ws → AllZip P (xs ++ zs) (ys ++ ws)
zip-append P [] zs [] ws h k = k
zip-append P (x ∷ xs) zs (y ∷ ys) ws h k = (h.0, zip-append P xs zs ys ws h.1 k)
zip-append P [] zs (y ∷ ys) ws h k = absurd h
zip-append P (x ∷ xs) zs [] ws h k = absurd h

pub variables-append : (xs ys : List Definition) → variables_among (xs ++ ys) ≡ variables_among xs ++ variables_among ys
variables-append [] ys = refl
variables-append (x ∷ xs) ys =
    ap (λ l. variable_of x.«module» x.def ++ l) (variables-append xs ys) ∙ sym (append_assoc (variable_of x.«module» x.def) (variables_among xs) (variables_among ys))

pub functions-append : (xs ys : List Definition) → functions_among (xs ++ ys) ≡ functions_among xs ++ functions_among ys
functions-append [] ys = refl
functions-append (x ∷ xs) ys =
    ap (λ l. function_of x.«module» x.def ++ l) (functions-append xs ys) ∙ sym (append_assoc (function_of x.«module» x.def) (functions_among xs) (functions_among ys))

-- ---- what is done for some definitions

module _ (passes : List AtomDef → Asked → TypeLimit → Type 0) (names : Names) (env : List AtomDef) (place : Surroundings) where
  pub record Tracked (ds : List Definition) (old new : State) : Type 0 where
    pub rest : IsAtRest new
    pub vs : List ModuleVariable
    pub fs : List TypedFunction
    pub variables : new.done.variables ≡ old.done.variables ++ vs
    pub functions : new.done.functions ≡ old.done.functions ++ fs
    pub variables_done : AllZip (IsVariableDone names) (variables_among ds) vs
    pub functions_done : AllZip (IsFunctionDone env names) (functions_among ds) fs

  tracked-on : (ds es : List Definition) (r s t : State) → Tracked ds r s → Tracked es s t → Tracked (ds ++ es) r t
  tracked-on ds es r s t f g =
      record {
        rest = g.rest;
        vs = f.vs ++ g.vs;
        fs = f.fs ++ g.fs;
        variables = g.variables ∙ ap (λ l. l ++ g.vs) f.variables ∙ append_assoc r.done.variables f.vs g.vs;
        functions = g.functions ∙ ap (λ l. l ++ g.fs) f.functions ∙ append_assoc r.done.functions f.fs g.fs;
        variables_done = subst (λ l. AllZip (IsVariableDone names) l (f.vs ++ g.vs)) (sym (variables-append ds es))
            (zip-append (IsVariableDone names) (variables_among ds) (variables_among es) f.vs g.vs f.variables_done g.variables_done);
        functions_done = subst (λ l. AllZip (IsFunctionDone env names) l (f.fs ++ g.fs)) (sym (functions-append ds es))
            (zip-append (IsFunctionDone env names) (functions_among ds) (functions_among es) f.fs g.fs f.functions_done g.functions_done);
      }

  -- where nothing is done
  tracked-none : (ds : List Definition) (s t : State) → variables_among ds ≡ [] → functions_among ds ≡ [] → IsAtRest t → t.done.variables ≡ s.done.variables
      → t.done.functions ≡ s.done.functions → Tracked ds s t
  tracked-none ds s t no_variables no_functions rest variables functions =
      record {
        rest = rest;
        vs = [];
        fs = [];
        variables = variables ∙ sym (append-nil s.done.variables);
        functions = functions ∙ sym (append-nil s.done.functions);
        variables_done = subst (λ l. AllZip (IsVariableDone names) l []) (sym no_variables) tt;
        functions_done = subst (λ l. AllZip (IsFunctionDone env names) l []) (sym no_functions) tt;
      }

  module _ (functions_law : WholeFunctionIsTyped passes names env place) (initials_law : InitialValueIsTyped passes names env place) (whole : FunctionsEndWhole passes) (bodies : AllBodiesMakeTyped) where
    abbrev InModule : ℕ → List Definition → State → State → Type 0
    InModule m ds old new = Tracked ds old new × (new.site.scope.«module» ≡ m)

    def-tracked : (kept : Bool) (m file : ℕ) (x : Def) (old new : State) → IsAtRest old → old.site.scope.«module» ≡ m → Run passes names env (def_needs kept x) old new
        → InModule m (placed m file x ∷ []) old new
    unfolding gives_some
    def-tracked kept m file (def.«Type» d) old new rest here (is, same) = (
      tracked-none (placed m file (def.«Type» d) ∷ []) old new refl refl (subst (λ (s : State). IsAtRest s) (sym same) rest) (ap (λ (s : State). s.done.variables) same)
          (ap (λ (s : State). s.done.functions) same),
      ap (λ (s : State). s.site.scope.«module») same ∙ here,
    )
    def-tracked kept m file (def.Const d) old new rest here run =
        let e : new ≡ record old { atoms = new.atoms } = constant-still passes names env place d.ty d old new (Gives tt) run.0 in (
          tracked-none (placed m file (def.Const d) ∷ []) old new refl refl
              (rest-of old new rest (ap (λ (s : State). s.found) e) (ap (λ (s : State). s.blocks) e) (ap (λ (s : State). s.matches) e) (ap (λ (s : State). s.units) e)
              (ap (λ (s : State). s.site) e) (ap (λ (s : State). s.done.workers) e)) (ap (λ (s : State). s.done.variables) e) (ap (λ (s : State). s.done.functions) e),
          ap (λ (s : State). s.site.scope.«module») e ∙ here,
        )
    def-tracked kept m file (def.Variable d) old new rest here run =
        let v = initials_law d kept old new run rest in
        let n = v.named in
        let there : entry_in names d.name.name m ≡ Some n.entry = subst (λ k. entry_in names d.name.name k ≡ Some n.entry) here n.there in (
          record {
            rest = v.rest;
            vs = v.variable ∷ [];
            fs = [];
            variables = v.variables;
            functions = v.functions ∙ sym (append-nil old.done.functions);
            variables_done = (record { entry = n.entry; number = v.number; final = n.final; type = v.type; there = there; means = n.meaning; copied = v.copied }, tt);
            functions_done = tt;
          },
          ap (λ (s : Scope). s.«module») v.scope ∙ here,
        )
    def-tracked kept m file (def.Function d) old new rest here run =
        let f = functions_law d old new run rest.workers in
        let same : IsAllSame old new = whole names d old new (only-met passes names env (function_needs d) old new run) in
        let s = signed-by (entry_in names d.name.name old.site.scope.«module») f.signature f.named in
        let there : entry_in names d.name.name m ≡ Some s.entry = subst (λ k. entry_in names d.name.name k ≡ Some s.entry) here s.there in (
          record {
            rest = record {
              found = same.found ∙ rest.found;
              blocks = same.blocks ∙ rest.blocks;
              matches = same.matches ∙ rest.matches;
              units = same.units ∙ rest.units;
              results = f.results;
              workers = f.workers;
            };
            vs = [];
            fs = f.function ∷ [];
            variables = f.variables ∙ sym (append-nil old.done.variables);
            functions = f.functions;
            variables_done = tt;
            functions_done = (record { entry = s.entry; signature = f.signature; there = there; means = s.means; number = f.number; fits = f.fits }, tt);
          },
          ap (λ (s : Scope). s.«module») same.scope ∙ here,
        )

    -- ---- definitions of a file

    defs-tracked : (kept : Bool) (m file : ℕ) (xs : List Def) (start : Listed Need) (ds : List Definition)
        → ((old new : State) → IsAtRest old → old.site.scope.«module» ≡ m → Run passes names env start old new → InModule m ds old new)
        → (old new : State) → IsAtRest old → old.site.scope.«module» ≡ m → Run passes names env (in_turn_from start (def_needs kept) xs) old new
        → InModule m (ds ++ map (placed m file) xs) old new
    defs-tracked kept m file [] start ds begun old new rest here run = subst (λ l. InModule m l old new) (sym (append-nil ds)) (begun old new rest here run)
    defs-tracked kept m file (x ∷ xs) start ds begun old new rest here run =
        subst (λ l. InModule m l old new) (append_assoc ds (placed m file x ∷ []) (map (placed m file) xs))
        (defs-tracked kept m file xs (start & def_needs kept x) (ds ++ placed m file x ∷ []) next old new rest here run)
      where
        next : (old new : State) → IsAtRest old → old.site.scope.«module» ≡ m → Run passes names env (start & def_needs kept x) old new → InModule m (ds ++ placed m file x ∷ []) old new
        next old new rest here run =
            let (t, ra, rb) = parted passes names env start (def_needs kept x) old new run in
            let (f, at) = begun old t rest here ra in
            let (g, behind) = def-tracked kept m file x t new f.rest at rb in
            (tracked-on ds (placed m file x ∷ []) old t new f g, behind)

    none-tracked : (m : ℕ) (old new : State) → IsAtRest old → old.site.scope.«module» ≡ m → Run passes names env nothing old new → InModule m [] old new
    unfolding gives_some
    none-tracked m old new rest here (is, same) = (
      tracked-none [] old new refl refl (subst (λ (s : State). IsAtRest s) (sym same) rest) (ap (λ (s : State). s.done.variables) same) (ap (λ (s : State). s.done.functions) same),
      ap (λ (s : State). s.site.scope.«module») same ∙ here,
    )

    entered : (m file : ℕ) (old new : State) → IsAtRest old → enters_file m file old (Gives tt) new → InModule m [] old new
    unfolding does
    entered m file old new rest e = (
      tracked-none [] old new refl refl
          (record {
            found = ap (λ (s : State). s.found) e ∙ rest.found;
            blocks = ap (λ (s : State). s.blocks) e ∙ rest.blocks;
            matches = ap (λ (s : State). s.matches) e ∙ rest.matches;
            units = ap (λ (s : State). s.units) e ∙ rest.units;
            results = ap (λ (s : State). s.site.results) e ∙ rest.results;
            workers = ap (λ (s : State). s.done.workers) e ∙ rest.workers;
          }) (ap (λ (s : State). s.done.variables) e) (ap (λ (s : State). s.done.functions) e),
      ap (λ (s : State). s.site.scope.«module») e,
    )

    file-tracked : (kept : Bool) (m file : ℕ) (f : SourceFile) (old new : State) → IsAtRest old → Run passes names env (file_needs kept m file f) old new
        → Tracked (map (placed m file) f.tree.defs.items) old new
    file-tracked kept m file f old new rest run =
        let (t, ra, rb) = parted passes names env (one (EntersFile m file)) (in_turn_from nothing (def_needs kept) f.tree.defs.items) old new run in
        let (a, here) = entered m file old t rest ra.0 in
        let (b, behind) = defs-tracked kept m file f.tree.defs.items nothing [] (none-tracked m) t new a.rest here rb in
        tracked-on [] (map (placed m file) f.tree.defs.items) old t new a b

    -- ---- files of a module, and modules

    abbrev Runs : List Definition → Listed Need → Type 0
    Runs ds needs = (old new : State) → IsAtRest old → Run passes names env needs old new → Tracked ds old new

    files-tracked : (kept : Bool) (m : ℕ) (fs : List SourceFile) (n : ℕ) (before : Listed Need) (ds : List Definition) → Runs ds before
        → Runs (ds ++ in_files m n fs) (numbered_from before (file_needs kept m) n fs)
    files-tracked kept m [] n before ds begun old new rest run = subst (λ l. Tracked l old new) (sym (append-nil ds)) (begun old new rest run)
    files-tracked kept m (f ∷ fs) n before ds begun old new rest run =
        let these : List Definition = map (placed m n) f.tree.defs.items in
        subst (λ l. Tracked l old new) (append_assoc ds these (in_files m (suc n) fs))
        (files-tracked kept m fs (suc n) (before & file_needs kept m n f) (ds ++ these) next old new rest run)
      where
        next : Runs (ds ++ map (placed m n) f.tree.defs.items) (before & file_needs kept m n f)
        next old new rest run =
            let (t, ra, rb) = parted passes names env before (file_needs kept m n f) old new run in
            let a = begun old t rest ra in
            tracked-on ds (map (placed m n) f.tree.defs.items) old t new a (file-tracked kept m n f t new a.rest rb)

    empty-tracked : Runs [] nothing
    unfolding gives_some
    empty-tracked old new rest (is, same) =
        tracked-none [] old new refl refl (subst (λ (s : State). IsAtRest s) (sym same) rest) (ap (λ (s : State). s.done.variables) same) (ap (λ (s : State). s.done.functions) same)

    module-tracked : (kept : Bool) (m : ℕ) (d : Module) → Runs (in_files m 0 d.files) (module_needs_if kept m d)
    module-tracked kept m d old new rest run =
        let (t, ra, rb) = parted passes names env (numbered_from nothing (file_needs kept m) 0 d.files) (one (EndsModule m)) old new run in
        let a = files-tracked kept m d.files 0 nothing [] empty-tracked old t rest ra in
        let e = module-ended passes names env place bodies m t new a.rest rb.0 in
        let b : Tracked [] t new = tracked-none [] t new refl refl e.rest e.variables e.functions in
        subst (λ l. Tracked l old new) (append-nil (in_files m 0 d.files)) (tracked-on (in_files m 0 d.files) [] old t new a b)

    modules-tracked : (main : ℕ) (ms : List Module) (n : ℕ) (before : Listed Need) (ds : List Definition) → Runs ds before
        → Runs (ds ++ in_modules n ms) (numbered_from before (module_needs main) n ms)
    modules-tracked main [] n before ds begun old new rest run = subst (λ l. Tracked l old new) (sym (append-nil ds)) (begun old new rest run)
    modules-tracked main (d ∷ ms) n before ds begun old new rest run =
        subst (λ l. Tracked l old new) (append_assoc ds (in_files n 0 d.files) (in_modules (suc n) ms))
        (modules-tracked main ms (suc n) (before & module_needs main n d) (ds ++ in_files n 0 d.files) next old new rest run)
      where
        next : Runs (ds ++ in_files n 0 d.files) (before & module_needs main n d)
        next old new rest run =
            let (t, ra, rb) = parted passes names env before (module_needs main n d) old new run in
            let a = begun old t rest ra in
            tracked-on ds (in_files n 0 d.files) old t new a (module-tracked (nat_le n main) n d t new a.rest rb)

    pub all-tracked : (main : ℕ) (ms : List Module) → Runs (in_modules 0 ms) (numbered_from nothing (module_needs main) 0 ms)
    all-tracked main ms old new rest run = modules-tracked main ms 0 nothing [] empty-tracked old new rest run
