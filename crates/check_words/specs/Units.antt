-- What it means that the needs of workers, functions, variables of modules and packages are met (Ballerina specification, section 8 and
-- "Function with default worker and named workers").
use Rattle.std.specs.Prelude.{◌≡◌, ◌||◌, ◌++◌, ℕ, suc, Bool, true, false, List, [], ◌∷◌, length, map, Option, Some, None, Result, Ok, Err, option_map, pred, slice_get, take}
use Rattle.std.specs.List.{AllZip, list_any}
use Rattle.std.specs.Global.{Box, Vec}
use Rattle.bal_base.specs.declared.fault.Fault.{Fault}
use Rattle.bal_base.specs.declared.fault.FaultCode.TheVariants.{Duplicate, MissingReturn}
use Rattle.bal_base.specs.declared.place.Place.{Place}
use Rattle.bal_tree.specs.declared.def.Body.{Body}
use Rattle.bal_tree.specs.declared.def.Body.TheVariants as body
use Rattle.bal_tree.specs.declared.def.ConstDef.{ConstDef}
use Rattle.bal_tree.specs.declared.def.FunctionDef.{FunctionDef}
use Rattle.bal_tree.specs.declared.def.VariableDef.{VariableDef}
use Rattle.bal_tree.specs.declared.def.Worker.{Worker}
use Rattle.bal_tree.specs.declared.name.Word.{Word}
use Rattle.bal_tree.specs.declared.types.TypeTree.{TypeTree}
use Rattle.checks.specs.Checks.{Check, Gives, Refuses, either, gives, gives_some, ◌▷◌}
use Rattle.checks.specs.Questions.{below, is_below}
use Rattle.descriptors.specs.declared.names.Entry.{Entry}
use Rattle.descriptors.specs.declared.names.Meaning.{Meaning}
use Rattle.descriptors.specs.declared.names.Meaning.TheVariants as meaning
use Rattle.descriptors.specs.declared.names.Names.{Names}
use Rattle.descriptors.specs.declared.names.Scope.{Scope}
use Rattle.descriptors.specs.declared.names.Signature.{Signature}
use Rattle.descriptors.specs.Described.{IsCopy, described_whole, list_of}
use Rattle.descriptors.specs.Descriptors.{descriptor_of}
use Rattle.descriptors.specs.Naming.{entry_in}
use Rattle.type_model.specs.declared.answers.TypeLimit.{TypeLimit}
use Rattle.type_model.specs.declared.atoms.AtomDef.{AtomDef}
use Rattle.type_model.specs.declared.basic.Ty.{Ty}
use Rattle.type_model.specs.Calls.{Asked}
use Rattle.type_model.specs.Places.{is_same_text}
use Rattle.typed_tree.specs.declared.expr.TypedExpr.{TypedExpr}
use Rattle.typed_tree.specs.declared.package.Initial.{Initial}
use Rattle.typed_tree.specs.declared.package.Initialiser.{Initialiser}
use Rattle.typed_tree.specs.declared.package.ModuleVariable.{ModuleVariable}
use Rattle.typed_tree.specs.declared.stmt.TypedStmt.{TypedStmt}
use Rattle.typed_tree.specs.declared.unit.TypedBody.{TypedBody}
use Rattle.typed_tree.specs.declared.unit.TypedBody.TheVariants as typed
use Rattle.typed_tree.specs.declared.unit.TypedFunction.{TypedFunction}
use Rattle.typed_tree.specs.declared.unit.TypedWorker.{TypedWorker}
use Rattle.typed_tree.specs.Skeleton.{events_of_body}
use Rattle.typed_tree.specs.SharedTypes.{Shared, sem_of}
use Rattle.expr_needs.specs.declared.kind.Kind.TheVariants as kind
use Rattle.check_words.specs.Actions.{result_of, site_now}
use Rattle.check_words.specs.Branches.{value_constant, place_of_value}
use Rattle.check_words.specs.Calls.{Capture, captured_as, captures, closes_unit, is_new, new_number, opens_unit, parameter, typed_unit}
use Rattle.flow_narrowing.specs.declared.flow.Variable.{Variable}
use Rattle.check_words.specs.State.{Done, InitialiserAtWork, Site, State, UnitAtWork, with_variable}
use Rattle.check_words.specs.Statements.{closes_block, takes_part}
use Rattle.check_words.specs.Values.{SingleOf, drops_want}
use Rattle.check_words.specs.Words.{OfKind, Step, asking, becomes, changes_flow, done, fails, some_over, unit_now, unless, wanted, wants}

-- ---- where bodies stand

abbrev pub changes_site : (Site → Site) → Step
changes_site change = becomes (λ s. record s { site = change s.site })

-- no function is at hand
abbrev pub outside_functions : Site → Site
outside_functions site = record site { workers = []; results = []; events = [] }

abbrev pub enters_file : ℕ → ℕ → Step
enters_file m file = changes_site (λ site. record site { scope = record { «module» = m; file = Some file } })

abbrev pub changes_done : (Done → Done) → Step
changes_done change = becomes (λ s. record s { done = change s.done })

-- ---- workers

-- the results of workers: what each descriptor means, or its fault
unfoldable pub result_or_fault : {S : Type 0} → Check S Shared → Check S (Result Shared Fault)
result_or_fault check old (Gives (Ok t)) new = check old (Gives t) new
result_or_fault check old (Gives (Err fault)) new = check old (Refuses fault) new
result_or_fault check old (Refuses f) new = ⊥

-- nil where nothing is said
abbrev pub descriptor_type : Names → Option (Box TypeTree) → Check State Shared
descriptor_type names None = some_over (λ env t. OfKind kind.Nothing env t.value)
descriptor_type names (Some tree) =
    site_now ▷ λ site. asking (described_whole names site.scope (descriptor_of tree.value)) ▷ λ t. gives_some (λ s u. u.value ≡ t)

abbrev pub worker_results : Names → List Worker → Check State (List (Result Shared Fault))
worker_results names [] = gives []
worker_results names (w ∷ ws) =
    result_or_fault (descriptor_type names w.result) ▷ λ r. worker_results names ws ▷ λ more. gives (r ∷ more)

abbrev pub workers_of : Body → List Worker
workers_of (body.Block initial workers rest close at) = workers.items
workers_of (body.Expr value at) = []

-- a variable that is seen has the worker's name, or a worker before this one
abbrev pub is_worker_new : Worker → ℕ → Step
is_worker_new w number =
    site_now ▷ λ site. unit_now ▷ λ u.
    either (list_any (λ v. is_same_text v.name w.name.name) u.flow.variables || list_any (is_same_text w.name.name) (take (pred number) site.workers))
    (fails Duplicate w.name.at) done

-- in a worker a captured variable has the type of its slot, and is narrowed as it was where the initial part ends, from this slot on
abbrev pub in_worker : ℕ → List Capture → List Variable
in_worker slot [] = []
in_worker slot (c ∷ cs) =
    record { name = c.0.name; slot = slot; declared = c.0.declared; narrowed = c.0.narrowed; fixed = c.0.fixed; assigned = c.0.assigned; captured = true }
    ∷ in_worker (suc slot) cs

abbrev pub worker_unit : ℕ → ℕ → Shared → Bool → List Capture → UnitAtWork
worker_unit number worker result reached cs =
    record {
      number = number;
      worker = worker;
      slots = map (λ c. c.0.declared) cs;
      params = 0;
      rest = None;
      rest_member = None;
      result = result;
      arrow = 0;
      future = 0;
      captured = map captured_as cs;
      flow = record { variables = in_worker 0 cs; reached = reached };
    }

abbrev pub begins_worker : Worker → ℕ → List Word → Step
begins_worker w number uses =
    is_worker_new w number ▷ λ u. result_of number ▷ λ result. unit_now ▷ λ around. new_number ▷ λ n.
    opens_unit (worker_unit n number result around.flow.reached (captures around.flow.variables uses))

abbrev pub typed_worker : Worker → UnitAtWork → Bool → TypedWorker → Type 0
typed_worker w u ends t =
    (t.name ≡ w.name.name) × (t.unit ≡ typed_unit u 0 0) × (t.captured ≡ u.captured) × (t.ends ≡ ends) × (t.at ≡ w.name.at)

-- ---- functions

-- the signature of the function with this name in the module at hand
abbrev pub signature_in : Option Entry → List Signature
signature_in None = []
signature_in (Some e) = by e.meaning
  where
    by : Meaning → List Signature
    by (meaning.Function f) = f ∷ []
    by (meaning.TypeName t) = []
    by (meaning.Constant t) = []
    by (meaning.Variable number final t) = []

abbrev pub signature_of : Names → FunctionDef → Check State Signature
signature_of names d =
    site_now ▷ λ site. gives_some (λ s f. signature_in (entry_in names d.name.name site.scope.«module») ≡ f ∷ [])

-- the types of the parameters, what takes the rest being a list
abbrev pub rest_slot : Signature → List Ty
rest_slot f = by f.rest
  where
    by : Option Ty → List Ty
    by None = []
    by (Some t) = list_of f.lists ∷ []

abbrev pub AreSlots : Signature → List Shared → Type 0
AreSlots f slots = AllZip (λ t u. IsCopy t u.value) (f.params ++ rest_slot f) slots

abbrev pub function_unit : Signature → List Shared → Shared → UnitAtWork
function_unit f slots result =
    record {
      number = f.unit;
      worker = 0;
      slots = slots;
      params = length slots;
      rest = option_map (λ t. f.lists) f.rest;
      rest_member = None;
      result = result;
      arrow = f.arrow;
      future = f.future;
      captured = [];
      flow = record { variables = []; reached = true };
    }

-- the function's own result stands before those of its workers
abbrev pub begins_function : Names → FunctionDef → Step
begins_function names d =
    signature_of names d ▷ λ f. some_over (λ env (t : Shared). IsCopy f.result t.value) ▷ λ result. gives_some (λ s slots. AreSlots f slots) ▷ λ slots.
    worker_results names (workers_of d.body) ▷ λ results.
    changes_site (λ site. record site { workers = map (λ w. w.name.name) (workers_of d.body); results = Ok result ∷ results; events = events_of_body d.body }) ▷ λ u.
    opens_unit (function_unit f slots result)

-- the next parameter has this name
abbrev pub names_parameter : Word → Bool → Step
names_parameter w assigned =
    is_new w ▷ λ u. unit_now ▷ λ unit. gives_some (λ s t. slice_get unit.slots (length unit.flow.variables) ≡ Some t) ▷ λ t.
    changes_flow (with_variable (parameter w.name (length unit.flow.variables) t assigned))

-- a function as it was defined; its file is the one of its place
pub record IsFunctionOf (d : FunctionDef) (scope : Scope) (u : UnitAtWork) (f : TypedFunction) : Type 0 where
  pub «module» : f.«module» ≡ scope.«module»
  pub file : f.file ≡ d.name.at.file
  pub name : f.name ≡ d.name.name
  pub public : f.public ≡ d.public
  pub isolated : f.isolated ≡ d.isolated
  pub unit : f.unit ≡ typed_unit u u.arrow u.future
  pub events : f.events ≡ events_of_body d.body
  pub at : f.at ≡ d.at

abbrev pub adds_function : FunctionDef → UnitAtWork → (TypedBody → Type 0) → Step
adds_function d u P =
    site_now ▷ λ site. gives_some (λ s f. IsFunctionOf d site.scope u f × P f.body) ▷ λ f.
    changes_done (λ done. record done { functions = done.functions ++ f ∷ []; workers = [] }) ▷ λ u. changes_site outside_functions

abbrev pub IsValueBody : TypedExpr → TypedBody → Type 0
IsValueBody value b = (v : Box TypedExpr) × (b ≡ typed.Expr v) × (v.value ≡ value)

abbrev pub ends_value_function : FunctionDef → Step
ends_value_function d = takes_part ▷ λ value. drops_want ▷ λ u. closes_unit ▷ λ unit. adds_function d unit (IsValueBody value)

-- ---- variables of modules

abbrev pub variable_type : Names → VariableDef → Check State (ℕ × Ty)
variable_type names d =
    site_now ▷ λ site. gives_some (λ s v. variable_in (entry_in names d.name.name site.scope.«module») ≡ v ∷ [])
  where
    by : Meaning → List (ℕ × Ty)
    by (meaning.Variable number final t) = (number, t) ∷ []
    by (meaning.TypeName t) = []
    by (meaning.Constant t) = []
    by (meaning.Function f) = []

    variable_in : Option Entry → List (ℕ × Ty)
    variable_in None = []
    variable_in (Some e) = by e.meaning

-- an initialiser gives an error or nil
abbrev pub initialiser_unit : ℕ → Shared → UnitAtWork
initialiser_unit number result =
    record {
      number = number;
      worker = 0;
      slots = [];
      params = 0;
      rest = None;
      rest_member = None;
      result = result;
      arrow = 0;
      future = 0;
      captured = [];
      flow = record { variables = []; reached = true };
    }

-- the initialiser of the module at hand, which begins with the module's first variable
abbrev pub initialiser_or_new : Option InitialiserAtWork → Check State InitialiserAtWork
initialiser_or_new (Some i) = gives i
initialiser_or_new None =
    new_number ▷ λ n. some_over (λ env (t : Shared). OfKind kind.ErrorOrNil env t.value) ▷ λ t.
    gives (record { unit = initialiser_unit n t; values = [] })

abbrev pub initialiser_now : Check State InitialiserAtWork
initialiser_now = gives_some (λ s i. i ≡ s.initialiser) ▷ λ i. initialiser_or_new i

abbrev pub sets_initialiser : Option InitialiserAtWork → Step
sets_initialiser i = becomes (λ s. record s { initialiser = i })

-- The type of the variable is wanted. `kept`: the module is initialised. Where it isn't, the value has a unit of its own, which is
-- dropped with it.
abbrev pub keeps_at_work : Bool → InitialiserAtWork → Step
keeps_at_work true i = sets_initialiser (Some i)
keeps_at_work false i = done

abbrev pub begins_initial : Names → VariableDef → Bool → Step
begins_initial names d kept =
    initialiser_now ▷ λ i. keeps_at_work kept i ▷ λ u. opens_unit i.unit ▷ λ v.
    variable_type names d ▷ λ t. some_over (λ env (w : Shared). IsCopy t.1 w.value) ▷ λ w. wants (Some w)

pub record IsModuleVariable (d : VariableDef) (scope : Scope) (t : Shared) (v : ModuleVariable) : Type 0 where
  pub «module» : v.«module» ≡ scope.«module»
  pub file : v.file ≡ d.name.at.file
  pub name : v.name ≡ d.name.name
  pub ty : v.ty ≡ t
  pub final : v.is_final ≡ d.is_final
  pub at : v.at ≡ d.name.at

abbrev pub IsInitial : ℕ → TypedExpr → Place → Initial → Type 0
IsInitial number value at i = (i.variable ≡ number) × (i.value.value ≡ value) × (i.at ≡ at)

-- what is dropped takes no numbers
abbrev pub ends_value : Bool → UnitAtWork → ℕ → TypedExpr → Place → Step
ends_value true unit number value at =
    initialiser_now ▷ λ i. gives_some (λ s x. IsInitial number value at x) ▷ λ x.
    sets_initialiser (Some (record { unit = unit; values = i.values ++ x ∷ [] }))
ends_value false unit number value at = changes_done (λ done. record done { next_unit = unit.number })

abbrev pub ends_initial : Names → VariableDef → Bool → Step
ends_initial names d kept =
    takes_part ▷ λ value. wanted ▷ λ t. drops_want ▷ λ u. closes_unit ▷ λ unit. site_now ▷ λ site.
    variable_type names d ▷ λ number. gives_some (λ s v. IsModuleVariable d site.scope t v) ▷ λ v.
    changes_done (λ done. record done { variables = done.variables ++ v ∷ [] }) ▷ λ w. ends_value kept unit number.0 value d.name.at

abbrev pub IsInitialiser : ℕ → InitialiserAtWork → Initialiser → Type 0
IsInitialiser m i x = (x.«module» ≡ m) × (x.unit ≡ typed_unit i.unit 0 0) × (x.values.items ≡ i.values)

abbrev pub keeps_initialiser : ℕ → Option InitialiserAtWork → Step
keeps_initialiser m None = done
keeps_initialiser m (Some i) =
    gives_some (λ s x. IsInitialiser m i x) ▷ λ x. changes_done (λ done. record done { initialisers = done.initialisers ++ x ∷ [] })

abbrev pub ends_module : ℕ → Step
ends_module m = gives_some (λ s i. i ≡ s.initialiser) ▷ λ i. keeps_initialiser m i ▷ λ u. sets_initialiser None

module _ (passes : List AtomDef → Asked → TypeLimit → Type 0) where
  -- ---- ends of bodies

  -- where the end is reached, nil is below the result
  abbrev pub ends_by : Bool → UnitAtWork → Place → Step
  ends_by false u close = done
  ends_by true u close =
      some_over (OfKind kind.Nothing) ▷ λ nil. asking (is_below passes nil.sem (sem_of u.result) (Some close)) ▷ λ b.
      unless b MissingReturn close

  abbrev pub ends_worker : Worker → Place → Step
  ends_worker w close =
      closes_unit ▷ λ u. ends_by u.flow.reached u close ▷ λ v. closes_block ▷ λ b.
      gives_some (λ s t. typed_worker w u u.flow.reached t × (t.stmts.items ≡ b.stmts) × (t.close ≡ close)) ▷ λ t.
      changes_done (λ done. record done { workers = done.workers ++ t ∷ [] })

  abbrev pub IsBlockBody : List TypedWorker → Bool → Place → (initial rest : List TypedStmt) → TypedBody → Type 0
  IsBlockBody workers ends close initial rest b =
      (i r : Vec TypedStmt) × (w : Vec TypedWorker) × (b ≡ typed.Block i w r ends close) × (i.items ≡ initial) × (w.items ≡ workers) × (r.items ≡ rest)

  -- the statements of the initial part, the workers, and the rest of the default worker's
  abbrev pub ends_function : FunctionDef → Place → Step
  ends_function d close =
      closes_unit ▷ λ u. ends_by u.flow.reached u close ▷ λ v. closes_block ▷ λ rest. closes_block ▷ λ initial.
      gives_some (λ s workers. workers ≡ s.done.workers) ▷ λ workers.
      adds_function d u (IsBlockBody workers u.flow.reached close initial.stmts rest.stmts)

  -- ---- constants

  -- the value of a constant is below its type, where one is said
  abbrev pub constant_fits : Names → Option (Box TypeTree) → ConstDef → Step
  constant_fits names None d = done
  constant_fits names (Some tree) d =
      descriptor_type names (Some tree) ▷ λ t. some_over (SingleOf (value_constant d.value)) ▷ λ v.
      asking (below passes v.sem (sem_of t) (Some (place_of_value d.value)))
