-- The checkers at work: what they have found, what is wanted, and what is known of variables.
use Rattle.std.specs.Prelude.{◌≡◌, ◌-◌, ℕ, Bool, false, List, [], ◌∷◌, ◌++◌, Option, Result, find, length, take, unwrap_or, if◌then◌else◌}
use Rattle.bal_base.specs.declared.fault.Fault.{Fault}
use Rattle.bal_base.specs.declared.place.Place.{Place}
use Rattle.bal_base.specs.declared.text.Name.{Name}
use Rattle.bal_base.specs.declared.text.Text.{Text}
use Rattle.type_model.specs.declared.atoms.AtomDef.{AtomDef}
use Rattle.type_model.specs.declared.basic.Ty.{Ty}
use Rattle.type_model.specs.Places.{is_same_text}
use Rattle.descriptors.specs.declared.names.Scope.{Scope}
use Rattle.descriptors.specs.declared.names.Signature.{Signature}
use Rattle.typed_tree.specs.declared.event.SeenEvent.{SeenEvent}
use Rattle.typed_tree.specs.declared.expr.TypedExpr.{TypedExpr}
use Rattle.typed_tree.specs.declared.package.Initial.{Initial}
use Rattle.typed_tree.specs.declared.package.Initialiser.{Initialiser}
use Rattle.typed_tree.specs.declared.package.ModuleVariable.{ModuleVariable}
use Rattle.typed_tree.specs.declared.stmt.TypedClause.{TypedClause}
use Rattle.typed_tree.specs.declared.stmt.TypedPattern.{TypedPattern}
use Rattle.typed_tree.specs.declared.stmt.TypedStmt.{TypedStmt}
use Rattle.typed_tree.specs.declared.unit.Captured.{Captured}
use Rattle.typed_tree.specs.declared.unit.TypedFunction.{TypedFunction}
use Rattle.typed_tree.specs.declared.unit.TypedWorker.{TypedWorker}
use Rattle.typed_tree.specs.SharedTypes.{Shared}
use Rattle.flow_narrowing.specs.declared.flow.Flow.{Flow}
use Rattle.flow_narrowing.specs.declared.flow.Variable.{Variable}
use Rattle.flow_narrowing.specs.Changes.{with_narrowed}
use Rattle.check_words.specs.declared.access.Access.{Access}
use Rattle.check_words.specs.Library.{LibraryRow}

-- ---- variables

-- where a condition holds, and where it doesn't
pub record Ways : Type 0 where
  pub yes : Flow
  pub no : Flow

-- what is known where there may be a condition: the same both times where there is none
abbrev pub ways_or_same : Option Ways → Flow → Ways
ways_or_same ways f = unwrap_or ways (record { yes = f; no = f })

-- the type that the variable has here, as it is shared
abbrev pub shared_now : Variable → Shared
shared_now v = unwrap_or v.narrowed v.declared

-- ---- what is open

-- A choice or a loop: the flow before it, the way that isn't entered yet, and where the first way has come to.
pub record ChoiceAtWork : Type 0 where
  pub before : Flow
  pub other : Flow
  pub first : Flow

-- A match: the place of its value, the variable that it is on, the flow before it, the type that is left for the clauses to come, the patterns of the clause
-- at hand, the clauses that are done, and where they have come to.
pub record MatchAtWork : Type 0 where
  pub at : Place
  pub on : Option Name
  pub before : Flow
  pub left : Shared
  pub patterns : List TypedPattern
  pub clauses : List TypedClause
  pub ends : List Flow

-- A constructor: the atom that it chose, whether its value is immutable, its keys so far (none for a computed one), and the types of
-- its members so far. A list has no keys.
pub record ConstructorAtWork : Type 0 where
  pub choice : Option ℕ
  pub immutable : Bool
  pub keys : List (Option Text)
  pub types : List Ty

-- what is called
pub data Called : Type 0 where
  OfFunction : Signature → Called
  -- a function value, which is the part before the arguments
  OfValue : Called
  -- a call of the library, and the type of the receiver of a method, which is the part before the arguments
  OfLibrary : LibraryRow → Option Shared → Called

-- a call, and how many arguments were found
pub record CallAtWork : Type 0 where
  pub callee : Called
  pub args : ℕ

-- a block: its statements so far, and how many variables are seen where it begins
pub record BlockAtWork : Type 0 where
  pub stmts : List TypedStmt
  pub scope : ℕ

-- ---- units

pub record UnitAtWork : Type 0 where
  pub number : ℕ
  -- which worker of its function it is, the default one being 0
  pub worker : ℕ
  -- the declared types of its slots
  pub slots : List Shared
  pub params : ℕ
  -- the atom of the lists of its rest parameter, and the type of their members
  pub rest : Option ℕ
  pub rest_member : Option Shared
  pub result : Shared
  -- its own atoms, where they are known from the start
  pub arrow : ℕ
  pub future : ℕ
  pub captured : List Captured
  pub flow : Flow

-- Where the bodies stand: the module and the file, the names of the function's workers, what each of its workers gives, the default worker
-- first, or the fault of the descriptor that says so, and the events of the function.
pub record Site : Type 0 where
  pub scope : Scope
  pub workers : List Name
  pub results : List (Result Shared Fault)
  pub events : List SeenEvent

-- the initialiser of a module, and the initial values that are done
pub record InitialiserAtWork : Type 0 where
  pub unit : UnitAtWork
  pub values : List Initial

-- what is done of the package
pub record Done : Type 0 where
  pub next_unit : ℕ
  pub functions : List TypedFunction
  pub workers : List TypedWorker
  pub variables : List ModuleVariable
  pub initialisers : List Initialiser

-- ---- the whole

pub record State : Type 0 where
  pub atoms : List AtomDef
  pub site : Site
  -- parts that wait for their construct, the last one last, and what the last one says of variables, if it is a condition
  pub found : List TypedExpr
  pub ways : Option Ways
  -- types that parts have to be below, or that they make; none where nothing is known
  pub wants : List (Option Shared)
  -- whether operators that wait for their right operand work on ints
  pub sorts : List Bool
  -- what the members that wait for their index are taken of
  pub accesses : List Access
  pub constructors : List ConstructorAtWork
  pub calls : List CallAtWork
  pub choices : List ChoiceAtWork
  pub matches : List MatchAtWork
  pub blocks : List BlockAtWork
  -- the unit at hand is the last one
  pub units : List UnitAtWork
  -- that of the module at hand
  pub initialiser : Option InitialiserAtWork
  pub done : Done

-- ---- lists whose last member counts

pub record IsLast {A : Type 0} (xs : List A) (x : A) : Type 0 where
  pub kept : List A
  pub is : xs ≡ kept ++ x ∷ []

pub record AreLast {A : Type 0} (xs : List A) (count : ℕ) (ys : List A) : Type 0 where
  pub kept : List A
  pub is : xs ≡ kept ++ ys
  pub many : length ys ≡ count

-- without the last one, and with another one in its place
abbrev pub all_but : {A : Type 0} → ℕ → List A → List A
all_but count xs = take (length xs - count) xs

abbrev pub replaced : {A : Type 0} → List A → A → List A
replaced xs x = all_but 1 xs ++ x ∷ []

-- ---- flows

abbrev pub find_variable : List Variable → Name → Option Variable
find_variable vs name = find (λ v. is_same_text v.name name) vs

-- the variable of this name has a type here; none: its declared one
abbrev pub narrowed_by_name : List Variable → Name → Option Shared → List Variable
narrowed_by_name [] name t = []
narrowed_by_name (v ∷ vs) name t = if is_same_text v.name name then with_narrowed v t ∷ vs else v ∷ narrowed_by_name vs name t

abbrev pub with_type : Name → Option Shared → Flow → Flow
with_type name t f = record { variables = narrowed_by_name f.variables name t; reached = f.reached }

abbrev pub with_variable : Variable → Flow → Flow
with_variable v f = record { variables = f.variables ++ v ∷ []; reached = f.reached }

-- what is seen of a flow behind a block that began with so many variables
abbrev pub outside : ℕ → Flow → Flow
outside scope f = record { variables = take scope f.variables; reached = f.reached }

abbrev pub stopped : Flow → Flow
stopped f = record { variables = f.variables; reached = false }
