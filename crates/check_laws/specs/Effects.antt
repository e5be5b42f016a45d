-- What each need does to the parts and to what else is open: how many of each it takes from the top, and how many it leaves there.
use Rattle.std.specs.Prelude.{◌+◌, ◌*◌, ℕ, List, length, map, Option, Some, None}
use Rattle.bal_base.specs.declared.text.Name.{Name}
use Rattle.bal_tree.specs.declared.name.QualifiedName.{QualifiedName}
use Rattle.expr_needs.specs.declared.expected.Expected.{Expected}
use Rattle.expr_needs.specs.declared.expected.Expected.TheVariants as expected
use Rattle.expr_needs.specs.Needs.{Need, Fails, IsOf, IsWanted, Describes, Widens, WantsResult, WantsErrorToo, DropsWant, GivesLiteral, GivesNamed, Forms, Decides, IsSort, Adds, Compares, Splits, Switches, Turns, Conjoins, Disjoins, Chooses, FillsNil, Tests, Casts, Checks, ChecksPanicking, Traps, Encloses, IsAccessed, IsIndex, ReadsElement, ReadsField, ReadsOptional, ChoosesList, ChoosesMapping, BeginsKeys, GivesKey, TakesKey, ComputesKey, ExpectsItem, ExpectsMember, IsItem, IsMember, IsDetail, LacksCause, MakesList, MakesMapping, MakesError, CallsNamed, CallsValue, CallsMethod, ExpectsArgument, IsArgument, MakesCall, Starts, BeginsAnonymous, HasParameter, HasRest, BeginsValue, MakesAnonymous, Awaits, WaitsForAny, WaitsForAll, Receives, Sends, SendsAndWaits, Flushes, IsNew, Declares, IsAssignable, Assigns, HasField, ExpectsStored, Stores, ReadsName, ReadsStored, ReadsStoredField, IsOperand, UpdatesName, UpdatesElement, UpdatesField, IsIgnorable, Performs, Stops, Returns, ReturnsNil, Breaks, Continues, BeginsBlock, EndsBlock, MakesBlock, MakesIf, Heads, OpensLoop, MakesWhile, IsItemOfLoop, WidensItem, IsCounter, WantsCounter, HasItem, MakesForeach, MakesRange, BeginsMatch, HasPattern, BeginsClause, EndsClause, MakesMatch, EntersFile, BeginsFunction, NamesParameter, EndsFunction, EndsValueFunction, BeginsWorker, EndsWorker, BeginsInitial, EndsInitial, EndsModule, IsConstant}
use Rattle.check_words.specs.Actions.{futures}
use Rattle.check_words.specs.Seen.{worker_named}
use Rattle.check_laws.specs.Heights.{Heights, ◌⊕◌, none, parts, wants, sorts, accesses, constructors, calls, choices, matches, blocks, units}

pub data Effect : Type 0 where
  -- it is always refused
  Never : Effect
  -- it takes so many of each from the top, and leaves so many there
  Moves : (takes leaves : Heights) → Effect
  -- some type is wanted, be it from before, and these come
  SeesWant : Heights → Effect
  -- it takes so many, and a statement more stands in the block at hand, be it from before
  AddsStmt : Heights → Effect
  -- it changes more than what stands on top: what is known of the function or the module
  Beyond : Effect

-- these are there, and stay
abbrev pub looks_at : Heights → Effect
looks_at h = Moves h h

-- these come
abbrev pub gives : Heights → Effect
gives h = Moves none h

-- these come, and where the type that is wanted last counts there is one
abbrev pub gives_by : Expected → Heights → Effect
gives_by expected.Nothing h = gives h
gives_by expected.Immutable h = gives h
gives_by expected.Wanted h = SeesWant h

-- how many parts a name is in a wait: a worker is none, and a future is one
abbrev pub parts_awaited : Option ℕ → ℕ
parts_awaited (Some worker) = 0
parts_awaited None = 1

-- `workers`: the names of the workers of the function
module _ (workers : List Name) where
  -- what names leave that stand in a wait
  abbrev pub awaited_by : List QualifiedName → Heights
  awaited_by names = record none { parts = futures (map (worker_named workers) names); wants = length names }

  abbrev pub effect : Need → Effect
  effect (Fails code at) = Never
  effect (IsOf kind at) = looks_at (parts 1)
  effect (IsWanted at) = looks_at (parts 1 ⊕ wants 1)
  effect (Describes tree) = gives (wants 1)
  effect (Widens at) = Moves (parts 1) (parts 1 ⊕ wants 1)
  effect WantsResult = gives (wants 1)
  effect WantsErrorToo = SeesWant (wants 1)
  effect DropsWant = Moves (wants 1) none
  -- ---- names, literals and operators

  effect (GivesLiteral l) = gives (parts 1)
  effect (GivesNamed q) = gives (parts 1)
  effect (Forms op count kind at) = Moves (parts count) (parts 1)
  effect (Decides at) = Moves (parts 1) (parts 1 ⊕ sorts 1)
  effect (IsSort at) = looks_at (parts 1 ⊕ sorts 1)
  effect (Adds at) = Moves (parts 2 ⊕ sorts 1) (parts 1)
  effect (Compares op at) = Moves (parts 2 ⊕ sorts 1) (parts 1)
  effect (Splits way) = Moves (parts 1) (parts 1 ⊕ choices 1)
  effect Switches = looks_at (parts 1 ⊕ choices 1)
  effect (Turns at) = looks_at (parts 1)
  effect (Conjoins at) = Moves (parts 2 ⊕ choices 1) (parts 1)
  effect (Disjoins at) = Moves (parts 2 ⊕ choices 1) (parts 1)
  effect (Chooses at) = Moves (parts 3 ⊕ choices 1) (parts 1)
  effect (FillsNil at) = Moves (parts 2) (parts 1)
  effect (Tests name at) = Moves (parts 1 ⊕ wants 1) (parts 1)
  effect (Casts at) = Moves (parts 1 ⊕ wants 1) (parts 1)
  effect (Checks at) = looks_at (parts 1)
  effect (ChecksPanicking at) = looks_at (parts 1)
  effect (Traps at) = looks_at (parts 1)
  effect (Encloses at) = looks_at (parts 1)
  -- ---- members

  effect (IsAccessed texts at) = Moves (parts 1) (parts 1 ⊕ accesses 1)
  effect (IsIndex at) = looks_at (parts 2 ⊕ accesses 1)
  effect (ReadsElement at) = Moves (parts 2 ⊕ accesses 1) (parts 1)
  effect (ReadsField w at) = looks_at (parts 1)
  effect (ReadsOptional w at) = looks_at (parts 1)
  -- ---- constructors

  effect (ChoosesList e items at) = gives_by e (constructors 1)
  effect (ChoosesMapping e members at) = gives_by e (constructors 1)
  effect BeginsKeys = gives (constructors 1)
  effect (GivesKey text at) = Moves (constructors 1) (constructors 1 ⊕ parts 1)
  effect (TakesKey text at) = looks_at (constructors 1)
  effect ComputesKey = looks_at (constructors 1 ⊕ parts 1)
  effect ExpectsItem = Moves (constructors 1) (constructors 1 ⊕ wants 1)
  effect ExpectsMember = Moves (constructors 1 ⊕ parts 1) (constructors 1 ⊕ parts 1 ⊕ wants 1)
  effect (IsItem at) = Moves (constructors 1 ⊕ parts 1 ⊕ wants 1) (constructors 1 ⊕ parts 1)
  effect (IsMember at) = Moves (constructors 1 ⊕ parts 2 ⊕ wants 1) (constructors 1 ⊕ parts 2)
  effect (IsDetail at) = looks_at (constructors 1 ⊕ parts 2)
  effect (LacksCause at) = gives (parts 1)
  effect (MakesList count at) = Moves (parts count ⊕ constructors 1) (parts 1)
  effect (MakesMapping count at) = Moves (parts (2 * count) ⊕ constructors 1) (parts 1)
  effect (MakesError count at) = Moves (parts (2 + 2 * count) ⊕ constructors 1) (parts 1)
  -- ---- calls

  -- what is called, and its arguments, belong to the call
  effect (CallsNamed started q count at) = gives (calls 1)
  effect CallsValue = Moves (parts 1) (calls 1)
  effect (CallsMethod w count at) = Moves (parts 1) (calls 1)
  effect (ExpectsArgument at) = Moves (calls 1) (calls 1 ⊕ wants 1)
  effect (IsArgument at) = Moves (calls 1 ⊕ parts 1 ⊕ wants 1) (calls 1)
  effect (MakesCall at) = Moves (calls 1) (parts 1)
  effect (Starts here at) = Moves (calls 1) (parts 1)
  effect BeginsAnonymous = gives (units 1)
  effect (HasParameter w) = Moves (units 1 ⊕ wants 1) (units 1)
  effect (HasRest w) = Moves (units 1 ⊕ wants 1) (units 1)
  effect (BeginsValue used) = looks_at (units 1 ⊕ wants 1)
  effect (MakesAnonymous isolated at) = Moves (units 1 ⊕ parts 1 ⊕ wants 1) (parts 1)
  -- ---- actions

  effect (Awaits q) = gives (parts (parts_awaited (worker_named workers q)) ⊕ wants 1)
  effect (WaitsForAny names at) = Moves (awaited_by names) (parts 1)
  effect (WaitsForAll names at) = Moves (awaited_by names ⊕ constructors 1) (parts 1)
  effect (Receives e peer at) = gives_by e (parts 1)
  effect (Sends peer at) = looks_at (parts 1)
  effect (SendsAndWaits peer at) = looks_at (parts 1)
  effect (Flushes peer at) = gives (parts 1)
  -- ---- statements

  effect (IsNew w) = Moves none none
  effect (Declares name final assigned at) = AddsStmt (parts 1 ⊕ wants 1)
  effect (IsAssignable q) = gives (wants 1)
  effect (Assigns q at) = AddsStmt (parts 1 ⊕ wants 1)
  effect (HasField w) = gives (parts 1 ⊕ accesses 1)
  effect (ExpectsStored at) = Moves (parts 2 ⊕ accesses 1) (parts 2 ⊕ accesses 1 ⊕ wants 1)
  effect (Stores at) = AddsStmt (parts 3 ⊕ accesses 1 ⊕ wants 1)
  effect (ReadsName q) = Moves (wants 1) (wants 2)
  effect (ReadsStored at) = Moves (parts 2 ⊕ accesses 1 ⊕ wants 1) (parts 2 ⊕ accesses 1 ⊕ wants 2)
  effect (ReadsStoredField w at) = Moves (parts 2 ⊕ accesses 1 ⊕ wants 1) (parts 2 ⊕ accesses 1 ⊕ wants 2)
  effect (IsOperand op at) = Moves (wants 2) (wants 3 ⊕ sorts 1)
  effect (UpdatesName q op at) = AddsStmt (parts 1 ⊕ wants 3 ⊕ sorts 1)
  effect (UpdatesElement op at) = AddsStmt (parts 3 ⊕ accesses 1 ⊕ wants 3 ⊕ sorts 1)
  effect (UpdatesField w op at) = AddsStmt (parts 3 ⊕ accesses 1 ⊕ wants 3 ⊕ sorts 1)
  effect (IsIgnorable at) = looks_at (parts 1)
  effect (Performs form count at) = AddsStmt (parts count)
  effect Stops = Moves none none
  effect (Returns at) = AddsStmt (parts 1 ⊕ wants 1)
  effect (ReturnsNil at) = AddsStmt none
  effect (Breaks at) = AddsStmt none
  effect (Continues at) = AddsStmt none
  -- ---- blocks, branches and loops

  effect BeginsBlock = gives (blocks 1)
  effect EndsBlock = looks_at (blocks 1)
  effect (MakesBlock at) = AddsStmt (blocks 1)
  effect (MakesIf at) = AddsStmt (parts 1 ⊕ choices 1 ⊕ blocks 2)
  effect (Heads assigned) = Moves none none
  effect OpensLoop = gives (choices 1)
  effect (MakesWhile leaves at) = AddsStmt (parts 1 ⊕ choices 1 ⊕ blocks 1)
  effect (IsItemOfLoop at) = looks_at (parts 1 ⊕ wants 1)
  effect (WidensItem at) = Moves (parts 1) (parts 1 ⊕ wants 1)
  effect (IsCounter at) = looks_at (parts 2 ⊕ wants 1)
  effect WantsCounter = Moves (parts 2) (parts 2 ⊕ wants 1)
  effect (HasItem name assigned) = Moves (wants 1) none
  effect (MakesForeach at) = AddsStmt (parts 1 ⊕ choices 1 ⊕ blocks 1)
  effect (MakesRange op at) = AddsStmt (parts 2 ⊕ choices 1 ⊕ blocks 1)
  effect (BeginsMatch name at) = Moves (parts 1) (parts 1 ⊕ matches 1)
  effect (HasPattern p) = looks_at (matches 1)
  effect (BeginsClause any) = looks_at (matches 1)
  effect (EndsClause at) = Moves (matches 1 ⊕ blocks 1) (matches 1)
  effect (MakesMatch any at) = AddsStmt (parts 1 ⊕ matches 1)
  -- ---- workers, functions and packages

  effect (NamesParameter w assigned) = Moves none none
  effect (BeginsWorker w number used) = gives (units 1)
  effect (EndsWorker w close) = Moves (units 1 ⊕ blocks 1) none
  effect (IsConstant d) = Moves none none
  effect (EntersFile m file) = Beyond
  effect (BeginsFunction d) = Beyond
  effect (EndsFunction d close) = Beyond
  effect (EndsValueFunction d) = Beyond
  effect (BeginsInitial d kept) = Beyond
  effect (EndsInitial d kept) = Beyond
  effect (EndsModule m) = Beyond
