-- What is done of the package, and what needs leave of it: functions, workers, variables and initialisers come where they end, and else none does.
use Rattle.std.specs.Prelude.{All, List, map, ⊤, ◌≡◌, ◌≤◌}
use Rattle.bal_tree.specs.declared.action.Rhs.{Rhs}
use Rattle.bal_tree.specs.declared.expr.Expr.{Expr}
use Rattle.bal_tree.specs.declared.stmt.Block.{Block}
use Rattle.bal_tree.specs.declared.stmt.Stmt.{Stmt}
use Rattle.check_words.specs.Meets.{meets}
use Rattle.check_words.specs.State.{State}
use Rattle.checks.specs.Checks.{Gives}
use Rattle.descriptors.specs.declared.names.Names.{Names}
use Rattle.expr_needs.specs.ActionTable.{read_rhs}
use Rattle.expr_needs.specs.ExprTable.{read_expr}
use Rattle.expr_needs.specs.Needs.{Need, Fails, IsOf, IsWanted, Describes, Widens, WantsResult, WantsErrorToo, DropsWant, GivesLiteral, GivesNamed, Forms, Decides, IsSort, Adds, Compares, Splits, Switches, Turns, Conjoins, Disjoins, Chooses, FillsNil, Tests, Casts, Checks, ChecksPanicking, Traps, Encloses, IsAccessed, IsIndex, ReadsElement, ReadsField, ReadsOptional, ChoosesList, ChoosesMapping, BeginsKeys, GivesKey, TakesKey, ComputesKey, ExpectsItem, ExpectsMember, IsItem, IsMember, IsDetail, LacksCause, MakesList, MakesMapping, MakesError, CallsNamed, CallsValue, CallsMethod, ExpectsArgument, IsArgument, MakesCall, Starts, BeginsAnonymous, HasParameter, HasRest, BeginsValue, MakesAnonymous, Awaits, WaitsForAny, WaitsForAll, Receives, Sends, SendsAndWaits, Flushes, IsNew, Declares, IsAssignable, Assigns, HasField, ExpectsStored, Stores, ReadsName, ReadsStored, ReadsStoredField, IsOperand, UpdatesName, UpdatesElement, UpdatesField, IsIgnorable, Performs, Stops, Returns, ReturnsNil, Breaks, Continues, BeginsBlock, EndsBlock, MakesBlock, MakesIf, Heads, OpensLoop, MakesWhile, IsItemOfLoop, WidensItem, IsCounter, WantsCounter, HasItem, MakesForeach, MakesRange, BeginsMatch, HasPattern, BeginsClause, EndsClause, MakesMatch, EntersFile, BeginsFunction, NamesParameter, EndsFunction, EndsValueFunction, BeginsWorker, EndsWorker, BeginsInitial, EndsInitial, EndsModule, IsConstant}
use Rattle.expr_needs.specs.declared.expected.Expected.{Expected}
use Rattle.needs.specs.Needs.{all_met}
use Rattle.stmt_needs.specs.StmtTable.{Within, read_block, read_stmt, stmts_needs}
use Rattle.type_model.specs.Calls.{Asked}
use Rattle.type_model.specs.declared.answers.TypeLimit.{TypeLimit}
use Rattle.type_model.specs.declared.atoms.AtomDef.{AtomDef}
use Rattle.typed_tree.specs.Listed.{Listed, members}

-- The same is done, and numbers of units may be taken.
pub record KeepsDone (old new : State) : Type 0 where
  pub functions : new.done.functions ≡ old.done.functions
  pub workers : new.done.workers ≡ old.done.workers
  pub variables : new.done.variables ≡ old.done.variables
  pub initialisers : new.done.initialisers ≡ old.done.initialisers
  pub next : old.done.next_unit ≤ new.done.next_unit

-- needs that end no function, worker, variable or module
abbrev pub EndsNone : Need → Type 0
EndsNone (Fails code at) = ⊤
EndsNone (IsOf kind at) = ⊤
EndsNone (IsWanted at) = ⊤
EndsNone (Describes tree) = ⊤
EndsNone (Widens at) = ⊤
EndsNone WantsResult = ⊤
EndsNone WantsErrorToo = ⊤
EndsNone DropsWant = ⊤
EndsNone (GivesLiteral l) = ⊤
EndsNone (GivesNamed q) = ⊤
EndsNone (Forms op count kind at) = ⊤
EndsNone (Decides at) = ⊤
EndsNone (IsSort at) = ⊤
EndsNone (Adds at) = ⊤
EndsNone (Compares op at) = ⊤
EndsNone (Splits way) = ⊤
EndsNone Switches = ⊤
EndsNone (Turns at) = ⊤
EndsNone (Conjoins at) = ⊤
EndsNone (Disjoins at) = ⊤
EndsNone (Chooses at) = ⊤
EndsNone (FillsNil at) = ⊤
EndsNone (Tests name at) = ⊤
EndsNone (Casts at) = ⊤
EndsNone (Checks at) = ⊤
EndsNone (ChecksPanicking at) = ⊤
EndsNone (Traps at) = ⊤
EndsNone (Encloses at) = ⊤
EndsNone (IsAccessed texts at) = ⊤
EndsNone (IsIndex at) = ⊤
EndsNone (ReadsElement at) = ⊤
EndsNone (ReadsField w at) = ⊤
EndsNone (ReadsOptional w at) = ⊤
EndsNone (ChoosesList e items at) = ⊤
EndsNone (ChoosesMapping e members at) = ⊤
EndsNone BeginsKeys = ⊤
EndsNone (GivesKey text at) = ⊤
EndsNone (TakesKey text at) = ⊤
EndsNone ComputesKey = ⊤
EndsNone ExpectsItem = ⊤
EndsNone ExpectsMember = ⊤
EndsNone (IsItem at) = ⊤
EndsNone (IsMember at) = ⊤
EndsNone (IsDetail at) = ⊤
EndsNone (LacksCause at) = ⊤
EndsNone (MakesList count at) = ⊤
EndsNone (MakesMapping count at) = ⊤
EndsNone (MakesError count at) = ⊤
EndsNone (CallsNamed started q count at) = ⊤
EndsNone CallsValue = ⊤
EndsNone (CallsMethod w count at) = ⊤
EndsNone (ExpectsArgument at) = ⊤
EndsNone (IsArgument at) = ⊤
EndsNone (MakesCall at) = ⊤
EndsNone (Starts here at) = ⊤
EndsNone BeginsAnonymous = ⊤
EndsNone (HasParameter w) = ⊤
EndsNone (HasRest w) = ⊤
EndsNone (BeginsValue used) = ⊤
EndsNone (MakesAnonymous isolated at) = ⊤
EndsNone (Awaits q) = ⊤
EndsNone (WaitsForAny qs at) = ⊤
EndsNone (WaitsForAll qs at) = ⊤
EndsNone (Receives e peer at) = ⊤
EndsNone (Sends peer at) = ⊤
EndsNone (SendsAndWaits peer at) = ⊤
EndsNone (Flushes peer at) = ⊤
EndsNone (IsNew w) = ⊤
EndsNone (Declares name final assigned at) = ⊤
EndsNone (IsAssignable q) = ⊤
EndsNone (Assigns q at) = ⊤
EndsNone (HasField w) = ⊤
EndsNone (ExpectsStored at) = ⊤
EndsNone (Stores at) = ⊤
EndsNone (ReadsName q) = ⊤
EndsNone (ReadsStored at) = ⊤
EndsNone (ReadsStoredField w at) = ⊤
EndsNone (IsOperand op at) = ⊤
EndsNone (UpdatesName q op at) = ⊤
EndsNone (UpdatesElement op at) = ⊤
EndsNone (UpdatesField w op at) = ⊤
EndsNone (IsIgnorable at) = ⊤
EndsNone (Performs form count at) = ⊤
EndsNone Stops = ⊤
EndsNone (Returns at) = ⊤
EndsNone (ReturnsNil at) = ⊤
EndsNone (Breaks at) = ⊤
EndsNone (Continues at) = ⊤
EndsNone BeginsBlock = ⊤
EndsNone EndsBlock = ⊤
EndsNone (MakesBlock at) = ⊤
EndsNone (MakesIf at) = ⊤
EndsNone (Heads assigned) = ⊤
EndsNone OpensLoop = ⊤
EndsNone (MakesWhile leaves at) = ⊤
EndsNone (IsItemOfLoop at) = ⊤
EndsNone (WidensItem at) = ⊤
EndsNone (IsCounter at) = ⊤
EndsNone WantsCounter = ⊤
EndsNone (HasItem name assigned) = ⊤
EndsNone (MakesForeach at) = ⊤
EndsNone (MakesRange op at) = ⊤
EndsNone (BeginsMatch name at) = ⊤
EndsNone (HasPattern p) = ⊤
EndsNone (BeginsClause any) = ⊤
EndsNone (EndsClause at) = ⊤
EndsNone (MakesMatch any at) = ⊤
EndsNone (EntersFile m file) = ⊤
EndsNone (BeginsFunction d) = ⊤
EndsNone (NamesParameter w assigned) = ⊤
EndsNone (EndsFunction d close) = ⊥
EndsNone (EndsValueFunction d) = ⊥
EndsNone (BeginsWorker w number uses) = ⊤
EndsNone (EndsWorker w close) = ⊥
EndsNone (BeginsInitial d kept) = ⊤
EndsNone (EndsInitial d kept) = ⊥
EndsNone (EndsModule m) = ⊥
EndsNone (IsConstant d) = ⊤

abbrev pub EndNone : Listed Need → Type 0
EndNone needs = All EndsNone (members needs)

-- So it is with expressions, actions, statements and blocks.
pub record TreesEndNone : Type 0 where
  pub expr : (x : Expr) (e : Expected) → EndNone ((read_expr x).needs e)
  pub rhs : (x : Rhs) (e : Expected) → EndNone ((read_rhs x).needs e)
  pub stmt : (x : Stmt) (w : Within) → EndNone ((read_stmt x).needs w)
  pub block : (x : Block) (w : Within) → EndNone ((read_block x).needs w)
  pub stmts : (xs : List Stmt) (w : Within) → EndNone (stmts_needs w (map read_stmt xs))

-- where all of these are met, one behind another
abbrev pub DoneIsKept : (List AtomDef → Asked → TypeLimit → Type 0) → Type 0
DoneIsKept passes = (names : Names) (needs : Listed Need) (old new : State) → EndNone needs → all_met (meets passes names) needs old (Gives tt) new → KeepsDone old new
