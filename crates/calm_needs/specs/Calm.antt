-- What needs of expressions and actions keep: the units of anonymous functions in the parts, and that variables that are seen are in slots of their declared types.
use Rattle.std.specs.Prelude.{◌≡◌, ◌++◌, Bool, List, [], ◌∷◌, IfSome, Option, ⊤}
use Rattle.std.specs.List.{AllZip}
use Rattle.bal_base.specs.declared.place.Place.{Place}
use Rattle.bal_tree.specs.declared.name.QualifiedName.{QualifiedName}
use Rattle.checks.specs.Checks.{Gives}
use Rattle.descriptors.specs.declared.names.Names.{Names}
use Rattle.operations.specs.Rows.{Surroundings}
use Rattle.type_model.specs.declared.answers.TypeLimit.{TypeLimit}
use Rattle.type_model.specs.declared.atoms.AtomDef.{AtomDef}
use Rattle.type_model.specs.Calls.{Asked}
use Rattle.expr_needs.specs.Needs.{Need, Fails, IsOf, IsWanted, Describes, Widens, WantsResult, WantsErrorToo, DropsWant, GivesLiteral, GivesNamed, Forms, Decides, IsSort, Adds, Compares, Splits, Switches, Turns, Conjoins, Disjoins, Chooses, FillsNil, Tests, Casts, Checks, ChecksPanicking, Traps, Encloses, IsAccessed, IsIndex, ReadsElement, ReadsField, ReadsOptional, ChoosesList, ChoosesMapping, BeginsKeys, GivesKey, TakesKey, ComputesKey, ExpectsItem, ExpectsMember, IsItem, IsMember, IsDetail, LacksCause, MakesList, MakesMapping, MakesError, CallsNamed, CallsValue, CallsMethod, ExpectsArgument, IsArgument, MakesCall, Starts, BeginsAnonymous, HasParameter, HasRest, BeginsValue, MakesAnonymous, Awaits, WaitsForAny, WaitsForAll, Receives, Sends, SendsAndWaits, Flushes, IsNew, Declares, IsAssignable, Assigns, HasField, ExpectsStored, Stores, ReadsName, ReadsStored, ReadsStoredField, IsOperand, UpdatesName, UpdatesElement, UpdatesField, IsIgnorable, Performs, Stops, Returns, ReturnsNil, Breaks, Continues, BeginsBlock, EndsBlock, MakesBlock, MakesIf, Heads, OpensLoop, MakesWhile, IsItemOfLoop, WidensItem, IsCounter, WantsCounter, HasItem, MakesForeach, MakesRange, BeginsMatch, HasPattern, BeginsClause, EndsClause, MakesMatch, EntersFile, BeginsFunction, NamesParameter, EndsFunction, EndsValueFunction, BeginsWorker, EndsWorker, BeginsInitial, EndsInitial, EndsModule, IsConstant}
use Rattle.check_words.specs.Meets.{meets}
use Rattle.check_words.specs.Sharing.{SameFlow}
use Rattle.check_words.specs.State.{ChoiceAtWork, IsLast, State, UnitAtWork, all_but}
use Rattle.flow_narrowing.specs.Flows.{IsSameVariable}
use Rattle.flow_narrowing.specs.declared.flow.Flow.{Flow}
use Rattle.flow_narrowing.specs.declared.flow.Variable.{Variable}
use Rattle.typed_needs.specs.Between.{FlowIsStored, WaysAreStored, units_in}
use Rattle.typed_needs.specs.Going.{IsSameUnit}
use Rattle.typed_needs.specs.Placing.{AreStored}

-- what is known at hand, and what is known where the last part holds and where it doesn't, is of variables in slots of their declared types
pub record IsStoredAt (place : Surroundings) (s : State) : Type 0 where
  pub stored : AreStored place s
  pub ways : IfSome s.ways (WaysAreStored place)

-- atoms come behind those that are there, and no unit comes or goes: each is the same one, with slots behind its own
pub record StaysOn (old new : State) : Type 0 where
  pub more : List AtomDef
  pub atoms : new.atoms ≡ old.atoms ++ more
  pub each : AllZip IsSameUnit old.units new.units

-- ---- what is known of variables

-- the flow knows of these variables, in this order
abbrev pub IsFlowOf : List Variable → Flow → Type 0
IsFlowOf vs f = AllZip IsSameVariable vs f.variables

abbrev pub SameKnown : UnitAtWork → UnitAtWork → Type 0
SameKnown u v = SameFlow u.flow v.flow

-- these variables are seen in the unit at hand
abbrev pub HandSees : List Variable → State → Type 0
HandSees vs s = (u : UnitAtWork) → IsLast s.units u → IsFlowOf vs u.flow

-- if the last part is a condition, what it says is of these variables
abbrev pub TellsOf : List Variable → State → Type 0
TellsOf vs s = IfSome s.ways (λ w. IsFlowOf vs w.yes × IsFlowOf vs w.no)

-- In each unit the same is known of variables, by other handles maybe; the same ways are open; and what the last part says stays of the variables that are seen.
pub record KeepsFlows (old new : State) : Type 0 where
  pub flows : AllZip SameKnown old.units new.units
  pub choices : new.choices ≡ old.choices
  pub tells : (vs : List Variable) → HandSees vs old → TellsOf vs old → TellsOf vs new

-- ---- calm needs

-- the units in the parts are the same, in the same order, what is stored stays so, and the same is known of variables
pub record IsCalm (old new : State) : Type 0 where
  pub on : StaysOn old new
  pub units : units_in new.found ≡ units_in old.found
  pub stored : (place : Surroundings) → IsStoredAt place old → IsStoredAt place new
  pub keeps : KeepsFlows old new

-- The needs of expressions and actions, but for those that enter a way or leave one, and those of anonymous functions.
abbrev pub IsCalmNeed : Need → Type 0
IsCalmNeed (Fails code at) = ⊥
IsCalmNeed (IsOf kind at) = ⊤
IsCalmNeed (IsWanted at) = ⊤
IsCalmNeed (Describes tree) = ⊤
IsCalmNeed (Widens at) = ⊤
IsCalmNeed WantsResult = ⊤
IsCalmNeed WantsErrorToo = ⊤
IsCalmNeed DropsWant = ⊤
IsCalmNeed (GivesLiteral l) = ⊤
IsCalmNeed (GivesNamed q) = ⊤
IsCalmNeed (Forms op count kind at) = ⊤
IsCalmNeed (Decides at) = ⊤
IsCalmNeed (IsSort at) = ⊤
IsCalmNeed (Adds at) = ⊤
IsCalmNeed (Compares op at) = ⊤
IsCalmNeed (Splits way) = ⊥
IsCalmNeed Switches = ⊥
IsCalmNeed (Turns at) = ⊥
IsCalmNeed (Conjoins at) = ⊥
IsCalmNeed (Disjoins at) = ⊥
IsCalmNeed (Chooses at) = ⊥
IsCalmNeed (FillsNil at) = ⊤
IsCalmNeed (Tests name at) = ⊥
IsCalmNeed (Casts at) = ⊤
IsCalmNeed (Checks at) = ⊤
IsCalmNeed (ChecksPanicking at) = ⊤
IsCalmNeed (Traps at) = ⊤
IsCalmNeed (Encloses at) = ⊥
IsCalmNeed (IsAccessed texts at) = ⊤
IsCalmNeed (IsIndex at) = ⊤
IsCalmNeed (ReadsElement at) = ⊤
IsCalmNeed (ReadsField w at) = ⊤
IsCalmNeed (ReadsOptional w at) = ⊤
IsCalmNeed (ChoosesList e items at) = ⊤
IsCalmNeed (ChoosesMapping e members at) = ⊤
IsCalmNeed BeginsKeys = ⊤
IsCalmNeed (GivesKey text at) = ⊤
IsCalmNeed (TakesKey text at) = ⊤
IsCalmNeed ComputesKey = ⊤
IsCalmNeed ExpectsItem = ⊤
IsCalmNeed ExpectsMember = ⊤
IsCalmNeed (IsItem at) = ⊤
IsCalmNeed (IsMember at) = ⊤
IsCalmNeed (IsDetail at) = ⊤
IsCalmNeed (LacksCause at) = ⊤
IsCalmNeed (MakesList count at) = ⊤
IsCalmNeed (MakesMapping count at) = ⊤
IsCalmNeed (MakesError count at) = ⊤
IsCalmNeed (CallsNamed started q count at) = ⊤
IsCalmNeed CallsValue = ⊤
IsCalmNeed (CallsMethod w count at) = ⊤
IsCalmNeed (ExpectsArgument at) = ⊤
IsCalmNeed (IsArgument at) = ⊤
IsCalmNeed (MakesCall at) = ⊤
IsCalmNeed (Starts here at) = ⊤
IsCalmNeed BeginsAnonymous = ⊥
IsCalmNeed (HasParameter w) = ⊥
IsCalmNeed (HasRest w) = ⊥
IsCalmNeed (BeginsValue used) = ⊥
IsCalmNeed (MakesAnonymous isolated at) = ⊥
IsCalmNeed (Awaits q) = ⊤
IsCalmNeed (WaitsForAny qs at) = ⊤
IsCalmNeed (WaitsForAll qs at) = ⊤
IsCalmNeed (Receives e peer at) = ⊤
IsCalmNeed (Sends peer at) = ⊤
IsCalmNeed (SendsAndWaits peer at) = ⊤
IsCalmNeed (Flushes peer at) = ⊤
IsCalmNeed (IsNew w) = ⊥
IsCalmNeed (Declares name final assigned at) = ⊥
IsCalmNeed (IsAssignable q) = ⊥
IsCalmNeed (Assigns q at) = ⊥
IsCalmNeed (HasField w) = ⊥
IsCalmNeed (ExpectsStored at) = ⊥
IsCalmNeed (Stores at) = ⊥
IsCalmNeed (ReadsName q) = ⊥
IsCalmNeed (ReadsStored at) = ⊥
IsCalmNeed (ReadsStoredField w at) = ⊥
IsCalmNeed (IsOperand op at) = ⊥
IsCalmNeed (UpdatesName q op at) = ⊥
IsCalmNeed (UpdatesElement op at) = ⊥
IsCalmNeed (UpdatesField w op at) = ⊥
IsCalmNeed (IsIgnorable at) = ⊥
IsCalmNeed (Performs form count at) = ⊥
IsCalmNeed Stops = ⊥
IsCalmNeed (Returns at) = ⊥
IsCalmNeed (ReturnsNil at) = ⊥
IsCalmNeed (Breaks at) = ⊥
IsCalmNeed (Continues at) = ⊥
IsCalmNeed BeginsBlock = ⊥
IsCalmNeed EndsBlock = ⊥
IsCalmNeed (MakesBlock at) = ⊥
IsCalmNeed (MakesIf at) = ⊥
IsCalmNeed (Heads assigned) = ⊥
IsCalmNeed OpensLoop = ⊥
IsCalmNeed (MakesWhile leaves at) = ⊥
IsCalmNeed (IsItemOfLoop at) = ⊥
IsCalmNeed (WidensItem at) = ⊥
IsCalmNeed (IsCounter at) = ⊥
IsCalmNeed WantsCounter = ⊥
IsCalmNeed (HasItem name assigned) = ⊥
IsCalmNeed (MakesForeach at) = ⊥
IsCalmNeed (MakesRange op at) = ⊥
IsCalmNeed (BeginsMatch name at) = ⊥
IsCalmNeed (HasPattern p) = ⊥
IsCalmNeed (BeginsClause any) = ⊥
IsCalmNeed (EndsClause at) = ⊥
IsCalmNeed (MakesMatch any at) = ⊥
IsCalmNeed (EntersFile m file) = ⊥
IsCalmNeed (BeginsFunction d) = ⊥
IsCalmNeed (NamesParameter w assigned) = ⊥
IsCalmNeed (EndsFunction d close) = ⊥
IsCalmNeed (EndsValueFunction d) = ⊥
IsCalmNeed (BeginsWorker w number uses) = ⊥
IsCalmNeed (EndsWorker w close) = ⊥
IsCalmNeed (BeginsInitial d kept) = ⊥
IsCalmNeed (EndsInitial d kept) = ⊥
IsCalmNeed (EndsModule m) = ⊥
IsCalmNeed (IsConstant d) = ⊥

-- ---- ways that are entered and left

-- the flow before a choice, that of the way that isn't entered, and where the first way has come to
pub record ChoiceIsStored (place : Surroundings) (c : ChoiceAtWork) : Type 0 where
  pub before : FlowIsStored place c.before
  pub other : FlowIsStored place c.other
  pub first : FlowIsStored place c.first

module _ (place : Surroundings) where
  -- a choice is opened
  pub record OpensChoice (old new : State) : Type 0 where
    pub choice : ChoiceAtWork
    pub choices : new.choices ≡ old.choices ++ choice ∷ []
    pub is_stored : ChoiceIsStored place choice
    pub stored : IsStoredAt place new
    pub found : new.found ≡ old.found
    pub on : StaysOn old new

  -- the last one is another one then
  pub record ChangesChoice (old new : State) : Type 0 where
    pub choice : ChoiceAtWork
    pub choices : new.choices ≡ all_but 1 old.choices ++ choice ∷ []
    pub is_stored : ChoiceIsStored place choice
    pub stored : IsStoredAt place new
    pub found : new.found ≡ old.found
    pub on : StaysOn old new

  -- the last one is closed
  pub record ClosesChoice (old new : State) : Type 0 where
    pub choices : new.choices ≡ all_but 1 old.choices
    pub stored : IsStoredAt place new
    pub units : units_in new.found ≡ units_in old.found
    pub on : StaysOn old new

module _ (passes : List AtomDef → Asked → TypeLimit → Type 0) (names : Names) where
  abbrev pub Meets : Need → State → State → Type 0
  Meets need old new = meets passes names need old (Gives tt) new

  abbrev pub IsQuiet : Need → Type 0
  IsQuiet need = (old new : State) → Meets need old new → IsCalm old new

  abbrev pub IsLeft : Need → Type 0
  IsLeft need =
      (place : Surroundings) (old new : State) (c : ChoiceAtWork) → IsStoredAt place old → Meets need old new → IsLast old.choices c → ChoiceIsStored place c
      → ClosesChoice place old new

  pub record NeedsAreCalm : Type 0 where
    pub calm : (need : Need) → IsCalmNeed need → IsQuiet need
    -- tests, negations and parentheses say something of variables
    pub tests : (name : Option QualifiedName) (at : Place) → IsQuiet (Tests name at)
    pub turns : (at : Place) → IsQuiet (Turns at)
    pub encloses : (at : Place) → IsQuiet (Encloses at)
    pub splits : (way : Bool) (place : Surroundings) (old new : State) → IsStoredAt place old → Meets (Splits way) old new → OpensChoice place old new
    pub switches : (place : Surroundings) (old new : State) (c : ChoiceAtWork) → IsStoredAt place old → Meets Switches old new → IsLast old.choices c
        → ChoiceIsStored place c → ChangesChoice place old new
    pub conjoins : (at : Place) → IsLeft (Conjoins at)
    pub disjoins : (at : Place) → IsLeft (Disjoins at)
    pub chooses : (at : Place) → IsLeft (Chooses at)

abbrev pub AllNeedsAreCalm : (List AtomDef → Asked → TypeLimit → Type 0) → Type 0
AllNeedsAreCalm passes = (names : Names) → NeedsAreCalm passes names
