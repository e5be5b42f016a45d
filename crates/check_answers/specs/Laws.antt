-- What corresponds in two runs.
use Rattle.std.specs.Prelude.{ℕ, Bool, List, All, Option}
use Rattle.bal_base.specs.declared.fault.FaultCode.{FaultCode}
use Rattle.bal_base.specs.declared.place.Place.{Place}
use Rattle.bal_base.specs.declared.text.Text.{Text}
use Rattle.bal_base.specs.declared.text.Name.{Name}
use Rattle.bal_tree.specs.declared.action.Peer.{Peer}
use Rattle.bal_tree.specs.declared.def.ConstDef.{ConstDef}
use Rattle.bal_tree.specs.declared.def.FunctionDef.{FunctionDef}
use Rattle.bal_tree.specs.declared.def.VariableDef.{VariableDef}
use Rattle.bal_tree.specs.declared.def.Worker.{Worker}
use Rattle.bal_tree.specs.declared.name.Literal.{Literal}
use Rattle.bal_tree.specs.declared.name.QualifiedName.{QualifiedName}
use Rattle.bal_tree.specs.declared.name.Word.{Word}
use Rattle.bal_tree.specs.declared.stmt.AssignOp.{AssignOp}
use Rattle.bal_tree.specs.declared.stmt.Pattern.{Pattern}
use Rattle.bal_tree.specs.declared.stmt.RangeOp.{RangeOp}
use Rattle.bal_tree.specs.declared.package.Package.{Package}
use Rattle.bal_tree.specs.declared.types.TypeTree.{TypeTree}
use Rattle.typed_tree.specs.declared.form.Operator.{Operator}
use Rattle.typed_tree.specs.declared.stmt.PerformForm.{PerformForm}
use Rattle.expr_needs.specs.declared.expected.Expected.{Expected}
use Rattle.expr_needs.specs.declared.kind.Kind.{Kind}
use Rattle.checks.specs.Agreement.{Alike, AreTwins}
use Rattle.descriptors.specs.declared.names.Names.{Names}
use Rattle.descriptors.specs.Steps.{AreNames}
use Rattle.type_model.specs.declared.answers.TypeLimit.{TypeLimit}
use Rattle.type_model.specs.declared.atoms.AtomDef.{AtomDef}
use Rattle.type_model.specs.declared.basic.SemType.{SemType}
use Rattle.type_model.specs.Calls.{Asked}
use Rattle.needs.specs.Agreement.{BehindTwins}
use Rattle.needs.specs.Needs.{all_met}
use Rattle.type_model.specs.Defined.{IsEnv}
use Rattle.typed_tree.specs.Listed.{Listed, members}
use Rattle.check_words.specs.Meets.{meets}
use Rattle.check_words.specs.State.{State}
use Rattle.package_checks.specs.Checked.{checked_package, standing}
use Rattle.expr_needs.specs.Needs.{Fails, IsOf, IsWanted, Widens, WantsResult, WantsErrorToo, DropsWant, GivesLiteral, Forms, Decides, IsSort, Adds, Compares, Splits, Switches, Turns, Conjoins, Disjoins, Chooses, FillsNil, Tests, Casts, Checks, ChecksPanicking, Traps, Encloses, Describes, IsAccessed, IsIndex, ReadsElement, ReadsField, ReadsOptional, HasField, ExpectsStored, ReadsStored, ReadsStoredField, ChoosesList, ChoosesMapping, BeginsKeys, GivesKey, TakesKey, ComputesKey, ExpectsItem, ExpectsMember, IsItem, IsDetail, LacksCause, IsMember, Declares, IsAssignable, Assigns, ReadsName, Stores, IsIgnorable, Performs, Stops, Returns, ReturnsNil, Breaks, Continues, BeginsBlock, EndsBlock, MakesBlock, MakesIf, Heads, OpensLoop, MakesWhile, IsItemOfLoop, WidensItem, IsCounter, WantsCounter, HasItem, MakesForeach, MakesRange, CallsValue, CallsMethod, ExpectsArgument, IsArgument, BeginsAnonymous, HasParameter, BeginsValue, IsNew, WaitsForAny, Receives, Sends, SendsAndWaits, Flushes, MakesList, MakesError, WaitsForAll, HasRest, MakesCall, MakesMapping, MakesAnonymous, Starts, GivesNamed, CallsNamed, Awaits, IsOperand, UpdatesName, UpdatesElement, UpdatesField, BeginsMatch, HasPattern, BeginsClause, EndsClause, MakesMatch, EntersFile, NamesParameter, EndsFunction, EndsValueFunction, BeginsWorker, EndsWorker, EndsModule, BeginsInitial, EndsInitial, BeginsFunction, IsConstant, Need, MemberSeen}
use Rattle.check_answers.specs.Answers.{Agrees, PackageTwins, Twins}
use Rattle.check_answers.specs.TwinTypes.{TwinAtoms}

-- a type has the same shapes over atoms that are twins
abbrev pub TwinsOfAtoms : Type 0
TwinsOfAtoms = (m n : List AtomDef) → TwinAtoms m n → (t : SemType) → AreTwins m t n t

module _ (passes : List AtomDef → Asked → TypeLimit → Type 0) (names : Names) where
  -- Literals, operators, conditions, and what is wanted: two runs of each need come to the same.
  pub record ValuesAgree : Type 0 where
    pub fails : (code : FaultCode) (at : Place) → Agrees passes names (Fails code at)
    pub is_of : (kind : Kind) (at : Place) → Agrees passes names (IsOf kind at)
    pub is_wanted : (at : Place) → Agrees passes names (IsWanted at)
    pub widens : (at : Place) → Agrees passes names (Widens at)
    pub wants_result : Agrees passes names WantsResult
    pub wants_error_too : Agrees passes names WantsErrorToo
    pub drops_want : Agrees passes names DropsWant
    pub gives_literal : (l : Literal) → Agrees passes names (GivesLiteral l)
    pub forms : (op : Operator) (count : ℕ) (kind : Kind) (at : Place) → Agrees passes names (Forms op count kind at)
    pub decides : (at : Place) → Agrees passes names (Decides at)
    pub is_sort : (at : Place) → Agrees passes names (IsSort at)
    pub adds : (at : Place) → Agrees passes names (Adds at)
    pub compares : (op : Operator) (at : Place) → Agrees passes names (Compares op at)
    pub splits : (way : Bool) → Agrees passes names (Splits way)
    pub switches : Agrees passes names Switches
    pub turns : (at : Place) → Agrees passes names (Turns at)
    pub conjoins : (at : Place) → Agrees passes names (Conjoins at)
    pub disjoins : (at : Place) → Agrees passes names (Disjoins at)
    pub chooses : (at : Place) → Agrees passes names (Chooses at)
    pub fills_nil : (at : Place) → Agrees passes names (FillsNil at)
    pub tests : (name : Option QualifiedName) (at : Place) → Agrees passes names (Tests name at)
    pub casts : (at : Place) → Agrees passes names (Casts at)
    pub checks : (at : Place) → Agrees passes names (Checks at)
    pub checks_panicking : (at : Place) → Agrees passes names (ChecksPanicking at)
    pub traps : (at : Place) → Agrees passes names (Traps at)
    pub encloses : (at : Place) → Agrees passes names (Encloses at)
    pub describes : (tree : TypeTree) → Agrees passes names (Describes tree)

  -- Reads and stores of members: two runs of each need come to the same.
  pub record MembersAgree : Type 0 where
    pub is_accessed : (texts : Bool) (at : Place) → Agrees passes names (IsAccessed texts at)
    pub is_index : (at : Place) → Agrees passes names (IsIndex at)
    pub reads_element : (at : Place) → Agrees passes names (ReadsElement at)
    pub reads_field : (w : Word) (at : Place) → Agrees passes names (ReadsField w at)
    pub reads_optional : (w : Word) (at : Place) → Agrees passes names (ReadsOptional w at)
    pub has_field : (w : Word) → Agrees passes names (HasField w)
    pub expects_stored : (at : Place) → Agrees passes names (ExpectsStored at)
    pub reads_stored : (at : Place) → Agrees passes names (ReadsStored at)
    pub reads_stored_field : (w : Word) (at : Place) → Agrees passes names (ReadsStoredField w at)

  -- Constructors, but for those that make atoms: two runs of each need come to the same.
  pub record ConstructorsAgree : Type 0 where
    pub chooses_list : (e : Expected) (items : List (Option Literal)) (at : Place) → Agrees passes names (ChoosesList e items at)
    pub chooses_mapping : (e : Expected) (ms : List MemberSeen) (at : Place) → Agrees passes names (ChoosesMapping e ms at)
    pub begins_keys : Agrees passes names BeginsKeys
    pub gives_key : (text : Text) (at : Place) → Agrees passes names (GivesKey text at)
    pub takes_key : (text : Text) (at : Place) → Agrees passes names (TakesKey text at)
    pub computes_key : Agrees passes names ComputesKey
    pub expects_item : Agrees passes names ExpectsItem
    pub expects_member : Agrees passes names ExpectsMember
    pub is_item : (at : Place) → Agrees passes names (IsItem at)
    pub is_detail : (at : Place) → Agrees passes names (IsDetail at)
    pub lacks_cause : (at : Place) → Agrees passes names (LacksCause at)
    pub is_member : (at : Place) → Agrees passes names (IsMember at)

  -- Statements, but for assignments with an operator, branches and loops: two runs of each need come to the same.
  pub record StatementsAgree : Type 0 where
    pub declares : (name : Name) (final assigned : Bool) (at : Place) → Agrees passes names (Declares name final assigned at)
    pub is_assignable : (q : QualifiedName) → Agrees passes names (IsAssignable q)
    pub assigns : (q : QualifiedName) (at : Place) → Agrees passes names (Assigns q at)
    pub reads_name : (q : QualifiedName) → Agrees passes names (ReadsName q)
    pub stores : (at : Place) → Agrees passes names (Stores at)
    pub is_ignorable : (at : Place) → Agrees passes names (IsIgnorable at)
    pub performs : (form : PerformForm) (count : ℕ) (at : Place) → Agrees passes names (Performs form count at)
    pub stops : Agrees passes names Stops
    pub returns : (at : Place) → Agrees passes names (Returns at)
    pub returns_nil : (at : Place) → Agrees passes names (ReturnsNil at)
    pub breaks : (at : Place) → Agrees passes names (Breaks at)
    pub continues : (at : Place) → Agrees passes names (Continues at)
    pub begins_block : Agrees passes names BeginsBlock
    pub ends_block : Agrees passes names EndsBlock
    pub makes_block : (at : Place) → Agrees passes names (MakesBlock at)

  -- Branches and loops: two runs of each need come to the same.
  pub record BranchesAgree : Type 0 where
    pub makes_if : (at : Place) → Agrees passes names (MakesIf at)
    pub heads : (assigned : List Word) → Agrees passes names (Heads assigned)
    pub opens_loop : Agrees passes names OpensLoop
    pub makes_while : (leaves : Bool) (at : Place) → Agrees passes names (MakesWhile leaves at)
    pub is_item_of_loop : (at : Place) → Agrees passes names (IsItemOfLoop at)
    pub widens_item : (at : Place) → Agrees passes names (WidensItem at)
    pub is_counter : (at : Place) → Agrees passes names (IsCounter at)
    pub wants_counter : Agrees passes names WantsCounter
    pub has_item : (name : Name) (assigned : Bool) → Agrees passes names (HasItem name assigned)
    pub makes_foreach : (at : Place) → Agrees passes names (MakesForeach at)
    pub makes_range : (op : RangeOp) (at : Place) → Agrees passes names (MakesRange op at)

  -- Calls and anonymous functions, but for those that add atoms: two runs of each need come to the same.
  pub record CallsAgree : Type 0 where
    pub calls_value : Agrees passes names CallsValue
    pub calls_method : (w : Word) (count : ℕ) (at : Place) → Agrees passes names (CallsMethod w count at)
    pub expects_argument : (at : Place) → Agrees passes names (ExpectsArgument at)
    pub is_argument : (at : Place) → Agrees passes names (IsArgument at)
    pub begins_anonymous : Agrees passes names BeginsAnonymous
    pub has_parameter : (w : Word) → Agrees passes names (HasParameter w)
    pub begins_value : (used : List Word) → Agrees passes names (BeginsValue used)
    pub is_new : (w : Word) → Agrees passes names (IsNew w)

  -- Messages, and waits for one of several workers: two runs of each need come to the same.
  pub record ActionsAgree : Type 0 where
    pub waits_for_any : (qs : List QualifiedName) (at : Place) → Agrees passes names (WaitsForAny qs at)
    pub receives : (e : Expected) (peer : Peer) (at : Place) → Agrees passes names (Receives e peer at)
    pub sends : (peer : Peer) (at : Place) → Agrees passes names (Sends peer at)
    pub sends_and_waits : (peer : Peer) (at : Place) → Agrees passes names (SendsAndWaits peer at)
    pub flushes : (peer : Peer) (at : Place) → Agrees passes names (Flushes peer at)

  -- Lists, mappings and errors that are made, anonymous functions, calls, calls that are started, waits for several, and what takes the rest of arguments, with their atoms: two runs of each need come to the same.
  pub record MadeAtomsAgree : Type 0 where
    pub makes_list : (count : ℕ) (at : Place) → Agrees passes names (MakesList count at)
    pub makes_error : (count : ℕ) (at : Place) → Agrees passes names (MakesError count at)
    pub waits_for_all : (qs : List QualifiedName) (at : Place) → Agrees passes names (WaitsForAll qs at)
    pub has_rest : (w : Word) → Agrees passes names (HasRest w)
    pub makes_call : (at : Place) → Agrees passes names (MakesCall at)
    pub makes_mapping : (count : ℕ) (at : Place) → Agrees passes names (MakesMapping count at)
    pub makes_anonymous : (isolated : Bool) (at : Place) → Agrees passes names (MakesAnonymous isolated at)
    pub starts : (here at : Place) → Agrees passes names (Starts here at)

  -- Names as values, in calls and in waits: two runs of each need come to the same.
  pub record NamesAgree : Type 0 where
    pub gives_named : (q : QualifiedName) → Agrees passes names (GivesNamed q)
    pub calls_named : (started : Bool) (q : QualifiedName) (count : ℕ) (at : Place) → Agrees passes names (CallsNamed started q count at)
    pub awaits : (q : QualifiedName) → Agrees passes names (Awaits q)

  -- Assignments with an operator: two runs of each need come to the same.
  pub record UpdatesAgree : Type 0 where
    pub is_operand : (op : AssignOp) (at : Place) → Agrees passes names (IsOperand op at)
    pub updates_name : (q : QualifiedName) (op : AssignOp) (at : Place) → Agrees passes names (UpdatesName q op at)
    pub updates_element : (op : AssignOp) (at : Place) → Agrees passes names (UpdatesElement op at)
    pub updates_field : (w : Word) (op : AssignOp) (at : Place) → Agrees passes names (UpdatesField w op at)

  -- Matches: two runs of each need come to the same.
  pub record MatchesAgree : Type 0 where
    pub begins_match : (name : Option QualifiedName) (at : Place) → Agrees passes names (BeginsMatch name at)
    pub has_pattern : (p : Pattern) → Agrees passes names (HasPattern p)
    pub begins_clause : (any : Bool) → Agrees passes names (BeginsClause any)
    pub ends_clause : (at : Place) → Agrees passes names (EndsClause at)
    pub makes_match : (any : Bool) (at : Place) → Agrees passes names (MakesMatch any at)

  -- Files, modules, their variables, functions that end, parameters and workers: two runs of each need come to the same.
  pub record UnitsAgree : Type 0 where
    pub enters_file : (k file : ℕ) → Agrees passes names (EntersFile k file)
    pub names_parameter : (w : Word) (assigned : Bool) → Agrees passes names (NamesParameter w assigned)
    pub ends_function : (d : FunctionDef) (close : Place) → Agrees passes names (EndsFunction d close)
    pub ends_value_function : (d : FunctionDef) → Agrees passes names (EndsValueFunction d)
    pub begins_worker : (w : Worker) (number : ℕ) (used : List Word) → Agrees passes names (BeginsWorker w number used)
    pub ends_worker : (w : Worker) (close : Place) → Agrees passes names (EndsWorker w close)
    pub ends_module : (k : ℕ) → Agrees passes names (EndsModule k)
    pub begins_initial : (d : VariableDef) (kept : Bool) → Agrees passes names (BeginsInitial d kept)
    pub ends_initial : (d : VariableDef) (kept : Bool) → Agrees passes names (EndsInitial d kept)
    pub begins_function : (def : FunctionDef) → Agrees passes names (BeginsFunction def)
    pub is_constant : (def : ConstDef) → Agrees passes names (IsConstant def)

  -- all of these needs, one behind another, where two runs of each come to the same
  abbrev pub LinesAgree : Type 0
  LinesAgree =
      (needs : Listed Need) → All (Agrees passes names) (members needs) → (s t : State) → Twins names s t
      → Alike (BehindTwins (Twins names) (standing names (meets passes names))) s t (all_met (standing names (meets passes names)) needs)
      (all_met (standing names (meets passes names)) needs)

  -- two runs of any needs come to the same
  abbrev pub AllLinesAgree : Type 0
  AllLinesAgree =
      (needs : Listed Need) (s t : State) → Twins names s t
      → Alike (BehindTwins (Twins names) (standing names (meets passes names))) s t (all_met (standing names (meets passes names)) needs)
      (all_met (standing names (meets passes names)) needs)

  -- Two runs over a package from the same atoms: both give the same typed package but for how its types are written, or both refuse with one
  -- code at one place, but for a limit that either may meet. So one that gives a package and one that refuses it, but for a limit, exclude
  -- each other.
  abbrev pub PackagesAgree : Type 0
  PackagesAgree =
      (p : Package) (env : List AtomDef) → IsEnv env → AreNames env names
      → Alike PackageTwins env env (checked_package passes names p) (checked_package passes names p)

-- whatever the names of the package stand for
module _ (passes : List AtomDef → Asked → TypeLimit → Type 0) where
  abbrev pub ValuesAgreeAlways : Type 0
  ValuesAgreeAlways = (names : Names) → ValuesAgree passes names

  abbrev pub MembersAgreeAlways : Type 0
  MembersAgreeAlways = (names : Names) → MembersAgree passes names

  abbrev pub ConstructorsAgreeAlways : Type 0
  ConstructorsAgreeAlways = (names : Names) → ConstructorsAgree passes names

  abbrev pub StatementsAgreeAlways : Type 0
  StatementsAgreeAlways = (names : Names) → StatementsAgree passes names

  abbrev pub BranchesAgreeAlways : Type 0
  BranchesAgreeAlways = (names : Names) → BranchesAgree passes names

  abbrev pub CallsAgreeAlways : Type 0
  CallsAgreeAlways = (names : Names) → CallsAgree passes names

  abbrev pub ActionsAgreeAlways : Type 0
  ActionsAgreeAlways = (names : Names) → ActionsAgree passes names

  abbrev pub MadeAtomsAgreeAlways : Type 0
  MadeAtomsAgreeAlways = (names : Names) → MadeAtomsAgree passes names

  abbrev pub NamesAgreeAlways : Type 0
  NamesAgreeAlways = (names : Names) → NamesAgree passes names

  abbrev pub UpdatesAgreeAlways : Type 0
  UpdatesAgreeAlways = (names : Names) → UpdatesAgree passes names

  abbrev pub MatchesAgreeAlways : Type 0
  MatchesAgreeAlways = (names : Names) → MatchesAgree passes names

  abbrev pub UnitsAgreeAlways : Type 0
  UnitsAgreeAlways = (names : Names) → UnitsAgree passes names

  abbrev pub LinesAgreeAlways : Type 0
  LinesAgreeAlways = (names : Names) → LinesAgree passes names

  abbrev pub AllLinesAgreeAlways : Type 0
  AllLinesAgreeAlways = (names : Names) → AllLinesAgree passes names

  abbrev pub PackagesAgreeAlways : Type 0
  PackagesAgreeAlways = (names : Names) → PackagesAgree passes names
