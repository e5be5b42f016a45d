-- Each need, and lines of them.
use Rattle.std.proofs.Common.{List, [], ◌∷◌, All}
use Rattle.std.proofs.lemmas.List.Elements.{All-cons, All-nil}
use Rattle.descriptors.specs.declared.names.Names.{Names}
use Rattle.type_model.specs.declared.answers.TypeLimit.{TypeLimit}
use Rattle.type_model.specs.declared.atoms.AtomDef.{AtomDef}
use Rattle.type_model.specs.Calls.{Asked}
use Rattle.typed_tree.specs.Listed.{members}
use Rattle.expr_needs.specs.Needs.{Need, Fails, IsOf, IsWanted, Widens, WantsResult, WantsErrorToo, DropsWant, GivesLiteral, Forms, Decides, IsSort, Adds, Compares, Splits, Switches, Turns, Conjoins, Disjoins, Chooses, FillsNil, Tests, Casts, Checks, ChecksPanicking, Traps, Encloses, Describes, IsAccessed, IsIndex, ReadsElement, ReadsField, ReadsOptional, HasField, ExpectsStored, ReadsStored, ReadsStoredField, ChoosesList, ChoosesMapping, BeginsKeys, GivesKey, TakesKey, ComputesKey, ExpectsItem, ExpectsMember, IsItem, IsDetail, LacksCause, IsMember, Declares, IsAssignable, Assigns, ReadsName, Stores, IsIgnorable, Performs, Stops, Returns, ReturnsNil, Breaks, Continues, BeginsBlock, EndsBlock, MakesBlock, MakesIf, Heads, OpensLoop, MakesWhile, IsItemOfLoop, WidensItem, IsCounter, WantsCounter, HasItem, MakesForeach, MakesRange, CallsValue, CallsMethod, ExpectsArgument, IsArgument, BeginsAnonymous, HasParameter, BeginsValue, IsNew, WaitsForAny, Receives, Sends, SendsAndWaits, Flushes, MakesList, MakesError, WaitsForAll, HasRest, MakesCall, MakesMapping, MakesAnonymous, Starts, GivesNamed, CallsNamed, Awaits, IsOperand, UpdatesName, UpdatesElement, UpdatesField, BeginsMatch, HasPattern, BeginsClause, EndsClause, MakesMatch, EntersFile, NamesParameter, EndsFunction, EndsValueFunction, BeginsWorker, EndsWorker, EndsModule, BeginsInitial, EndsInitial, BeginsFunction, IsConstant}
use Rattle.check_answers.specs.Answers.{Agrees}
use Rattle.check_answers.specs.Laws.{AllLinesAgree}
use Rattle.check_answers.proofs.EachValue.{values-agree}
use Rattle.check_answers.proofs.EachMember.{members-agree}
use Rattle.check_answers.proofs.EachConstructor.{constructors-agree}
use Rattle.check_answers.proofs.EachStatement.{statements-agree}
use Rattle.check_answers.proofs.EachBranch.{branches-agree}
use Rattle.check_answers.proofs.EachCall.{calls-agree}
use Rattle.check_answers.proofs.EachAction.{actions-agree}
use Rattle.check_answers.proofs.EachMadeAtom.{made-atoms-agree}
use Rattle.check_answers.proofs.EachName.{names-agree}
use Rattle.check_answers.proofs.EachUpdate.{updates-agree}
use Rattle.check_answers.proofs.EachMatch.{matches-agree}
use Rattle.check_answers.proofs.EachUnit.{units-agree}
use Rattle.check_answers.proofs.Lines.{lines-agree}

module _ (passes : List AtomDef → Asked → TypeLimit → Type 0) (names : Names) where
  need-agrees : (need : Need) → Agrees passes names need
  need-agrees (Fails code at) = (values-agree passes names).fails code at
  need-agrees (IsOf kind at) = (values-agree passes names).is_of kind at
  need-agrees (IsWanted at) = (values-agree passes names).is_wanted at
  need-agrees (Widens at) = (values-agree passes names).widens at
  need-agrees WantsResult = (values-agree passes names).wants_result
  need-agrees WantsErrorToo = (values-agree passes names).wants_error_too
  need-agrees DropsWant = (values-agree passes names).drops_want
  need-agrees (GivesLiteral l) = (values-agree passes names).gives_literal l
  need-agrees (Forms op count kind at) = (values-agree passes names).forms op count kind at
  need-agrees (Decides at) = (values-agree passes names).decides at
  need-agrees (IsSort at) = (values-agree passes names).is_sort at
  need-agrees (Adds at) = (values-agree passes names).adds at
  need-agrees (Compares op at) = (values-agree passes names).compares op at
  need-agrees (Splits way) = (values-agree passes names).splits way
  need-agrees Switches = (values-agree passes names).switches
  need-agrees (Turns at) = (values-agree passes names).turns at
  need-agrees (Conjoins at) = (values-agree passes names).conjoins at
  need-agrees (Disjoins at) = (values-agree passes names).disjoins at
  need-agrees (Chooses at) = (values-agree passes names).chooses at
  need-agrees (FillsNil at) = (values-agree passes names).fills_nil at
  need-agrees (Tests name at) = (values-agree passes names).tests name at
  need-agrees (Casts at) = (values-agree passes names).casts at
  need-agrees (Checks at) = (values-agree passes names).checks at
  need-agrees (ChecksPanicking at) = (values-agree passes names).checks_panicking at
  need-agrees (Traps at) = (values-agree passes names).traps at
  need-agrees (Encloses at) = (values-agree passes names).encloses at
  need-agrees (Describes tree) = (values-agree passes names).describes tree
  need-agrees (IsAccessed texts at) = (members-agree passes names).is_accessed texts at
  need-agrees (IsIndex at) = (members-agree passes names).is_index at
  need-agrees (ReadsElement at) = (members-agree passes names).reads_element at
  need-agrees (ReadsField w at) = (members-agree passes names).reads_field w at
  need-agrees (ReadsOptional w at) = (members-agree passes names).reads_optional w at
  need-agrees (HasField w) = (members-agree passes names).has_field w
  need-agrees (ExpectsStored at) = (members-agree passes names).expects_stored at
  need-agrees (ReadsStored at) = (members-agree passes names).reads_stored at
  need-agrees (ReadsStoredField w at) = (members-agree passes names).reads_stored_field w at
  need-agrees (ChoosesList e items at) = (constructors-agree passes names).chooses_list e items at
  need-agrees (ChoosesMapping e ms at) = (constructors-agree passes names).chooses_mapping e ms at
  need-agrees BeginsKeys = (constructors-agree passes names).begins_keys
  need-agrees (GivesKey text at) = (constructors-agree passes names).gives_key text at
  need-agrees (TakesKey text at) = (constructors-agree passes names).takes_key text at
  need-agrees ComputesKey = (constructors-agree passes names).computes_key
  need-agrees ExpectsItem = (constructors-agree passes names).expects_item
  need-agrees ExpectsMember = (constructors-agree passes names).expects_member
  need-agrees (IsItem at) = (constructors-agree passes names).is_item at
  need-agrees (IsDetail at) = (constructors-agree passes names).is_detail at
  need-agrees (LacksCause at) = (constructors-agree passes names).lacks_cause at
  need-agrees (IsMember at) = (constructors-agree passes names).is_member at
  need-agrees (Declares name final assigned at) = (statements-agree passes names).declares name final assigned at
  need-agrees (IsAssignable q) = (statements-agree passes names).is_assignable q
  need-agrees (Assigns q at) = (statements-agree passes names).assigns q at
  need-agrees (ReadsName q) = (statements-agree passes names).reads_name q
  need-agrees (Stores at) = (statements-agree passes names).stores at
  need-agrees (IsIgnorable at) = (statements-agree passes names).is_ignorable at
  need-agrees (Performs form count at) = (statements-agree passes names).performs form count at
  need-agrees Stops = (statements-agree passes names).stops
  need-agrees (Returns at) = (statements-agree passes names).returns at
  need-agrees (ReturnsNil at) = (statements-agree passes names).returns_nil at
  need-agrees (Breaks at) = (statements-agree passes names).breaks at
  need-agrees (Continues at) = (statements-agree passes names).continues at
  need-agrees BeginsBlock = (statements-agree passes names).begins_block
  need-agrees EndsBlock = (statements-agree passes names).ends_block
  need-agrees (MakesBlock at) = (statements-agree passes names).makes_block at
  need-agrees (MakesIf at) = (branches-agree passes names).makes_if at
  need-agrees (Heads assigned) = (branches-agree passes names).heads assigned
  need-agrees OpensLoop = (branches-agree passes names).opens_loop
  need-agrees (MakesWhile leaves at) = (branches-agree passes names).makes_while leaves at
  need-agrees (IsItemOfLoop at) = (branches-agree passes names).is_item_of_loop at
  need-agrees (WidensItem at) = (branches-agree passes names).widens_item at
  need-agrees (IsCounter at) = (branches-agree passes names).is_counter at
  need-agrees WantsCounter = (branches-agree passes names).wants_counter
  need-agrees (HasItem name assigned) = (branches-agree passes names).has_item name assigned
  need-agrees (MakesForeach at) = (branches-agree passes names).makes_foreach at
  need-agrees (MakesRange op at) = (branches-agree passes names).makes_range op at
  need-agrees CallsValue = (calls-agree passes names).calls_value
  need-agrees (CallsMethod w count at) = (calls-agree passes names).calls_method w count at
  need-agrees (ExpectsArgument at) = (calls-agree passes names).expects_argument at
  need-agrees (IsArgument at) = (calls-agree passes names).is_argument at
  need-agrees BeginsAnonymous = (calls-agree passes names).begins_anonymous
  need-agrees (HasParameter w) = (calls-agree passes names).has_parameter w
  need-agrees (BeginsValue used) = (calls-agree passes names).begins_value used
  need-agrees (IsNew w) = (calls-agree passes names).is_new w
  need-agrees (WaitsForAny qs at) = (actions-agree passes names).waits_for_any qs at
  need-agrees (Receives e peer at) = (actions-agree passes names).receives e peer at
  need-agrees (Sends peer at) = (actions-agree passes names).sends peer at
  need-agrees (SendsAndWaits peer at) = (actions-agree passes names).sends_and_waits peer at
  need-agrees (Flushes peer at) = (actions-agree passes names).flushes peer at
  need-agrees (MakesList count at) = (made-atoms-agree passes names).makes_list count at
  need-agrees (MakesError count at) = (made-atoms-agree passes names).makes_error count at
  need-agrees (WaitsForAll qs at) = (made-atoms-agree passes names).waits_for_all qs at
  need-agrees (HasRest w) = (made-atoms-agree passes names).has_rest w
  need-agrees (MakesCall at) = (made-atoms-agree passes names).makes_call at
  need-agrees (MakesMapping count at) = (made-atoms-agree passes names).makes_mapping count at
  need-agrees (MakesAnonymous isolated at) = (made-atoms-agree passes names).makes_anonymous isolated at
  need-agrees (Starts here at) = (made-atoms-agree passes names).starts here at
  need-agrees (GivesNamed q) = (names-agree passes names).gives_named q
  need-agrees (CallsNamed started q count at) = (names-agree passes names).calls_named started q count at
  need-agrees (Awaits q) = (names-agree passes names).awaits q
  need-agrees (IsOperand op at) = (updates-agree passes names).is_operand op at
  need-agrees (UpdatesName q op at) = (updates-agree passes names).updates_name q op at
  need-agrees (UpdatesElement op at) = (updates-agree passes names).updates_element op at
  need-agrees (UpdatesField w op at) = (updates-agree passes names).updates_field w op at
  need-agrees (BeginsMatch name at) = (matches-agree passes names).begins_match name at
  need-agrees (HasPattern p) = (matches-agree passes names).has_pattern p
  need-agrees (BeginsClause any) = (matches-agree passes names).begins_clause any
  need-agrees (EndsClause at) = (matches-agree passes names).ends_clause at
  need-agrees (MakesMatch any at) = (matches-agree passes names).makes_match any at
  need-agrees (EntersFile k file) = (units-agree passes names).enters_file k file
  need-agrees (NamesParameter w assigned) = (units-agree passes names).names_parameter w assigned
  need-agrees (EndsFunction d close) = (units-agree passes names).ends_function d close
  need-agrees (EndsValueFunction d) = (units-agree passes names).ends_value_function d
  need-agrees (BeginsWorker w number used) = (units-agree passes names).begins_worker w number used
  need-agrees (EndsWorker w close) = (units-agree passes names).ends_worker w close
  need-agrees (EndsModule k) = (units-agree passes names).ends_module k
  need-agrees (BeginsInitial d kept) = (units-agree passes names).begins_initial d kept
  need-agrees (EndsInitial d kept) = (units-agree passes names).ends_initial d kept
  need-agrees (BeginsFunction def) = (units-agree passes names).begins_function def
  need-agrees (IsConstant def) = (units-agree passes names).is_constant def

  every : {A : Type 0} (P : A → Type 0) → ((a : A) → P a) → (xs : List A) → All P xs
  every P f [] = All-nil P
  every P f (x ∷ xs) = All-cons P x xs (f x) (every P f xs)

  pub all-lines-agree : AllLinesAgree passes names
  all-lines-agree needs = lines-agree passes names needs (every (Agrees passes names) need-agrees (members needs))
