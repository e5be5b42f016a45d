-- What it means that each need is met. `passes`: which questions about types pass a limit; `names`: what the names of the package
-- stand for.
use Rattle.std.specs.Prelude.{true, List}
use Rattle.descriptors.specs.declared.names.Names.{Names}
use Rattle.type_model.specs.declared.answers.TypeLimit.{TypeLimit}
use Rattle.type_model.specs.declared.atoms.AtomDef.{AtomDef}
use Rattle.type_model.specs.Calls.{Asked}
use Rattle.check_words.specs.Actions.{receives, awaits, flushes, sends, sends_and_waits, waits_for_all, waits_for_any}
use Rattle.check_words.specs.Branches.{begins_clause, begins_match, ends_clause, has_item, has_pattern, heads, is_counter, is_item_of_loop, makes_foreach, makes_if, makes_match, makes_range, makes_while, opens_loop, wants_counter, widens_item}
use Rattle.check_words.specs.Calls.{begins_anonymous, begins_value, calls_method, calls_named, calls_value, expects_argument, has_parameter, has_rest, is_argument, is_new, makes_anonymous, makes_call, starts}
use Rattle.check_words.specs.Constructors.{ListFits, MappingFits, begins_keys, chooses_constructor, computes_key, expects_item, expects_member, gives_new_key, is_detail, is_item, is_member, lacks_cause, makes_error, makes_list, makes_mapping, takes_key}
use Rattle.check_words.specs.Members.{expects_stored, has_field, is_accessed, is_index, reads_accessed, reads_field, reads_optional, reads_stored, reads_stored_field}
use Rattle.check_words.specs.Statements.{assigns, begins_block, breaks, continues, declares, ends_block, is_assignable, is_ignorable, is_operand, makes_block, performs, reads_name, returns, returns_nil, stops, stores, updates_element, updates_field, updates_name}
use Rattle.check_words.specs.Units.{begins_function, begins_initial, begins_worker, constant_fits, ends_function, ends_initial, ends_module, ends_value_function, ends_worker, enters_file, names_parameter}
use Rattle.check_words.specs.Values.{adds_up, casts, checked, checks, chooses, compares, conjoins, decides, describes, disjoins, drops_want, encloses, fills_nil, forms, gives_literal, gives_named, is_of_sort, splits, switches, tests, traps, turns, uses, wants_error_too, wants_result, widens}
use Rattle.check_words.specs.Words.{Step, fails, is_of, is_wanted}
use Rattle.expr_needs.specs.Needs.{Need, Fails, IsOf, IsWanted, Describes, Widens, WantsResult, WantsErrorToo, DropsWant, GivesLiteral, GivesNamed, Forms, Decides, IsSort, Adds, Compares, Splits, Switches, Turns, Conjoins, Disjoins, Chooses, FillsNil, Tests, Casts, Checks, ChecksPanicking, Traps, Encloses, IsAccessed, IsIndex, ReadsElement, ReadsField, ReadsOptional, ChoosesList, ChoosesMapping, BeginsKeys, GivesKey, TakesKey, ComputesKey, ExpectsItem, ExpectsMember, IsItem, IsMember, IsDetail, LacksCause, MakesList, MakesMapping, MakesError, CallsNamed, CallsValue, CallsMethod, ExpectsArgument, IsArgument, MakesCall, Starts, BeginsAnonymous, HasParameter, HasRest, BeginsValue, MakesAnonymous, Awaits, WaitsForAny, WaitsForAll, Receives, Sends, SendsAndWaits, Flushes, IsNew, Declares, IsAssignable, Assigns, HasField, ExpectsStored, Stores, ReadsName, ReadsStored, ReadsStoredField, IsOperand, UpdatesName, UpdatesElement, UpdatesField, IsIgnorable, Performs, Stops, Returns, ReturnsNil, Breaks, Continues, BeginsBlock, EndsBlock, MakesBlock, MakesIf, Heads, OpensLoop, MakesWhile, IsItemOfLoop, WidensItem, IsCounter, WantsCounter, HasItem, MakesForeach, MakesRange, BeginsMatch, HasPattern, BeginsClause, EndsClause, MakesMatch, EntersFile, BeginsFunction, NamesParameter, EndsFunction, EndsValueFunction, BeginsWorker, EndsWorker, BeginsInitial, EndsInitial, EndsModule, IsConstant}

module _ (passes : List AtomDef → Asked → TypeLimit → Type 0) (names : Names) where
  abbrev pub meets : Need → Step
  meets (Fails code at) = fails code at
  meets (IsOf kind at) = is_of passes kind at
  meets (IsWanted at) = is_wanted passes at
  meets (Describes tree) = describes names tree
  meets (Widens at) = widens passes at
  meets WantsResult = wants_result
  meets WantsErrorToo = wants_error_too
  meets DropsWant = drops_want
  -- ---- names, literals and operators

  meets (GivesLiteral l) = gives_literal l
  meets (GivesNamed q) = gives_named names q
  meets (Forms op count kind at) = forms op count kind at
  meets (Decides at) = decides passes at
  meets (IsSort at) = is_of_sort passes at
  meets (Adds at) = adds_up at
  meets (Compares op at) = compares op at
  meets (Splits way) = splits way
  meets Switches = switches
  meets (Turns at) = turns at
  meets (Conjoins at) = conjoins at
  meets (Disjoins at) = disjoins at
  meets (Chooses at) = chooses at
  meets (FillsNil at) = fills_nil at
  meets (Tests name at) = tests passes name at
  meets (Casts at) = casts at
  meets (Checks at) = checks passes at
  meets (ChecksPanicking at) = checked true at
  meets (Traps at) = traps at
  meets (Encloses at) = encloses at
  -- ---- members

  meets (IsAccessed texts at) = is_accessed passes texts at
  meets (IsIndex at) = is_index passes at
  meets (ReadsElement at) = reads_accessed passes at
  meets (ReadsField w at) = reads_field passes w at
  meets (ReadsOptional w at) = reads_optional passes w at
  -- ---- constructors

  meets (ChoosesList e items at) = chooses_constructor passes (λ t. t.lists) (ListFits items) e at
  meets (ChoosesMapping e members at) = chooses_constructor passes (λ t. t.maps) (MappingFits members) e at
  meets BeginsKeys = begins_keys
  meets (GivesKey text at) = gives_new_key text at
  meets (TakesKey text at) = takes_key text at
  meets ComputesKey = computes_key
  meets ExpectsItem = expects_item
  meets ExpectsMember = expects_member
  meets (IsItem at) = is_item passes at
  meets (IsMember at) = is_member passes at
  meets (IsDetail at) = is_detail passes at
  meets (LacksCause at) = lacks_cause at
  meets (MakesList count at) = makes_list count at
  meets (MakesMapping count at) = makes_mapping count at
  meets (MakesError count at) = makes_error count at
  -- ---- calls

  meets (CallsNamed started q count at) = calls_named passes names started q count at
  meets CallsValue = calls_value passes
  meets (CallsMethod w count at) = calls_method passes w count at
  meets (ExpectsArgument at) = expects_argument passes at
  meets (IsArgument at) = is_argument passes at
  meets (MakesCall at) = makes_call passes at
  meets (Starts here at) = starts passes here at
  meets BeginsAnonymous = begins_anonymous
  meets (HasParameter w) = has_parameter w
  meets (HasRest w) = has_rest w
  meets (BeginsValue used) = begins_value used
  meets (MakesAnonymous isolated at) = makes_anonymous isolated at
  -- ---- actions

  meets (Awaits q) = awaits passes names q
  meets (WaitsForAny qs at) = waits_for_any qs at
  meets (WaitsForAll qs at) = waits_for_all qs at
  meets (Receives e peer at) = receives e peer at
  meets (Sends peer at) = sends peer at
  meets (SendsAndWaits peer at) = sends_and_waits peer at
  meets (Flushes peer at) = flushes peer at
  -- ---- statements

  meets (IsNew w) = is_new w
  meets (Declares name final assigned at) = declares name final assigned at
  meets (IsAssignable q) = is_assignable names q
  meets (Assigns q at) = assigns names q at
  meets (HasField w) = has_field w
  meets (ExpectsStored at) = expects_stored passes at
  meets (Stores at) = stores at
  meets (ReadsName q) = reads_name names q
  meets (ReadsStored at) = reads_stored passes at
  meets (ReadsStoredField w at) = reads_stored_field passes w at
  meets (IsOperand op at) = is_operand passes op at
  meets (UpdatesName q op at) = updates_name passes names q op at
  meets (UpdatesElement op at) = updates_element passes op at
  meets (UpdatesField w op at) = updates_field passes w op at
  meets (IsIgnorable at) = is_ignorable passes at
  meets (Performs form count at) = performs form count at
  meets Stops = stops
  meets (Returns at) = returns at
  meets (ReturnsNil at) = returns_nil passes at
  meets (Breaks at) = breaks at
  meets (Continues at) = continues at
  -- ---- blocks, branches and loops

  meets BeginsBlock = begins_block
  meets EndsBlock = ends_block
  meets (MakesBlock at) = makes_block at
  meets (MakesIf at) = makes_if at
  meets (Heads assigned) = heads assigned
  meets OpensLoop = opens_loop
  meets (MakesWhile leaves at) = makes_while leaves at
  meets (IsItemOfLoop at) = is_item_of_loop passes at
  meets (WidensItem at) = widens_item passes at
  meets (IsCounter at) = is_counter passes at
  meets WantsCounter = wants_counter
  meets (HasItem name assigned) = has_item name assigned
  meets (MakesForeach at) = makes_foreach at
  meets (MakesRange op at) = makes_range op at
  meets (BeginsMatch name at) = begins_match name at
  meets (HasPattern p) = has_pattern names p
  meets (BeginsClause any) = begins_clause passes any
  meets (EndsClause at) = ends_clause at
  meets (MakesMatch any at) = makes_match passes any at
  -- ---- units

  meets (EntersFile m file) = enters_file m file
  meets (BeginsFunction d) = begins_function names d
  meets (NamesParameter w assigned) = names_parameter w assigned
  meets (EndsFunction d close) = ends_function passes d close
  meets (EndsValueFunction d) = ends_value_function d
  meets (BeginsWorker w number uses) = begins_worker w number uses
  meets (EndsWorker w close) = ends_worker passes w close
  meets (BeginsInitial d kept) = begins_initial names d kept
  meets (EndsInitial d kept) = ends_initial names d kept
  meets (EndsModule m) = ends_module m
  meets (IsConstant d) = constant_fits passes names d.ty d
