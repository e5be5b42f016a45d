-- Each need that is met keeps what was found, and takes no atom away.
use Rattle.std.proofs.Common.{ℕ, true, List}
use Rattle.descriptors.specs.declared.names.Names.{Names}
use Rattle.type_model.specs.declared.answers.TypeLimit.{TypeLimit}
use Rattle.type_model.specs.declared.atoms.AtomDef.{AtomDef}
use Rattle.type_model.specs.Calls.{Asked}
use Rattle.expr_needs.specs.Needs.{Need, Fails, IsOf, IsWanted, Describes, Widens, WantsResult, WantsErrorToo, DropsWant, GivesLiteral, GivesNamed, Forms, Decides, IsSort, Adds, Compares, Splits, Switches, Turns, Conjoins, Disjoins, Chooses, FillsNil, Tests, Casts, Checks, ChecksPanicking, Traps, Encloses, IsAccessed, IsIndex, ReadsElement, ReadsField, ReadsOptional, ChoosesList, ChoosesMapping, BeginsKeys, GivesKey, TakesKey, ComputesKey, ExpectsItem, ExpectsMember, IsItem, IsMember, IsDetail, LacksCause, MakesList, MakesMapping, MakesError, CallsNamed, CallsValue, CallsMethod, ExpectsArgument, IsArgument, MakesCall, Starts, BeginsAnonymous, HasParameter, HasRest, BeginsValue, MakesAnonymous, Awaits, WaitsForAny, WaitsForAll, Receives, Sends, SendsAndWaits, Flushes, IsNew, Declares, IsAssignable, Assigns, HasField, ExpectsStored, Stores, ReadsName, ReadsStored, ReadsStoredField, IsOperand, UpdatesName, UpdatesElement, UpdatesField, IsIgnorable, Performs, Stops, Returns, ReturnsNil, Breaks, Continues, BeginsBlock, EndsBlock, MakesBlock, MakesIf, Heads, OpensLoop, MakesWhile, IsItemOfLoop, WidensItem, IsCounter, WantsCounter, HasItem, MakesForeach, MakesRange, BeginsMatch, HasPattern, BeginsClause, EndsClause, MakesMatch, EntersFile, BeginsFunction, NamesParameter, EndsFunction, EndsValueFunction, BeginsWorker, EndsWorker, BeginsInitial, EndsInitial, EndsModule, IsConstant}
use Rattle.check_words.specs.Constructors.{ListFits, MappingFits}
use Rattle.check_words.specs.Meets.{meets}
use Rattle.check_words.specs.Words.{Step}
use Rattle.package_atoms.proofs.Actions.{all-awaited, any-awaited, awaits-kept, flushes-kept, receives-kept, sends-and-waits-kept, sends-kept}
use Rattle.package_atoms.proofs.Branches.{clause-begun, clause-ended, counter-asked, counter-wanted, foreach-kept, heads-kept, if-kept, item-asked, item-named, item-widened, loop-opened, match-begun, match-kept, pattern-kept, range-kept, while-kept}
use Rattle.package_atoms.proofs.Calls.{argument-expected, argument-kept, call-kept, method-called, named-called, new-kept, start-kept, value-called}
use Rattle.package_atoms.proofs.Functions.{anonymous-begun, anonymous-kept, parameter-kept, rest-kept, value-begun}
use Rattle.package_atoms.proofs.Keeping.{Any, Keeps, forgetting, refused}
use Rattle.package_atoms.proofs.Members.{accessed-kept, constructor-chosen, detail-kept, element-kept, error-kept, field-kept, field-read-kept, index-kept, item-expected, item-kept, key-computed, key-taken, keys-begun, lacks-kept, list-kept, mapping-kept, member-expected, member-kept, new-key-kept, optional-kept, stored-expected, stored-field-read, stored-read}
use Rattle.package_atoms.proofs.Statements.{assignable-kept, assigns-kept, block-begun, block-ended, block-kept, breaks-kept, continues-kept, declared-kept, element-updated, field-updated, ignorable-kept, name-read, name-updated, operand-kept, performs-kept, returns-kept, returns-nil-kept, stops-kept, stores-kept}
use Rattle.package_atoms.proofs.Units.{constant-kept, file-entered, function-begun, function-ended, initial-begun, initial-ended, module-ended, parameter-named, value-function-ended, worker-begun, worker-ended}
use Rattle.package_atoms.proofs.Values.{adds-kept, casts-kept, checked-kept, checks-kept, chooses-kept, compares-kept, conjoins-kept, decides-kept, describes-kept, disjoins-kept, encloses-kept, error-too-kept, fills-kept, forms-kept, literal-kept, named-kept, result-kept, sort-kept, splits-kept, switches-kept, tests-kept, traps-kept, turns-kept, widens-kept}
use Rattle.package_atoms.proofs.Words.{Held, Standing, Stays, standing-held, is-of, is-wanted, no-more}

-- `n`: how many atoms there are at the end
module _ (n : ℕ) (passes : List AtomDef → Asked → TypeLimit → Type 0) (names : Names) where
  -- what needs nothing of the types that are at hand
  plainly : {m : Step} → Stays n (Unit {0}) m → Keeps (Standing n) (Unit {0}) m Any (Held n)
  plainly f = forgetting (Standing n) (standing-held n) f

  pub need-kept : (need : Need) → Keeps (Standing n) (Unit {0}) (meets passes names need) Any (Held n)
  need-kept (Fails code at) = plainly (refused _ _ _ _ _)
  need-kept (IsOf kind at) = plainly (is-of _ _ _ _ _)
  need-kept (IsWanted at) = plainly (is-wanted _ _ _ _)
  need-kept (Describes tree) = plainly (describes-kept n _ names tree)
  need-kept (Widens at) = plainly (widens-kept n _ passes at)
  need-kept WantsResult = plainly (result-kept n _)
  need-kept WantsErrorToo = plainly (error-too-kept n _)
  need-kept DropsWant = plainly (no-more n _ 1)
  -- ---- names, literals and operators

  need-kept (GivesLiteral l) = plainly (literal-kept n _ l)
  need-kept (GivesNamed q) = plainly (named-kept n _ names q)
  need-kept (Forms op count kind at) = plainly (forms-kept n _ op count kind at)
  need-kept (Decides at) = plainly (decides-kept _ _ passes at)
  need-kept (IsSort at) = plainly (sort-kept _ _ passes at)
  need-kept (Adds at) = plainly (adds-kept n _ at)
  need-kept (Compares op at) = plainly (compares-kept n _ op at)
  need-kept (Splits way) = plainly (splits-kept n _ way)
  need-kept Switches = plainly (switches-kept n _)
  need-kept (Turns at) = plainly (turns-kept n _ at)
  need-kept (Conjoins at) = plainly (conjoins-kept n _ at)
  need-kept (Disjoins at) = plainly (disjoins-kept n _ at)
  need-kept (Chooses at) = plainly (chooses-kept n _ at)
  need-kept (FillsNil at) = plainly (fills-kept n _ at)
  need-kept (Tests name at) = plainly (tests-kept n _ passes name at)
  need-kept (Casts at) = plainly (casts-kept n _ at)
  need-kept (Checks at) = plainly (checks-kept n _ passes at)
  need-kept (ChecksPanicking at) = plainly (checked-kept n _ true at)
  need-kept (Traps at) = plainly (traps-kept n _ at)
  need-kept (Encloses at) = plainly (encloses-kept n _ at)
  -- ---- members

  need-kept (IsAccessed texts at) = plainly (accessed-kept _ _ passes texts at)
  need-kept (IsIndex at) = plainly (index-kept _ _ passes at)
  need-kept (ReadsElement at) = plainly (element-kept n _ passes at)
  need-kept (ReadsField w at) = plainly (field-read-kept n _ passes w at)
  need-kept (ReadsOptional w at) = plainly (optional-kept n _ passes w at)
  -- ---- constructors

  need-kept (ChoosesList e items at) = plainly (constructor-chosen _ _ passes (λ t. t.lists) (ListFits items) e at)
  need-kept (ChoosesMapping e members at) = plainly (constructor-chosen _ _ passes (λ t. t.maps) (MappingFits members) e at)
  need-kept BeginsKeys = plainly (keys-begun _ _)
  need-kept (GivesKey text at) = plainly (new-key-kept n _ text at)
  need-kept (TakesKey text at) = plainly (key-taken _ _ text at)
  need-kept ComputesKey = plainly (key-computed _ _)
  need-kept ExpectsItem = plainly (item-expected n _)
  need-kept ExpectsMember = plainly (member-expected n _)
  need-kept (IsItem at) = plainly (item-kept n _ passes at)
  need-kept (IsMember at) = plainly (member-kept n _ passes at)
  need-kept (IsDetail at) = plainly (detail-kept _ _ passes at)
  need-kept (LacksCause at) = plainly (lacks-kept n _ at)
  need-kept (MakesList count at) = plainly (list-kept n _ count at)
  need-kept (MakesMapping count at) = plainly (mapping-kept n _ count at)
  need-kept (MakesError count at) = plainly (error-kept n _ count at)
  -- ---- calls

  need-kept (CallsNamed started q count at) = plainly (named-called n _ passes names started q count at)
  need-kept CallsValue = plainly (value-called _ _ passes)
  need-kept (CallsMethod w count at) = plainly (method-called _ _ passes w count at)
  need-kept (ExpectsArgument at) = plainly (argument-expected n _ passes at)
  need-kept (IsArgument at) = plainly (argument-kept n _ passes at)
  need-kept (MakesCall at) = call-kept n _ passes at
  need-kept (Starts here at) = start-kept n _ passes here at
  need-kept BeginsAnonymous = plainly (anonymous-begun n _)
  need-kept (HasParameter w) = plainly (parameter-kept n _ w)
  need-kept (HasRest w) = plainly (rest-kept n _ w)
  need-kept (BeginsValue used) = value-begun n _ used
  need-kept (MakesAnonymous isolated at) = plainly (anonymous-kept n _ isolated at)
  -- ---- actions

  need-kept (Awaits q) = plainly (awaits-kept n _ passes names q)
  need-kept (WaitsForAny qs at) = plainly (any-awaited n _ qs at)
  need-kept (WaitsForAll qs at) = plainly (all-awaited n _ qs at)
  need-kept (Receives e peer at) = plainly (receives-kept n _ e peer at)
  need-kept (Sends peer at) = plainly (sends-kept n _ peer at)
  need-kept (SendsAndWaits peer at) = plainly (sends-and-waits-kept n _ peer at)
  need-kept (Flushes peer at) = plainly (flushes-kept n _ peer at)
  -- ---- statements

  need-kept (IsNew w) = plainly (new-kept _ _ w)
  need-kept (Declares name final assigned at) = plainly (declared-kept n _ name final assigned at)
  need-kept (IsAssignable q) = plainly (assignable-kept n _ names q)
  need-kept (Assigns q at) = plainly (assigns-kept n _ names q at)
  need-kept (HasField w) = plainly (field-kept n _ w)
  need-kept (ExpectsStored at) = plainly (stored-expected n _ passes at)
  need-kept (Stores at) = plainly (stores-kept n _ at)
  need-kept (ReadsName q) = plainly (name-read n _ names q)
  need-kept (ReadsStored at) = plainly (stored-read n _ passes at)
  need-kept (ReadsStoredField w at) = plainly (stored-field-read n _ passes w at)
  need-kept (IsOperand op at) = plainly (operand-kept n _ passes op at)
  need-kept (UpdatesName q op at) = plainly (name-updated n _ passes names q op at)
  need-kept (UpdatesElement op at) = plainly (element-updated n _ passes op at)
  need-kept (UpdatesField w op at) = plainly (field-updated n _ passes w op at)
  need-kept (IsIgnorable at) = plainly (ignorable-kept _ _ passes at)
  need-kept (Performs form count at) = plainly (performs-kept n _ form count at)
  need-kept Stops = plainly (stops-kept n _)
  need-kept (Returns at) = plainly (returns-kept n _ at)
  need-kept (ReturnsNil at) = plainly (returns-nil-kept n _ passes at)
  need-kept (Breaks at) = plainly (breaks-kept n _ at)
  need-kept (Continues at) = plainly (continues-kept n _ at)
  -- ---- blocks, branches and loops

  need-kept BeginsBlock = plainly (block-begun n _)
  need-kept EndsBlock = plainly (block-ended n _)
  need-kept (MakesBlock at) = plainly (block-kept n _ at)
  need-kept (MakesIf at) = plainly (if-kept n _ at)
  need-kept (Heads assigned) = plainly (heads-kept n _ assigned)
  need-kept OpensLoop = plainly (loop-opened _ _)
  need-kept (MakesWhile leaves at) = plainly (while-kept n _ leaves at)
  need-kept (IsItemOfLoop at) = plainly (item-asked _ _ passes at)
  need-kept (WidensItem at) = plainly (item-widened n _ passes at)
  need-kept (IsCounter at) = plainly (counter-asked _ _ passes at)
  need-kept WantsCounter = plainly (counter-wanted n _)
  need-kept (HasItem name assigned) = plainly (item-named n _ name assigned)
  need-kept (MakesForeach at) = plainly (foreach-kept n _ at)
  need-kept (MakesRange op at) = plainly (range-kept n _ op at)
  need-kept (BeginsMatch name at) = plainly (match-begun n _ name at)
  need-kept (HasPattern p) = plainly (pattern-kept n _ names p)
  need-kept (BeginsClause any) = plainly (clause-begun n _ passes any)
  need-kept (EndsClause at) = plainly (clause-ended n _ at)
  need-kept (MakesMatch any at) = plainly (match-kept n _ passes any at)
  -- ---- units

  need-kept (EntersFile m file) = plainly (file-entered _ _ m file)
  need-kept (BeginsFunction d) = plainly (function-begun n _ names d)
  need-kept (NamesParameter w assigned) = plainly (parameter-named n _ w assigned)
  need-kept (EndsFunction d close) = plainly (function-ended n _ passes d close)
  need-kept (EndsValueFunction d) = plainly (value-function-ended n _ d)
  need-kept (BeginsWorker w number used) = worker-begun n _ w number used
  need-kept (EndsWorker w close) = plainly (worker-ended n _ passes w close)
  need-kept (BeginsInitial d kept) = plainly (initial-begun n _ names d kept)
  need-kept (EndsInitial d kept) = initial-ended n _ names d kept
  need-kept (EndsModule m) = plainly (module-ended n _ m)
  need-kept (IsConstant d) = plainly (constant-kept _ _ passes names d.ty d)
