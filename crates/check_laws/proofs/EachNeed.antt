-- Each need that is met does to what stands on top what its effect says.
use Rattle.std.proofs.Common.{true, List}
use Rattle.bal_base.specs.declared.fault.FaultCode.{FaultCode}
use Rattle.bal_base.specs.declared.place.Place.{Place}
use Rattle.checks.specs.Checks.{Gives, refuses}
use Rattle.descriptors.specs.declared.names.Names.{Names}
use Rattle.type_model.specs.declared.answers.TypeLimit.{TypeLimit}
use Rattle.type_model.specs.declared.atoms.AtomDef.{AtomDef}
use Rattle.type_model.specs.Calls.{Asked}
use Rattle.expr_needs.specs.declared.expected.Expected.{Expected}
use Rattle.expr_needs.specs.declared.expected.Expected.TheVariants as expected
use Rattle.expr_needs.specs.Needs.{Need, Fails, IsOf, IsWanted, Describes, Widens, WantsResult, WantsErrorToo, DropsWant, GivesLiteral, GivesNamed, Forms, Decides, IsSort, Adds, Compares, Splits, Switches, Turns, Conjoins, Disjoins, Chooses, FillsNil, Tests, Casts, Checks, ChecksPanicking, Traps, Encloses, IsAccessed, IsIndex, ReadsElement, ReadsField, ReadsOptional, ChoosesList, ChoosesMapping, BeginsKeys, GivesKey, TakesKey, ComputesKey, ExpectsItem, ExpectsMember, IsItem, IsMember, IsDetail, LacksCause, MakesList, MakesMapping, MakesError, CallsNamed, CallsValue, CallsMethod, ExpectsArgument, IsArgument, MakesCall, Starts, BeginsAnonymous, HasParameter, HasRest, BeginsValue, MakesAnonymous, Awaits, WaitsForAny, WaitsForAll, Receives, Sends, SendsAndWaits, Flushes, IsNew, Declares, IsAssignable, Assigns, HasField, ExpectsStored, Stores, ReadsName, ReadsStored, ReadsStoredField, IsOperand, UpdatesName, UpdatesElement, UpdatesField, IsIgnorable, Performs, Stops, Returns, ReturnsNil, Breaks, Continues, BeginsBlock, EndsBlock, MakesBlock, MakesIf, Heads, OpensLoop, MakesWhile, IsItemOfLoop, WidensItem, IsCounter, WantsCounter, HasItem, MakesForeach, MakesRange, BeginsMatch, HasPattern, BeginsClause, EndsClause, MakesMatch, EntersFile, BeginsFunction, NamesParameter, EndsFunction, EndsValueFunction, BeginsWorker, EndsWorker, BeginsInitial, EndsInitial, EndsModule, IsConstant}
use Rattle.check_words.specs.Actions.{receives}
use Rattle.check_words.specs.Constructors.{ListFits, MappingFits, chooses_constructor}
use Rattle.check_words.specs.Meets.{meets}
use Rattle.check_words.specs.State.{State}
use Rattle.check_words.specs.Words.{Step, fails}
use Rattle.check_laws.specs.Effects.{AddsStmt, Beyond, Effect, Moves, Never, SeesWant, effect, gives_by}
use Rattle.check_laws.specs.Heights.{Heights, ◌⊕◌, parts, wants, sorts, accesses, constructors, calls, blocks, units, with_stmt}
use Rattle.check_laws.specs.Laws.{DoesAs}
use Rattle.check_laws.proofs.Actions.{goes-awaits, goes-flushes, goes-receives, goes-sends, goes-sends-and-waits, goes-waits-for-all, goes-waits-for-any}
use Rattle.check_laws.proofs.Calls.{goes-argument, goes-begins-anonymous, goes-begins-value, goes-called-name, goes-expects-argument, goes-is-new, goes-makes-anonymous, goes-makes-call, goes-method, goes-parameter, goes-rest, goes-starts, goes-value}
use Rattle.check_laws.proofs.Branches.{goes-begins-clause, goes-begins-match, goes-begins-worker, goes-constant, goes-counter, goes-ends-clause, goes-ends-worker, goes-has-item, goes-heads, goes-item-of-loop, goes-makes-foreach, goes-makes-if, goes-makes-match, goes-makes-range, goes-makes-while, goes-names-parameter, goes-opens-loop, goes-pattern, goes-wants-counter, goes-widens-item}
use Rattle.check_laws.proofs.Constructors.{goes-begins-keys, goes-computes-key, goes-constructor, goes-detail, goes-expects-item, goes-expects-member, goes-item, goes-lacks-cause, goes-makes-error, goes-makes-list, goes-makes-mapping, goes-member, goes-new-key, goes-takes-key}
use Rattle.check_laws.proofs.Statements.{goes-assignable, goes-assigns, goes-begins-block, goes-breaks, goes-continues, goes-declares, goes-ends-block, goes-expects-stored, goes-has-field, goes-ignorable, goes-makes-block, goes-operand, goes-performs, goes-reads-name, goes-reads-stored, goes-reads-stored-field, goes-returns, goes-returns-nil, goes-stops, goes-stores, goes-updates-element, goes-updates-field, goes-updates-name}
use Rattle.check_laws.proofs.Values.{goes-accessed, goes-adds, goes-casts, goes-checked, goes-checks, goes-chooses, goes-compares, goes-conjoins, goes-decides, goes-describes, goes-disjoins, goes-encloses, goes-error-too, goes-fills, goes-forms, goes-is-index, goes-is-of, goes-is-sort, goes-is-wanted, goes-literal, goes-named, goes-reads-accessed, goes-reads-field, goes-reads-optional, goes-splits, goes-switches, goes-tests, goes-traps, goes-turns, goes-wants-result, goes-widens}
use Rattle.check_laws.proofs.Words.{Goes, goes-no-more}

module _ (s : State) where
  -- where what the effect takes is there, what it leaves is there behind the check
  abbrev pub Respects : Step → Effect → Type 0
  Respects m Never = (old new : State) → m old (Gives tt) new → ⊥
  Respects m (Moves takes leaves) = (r : Heights) → Goes s (r ⊕ takes) m (r ⊕ leaves)
  Respects m (SeesWant leaves) = (r : Heights) → Goes s r m (r ⊕ leaves)
  Respects m (AddsStmt takes) = (r : Heights) → Goes s (r ⊕ takes) m (with_stmt r)
  Respects m Beyond = Unit {0}

  never : (code : FaultCode) (at : Place) (old new : State) → fails {A = Unit {0}} code at old (Gives tt) new → ⊥
  unfolding refuses
  never code at old new x = x

  by-expected : (m : Step) (h : Heights) (e : Expected) → ((r : Heights) → Goes s r m (r ⊕ h)) → Respects m (gives_by e h)
  by-expected m h expected.Nothing f = f
  by-expected m h expected.Immutable f = f
  by-expected m h expected.Wanted f = f

  module _ (passes : List AtomDef → Asked → TypeLimit → Type 0) (names : Names) where
    pub respects : (n : Need) → Respects (meets passes names n) (effect s.site.workers n)
    respects (Fails code at) = never code at
    respects (IsOf kind at) = λ r. goes-is-of s passes (r ⊕ parts 1) kind at
    respects (IsWanted at) = λ r. goes-is-wanted s passes (r ⊕ (parts 1 ⊕ wants 1)) at
    respects (Describes tree) = λ r. goes-describes s names r tree
    respects (Widens at) = λ r. goes-widens s passes (r ⊕ parts 1) at
    respects WantsResult = goes-wants-result s
    respects WantsErrorToo = goes-error-too s
    respects DropsWant = λ r. goes-no-more s r 1
    -- ---- names, literals and operators

    respects (GivesLiteral l) = λ r. goes-literal s r l
    respects (GivesNamed q) = λ r. goes-named s names r q
    respects (Forms op count kind at) = λ r. goes-forms s r op count kind at
    respects (Decides at) = λ r. goes-decides s passes (r ⊕ parts 1) at
    respects (IsSort at) = λ r. goes-is-sort s passes (r ⊕ (parts 1 ⊕ sorts 1)) at
    respects (Adds at) = λ r. goes-adds s r at
    respects (Compares op at) = λ r. goes-compares s r op at
    respects (Splits way) = λ r. goes-splits s (r ⊕ parts 1) way
    respects Switches = λ r. goes-switches s (r ⊕ parts 1)
    respects (Turns at) = λ r. goes-turns s r at
    respects (Conjoins at) = λ r. goes-conjoins s r at
    respects (Disjoins at) = λ r. goes-disjoins s r at
    respects (Chooses at) = λ r. goes-chooses s r at
    respects (FillsNil at) = λ r. goes-fills s r at
    respects (Tests name at) = λ r. goes-tests s passes r name at
    respects (Casts at) = λ r. goes-casts s r at
    respects (Checks at) = λ r. goes-checks s passes r at
    respects (ChecksPanicking at) = λ r. goes-checked s r true at
    respects (Traps at) = λ r. goes-traps s r at
    respects (Encloses at) = λ r. goes-encloses s r at
    -- ---- members

    respects (IsAccessed texts at) = λ r. goes-accessed s passes (r ⊕ parts 1) texts at
    respects (IsIndex at) = λ r. goes-is-index s passes (r ⊕ (parts 2 ⊕ accesses 1)) at
    respects (ReadsElement at) = λ r. goes-reads-accessed s passes r at
    respects (ReadsField w at) = λ r. goes-reads-field s passes r w at
    respects (ReadsOptional w at) = λ r. goes-reads-optional s passes r w at
    -- ---- constructors

    respects (ChoosesList e items at) = by-expected (chooses_constructor passes (λ t. t.lists) (ListFits items) e at) (constructors 1) e
        (λ r. goes-constructor s passes (λ t. t.lists) (ListFits items) r e at)
    respects (ChoosesMapping e members at) = by-expected (chooses_constructor passes (λ t. t.maps) (MappingFits members) e at) (constructors 1) e
        (λ r. goes-constructor s passes (λ t. t.maps) (MappingFits members) r e at)
    respects BeginsKeys = goes-begins-keys s
    respects (GivesKey text at) = λ r. goes-new-key s r text at
    respects (TakesKey text at) = λ r. goes-takes-key s r text at
    respects ComputesKey = λ r. goes-computes-key s (r ⊕ parts 1)
    respects ExpectsItem = λ r. goes-expects-item s (r ⊕ constructors 1)
    respects ExpectsMember = λ r. goes-expects-member s (r ⊕ (constructors 1 ⊕ parts 1))
    respects (IsItem at) = λ r. goes-item s passes (r ⊕ parts 1) at
    respects (IsMember at) = λ r. goes-member s passes (r ⊕ parts 2) at
    respects (IsDetail at) = λ r. goes-detail s passes (r ⊕ parts 2) at
    respects (LacksCause at) = λ r. goes-lacks-cause s r at
    respects (MakesList count at) = λ r. goes-makes-list s r count at
    respects (MakesMapping count at) = λ r. goes-makes-mapping s r count at
    respects (MakesError count at) = λ r. goes-makes-error s r count at
    -- ---- calls

    respects (CallsNamed started q count at) = λ r. goes-called-name s passes names r started q count at
    respects CallsValue = goes-value s passes
    respects (CallsMethod w count at) = λ r. goes-method s passes r w count at
    respects (ExpectsArgument at) = λ r. goes-expects-argument s passes (r ⊕ calls 1) at
    respects (IsArgument at) = λ r. goes-argument s passes r at
    respects (MakesCall at) = λ r. goes-makes-call s passes r at
    respects (Starts here at) = λ r. goes-starts s passes r here at
    respects BeginsAnonymous = goes-begins-anonymous s
    respects (HasParameter w) = λ r. goes-parameter s (r ⊕ units 1) w
    respects (HasRest w) = λ r. goes-rest s (r ⊕ units 1) w
    respects (BeginsValue used) = λ r. goes-begins-value s (r ⊕ (units 1 ⊕ wants 1)) used
    respects (MakesAnonymous isolated at) = λ r. goes-makes-anonymous s r isolated at
    -- ---- actions

    respects (Awaits q) = λ r. goes-awaits s passes names r q
    respects (WaitsForAny qs at) = λ r. goes-waits-for-any s r qs at
    respects (WaitsForAll qs at) = λ r. goes-waits-for-all s r qs at
    respects (Receives e peer at) = by-expected (receives e peer at) (parts 1) e (λ r. goes-receives s r e peer at)
    respects (Sends peer at) = λ r. goes-sends s r peer at
    respects (SendsAndWaits peer at) = λ r. goes-sends-and-waits s r peer at
    respects (Flushes peer at) = λ r. goes-flushes s r peer at
    -- ---- statements

    respects (IsNew w) = λ r. goes-is-new s r w
    respects (Declares name final assigned at) = λ r. goes-declares s r name final assigned at
    respects (IsAssignable q) = λ r. goes-assignable s names r q
    respects (Assigns q at) = λ r. goes-assigns s names r q at
    respects (HasField w) = λ r. goes-has-field s r w
    respects (ExpectsStored at) = λ r. goes-expects-stored s passes (r ⊕ (parts 2 ⊕ accesses 1)) at
    respects (Stores at) = λ r. goes-stores s r at
    respects (ReadsName q) = λ r. goes-reads-name s names (r ⊕ wants 1) q
    respects (ReadsStored at) = λ r. goes-reads-stored s passes (r ⊕ (parts 2 ⊕ (accesses 1 ⊕ wants 1))) at
    respects (ReadsStoredField w at) = λ r. goes-reads-stored-field s passes (r ⊕ (parts 2 ⊕ (accesses 1 ⊕ wants 1))) w at
    respects (IsOperand op at) = λ r. goes-operand s passes (r ⊕ wants 2) op at
    respects (UpdatesName q op at) = λ r. goes-updates-name s passes names r q op at
    respects (UpdatesElement op at) = λ r. goes-updates-element s passes r op at
    respects (UpdatesField w op at) = λ r. goes-updates-field s passes r w op at
    respects (IsIgnorable at) = λ r. goes-ignorable s passes (r ⊕ parts 1) at
    respects (Performs form count at) = λ r. goes-performs s r form count at
    respects Stops = goes-stops s
    respects (Returns at) = λ r. goes-returns s r at
    respects (ReturnsNil at) = λ r. goes-returns-nil s passes r at
    respects (Breaks at) = λ r. goes-breaks s r at
    respects (Continues at) = λ r. goes-continues s r at
    -- ---- blocks, branches and loops

    respects BeginsBlock = goes-begins-block s
    respects EndsBlock = λ r. goes-ends-block s (r ⊕ blocks 1)
    respects (MakesBlock at) = λ r. goes-makes-block s r at
    respects (MakesIf at) = λ r. goes-makes-if s r at
    respects (Heads assigned) = λ r. goes-heads s r assigned
    respects OpensLoop = goes-opens-loop s
    respects (MakesWhile leaves at) = λ r. goes-makes-while s r leaves at
    respects (IsItemOfLoop at) = λ r. goes-item-of-loop s passes (r ⊕ (parts 1 ⊕ wants 1)) at
    respects (WidensItem at) = λ r. goes-widens-item s passes (r ⊕ parts 1) at
    respects (IsCounter at) = λ r. goes-counter s passes (r ⊕ (parts 2 ⊕ wants 1)) at
    respects WantsCounter = λ r. goes-wants-counter s (r ⊕ parts 2)
    respects (HasItem name assigned) = λ r. goes-has-item s r name assigned
    respects (MakesForeach at) = λ r. goes-makes-foreach s r at
    respects (MakesRange op at) = λ r. goes-makes-range s r op at
    respects (BeginsMatch name at) = λ r. goes-begins-match s (r ⊕ parts 1) name at
    respects (HasPattern p) = λ r. goes-pattern s names r p
    respects (BeginsClause any) = λ r. goes-begins-clause s passes r any
    respects (EndsClause at) = λ r. goes-ends-clause s r at
    respects (MakesMatch any at) = λ r. goes-makes-match s passes r any at
    -- ---- workers, functions and packages

    respects (NamesParameter w assigned) = λ r. goes-names-parameter s r w assigned
    respects (BeginsWorker w number used) = λ r. goes-begins-worker s r w number used
    respects (EndsWorker w close) = λ r. goes-ends-worker s passes r w close
    respects (IsConstant d) = λ r. goes-constant s passes names r d.ty d
    respects (EntersFile m file) = tt
    respects (BeginsFunction d) = tt
    respects (EndsFunction d close) = tt
    respects (EndsValueFunction d) = tt
    respects (BeginsInitial d kept) = tt
    respects (EndsInitial d kept) = tt
    respects (EndsModule m) = tt

    -- the same as a law
    as-law : (m : Step) (e : Effect) → Respects m e → DoesAs s m e
    as-law m Never f = f
    as-law m (Moves takes leaves) f = λ h old new p x. f h old new tt p x
    as-law m (SeesWant leaves) f = λ h old new p x. f h old new tt p x
    as-law m (AddsStmt takes) f = λ h old new p x. f h old new tt p x
    as-law m Beyond f = tt

    pub effect-is-kept : (n : Need) → DoesAs s (meets passes names n) (effect s.site.workers n)
    effect-is-kept n = as-law (meets passes names n) (effect s.site.workers n) (respects n)
