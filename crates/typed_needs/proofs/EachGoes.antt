-- Each need goes on, where it finds what it takes.
use Rattle.std.proofs.Common.{◌≡◌, ◌≤◌, ◌<◌, ◌+◌, ◌∙◌, ◌++◌, ℕ, suc, true, false, List, [], ◌∷◌, length, Some, arith, length-append, refl, ap}
use Rattle.checks.specs.Checks.{Gives}
use Rattle.descriptors.specs.declared.names.Names.{Names}
use Rattle.type_model.specs.declared.answers.TypeLimit.{TypeLimit}
use Rattle.type_model.specs.declared.atoms.AtomDef.{AtomDef}
use Rattle.type_model.specs.Calls.{Asked}
use Rattle.expr_needs.specs.declared.kind.Kind.TheVariants as kind
use Rattle.expr_needs.specs.Needs.{Need, Fails, IsOf, IsWanted, Describes, Widens, WantsResult, WantsErrorToo, DropsWant, GivesLiteral, GivesNamed, Forms, Decides, IsSort, Adds, Compares, Splits, Switches, Turns, Conjoins, Disjoins, Chooses, FillsNil, Tests, Casts, Checks, ChecksPanicking, Traps, Encloses, IsAccessed, IsIndex, ReadsElement, ReadsField, ReadsOptional, ChoosesList, ChoosesMapping, BeginsKeys, GivesKey, TakesKey, ComputesKey, ExpectsItem, ExpectsMember, IsItem, IsMember, IsDetail, LacksCause, MakesList, MakesMapping, MakesError, CallsNamed, CallsValue, CallsMethod, ExpectsArgument, IsArgument, MakesCall, Starts, BeginsAnonymous, HasParameter, HasRest, BeginsValue, MakesAnonymous, Awaits, WaitsForAny, WaitsForAll, Receives, Sends, SendsAndWaits, Flushes, IsNew, Declares, IsAssignable, Assigns, HasField, ExpectsStored, Stores, ReadsName, ReadsStored, ReadsStoredField, IsOperand, UpdatesName, UpdatesElement, UpdatesField, IsIgnorable, Performs, Stops, Returns, ReturnsNil, Breaks, Continues, BeginsBlock, EndsBlock, MakesBlock, MakesIf, Heads, OpensLoop, MakesWhile, IsItemOfLoop, WidensItem, IsCounter, WantsCounter, HasItem, MakesForeach, MakesRange, BeginsMatch, HasPattern, BeginsClause, EndsClause, MakesMatch, EntersFile, BeginsFunction, NamesParameter, EndsFunction, EndsValueFunction, BeginsWorker, EndsWorker, BeginsInitial, EndsInitial, EndsModule, IsConstant}
use Rattle.check_words.specs.Constructors.{ListFits, MappingFits}
use Rattle.check_words.specs.Meets.{meets}
use Rattle.check_words.specs.State.{State, UnitAtWork}
use Rattle.check_laws.specs.Effects.{effect}
use Rattle.check_laws.specs.Laws.{Finds}
use Rattle.check_laws.specs.Positions.{OnUnits}
use Rattle.typed_needs.specs.Going.{GoesOnBelow, NeedsGoOn}
use Rattle.typed_needs.proofs.Going.{Goes, goes-asking, goes-becomes, goes-beside, goes-closes-choice, goes-closes-constructor, goes-fails, goes-flow-now, goes-handles, goes-makes, goes-new-slot, goes-no-more, goes-opens-choice, goes-opens-constructor, goes-sets-constructor, goes-sets-flow, goes-sets-ways, goes-some, goes-then, goes-unless, goes-wants, goes-wants-some, goes-ways-now}
use Rattle.typed_needs.proofs.GoingNeeds.{goes-accessed, goes-adds-member, goes-atom-of, goes-awaits-by, goes-below-if, goes-beside-error, goes-call-of, goes-called, goes-checked, goes-closes-call, goes-constructor, goes-decided, goes-expects-by, goes-field-type, goes-fits, goes-fits-keys, goes-frozen, goes-is-of, goes-library, goes-looks-up, goes-may-stand, goes-message-to, goes-named, goes-new-number, goes-opens-call, goes-opens-unit, goes-peer, goes-picks, goes-reads, goes-receives, goes-result, goes-some-member, goes-sorts, goes-starts-of, goes-takes-key, goes-takes-sort, goes-takes-wants, goes-ways-of-test, goes-whether, goes-widened, goes-within}
use Rattle.typed_needs.proofs.GoingStmts.{goes-adds-stmt, goes-assigned-by, goes-assigns-to, goes-begins-clause, goes-changes-flow, goes-closes-block, goes-constant, goes-is-new, goes-item-type, goes-item-variable, goes-kind-slot, goes-makes-match, goes-opens-match, goes-operand-sort, goes-pattern, goes-reads-assigned, goes-result-fits, goes-seen-assignable, goes-sets-match, goes-stored-type, goes-takes, goes-takes-access, goes-takes-operator, goes-takes-part, goes-takes-want, goes-updates-assigned, goes-updates-member, goes-worker-new}
use Rattle.typed_needs.proofs.GoingBelow.{anonymous-below, on-below, parameter-below, rest-below, value-below, worker-below}
use Rattle.typed_needs.proofs.Questions.{adds-behind, below-behind, names-behind, whole-behind}

-- more units stand on those that were there
units-long : (us vs : List UnitAtWork) (k : ℕ) → OnUnits us (suc k) vs → length us < length vs
units-long us vs k o =
    let before : length us ≡ length o.kept + 1 = ap length o.at_hand ∙ length-append o.kept (o.was ∷ []) in
    let there : length (o.kept ++ o.now ∷ []) ≡ length o.kept + 1 = length-append o.kept (o.now ∷ []) in
    let all : length vs ≡ length (o.kept ++ o.now ∷ []) + length o.on.more = ap length o.on.is ∙ length-append (o.kept ++ o.now ∷ []) o.on.more in
    let many = o.on.many in
    omega (arith, before, there, all, many)

module _ (passes : List AtomDef → Asked → TypeLimit → Type 0) (names : Names) (base old new : State) where
  pub each-goes : (n : Need) → Finds (effect base.site.workers n) base old → length base.units ≤ length old.units → meets passes names n old (Gives tt) new
      → GoesOnBelow (length base.units) old new
  each-goes (Fails code at) found le met =
      let g : Goes (meets passes names (Fails code at)) = goes-fails code at in on-below (length base.units) old new le (g old new tt met)
  each-goes (IsOf kind at) found le met =
      let g : Goes (meets passes names (IsOf kind at)) = goes-is-of passes kind at in on-below (length base.units) old new le (g old new tt met)
  each-goes (IsWanted at) found le met =
      let g : Goes (meets passes names (IsWanted at)) = goes-then _ _ (goes-some _) (λ w. goes-then _ _ (goes-some _) (λ e. goes-below-if passes w e at)) in on-below (length base.units) old new le (g old new tt met)
  each-goes (Describes tree) found le met =
      let g : Goes (meets passes names (Describes tree)) = goes-then _ _ (goes-some _) (λ scope. goes-then _ _ (goes-asking _ (whole-behind names scope _)) (λ t. goes-wants-some _)) in on-below (length base.units) old new le (g old new tt met)
  each-goes (Widens at) found le met =
      let g : Goes (meets passes names (Widens at)) = goes-then _ _ (goes-some _) (λ e. goes-then _ _ (goes-widened passes _ at) (λ t. goes-wants (Some t))) in on-below (length base.units) old new le (g old new tt met)
  each-goes WantsResult found le met =
      let g : Goes (meets passes names WantsResult) = goes-then _ _ (goes-some _) (λ u. goes-wants _) in on-below (length base.units) old new le (g old new tt met)
  each-goes WantsErrorToo found le met =
      let g : Goes (meets passes names WantsErrorToo) = goes-then _ _ (goes-some _) (λ w. goes-beside-error w) in on-below (length base.units) old new le (g old new tt met)
  each-goes DropsWant found le met =
      let g : Goes (meets passes names DropsWant) = goes-no-more 1 in on-below (length base.units) old new le (g old new tt met)
  each-goes (GivesLiteral l) found le met =
      let g : Goes (meets passes names (GivesLiteral l)) = goes-makes 0 _ in on-below (length base.units) old new le (g old new tt met)
  each-goes (GivesNamed q) found le met =
      let g : Goes (meets passes names (GivesNamed q)) = goes-named passes names q in on-below (length base.units) old new le (g old new tt met)
  each-goes (Forms op count kind at) found le met =
      let g : Goes (meets passes names (Forms op count kind at)) = goes-makes count _ in on-below (length base.units) old new le (g old new tt met)
  each-goes (Decides at) found le met =
      let g : Goes (meets passes names (Decides at)) = goes-then _ _ (goes-some _) (λ e. goes-then _ _ (goes-whether passes _ _ at) (λ ints. goes-then _ _ (goes-decided passes ints _ at) (λ u. goes-sorts ints))) in on-below (length base.units) old new le (g old new tt met)
  each-goes (IsSort at) found le met =
      let g : Goes (meets passes names (IsSort at)) = goes-then _ _ (goes-some _) (λ ints. goes-is-of passes _ at) in on-below (length base.units) old new le (g old new tt met)
  each-goes (Adds at) found le met =
      let g : Goes (meets passes names (Adds at)) = goes-then _ _ goes-takes-sort (λ ints. goes-makes 2 _) in on-below (length base.units) old new le (g old new tt met)
  each-goes (Compares op at) found le met =
      let g : Goes (meets passes names (Compares op at)) = goes-then _ _ goes-takes-sort (λ ints. goes-makes 2 _) in on-below (length base.units) old new le (g old new tt met)
  each-goes (Splits way) found le met =
      let g : Goes (meets passes names (Splits way)) = goes-then _ _ goes-flow-now (λ f. goes-then _ _ goes-ways-now (λ w. goes-then _ _ (goes-opens-choice _) (λ u. goes-sets-flow _))) in on-below (length base.units) old new le (g old new tt met)
  each-goes Switches found le met =
      let g : Goes (meets passes names Switches) = goes-then _ _ goes-flow-now (λ f. goes-then _ _ goes-closes-choice (λ c. goes-then _ _ (goes-opens-choice _) (λ u. goes-sets-flow _))) in on-below (length base.units) old new le (g old new tt met)
  each-goes (Turns at) found le met =
      let g : Goes (meets passes names (Turns at)) = goes-then _ _ goes-ways-now (λ w. goes-then _ _ (goes-makes 1 _) (λ u. goes-sets-ways _)) in on-below (length base.units) old new le (g old new tt met)
  each-goes (Conjoins at) found le met =
      let g : Goes (meets passes names (Conjoins at)) = goes-then _ _ goes-ways-now (λ w. goes-then _ _ goes-closes-choice (λ c. goes-then _ _ (goes-some _) (λ j. goes-then _ _ (goes-sets-flow _) (λ u. goes-then _ _ (goes-makes 2 _) (λ v. goes-sets-ways _))))) in on-below (length base.units) old new le (g old new tt met)
  each-goes (Disjoins at) found le met =
      let g : Goes (meets passes names (Disjoins at)) = goes-then _ _ goes-ways-now (λ w. goes-then _ _ goes-closes-choice (λ c. goes-then _ _ (goes-some _) (λ j. goes-then _ _ (goes-sets-flow _) (λ u. goes-then _ _ (goes-makes 2 _) (λ v. goes-sets-ways _))))) in on-below (length base.units) old new le (g old new tt met)
  each-goes (Chooses at) found le met =
      let g : Goes (meets passes names (Chooses at)) = goes-then _ _ goes-closes-choice (λ c. goes-then _ _ (goes-sets-flow _) (λ u. goes-makes 3 _)) in on-below (length base.units) old new le (g old new tt met)
  each-goes (FillsNil at) found le met =
      let g : Goes (meets passes names (FillsNil at)) = goes-then _ _ (goes-some _) (λ p. goes-then _ _ (goes-new-slot _) (λ own. goes-makes 2 _)) in on-below (length base.units) old new le (g old new tt met)
  each-goes (Tests name at) found le met =
      let g : Goes (meets passes names (Tests name at)) = goes-then _ _ (goes-some _) (λ t. goes-then _ _ (goes-no-more 1) (λ u. goes-then _ _ (goes-ways-of-test passes name t at) (λ w. goes-then _ _ (goes-makes 1 _) (λ v. goes-sets-ways w)))) in on-below (length base.units) old new le (g old new tt met)
  each-goes (Casts at) found le met =
      let g : Goes (meets passes names (Casts at)) = goes-then _ _ (goes-some _) (λ t. goes-then _ _ (goes-no-more 1) (λ u. goes-makes 1 _)) in on-below (length base.units) old new le (g old new tt met)
  each-goes (Checks at) found le met =
      let g : Goes (meets passes names (Checks at)) = goes-then _ _ (goes-some _) (λ a. goes-then _ _ (goes-some _) (λ u. goes-then _ _ (goes-some _) (λ errors. goes-then _ _ (goes-asking _ (below-behind passes errors.sem _ (Some at))) (λ v. goes-checked false at)))) in on-below (length base.units) old new le (g old new tt met)
  each-goes (ChecksPanicking at) found le met =
      let g : Goes (meets passes names (ChecksPanicking at)) = goes-checked true at in on-below (length base.units) old new le (g old new tt met)
  each-goes (Traps at) found le met =
      let g : Goes (meets passes names (Traps at)) = goes-makes 1 _ in on-below (length base.units) old new le (g old new tt met)
  each-goes (Encloses at) found le met =
      let g : Goes (meets passes names (Encloses at)) = goes-then _ _ (goes-some _) (λ w. goes-then _ _ (goes-makes 1 _) (λ u. goes-sets-ways w)) in on-below (length base.units) old new le (g old new tt met)
  each-goes (IsAccessed texts at) found le met =
      let g : Goes (meets passes names (IsAccessed texts at)) = goes-accessed passes texts at in on-below (length base.units) old new le (g old new tt met)
  each-goes (IsIndex at) found le met =
      let g : Goes (meets passes names (IsIndex at)) = goes-then _ _ (goes-some _) (λ a. goes-is-of passes _ at) in on-below (length base.units) old new le (g old new tt met)
  each-goes (ReadsElement at) found le met =
      let g : Goes (meets passes names (ReadsElement at)) = goes-then _ _ (goes-then _ _ (goes-some _) (λ a. goes-then _ _ (goes-becomes _ (λ s. goes-beside s _ refl refl)) (λ u. goes-some _))) (λ a. goes-reads passes a at) in on-below (length base.units) old new le (g old new tt met)
  each-goes (ReadsField w at) found le met =
      let g : Goes (meets passes names (ReadsField w at)) = goes-then _ _ (goes-some _) (λ e. goes-then _ _ (goes-field-type passes _ _ at) (λ m. goes-makes 1 _)) in on-below (length base.units) old new le (g old new tt met)
  each-goes (ReadsOptional w at) found le met =
      let g : Goes (meets passes names (ReadsOptional w at)) = goes-then _ _ (goes-some _) (λ e. goes-then _ _ (goes-some-member passes _ _ at) (λ m. goes-makes 1 _)) in on-below (length base.units) old new le (g old new tt met)
  each-goes (ChoosesList e items at) found le met =
      let g : Goes (meets passes names (ChoosesList e items at)) = goes-constructor passes (λ t. t.lists) (ListFits items) e at in on-below (length base.units) old new le (g old new tt met)
  each-goes (ChoosesMapping e members at) found le met =
      let g : Goes (meets passes names (ChoosesMapping e members at)) = goes-constructor passes (λ t. t.maps) (MappingFits members) e at in on-below (length base.units) old new le (g old new tt met)
  each-goes BeginsKeys found le met =
      let g : Goes (meets passes names BeginsKeys) = goes-opens-constructor _ in on-below (length base.units) old new le (g old new tt met)
  each-goes (GivesKey text at) found le met =
      let g : Goes (meets passes names (GivesKey text at)) = goes-then _ _ (goes-takes-key text at) (λ u. goes-makes 0 _) in on-below (length base.units) old new le (g old new tt met)
  each-goes (TakesKey text at) found le met =
      let g : Goes (meets passes names (TakesKey text at)) = goes-takes-key text at in on-below (length base.units) old new le (g old new tt met)
  each-goes ComputesKey found le met =
      let g : Goes (meets passes names ComputesKey) = goes-then _ _ (goes-some _) (λ c. goes-sets-constructor _) in on-below (length base.units) old new le (g old new tt met)
  each-goes ExpectsItem found le met =
      let g : Goes (meets passes names ExpectsItem) = goes-then _ _ (goes-some _) (λ c. goes-then _ _ (goes-some _) (λ w. goes-wants w)) in on-below (length base.units) old new le (g old new tt met)
  each-goes ExpectsMember found le met =
      let g : Goes (meets passes names ExpectsMember) = goes-then _ _ (goes-some _) (λ c. goes-then _ _ (goes-some _) (λ w. goes-wants w)) in on-below (length base.units) old new le (g old new tt met)
  each-goes (IsItem at) found le met =
      let g : Goes (meets passes names (IsItem at)) = goes-then _ _ (goes-some _) (λ c. goes-then _ _ (goes-some _) (λ e. goes-then _ _ (goes-some _) (λ w. goes-then _ _ (goes-below-if passes w e at) (λ u. goes-then _ _ (goes-may-stand passes c e at) (λ v. goes-then _ _ (goes-adds-member passes c e at) (λ x. goes-no-more 1)))))) in on-below (length base.units) old new le (g old new tt met)
  each-goes (IsMember at) found le met =
      let g : Goes (meets passes names (IsMember at)) = goes-then _ _ (goes-some _) (λ c. goes-then _ _ (goes-some _) (λ e. goes-then _ _ (goes-some _) (λ w. goes-then _ _ (goes-below-if passes w e at) (λ u. goes-then _ _ (goes-then _ _ (goes-some _) (λ key. goes-fits-keys passes c.choice key at)) (λ v. goes-then _ _ (goes-may-stand passes c e at) (λ x. goes-then _ _ (goes-adds-member passes c e at) (λ y. goes-no-more 1))))))) in on-below (length base.units) old new le (g old new tt met)
  each-goes (IsDetail at) found le met =
      let g : Goes (meets passes names (IsDetail at)) = goes-then _ _ (goes-some _) (λ c. goes-then _ _ (goes-some _) (λ e. goes-then _ _ (goes-frozen passes e at) (λ u. goes-then _ _ (goes-some _) (λ t. goes-sets-constructor _)))) in on-below (length base.units) old new le (g old new tt met)
  each-goes (LacksCause at) found le met =
      let g : Goes (meets passes names (LacksCause at)) = goes-makes 0 _ in on-below (length base.units) old new le (g old new tt met)
  each-goes (MakesList count at) found le met =
      let g : Goes (meets passes names (MakesList count at)) = goes-then _ _ goes-closes-constructor (λ c. goes-then _ _ (goes-atom-of c.choice _ at) (λ atom. goes-makes count _)) in on-below (length base.units) old new le (g old new tt met)
  each-goes (MakesMapping count at) found le met =
      let g : Goes (meets passes names (MakesMapping count at)) = goes-then _ _ goes-closes-constructor (λ c. goes-then _ _ (goes-atom-of c.choice _ at) (λ atom. goes-makes _ _)) in on-below (length base.units) old new le (g old new tt met)
  each-goes (MakesError count at) found le met =
      let g : Goes (meets passes names (MakesError count at)) = goes-then _ _ goes-closes-constructor (λ c. goes-then _ _ (goes-asking _ (adds-behind _ _)) (λ first. goes-makes _ _)) in on-below (length base.units) old new le (g old new tt met)
  each-goes (CallsNamed started q count at) found le met =
      let g : Goes (meets passes names (CallsNamed started q count at)) = goes-then _ _ (goes-looks-up names q) (λ seen. goes-called passes started seen count q.at at) in on-below (length base.units) old new le (g old new tt met)
  each-goes CallsValue found le met =
      let g : Goes (meets passes names CallsValue) = goes-opens-call _ in on-below (length base.units) old new le (g old new tt met)
  each-goes (CallsMethod w count at) found le met =
      let g : Goes (meets passes names (CallsMethod w count at)) = goes-then _ _ (goes-some _) (λ e. goes-then _ _ (goes-picks passes _ e at) (λ row. goes-then _ _ (goes-handles _ _) (λ t. goes-library row (Some t) count at))) in on-below (length base.units) old new le (g old new tt met)
  each-goes (ExpectsArgument at) found le met =
      let g : Goes (meets passes names (ExpectsArgument at)) = goes-then _ _ (goes-some _) (λ c. goes-expects-by passes c.callee c.args at) in on-below (length base.units) old new le (g old new tt met)
  each-goes (IsArgument at) found le met =
      let g : Goes (meets passes names (IsArgument at)) = goes-then _ _ (goes-some _) (λ c. goes-fits passes c at) in on-below (length base.units) old new le (g old new tt met)
  each-goes (MakesCall at) found le met =
      let g : Goes (meets passes names (MakesCall at)) = goes-then _ _ goes-closes-call (λ c. goes-call-of passes c.callee c.args at) in on-below (length base.units) old new le (g old new tt met)
  each-goes (Starts here at) found le met =
      let g : Goes (meets passes names (Starts here at)) = goes-then _ _ goes-closes-call (λ c. goes-starts-of passes c.callee c.args here at) in on-below (length base.units) old new le (g old new tt met)
  each-goes BeginsAnonymous found le met =
      let g : Goes (meets passes names BeginsAnonymous) = goes-then _ _ (goes-some _) (λ around. goes-then _ _ goes-new-number (λ n. goes-opens-unit _)) in on-below (length base.units) old new le (g old new tt met)
  each-goes (HasParameter w) found le met = parameter-below (length base.units) w old new tt (units-long base.units old.units found.0.units found.1.units) met
  each-goes (HasRest w) found le met = rest-below (length base.units) w old new tt (units-long base.units old.units found.0.units found.1.units) met
  each-goes (BeginsValue used) found le met = value-below (length base.units) used old new tt (units-long base.units old.units found.0.units found.1.units) met
  each-goes (MakesAnonymous isolated at) found le met = anonymous-below (length base.units) isolated at old new tt (units-long base.units old.units found.0.units found.1.units) met
  each-goes (Awaits q) found le met =
      let g : Goes (meets passes names (Awaits q)) = goes-then _ _ (goes-some _) (λ site. goes-awaits-by passes names q _) in on-below (length base.units) old new le (g old new tt met)
  each-goes (WaitsForAny qs at) found le met =
      let g : Goes (meets passes names (WaitsForAny qs at)) = goes-then _ _ (goes-some _) (λ site. goes-then _ _ (goes-takes-wants _) (λ ts. goes-makes _ _)) in on-below (length base.units) old new le (g old new tt met)
  each-goes (WaitsForAll qs at) found le met =
      let g : Goes (meets passes names (WaitsForAll qs at)) = goes-then _ _ (goes-some _) (λ site. goes-then _ _ goes-closes-constructor (λ c. goes-then _ _ (goes-takes-wants _) (λ ts. goes-then _ _ (goes-asking _ (adds-behind _ _)) (λ atom. goes-makes _ _)))) in on-below (length base.units) old new le (g old new tt met)
  each-goes (Receives e peer at) found le met =
      let g : Goes (meets passes names (Receives e peer at)) = goes-receives e peer at in on-below (length base.units) old new le (g old new tt met)
  each-goes (Sends peer at) found le met =
      let g : Goes (meets passes names (Sends peer at)) = goes-then _ _ (goes-peer peer) (λ p. goes-makes 1 _) in on-below (length base.units) old new le (g old new tt met)
  each-goes (SendsAndWaits peer at) found le met =
      let g : Goes (meets passes names (SendsAndWaits peer at)) = goes-then _ _ (goes-peer peer) (λ p. goes-message-to _ 1 _ p at) in on-below (length base.units) old new le (g old new tt met)
  each-goes (Flushes peer at) found le met =
      let g : Goes (meets passes names (Flushes peer at)) = goes-then _ _ (goes-peer peer) (λ p. goes-message-to _ 0 _ p at) in on-below (length base.units) old new le (g old new tt met)
  each-goes (IsNew w) found le met =
      let g : Goes (meets passes names (IsNew w)) = goes-is-new w in on-below (length base.units) old new le (g old new tt met)
  each-goes (Declares name final assigned at) found le met =
      let g : Goes (meets passes names (Declares name final assigned at)) = goes-then _ _ goes-takes-part (λ value. goes-then _ _ goes-takes-want (λ t. goes-then _ _ (goes-new-slot t) (λ slot. goes-then _ _ (goes-changes-flow _) (λ u. goes-adds-stmt _)))) in on-below (length base.units) old new le (g old new tt met)
  each-goes (IsAssignable q) found le met =
      let g : Goes (meets passes names (IsAssignable q)) = goes-then _ _ (goes-looks-up names q) (λ seen. goes-seen-assignable seen q.at) in on-below (length base.units) old new le (g old new tt met)
  each-goes (Assigns q at) found le met =
      let g : Goes (meets passes names (Assigns q at)) = goes-then _ _ goes-takes-part (λ value. goes-then _ _ (goes-no-more 1) (λ u. goes-then _ _ (goes-assigned-by names q) (λ a. goes-assigns-to a value at))) in on-below (length base.units) old new le (g old new tt met)
  each-goes (HasField w) found le met =
      let g : Goes (meets passes names (HasField w)) = goes-then _ _ (goes-makes 0 _) (λ u. goes-becomes _ (λ s. goes-beside s _ refl refl)) in on-below (length base.units) old new le (g old new tt met)
  each-goes (ExpectsStored at) found le met =
      let g : Goes (meets passes names (ExpectsStored at)) = goes-then _ _ (goes-some _) (λ p. goes-then _ _ (goes-some _) (λ a. goes-then _ _ (goes-asking _ (names-behind passes a _ at)) (λ keys. goes-then _ _ (goes-some-member passes _ keys at) (λ m. goes-wants-some _)))) in on-below (length base.units) old new le (g old new tt met)
  each-goes (Stores at) found le met =
      let g : Goes (meets passes names (Stores at)) = goes-then _ _ (goes-no-more 1) (λ u. goes-then _ _ goes-takes-access (λ a. goes-then _ _ (goes-takes 3) (λ all. goes-then _ _ (goes-some _) (λ form. goes-adds-stmt _)))) in on-below (length base.units) old new le (g old new tt met)
  each-goes (ReadsName q) found le met =
      let g : Goes (meets passes names (ReadsName q)) = goes-then _ _ (goes-assigned-by names q) (λ a. goes-reads-assigned a) in on-below (length base.units) old new le (g old new tt met)
  each-goes (ReadsStored at) found le met =
      let g : Goes (meets passes names (ReadsStored at)) = goes-then _ _ (goes-some _) (λ p. goes-then _ _ (goes-some _) (λ a. goes-then _ _ (goes-stored-type passes a _ _ at) (λ t. goes-wants-some _))) in on-below (length base.units) old new le (g old new tt met)
  each-goes (ReadsStoredField w at) found le met =
      let g : Goes (meets passes names (ReadsStoredField w at)) = goes-then _ _ (goes-some _) (λ p. goes-then _ _ (goes-field-type passes _ _ at) (λ m. goes-wants-some _)) in on-below (length base.units) old new le (g old new tt met)
  each-goes (IsOperand op at) found le met =
      let g : Goes (meets passes names (IsOperand op at)) = goes-then _ _ (goes-some _) (λ t. goes-then _ _ (goes-within passes _ _ at) (λ u. goes-then _ _ (goes-operand-sort passes op t at) (λ ints. goes-then _ _ (goes-sorts ints) (λ v. goes-wants-some _)))) in on-below (length base.units) old new le (g old new tt met)
  each-goes (UpdatesName q op at) found le met =
      let g : Goes (meets passes names (UpdatesName q op at)) = goes-then _ _ (goes-result-fits passes at) (λ t. goes-then _ _ (goes-takes-operator op) (λ o. goes-then _ _ goes-takes-part (λ value. goes-then _ _ (goes-assigned-by names q) (λ a. goes-updates-assigned a t o value at)))) in on-below (length base.units) old new le (g old new tt met)
  each-goes (UpdatesElement op at) found le met =
      let g : Goes (meets passes names (UpdatesElement op at)) = goes-then _ _ (goes-result-fits passes at) (λ t. goes-then _ _ (goes-takes-operator op) (λ o. goes-then _ _ goes-takes-access (λ a. goes-then _ _ (goes-takes 3) (λ all. goes-updates-member _ t o all at)))) in on-below (length base.units) old new le (g old new tt met)
  each-goes (UpdatesField w op at) found le met =
      let g : Goes (meets passes names (UpdatesField w op at)) = goes-then _ _ (goes-result-fits passes at) (λ t. goes-then _ _ (goes-takes-operator op) (λ o. goes-then _ _ goes-takes-access (λ a. goes-then _ _ (goes-takes 3) (λ all. goes-updates-member _ t o all at)))) in on-below (length base.units) old new le (g old new tt met)
  each-goes (IsIgnorable at) found le met =
      let g : Goes (meets passes names (IsIgnorable at)) = goes-then _ _ (goes-some _) (λ e. goes-then _ _ (goes-whether passes _ _ at) (λ b. goes-unless b _ at)) in on-below (length base.units) old new le (g old new tt met)
  each-goes (Performs form count at) found le met =
      let g : Goes (meets passes names (Performs form count at)) = goes-then _ _ (goes-takes count) (λ all. goes-adds-stmt _) in on-below (length base.units) old new le (g old new tt met)
  each-goes Stops found le met =
      let g : Goes (meets passes names Stops) = goes-changes-flow _ in on-below (length base.units) old new le (g old new tt met)
  each-goes (Returns at) found le met =
      let g : Goes (meets passes names (Returns at)) = goes-then _ _ goes-takes-part (λ value. goes-then _ _ (goes-no-more 1) (λ u. goes-then _ _ (goes-adds-stmt _) (λ v. goes-changes-flow _))) in on-below (length base.units) old new le (g old new tt met)
  each-goes (ReturnsNil at) found le met =
      let g : Goes (meets passes names (ReturnsNil at)) = goes-then _ _ (goes-then _ _ (goes-some _) (λ u. goes-then _ _ (goes-some _) (λ nil. goes-asking _ (below-behind passes _ _ (Some at))))) (λ u. goes-then _ _ (goes-adds-stmt _) (λ v. goes-changes-flow _)) in on-below (length base.units) old new le (g old new tt met)
  each-goes (Breaks at) found le met =
      let g : Goes (meets passes names (Breaks at)) = goes-then _ _ (goes-adds-stmt _) (λ u. goes-changes-flow _) in on-below (length base.units) old new le (g old new tt met)
  each-goes (Continues at) found le met =
      let g : Goes (meets passes names (Continues at)) = goes-then _ _ (goes-adds-stmt _) (λ u. goes-changes-flow _) in on-below (length base.units) old new le (g old new tt met)
  each-goes BeginsBlock found le met =
      let g : Goes (meets passes names BeginsBlock) = goes-then _ _ goes-flow-now (λ f. goes-becomes _ (λ s. goes-beside s _ refl refl)) in on-below (length base.units) old new le (g old new tt met)
  each-goes EndsBlock found le met =
      let g : Goes (meets passes names EndsBlock) = goes-then _ _ (goes-some _) (λ b. goes-changes-flow _) in on-below (length base.units) old new le (g old new tt met)
  each-goes (MakesBlock at) found le met =
      let g : Goes (meets passes names (MakesBlock at)) = goes-then _ _ goes-closes-block (λ b. goes-adds-stmt _) in on-below (length base.units) old new le (g old new tt met)
  each-goes (MakesIf at) found le met =
      let g : Goes (meets passes names (MakesIf at)) = goes-then _ _ goes-flow-now (λ f. goes-then _ _ goes-closes-choice (λ c. goes-then _ _ (goes-some _) (λ g. goes-then _ _ (goes-sets-flow g) (λ u. goes-then _ _ goes-closes-block (λ second. goes-then _ _ goes-closes-block (λ first. goes-then _ _ goes-takes-part (λ condition. goes-adds-stmt _))))))) in on-below (length base.units) old new le (g old new tt met)
  each-goes (Heads assigned) found le met =
      let g : Goes (meets passes names (Heads assigned)) = goes-changes-flow _ in on-below (length base.units) old new le (g old new tt met)
  each-goes OpensLoop found le met =
      let g : Goes (meets passes names OpensLoop) = goes-then _ _ goes-flow-now (λ f. goes-opens-choice _) in on-below (length base.units) old new le (g old new tt met)
  each-goes (MakesWhile leaves at) found le met =
      let g : Goes (meets passes names (MakesWhile leaves at)) = goes-then _ _ goes-closes-choice (λ c. goes-then _ _ (goes-sets-flow _) (λ u. goes-then _ _ goes-closes-block (λ body. goes-then _ _ goes-takes-part (λ condition. goes-adds-stmt _)))) in on-below (length base.units) old new le (g old new tt met)
  each-goes (IsItemOfLoop at) found le met =
      let g : Goes (meets passes names (IsItemOfLoop at)) = goes-then _ _ (goes-item-type passes at) (λ m. goes-then _ _ (goes-some _) (λ t. goes-asking _ (below-behind passes m _ (Some at)))) in on-below (length base.units) old new le (g old new tt met)
  each-goes (WidensItem at) found le met =
      let g : Goes (meets passes names (WidensItem at)) = goes-then _ _ (goes-item-type passes at) (λ m. goes-then _ _ (goes-some _) (λ t. goes-then _ _ (goes-widened passes t at) (λ u. goes-wants _))) in on-below (length base.units) old new le (g old new tt met)
  each-goes (IsCounter at) found le met =
      let g : Goes (meets passes names (IsCounter at)) = goes-then _ _ (goes-some _) (λ t. goes-then _ _ (goes-some _) (λ int. goes-asking _ (below-behind passes int.sem _ (Some at)))) in on-below (length base.units) old new le (g old new tt met)
  each-goes WantsCounter found le met =
      let g : Goes (meets passes names WantsCounter) = goes-wants-some _ in on-below (length base.units) old new le (g old new tt met)
  each-goes (HasItem name assigned) found le met =
      let g : Goes (meets passes names (HasItem name assigned)) = goes-then _ _ goes-takes-want (λ t. goes-then _ _ (goes-new-slot t) (λ slot. goes-changes-flow _)) in on-below (length base.units) old new le (g old new tt met)
  each-goes (MakesForeach at) found le met =
      let g : Goes (meets passes names (MakesForeach at)) = goes-then _ _ goes-item-variable (λ v. goes-then _ _ goes-closes-choice (λ c. goes-then _ _ (goes-sets-flow _) (λ u. goes-then _ _ goes-closes-block (λ body. goes-then _ _ goes-takes-part (λ list. goes-then _ _ (goes-new-slot _) (λ own. goes-then _ _ (goes-kind-slot kind.Integer) (λ index. goes-then _ _ (goes-some _) (λ over. goes-adds-stmt _)))))))) in on-below (length base.units) old new le (g old new tt met)
  each-goes (MakesRange op at) found le met =
      let g : Goes (meets passes names (MakesRange op at)) = goes-then _ _ goes-item-variable (λ v. goes-then _ _ goes-closes-choice (λ c. goes-then _ _ (goes-sets-flow _) (λ u. goes-then _ _ goes-closes-block (λ body. goes-then _ _ (goes-some _) (λ p. goes-then _ _ (goes-takes 2) (λ all. goes-then _ _ (goes-kind-slot kind.Integer) (λ own. goes-then _ _ (goes-kind-slot kind.Integer) (λ last. goes-then _ _ (goes-kind-slot kind.Truth) (λ left. goes-then _ _ (goes-some _) (λ over. goes-adds-stmt _)))))))))) in on-below (length base.units) old new le (g old new tt met)
  each-goes (BeginsMatch name at) found le met =
      let g : Goes (meets passes names (BeginsMatch name at)) = goes-then _ _ (goes-some _) (λ e. goes-then _ _ goes-flow-now (λ f. goes-opens-match _)) in on-below (length base.units) old new le (g old new tt met)
  each-goes (HasPattern p) found le met =
      let g : Goes (meets passes names (HasPattern p)) = goes-pattern names p in on-below (length base.units) old new le (g old new tt met)
  each-goes (BeginsClause any) found le met =
      let g : Goes (meets passes names (BeginsClause any)) = goes-begins-clause passes any in on-below (length base.units) old new le (g old new tt met)
  each-goes (EndsClause at) found le met =
      let g : Goes (meets passes names (EndsClause at)) = goes-then _ _ goes-flow-now (λ f. goes-then _ _ goes-closes-block (λ b. goes-then _ _ (goes-some _) (λ m. goes-then _ _ (goes-some _) (λ c. goes-sets-match _)))) in on-below (length base.units) old new le (g old new tt met)
  each-goes (MakesMatch any at) found le met =
      let g : Goes (meets passes names (MakesMatch any at)) = goes-makes-match passes any at in on-below (length base.units) old new le (g old new tt met)
  each-goes (EntersFile m file) found le met = absurd found
  each-goes (BeginsFunction d) found le met = absurd found
  each-goes (NamesParameter w assigned) found le met =
      let g : Goes (meets passes names (NamesParameter w assigned)) = goes-then _ _ (goes-is-new w) (λ u. goes-then _ _ (goes-some _) (λ unit. goes-then _ _ (goes-some _) (λ t. goes-changes-flow _))) in on-below (length base.units) old new le (g old new tt met)
  each-goes (EndsFunction d close) found le met = absurd found
  each-goes (EndsValueFunction d) found le met = absurd found
  each-goes (BeginsWorker w number uses) found le met =
      let g : Goes (meets passes names (BeginsWorker w number uses)) = goes-then _ _ (goes-worker-new w number) (λ u. goes-then _ _ (goes-result number) (λ r. goes-then _ _ (goes-some _) (λ around. goes-then _ _ goes-new-number (λ n. goes-opens-unit _)))) in on-below (length base.units) old new le (g old new tt met)
  each-goes (EndsWorker w close) found le met = worker-below passes (length base.units) w close old new tt (units-long base.units old.units found.0.units found.1.units) met
  each-goes (BeginsInitial d kept) found le met = absurd found
  each-goes (EndsInitial d kept) found le met = absurd found
  each-goes (EndsModule m) found le met = absurd found
  each-goes (IsConstant d) found le met =
      let g : Goes (meets passes names (IsConstant d)) = goes-constant passes names d.ty d in on-below (length base.units) old new le (g old new tt met)

pub needs-go-on : (passes : List AtomDef → Asked → TypeLimit → Type 0) → NeedsGoOn passes
needs-go-on passes names base old new need found le met = each-goes passes names base old new need found le met
