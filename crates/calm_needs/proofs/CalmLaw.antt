-- Each need of expressions and actions.
use Rattle.std.proofs.Common.{true, false, List, Some, refl}
use Rattle.descriptors.specs.declared.names.Names.{Names}
use Rattle.type_model.specs.declared.answers.TypeLimit.{TypeLimit}
use Rattle.type_model.specs.declared.atoms.AtomDef.{AtomDef}
use Rattle.type_model.specs.Calls.{Asked}
use Rattle.expr_needs.specs.Needs.{Need, Fails, IsOf, IsWanted, Describes, Widens, WantsResult, WantsErrorToo, DropsWant, GivesLiteral, GivesNamed, Forms, Decides, IsSort, Adds, Compares, Splits, Switches, Turns, Conjoins, Disjoins, Chooses, FillsNil, Tests, Casts, Checks, ChecksPanicking, Traps, Encloses, IsAccessed, IsIndex, ReadsElement, ReadsField, ReadsOptional, ChoosesList, ChoosesMapping, BeginsKeys, GivesKey, TakesKey, ComputesKey, ExpectsItem, ExpectsMember, IsItem, IsMember, IsDetail, LacksCause, MakesList, MakesMapping, MakesError, CallsNamed, CallsValue, CallsMethod, ExpectsArgument, IsArgument, MakesCall, Starts, BeginsAnonymous, HasParameter, HasRest, BeginsValue, MakesAnonymous, Awaits, WaitsForAny, WaitsForAll, Receives, Sends, SendsAndWaits, Flushes, IsNew, Declares, IsAssignable, Assigns, HasField, ExpectsStored, Stores, ReadsName, ReadsStored, ReadsStoredField, IsOperand, UpdatesName, UpdatesElement, UpdatesField, IsIgnorable, Performs, Stops, Returns, ReturnsNil, Breaks, Continues, BeginsBlock, EndsBlock, MakesBlock, MakesIf, Heads, OpensLoop, MakesWhile, IsItemOfLoop, WidensItem, IsCounter, WantsCounter, HasItem, MakesForeach, MakesRange, BeginsMatch, HasPattern, BeginsClause, EndsClause, MakesMatch, EntersFile, BeginsFunction, NamesParameter, EndsFunction, EndsValueFunction, BeginsWorker, EndsWorker, BeginsInitial, EndsInitial, EndsModule, IsConstant}
use Rattle.check_words.specs.Constructors.{ListFits, MappingFits}
use Rattle.check_words.specs.Meets.{meets}
use Rattle.typed_needs.proofs.Questions.{adds-behind, below-behind, whole-behind}
use Rattle.calm_needs.specs.Calm.{AllNeedsAreCalm, IsCalmNeed, NeedsAreCalm}
use Rattle.calm_needs.proofs.CalmWords.{calm-accessed, calm-adds-member, calm-atom-of, calm-awaits-by, calm-below-if, calm-beside-error, calm-call-of, calm-called, calm-checked, calm-closes-call, calm-constructor, calm-decided, calm-expects-by, calm-field-type, calm-fits, calm-fits-keys, calm-frozen, calm-is-of, calm-library, calm-looks-up, calm-may-stand, calm-message-to, calm-named, calm-opens-call, calm-peer, calm-picks, calm-reads, calm-receives, calm-some-member, calm-sorts, calm-starts-of, calm-takes-key, calm-takes-sort, calm-takes-wants, calm-whether, calm-widened}
use Rattle.calm_needs.proofs.Calming.{Calm, calm-asking, calm-becomes, calm-beside, calm-closes-constructor, calm-handles, calm-makes, calm-new-slot, calm-no-more, calm-none, calm-opens-constructor, calm-sets-constructor, calm-some, calm-then, calm-wants, calm-wants-some}
use Rattle.calm_needs.proofs.PlacedParts.{elvis-units, implied-units, of-these, strict-units, trap-units}
use Rattle.calm_needs.proofs.Ways.{choose, conjoin, disjoin, enclose, split, switch, test, turn}

module _ (passes : List AtomDef → Asked → TypeLimit → Type 0) (names : Names) where
  calm-need : (n : Need) → IsCalmNeed n → Calm (meets passes names n)
  calm-need (Fails code at) calm = absurd calm
  calm-need (IsOf kind at) calm = calm-is-of passes kind at
  calm-need (IsWanted at) calm = calm-then _ _ (calm-some _) (λ w. calm-then _ _ (calm-some _) (λ e. calm-below-if passes w e at))
  calm-need (Describes tree) calm = calm-then _ _ (calm-some _) (λ scope. calm-then _ _ (calm-asking _ (whole-behind names scope _)) (λ t. calm-wants-some _))
  calm-need (Widens at) calm = calm-then _ _ (calm-some _) (λ e. calm-then _ _ (calm-widened passes _ at) (λ t. calm-wants (Some t)))
  calm-need WantsResult calm = calm-then _ _ (calm-some _) (λ u. calm-wants _)
  calm-need WantsErrorToo calm = calm-then _ _ (calm-some _) (λ w. calm-beside-error w)
  calm-need DropsWant calm = calm-no-more 1
  calm-need (GivesLiteral l) calm = calm-makes 0 _ (λ env parts e h. strict-units e h.2)
  calm-need (GivesNamed q) calm = calm-named passes names q
  calm-need (Forms op count kind at) calm = calm-makes count _ (λ env parts e h. strict-units e h.2)
  calm-need (Decides at) calm = calm-then _ _ (calm-some _) (λ e. calm-then _ _ (calm-whether passes _ _ at) (λ ints. calm-then _ _ (calm-decided passes ints _ at) (λ u. calm-sorts ints)))
  calm-need (IsSort at) calm = calm-then _ _ (calm-some _) (λ ints. calm-is-of passes _ at)
  calm-need (Adds at) calm = calm-then _ _ calm-takes-sort (λ ints. calm-makes 2 _ (λ env parts e h. strict-units e h.2))
  calm-need (Compares op at) calm = calm-then _ _ calm-takes-sort (λ ints. calm-makes 2 _ (λ env parts e h. strict-units e h.2))
  calm-need (Splits way) calm = absurd calm
  calm-need Switches calm = absurd calm
  calm-need (Turns at) calm = absurd calm
  calm-need (Conjoins at) calm = absurd calm
  calm-need (Disjoins at) calm = absurd calm
  calm-need (Chooses at) calm = absurd calm
  calm-need (FillsNil at) calm = calm-then _ _ (calm-some _) (λ p. calm-then _ _ (calm-new-slot _) (λ own. calm-makes 2 _ (λ env parts e (a, b, is, (t, k, view)). of-these e is (elvis-units e view))))
  calm-need (Tests name at) calm = absurd calm
  calm-need (Casts at) calm = calm-then _ _ (calm-some _) (λ t. calm-then _ _ (calm-no-more 1) (λ u. calm-makes 1 _ (λ env parts e (a, is, (t, k, view)). strict-units e view)))
  calm-need (Checks at) calm = calm-then _ _ (calm-some _) (λ a. calm-then _ _ (calm-some _) (λ u. calm-then _ _ (calm-some _) (λ errors. calm-then _ _ (calm-asking _ (below-behind passes errors.sem _ (Some at))) (λ v. calm-checked false at))))
  calm-need (ChecksPanicking at) calm = calm-checked true at
  calm-need (Traps at) calm = calm-makes 1 _ (λ env parts e (a, is, (t, k, view)). of-these e is (trap-units e view))
  calm-need (Encloses at) calm = absurd calm
  calm-need (IsAccessed texts at) calm = calm-accessed passes texts at
  calm-need (IsIndex at) calm = calm-then _ _ (calm-some _) (λ a. calm-is-of passes _ at)
  calm-need (ReadsElement at) calm = calm-then _ _ (calm-then _ _ (calm-some _) (λ a. calm-then _ _ (calm-becomes _ (λ s. calm-beside s _ refl refl refl refl refl)) (λ u. calm-some _))) (λ a. calm-reads passes a at)
  calm-need (ReadsField w at) calm = calm-then _ _ (calm-some _) (λ e. calm-then _ _ (calm-field-type passes _ _ at) (λ m. calm-makes 1 _ (λ env parts e h. strict-units e h.2)))
  calm-need (ReadsOptional w at) calm = calm-then _ _ (calm-some _) (λ e. calm-then _ _ (calm-some-member passes _ _ at) (λ m. calm-makes 1 _ (λ env parts e h. strict-units e h.2)))
  calm-need (ChoosesList e items at) calm = calm-constructor passes (λ t. t.lists) (ListFits items) e at
  calm-need (ChoosesMapping e members at) calm = calm-constructor passes (λ t. t.maps) (MappingFits members) e at
  calm-need BeginsKeys calm = calm-opens-constructor _
  calm-need (GivesKey text at) calm = calm-then _ _ (calm-takes-key text at) (λ u. calm-none _ (λ env parts e h. implied-units e h.2))
  calm-need (TakesKey text at) calm = calm-takes-key text at
  calm-need ComputesKey calm = calm-then _ _ (calm-some _) (λ c. calm-sets-constructor _)
  calm-need ExpectsItem calm = calm-then _ _ (calm-some _) (λ c. calm-then _ _ (calm-some _) (λ w. calm-wants w))
  calm-need ExpectsMember calm = calm-then _ _ (calm-some _) (λ c. calm-then _ _ (calm-some _) (λ w. calm-wants w))
  calm-need (IsItem at) calm = calm-then _ _ (calm-some _) (λ c. calm-then _ _ (calm-some _) (λ e. calm-then _ _ (calm-some _) (λ w. calm-then _ _ (calm-below-if passes w e at) (λ u. calm-then _ _ (calm-may-stand passes c e at) (λ v. calm-then _ _ (calm-adds-member passes c e at) (λ x. calm-no-more 1))))))
  calm-need (IsMember at) calm = calm-then _ _ (calm-some _) (λ c. calm-then _ _ (calm-some _) (λ e. calm-then _ _ (calm-some _) (λ w. calm-then _ _ (calm-below-if passes w e at) (λ u. calm-then _ _ (calm-then _ _ (calm-some _) (λ key. calm-fits-keys passes c.choice key at)) (λ v. calm-then _ _ (calm-may-stand passes c e at) (λ x. calm-then _ _ (calm-adds-member passes c e at) (λ y. calm-no-more 1)))))))
  calm-need (IsDetail at) calm = calm-then _ _ (calm-some _) (λ c. calm-then _ _ (calm-some _) (λ e. calm-then _ _ (calm-frozen passes e at) (λ u. calm-then _ _ (calm-some _) (λ t. calm-sets-constructor _))))
  calm-need (LacksCause at) calm = calm-none _ (λ env parts e h. implied-units e h.2)
  calm-need (MakesList count at) calm = calm-then _ _ calm-closes-constructor (λ c. calm-then _ _ (calm-atom-of c.choice _ at) (λ atom. calm-makes count _ (λ env parts e h. strict-units e h.2)))
  calm-need (MakesMapping count at) calm = calm-then _ _ calm-closes-constructor (λ c. calm-then _ _ (calm-atom-of c.choice _ at) (λ atom. calm-makes _ _ (λ env parts e h. strict-units e h.2)))
  calm-need (MakesError count at) calm = calm-then _ _ calm-closes-constructor (λ c. calm-then _ _ (calm-asking _ (adds-behind _ _)) (λ first. calm-makes _ _ (λ env parts e h. strict-units e h.2)))
  calm-need (CallsNamed started q count at) calm = calm-then _ _ (calm-looks-up names q) (λ seen. calm-called passes started seen count q.at at)
  calm-need CallsValue calm = calm-opens-call _
  calm-need (CallsMethod w count at) calm = calm-then _ _ (calm-some _) (λ e. calm-then _ _ (calm-picks passes _ e at) (λ row. calm-then _ _ (calm-handles _ _) (λ t. calm-library row (Some t) count at)))
  calm-need (ExpectsArgument at) calm = calm-then _ _ (calm-some _) (λ c. calm-expects-by passes c.callee c.args at)
  calm-need (IsArgument at) calm = calm-then _ _ (calm-some _) (λ c. calm-fits passes c at)
  calm-need (MakesCall at) calm = calm-then _ _ calm-closes-call (λ c. calm-call-of passes c.callee c.args at)
  calm-need (Starts here at) calm = calm-then _ _ calm-closes-call (λ c. calm-starts-of passes c.callee c.args here at)
  calm-need BeginsAnonymous calm = absurd calm
  calm-need (HasParameter w) calm = absurd calm
  calm-need (HasRest w) calm = absurd calm
  calm-need (BeginsValue used) calm = absurd calm
  calm-need (MakesAnonymous isolated at) calm = absurd calm
  calm-need (Awaits q) calm = calm-then _ _ (calm-some _) (λ site. calm-awaits-by passes names q _)
  calm-need (WaitsForAny qs at) calm = calm-then _ _ (calm-some _) (λ site. calm-then _ _ (calm-takes-wants _) (λ ts. calm-makes _ _ (λ env parts e h. strict-units e h.2)))
  calm-need (WaitsForAll qs at) calm = calm-then _ _ (calm-some _) (λ site. calm-then _ _ calm-closes-constructor (λ c. calm-then _ _ (calm-takes-wants _) (λ ts. calm-then _ _ (calm-asking _ (adds-behind _ _)) (λ atom. calm-makes _ _ (λ env parts e h. strict-units e h.2)))))
  calm-need (Receives e peer at) calm = calm-receives e peer at
  calm-need (Sends peer at) calm = calm-then _ _ (calm-peer peer) (λ p. calm-makes 1 _ (λ env parts e h. strict-units e h.2))
  calm-need (SendsAndWaits peer at) calm = calm-then _ _ (calm-peer peer) (λ p. calm-message-to _ 1 _ p at)
  calm-need (Flushes peer at) calm = calm-then _ _ (calm-peer peer) (λ p. calm-message-to _ 0 _ p at)
  calm-need (IsNew w) calm = absurd calm
  calm-need (Declares name final assigned at) calm = absurd calm
  calm-need (IsAssignable q) calm = absurd calm
  calm-need (Assigns q at) calm = absurd calm
  calm-need (HasField w) calm = absurd calm
  calm-need (ExpectsStored at) calm = absurd calm
  calm-need (Stores at) calm = absurd calm
  calm-need (ReadsName q) calm = absurd calm
  calm-need (ReadsStored at) calm = absurd calm
  calm-need (ReadsStoredField w at) calm = absurd calm
  calm-need (IsOperand op at) calm = absurd calm
  calm-need (UpdatesName q op at) calm = absurd calm
  calm-need (UpdatesElement op at) calm = absurd calm
  calm-need (UpdatesField w op at) calm = absurd calm
  calm-need (IsIgnorable at) calm = absurd calm
  calm-need (Performs form count at) calm = absurd calm
  calm-need Stops calm = absurd calm
  calm-need (Returns at) calm = absurd calm
  calm-need (ReturnsNil at) calm = absurd calm
  calm-need (Breaks at) calm = absurd calm
  calm-need (Continues at) calm = absurd calm
  calm-need BeginsBlock calm = absurd calm
  calm-need EndsBlock calm = absurd calm
  calm-need (MakesBlock at) calm = absurd calm
  calm-need (MakesIf at) calm = absurd calm
  calm-need (Heads assigned) calm = absurd calm
  calm-need OpensLoop calm = absurd calm
  calm-need (MakesWhile leaves at) calm = absurd calm
  calm-need (IsItemOfLoop at) calm = absurd calm
  calm-need (WidensItem at) calm = absurd calm
  calm-need (IsCounter at) calm = absurd calm
  calm-need WantsCounter calm = absurd calm
  calm-need (HasItem name assigned) calm = absurd calm
  calm-need (MakesForeach at) calm = absurd calm
  calm-need (MakesRange op at) calm = absurd calm
  calm-need (BeginsMatch name at) calm = absurd calm
  calm-need (HasPattern p) calm = absurd calm
  calm-need (BeginsClause any) calm = absurd calm
  calm-need (EndsClause at) calm = absurd calm
  calm-need (MakesMatch any at) calm = absurd calm
  calm-need (EntersFile m file) calm = absurd calm
  calm-need (BeginsFunction d) calm = absurd calm
  calm-need (NamesParameter w assigned) calm = absurd calm
  calm-need (EndsFunction d close) calm = absurd calm
  calm-need (EndsValueFunction d) calm = absurd calm
  calm-need (BeginsWorker w number uses) calm = absurd calm
  calm-need (EndsWorker w close) calm = absurd calm
  calm-need (BeginsInitial d kept) calm = absurd calm
  calm-need (EndsInitial d kept) calm = absurd calm
  calm-need (EndsModule m) calm = absurd calm
  calm-need (IsConstant d) calm = absurd calm

  needs-are-calm : NeedsAreCalm passes names
  needs-are-calm =
      record {
        calm = λ need is old new met. calm-need need is old new tt met;
        tests = λ name at old new met. test passes name at old new met;
        turns = λ at old new met. turn at old new met;
        encloses = λ at old new met. enclose at old new met;
        splits = λ way place old new h met. split place way old new h met;
        switches = λ place old new c h met last known. switch place old new c h met last known;
        conjoins = λ at place old new c h met last known. conjoin place at old new c h met last known;
        disjoins = λ at place old new c h met last known. disjoin place at old new c h met last known;
        chooses = λ at place old new c h met last known. choose place at old new c h met last known;
      }

pub all-needs-are-calm : (passes : List AtomDef → Asked → TypeLimit → Type 0) → AllNeedsAreCalm passes
all-needs-are-calm passes names = needs-are-calm passes names
