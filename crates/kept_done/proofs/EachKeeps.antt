-- Each need that ends nothing keeps what is done.
use Rattle.std.proofs.Common.{Bool, List, None, Option, Some, ap, false, refl, true}
use Rattle.descriptors.specs.declared.names.Names.{Names}
use Rattle.type_model.specs.declared.answers.TypeLimit.{TypeLimit}
use Rattle.type_model.specs.declared.atoms.AtomDef.{AtomDef}
use Rattle.type_model.specs.Calls.{Asked}
use Rattle.expr_needs.specs.declared.kind.Kind.TheVariants as kind
use Rattle.expr_needs.specs.Needs.{Need, Fails, IsOf, IsWanted, Describes, Widens, WantsResult, WantsErrorToo, DropsWant, GivesLiteral, GivesNamed, Forms, Decides, IsSort, Adds, Compares, Splits, Switches, Turns, Conjoins, Disjoins, Chooses, FillsNil, Tests, Casts, Checks, ChecksPanicking, Traps, Encloses, IsAccessed, IsIndex, ReadsElement, ReadsField, ReadsOptional, ChoosesList, ChoosesMapping, BeginsKeys, GivesKey, TakesKey, ComputesKey, ExpectsItem, ExpectsMember, IsItem, IsMember, IsDetail, LacksCause, MakesList, MakesMapping, MakesError, CallsNamed, CallsValue, CallsMethod, ExpectsArgument, IsArgument, MakesCall, Starts, BeginsAnonymous, HasParameter, HasRest, BeginsValue, MakesAnonymous, Awaits, WaitsForAny, WaitsForAll, Receives, Sends, SendsAndWaits, Flushes, IsNew, Declares, IsAssignable, Assigns, HasField, ExpectsStored, Stores, ReadsName, ReadsStored, ReadsStoredField, IsOperand, UpdatesName, UpdatesElement, UpdatesField, IsIgnorable, Performs, Stops, Returns, ReturnsNil, Breaks, Continues, BeginsBlock, EndsBlock, MakesBlock, MakesIf, Heads, OpensLoop, MakesWhile, IsItemOfLoop, WidensItem, IsCounter, WantsCounter, HasItem, MakesForeach, MakesRange, BeginsMatch, HasPattern, BeginsClause, EndsClause, MakesMatch, EntersFile, BeginsFunction, NamesParameter, EndsFunction, EndsValueFunction, BeginsWorker, EndsWorker, BeginsInitial, EndsInitial, EndsModule, IsConstant}
use Rattle.check_words.specs.Constructors.{ListFits, MappingFits}
use Rattle.check_words.specs.Meets.{meets}
use Rattle.check_words.specs.State.{State}
use Rattle.check_laws.proofs.Still.{still-results}
use Rattle.bal_tree.specs.declared.def.FunctionDef.{FunctionDef}
use Rattle.bal_tree.specs.declared.def.VariableDef.{VariableDef}
use Rattle.bal_tree.specs.declared.def.Worker.{Worker}
use Rattle.check_words.specs.State.{InitialiserAtWork}
use Rattle.check_words.specs.Units.{initialiser_now, initialiser_or_new, keeps_at_work, signature_of, variable_type, worker_results}
use Rattle.checks.specs.Checks.{Gives}
use Rattle.kept_done.specs.Done.{EndsNone}
use Rattle.kept_done.proofs.Keeping.{Keeps, keeps-asking, keeps-becomes, keeps-beside, keeps-closes-choice, keeps-closes-constructor, keeps-closes-unit, keeps-fails, keeps-flow-now, keeps-handles, keeps-makes, keeps-new-number, keeps-new-slot, keeps-no-more, keeps-opens-choice, keeps-opens-constructor, keeps-sets-constructor, keeps-sets-flow, keeps-sets-unit, keeps-sets-ways, keeps-some, keeps-then, keeps-unless, keeps-wants, keeps-wants-some, keeps-ways-now}
use Rattle.kept_done.proofs.KeepingNeeds.{keeps-accessed, keeps-adds-member, keeps-atom-of, keeps-awaits-by, keeps-below-if, keeps-beside-error, keeps-call-of, keeps-called, keeps-checked, keeps-closes-call, keeps-constructor, keeps-decided, keeps-expects-by, keeps-field-type, keeps-fits, keeps-fits-keys, keeps-frozen, keeps-is-of, keeps-library, keeps-looks-up, keeps-may-stand, keeps-message-to, keeps-named, keeps-opens-call, keeps-opens-unit, keeps-peer, keeps-picks, keeps-reads, keeps-receives, keeps-result, keeps-some-member, keeps-sorts, keeps-starts-of, keeps-takes-key, keeps-takes-sort, keeps-takes-wants, keeps-ways-of-test, keeps-whether, keeps-widened, keeps-within}
use Rattle.kept_done.proofs.KeepingStmts.{keeps-adds-stmt, keeps-assigned-by, keeps-assigns-to, keeps-begins-clause, keeps-changes-flow, keeps-closes-block, keeps-constant, keeps-is-new, keeps-item-type, keeps-item-variable, keeps-kind-slot, keeps-makes-match, keeps-opens-match, keeps-operand-sort, keeps-pattern, keeps-reads-assigned, keeps-result-fits, keeps-seen-assignable, keeps-sets-match, keeps-stored-type, keeps-takes, keeps-takes-access, keeps-takes-operator, keeps-takes-part, keeps-takes-want, keeps-updates-assigned, keeps-updates-member, keeps-worker-new}

-- ---- functions and initial values

keeps-signature : (names : Names) (d : FunctionDef) → Keeps (signature_of names d)
keeps-signature names d = keeps-then _ _ (keeps-some _) (λ site. keeps-some _)

keeps-variable : (names : Names) (d : VariableDef) → Keeps (variable_type names d)
keeps-variable names d = keeps-then _ _ (keeps-some _) (λ site. keeps-some _)

keeps-results : (names : Names) (ws : List Worker) → Keeps (worker_results names ws)
keeps-results names ws old new r x = keeps-beside old new (ap (λ (s : State). s.done) (still-results names ws old new (Gives r) x))

keeps-initialiser-or-new : (i : Option InitialiserAtWork) → Keeps (initialiser_or_new i)
keeps-initialiser-or-new (Some i) = keeps-some _
keeps-initialiser-or-new None = keeps-then _ _ keeps-new-number (λ n. keeps-then _ _ (keeps-some _) (λ t. keeps-some _))

keeps-initialiser : Keeps initialiser_now
keeps-initialiser = keeps-then _ _ (keeps-some _) (λ i. keeps-initialiser-or-new i)

keeps-at-work : (kept : Bool) (i : InitialiserAtWork) → Keeps (keeps_at_work kept i)
keeps-at-work true i = keeps-becomes _ (λ s. keeps-beside s _ refl)
keeps-at-work false i = keeps-some _

-- ---- each need

module _ (passes : List AtomDef → Asked → TypeLimit → Type 0) (names : Names) where
  pub keeps-need : (n : Need) → EndsNone n → Keeps (meets passes names n)
  keeps-need (Fails code at) ends = keeps-fails code at
  keeps-need (IsOf kind at) ends = keeps-is-of passes kind at
  keeps-need (IsWanted at) ends = keeps-then _ _ (keeps-some _) (λ w. keeps-then _ _ (keeps-some _) (λ e. keeps-below-if passes w e at))
  keeps-need (Describes tree) ends = keeps-then _ _ (keeps-some _) (λ scope. keeps-then _ _ (keeps-asking _) (λ t. keeps-wants-some _))
  keeps-need (Widens at) ends = keeps-then _ _ (keeps-some _) (λ e. keeps-then _ _ (keeps-widened passes _ at) (λ t. keeps-wants (Some t)))
  keeps-need WantsResult ends = keeps-then _ _ (keeps-some _) (λ u. keeps-wants _)
  keeps-need WantsErrorToo ends = keeps-then _ _ (keeps-some _) (λ w. keeps-beside-error w)
  keeps-need DropsWant ends = keeps-no-more 1
  keeps-need (GivesLiteral l) ends = keeps-makes 0 _
  keeps-need (GivesNamed q) ends = keeps-named passes names q
  keeps-need (Forms op count kind at) ends = keeps-makes count _
  keeps-need (Decides at) ends = keeps-then _ _ (keeps-some _) (λ e. keeps-then _ _ (keeps-whether passes _ _ at) (λ ints. keeps-then _ _ (keeps-decided passes ints _ at) (λ u. keeps-sorts ints)))
  keeps-need (IsSort at) ends = keeps-then _ _ (keeps-some _) (λ ints. keeps-is-of passes _ at)
  keeps-need (Adds at) ends = keeps-then _ _ keeps-takes-sort (λ ints. keeps-makes 2 _)
  keeps-need (Compares op at) ends = keeps-then _ _ keeps-takes-sort (λ ints. keeps-makes 2 _)
  keeps-need (Splits way) ends = keeps-then _ _ keeps-flow-now (λ f. keeps-then _ _ keeps-ways-now (λ w. keeps-then _ _ (keeps-opens-choice _) (λ u. keeps-sets-flow _)))
  keeps-need Switches ends = keeps-then _ _ keeps-flow-now (λ f. keeps-then _ _ keeps-closes-choice (λ c. keeps-then _ _ (keeps-opens-choice _) (λ u. keeps-sets-flow _)))
  keeps-need (Turns at) ends = keeps-then _ _ keeps-ways-now (λ w. keeps-then _ _ (keeps-makes 1 _) (λ u. keeps-sets-ways _))
  keeps-need (Conjoins at) ends = keeps-then _ _ keeps-ways-now (λ w. keeps-then _ _ keeps-closes-choice (λ c. keeps-then _ _ (keeps-some _) (λ j. keeps-then _ _ (keeps-sets-flow _) (λ u. keeps-then _ _ (keeps-makes 2 _) (λ v. keeps-sets-ways _)))))
  keeps-need (Disjoins at) ends = keeps-then _ _ keeps-ways-now (λ w. keeps-then _ _ keeps-closes-choice (λ c. keeps-then _ _ (keeps-some _) (λ j. keeps-then _ _ (keeps-sets-flow _) (λ u. keeps-then _ _ (keeps-makes 2 _) (λ v. keeps-sets-ways _)))))
  keeps-need (Chooses at) ends = keeps-then _ _ keeps-closes-choice (λ c. keeps-then _ _ (keeps-sets-flow _) (λ u. keeps-makes 3 _))
  keeps-need (FillsNil at) ends = keeps-then _ _ (keeps-some _) (λ p. keeps-then _ _ (keeps-new-slot _) (λ own. keeps-makes 2 _))
  keeps-need (Tests name at) ends = keeps-then _ _ (keeps-some _) (λ t. keeps-then _ _ (keeps-no-more 1) (λ u. keeps-then _ _ (keeps-ways-of-test passes name t at) (λ w. keeps-then _ _ (keeps-makes 1 _) (λ v. keeps-sets-ways w))))
  keeps-need (Casts at) ends = keeps-then _ _ (keeps-some _) (λ t. keeps-then _ _ (keeps-no-more 1) (λ u. keeps-makes 1 _))
  keeps-need (Checks at) ends = keeps-then _ _ (keeps-some _) (λ a. keeps-then _ _ (keeps-some _) (λ u. keeps-then _ _ (keeps-some _) (λ errors. keeps-then _ _ (keeps-asking _) (λ v. keeps-checked false at))))
  keeps-need (ChecksPanicking at) ends = keeps-checked true at
  keeps-need (Traps at) ends = keeps-makes 1 _
  keeps-need (Encloses at) ends = keeps-then _ _ (keeps-some _) (λ w. keeps-then _ _ (keeps-makes 1 _) (λ u. keeps-sets-ways w))
  keeps-need (IsAccessed texts at) ends = keeps-accessed passes texts at
  keeps-need (IsIndex at) ends = keeps-then _ _ (keeps-some _) (λ a. keeps-is-of passes _ at)
  keeps-need (ReadsElement at) ends = keeps-then _ _ (keeps-then _ _ (keeps-some _) (λ a. keeps-then _ _ (keeps-becomes _ (λ s. keeps-beside s _ refl)) (λ u. keeps-some _))) (λ a. keeps-reads passes a at)
  keeps-need (ReadsField w at) ends = keeps-then _ _ (keeps-some _) (λ e. keeps-then _ _ (keeps-field-type passes _ _ at) (λ m. keeps-makes 1 _))
  keeps-need (ReadsOptional w at) ends = keeps-then _ _ (keeps-some _) (λ e. keeps-then _ _ (keeps-some-member passes _ _ at) (λ m. keeps-makes 1 _))
  keeps-need (ChoosesList e items at) ends = keeps-constructor passes (λ t. t.lists) (ListFits items) e at
  keeps-need (ChoosesMapping e members at) ends = keeps-constructor passes (λ t. t.maps) (MappingFits members) e at
  keeps-need BeginsKeys ends = keeps-opens-constructor _
  keeps-need (GivesKey text at) ends = keeps-then _ _ (keeps-takes-key text at) (λ u. keeps-makes 0 _)
  keeps-need (TakesKey text at) ends = keeps-takes-key text at
  keeps-need ComputesKey ends = keeps-then _ _ (keeps-some _) (λ c. keeps-sets-constructor _)
  keeps-need ExpectsItem ends = keeps-then _ _ (keeps-some _) (λ c. keeps-then _ _ (keeps-some _) (λ w. keeps-wants w))
  keeps-need ExpectsMember ends = keeps-then _ _ (keeps-some _) (λ c. keeps-then _ _ (keeps-some _) (λ w. keeps-wants w))
  keeps-need (IsItem at) ends = keeps-then _ _ (keeps-some _) (λ c. keeps-then _ _ (keeps-some _) (λ e. keeps-then _ _ (keeps-some _) (λ w. keeps-then _ _ (keeps-below-if passes w e at) (λ u. keeps-then _ _ (keeps-may-stand passes c e at) (λ v. keeps-then _ _ (keeps-adds-member passes c e at) (λ x. keeps-no-more 1))))))
  keeps-need (IsMember at) ends = keeps-then _ _ (keeps-some _) (λ c. keeps-then _ _ (keeps-some _) (λ e. keeps-then _ _ (keeps-some _) (λ w. keeps-then _ _ (keeps-below-if passes w e at) (λ u. keeps-then _ _ (keeps-then _ _ (keeps-some _) (λ key. keeps-fits-keys passes c.choice key at)) (λ v. keeps-then _ _ (keeps-may-stand passes c e at) (λ x. keeps-then _ _ (keeps-adds-member passes c e at) (λ y. keeps-no-more 1)))))))
  keeps-need (IsDetail at) ends = keeps-then _ _ (keeps-some _) (λ c. keeps-then _ _ (keeps-some _) (λ e. keeps-then _ _ (keeps-frozen passes e at) (λ u. keeps-then _ _ (keeps-some _) (λ t. keeps-sets-constructor _))))
  keeps-need (LacksCause at) ends = keeps-makes 0 _
  keeps-need (MakesList count at) ends = keeps-then _ _ keeps-closes-constructor (λ c. keeps-then _ _ (keeps-atom-of c.choice _ at) (λ atom. keeps-makes count _))
  keeps-need (MakesMapping count at) ends = keeps-then _ _ keeps-closes-constructor (λ c. keeps-then _ _ (keeps-atom-of c.choice _ at) (λ atom. keeps-makes _ _))
  keeps-need (MakesError count at) ends = keeps-then _ _ keeps-closes-constructor (λ c. keeps-then _ _ (keeps-asking _) (λ first. keeps-makes _ _))
  keeps-need (CallsNamed started q count at) ends = keeps-then _ _ (keeps-looks-up names q) (λ seen. keeps-called passes started seen count q.at at)
  keeps-need CallsValue ends = keeps-opens-call _
  keeps-need (CallsMethod w count at) ends = keeps-then _ _ (keeps-some _) (λ e. keeps-then _ _ (keeps-picks passes _ e at) (λ row. keeps-then _ _ (keeps-handles _ _) (λ t. keeps-library row (Some t) count at)))
  keeps-need (ExpectsArgument at) ends = keeps-then _ _ (keeps-some _) (λ c. keeps-expects-by passes c.callee c.args at)
  keeps-need (IsArgument at) ends = keeps-then _ _ (keeps-some _) (λ c. keeps-fits passes c at)
  keeps-need (MakesCall at) ends = keeps-then _ _ keeps-closes-call (λ c. keeps-call-of passes c.callee c.args at)
  keeps-need (Starts here at) ends = keeps-then _ _ keeps-closes-call (λ c. keeps-starts-of passes c.callee c.args here at)
  keeps-need BeginsAnonymous ends = keeps-then _ _ (keeps-some _) (λ around. keeps-then _ _ keeps-new-number (λ n. keeps-opens-unit _))
  keeps-need (HasParameter w) ends = keeps-then _ _ (keeps-is-new w) (λ u. keeps-then _ _ (keeps-some _) (λ t. keeps-then _ _ (keeps-no-more 1) (λ v. keeps-then _ _ (keeps-some _) (λ unit. keeps-sets-unit _))))
  keeps-need (HasRest w) ends = keeps-then _ _ (keeps-is-new w) (λ u. keeps-then _ _ (keeps-some _) (λ t. keeps-then _ _ (keeps-no-more 1) (λ v. keeps-then _ _ (keeps-asking _) (λ atom. keeps-then _ _ (keeps-some _) (λ l. keeps-then _ _ (keeps-some _) (λ unit. keeps-sets-unit _))))))
  keeps-need (BeginsValue used) ends = keeps-then _ _ (keeps-some _) (λ t. keeps-then _ _ (keeps-some _) (λ around. keeps-then _ _ (keeps-some _) (λ unit. keeps-sets-unit _)))
  keeps-need (MakesAnonymous isolated at) ends = keeps-then _ _ (keeps-no-more 1) (λ v. keeps-then _ _ keeps-closes-unit (λ u. keeps-then _ _ (keeps-asking _) (λ first. keeps-makes 1 _)))
  keeps-need (Awaits q) ends = keeps-then _ _ (keeps-some _) (λ site. keeps-awaits-by passes names q _)
  keeps-need (WaitsForAny qs at) ends = keeps-then _ _ (keeps-some _) (λ site. keeps-then _ _ (keeps-takes-wants _) (λ ts. keeps-makes _ _))
  keeps-need (WaitsForAll qs at) ends = keeps-then _ _ (keeps-some _) (λ site. keeps-then _ _ keeps-closes-constructor (λ c. keeps-then _ _ (keeps-takes-wants _) (λ ts. keeps-then _ _ (keeps-asking _) (λ atom. keeps-makes _ _))))
  keeps-need (Receives e peer at) ends = keeps-receives e peer at
  keeps-need (Sends peer at) ends = keeps-then _ _ (keeps-peer peer) (λ p. keeps-makes 1 _)
  keeps-need (SendsAndWaits peer at) ends = keeps-then _ _ (keeps-peer peer) (λ p. keeps-message-to _ 1 _ p at)
  keeps-need (Flushes peer at) ends = keeps-then _ _ (keeps-peer peer) (λ p. keeps-message-to _ 0 _ p at)
  keeps-need (IsNew w) ends = keeps-is-new w
  keeps-need (Declares name final assigned at) ends = keeps-then _ _ keeps-takes-part (λ value. keeps-then _ _ keeps-takes-want (λ t. keeps-then _ _ (keeps-new-slot t) (λ slot. keeps-then _ _ (keeps-changes-flow _) (λ u. keeps-adds-stmt _))))
  keeps-need (IsAssignable q) ends = keeps-then _ _ (keeps-looks-up names q) (λ seen. keeps-seen-assignable seen q.at)
  keeps-need (Assigns q at) ends = keeps-then _ _ keeps-takes-part (λ value. keeps-then _ _ (keeps-no-more 1) (λ u. keeps-then _ _ (keeps-assigned-by names q) (λ a. keeps-assigns-to a value at)))
  keeps-need (HasField w) ends = keeps-then _ _ (keeps-makes 0 _) (λ u. keeps-becomes _ (λ s. keeps-beside s _ refl))
  keeps-need (ExpectsStored at) ends = keeps-then _ _ (keeps-some _) (λ p. keeps-then _ _ (keeps-some _) (λ a. keeps-then _ _ (keeps-asking _) (λ keys. keeps-then _ _ (keeps-some-member passes _ keys at) (λ m. keeps-wants-some _))))
  keeps-need (Stores at) ends = keeps-then _ _ (keeps-no-more 1) (λ u. keeps-then _ _ keeps-takes-access (λ a. keeps-then _ _ (keeps-takes 3) (λ all. keeps-then _ _ (keeps-some _) (λ form. keeps-adds-stmt _))))
  keeps-need (ReadsName q) ends = keeps-then _ _ (keeps-assigned-by names q) (λ a. keeps-reads-assigned a)
  keeps-need (ReadsStored at) ends = keeps-then _ _ (keeps-some _) (λ p. keeps-then _ _ (keeps-some _) (λ a. keeps-then _ _ (keeps-stored-type passes a _ _ at) (λ t. keeps-wants-some _)))
  keeps-need (ReadsStoredField w at) ends = keeps-then _ _ (keeps-some _) (λ p. keeps-then _ _ (keeps-field-type passes _ _ at) (λ m. keeps-wants-some _))
  keeps-need (IsOperand op at) ends = keeps-then _ _ (keeps-some _) (λ t. keeps-then _ _ (keeps-within passes _ _ at) (λ u. keeps-then _ _ (keeps-operand-sort passes op t at) (λ ints. keeps-then _ _ (keeps-sorts ints) (λ v. keeps-wants-some _))))
  keeps-need (UpdatesName q op at) ends = keeps-then _ _ (keeps-result-fits passes at) (λ t. keeps-then _ _ (keeps-takes-operator op) (λ o. keeps-then _ _ keeps-takes-part (λ value. keeps-then _ _ (keeps-assigned-by names q) (λ a. keeps-updates-assigned a t o value at))))
  keeps-need (UpdatesElement op at) ends = keeps-then _ _ (keeps-result-fits passes at) (λ t. keeps-then _ _ (keeps-takes-operator op) (λ o. keeps-then _ _ keeps-takes-access (λ a. keeps-then _ _ (keeps-takes 3) (λ all. keeps-updates-member _ t o all at))))
  keeps-need (UpdatesField w op at) ends = keeps-then _ _ (keeps-result-fits passes at) (λ t. keeps-then _ _ (keeps-takes-operator op) (λ o. keeps-then _ _ keeps-takes-access (λ a. keeps-then _ _ (keeps-takes 3) (λ all. keeps-updates-member _ t o all at))))
  keeps-need (IsIgnorable at) ends = keeps-then _ _ (keeps-some _) (λ e. keeps-then _ _ (keeps-whether passes _ _ at) (λ b. keeps-unless b _ at))
  keeps-need (Performs form count at) ends = keeps-then _ _ (keeps-takes count) (λ all. keeps-adds-stmt _)
  keeps-need Stops ends = keeps-changes-flow _
  keeps-need (Returns at) ends = keeps-then _ _ keeps-takes-part (λ value. keeps-then _ _ (keeps-no-more 1) (λ u. keeps-then _ _ (keeps-adds-stmt _) (λ v. keeps-changes-flow _)))
  keeps-need (ReturnsNil at) ends = keeps-then _ _ (keeps-then _ _ (keeps-some _) (λ u. keeps-then _ _ (keeps-some _) (λ nil. keeps-asking _))) (λ u. keeps-then _ _ (keeps-adds-stmt _) (λ v. keeps-changes-flow _))
  keeps-need (Breaks at) ends = keeps-then _ _ (keeps-adds-stmt _) (λ u. keeps-changes-flow _)
  keeps-need (Continues at) ends = keeps-then _ _ (keeps-adds-stmt _) (λ u. keeps-changes-flow _)
  keeps-need BeginsBlock ends = keeps-then _ _ keeps-flow-now (λ f. keeps-becomes _ (λ s. keeps-beside s _ refl))
  keeps-need EndsBlock ends = keeps-then _ _ (keeps-some _) (λ b. keeps-changes-flow _)
  keeps-need (MakesBlock at) ends = keeps-then _ _ keeps-closes-block (λ b. keeps-adds-stmt _)
  keeps-need (MakesIf at) ends = keeps-then _ _ keeps-flow-now (λ f. keeps-then _ _ keeps-closes-choice (λ c. keeps-then _ _ (keeps-some _) (λ g. keeps-then _ _ (keeps-sets-flow g) (λ u. keeps-then _ _ keeps-closes-block (λ second. keeps-then _ _ keeps-closes-block (λ first. keeps-then _ _ keeps-takes-part (λ condition. keeps-adds-stmt _)))))))
  keeps-need (Heads assigned) ends = keeps-changes-flow _
  keeps-need OpensLoop ends = keeps-then _ _ keeps-flow-now (λ f. keeps-opens-choice _)
  keeps-need (MakesWhile leaves at) ends = keeps-then _ _ keeps-closes-choice (λ c. keeps-then _ _ (keeps-sets-flow _) (λ u. keeps-then _ _ keeps-closes-block (λ body. keeps-then _ _ keeps-takes-part (λ condition. keeps-adds-stmt _))))
  keeps-need (IsItemOfLoop at) ends = keeps-then _ _ (keeps-item-type passes at) (λ m. keeps-then _ _ (keeps-some _) (λ t. keeps-asking _))
  keeps-need (WidensItem at) ends = keeps-then _ _ (keeps-item-type passes at) (λ m. keeps-then _ _ (keeps-some _) (λ t. keeps-then _ _ (keeps-widened passes t at) (λ u. keeps-wants _)))
  keeps-need (IsCounter at) ends = keeps-then _ _ (keeps-some _) (λ t. keeps-then _ _ (keeps-some _) (λ int. keeps-asking _))
  keeps-need WantsCounter ends = keeps-wants-some _
  keeps-need (HasItem name assigned) ends = keeps-then _ _ keeps-takes-want (λ t. keeps-then _ _ (keeps-new-slot t) (λ slot. keeps-changes-flow _))
  keeps-need (MakesForeach at) ends = keeps-then _ _ keeps-item-variable (λ v. keeps-then _ _ keeps-closes-choice (λ c. keeps-then _ _ (keeps-sets-flow _) (λ u. keeps-then _ _ keeps-closes-block (λ body. keeps-then _ _ keeps-takes-part (λ list. keeps-then _ _ (keeps-new-slot _) (λ own. keeps-then _ _ (keeps-kind-slot kind.Integer) (λ index. keeps-then _ _ (keeps-some _) (λ over. keeps-adds-stmt _))))))))
  keeps-need (MakesRange op at) ends = keeps-then _ _ keeps-item-variable (λ v. keeps-then _ _ keeps-closes-choice (λ c. keeps-then _ _ (keeps-sets-flow _) (λ u. keeps-then _ _ keeps-closes-block (λ body. keeps-then _ _ (keeps-some _) (λ p. keeps-then _ _ (keeps-takes 2) (λ all. keeps-then _ _ (keeps-kind-slot kind.Integer) (λ own. keeps-then _ _ (keeps-kind-slot kind.Integer) (λ last. keeps-then _ _ (keeps-kind-slot kind.Truth) (λ left. keeps-then _ _ (keeps-some _) (λ over. keeps-adds-stmt _))))))))))
  keeps-need (BeginsMatch name at) ends = keeps-then _ _ (keeps-some _) (λ e. keeps-then _ _ keeps-flow-now (λ f. keeps-opens-match _))
  keeps-need (HasPattern p) ends = keeps-pattern names p
  keeps-need (BeginsClause any) ends = keeps-begins-clause passes any
  keeps-need (EndsClause at) ends = keeps-then _ _ keeps-flow-now (λ f. keeps-then _ _ keeps-closes-block (λ b. keeps-then _ _ (keeps-some _) (λ m. keeps-then _ _ (keeps-some _) (λ c. keeps-sets-match _))))
  keeps-need (MakesMatch any at) ends = keeps-makes-match passes any at
  keeps-need (EntersFile m file) ends = keeps-becomes _ (λ s. keeps-beside s _ refl)
  keeps-need (BeginsFunction d) ends = keeps-then _ _ (keeps-signature names d) (λ f. keeps-then _ _ (keeps-some _) (λ result. keeps-then _ _ (keeps-some _) (λ slots. keeps-then _ _ (keeps-results names _) (λ results. keeps-then _ _ (keeps-becomes _ (λ s. keeps-beside s _ refl)) (λ u. keeps-opens-unit _)))))
  keeps-need (NamesParameter w assigned) ends = keeps-then _ _ (keeps-is-new w) (λ u. keeps-then _ _ (keeps-some _) (λ unit. keeps-then _ _ (keeps-some _) (λ t. keeps-changes-flow _)))
  keeps-need (EndsFunction d close) ends = absurd ends
  keeps-need (EndsValueFunction d) ends = absurd ends
  keeps-need (BeginsWorker w number uses) ends = keeps-then _ _ (keeps-worker-new w number) (λ u. keeps-then _ _ (keeps-result number) (λ r. keeps-then _ _ (keeps-some _) (λ around. keeps-then _ _ keeps-new-number (λ n. keeps-opens-unit _))))
  keeps-need (EndsWorker w close) ends = absurd ends
  keeps-need (BeginsInitial d kept) ends = keeps-then _ _ keeps-initialiser (λ i. keeps-then _ _ (keeps-at-work kept i) (λ u. keeps-then _ _ (keeps-opens-unit _) (λ v. keeps-then _ _ (keeps-variable names d) (λ t. keeps-then _ _ (keeps-some _) (λ w. keeps-wants _)))))
  keeps-need (EndsInitial d kept) ends = absurd ends
  keeps-need (EndsModule m) ends = absurd ends
  keeps-need (IsConstant d) ends = keeps-constant passes names d.ty d
