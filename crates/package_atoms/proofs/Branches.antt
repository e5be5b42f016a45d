-- The needs of branches, loops and matches keep what was found.
use Rattle.std.proofs.Common.{ℕ, Bool, true, false, List, [], ◌∷◌, All, Option, None, Some, refl, subst, sym}
use Rattle.std.proofs.lemmas.List.Elements.{All-nil}
use Rattle.bal_base.specs.declared.place.Place.{Place}
use Rattle.bal_base.specs.declared.text.Name.{Name}
use Rattle.bal_tree.specs.declared.name.QualifiedName.{QualifiedName}
use Rattle.bal_tree.specs.declared.name.Word.{Word}
use Rattle.bal_tree.specs.declared.stmt.Pattern.{Pattern}
use Rattle.bal_tree.specs.declared.stmt.Pattern.TheVariants as pattern
use Rattle.bal_tree.specs.declared.stmt.RangeOp.{RangeOp}
use Rattle.descriptors.specs.declared.names.Meaning.{Meaning}
use Rattle.descriptors.specs.declared.names.Meaning.TheVariants as meaning
use Rattle.descriptors.specs.declared.names.Names.{Names}
use Rattle.operations.specs.declared.operation.Constant.{Constant}
use Rattle.type_model.specs.declared.answers.TypeLimit.{TypeLimit}
use Rattle.type_model.specs.declared.atoms.AtomDef.{AtomDef}
use Rattle.type_model.specs.Calls.{Asked}
use Rattle.typed_tree.specs.SharedTypes.{Shared}
use Rattle.flow_narrowing.specs.declared.flow.Flow.{Flow}
use Rattle.expr_needs.specs.declared.kind.Kind.{Kind}
use Rattle.expr_needs.specs.declared.kind.Kind.TheVariants as kind
use Rattle.check_words.specs.Branches.{adds_pattern, begins_clause, begins_match, closes_match, ends_clause, has_item, has_pattern, heads, is_counter, is_item_of_loop, item_type_at, item_variable, joins_all, kind_slot, last_match, makes_foreach, makes_if, makes_match, makes_range, makes_while, meaning_pattern, opens_loop, opens_match, range_end, seen_pattern, sets_match, some_is_left, wants_counter, widens_item}
use Rattle.check_words.specs.Seen.{Seen, SeenConstant, SeenLibrary, SeenMeaning, SeenNothing, SeenVariable, SeenWorker}
use Rattle.check_words.specs.State.{MatchAtWork}
use Rattle.check_words.proofs.Standing.{also-has, last-has, others-have}
use Rattle.isolation_check.proofs.Held.{ClauseHeld}
use Rattle.package_atoms.proofs.HeldStmts.{SourceHeld, clause-held, foreach-held, if-held, list-source, match-held, range-source, while-held}
use Rattle.package_atoms.proofs.Keeping.{Any, Core, Keeps, asked, becoming, behind, chosen, chosen-as, given, handled, knowing, refused}
use Rattle.package_atoms.proofs.Questions.{below-grows, has-some-grows, member-grows}
use Rattle.package_atoms.proofs.Statements.{block-closed, part-taken, stmt-added, want-taken}
use Rattle.package_atoms.proofs.Values.{is-widened, joined-from, looked-up, narrowed-to}
use Rattle.package_atoms.proofs.Words.{Held, MatchHeld, Stays, choice-closed, choice-opened, flow-changed, flow-seen, flow-set, slot-added, taken, two-held, wanting, wanting-some}

-- ---- of no account

module _ (I : Core → Type 0) (so : Type 0) where
  pub loop-opened : Keeps I so opens_loop Any I
  loop-opened = behind (flow-seen _ _) (λ f. choice-opened _ _ _)

  item-seen : Keeps I so item_variable Any I
  item-seen = behind (flow-seen _ _) (λ f. chosen _ _ _)

  all-joined : (before : Flow) (fs : List Flow) → Keeps I so (joins_all before fs) Any I
  all-joined before [] = chosen _ _ _
  all-joined before (f ∷ fs) = joined-from _ _ f fs

  item-typed : (at : Place) (passes : List AtomDef → Asked → TypeLimit → Type 0) → Keeps I so (item_type_at passes at) Any I
  item-typed at passes = behind (chosen _ _ _) (λ e. asked _ _ _ (member-grows _ _ _ _))

  pub item-asked : (passes : List AtomDef → Asked → TypeLimit → Type 0) (at : Place) → Keeps I so (is_item_of_loop passes at) Any I
  item-asked passes at = behind (item-typed _ passes) (λ m. behind (chosen _ _ _) (λ t. asked _ _ _ (below-grows _ _ _ _)))

  pub counter-asked : (passes : List AtomDef → Asked → TypeLimit → Type 0) (at : Place) → Keeps I so (is_counter passes at) Any I
  counter-asked passes at = behind (chosen _ _ _) (λ t. behind (chosen _ _ _) (λ int. asked _ _ _ (below-grows _ _ _ _)))

  left-asked : (passes : List AtomDef → Asked → TypeLimit → Type 0) (any : Bool) (t : Shared) (at : Place) → Keeps I so (some_is_left passes any t at) Any I
  left-asked passes true t at = chosen _ _ _
  left-asked passes false t at = asked _ _ _ (has-some-grows _ _ _)

-- ---- what is kept

module _ (n : ℕ) where
  -- ---- branches and loops

  pub if-kept : (so : Type 0) (at : Place) → Stays n so (makes_if at)
  if-kept so at =
      behind (flow-seen _ _) (λ f. behind (choice-closed _ _) (λ c. behind (chosen _ _ _) (λ g. behind (flow-set n _ g) (λ u.
      knowing (block-closed n _) (λ second. knowing (block-closed n _) (λ first. knowing (part-taken n _) (λ condition.
      stmt-added n _ _ (λ s p h. if-held n condition first.stmts second.stmts at s p h.1 h.0.1 h.0.0.1))))))))

  pub heads-kept : (so : Type 0) (words : List Word) → Stays n so (heads words)
  heads-kept so words = flow-changed n _ _

  pub while-kept : (so : Type 0) (leaves : Bool) (at : Place) → Stays n so (makes_while leaves at)
  while-kept so leaves at =
      behind (choice-closed _ _) (λ c. behind (flow-set n _ _) (λ u. knowing (block-closed n _) (λ body. knowing (part-taken n _) (λ condition.
      stmt-added n _ _ (λ s p h. while-held n condition body.stmts at s p h.1 h.0.1)))))

  pub item-named : (so : Type 0) (name : Name) (assigned : Bool) → Stays n so (has_item name assigned)
  item-named so name assigned = behind (want-taken n _) (λ t. behind (slot-added n _ t) (λ slot. flow-changed n _ _))

  kind-slot-added : (so : Type 0) (k : Kind) → Stays n so (kind_slot k)
  kind-slot-added so k = behind (chosen _ _ _) (λ t. slot-added n _ t)

  pub foreach-kept : (so : Type 0) (at : Place) → Stays n so (makes_foreach at)
  foreach-kept so at =
      behind (item-seen _ _) (λ v. behind (choice-closed _ _) (λ c. behind (flow-set n _ _) (λ u. knowing (block-closed n _) (λ body. knowing (part-taken n _) (λ list.
      behind (slot-added n _ _) (λ own. behind (kind-slot-added _ kind.Integer) (λ index.
      knowing (chosen-as (Held n) _ _ (SourceHeld n) (λ old over p h i. list-source n own list over p h.1)) (λ over.
      stmt-added n _ _ (λ s p h. foreach-held n v.slot over body.stmts at s p h.1 h.0.0.1)))))))))

  pub range-kept : (so : Type 0) (op : RangeOp) (at : Place) → Stays n so (makes_range op at)
  range-kept so op at =
      behind (item-seen _ _) (λ v. behind (choice-closed _ _) (λ c. behind (flow-set n _ _) (λ u. knowing (block-closed n _) (λ body. knowing (two-held n _) (λ p.
      behind (taken n _ 2) (λ parts. behind (kind-slot-added _ kind.Integer) (λ own. behind (kind-slot-added _ kind.Integer) (λ last. behind (kind-slot-added _ kind.Truth) (λ left.
      knowing (chosen-as (Held n) _ _ (SourceHeld n) (λ old over q h i. range-source n own (range_end op) p.0 p.1 over q h.1.0 h.1.1)) (λ over.
      stmt-added n _ _ (λ s q h. foreach-held n v.slot over body.stmts at s q h.1 h.0.0.1)))))))))))

  pub counter-wanted : (so : Type 0) → Stays n so wants_counter
  counter-wanted so = wanting-some n _ _

  -- ---- matches

  match-seen : (so : Type 0) → Keeps (Held n) so last_match (MatchHeld n) (Held n)
  unfolding Held
  match-seen so = chosen-as (Held n) _ _ (MatchHeld n) (λ old m l c h. last-has (MatchHeld n) old.matches m l h.2)

  match-set : (so : Type 0) (m : MatchAtWork) → (so → MatchHeld n m) → Stays n so (sets_match m)
  unfolding Held
  match-set so m f =
      knowing (handled _ _ _ _ (MatchHeld n) (λ k s c. subst (All (ClauseHeld n)) (sym s.clauses) (f c))) (λ k.
      becoming (Held n) _ (Held n) _ (λ old. refl) (λ old c h. (h.0, h.1, also-has (MatchHeld n) _ k (others-have (MatchHeld n) 1 old.matches h.2) c.1, h.3, h.4, h.5)))

  match-closed : (so : Type 0) → Keeps (Held n) so closes_match (MatchHeld n) (Held n)
  unfolding Held
  match-closed so =
      knowing (match-seen _) (λ m. behind (becoming (Held n) _ (Held n) _ (λ old. refl) (λ old c h. (h.0, h.1, others-have (MatchHeld n) 1 old.matches h.2, h.3, h.4, h.5)))
      (λ u. given _ _ m (MatchHeld n) (λ c. c.1)))

  match-opened : (so : Type 0) (m : MatchAtWork) → (so → MatchHeld n m) → Stays n so (opens_match m)
  unfolding Held
  match-opened so m f =
      knowing (handled _ _ _ _ (MatchHeld n) (λ k s c. subst (All (ClauseHeld n)) (sym s.clauses) (f c))) (λ k.
      becoming (Held n) _ (Held n) _ (λ old. refl) (λ old c h. (h.0, h.1, also-has (MatchHeld n) old.matches k h.2 c.1, h.3, h.4, h.5)))

  pub match-begun : (so : Type 0) (name : Option QualifiedName) (at : Place) → Stays n so (begins_match name at)
  match-begun so name at = behind (chosen _ _ _) (λ e. behind (flow-seen _ _) (λ f. match-opened _ _ (λ c. All-nil (ClauseHeld n))))

  pattern-added : (so : Type 0) (c : Option Constant) (at : Place) → Stays n so (adds_pattern c at)
  pattern-added so c at = knowing (match-seen _) (λ m. match-set _ _ (λ h. h.1))

  meaning-matched : (so : Type 0) (m : Meaning) (at : Place) → Stays n so (meaning_pattern m at)
  meaning-matched so (meaning.Constant t) at = behind (chosen _ _ _) (λ c. pattern-added _ (Some c) at)
  meaning-matched so (meaning.TypeName t) at = refused _ _ _ _ _
  meaning-matched so (meaning.Variable number final t) at = refused _ _ _ _ _
  meaning-matched so (meaning.Function f) at = refused _ _ _ _ _

  seen-matched : (so : Type 0) (seen : Seen) (at : Place) → Stays n so (seen_pattern seen at)
  seen-matched so (SeenVariable v) at = refused _ _ _ _ _
  seen-matched so (SeenWorker w) at = refused _ _ _ _ _
  seen-matched so (SeenConstant c) at = pattern-added _ (Some c) at
  seen-matched so (SeenLibrary r) at = refused _ _ _ _ _
  seen-matched so (SeenMeaning m) at = meaning-matched _ m at
  seen-matched so (SeenNothing code) at = refused _ _ _ _ _

  pub pattern-kept : (so : Type 0) (names : Names) (p : Pattern) → Stays n so (has_pattern names p)
  pattern-kept so names (pattern.Any at) = pattern-added _ None at
  pattern-kept so names (pattern.Value v) = pattern-added _ _ _
  pattern-kept so names (pattern.Name q) = behind (looked-up _ _ names q) (λ seen. seen-matched _ seen q.at)

  pub clause-ended : (so : Type 0) (at : Place) → Stays n so (ends_clause at)
  clause-ended so at =
      behind (flow-seen _ _) (λ f. knowing (block-closed n _) (λ b. knowing (match-seen _) (λ m.
      knowing (chosen-as (Held n) _ _ (ClauseHeld n) (λ old c p h i. clause-held n m.patterns b.stmts at c p h.0.1)) (λ c.
      match-set _ _ (λ h. also-has (ClauseHeld n) m.clauses c h.0.1 h.1)))))

  pub item-widened : (so : Type 0) (passes : List AtomDef → Asked → TypeLimit → Type 0) (at : Place) → Stays n so (widens_item passes at)
  item-widened so passes at = behind (item-typed _ _ _ passes) (λ m. behind (chosen _ _ _) (λ t. behind (is-widened _ _ passes t at) (λ u. wanting n _ (Some u))))

  pub clause-begun : (so : Type 0) (passes : List AtomDef → Asked → TypeLimit → Type 0) (any : Bool) → Stays n so (begins_clause passes any)
  clause-begun so passes true = behind (chosen _ _ _) (λ m. flow-set n _ _)
  clause-begun so passes false =
      knowing (match-seen _) (λ m. behind (chosen _ _ _) (λ t. behind (narrowed-to _ _ passes m.left t m.at) (λ types.
      behind (match-set _ _ (λ h. h.1)) (λ u. flow-set n _ _))))

  pub match-kept : (so : Type 0) (passes : List AtomDef → Asked → TypeLimit → Type 0) (any : Bool) (at : Place) → Stays n so (makes_match passes any at)
  match-kept so passes any at =
      knowing (match-closed _) (λ m. behind (left-asked _ _ passes any m.left m.at) (λ left. behind (all-joined _ _ m.before _) (λ f. behind (flow-set n _ f) (λ u.
      knowing (part-taken n _) (λ subject. behind (slot-added n _ _) (λ own. stmt-added n _ _ (λ s p h. match-held n own subject m.clauses at s p h.1 h.0.1)))))))
