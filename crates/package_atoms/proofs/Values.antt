-- The needs of names, literals, operators and conditions keep what was found.
use Rattle.std.proofs.Common.{◌≡◌, ℕ, Bool, true, false, List, [], ◌∷◌, All, Option, None, Some, refl, subst}
use Rattle.std.proofs.lemmas.List.Elements.{All-head, All-tail}
use Rattle.bal_base.specs.declared.place.Place.{Place}
use Rattle.bal_tree.specs.declared.name.Literal.{Literal}
use Rattle.bal_tree.specs.declared.name.QualifiedName.{QualifiedName}
use Rattle.bal_tree.specs.declared.types.TypeTree.{TypeTree}
use Rattle.descriptors.specs.declared.names.Meaning.{Meaning}
use Rattle.descriptors.specs.declared.names.Meaning.TheVariants as meaning
use Rattle.descriptors.specs.declared.names.Names.{Names}
use Rattle.descriptors.specs.Descriptors.{descriptor_of}
use Rattle.operations.specs.declared.operation.Constant.{Constant}
use Rattle.type_model.specs.declared.answers.TypeLimit.{TypeLimit}
use Rattle.type_model.specs.declared.atoms.AtomDef.{AtomDef}
use Rattle.type_model.specs.declared.basic.SemType.{SemType}
use Rattle.type_model.specs.Calls.{Asked}
use Rattle.typed_tree.specs.declared.expr.TypedExpr.{TypedExpr}
use Rattle.typed_tree.specs.declared.form.Operator.{Operator}
use Rattle.typed_tree.specs.declared.form.StrictForm.TheVariants as form
use Rattle.typed_tree.specs.SharedTypes.{Shared}
use Rattle.isolation_check.specs.Parts.{Reads}
use Rattle.expr_needs.specs.declared.kind.Kind.{Kind}
use Rattle.expr_needs.specs.declared.kind.Kind.TheVariants as kind
use Rattle.flow_narrowing.specs.declared.flow.Flow.{Flow}
use Rattle.flow_narrowing.specs.declared.flow.Variable.{Variable}
use Rattle.check_words.specs.Joins.{joins_from, narrows_to}
use Rattle.check_words.specs.Seen.{Seen, SeenConstant, SeenLibrary, SeenMeaning, SeenNothing, SeenVariable, SeenWorker, looks_up}
use Rattle.check_words.specs.State.{shared_now}
use Rattle.check_words.specs.Values.{adds_up, casts, checked, checks, chooses, compares, conjoins, decided, decides, describes, disjoins, encloses, fills_nil, forms, gives_constant, gives_literal, gives_meaning, gives_named, gives_seen, gives_variable, is_of_sort, sorts, splits, switches, takes_sort, tests, traps, turns, uses, wants_beside_error, wants_error_too, wants_result, ways_if, ways_of_test, widened, widens, widens_to}
use Rattle.isolation_check.proofs.Held.{ExprHeld, and-held, check-held, conditional-held, elvis-held, local-held, noted-held, or-held, parens-held, strict-held, trap-held}
use Rattle.package_atoms.proofs.Keeping.{Any, Core, Keeps, asked, behind, chosen, elsewhere, one-of, refused, tested}
use Rattle.package_atoms.proofs.Questions.{below-grows, where-false-grows, whole-grows}
use Rattle.package_atoms.proofs.Words.{Stays, both-held, choice-closed, choice-opened, flow-seen, flow-set, is-of, is-within, made, made-strict, no-more, slot-added, wanting, wanting-some, ways-seen, ways-set, whether-within}

-- ---- of no account

module _ (I : Core → Type 0) (so : Type 0) where
  pub looked-up : (names : Names) (q : QualifiedName) → Keeps I so (looks_up names q) Any I
  looked-up names q = behind (chosen _ _ _) (λ u. chosen _ _ _)

  pub used : (v : Variable) (at : Place) → Keeps I so (uses v at) Any I
  used v at = tested _ _ _ _ _

  pub sort-added : (ints : Bool) → Keeps I so (sorts ints) Any I
  sort-added ints = elsewhere _ _ _ (λ old. refl) (λ old. refl)

  pub sort-taken : Keeps I so takes_sort Any I
  sort-taken = behind (chosen _ _ _) (λ ints. behind (elsewhere _ _ _ (λ old. refl) (λ old. refl)) (λ u. chosen _ _ _))

  pub joined-from : (f : Flow) (gs : List Flow) → Keeps I so (joins_from f gs) Any I
  joined-from f [] = chosen _ _ _
  joined-from f (g ∷ gs) = behind (chosen _ _ _) (λ h. joined-from h gs)

  pub narrowed-to : (passes : List AtomDef → Asked → TypeLimit → Type 0) (s t : Shared) (at : Place) → Keeps I so (narrows_to passes s t at) Any I
  narrowed-to passes s t at = behind (chosen _ _ _) (λ yes. behind (asked _ _ _ (where-false-grows _ _ _ _)) (λ no. chosen _ _ _))

  widened-to : (passes : List AtomDef → Asked → TypeLimit → Type 0) (kinds : List Kind) (t : Shared) (at : Place) → Keeps I so (widens_to passes kinds t at) Any I
  widened-to passes [] t at = chosen _ _ _
  widened-to passes (k ∷ kinds) t at = behind (whether-within _ _ _ _ _ _) (λ b. one-of b (chosen _ _ _) (widened-to passes kinds t at))

  pub is-widened : (passes : List AtomDef → Asked → TypeLimit → Type 0) (t : Shared) (at : Place) → Keeps I so (widened passes t at) Any I
  is-widened passes t at = widened-to passes (kind.Integer ∷ kind.Text ∷ kind.Truth ∷ []) t at

  decided-so : (passes : List AtomDef → Asked → TypeLimit → Type 0) (ints : Bool) (e : SemType) (at : Place) → Keeps I so (decided passes ints e at) Any I
  decided-so passes true e at = chosen _ _ _
  decided-so passes false e at = is-within _ _ _ _ _ _

  pub decides-kept : (passes : List AtomDef → Asked → TypeLimit → Type 0) (at : Place) → Keeps I so (decides passes at) Any I
  decides-kept passes at = behind (chosen _ _ _) (λ e. behind (whether-within _ _ _ _ _ _) (λ ints. behind (decided-so passes ints _ at) (λ u. sort-added ints)))

  pub sort-kept : (passes : List AtomDef → Asked → TypeLimit → Type 0) (at : Place) → Keeps I so (is_of_sort passes at) Any I
  sort-kept passes at = behind (chosen _ _ _) (λ ints. is-of _ _ _ _ _)

  ways-by : (passes : List AtomDef → Asked → TypeLimit → Type 0) (q : QualifiedName) (v : Option Variable) (t : Shared) (at : Place) → Keeps I so (ways_if passes q v t at) Any I
  ways-by passes q None t at = chosen _ _ _
  ways-by passes q (Some v) t at = behind (flow-seen _ _) (λ f. behind (narrowed-to passes (shared_now v) t at) (λ types. chosen _ _ _))

  pub ways-tested : (passes : List AtomDef → Asked → TypeLimit → Type 0) (q : Option QualifiedName) (t : Shared) (at : Place) → Keeps I so (ways_of_test passes q t at) Any I
  ways-tested passes None t at = chosen _ _ _
  ways-tested passes (Some q) t at = behind (flow-seen _ _) (λ f. ways-by passes q _ t at)

-- ---- what is kept

module _ (n : ℕ) where
  -- so many parts, of which each is held
  pub one-held : (parts : List TypedExpr) (a : TypedExpr) → parts ≡ a ∷ [] → All (ExprHeld n) parts → ExprHeld n a
  one-held parts a is all = All-head (ExprHeld n) a [] (subst (All (ExprHeld n)) is all)

  pub held-two : (parts : List TypedExpr) (a b : TypedExpr) → parts ≡ a ∷ b ∷ [] → All (ExprHeld n) parts → ExprHeld n a × ExprHeld n b
  held-two parts a b is all = both-held n a b (subst (All (ExprHeld n)) is all)

  pub held-three : (parts : List TypedExpr) (c a b : TypedExpr) → parts ≡ c ∷ a ∷ b ∷ [] → All (ExprHeld n) parts → ExprHeld n c × ExprHeld n a × ExprHeld n b
  held-three parts c a b is all =
      let three = subst (All (ExprHeld n)) is all in
      let two = both-held n a b (All-tail (ExprHeld n) c (a ∷ b ∷ []) three) in
      (All-head (ExprHeld n) c (a ∷ b ∷ []) three, two.0, two.1)

  -- ---- names and literals

  pub literal-kept : (so : Type 0) (l : Literal) → Stays n so (gives_literal l)
  literal-kept so l = made-strict n _ _ _ _ _ (λ es w. tt)

  variable-given : (so : Type 0) (v : Variable) (at : Place) → Stays n so (gives_variable v at)
  variable-given so v at = behind (used _ _ v at) (λ u. made n _ _ _ (λ env parts e x c all. local-held n _ _ x.0 at e x.2))

  constant-given : (so : Type 0) (c : Constant) (at : Place) → Stays n so (gives_constant c at)
  constant-given so c at = made-strict n _ _ _ _ _ (λ es w. tt)

  meaning-given : (so : Type 0) (m : Meaning) (at : Place) → Stays n so (gives_meaning m at)
  meaning-given so (meaning.TypeName t) at = refused _ _ _ _ _
  meaning-given so (meaning.Constant t) at = behind (chosen _ _ _) (λ c. made-strict n _ _ _ _ _ (λ es w. tt))
  meaning-given so (meaning.Variable number final t) at = made-strict n _ _ _ _ _ (λ es w. noted-held n (Reads number) at tt w)
  meaning-given so (meaning.Function f) at = made-strict n _ _ _ _ _ (λ es w. tt)

  pub seen-given : (so : Type 0) (seen : Seen) (at : Place) → Stays n so (gives_seen seen at)
  seen-given so (SeenVariable v) at = variable-given _ v at
  seen-given so (SeenWorker w) at = refused _ _ _ _ _
  seen-given so (SeenConstant c) at = constant-given _ c at
  seen-given so (SeenLibrary call) at = refused _ _ _ _ _
  seen-given so (SeenMeaning m) at = meaning-given _ m at
  seen-given so (SeenNothing code) at = refused _ _ _ _ _

  pub named-kept : (so : Type 0) (names : Names) (q : QualifiedName) → Stays n so (gives_named names q)
  named-kept so names q = behind (looked-up _ _ names q) (λ seen. seen-given _ seen q.at)

  pub describes-kept : (so : Type 0) (names : Names) (tree : TypeTree) → Stays n so (describes names tree)
  describes-kept so names tree =
      behind (chosen _ _ _) (λ scope. behind (asked _ _ _ (whole-grows names scope (descriptor_of tree))) (λ t. wanting-some n _ _))

  -- ---- operators and conditions

  pub forms-kept : (so : Type 0) (op : Operator) (count : ℕ) (k : Kind) (at : Place) → Stays n so (forms op count k at)
  forms-kept so op count k at = made-strict n _ _ _ _ _ (λ es w. tt)

  pub adds-kept : (so : Type 0) (at : Place) → Stays n so (adds_up at)
  adds-kept so at = behind (sort-taken _ _) (λ ints. forms-kept _ _ 2 _ at)

  pub compares-kept : (so : Type 0) (op : Operator) (at : Place) → Stays n so (compares op at)
  compares-kept so op at = behind (sort-taken _ _) (λ ints. forms-kept _ op 2 kind.Truth at)

  pub splits-kept : (so : Type 0) (way : Bool) → Stays n so (splits way)
  splits-kept so way = behind (flow-seen _ _) (λ f. behind (ways-seen _ _) (λ w. behind (choice-opened _ _ _) (λ u. flow-set n _ _)))

  pub switches-kept : (so : Type 0) → Stays n so switches
  switches-kept so = behind (flow-seen _ _) (λ f. behind (choice-closed _ _) (λ c. behind (choice-opened _ _ _) (λ u. flow-set n _ _)))

  pub turns-kept : (so : Type 0) (at : Place) → Stays n so (turns at)
  turns-kept so at = behind (ways-seen _ _) (λ w. behind (forms-kept _ _ 1 kind.Truth at) (λ u. ways-set _ _ _))

  pub conjoins-kept : (so : Type 0) (at : Place) → Stays n so (conjoins at)
  conjoins-kept so at =
      behind (ways-seen _ _) (λ w. behind (choice-closed _ _) (λ c. behind (chosen _ _ _) (λ no. behind (flow-set n _ _) (λ u.
      behind (made n _ _ _ (λ env parts e x c all. let two = held-two parts x.0 x.1 x.2 all in and-held n x.0 x.1 x.3.0 at e x.3.2 two.0 two.1)) (λ v. ways-set _ _ _)))))

  pub disjoins-kept : (so : Type 0) (at : Place) → Stays n so (disjoins at)
  disjoins-kept so at =
      behind (ways-seen _ _) (λ w. behind (choice-closed _ _) (λ c. behind (chosen _ _ _) (λ yes. behind (flow-set n _ _) (λ u.
      behind (made n _ _ _ (λ env parts e x c all. let two = held-two parts x.0 x.1 x.2 all in or-held n x.0 x.1 x.3.0 at e x.3.2 two.0 two.1)) (λ v. ways-set _ _ _)))))

  pub chooses-kept : (so : Type 0) (at : Place) → Stays n so (chooses at)
  chooses-kept so at =
      behind (choice-closed _ _) (λ c. behind (flow-set n _ _) (λ u.
      made n _ _ _ (λ env parts e x c all.
      let three = held-three parts x.0 x.1 x.2 x.3 all in conditional-held n x.0 x.1 x.2 x.4.0 at e x.4.2 three.0 three.1 three.2)))

  pub fills-kept : (so : Type 0) (at : Place) → Stays n so (fills_nil at)
  fills-kept so at =
      behind (chosen _ _ _) (λ p. behind (slot-added n _ _) (λ own.
      made n _ _ _ (λ env parts e x c all. let two = held-two parts x.0 x.1 x.2 all in elvis-held n own x.0 x.1 x.3.0 at e x.3.2 two.0 two.1)))

  pub encloses-kept : (so : Type 0) (at : Place) → Stays n so (encloses at)
  encloses-kept so at =
      behind (chosen _ _ _) (λ w. behind (made n _ _ _ (λ env parts e x c all. parens-held n x.0 x.2.0 at e x.2.2 (one-held parts x.0 x.1 all))) (λ u. ways-set _ _ w))

  -- ---- errors

  pub checked-kept : (so : Type 0) (panics : Bool) (at : Place) → Stays n so (checked panics at)
  checked-kept so panics at =
      behind (chosen _ _ _) (λ a. behind (slot-added n _ _) (λ own.
      made n _ _ _ (λ env parts e x c all. check-held n panics own x.0 x.2.0 at e x.2.2 (one-held parts x.0 x.1 all))))

  pub traps-kept : (so : Type 0) (at : Place) → Stays n so (traps at)
  traps-kept so at = made n _ _ _ (λ env parts e x c all. trap-held n x.0 x.2.0 at e x.2.2 (one-held parts x.0 x.1 all))

  pub casts-kept : (so : Type 0) (at : Place) → Stays n so (casts at)
  casts-kept so at =
      behind (chosen _ _ _) (λ t. behind (no-more n _ 1) (λ u. made n _ _ _ (λ env parts e x c all. strict-held n (form.Cast t) parts x.2.0 at e x.2.2 (λ w. tt) all)))

  -- ---- what is wanted

  beside-error : (so : Type 0) (w : Option Shared) → Stays n so (wants_beside_error w)
  beside-error so None = wanting n _ None
  beside-error so (Some t) = wanting-some n _ _

  pub error-too-kept : (so : Type 0) → Stays n so wants_error_too
  error-too-kept so = behind (chosen _ _ _) (λ w. beside-error _ w)

  pub result-kept : (so : Type 0) → Stays n so wants_result
  result-kept so = behind (chosen _ _ _) (λ u. wanting n _ _)

  pub tests-kept : (so : Type 0) (passes : List AtomDef → Asked → TypeLimit → Type 0) (q : Option QualifiedName) (at : Place) → Stays n so (tests passes q at)
  tests-kept so passes q at =
      behind (chosen _ _ _) (λ t. behind (no-more n _ 1) (λ u. behind (ways-tested _ _ passes q t at) (λ w. behind (made-strict n _ _ _ _ _ (λ es w. tt)) (λ v. ways-set _ _ w))))

  pub checks-kept : (so : Type 0) (passes : List AtomDef → Asked → TypeLimit → Type 0) (at : Place) → Stays n so (checks passes at)
  checks-kept so passes at = behind (chosen _ _ _) (λ a. behind (chosen _ _ _) (λ u. behind (chosen _ _ _) (λ errors. behind (asked _ _ _ (below-grows _ _ _ _)) (λ v. checked-kept _ false at))))

  pub widens-kept : (so : Type 0) (passes : List AtomDef → Asked → TypeLimit → Type 0) (at : Place) → Stays n so (widens passes at)
  widens-kept so passes at = behind (chosen _ _ _) (λ e. behind (is-widened _ _ passes _ at) (λ t. wanting n _ (Some t)))
