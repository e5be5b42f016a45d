-- Each need of expressions and actions: that it leaves parts and flows as they are, or makes one part of the last ones.
use Rattle.std.proofs.Common.{ℕ, Bool, List, Option, Some, refl}
use Rattle.bal_base.specs.declared.place.Place.{Place}
use Rattle.bal_tree.specs.declared.name.Literal.{Literal}
use Rattle.bal_tree.specs.declared.name.Word.{Word}
use Rattle.bal_tree.specs.declared.types.TypeTree.{TypeTree}
use Rattle.descriptors.specs.declared.names.Names.{Names}
use Rattle.type_model.specs.declared.answers.TypeLimit.{TypeLimit}
use Rattle.type_model.specs.declared.atoms.AtomDef.{AtomDef}
use Rattle.type_model.specs.Calls.{Asked}
use Rattle.typed_tree.specs.declared.form.Operator.{Operator}
use Rattle.expr_needs.specs.declared.expected.Expected.{Expected}
use Rattle.expr_needs.specs.declared.kind.Kind.{Kind}
use Rattle.expr_needs.specs.Needs.{MemberSeen, Need, IsOf, IsWanted, Describes, WantsErrorToo, DropsWant, GivesLiteral, Forms, Decides, IsSort, Adds, Compares, Casts, IsAccessed, IsIndex, ReadsElement, ReadsField, ReadsOptional, ChoosesList, ChoosesMapping, BeginsKeys, ComputesKey, ExpectsItem, ExpectsMember, IsItem, IsMember, IsDetail, MakesList, MakesMapping, MakesError, CallsValue, CallsMethod, ExpectsArgument, IsArgument, MakesCall, Starts}
use Rattle.check_words.specs.Constructors.{ListFits, MappingFits}
use Rattle.check_words.specs.Meets.{meets}
use Rattle.flow_needs.proofs.Growing.{Weaving, weave-makes, weave-then}
use Rattle.flow_needs.proofs.Quieting.{Quiet, quiet-asking, quiet-becomes, quiet-beside, quiet-closes-constructor, quiet-handles, quiet-no-more, quiet-opens-constructor, quiet-sets-constructor, quiet-some, quiet-then, quiet-wants, quiet-wants-some}
use Rattle.flow_needs.proofs.QuietWords.{quiet-accessed, quiet-adds-member, quiet-atom-of, quiet-below-if, quiet-beside-error, quiet-closes-call, quiet-constructor, quiet-decided, quiet-expects-by, quiet-field-type, quiet-fits, quiet-fits-keys, quiet-frozen, quiet-is-of, quiet-library, quiet-may-stand, quiet-opens-call, quiet-picks, quiet-some-member, quiet-sorts, quiet-takes-sort, quiet-whether}
use Rattle.flow_needs.proofs.WeaveWords.{strict-made, weave-call-of, weave-reads, weave-starts-of}

module _ (passes : List AtomDef → Asked → TypeLimit → Type 0) (names : Names) where
  abbrev Q : Need → Type 0
  Q need = Quiet (meets passes names need)

  abbrev W : Need → Type 0
  W need = Weaving (meets passes names need)

  -- ---- what leaves parts as they are

  pub quiet-kind : (kind : Kind) (at : Place) → Q (IsOf kind at)
  quiet-kind kind at = quiet-is-of passes kind at

  pub quiet-is-wanted : (at : Place) → Q (IsWanted at)
  quiet-is-wanted at = quiet-then _ _ (quiet-some _) (λ w. quiet-then _ _ (quiet-some _) (λ e. quiet-below-if passes w e at))

  pub quiet-describes : (tree : TypeTree) → Q (Describes tree)
  quiet-describes tree = quiet-then _ _ (quiet-some _) (λ scope. quiet-then _ _ (quiet-asking _) (λ t. quiet-wants-some _))

  pub quiet-error-too : Q WantsErrorToo
  quiet-error-too = quiet-then _ _ (quiet-some _) (λ w. quiet-beside-error w)

  pub quiet-drops : Q DropsWant
  quiet-drops = quiet-no-more 1

  pub quiet-decides : (at : Place) → Q (Decides at)
  quiet-decides at = quiet-then _ _ (quiet-some _) (λ e. quiet-then _ _ (quiet-whether passes _ _ at) (λ ints. quiet-then _ _ (quiet-decided passes ints _ at) (λ u. quiet-sorts ints)))

  pub quiet-sort : (at : Place) → Q (IsSort at)
  quiet-sort at = quiet-then _ _ (quiet-some _) (λ ints. quiet-is-of passes _ at)

  pub quiet-is-accessed : (texts : Bool) (at : Place) → Q (IsAccessed texts at)
  quiet-is-accessed texts at = quiet-accessed passes texts at

  pub quiet-index : (at : Place) → Q (IsIndex at)
  quiet-index at = quiet-then _ _ (quiet-some _) (λ a. quiet-is-of passes _ at)

  pub quiet-chooses-list : (e : Expected) (items : List (Option Literal)) (at : Place) → Q (ChoosesList e items at)
  quiet-chooses-list e items at = quiet-constructor passes (λ t. t.lists) (ListFits items) e at

  pub quiet-chooses-mapping : (e : Expected) (members : List MemberSeen) (at : Place) → Q (ChoosesMapping e members at)
  quiet-chooses-mapping e members at = quiet-constructor passes (λ t. t.maps) (MappingFits members) e at

  pub quiet-begins-keys : Q BeginsKeys
  quiet-begins-keys = quiet-opens-constructor _

  pub quiet-computes-key : Q ComputesKey
  quiet-computes-key = quiet-then _ _ (quiet-some _) (λ c. quiet-sets-constructor _)

  pub quiet-expects-item : Q ExpectsItem
  quiet-expects-item = quiet-then _ _ (quiet-some _) (λ c. quiet-then _ _ (quiet-some _) (λ w. quiet-wants w))

  pub quiet-expects-member : Q ExpectsMember
  quiet-expects-member = quiet-then _ _ (quiet-some _) (λ c. quiet-then _ _ (quiet-some _) (λ w. quiet-wants w))

  pub quiet-is-item : (at : Place) → Q (IsItem at)
  quiet-is-item at =
      quiet-then _ _ (quiet-some _) (λ c. quiet-then _ _ (quiet-some _) (λ e. quiet-then _ _ (quiet-some _) (λ w. quiet-then _ _ (quiet-below-if passes w e at) (λ u.
      quiet-then _ _ (quiet-may-stand passes c e at) (λ v. quiet-then _ _ (quiet-adds-member passes c e at) (λ x. quiet-no-more 1))))))

  pub quiet-is-member : (at : Place) → Q (IsMember at)
  quiet-is-member at =
      quiet-then _ _ (quiet-some _) (λ c. quiet-then _ _ (quiet-some _) (λ e. quiet-then _ _ (quiet-some _) (λ w. quiet-then _ _ (quiet-below-if passes w e at) (λ u.
      quiet-then _ _ (quiet-then _ _ (quiet-some _) (λ key. quiet-fits-keys passes c.choice key at)) (λ v. quiet-then _ _ (quiet-may-stand passes c e at) (λ x.
      quiet-then _ _ (quiet-adds-member passes c e at) (λ y. quiet-no-more 1)))))))

  pub quiet-is-detail : (at : Place) → Q (IsDetail at)
  quiet-is-detail at =
      quiet-then _ _ (quiet-some _) (λ c. quiet-then _ _ (quiet-some _) (λ e. quiet-then _ _ (quiet-frozen passes e at) (λ u. quiet-then _ _ (quiet-some _) (λ t. quiet-sets-constructor _))))

  pub quiet-calls-value : Q CallsValue
  quiet-calls-value = quiet-opens-call _

  pub quiet-calls-method : (w : Word) (count : ℕ) (at : Place) → Q (CallsMethod w count at)
  quiet-calls-method w count at =
      quiet-then _ _ (quiet-some _) (λ e. quiet-then _ _ (quiet-picks passes _ e at) (λ row. quiet-then _ _ (quiet-handles _ _) (λ t. quiet-library row (Some t) count at)))

  pub quiet-expects-argument : (at : Place) → Q (ExpectsArgument at)
  quiet-expects-argument at = quiet-then _ _ (quiet-some _) (λ c. quiet-expects-by passes c.callee c.args at)

  pub quiet-is-argument : (at : Place) → Q (IsArgument at)
  quiet-is-argument at = quiet-then _ _ (quiet-some _) (λ c. quiet-fits passes c at)

  -- ---- what makes one of the last ones

  pub weave-literal : (l : Literal) → W (GivesLiteral l)
  weave-literal l = weave-makes 0 _ (λ env parts e h. strict-made e h.2)

  pub weave-forms : (op : Operator) (count : ℕ) (kind : Kind) (at : Place) → W (Forms op count kind at)
  weave-forms op count kind at = weave-makes count _ (λ env parts e h. strict-made e h.2)

  pub weave-adds : (at : Place) → W (Adds at)
  weave-adds at = weave-then _ _ quiet-takes-sort (λ ints. weave-makes 2 _ (λ env parts e h. strict-made e h.2))

  pub weave-compares : (op : Operator) (at : Place) → W (Compares op at)
  weave-compares op at = weave-then _ _ quiet-takes-sort (λ ints. weave-makes 2 _ (λ env parts e h. strict-made e h.2))

  pub weave-casts : (at : Place) → W (Casts at)
  weave-casts at = weave-then _ _ (quiet-some _) (λ t. weave-then _ _ (quiet-no-more 1) (λ u. weave-makes 1 _ (λ env parts e (a, is, (t, k, view)). strict-made e view)))

  pub weave-element : (at : Place) → W (ReadsElement at)
  weave-element at =
      weave-then _ _ (quiet-then _ _ (quiet-some _) (λ a. quiet-then _ _ (quiet-becomes _ (λ s. quiet-beside s _ refl refl refl refl)) (λ u. quiet-some _))) (λ a. weave-reads passes a at)

  pub weave-field : (w : Word) (at : Place) → W (ReadsField w at)
  weave-field w at = weave-then _ _ (quiet-some _) (λ e. weave-then _ _ (quiet-field-type passes _ _ at) (λ m. weave-makes 1 _ (λ env parts e h. strict-made e h.2)))

  pub weave-optional : (w : Word) (at : Place) → W (ReadsOptional w at)
  weave-optional w at = weave-then _ _ (quiet-some _) (λ e. weave-then _ _ (quiet-some-member passes _ _ at) (λ m. weave-makes 1 _ (λ env parts e h. strict-made e h.2)))

  pub weave-list : (count : ℕ) (at : Place) → W (MakesList count at)
  weave-list count at = weave-then _ _ quiet-closes-constructor (λ c. weave-then _ _ (quiet-atom-of c.choice _ at) (λ atom. weave-makes count _ (λ env parts e h. strict-made e h.2)))

  pub weave-mapping : (count : ℕ) (at : Place) → W (MakesMapping count at)
  weave-mapping count at = weave-then _ _ quiet-closes-constructor (λ c. weave-then _ _ (quiet-atom-of c.choice _ at) (λ atom. weave-makes _ _ (λ env parts e h. strict-made e h.2)))

  pub weave-error : (count : ℕ) (at : Place) → W (MakesError count at)
  weave-error count at = weave-then _ _ quiet-closes-constructor (λ c. weave-then _ _ (quiet-asking _) (λ first. weave-makes _ _ (λ env parts e h. strict-made e h.2)))

  pub weave-call : (at : Place) → W (MakesCall at)
  weave-call at = weave-then _ _ quiet-closes-call (λ c. weave-call-of passes c.callee c.args at)

  pub weave-starts : (here at : Place) → W (Starts here at)
  weave-starts here at = weave-then _ _ quiet-closes-call (λ c. weave-starts-of passes c.callee c.args here at)
