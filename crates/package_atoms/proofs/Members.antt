-- The needs of members and of constructors keep what was found.
use Rattle.std.proofs.Common.{◌≤◌, ℕ, Bool, true, false, List, [], ◌∷◌, Option, None, Some, length, arith, refl, subst, sym, ap}
use Rattle.bal_base.specs.declared.place.Place.{Place}
use Rattle.bal_base.specs.declared.shape.Shape.{Shape}
use Rattle.bal_base.specs.declared.text.Text.{Text}
use Rattle.bal_tree.specs.declared.name.Word.{Word}
use Rattle.checks.specs.Checks.{Gives}
use Rattle.type_model.specs.declared.answers.Keys.{Keys}
use Rattle.type_model.specs.declared.answers.TypeLimit.{TypeLimit}
use Rattle.type_model.specs.declared.atoms.AtomDef.{AtomDef}
use Rattle.type_model.specs.declared.atoms.FieldDef.{FieldDef}
use Rattle.type_model.specs.declared.basic.Choice.{Choice}
use Rattle.type_model.specs.declared.basic.SemType.{SemType}
use Rattle.type_model.specs.declared.basic.Ty.{Ty}
use Rattle.type_model.specs.Calls.{Asked}
use Rattle.typed_tree.specs.declared.expr.TypedExpr.{TypedExpr}
use Rattle.typed_tree.specs.SharedTypes.{Shared}
use Rattle.expr_needs.specs.declared.expected.Expected.{Expected}
use Rattle.expr_needs.specs.declared.expected.Expected.TheVariants as expected
use Rattle.check_words.specs.declared.access.Access.{Access}
use Rattle.check_words.specs.declared.access.Access.TheVariants.{Char, Item, Key}
use Rattle.check_words.specs.Constructors.{added_type, adds_member, atom_of, begins_keys, chooses_by, chooses_constructor, chooses_for, computes_key, expects_item, expects_member, first_fit, fits_field, fits_fields, fits_keys, gives_new_key, is_detail, is_frozen, is_item, is_member, lacks_cause, makes_error, makes_list, makes_mapping, may_stand, takes_key}
use Rattle.check_words.specs.Members.{accesses, expects_stored, field_type, gives_key, has_field, has_part, is_accessed, is_accessed_as, is_index, is_structure, reads_accessed, reads_element, reads_field, reads_optional, reads_stored, reads_stored_field, some_member_at, stored_type, takes_access}
use Rattle.check_words.specs.State.{ConstructorAtWork, State}
use Rattle.check_words.specs.Words.{Atoms}
use Rattle.isolation_check.proofs.Held.{implied-held}
use Rattle.package_atoms.proofs.Keeping.{Any, Core, Keeps, asked, behind, chosen, core, elsewhere, one-of, refused, tested}
use Rattle.package_atoms.proofs.Questions.{adds-grows, below-grows, has-some-grows, is-below-grows, member-grows, names-field-grows, names-members-grows}
use Rattle.package_atoms.proofs.Values.{is-widened}
use Rattle.package_atoms.proofs.Words.{Stays, below-if, constructor-closed, constructor-opened, constructor-set, is-of, made, made-strict, no-more, wanting, wanting-some, whether-some, whether-within}

-- ---- of no account

module _ (I : Core → Type 0) (so : Type 0) where
  pub access-added : (a : Access) → Keeps I so (accesses a) Any I
  access-added a = elsewhere _ _ _ (λ old. refl) (λ old. refl)

  pub access-taken : Keeps I so takes_access Any I
  access-taken = behind (chosen _ _ _) (λ a. behind (elsewhere _ _ _ (λ old. refl) (λ old. refl)) (λ u. chosen _ _ _))

  first-fit-run : (Fits : Atoms → Choice → Type 0) (choices : List Choice) (at : Place) (old new : State) (c : Choice) → first_fit Fits choices at old (Gives c) new
      → (length old.atoms ≤ length new.atoms) × (so → I (core old) → I (core new) × Unit {0})
  unfolding first_fit
  first-fit-run Fits choices at old new c (x, e) = (omega (arith, ap (λ (s : State). length s.atoms) e), λ d i. (subst I (sym (ap core e)) i, tt))

  first-fit : (Fits : Atoms → Choice → Type 0) (choices : List Choice) (at : Place) → Keeps I so (first_fit Fits choices at) Any I
  first-fit Fits choices at = record { run = first-fit-run Fits choices at }

  pub some-member : (t : SemType) (keys : Keys) (at : Place) (passes : List AtomDef → Asked → TypeLimit → Type 0) → Keeps I so (some_member_at passes t keys at) Any I
  some-member t keys at passes = behind (asked _ _ _ (member-grows _ _ _ _)) (λ m. behind (asked _ _ _ (has-some-grows _ _ _)) (λ b. behind (tested _ _ _ _ b) (λ u. chosen _ _ _)))

  accessed-as : (passes : List AtomDef → Asked → TypeLimit → Type 0) (a : Access) (at : Place) → Keeps I so (is_accessed_as passes a at) Any I
  accessed-as passes a at = behind (is-of _ _ _ _ _) (λ u. access-added a)

  part-asked : (P : Shape → Type 0) (at : Place) (passes : List AtomDef → Asked → TypeLimit → Type 0) → Keeps I so (has_part passes P at) Any I
  part-asked P at passes = behind (chosen _ _ _) (λ e. whether-some _ _ _ _ _)

  structure-accessed : (passes : List AtomDef → Asked → TypeLimit → Type 0) (at : Place) → Keeps I so (is_structure passes at) Any I
  structure-accessed passes at = behind (part-asked _ _ passes) (λ b. one-of b (accessed-as passes Item at) (accessed-as passes Key at))

  pub accessed-kept : (passes : List AtomDef → Asked → TypeLimit → Type 0) (texts : Bool) (at : Place) → Keeps I so (is_accessed passes texts at) Any I
  accessed-kept passes true at = behind (part-asked _ _ passes) (λ b. one-of b (accessed-as passes Char at) (structure-accessed passes at))
  accessed-kept passes false at = structure-accessed passes at

  pub index-kept : (passes : List AtomDef → Asked → TypeLimit → Type 0) (at : Place) → Keeps I so (is_index passes at) Any I
  index-kept passes at = behind (chosen _ _ _) (λ a. is-of _ _ _ _ _)

  pub field-typed : (name : Text) (t : SemType) (at : Place) (passes : List AtomDef → Asked → TypeLimit → Type 0) → Keeps I so (field_type passes name t at) Any I
  field-typed name t at passes = behind (behind (asked _ _ _ (adds-grows _ _)) (λ atom. behind (asked _ _ _ (is-below-grows _ _ _ _)) (λ b. tested _ _ _ _ b))) (λ u. asked _ _ _ (member-grows _ _ _ _))

  stored-typed : (container key : SemType) (at : Place) (passes : List AtomDef → Asked → TypeLimit → Type 0) (a : Access) → Keeps I so (stored_type passes a container key at) Any I
  stored-typed container key at passes Char = chosen _ _ _
  stored-typed container key at passes Item = behind (asked _ _ _ (names-members-grows _ _ _ _)) (λ keys. behind (asked _ _ _ (member-grows _ _ _ _)) (λ m. chosen _ _ _))
  stored-typed container key at passes Key = behind (asked _ _ _ (names-members-grows _ _ _ _)) (λ keys. behind (asked _ _ _ (member-grows _ _ _ _)) (λ m. chosen _ _ _))

  -- ---- constructors

  chosen-by : (passes : List AtomDef → Asked → TypeLimit → Type 0) (own : Ty → List Choice) (Fits : Atoms → Choice → Type 0) (cs : List Choice) (t : Ty) (at : Place)
      → Keeps I so (chooses_by passes own Fits cs t at) Any I
  chosen-by passes own Fits [] t at = behind (whether-within _ _ _ _ _ _) (λ b. constructor-opened _ _ _)
  chosen-by passes own Fits (c ∷ cs) t at = behind (first-fit _ _ _) (λ d. constructor-opened _ _ _)

  chosen-for : (passes : List AtomDef → Asked → TypeLimit → Type 0) (own : Ty → List Choice) (Fits : Atoms → Choice → Type 0) (w : Option Shared) (at : Place) → Keeps I so (chooses_for passes own Fits w at) Any I
  chosen-for passes own Fits None at = constructor-opened _ _ _
  chosen-for passes own Fits (Some t) at = chosen-by passes own Fits _ t.value at

  pub constructor-chosen : (passes : List AtomDef → Asked → TypeLimit → Type 0) (own : Ty → List Choice) (Fits : Atoms → Choice → Type 0) (e : Expected) (at : Place)
      → Keeps I so (chooses_constructor passes own Fits e at) Any I
  constructor-chosen passes own Fits expected.Nothing at = constructor-opened _ _ _
  constructor-chosen passes own Fits expected.Immutable at = constructor-opened _ _ _
  constructor-chosen passes own Fits expected.Wanted at = behind (chosen _ _ _) (λ w. chosen-for passes own Fits w at)

  frozen : (e : TypedExpr) (at : Place) (passes : List AtomDef → Asked → TypeLimit → Type 0) → Keeps I so (is_frozen passes e at) Any I
  frozen e at passes = behind (whether-within _ _ _ _ _ _) (λ b. tested _ _ _ _ b)

  field-fitted : (key : SemType) (e : TypedExpr) (at : Place) (passes : List AtomDef → Asked → TypeLimit → Type 0) (f : FieldDef) → Keeps I so (fits_field passes key e at f) Any I
  field-fitted key e at passes f = behind (asked _ _ _ (names-field-grows _ _ _)) (λ b. one-of b (behind (chosen _ _ _) (λ t. asked _ _ _ (below-grows _ _ _ _))) (chosen _ _ _))

  fields-fitted : (key : SemType) (e : TypedExpr) (at : Place) (passes : List AtomDef → Asked → TypeLimit → Type 0) (fs : List FieldDef) → Keeps I so (fits_fields passes key e at fs) Any I
  fields-fitted key e at passes [] = chosen _ _ _
  fields-fitted key e at passes (f ∷ fs) = behind (field-fitted _ _ _ passes f) (λ u. fields-fitted _ _ _ passes fs)

  keys-fitted : (at : Place) (passes : List AtomDef → Asked → TypeLimit → Type 0) (choice : Option ℕ) (key : Option Text) → Keeps I so (fits_keys passes choice key at) Any I
  keys-fitted at passes None key = chosen _ _ _
  keys-fitted at passes (Some atom) (Some key) = chosen _ _ _
  keys-fitted at passes (Some atom) None = behind (chosen _ _ _) (λ p. behind (chosen _ _ _) (λ fields. fields-fitted _ _ _ passes fields))

  type-added : (passes : List AtomDef → Asked → TypeLimit → Type 0) (choice : Option ℕ) (e : TypedExpr) (at : Place) → Keeps I so (added_type passes choice e at) Any I
  type-added passes None e at = is-widened _ _ passes _ at
  type-added passes (Some atom) e at = chosen _ _ _

  member-added : (passes : List AtomDef → Asked → TypeLimit → Type 0) (c : ConstructorAtWork) (e : TypedExpr) (at : Place) → Keeps I so (adds_member passes c e at) Any I
  member-added passes c e at = behind (type-added passes c.choice e at) (λ t. behind (chosen _ _ _) (λ u. constructor-set _ _ _))

  stands-there : (passes : List AtomDef → Asked → TypeLimit → Type 0) (c : ConstructorAtWork) (e : TypedExpr) (at : Place) → Keeps I so (may_stand passes c e at) Any I
  stands-there passes c e at = one-of c.immutable (frozen _ _ passes) (chosen _ _ _)

  pub detail-kept : (passes : List AtomDef → Asked → TypeLimit → Type 0) (at : Place) → Keeps I so (is_detail passes at) Any I
  detail-kept passes at = behind (chosen _ _ _) (λ c. behind (chosen _ _ _) (λ e. behind (frozen _ _ passes) (λ u. behind (chosen _ _ _) (λ t. constructor-set _ _ _))))

  pub key-taken : (text : Text) (at : Place) → Keeps I so (takes_key text at) Any I
  key-taken text at = behind (chosen _ _ _) (λ c. one-of _ (refused _ _ _ _ _) (constructor-set _ _ _))

  pub key-computed : Keeps I so computes_key Any I
  key-computed = behind (chosen _ _ _) (λ c. constructor-set _ _ _)

  pub keys-begun : Keeps I so begins_keys Any I
  keys-begun = constructor-opened _ _ _

  atom-found : (P : Atoms → List AtomDef → Type 0) (at : Place) (choice : Option ℕ) → Keeps I so (atom_of choice P at) Any I
  atom-found P at (Some atom) = chosen _ _ _
  atom-found P at None = asked _ _ _ (adds-grows _ _)

-- ---- what is kept

module _ (n : ℕ) where
  pub key-given : (so : Type 0) (text : Text) (at : Place) → Stays n so (gives_key text at)
  key-given so text at = made n _ _ _ (λ env parts e x c all. implied-held n _ x.0 at e x.2)

  pub field-kept : (so : Type 0) (w : Word) → Stays n so (has_field w)
  field-kept so w = behind (key-given _ w.name w.at) (λ u. access-added _ _ Key)

  pub new-key-kept : (so : Type 0) (text : Text) (at : Place) → Stays n so (gives_new_key text at)
  new-key-kept so text at = behind (key-taken _ _ text at) (λ u. key-given _ text at)

  pub item-expected : (so : Type 0) → Stays n so expects_item
  item-expected so = behind (chosen _ _ _) (λ c. behind (chosen _ _ _) (λ w. wanting n _ w))

  pub member-expected : (so : Type 0) → Stays n so expects_member
  member-expected so = behind (chosen _ _ _) (λ c. behind (chosen _ _ _) (λ w. wanting n _ w))

  pub list-kept : (so : Type 0) (count : ℕ) (at : Place) → Stays n so (makes_list count at)
  list-kept so count at = behind (constructor-closed _ _) (λ c. behind (atom-found _ _ _ _ c.choice) (λ atom. made-strict n _ _ _ _ _ (λ es w. tt)))

  pub mapping-kept : (so : Type 0) (count : ℕ) (at : Place) → Stays n so (makes_mapping count at)
  mapping-kept so count at = behind (constructor-closed _ _) (λ c. behind (atom-found _ _ _ _ c.choice) (λ atom. made-strict n _ _ _ _ _ (λ es w. tt)))

  pub lacks-kept : (so : Type 0) (at : Place) → Stays n so (lacks_cause at)
  lacks-kept so at = made n _ _ _ (λ env parts e x c all. implied-held n _ x.0 at e x.2)

  pub error-kept : (so : Type 0) (count : ℕ) (at : Place) → Stays n so (makes_error count at)
  error-kept so count at = behind (constructor-closed _ _) (λ c. behind (asked _ _ _ (adds-grows _ _)) (λ first. made-strict n _ _ _ _ _ (λ es w. tt)))

  element-read : (so : Type 0) (passes : List AtomDef → Asked → TypeLimit → Type 0) (a : Access) (at : Place) → Stays n so (reads_element passes a at)
  element-read so passes Char at = made-strict n _ _ _ _ _ (λ es w. tt)
  element-read so passes Item at =
      behind (chosen _ _ _) (λ p. behind (asked _ _ _ (names-members-grows _ _ _ _)) (λ keys. behind (some-member _ _ _ _ _ passes) (λ m. made-strict n _ _ _ _ _ (λ es w. tt))))
  element-read so passes Key at =
      behind (chosen _ _ _) (λ p. behind (asked _ _ _ (names-members-grows _ _ _ _)) (λ keys. behind (asked _ _ _ (member-grows _ _ _ _)) (λ m. made-strict n _ _ _ _ _ (λ es w. tt))))

  pub element-kept : (so : Type 0) (passes : List AtomDef → Asked → TypeLimit → Type 0) (at : Place) → Stays n so (reads_accessed passes at)
  element-kept so passes at = behind (access-taken _ _) (λ a. element-read _ passes a at)

  pub field-read-kept : (so : Type 0) (passes : List AtomDef → Asked → TypeLimit → Type 0) (w : Word) (at : Place) → Stays n so (reads_field passes w at)
  field-read-kept so passes w at = behind (chosen _ _ _) (λ e. behind (field-typed _ _ _ _ _ passes) (λ m. made-strict n _ _ _ _ _ (λ es w. tt)))

  pub optional-kept : (so : Type 0) (passes : List AtomDef → Asked → TypeLimit → Type 0) (w : Word) (at : Place) → Stays n so (reads_optional passes w at)
  optional-kept so passes w at = behind (chosen _ _ _) (λ e. behind (some-member _ _ _ _ _ passes) (λ m. made-strict n _ _ _ _ _ (λ es w. tt)))

  pub stored-expected : (so : Type 0) (passes : List AtomDef → Asked → TypeLimit → Type 0) (at : Place) → Stays n so (expects_stored passes at)
  stored-expected so passes at =
      behind (chosen _ _ _) (λ p. behind (chosen _ _ _) (λ a. behind (asked _ _ _ (names-members-grows _ _ _ _)) (λ keys. behind (some-member _ _ _ _ _ passes) (λ m. wanting-some n _ _))))

  pub stored-read : (so : Type 0) (passes : List AtomDef → Asked → TypeLimit → Type 0) (at : Place) → Stays n so (reads_stored passes at)
  stored-read so passes at = behind (chosen _ _ _) (λ p. behind (chosen _ _ _) (λ a. behind (stored-typed _ _ _ _ _ passes a) (λ t. wanting-some n _ _)))

  pub stored-field-read : (so : Type 0) (passes : List AtomDef → Asked → TypeLimit → Type 0) (w : Word) (at : Place) → Stays n so (reads_stored_field passes w at)
  stored-field-read so passes w at = behind (chosen _ _ _) (λ p. behind (field-typed _ _ _ _ _ passes) (λ m. wanting-some n _ _))

  pub item-kept : (so : Type 0) (passes : List AtomDef → Asked → TypeLimit → Type 0) (at : Place) → Stays n so (is_item passes at)
  item-kept so passes at =
      behind (chosen _ _ _) (λ c. behind (chosen _ _ _) (λ e. behind (chosen _ _ _) (λ w. behind (below-if _ _ _ _ _ w) (λ u.
      behind (stands-there _ _ passes c e at) (λ v. behind (member-added _ _ passes c e at) (λ x. no-more n _ 1))))))

  pub member-kept : (so : Type 0) (passes : List AtomDef → Asked → TypeLimit → Type 0) (at : Place) → Stays n so (is_member passes at)
  member-kept so passes at =
      behind (chosen _ _ _) (λ c. behind (chosen _ _ _) (λ e. behind (chosen _ _ _) (λ w. behind (below-if _ _ _ _ _ w) (λ u.
      behind (behind (chosen _ _ _) (λ key. keys-fitted _ _ _ passes c.choice key)) (λ v.
      behind (stands-there _ _ passes c e at) (λ x. behind (member-added _ _ passes c e at) (λ y. no-more n _ 1)))))))
