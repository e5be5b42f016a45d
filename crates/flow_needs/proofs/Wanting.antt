-- Needs behind which something is wanted.
use Rattle.std.proofs.Common.{◌≡◌, ◌≤◌, ◌++◌, ℕ, List, [], ◌∷◌, length, Option, None, Some, arith, length-append, ap}
use Rattle.bal_base.specs.declared.place.Place.{Place}
use Rattle.checks.specs.Checks.{Check, Gives, ◌▷◌, gives_some}
use Rattle.operations.specs.declared.library.LibraryCall.{LibraryCall}
use Rattle.operations.specs.declared.library.LibraryCall.TheVariants.{Push}
use Rattle.type_model.specs.declared.answers.TypeLimit.{TypeLimit}
use Rattle.type_model.specs.declared.atoms.AtomDef.{AtomDef}
use Rattle.type_model.specs.declared.basic.Ty.{Ty}
use Rattle.type_model.specs.Calls.{Asked}
use Rattle.typed_tree.specs.SharedTypes.{Shared}
use Rattle.check_words.specs.Calls.{expects_argument, expects_by, expects_of_library, expects_pushed, wants_copy, wants_kind}
use Rattle.check_words.specs.Constructors.{expects_item, expects_member}
use Rattle.check_words.specs.Library.{Takes}
use Rattle.check_words.specs.State.{Called, OfFunction, OfLibrary, OfValue, State}
use Rattle.check_words.specs.Values.{wants_beside_error, wants_error_too}
use Rattle.check_words.specs.Words.{Atoms, wants as wanting, wants_some}
use Rattle.typed_needs.proofs.Items.{want-put}

abbrev Wants : Check State (Unit {0}) → Type 0
Wants m = (old new : State) (a : Unit {0}) → m old (Gives a) new → 1 ≤ length new.wants

want-more : (w : Option Shared) (s t : State) → t ≡ record s { wants = s.wants ++ w ∷ [] } → 1 ≤ length t.wants
want-more w s t is = let long = ap (λ (x : State). length x.wants) is in let more = length-append s.wants (w ∷ []) in omega (arith, long, more)

wants-one : (w : Option Shared) → Wants (wanting w)
wants-one w old new a met = let (x, same, is) = want-put w a old new met in want-more x old new is

wants-then : {A : Type 0} (m : Check State A) (next : A → Check State (Unit {0})) → ((a : A) → Wants (next a)) → Wants (m ▷ next)
unfolding ◌▷◌
wants-then m next f old new b (a, mid, x, y) = f a mid new b y

wants-never : Wants (gives_some (λ s u. ⊥))
unfolding gives_some
wants-never old new a (never, same) = absurd never

wants-some : (P : Atoms → Ty → Type 0) → Wants (wants_some P)
wants-some P = wants-then _ _ (λ t. wants-one (Some t))

pub item-wanted : (old new : State) → expects_item old (Gives tt) new → 1 ≤ length new.wants
item-wanted old new met = wants-then _ _ (λ c. wants-then _ _ (λ w. wants-one w)) old new tt met

pub member-wanted : (old new : State) → expects_member old (Gives tt) new → 1 ≤ length new.wants
member-wanted old new met = wants-then _ _ (λ c. wants-then _ _ (λ w. wants-one w)) old new tt met

beside-wanted : (w : Option Shared) → Wants (wants_beside_error w)
beside-wanted None = wants-one None
beside-wanted (Some t) = wants-some _

pub error-wanted : (old new : State) → wants_error_too old (Gives tt) new → 1 ≤ length new.wants
error-wanted old new met = wants-then _ _ (λ w. beside-wanted w) old new tt met

copy-wanted : (ts : List Ty) → Wants (wants_copy ts)
copy-wanted [] = wants-never
copy-wanted (t ∷ ts) = wants-some _

kind-wanted : (takes : Takes) → Wants (wants_kind takes)
kind-wanted None = wants-one None
kind-wanted (Some k) = wants-some _

module _ (passes : List AtomDef → Asked → TypeLimit → Type 0) where
  pushed-wanted : (receiver : Option Shared) (at : Place) → Wants (expects_pushed passes receiver at)
  pushed-wanted None at = wants-never
  pushed-wanted (Some t) at = wants-then _ _ (λ m. wants-some _)

  library-wanted : (call : LibraryCall) (receiver : Option Shared) (takes : Takes) (at : Place) → Wants (expects_of_library passes call receiver takes at)
  library-wanted Push receiver takes at = pushed-wanted receiver at
  library-wanted call receiver takes at = kind-wanted takes

  expected-wanted : (c : Called) (n : ℕ) (at : Place) → Wants (expects_by passes c n at)
  expected-wanted (OfFunction f) n at = copy-wanted _
  expected-wanted OfValue n at = wants-one None
  expected-wanted (OfLibrary row receiver) n at = library-wanted row.call receiver _ at

  pub argument-wanted : (at : Place) (old new : State) → expects_argument passes at old (Gives tt) new → 1 ≤ length new.wants
  argument-wanted at old new met = wants-then _ _ (λ c. expected-wanted c.callee c.args at) old new tt met
