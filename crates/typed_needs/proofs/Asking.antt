-- What is asked of the last part, and that nothing else changes.
use Rattle.std.proofs.Common.{◌≡◌, ◌∙◌, ◌++◌, Bool, true, false, List, [], ◌∷◌, Option, Some, None, refl, subst, ap}
use Rattle.bal_base.specs.declared.place.Place.{Place}
use Rattle.bal_base.specs.declared.shape.Shape.{Shape}
use Rattle.checks.specs.Checks.{Check, Gives, ◌▷◌, either, gives_some}
use Rattle.checks.specs.Questions.{below, is_below}
use Rattle.descriptors.specs.declared.names.Names.{Names}
use Rattle.needs.specs.Needs.{asks, does}
use Rattle.type_model.specs.declared.answers.TypeLimit.{TypeLimit}
use Rattle.type_model.specs.declared.atoms.AtomDef.{AtomDef}
use Rattle.type_model.specs.declared.basic.SemType.{SemType}
use Rattle.type_model.specs.declared.basic.Ty.{Ty}
use Rattle.type_model.specs.Calls.{Asked}
use Rattle.type_model.specs.Inclusion.{Sub}
use Rattle.operations.specs.Kinds.{IsList, IsString}
use Rattle.operations.specs.Rows.{IsWithin}
use Rattle.typed_tree.specs.declared.expr.TypedExpr.{TypedExpr}
use Rattle.typed_tree.specs.SharedTypes.{Shared, sem_of}
use Rattle.expr_needs.specs.declared.kind.Kind.{Kind}
use Rattle.expr_needs.specs.declared.kind.Kind.TheVariants as kind
use Rattle.check_words.specs.declared.access.Access.{Access}
use Rattle.check_words.specs.declared.access.Access.TheVariants.{Char, Item, Key}
use Rattle.check_words.specs.Kinds.{IsOfKind}
use Rattle.check_words.specs.Members.{accesses, container_kind, has_part, index_kind, is_accessed, is_accessed_as, is_index, is_structure}
use Rattle.check_words.specs.State.{IsLast, State}
use Rattle.check_words.specs.Values.{decided, is_of_sort, sort_kind, sorts}
use Rattle.check_words.specs.Words.{Atoms, OfKind, below_if, is_of, is_wanted, is_within, whether_some, whether_within}
use Rattle.tree_promises.specs.Made.{sem}
use Rattle.typed_needs.specs.Asked.{AccessIsChosen, AllIsAsked, IndexIsAsked, IsOfIt, SortIsAsked, SortIsDecided}
use Rattle.typed_needs.specs.Pieces.{IsBefore}
use Rattle.typed_needs.proofs.Questions.{below-adds-none, has-some-adds-none, is-below-adds-none}
use Rattle.typed_needs.proofs.Leaving.{LeavesAll, all-asking, all-some, all-then}
use Rattle.typed_needs.proofs.Opened.{last-defined}
use Rattle.typed_needs.proofs.Placed.{last-same}

-- ---- questions

module _ (passes : List AtomDef → Asked → TypeLimit → Type 0) where
  pub within-leaves : (P : Atoms → Ty → Type 0) (s : SemType) (at : Place) → LeavesAll (is_within passes P s at)
  within-leaves P s at = all-then _ _ (all-some _) (λ t. all-asking _ (below-adds-none passes s t.sem (Some at)))

  pub whether-leaves : (P : Atoms → Ty → Type 0) (s : SemType) (at : Place) → LeavesAll (whether_within passes P s at)
  whether-leaves P s at = all-then _ _ (all-some _) (λ t. all-asking _ (is-below-adds-none passes s t.sem (Some at)))

  whether-some-leaves : (P : Atoms → Ty → Type 0) (at : Place) → LeavesAll (whether_some passes P at)
  whether-some-leaves P at = all-then _ _ (all-some _) (λ t. all-asking _ (has-some-adds-none passes t.sem (Some at)))

  pub is-of-leaves : (kind : Kind) (at : Place) → LeavesAll (is_of passes kind at)
  is-of-leaves kind at = all-then _ _ (all-some _) (λ e. within-leaves (OfKind kind) (sem e) at)

  pub below-if-leaves : (w : Option Shared) (e : TypedExpr) (at : Place) → LeavesAll (below_if passes w e at)
  below-if-leaves None e at = all-some _
  below-if-leaves (Some t) e at = all-asking _ (below-adds-none passes (sem e) (sem_of t) (Some at))

  pub wanted-leaves : (at : Place) → LeavesAll (is_wanted passes at)
  wanted-leaves at = all-then _ _ (all-some _) (λ w. all-then _ _ (all-some _) (λ e. below-if-leaves w e at))

  pub has-part-leaves : (P : Shape → Type 0) (at : Place) → LeavesAll (has_part passes P at)
  has-part-leaves P at = all-then _ _ (all-some _) (λ e. whether-some-leaves _ at)

  -- ---- what was asked

  pub within-opened : (P : Atoms → Ty → Type 0) (s : SemType) (at : Place) (u : Unit {0}) (old new : State) → is_within passes P s at old (Gives u) new
      → (t : Ty) × P old.atoms t × Sub old.atoms s t.sem
  unfolding ◌▷◌ gives_some asks below
  within-opened P s at u old new (t, mid, (holds, same), ((under, atoms), over)) =
      (t, holds, subst (λ (x : State). Sub x.atoms s t.sem) same under)

  pub whether-opened : (P : Atoms → Ty → Type 0) (s : SemType) (at : Place) (old new : State) → whether_within passes P s at old (Gives true) new
      → (t : Ty) × P old.atoms t × Sub old.atoms s t.sem
  unfolding ◌▷◌ gives_some asks is_below
  whether-opened P s at old new (t, mid, (holds, same), ((under, atoms), over)) =
      (t, holds, subst (λ (x : State). Sub x.atoms s t.sem) same under)

  pub below-if-so : (t : Shared) (e : TypedExpr) (at : Place) (u : Unit {0}) (old new : State) → below_if passes (Some t) e at old (Gives u) new → Sub old.atoms (sem e) (sem_of t)
  unfolding asks below
  below-if-so t e at u old new ((under, atoms), over) = under

  module _ (names : Names) (env : List AtomDef) where
    -- over the atoms at the end
    pub of-kind-later : (kind : Kind) (old : State) (e : TypedExpr) → IsBefore env old → IsLast old.found e
        → ((t : Ty) × OfKind kind old.atoms t × Sub old.atoms (sem e) t.sem) → IsWithin env (IsOfKind kind) (sem e)
    of-kind-later kind old e before last (t, kind-of, under) x i =
        (kind-of.0.shapes x i.0).0 (under x i.0 ((before.keeps.shapes (sem e) (last-defined env old e before last) x).1 i.1))

    is-of-opened : (kind : Kind) (at : Place) (u : Unit {0}) (old new : State) → is_of passes kind at old (Gives u) new
        → (e : TypedExpr) × IsLast old.found e × ((t : Ty) × OfKind kind old.atoms t × Sub old.atoms (sem e) t.sem)
    unfolding ◌▷◌ gives_some
    is-of-opened kind at u old new (e, mid, (last, is), met) = (
      e,
      last,
      within-opened (OfKind kind) (sem e) at u old new (subst (λ (s : State). is_within passes (OfKind kind) (sem e) at s (Gives u) new) is met),
    )

    pub is-of-so : (kind : Kind) (at : Place) (u : Unit {0}) (old new : State) (e : TypedExpr) → IsBefore env old → is_of passes kind at old (Gives u) new → IsLast old.found e
        → IsWithin env (IsOfKind kind) (sem e)
    is-of-so kind at u old new e before met last =
        let (f, l, asked) = is-of-opened kind at u old new met in
        let one : f ≡ e = last-same old.found f e l last in
        subst (λ (p : TypedExpr). IsWithin env (IsOfKind kind) (sem p)) one (of-kind-later kind old f before l asked)

    -- ---- operators

    decided-so : (ints : Bool) (at : Place) (e : TypedExpr) (u : Unit {0}) (old mid new : State) → whether_within passes (OfKind kind.Integer) (sem e) at old (Gives ints) mid
        → decided passes ints (sem e) at mid (Gives u) new → mid ≡ old → IsBefore env old → IsLast old.found e → IsOfIt passes names env (sort_kind ints) e × (new ≡ old)
    decided-so true at e u old mid new asked met same before last =
        (of-kind-later kind.Integer old e before last (whether-opened (OfKind kind.Integer) (sem e) at old mid asked), all-some _ mid new u met ∙ same)
    decided-so false at e u old mid new asked met same before last =
        let met' : is_within passes (OfKind kind.Text) (sem e) at old (Gives u) new =
        subst (λ (s : State). is_within passes (OfKind kind.Text) (sem e) at s (Gives u) new) same met in
        (of-kind-later kind.Text old e before last (within-opened (OfKind kind.Text) (sem e) at u old new met'), within-leaves (OfKind kind.Text) (sem e) at old new u met')

    sort-decided : SortIsDecided passes names env
    unfolding ◌▷◌ gives_some does
    sort-decided at old new e before (f, a, (last, first), (ints, b, asked, (u, c, met, is))) l =
        let one : f ≡ e = last-same old.found f e last l in
        let at-first : a ≡ old = first in
        let asked' : whether_within passes (OfKind kind.Integer) (sem e) at old (Gives ints) b =
        subst (λ (p : TypedExpr). whether_within passes (OfKind kind.Integer) (sem p) at old (Gives ints) b) one
        (subst (λ (s : State). whether_within passes (OfKind kind.Integer) (sem f) at s (Gives ints) b) at-first asked) in
        let met' : decided passes ints (sem e) at b (Gives u) c = subst (λ (p : TypedExpr). decided passes ints (sem p) at b (Gives u) c) one met in
        let (of, same) = decided-so ints at e u old b c asked' met' (whether-leaves (OfKind kind.Integer) (sem e) at old b ints asked') before l in
        (ints, is ∙ ap (λ (s : State). record s { sorts = s.sorts ++ ints ∷ [] }) same, of)

    sort-opened : (at : Place) (old new : State) → is_of_sort passes at old (Gives tt) new
        → (i : Bool) × IsLast old.sorts i × is_of passes (sort_kind i) at old (Gives tt) new
    unfolding ◌▷◌ gives_some
    sort-opened at old new (i, mid, (l, same), met) = (i, l, subst (λ (s : State). is_of passes (sort_kind i) at s (Gives tt) new) same met)

    sort-asked : SortIsAsked passes names env
    sort-asked at old new e ints before met sort last =
        let (i, l, asked) = sort-opened at old new met in
        let one : i ≡ ints = last-same old.sorts i ints l sort in
        let asked' : is_of passes (sort_kind ints) at old (Gives tt) new = subst (λ (b : Bool). is_of passes (sort_kind b) at old (Gives tt) new) one asked in
        (is-of-so (sort_kind ints) at tt old new e before asked' last, is-of-leaves (sort_kind ints) at old new tt asked')

    -- ---- members

    abbrev Chosen : State → State → TypedExpr → Type 0
    Chosen old new e = (a : Access) × (new ≡ record old { accesses = old.accesses ++ a ∷ [] }) × IsOfIt passes names env (container_kind a) e

    accessed-as : (a : Access) (at : Place) (old new : State) (e : TypedExpr) → IsBefore env old → is_accessed_as passes a at old (Gives tt) new → IsLast old.found e → Chosen old new e
    unfolding ◌▷◌ does
    accessed-as a at old new e before (u, mid, met, is) last =
        (a, is ∙ ap (λ (s : State). record s { accesses = s.accesses ++ a ∷ [] }) (is-of-leaves (container_kind a) at old mid u met), is-of-so (container_kind a) at u old mid e before met last)

    pub either-way : (b : Bool) (m n : Check State (Unit {0})) (old new : State) (Q : Type 0) → either b m n old (Gives tt) new → (m old (Gives tt) new → Q) → (n old (Gives tt) new → Q) → Q
    either-way true m n old new Q met f g = f met
    either-way false m n old new Q met f g = g met

    structure : (at : Place) (old new : State) (e : TypedExpr) → IsBefore env old → is_structure passes at old (Gives tt) new → IsLast old.found e → Chosen old new e
    unfolding ◌▷◌
    structure at old new e before (b, mid, asked, met) last =
        let same : mid ≡ old = has-part-leaves IsList at old mid b asked in
        either-way b (is_accessed_as passes Item at) (is_accessed_as passes Key at) old new (Chosen old new e)
        (subst (λ (s : State). either b (is_accessed_as passes Item at) (is_accessed_as passes Key at) s (Gives tt) new) same met)
        (λ m. accessed-as Item at old new e before m last) (λ m. accessed-as Key at old new e before m last)

    text-or-structure : (at : Place) (old new : State) (e : TypedExpr) → IsBefore env old → is_accessed passes true at old (Gives tt) new → IsLast old.found e → Chosen old new e
    unfolding ◌▷◌
    text-or-structure at old new e before (b, mid, asked, met) last =
        let same : mid ≡ old = has-part-leaves IsString at old mid b asked in
        either-way b (is_accessed_as passes Char at) (is_structure passes at) old new (Chosen old new e)
        (subst (λ (s : State). either b (is_accessed_as passes Char at) (is_structure passes at) s (Gives tt) new) same met)
        (λ m. accessed-as Char at old new e before m last) (λ m. structure at old new e before m last)

    access-chosen : AccessIsChosen passes names env
    access-chosen true at old new e before met last = text-or-structure at old new e before met last
    access-chosen false at old new e before met last = structure at old new e before met last

    index-opened : (at : Place) (old new : State) → is_index passes at old (Gives tt) new
        → (i : Access) × IsLast old.accesses i × is_of passes (index_kind i) at old (Gives tt) new
    unfolding ◌▷◌ gives_some
    index-opened at old new (i, mid, (l, same), met) = (i, l, subst (λ (s : State). is_of passes (index_kind i) at s (Gives tt) new) same met)

    index-asked : IndexIsAsked passes names env
    index-asked at old new e a before met access last =
        let (i, l, asked) = index-opened at old new met in
        let one : i ≡ a = last-same old.accesses i a l access in
        let asked' : is_of passes (index_kind a) at old (Gives tt) new = subst (λ (b : Access). is_of passes (index_kind b) at old (Gives tt) new) one asked in
        (is-of-so (index_kind a) at tt old new e before asked' last, is-of-leaves (index_kind a) at old new tt asked')

    pub all-is-asked : AllIsAsked passes names env
    all-is-asked =
        record {
          sorts = sort-decided;
          of_sorts = sort-asked;
          accesses = access-chosen;
          indexes = index-asked;
          kinds = λ kind at old new met. is-of-leaves kind at old new tt met;
          wants = λ at old new met. wanted-leaves at old new tt met;
        }
