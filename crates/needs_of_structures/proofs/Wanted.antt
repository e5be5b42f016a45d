-- What is expected of members, as answers of calls.
use Rattle.std.proofs.Common.{◌≡◌, ◌++◌, ◌∙◌, ℕ, List, [], ◌∷◌, length, All, Option, Some, None, Ok, IfSome, IsSomeAnd, slice_get, refl, sym, subst}
use Rattle.checks.specs.Checks.{Comes}
use Rattle.descriptors.proofs.Yielding.{copy-below}
use Rattle.flow_narrowing.specs.Flows.{IfShared}
use Rattle.operations.specs.Structures.{IsListAtom}
use Rattle.type_model.specs.declared.atoms.AtomDef.{AtomDef}
use Rattle.type_model.specs.declared.atoms.AtomDef.TheVariants.{List as ListAtom, Mapping as MappingAtom, Arrow, Error as ErrorAtom, Future as FutureAtom}
use Rattle.type_model.specs.declared.basic.Ty.{Ty}
use Rattle.type_model.specs.Defined.{DefBelow, IsClosed, TyBelow}
use Rattle.type_model.specs.Places.{item_type}
use Rattle.typed_tree.specs.SharedTypes.{Shared}
use Rattle.made_atoms.proofs.Groups.{all-at}
use Rattle.check_words.specs.Constructors.{IsItemWant, IsWantCopy, expects_item}
use Rattle.check_words.specs.Stands.{Stands}
use Rattle.check_words.specs.State.{ConstructorAtWork, IsLast, State}
use Rattle.check_words.specs.Words.{Atoms}
use Rattle.check_words.proofs.Coming.{given, next}
use Rattle.check_words.proofs.Flowing.{want-put}
use Rattle.check_words.proofs.Same.{are-same}
use Rattle.check_words.proofs.Standing.{also-has, stands-wants}
use Rattle.needs_of_structures.specs.Fitting.{IsItemIn, IsItemOf}

module _ (env : Atoms) (atom place : ℕ) where
  pub item-there : (def : AtomDef) (t : Ty) → slice_get env atom ≡ Some def → IsItemIn def place t → IsItemOf env atom place t
  item-there (ListAtom fixed rest) t e h = rw e h
  item-there (MappingAtom fields rest) t e h = absurd h
  item-there (Arrow args outcome alone) t e h = absurd h
  item-there (ErrorAtom detail) t e h = absurd h
  item-there (FutureAtom outcome) t e h = absurd h

-- ---- lists of an atom

module _ (env : Atoms) (atom : ℕ) (P : List Ty → Option Ty → Type 0) where
  pub of-list : (fixed : List Ty) (rest : Option Ty) → slice_get env atom ≡ Some (ListAtom fixed rest) → P fixed rest → IsListAtom env atom P
  of-list fixed rest e p = rw e p

  pub list-case : (Q : Type 0) → IsListAtom env atom P → ((fixed : List Ty) (rest : Option Ty) → slice_get env atom ≡ Some (ListAtom fixed rest) → P fixed rest → Q) → Q
  list-case Q h f = by (slice_get env atom) refl
    where
      by : (o : Option AtomDef) → slice_get env atom ≡ o → Q
      by None e = absurd (rw e at h)
      by (Some (ListAtom fixed rest)) e = f fixed rest e (rw e at h)
      by (Some (MappingAtom fields rest)) e = absurd (rw e at h)
      by (Some (Arrow args outcome alone)) e = absurd (rw e at h)
      by (Some (ErrorAtom detail)) e = absurd (rw e at h)
      by (Some (FutureAtom outcome)) e = absurd (rw e at h)

module _ (P : Ty → Type 0) where
  rest-has : (rest : Option Ty) (t : Ty) → rest ≡ Some t → IfSome rest P → P t
  rest-has None t e h = absurd (cc)
  rest-has (Some u) t e h = let same : u ≡ t = cc in subst P same h

  item-has : (fixed : List Ty) (rest : Option Ty) (place : ℕ) (t : Ty) → item_type fixed rest place ≡ Some t → All P fixed → IfSome rest P → P t
  item-has fixed rest place t e h k = by (slice_get fixed place) refl
    where
      by : (o : Option Ty) → slice_get fixed place ≡ o → P t
      by None f = rest-has rest t (rw f at e) k
      by (Some u) f = all-at P fixed place t (f ∙ rw f at e) h

-- it is there
pub copied-below : (n : ℕ) (t : Ty) (w : Option Shared) → TyBelow n t → IsWantCopy t w → IfShared (TyBelow n) w
copied-below n t w h (u, is, copy) = subst (IfShared (TyBelow n)) (sym is) (copy-below n t u.value copy h)

module _ (env : Atoms) (c : ConstructorAtWork) where
  -- with the very type at the place
  pub item-want : (atom : ℕ) (t : Ty) (w : Option Shared) → c.choice ≡ Some atom → IsItemOf env atom (length c.types) t → IsWantCopy t w → IsItemWant env c w
  item-want atom t w e h copy =
      rw e
      (list-case env atom (λ fixed rest. item_type fixed rest (length c.types) ≡ Some t) _ h
      (λ fixed rest is at_place. of-list env atom (λ fixed rest. IsSomeAnd (item_type fixed rest (length c.types)) (λ u. IsWantCopy u w)) fixed rest is (rw at_place copy)))

  pub no-want : (w : Option Shared) → c.choice ≡ None → w ≡ None → IsItemWant env c w
  no-want w e is = rw e is

  some-below : (n : ℕ) (fixed : List Ty) (rest : Option Ty) (place : ℕ) (w : Option Shared) → All (TyBelow n) fixed → IfSome rest (TyBelow n)
      → IsSomeAnd (item_type fixed rest place) (λ t. IsWantCopy t w) → IfShared (TyBelow n) w
  some-below n fixed rest place w h k copy = by (item_type fixed rest place) refl
    where
      by : (o : Option Ty) → item_type fixed rest place ≡ o → IfShared (TyBelow n) w
      by None e = absurd (rw e at copy)
      by (Some t) e = copied-below n t w (item-has (TyBelow n) fixed rest place t e h k) (rw e at copy)

  pub item-want-below : (w : Option Shared) → IsClosed env → IsItemWant env c w → IfShared (TyBelow (length env)) w
  item-want-below w closed h = by c.choice refl
    where
      by : (o : Option ℕ) → c.choice ≡ o → IfShared (TyBelow (length env)) w
      by None e = let is : w ≡ None = rw e at h in subst (IfShared (TyBelow (length env))) (sym is) tt
      by (Some atom) e =
          list-case env atom (λ fixed rest. IsSomeAnd (item_type fixed rest (length c.types)) (λ t. IsWantCopy t w)) _ (rw e at h)
          (λ fixed rest is copy. let d = all-at (DefBelow (length env)) env atom (ListAtom fixed rest) is closed in some-below (length env) fixed rest (length c.types) w d.0 d.1 copy)

-- ---- what is wanted

module _ (s : State) (w : Option Shared) (ws : List (Option Shared)) (more : ws ≡ s.wants ++ w ∷ []) where
  pub item-wanted : (c : ConstructorAtWork) → IsLast s.constructors c → IsItemWant s.atoms c w → Comes expects_item s (Ok tt) (record s { wants = ws })
  item-wanted c l h = next _ _ _ _ _ c s (given _ s c l) (next _ _ _ _ _ w s (given _ s w h) (want-put s w w ws (are-same w) more))

  pub wanted-stands : Stands s → IfShared (TyBelow (length s.atoms)) w → Stands (record s { wants = ws })
  wanted-stands h below = let n : ℕ = length s.atoms in
      stands-wants s h ws (subst (All (IfShared (TyBelow n))) (sym more) (also-has (IfShared (TyBelow n)) s.wants w h.wants below))
