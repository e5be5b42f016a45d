-- Steps of the proof that membership is decided.
use Rattle.std.proofs.Common.{◌≡◌, ℕ, ◌+◌, ◌<◌, ◌↔◌, ◌⊎◌, ⊎_elim, List, length, get_or, slice_get, IsSomeAnd, false, sym, subst, ◌∙◌, Option, Some, None, MatchOption, Bor, arith}
use Rattle.std.proofs.lemmas.Bool.{false≢true}
use Rattle.std.proofs.lemmas.List.{get_or_default}
use Rattle.bal_base.specs.declared.shape.Shape.{Shape, List as ListOf}
use Rattle.bal_base.specs.declared.shape.Shapes.{Shapes}
use Rattle.bal_base.specs.Shapes.{shapes_list}
use Rattle.type_model.specs.declared.basic.SemType.{SemType, Basic, Atom, Or', And', Not'}
use Rattle.type_model.specs.declared.basic.BasicSet.{BasicSet}
use Rattle.type_model.specs.declared.basic.BasicSet.TheVariants.{Nil as NilOnly, Bool as BoolOne, IntRange, StringOne, StringAll, ListAll, MappingAll, ErrorAll, FunctionAll, FutureAll, Readonly, Never}
use Rattle.type_model.specs.declared.basic.Ty.{Ty}
use Rattle.type_model.specs.declared.atoms.AtomDef.{AtomDef}
use Rattle.type_model.specs.Basic.{InBasic}
use Rattle.type_model.specs.Places.{item_type}
use Rattle.type_model.specs.Membership.{In, Fits, ListFits}
use Rattle.type_model.specs.Elements.{ItemsIn}
use Rattle.type_model.proofs.Same.{both, either, neither, itself}
use Rattle.type_model.proofs.Unfolding.{Fits-List}
use Rattle.subtype_decider.specs.Arguments.{HasAllLists, ArgumentsIn}

-- what is said of a reference to a type that is there
pub by_ref : (T : Option Ty) (r : Option (Bor Ty)) (P : Ty → Type 0) → MatchOption r (T ≡ None) (λ t. T ≡ Some t.now) → IsSomeAnd r (λ t. P t.now) ↔ IsSomeAnd T P
by_ref T (Some t) P e = (λ h. subst (λ o. IsSomeAnd o P) (sym e) h, λ h. subst (λ o. IsSomeAnd o P) e h)
by_ref T None P e = (λ h. absurd h, λ h. subst (λ o. IsSomeAnd o P) e h)

module _ (env : List AtomDef) (fixed : List Ty) (rest : Option Ty) (xs : List Shape) where
  abbrev Item : ℕ → Shape → Type 0
  Item i x = IsSomeAnd (item_type fixed rest i) (λ t. In env x t.sem)

  -- one more item is in the type of its place
  pub items_more : (n : ℕ) (x : Shape) → n < length xs → x ≡ get_or xs n x → Item n x → ((i : ℕ) (d : Shape) → i < n → Item i (get_or xs i d)) → (i : ℕ) (d : Shape) → i < n + 1 → Item i (get_or xs i d)
  items_more n x lt e h all i d l =
      ⊎_elim (λ (m : i < n). all i d m) (λ (m : i ≡ n). subst (λ j. Item j (get_or xs j d)) (sym m) (subst (Item n) (e ∙ get_or_default xs n x d lt) h)) (below_or i n l)
    where
      below_or : (a b : ℕ) → a < b + 1 → (a < b) ⊎ (a ≡ b)
      below_or a b l = grind (arith, l)

module _ (env : List AtomDef) (items : Shapes) where
  basic_lists : (b : BasicSet) → InBasic (ListOf false items) b ↔ HasAllLists b
  basic_lists ListAll = itself
  basic_lists Readonly = (λ h. absurd (false≢true h), λ h. absurd h)
  basic_lists NilOnly = itself
  basic_lists (BoolOne c) = itself
  basic_lists (IntRange low high) = itself
  basic_lists (StringOne t) = itself
  basic_lists StringAll = itself
  basic_lists MappingAll = itself
  basic_lists ErrorAll = itself
  basic_lists FunctionAll = itself
  basic_lists FutureAll = itself
  basic_lists Never = itself

  list_atom : (o : Option AtomDef) → IsSomeAnd o (Fits env (ListOf false items)) ↔ IsSomeAnd o (ListFits (shapes_list items) (ItemsIn env (shapes_list items)))
  list_atom None = itself
  list_atom (Some d) = Fits-List env false items d

  -- arguments as an unmarked list, by their items
  pub In-arguments : (t : SemType) → In env (ListOf false items) t ↔ ArgumentsIn env (shapes_list items) t
  In-arguments (Basic b) = basic_lists b
  In-arguments (Atom a) = list_atom (slice_get env a)
  In-arguments (Or' _ s _ t) = either (In-arguments s) (In-arguments t)
  In-arguments (And' _ s _ t) = both (In-arguments s) (In-arguments t)
  In-arguments (Not' _ t) = neither (In-arguments t)
