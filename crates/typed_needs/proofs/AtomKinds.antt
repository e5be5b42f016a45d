-- An atom by its kind, and that atoms that are there stay.
use Rattle.std.proofs.Common.{◌≡◌, ◌∙◌, ◌++◌, ℕ, List, ◌∷◌, length, Option, Some, None, refl, sym, subst}
use Rattle.std.specs.Prelude.{IsSomeAnd, slice_get}
use Rattle.operations.specs.Structures.{IsListAtom, IsMappingAtom}
use Rattle.type_model.specs.declared.atoms.AtomDef.{AtomDef}
use Rattle.type_model.specs.declared.atoms.AtomDef.TheVariants.{List as ListAtom, Mapping as MappingAtom, Arrow, Error as ErrorAtom, Future as FutureAtom}
use Rattle.type_model.specs.declared.atoms.FieldDef.{FieldDef}
use Rattle.type_model.specs.declared.basic.Ty.{Ty}
use Rattle.typed_needs.specs.Items.{AreFirst}
use Rattle.typed_needs.proofs.Placed.{get-behind, get-in-front}

pick-list : (B : AtomDef → Type 0) (o : Option AtomDef) → IsSomeAnd o B → ((f : _) (r : _) → B (MappingAtom f r) → ⊥) → ((a r : _) (i : _) → B (Arrow a r i) → ⊥)
    → ((t : _) → B (ErrorAtom t) → ⊥) → ((t : _) → B (FutureAtom t) → ⊥) → (fixed : List Ty) × (rest : Option Ty) × (o ≡ Some (ListAtom fixed rest)) × B (ListAtom fixed rest)
pick-list B None h mapping arrow error future = absurd h
pick-list B (Some (ListAtom fixed rest)) h mapping arrow error future = (fixed, rest, refl, h)
pick-list B (Some (MappingAtom f r)) h mapping arrow error future = absurd (mapping f r h)
pick-list B (Some (Arrow a r i)) h mapping arrow error future = absurd (arrow a r i h)
pick-list B (Some (ErrorAtom t)) h mapping arrow error future = absurd (error t h)
pick-list B (Some (FutureAtom t)) h mapping arrow error future = absurd (future t h)

pub list-of : (env : List AtomDef) (a : ℕ) (P : List Ty → Option Ty → Type 0) → IsListAtom env a P
    → (fixed : List Ty) × (rest : Option Ty) × (slice_get env a ≡ Some (ListAtom fixed rest)) × P fixed rest
list-of env a P h = pick-list _ (slice_get env a) h (λ f r k. k) (λ x r i k. k) (λ t k. k) (λ t k. k)

pick-mapping : (B : AtomDef → Type 0) (o : Option AtomDef) → IsSomeAnd o B → ((f : _) (r : _) → B (ListAtom f r) → ⊥) → ((a r : _) (i : _) → B (Arrow a r i) → ⊥)
    → ((t : _) → B (ErrorAtom t) → ⊥) → ((t : _) → B (FutureAtom t) → ⊥) → (fields : List FieldDef) × (rest : Option Ty) × (o ≡ Some (MappingAtom fields rest)) × B (MappingAtom fields rest)
pick-mapping B None h list arrow error future = absurd h
pick-mapping B (Some (MappingAtom fields rest)) h list arrow error future = (fields, rest, refl, h)
pick-mapping B (Some (ListAtom f r)) h list arrow error future = absurd (list f r h)
pick-mapping B (Some (Arrow a r i)) h list arrow error future = absurd (arrow a r i h)
pick-mapping B (Some (ErrorAtom t)) h list arrow error future = absurd (error t h)
pick-mapping B (Some (FutureAtom t)) h list arrow error future = absurd (future t h)

pub mapping-of : (env : List AtomDef) (a : ℕ) (P : List FieldDef → Option Ty → Type 0) → IsMappingAtom env a P
    → (fields : List FieldDef) × (rest : Option Ty) × (slice_get env a ≡ Some (MappingAtom fields rest)) × P fields rest
mapping-of env a P h = pick-mapping _ (slice_get env a) h (λ f r k. k) (λ x r i k. k) (λ t k. k) (λ t k. k)

put-atom : (B : AtomDef → Type 0) (o : Option AtomDef) (def : AtomDef) → o ≡ Some def → B def → IsSomeAnd o B
put-atom B o def e h = subst (λ k. IsSomeAnd k B) (sym e) h

pub as-list : (env : List AtomDef) (a : ℕ) (fixed : List Ty) (rest : Option Ty) (P : List Ty → Option Ty → Type 0) → slice_get env a ≡ Some (ListAtom fixed rest)
    → P fixed rest → IsListAtom env a P
as-list env a fixed rest P e h = put-atom _ (slice_get env a) (ListAtom fixed rest) e h

pub as-mapping : (env : List AtomDef) (a : ℕ) (fields : List FieldDef) (rest : Option Ty) (P : List FieldDef → Option Ty → Type 0) → slice_get env a ≡ Some (MappingAtom fields rest)
    → P fields rest → IsMappingAtom env a P
as-mapping env a fields rest P e h = put-atom _ (slice_get env a) (MappingAtom fields rest) e h

same-option : {A : Type 0} (x y : A) → Some x ≡ Some y → x ≡ y
same-option x y e = let q : x ≡ y = cc in q

-- the definition of a list atom is one
pub one-list : (env : List AtomDef) (a : ℕ) (fixed others : List Ty) (rest more : Option Ty) → slice_get env a ≡ Some (ListAtom fixed rest) → slice_get env a ≡ Some (ListAtom others more)
    → (fixed ≡ others) × (rest ≡ more)
one-list env a fixed others rest more e f =
    let same : ListAtom fixed rest ≡ ListAtom others more = same-option (ListAtom fixed rest) (ListAtom others more) (sym e ∙ f) in
    ((let x : fixed ≡ others = cc in x), (let y : rest ≡ more = cc in y))

pub one-mapping : (env : List AtomDef) (a : ℕ) (fields others : List FieldDef) (rest more : Option Ty) → slice_get env a ≡ Some (MappingAtom fields rest)
    → slice_get env a ≡ Some (MappingAtom others more) → (fields ≡ others) × (rest ≡ more)
one-mapping env a fields others rest more e f =
    let same : MappingAtom fields rest ≡ MappingAtom others more = same-option (MappingAtom fields rest) (MappingAtom others more) (sym e ∙ f) in
    ((let x : fields ≡ others = cc in x), (let y : rest ≡ more = cc in y))

pub later-atom : (env atoms : List AtomDef) (a : ℕ) (def : AtomDef) → AreFirst env atoms → slice_get atoms a ≡ Some def → slice_get env a ≡ Some def
later-atom env atoms a def (more, is) e = subst (λ xs. slice_get xs a ≡ Some def) (sym is) (get-in-front atoms more a def e)

-- one that was added
pub added-atom : (env old : List AtomDef) (def : AtomDef) (behind : List AtomDef) → AreFirst env (old ++ def ∷ behind) → slice_get env (length old) ≡ Some def
added-atom env old def behind first = later-atom env (old ++ def ∷ behind) (length old) def first (get-behind old def behind)
