-- Definitions of atoms in two runs.
use Rattle.std.proofs.Common.{◌≡◌, ℕ, List, IsSomeAnd, Option, None, Some, slice_get, refl, sym, subst}
use Rattle.std.specs.List.{AllZip}
use Rattle.operations.specs.Structures.{IsListAtom, IsMappingAtom}
use Rattle.type_model.specs.declared.atoms.AtomDef.{AtomDef}
use Rattle.type_model.specs.declared.atoms.AtomDef.TheVariants.{List as ListAtom, Mapping as MappingAtom, Arrow, Error as ErrorAtom, Future as FutureAtom}
use Rattle.type_model.specs.declared.atoms.FieldDef.{FieldDef}
use Rattle.type_model.specs.declared.basic.Ty.{Ty}
use Rattle.check_words.specs.Sharing.{SameOption}
use Rattle.check_words.specs.Words.{Atoms}
use Rattle.check_answers.specs.TwinTypes.{TwinAtoms, TwinDefs, TwinFields, TwinTypes}
use Rattle.check_answers.proofs.Zips.{zip-get}

-- ---- one atom by its kind

pick-list : (B : AtomDef → Type 0) (o : Option AtomDef) → IsSomeAnd o B → ((f : _) (r : _) → B (MappingAtom f r) → ⊥) → ((a r : _) (i : _) → B (Arrow a r i) → ⊥)
    → ((t : _) → B (ErrorAtom t) → ⊥) → ((t : _) → B (FutureAtom t) → ⊥) → (fixed : List Ty) × (rest : Option Ty) × (o ≡ Some (ListAtom fixed rest)) × B (ListAtom fixed rest)
pick-list B None h mapping arrow error future = absurd h
pick-list B (Some (ListAtom fixed rest)) h mapping arrow error future = (fixed, rest, refl, h)
pick-list B (Some (MappingAtom f r)) h mapping arrow error future = absurd (mapping f r h)
pick-list B (Some (Arrow a r i)) h mapping arrow error future = absurd (arrow a r i h)
pick-list B (Some (ErrorAtom t)) h mapping arrow error future = absurd (error t h)
pick-list B (Some (FutureAtom t)) h mapping arrow error future = absurd (future t h)

list-of : (env : Atoms) (a : ℕ) (P : List Ty → Option Ty → Type 0) → IsListAtom env a P
    → (fixed : List Ty) × (rest : Option Ty) × (slice_get env a ≡ Some (ListAtom fixed rest)) × P fixed rest
list-of env a P h = pick-list _ (slice_get env a) h (λ f r k. k) (λ x r i k. k) (λ t k. k) (λ t k. k)

pick-mapping : (B : AtomDef → Type 0) (o : Option AtomDef) → IsSomeAnd o B → ((f : _) (r : _) → B (ListAtom f r) → ⊥) → ((a r : _) (i : _) → B (Arrow a r i) → ⊥)
    → ((t : _) → B (ErrorAtom t) → ⊥) → ((t : _) → B (FutureAtom t) → ⊥) → (fields : List FieldDef) × (rest : Option Ty) × (o ≡ Some (MappingAtom fields rest)) × B (MappingAtom fields rest)
pick-mapping B None h list arrow error future = absurd h
pick-mapping B (Some (MappingAtom fields rest)) h list arrow error future = (fields, rest, refl, h)
pick-mapping B (Some (ListAtom f r)) h list arrow error future = absurd (list f r h)
pick-mapping B (Some (Arrow a r i)) h list arrow error future = absurd (arrow a r i h)
pick-mapping B (Some (ErrorAtom t)) h list arrow error future = absurd (error t h)
pick-mapping B (Some (FutureAtom t)) h list arrow error future = absurd (future t h)

mapping-of : (env : Atoms) (a : ℕ) (P : List FieldDef → Option Ty → Type 0) → IsMappingAtom env a P
    → (fields : List FieldDef) × (rest : Option Ty) × (slice_get env a ≡ Some (MappingAtom fields rest)) × P fields rest
mapping-of env a P h = pick-mapping _ (slice_get env a) h (λ f r k. k) (λ x r i k. k) (λ t k. k) (λ t k. k)

-- an atom that is a list, and one that is a mapping
put-list : (B : AtomDef → Type 0) (o : Option AtomDef) (fixed : List Ty) (rest : Option Ty) → o ≡ Some (ListAtom fixed rest) → B (ListAtom fixed rest) → IsSomeAnd o B
put-list B o fixed rest e h = subst (λ k. IsSomeAnd k B) (sym e) h

put-mapping : (B : AtomDef → Type 0) (o : Option AtomDef) (fields : List FieldDef) (rest : Option Ty) → o ≡ Some (MappingAtom fields rest) → B (MappingAtom fields rest)
    → IsSomeAnd o B
put-mapping B o fields rest e h = subst (λ k. IsSomeAnd k B) (sym e) h

-- ---- in both runs

module _ (m n : Atoms) (twins : TwinAtoms m n) (a : ℕ) where
  other-list : (fixed : List Ty) (rest : Option Ty) (o p : Option AtomDef) → SameOption (TwinDefs m n) o p → o ≡ Some (ListAtom fixed rest)
      → (others : List Ty) × (more : Option Ty) × (p ≡ Some (ListAtom others more)) × AllZip (TwinTypes m n) fixed others × SameOption (TwinTypes m n) rest more
  other-list fixed rest o (Some (ListAtom others more)) h e = let k : TwinDefs m n (ListAtom fixed rest) (ListAtom others more) = subst (λ i. SameOption (TwinDefs m n) i (Some (ListAtom others more))) e h in (others, more, refl, k.0, k.1)
  other-list fixed rest o (Some (MappingAtom f r)) h e = let k : ⊥ = subst (λ i. SameOption (TwinDefs m n) i (Some (MappingAtom f r))) e h in absurd k
  other-list fixed rest o (Some (Arrow x r i)) h e = let k : ⊥ = subst (λ j. SameOption (TwinDefs m n) j (Some (Arrow x r i))) e h in absurd k
  other-list fixed rest o (Some (ErrorAtom t)) h e = let k : ⊥ = subst (λ i. SameOption (TwinDefs m n) i (Some (ErrorAtom t))) e h in absurd k
  other-list fixed rest o (Some (FutureAtom t)) h e = let k : ⊥ = subst (λ i. SameOption (TwinDefs m n) i (Some (FutureAtom t))) e h in absurd k
  other-list fixed rest o None h e = let k : ⊥ = subst (λ i. SameOption (TwinDefs m n) i None) e h in absurd k

  other-mapping : (fields : List FieldDef) (rest : Option Ty) (o p : Option AtomDef) → SameOption (TwinDefs m n) o p → o ≡ Some (MappingAtom fields rest)
      → (others : List FieldDef) × (more : Option Ty) × (p ≡ Some (MappingAtom others more)) × AllZip (TwinFields m n) fields others × SameOption (TwinTypes m n) rest more
  other-mapping fields rest o (Some (MappingAtom others more)) h e = let k : TwinDefs m n (MappingAtom fields rest) (MappingAtom others more) = subst (λ i. SameOption (TwinDefs m n) i (Some (MappingAtom others more))) e h in (others, more, refl, k.0, k.1)
  other-mapping fields rest o (Some (ListAtom f r)) h e = let k : ⊥ = subst (λ i. SameOption (TwinDefs m n) i (Some (ListAtom f r))) e h in absurd k
  other-mapping fields rest o (Some (Arrow x r i)) h e = let k : ⊥ = subst (λ j. SameOption (TwinDefs m n) j (Some (Arrow x r i))) e h in absurd k
  other-mapping fields rest o (Some (ErrorAtom t)) h e = let k : ⊥ = subst (λ i. SameOption (TwinDefs m n) i (Some (ErrorAtom t))) e h in absurd k
  other-mapping fields rest o (Some (FutureAtom t)) h e = let k : ⊥ = subst (λ i. SameOption (TwinDefs m n) i (Some (FutureAtom t))) e h in absurd k
  other-mapping fields rest o None h e = let k : ⊥ = subst (λ i. SameOption (TwinDefs m n) i None) e h in absurd k

  -- what is said of an atom of lists in the one run is said in the other
  pub lists-twin : (P Q : List Ty → Option Ty → Type 0)
      → ((fixed others : List Ty) (rest more : Option Ty) → AllZip (TwinTypes m n) fixed others → SameOption (TwinTypes m n) rest more → P fixed rest → Q others more)
      → IsListAtom m a P → IsListAtom n a Q
  lists-twin P Q f h =
      let (fixed, rest, is, p) = list-of m a P h in
      let (others, more, it, z, r) = other-list fixed rest (slice_get m a) (slice_get n a) (zip-get (TwinDefs m n) m n a twins) is in
      put-list _ (slice_get n a) others more it (f fixed others rest more z r p)

  pub mappings-twin : (P Q : List FieldDef → Option Ty → Type 0)
      → ((fields others : List FieldDef) (rest more : Option Ty) → AllZip (TwinFields m n) fields others → SameOption (TwinTypes m n) rest more → P fields rest → Q others more)
      → IsMappingAtom m a P → IsMappingAtom n a Q
  mappings-twin P Q f h =
      let (fields, rest, is, p) = mapping-of m a P h in
      let (others, more, it, z, r) = other-mapping fields rest (slice_get m a) (slice_get n a) (zip-get (TwinDefs m n) m n a twins) is in
      put-mapping _ (slice_get n a) others more it (f fields others rest more z r p)

  -- what is said of it in both, together
  both-lists : (fixed gs : List Ty) (rest s : Option Ty) (o p : Option AtomDef) → SameOption (TwinDefs m n) o p → o ≡ Some (ListAtom fixed rest) → p ≡ Some (ListAtom gs s)
      → AllZip (TwinTypes m n) fixed gs × SameOption (TwinTypes m n) rest s
  both-lists fixed gs rest s o p h e f =
      let k : TwinDefs m n (ListAtom fixed rest) (ListAtom gs s) = subst (λ i. SameOption (TwinDefs m n) i (Some (ListAtom gs s))) e (subst (SameOption (TwinDefs m n) o) f h) in
      (k.0, k.1)

  both-mappings : (fields gs : List FieldDef) (rest s : Option Ty) (o p : Option AtomDef) → SameOption (TwinDefs m n) o p → o ≡ Some (MappingAtom fields rest)
      → p ≡ Some (MappingAtom gs s) → AllZip (TwinFields m n) fields gs × SameOption (TwinTypes m n) rest s
  both-mappings fields gs rest s o p h e f =
      let k : TwinDefs m n (MappingAtom fields rest) (MappingAtom gs s) = subst (λ i. SameOption (TwinDefs m n) i (Some (MappingAtom gs s))) e (subst (SameOption (TwinDefs m n) o) f h) in
      (k.0, k.1)

  pub with-lists : {X : Type 0} (P Q : List Ty → Option Ty → Type 0) → IsListAtom m a P → IsListAtom n a Q
      → ((fixed others : List Ty) (rest more : Option Ty) → AllZip (TwinTypes m n) fixed others → SameOption (TwinTypes m n) rest more → P fixed rest → Q others more → X) → X
  with-lists P Q h k f =
      let (fixed, rest, is, p) = list-of m a P h in
      let (others, more, it, q) = list-of n a Q k in
      let z = both-lists fixed others rest more (slice_get m a) (slice_get n a) (zip-get (TwinDefs m n) m n a twins) is it in
      f fixed others rest more z.0 z.1 p q

  pub with-mappings : {X : Type 0} (P Q : List FieldDef → Option Ty → Type 0) → IsMappingAtom m a P → IsMappingAtom n a Q
      → ((fields others : List FieldDef) (rest more : Option Ty) → AllZip (TwinFields m n) fields others → SameOption (TwinTypes m n) rest more → P fields rest → Q others more → X) → X
  with-mappings P Q h k f =
      let (fields, rest, is, p) = mapping-of m a P h in
      let (others, more, it, q) = mapping-of n a Q k in
      let z = both-mappings fields others rest more (slice_get m a) (slice_get n a) (zip-get (TwinDefs m n) m n a twins) is it in
      f fields others rest more z.0 z.1 p q
