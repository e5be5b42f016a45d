-- A value is copied, and each mutable structure that it reaches: the copies are good, and fit where the value fits.
use Rattle.std.proofs.Common.{◌≡◌, ◌<◌, ◌+◌, ◌^◌, ◌∙◌, ℕ, zero, suc, Bool, true, false, List, [], ◌∷◌, ◌++◌, Option, Some, None, inl, inr, length, map, refl, sym, ap, subst, arith}
use Rattle.std.proofs.lemmas.Bool.{eqb-true}
use Rattle.std.proofs.lemmas.List.{append-nil, length-append, length-map}
use Rattle.std.proofs.lemmas.List.Elements.{All-append, All-cons, All-filter, All-head, All-nil, All-tail}
use Rattle.std.proofs.lemmas.List.Quantifiers.{position-Some}
use Rattle.std.proofs.lemmas.Option.{slice_get-get_or, slice_get_within}
use Rattle.std.specs.Prelude.{◌⊎◌, ◌==◌, All, IsSomeAnd, IsTrue, filter, filter_map, flat_map, get_or, if◌then◌else◌, not, option_map, position, slice_get}
use Rattle.std.specs.List.{cons_option}
use Rattle.bal_base.specs.declared.text.Text.{Text}
use Rattle.bal_base.specs.declared.shape.Shape.{Shape}
use Rattle.bal_base.specs.Valid.{IsText, IsValid}
use Rattle.type_model.specs.declared.atoms.AtomDef.{AtomDef}
use Rattle.type_model.specs.declared.atoms.AtomDef.TheVariants.{List as ListAtom, Mapping as MappingAtom, Arrow, Error as ErrorAtom, Future as FutureAtom}
use Rattle.type_model.specs.declared.atoms.FieldDef.{FieldDef}
use Rattle.type_model.specs.declared.basic.SemType.{SemType, Atom}
use Rattle.type_model.specs.declared.basic.Ty.{Ty}
use Rattle.type_model.specs.Membership.{In}
use Rattle.type_model.specs.Places.{is_same_text, item_type, key_type}
use Rattle.value_model.specs.declared.value.Value.{Value}
use Rattle.value_model.specs.declared.value.Value.TheVariants.{Nil, Bool as Truth, Int, Str, Struct, Error, Function, Future}
use Rattle.value_model.specs.Heap.{Entries, Grows, Heap, IsThere, Items, Members, Stays, Structure, entry_at, values_of}
use Rattle.value_model.specs.Stands.{Belongs, BelongsIf, IsUnmarked, MembersBelong, StructureStands}
use Rattle.value_model.specs.Valid.{AreValidMembers, IsValidValue}
use Rattle.value_model.specs.World.{World}
use Rattle.op_model.specs.Common.{Common}
use Rattle.op_model.specs.Copies.{copied_members, copied_structure, copied_structures, copied_value, copy_of, mutable_members, mutable_number, mutable_numbers, reached_from, with_copies}
use Rattle.op_model.specs.Effects.{with_world}
use Rattle.op_model.specs.Levels.{distinct, levels}
use Rattle.op_model.specs.Rows.{size_of}
use Rattle.machine_model.proofs.Once.{some-same}
use Rattle.stack_code.specs.declared.code.Code.{Code}
use Rattle.stack_code.specs.Tables.{IsInherent}
use Rattle.stack_code.specs.Values.{AreKeysApart, ComeOnce, Fits, GoodHeap, IsMade, IsWithinAtom, code_types}
use Rattle.code_keeping.proofs.Growing.{IsGrown, IsNewStructure, belongs-there, front-or-behind, get-behind, get-front, later, made-there}
use Rattle.code_keeping.proofs.Lists.{all-at, at-some, of-some, some-there, some-to, there}
use Rattle.code_keeping.proofs.Serving.{all-to}
use Rattle.code_keeping.proofs.Staying.{stays-same}

-- ---- lists

all-distinct : (P : ℕ → Type 0) (xs : List ℕ) → All P xs → All P (distinct xs)
all-distinct P [] h = All-nil P
all-distinct P (x ∷ xs) h = All-cons P x (filter (λ y. not (y == x)) (distinct xs)) (All-head P x xs h) (All-filter (λ y. not (y == x)) P (distinct xs) (all-distinct P xs (All-tail P x xs h)))

all-flat : (P : ℕ → Type 0) (f : ℕ → List ℕ) → ((n : ℕ) → All P (f n)) → (xs : List ℕ) → All P (flat_map f xs)
all-flat P f h [] = All-nil P
all-flat P f h (x ∷ xs) = All-append P (f x) (flat_map f xs) (h x) (all-flat P f h xs)

all-levels : (P : ℕ → Type 0) (f : ℕ → List ℕ) → ((n : ℕ) → All P (f n)) → (roots : List ℕ) → All P roots → (k : ℕ) → All P (levels distinct f roots k)
all-levels P f h roots r zero = All-nil P
all-levels P f h roots r (suc k) = all-distinct P (roots ++ flat_map f (levels distinct f roots k)) (All-append P roots (flat_map f (levels distinct f roots k)) r (all-flat P f h (levels distinct f roots k)))

all-found : {A : Type 0} (P : ℕ → Type 0) (f : A → Option ℕ) → ((x : A) (n : ℕ) → f x ≡ Some n → P n) → (xs : List A) → All P (filter_map f xs)
all-found P f h [] = All-nil P
all-found P f h (x ∷ xs) = by (f x) refl (all-found P f h xs)
  where
    by : (o : Option ℕ) → f x ≡ o → All P (filter_map f xs) → All P (cons_option o (filter_map f xs))
    by (Some n) e more = All-cons P n (filter_map f xs) (h x n e) more
    by None e more = more

from-map : {A B : Type 0} (f : A → B) (xs : List A) (j : ℕ) (y : B) → slice_get (map f xs) j ≡ Some y → (x : A) × (slice_get xs j ≡ Some x) × (f x ≡ y)
from-map f [] j y e = absurd (let q : ⊥ = cc in q)
from-map f (x ∷ xs) zero y e = (x, refl, some-same (f x) y e)
from-map f (x ∷ xs) (suc j) y e = from-map f xs j y e

all-mapped : {A B : Type 0} (P : A → Type 0) (Q : B → Type 0) (f : A → B) → ((x : A) → P x → Q (f x)) → (xs : List A) → All P xs → All Q (map f xs)
all-mapped P Q f h [] k = All-nil Q
all-mapped P Q f h (x ∷ xs) k = All-cons Q (f x) (map f xs) (h x (All-head P x xs k)) (all-mapped P Q f h xs (All-tail P x xs k))

-- ---- what is copied

module _ (h : Heap) where
  abbrev pub IsMutableAt : ℕ → Type 0
  IsMutableAt n = IsSomeAnd (slice_get h.structures n) (λ s. IsTrue s.mutable)

  abbrev number : ℕ → Option Structure → Option ℕ
  number m (Some s) = if s.mutable then Some m else None
  number m None = None

  abbrev numbers : Option Structure → List ℕ
  numbers (Some s) = mutable_numbers h (values_of s.members)
  numbers None = []

  number-mutable : (v : Value) (n : ℕ) → mutable_number h v ≡ Some n → IsMutableAt n
  number-mutable (Struct m) n e = by (slice_get h.structures m) refl e
    where
      at : (s : Structure) → slice_get h.structures m ≡ Some s → (b : Bool) → s.mutable ≡ b → number m (Some s) ≡ Some n → IsMutableAt n
      at s es true em e =
          let same : m ≡ n = some-same m n (sym (ap (λ b. if b then Some m else None) em) ∙ e) in
          subst IsMutableAt same (at-some (λ s. IsTrue s.mutable) (slice_get h.structures m) s es em)
      at s es false em e = absurd (let k : None ≡ Some n = sym (ap (λ b. if b then Some m else None) em) ∙ e in let q : ⊥ = cc in q)

      by : (o : Option Structure) → slice_get h.structures m ≡ o → number m o ≡ Some n → IsMutableAt n
      by (Some s) es e = at s es s.mutable refl e
      by None es e = absurd (let q : ⊥ = cc in q)
  number-mutable Nil n e = absurd (let q : ⊥ = cc in q)
  number-mutable (Truth b) n e = absurd (let q : ⊥ = cc in q)
  number-mutable (Int i) n e = absurd (let q : ⊥ = cc in q)
  number-mutable (Str t) n e = absurd (let q : ⊥ = cc in q)
  number-mutable (Error m) n e = absurd (let q : ⊥ = cc in q)
  number-mutable (Function m) n e = absurd (let q : ⊥ = cc in q)
  number-mutable (Future strand unit) n e = absurd (let q : ⊥ = cc in q)

  numbers-mutable : (vs : List Value) → All IsMutableAt (mutable_numbers h vs)
  numbers-mutable vs = all-found IsMutableAt (mutable_number h) number-mutable vs

  members-mutable : (n : ℕ) → All IsMutableAt (mutable_members h n)
  members-mutable n = by (slice_get h.structures n)
    where
      by : (o : Option Structure) → All IsMutableAt (numbers o)
      by (Some s) = numbers-mutable (values_of s.members)
      by None = All-nil IsMutableAt

pub reached-mutable : (w : World) (v : Value) → All (IsMutableAt w.heap) (reached_from w v)
reached-mutable w v = all-levels (IsMutableAt w.heap) (mutable_members w.heap) (members-mutable w.heap) (mutable_numbers w.heap (v ∷ [])) (numbers-mutable w.heap (v ∷ [])) (length w.heap.structures)

-- ---- the copies, one for each

module _ (first : ℕ) (all : List ℕ) (h : Heap) where
  abbrev copy : Structure → Structure
  copy s = copied_structure first all true s

  abbrev copies : List ℕ → List Structure
  copies ns = filter_map (λ n. option_map copy (slice_get h.structures n)) ns

  record IsCopy (ns : List ℕ) (j : ℕ) (x : Structure) : Type 0 where
    number : ℕ
    at : slice_get ns j ≡ Some number
    old : Structure
    there : slice_get h.structures number ≡ Some old
    mutable : IsTrue old.mutable
    is : copy old ≡ x

  copy-at : (ns : List ℕ) → All (IsMutableAt h) ns → (j : ℕ) (x : Structure) → slice_get (copies ns) j ≡ Some x → IsCopy ns j x
  copy-at [] ok j x e = absurd (let q : ⊥ = cc in q)
  copy-at (n ∷ ns) ok j x e =
      let (s, es, mutable) = some-there (λ s. IsTrue s.mutable) (slice_get h.structures n) (All-head (IsMutableAt h) n ns ok) in
      by s es mutable j (subst (λ o. slice_get (cons_option (option_map copy o) (copies ns)) j ≡ Some x) es e) (λ j e. copy-at ns (All-tail (IsMutableAt h) n ns ok) j x e)
    where
      by : (s : Structure) → slice_get h.structures n ≡ Some s → IsTrue s.mutable → (j : ℕ) → slice_get (copy s ∷ copies ns) j ≡ Some x → ((j : ℕ) → slice_get (copies ns) j ≡ Some x → IsCopy ns j x) → IsCopy (n ∷ ns) j x
      by s es mutable zero e more = record { number = n; at = refl; old = s; there = es; mutable = mutable; is = some-same (copy s) x e }
      by s es mutable (suc j) e more =
          let k = more j e in
          record { number = k.number; at = k.at; old = k.old; there = k.there; mutable = k.mutable; is = k.is }

  -- each that is copied has its copy
  copy-there : (ns : List ℕ) → All (IsMutableAt h) ns → (j n : ℕ) → slice_get ns j ≡ Some n → (s : Structure) × (slice_get h.structures n ≡ Some s) × IsTrue s.mutable × (slice_get (copies ns) j ≡ Some (copy s))
  copy-there [] ok j n e = absurd (let q : ⊥ = cc in q)
  copy-there (m ∷ ns) ok j n e =
      let (s, es, mutable) = some-there (λ s. IsTrue s.mutable) (slice_get h.structures m) (All-head (IsMutableAt h) m ns ok) in
      by s es mutable j e (λ j e. copy-there ns (All-tail (IsMutableAt h) m ns ok) j n e)
    where
      by : (s : Structure) → slice_get h.structures m ≡ Some s → IsTrue s.mutable → (j : ℕ) → slice_get (m ∷ ns) j ≡ Some n →
          ((j : ℕ) → slice_get ns j ≡ Some n → (s : Structure) × (slice_get h.structures n ≡ Some s) × IsTrue s.mutable × (slice_get (copies ns) j ≡ Some (copy s))) →
          (s : Structure) × (slice_get h.structures n ≡ Some s) × IsTrue s.mutable × (slice_get (cons_option (option_map copy (slice_get h.structures m)) (copies ns)) j ≡ Some (copy s))
      by s es mutable zero e more = (s, ap (λ k. slice_get h.structures k) (sym (some-same m n e)) ∙ es, mutable, ap (λ o. slice_get (cons_option (option_map copy o) (copies ns)) 0) es)
      by s es mutable (suc j) e more =
          let (t, et, mt, at) = more j e in
          (t, et, mt, ap (λ o. slice_get (cons_option (option_map copy o) (copies ns)) (suc j)) es ∙ at)

-- ---- a heap with copies

module _ (code : Code) (c : Common) (good : GoodHeap code c) (root : Value) where
  abbrev heap : Heap
  heap = c.world.heap

  abbrev first : ℕ
  first = length heap.structures

  abbrev ns : List ℕ
  ns = reached_from c.world root

  abbrev more : List Structure
  more = copied_structures first ns true heap

  abbrev pub world-then : World
  world-then = with_copies true c.world root

  abbrev pub d : Common
  d = with_world c world-then

  mutable : All (IsMutableAt heap) ns
  mutable = reached-mutable c.world root

  pub grows : Grows heap world-then.heap
  grows =
      record {
        structures = λ n s e. at-some (Stays s) (slice_get (heap.structures ++ more) n) s (get-front heap.structures more n s e) (stays-same s);
        errors = ([], sym (append-nil heap.errors));
        functions = ([], sym (append-nil heap.functions));
      }

  abbrev pub copied : Value → Value
  copied v = copied_value first ns v

  abbrev copy-number : ℕ → Option ℕ → ℕ
  copy-number n (Some k) = first + k
  copy-number n None = n

  -- where a structure's copy is, if it is copied
  record HasCopy (n k : ℕ) : Type 0 where
    old : Structure
    there : slice_get heap.structures n ≡ Some old
    mutable : IsTrue old.mutable
    copy : slice_get world-then.heap.structures (first + k) ≡ Some (copied_structure first ns true old)
    short : k < length more

  has-copy : (n k : ℕ) → position (λ m. m == n) ns ≡ Some k → HasCopy n k
  has-copy n k e =
      let (lt, same, before) = position-Some (λ m. m == n) ns k 0 e in
      let at : slice_get ns k ≡ Some n = slice_get-get_or ns k 0 lt ∙ ap (λ m. Some m) (eqb-true (get_or ns k 0) n same) in
      let (s, es, is, copy) = copy-there first ns heap ns mutable k n at in
      record { old = s; there = es; mutable = is; copy = get-behind heap.structures more k (copied_structure first ns true s) copy; short = slice_get_within more k (copied_structure first ns true s) copy }

  -- what is copied is made there
  copied-made : (v : Value) → IsMade code c v → IsMade code d (copied v)
  copied-made (Struct n) (lt, valid, strand) = by (position (λ m. m == n) ns) refl
    where
      by : (o : Option ℕ) → position (λ m. m == n) ns ≡ o → IsMade code d (Struct (copy-number n o))
      by (Some k) e = let l = (has-copy n k e).short in let long = length-append heap.structures more in (omega (arith, l, long), tt, tt)
      by None e = made-there code c world-then good grows (Struct n) (lt, valid, strand)
  copied-made Nil m = made-there code c world-then good grows Nil m
  copied-made (Truth b) m = made-there code c world-then good grows (Truth b) m
  copied-made (Int i) m = made-there code c world-then good grows (Int i) m
  copied-made (Str t) m = made-there code c world-then good grows (Str t) m
  copied-made (Error n) m = made-there code c world-then good grows (Error n) m
  copied-made (Function n) m = made-there code c world-then good grows (Function n) m
  copied-made (Future strand unit) m = made-there code c world-then good grows (Future strand unit) m

  -- and belongs where it did: a copy has the inherent type of what it is a copy of
  copied-belongs : (v : Value) (t : SemType) → IsThere heap v → Belongs (code_types code) heap v t → Belongs (code_types code) world-then.heap (copied v) t
  copied-belongs (Struct n) t lt b = by (position (λ m. m == n) ns) refl
    where
      by : (o : Option ℕ) → position (λ m. m == n) ns ≡ o → Belongs (code_types code) world-then.heap (Struct (copy-number n o)) t
      by None e = belongs-there code c world-then good grows (Struct n) t lt b
      by (Some k) e = λ x valid stands.
          let has = has-copy n k e in
          let own : IsUnmarked x × IsSomeAnd has.old.atom (λ a. In code.atoms x (Atom a)) =
          of-some (λ y. StructureStands (code_types code) world-then.heap y.mutable y.atom (first + k) x) (slice_get world-then.heap.structures (first + k)) (copied_structure first ns true has.old) has.copy stands in
          b x valid (at-some (λ y. StructureStands (code_types code) heap y.mutable y.atom n x) (slice_get heap.structures n) has.old has.there
          (subst (λ m. StructureStands (code_types code) heap m has.old.atom n x) (sym has.mutable) own))
  copied-belongs Nil t m b = belongs-there code c world-then good grows Nil t m b
  copied-belongs (Truth z) t m b = belongs-there code c world-then good grows (Truth z) t m b
  copied-belongs (Int i) t m b = belongs-there code c world-then good grows (Int i) t m b
  copied-belongs (Str s) t m b = belongs-there code c world-then good grows (Str s) t m b
  copied-belongs (Error n) t m b = belongs-there code c world-then good grows (Error n) t m b
  copied-belongs (Function n) t m b = belongs-there code c world-then good grows (Function n) t m b
  copied-belongs (Future strand unit) t m b = belongs-there code c world-then good grows (Future strand unit) t m b

  copied-if : (v : Value) (t : Option Ty) → IsThere heap v → BelongsIf (code_types code) heap v t → BelongsIf (code_types code) world-then.heap (copied v) t
  copied-if v t lt b = some-to (λ u. Belongs (code_types code) heap v u.sem) (λ u. Belongs (code_types code) world-then.heap (copied v) u.sem) t (λ u k. copied-belongs v u.sem lt k) b

  -- ---- members

  abbrev copied-entry : Text × Value → Text × Value
  copied-entry e = (e.0, copied e.1)

  entry-still : (es : List (Text × Value)) (key : Text) → IsSomeAnd (entry_at es key) (λ w. Unit {0}) → IsSomeAnd (entry_at (map copied-entry es) key) (λ w. Unit {0})
  entry-still [] key h = absurd h
  entry-still (e ∷ es) key h = by (is_same_text e.0 key) h (entry-still es key)
    where
      by : (b : Bool) → IsSomeAnd (if b then Some e.1 else entry_at es key) (λ w. Unit {0}) → (IsSomeAnd (entry_at es key) (λ w. Unit {0}) → IsSomeAnd (entry_at (map copied-entry es) key) (λ w. Unit {0})) → IsSomeAnd (if b then Some (copied e.1) else entry_at (map copied-entry es) key) (λ w. Unit {0})
      by true h rest = tt
      by false h rest = rest h

  entries-there : (es : List (Text × Value)) → All (IsThere heap) (map (λ e. e.1) es) → All (λ e. IsThere heap e.1) es
  entries-there [] h = All-nil _
  entries-there (e ∷ es) h = All-cons (λ (e : Text × Value). IsThere heap e.1) e es (All-head (IsThere heap) e.1 (map (λ e. e.1) es) h) (entries-there es (All-tail (IsThere heap) e.1 (map (λ e. e.1) es) h))

  entries-belong : (fields : List FieldDef) (rest : Option Ty) (es : List (Text × Value)) → All (λ e. IsThere heap e.1) es → All (λ e. BelongsIf (code_types code) heap e.1 (key_type fields rest e.0)) es →
      All (λ e. BelongsIf (code_types code) world-then.heap e.1 (key_type fields rest e.0)) (map copied-entry es)
  entries-belong fields rest [] there h = All-nil _
  entries-belong fields rest (e ∷ es) there h =
      All-cons (λ (e : Text × Value). BelongsIf (code_types code) world-then.heap e.1 (key_type fields rest e.0)) (copied-entry e) (map copied-entry es)
      (copied-if e.1 (key_type fields rest e.0) (All-head (λ (e : Text × Value). IsThere heap e.1) e es there) (All-head (λ (e : Text × Value). BelongsIf (code_types code) heap e.1 (key_type fields rest e.0)) e es h))
      (entries-belong fields rest es (All-tail (λ (e : Text × Value). IsThere heap e.1) e es there) (All-tail (λ (e : Text × Value). BelongsIf (code_types code) heap e.1 (key_type fields rest e.0)) e es h))

  members-belong : (m : Members) (a : AtomDef) → All (IsThere heap) (values_of m) → MembersBelong (code_types code) heap m a → MembersBelong (code_types code) world-then.heap (copied_members first ns m) a
  members-belong (Items vs) (ListAtom fixed rest) there (long, each) = (
    (let l = length-map vs copied in omega (arith, l, long)),
    λ i y e.
        let (v, ev, is) = from-map copied vs i y e in
        subst (λ z. BelongsIf (code_types code) world-then.heap z (item_type fixed rest i)) is (copied-if v (item_type fixed rest i) (all-at (IsThere heap) vs i v there ev) (each i v ev)),
  )
  members-belong (Entries es) (MappingAtom fields rest) there (named, each) = (
    all-to (λ f. IsTrue f.optional ⊎ IsSomeAnd (entry_at es f.name) (λ w. Unit {0})) (λ f. IsTrue f.optional ⊎ IsSomeAnd (entry_at (map copied-entry es) f.name) (λ w. Unit {0})) named-still fields named,
    entries-belong fields rest es (entries-there es there) each,
  )
    where
      named-still : (f : FieldDef) → IsTrue f.optional ⊎ IsSomeAnd (entry_at es f.name) (λ w. Unit {0}) → IsTrue f.optional ⊎ IsSomeAnd (entry_at (map copied-entry es) f.name) (λ w. Unit {0})
      named-still f (inl h) = inl h
      named-still f (inr h) = inr (entry-still es f.name h)
  members-belong (Items vs) (MappingAtom fields rest) there b = absurd b
  members-belong (Items vs) (Arrow args outcome alone) there b = absurd b
  members-belong (Items vs) (ErrorAtom t) there b = absurd b
  members-belong (Items vs) (FutureAtom t) there b = absurd b
  members-belong (Entries es) (ListAtom fixed rest) there b = absurd b
  members-belong (Entries es) (Arrow args outcome alone) there b = absurd b
  members-belong (Entries es) (ErrorAtom t) there b = absurd b
  members-belong (Entries es) (FutureAtom t) there b = absurd b

  members-made : (m : Members) → All (IsMade code c) (values_of m) → All (IsMade code d) (values_of (copied_members first ns m))
  members-made (Items vs) h = all-mapped (IsMade code c) (IsMade code d) copied copied-made vs h
  members-made (Entries es) h = by es h
    where
      by : (es : List (Text × Value)) → All (IsMade code c) (map (λ e. e.1) es) → All (IsMade code d) (map (λ e. e.1) (map copied-entry es))
      by [] h = All-nil _
      by (e ∷ es) h =
          All-cons (IsMade code d) (copied e.1) (map (λ e. e.1) (map copied-entry es)) (copied-made e.1 (All-head (IsMade code c) e.1 (map (λ e. e.1) es) h)) (by es (All-tail (IsMade code c) e.1 (map (λ e. e.1) es) h))

  copied-valid : (v : Value) → IsValidValue v → IsValidValue (copied v)
  copied-valid (Struct n) h = tt
  copied-valid Nil h = h
  copied-valid (Truth b) h = h
  copied-valid (Int i) h = h
  copied-valid (Str t) h = h
  copied-valid (Error n) h = h
  copied-valid (Function n) h = h
  copied-valid (Future strand unit) h = h

  members-valid : (m : Members) → AreValidMembers m → AreValidMembers (copied_members first ns m)
  members-valid (Items vs) h = all-mapped IsValidValue IsValidValue copied copied-valid vs h
  members-valid (Entries es) h = all-mapped (λ e. IsText e.0 × IsValidValue e.1) (λ e. IsText e.0 × IsValidValue e.1) copied-entry (λ e k. (k.0, copied-valid e.1 k.1)) es h

  none-still : (es : List (Text × Value)) (key : Text) → entry_at es key ≡ None → entry_at (map copied-entry es) key ≡ None
  none-still [] key e = refl
  none-still (x ∷ es) key e = by (is_same_text x.0 key) e (λ e. none-still es key e)
    where
      by : (b : Bool) → (if b then Some x.1 else entry_at es key) ≡ None → (entry_at es key ≡ None → entry_at (map copied-entry es) key ≡ None) → (if b then Some (copied x.1) else entry_at (map copied-entry es) key) ≡ None
      by true e more = absurd (let q : ⊥ = cc in q)
      by false e more = more e

  once-still : (es : List (Text × Value)) → ComeOnce es → ComeOnce (map copied-entry es)
  once-still [] h = tt
  once-still (e ∷ es) (none, h) = (none-still es e.0 none, once-still es h)

  members-apart : (m : Members) → AreKeysApart m → AreKeysApart (copied_members first ns m)
  members-apart (Items vs) h = tt
  members-apart (Entries es) h = once-still es h

  as-many : (m : Members) → size_of (copied_members first ns m) ≡ size_of m
  as-many (Items vs) = length-map vs copied
  as-many (Entries es) = length-map es copied-entry

  -- ---- the whole

  copy-new : (s : Structure) (n k : ℕ) → slice_get heap.structures n ≡ Some s → IsTrue s.mutable → IsNewStructure code c world-then good grows k (copied_structure first ns true s)
  copy-new s n k e is =
      record {
        mutable = λ m. some-to (λ a. IsInherent code a × ((x : Shape) × IsValid x × IsUnmarked x × In code.atoms x (Atom a)) × IsSomeAnd (slice_get code.atoms a) (MembersBelong (code_types code) heap s.members))
            (λ a. IsInherent code a × ((x : Shape) × IsValid x × IsUnmarked x × In code.atoms x (Atom a)) × IsSomeAnd (slice_get code.atoms a) (MembersBelong (code_types code) world-then.heap (copied_members first ns s.members))) s.atom
            (λ a (known, shape, belong). (
              known,
              shape,
              some-to (MembersBelong (code_types code) heap s.members) (MembersBelong (code_types code) world-then.heap (copied_members first ns s.members)) (slice_get code.atoms a)
                  (λ x m. members-belong s.members x members-there m) belong,
            ))
            (all-at (IsWithinAtom code c) heap.structures n s good.mutable e is);
        frozen = λ f. absurd (let q : ⊥ = cc in q);
        made = members-made s.members (all-at (λ s. All (IsMade code c) (values_of s.members)) heap.structures n s good.members e);
        valid = members-valid s.members (all-at (λ s. AreValidMembers s.members) heap.structures n s good.valid.members e);
        short = subst (λ n. n < 2 ^ 63) (sym (as-many s.members)) (all-at (λ s. size_of s.members < 2 ^ 63) heap.structures n s good.short e);
        apart = members-apart s.members (all-at (λ s. AreKeysApart s.members) heap.structures n s good.apart e);
      }
    where
      members-there : All (IsThere heap) (values_of s.members)
      members-there = all-at (λ s. All (IsThere heap) (values_of s.members)) heap.structures n s good.closed.members e

  pub grown : IsGrown code c world-then good grows
  grown = record { structures = λ k x ex. by k x (front-or-behind heap.structures more k x ex); errors = λ k x ex. inl ex; functions = λ k x ex. inl ex }
    where
      by : (k : ℕ) (x : Structure) → (slice_get heap.structures k ≡ Some x) ⊎ ((j : ℕ) × (k ≡ first + j) × (slice_get more j ≡ Some x)) → (slice_get heap.structures k ≡ Some x) ⊎ IsNewStructure code c world-then good grows k x
      by k x (inl e) = inl e
      by k x (inr (j, at, e)) =
          let is = copy-at first ns heap ns mutable j x e in
          inr (subst (λ z. IsNewStructure code c world-then good grows k z) is.is (copy-new is.old is.number k is.there is.mutable))

  -- the copy fits where the value does
  pub copy-fits : (t : SemType) → Fits code c root t → Fits code d (copy_of c.world root) t
  copy-fits t (closed, made, belongs) = ((later code c world-then good grows grown None).closed closed, copied-made root made, copied-belongs root t made.0 belongs)
