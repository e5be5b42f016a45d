-- Calls of the library that read members, and that make lists of items of a list.
use Rattle.std.proofs.Common.{◌≡◌, ◌<◌, ◌-◌, ◌+◌, ◌^◌, ℕ, ℤ, pos, zero, suc, List, [], ◌∷◌, Option, Some, None, inl, inr, refl, subst, arith}
use Rattle.std.proofs.lemmas.List.{reverse-append}
use Rattle.std.specs.Prelude.{◌⊎◌, All, drop, length, nat_abs, reverse, slice_get, take}
use Rattle.bal_base.specs.declared.text.Text.{Text}
use Rattle.type_model.specs.declared.basic.SemType.{SemType}
use Rattle.operations.specs.declared.library.LibraryCall.{LibraryCall}
use Rattle.operations.specs.declared.library.LibraryCall.TheVariants.{Get, Reverse, Slice}
use Rattle.operations.specs.Kinds.{IsInteger, IsList}
use Rattle.operations.specs.LibraryTyping.{AtIndexes, AtKeys, MakesList}
use Rattle.operations.specs.Rows.{IsWithin, OneAndMore, ResultHas, Surroundings, Three, Two}
use Rattle.value_model.specs.declared.filler.Filler.{Filler}
use Rattle.value_model.specs.declared.panics.PanicName.TheVariants.{IndexOutOfRange, KeyNotFound}
use Rattle.value_model.specs.declared.value.Value.{Value}
use Rattle.value_model.specs.declared.value.Value.TheVariants.{Int, Str, Struct}
use Rattle.value_model.specs.Heap.{Entries, Items, Structure, entry_at, values_of}
use Rattle.op_model.specs.Common.{Caller, Common}
use Rattle.op_model.specs.Library.{Slices}
use Rattle.op_model.specs.Rows.{GivesList, found, gives, panics, size_of}
use Rattle.op_model.specs.Strings.{AreBounds, part_of}
use Rattle.machine_model.specs.Runs.{Running}
use Rattle.stack_code.specs.declared.code.Code.{Code}
use Rattle.stack_code.specs.Good.{GoodCommon}
use Rattle.stack_code.specs.Tables.{IsInherent}
use Rattle.stack_code.specs.Values.{Fits, IsMade}
use Rattle.stack_code.specs.WellTyped.{WellTyped}
use Rattle.code_keeping.specs.Kinds.{Ints, Lists, Mappings, Strings}
use Rattle.code_keeping.proofs.Coming.{Does, IsTyped, does-else, does-unless, gives-typed, panics-typed}
use Rattle.code_keeping.proofs.Growing.{front-or-behind}
use Rattle.code_keeping.proofs.Lists.{all-at}
use Rattle.code_keeping.proofs.OfKind.{of-kind}
use Rattle.code_keeping.proofs.Operands.{a-string, an-int, integers, lists, mappings, one-fit, strings, three-fit, two-fit}
use Rattle.code_keeping_heap.proofs.Keyed.{at-mapping}
use Rattle.code_keeping_heap.proofs.Mapped.{a-mapping, entries-made, entry-all, in-mapping}
use Rattle.code_keeping_heap.proofs.Making.{one-there}
use Rattle.code_keeping_heap.proofs.Reading.{a-list, at-list, in-whole}
use Rattle.code_keeping_library.specs.Laws.{MembersAreGiven}
use Rattle.code_keeping_library.proofs.Calls.{Answered, does-call-at}
use Rattle.code_keeping_library.proofs.Lists.{Row, gives-list, of-row}

-- ---- items of parts of lists

abbrev IsAmong : {A : Type 0} → List A → A → Type 0
IsAmong xs x = (k : ℕ) × (slice_get xs k ≡ Some x)

of-rest : {A : Type 0} (x y : A) (xs : List A) → IsAmong xs y → IsAmong (x ∷ xs) y
of-rest x y xs (k, e) = (suc k, e)

from-take : {A : Type 0} (n : ℕ) (xs : List A) (i : ℕ) (x : A) → slice_get (take n xs) i ≡ Some x → IsAmong xs x
from-take zero xs i x e = absurd (let q : ⊥ = cc in q)
from-take (suc n) [] i x e = absurd (let q : ⊥ = cc in q)
from-take (suc n) (y ∷ xs) zero x e = (0, e)
from-take (suc n) (y ∷ xs) (suc i) x e = of-rest y x xs (from-take n xs i x e)

from-drop : {A : Type 0} (n : ℕ) (xs : List A) (x : A) → IsAmong (drop n xs) x → IsAmong xs x
from-drop zero xs x h = h
from-drop (suc n) [] x h = h
from-drop (suc n) (y ∷ xs) x h = of-rest y x xs (from-drop n xs x h)

from-part : {A : Type 0} (m n : ℕ) (xs : List A) (i : ℕ) (x : A) → slice_get (part_of m n xs) i ≡ Some x → IsAmong xs x
from-part m n xs i x e = from-drop m xs x (from-take (n - m) (drop m xs) i x e)

from-reverse : {A : Type 0} (xs : List A) (i : ℕ) (x : A) → slice_get (reverse xs) i ≡ Some x → IsAmong xs x
from-reverse [] i x e = absurd (let q : ⊥ = cc in q)
from-reverse (y ∷ xs) i x e = by (front-or-behind (reverse xs) (y ∷ []) i x (subst (λ l. slice_get l i ≡ Some x) (reverse-append (y ∷ []) xs) e)) (λ is. from-reverse xs i x is)
  where
    by : (slice_get (reverse xs) i ≡ Some x) ⊎ ((m : ℕ) × (i ≡ length (reverse xs) + m) × (slice_get (y ∷ []) m ≡ Some x)) → (slice_get (reverse xs) i ≡ Some x → IsAmong xs x) → IsAmong (y ∷ xs) x
    by (inl is) more = of-rest y x xs (more is)
    by (inr (m, at, is)) more = (0, let e : y ≡ x = one-there y m x is in let q : Some y ≡ Some x = cc in q)

-- ---- operands that are told twice

both-of-two : (operands : List SemType) (P : SemType → SemType → Type 0) (Q : SemType → List SemType → Type 0) → Two operands P → OneAndMore operands Q → Two operands (λ a b. P a b × Q a (b ∷ []))
both-of-two [] P Q h k = absurd h
both-of-two (a ∷ []) P Q h k = absurd h
both-of-two (a ∷ b ∷ []) P Q h k = (h, k)
both-of-two (a ∷ b ∷ d ∷ more) P Q h k = absurd h

both-of-three : (operands : List SemType) (P : SemType → SemType → SemType → Type 0) (Q : SemType → List SemType → Type 0) → Three operands P → OneAndMore operands Q → Three operands (λ a b d. P a b d × Q a (b ∷ d ∷ []))
both-of-three [] P Q h k = absurd h
both-of-three (a ∷ []) P Q h k = absurd h
both-of-three (a ∷ b ∷ []) P Q h k = absurd h
both-of-three (a ∷ b ∷ d ∷ []) P Q h k = (h, k)
both-of-three (a ∷ b ∷ d ∷ e ∷ more) P Q h k = absurd h

-- ---- what stands in a structure

module _ (code : Code) (t : WellTyped code) (c : Common) (good : GoodCommon code c Running) where
  module _ (n : ℕ) (s : Structure) (vs : List Value) (e : slice_get c.world.heap.structures n ≡ Some s) (is : s.members ≡ Items vs) (a : SemType) (fits : Fits code c (Struct n) a) where
    few : length vs < 2 ^ 63
    few = subst (λ m. size_of m < 2 ^ 63) is (all-at (λ s. size_of s.members < 2 ^ 63) c.world.heap.structures n s good.nearly.heap.short e)

    made : (k : ℕ) (v : Value) → slice_get vs k ≡ Some v → IsMade code c v
    made k v ev = all-at (IsMade code c) vs k v (subst (λ m. All (IsMade code c) (values_of m)) is (all-at (λ s. All (IsMade code c) (values_of s.members)) c.world.heap.structures n s good.nearly.heap.members e)) ev

    -- each item fits what may stand in the list
    pub item-fits : (v : Value) → IsAmong vs v → (r : SemType) → ResultHas code.atoms (Some r) (AtIndexes code.atoms a) → Fits code c v r
    item-fits v (k, ev) r has = (good.nearly.heap.closed, made k v ev, (λ x ok stands. let (w, valid, inside, at, any) = in-whole code t c good.nearly.heap n s vs e is few k v ev x ok stands a fits in has x ok (w, (valid, inside), any)))

  module _ (result : Option SemType) (n : ℕ) (s : Structure) (es : List (Text × Value)) (e : slice_get c.world.heap.structures n ≡ Some s) (is : s.members ≡ Entries es) (a : SemType) (fits : Fits code c (Struct n) a) where
    small : length es < 2 ^ 63
    small = subst (λ m. size_of m < 2 ^ 63) is (all-at (λ s. size_of s.members < 2 ^ 63) c.world.heap.structures n s good.nearly.heap.short e)

    -- and so does each value of a mapping
    pub value-typed : (key : Text) (v : Value) → entry_at es key ≡ Some v → ResultHas code.atoms result (AtKeys code.atoms a) → IsTyped code c good result (gives c.world v)
    value-typed key v ev has =
        gives-typed code c good result v (AtKeys code.atoms a) has (entry-all (λ e. IsMade code c e.1) es key v (entries-made code t c good.nearly.heap n s es e is small) ev)
        (λ x ok stands. let (w, valid, inside, at, any) = in-mapping code t c good.nearly.heap n s es e is small key v ev x ok stands a fits in (w, (valid, inside), any))

    found-typed : (key : Text) → ResultHas code.atoms result (AtKeys code.atoms a) → IsTyped code c good result (found c.world KeyNotFound (entry_at es key))
    found-typed key has = by (entry_at es key) refl
      where
        by : (o : Option Value) → entry_at es key ≡ o → IsTyped code c good result (found c.world KeyNotFound o)
        by (Some v) ev = value-typed key v ev has
        by None ev = panics-typed code c good result KeyNotFound refl

-- ---- rows

module _ (fillers : ℕ → List Filler) (code : Code) (t : WellTyped code) (place : Surroundings) (c : Common) where
  pub get : Row fillers code t place c Get
  get atom count names operands result vs caller good (long, typed) fit =
      two-fit code c (Answered fillers code t place c Get atom count caller result) operands vs _ typed fit
      (λ a b v w (first, second, (none, has)) f g.
      a-mapping c.world.heap (λ z. Fits code c z a → Answered fillers code t place c Get atom count caller result (z ∷ w ∷ [])) v (of-kind code t c good.nearly.heap (λ k. k ≡ Mappings) v a f (λ x h. mappings x (first x h)))
      (λ n s es e is fn.
      a-string c.world.heap (λ z. Answered fillers code t place c Get atom count caller result (Struct n ∷ z ∷ [])) w (of-kind code t c good.nearly.heap (λ k. k ≡ Strings) w b g (λ x h. strings x (second x h)))
      (λ key. does-call-at fillers code t place c good result Get atom count caller (Struct n ∷ Str key ∷ [])
      (at-mapping code t c good result n s es e is (λ s es came. came ≡ found c.world KeyNotFound (entry_at es key))
      (does-else code c good result (found c.world KeyNotFound (entry_at es key)) (found-typed code t c good result n s es e is a fn key has))))) f)

  abbrev Listed : LibraryCall → ℕ → ℕ → Caller → Option SemType → List Value → Type 0
  Listed call m count caller result vs = Answered fillers code t place c call (Some m) count caller result vs

  -- a part of a list
  does-slice : (good : GoodCommon code c Running) (result : Option SemType) (m : ℕ) → IsInherent code m → (n : ℕ) (s : Structure) (items : List Value) → slice_get c.world.heap.structures n ≡ Some s → s.members ≡ Items items → (a : SemType) → Fits code c (Struct n) a →
      MakesList code.atoms (Some m) (AtIndexes code.atoms a) result → (i j : ℤ) → Does code c good result (Slices c.world m items i j)
  does-slice good result m known n s items e is a fits (is-list, has) i j =
      does-unless code c good result (AreBounds i j (length items)) (panics c.world IndexOutOfRange) (GivesList c.world m (part_of (nat_abs i) (nat_abs j) items)) (panics-typed code c good result IndexOutOfRange refl)
      (λ bounds. gives-list code t c good result m (AtIndexes code.atoms a) known is-list has (part_of (nat_abs i) (nat_abs j) items)
      (λ r within k v ev. item-fits code t c good n s items e is a fits v (from-part (nat_abs i) (nat_abs j) items k v ev) r within))

  slice-so : (good : GoodCommon code c Running) (result : Option SemType) (m count : ℕ) (caller : Caller) → IsInherent code m → (v w : Value) (a b : SemType) → Fits code c v a → Fits code c w b → IsWithin code.atoms IsList a → IsWithin code.atoms IsInteger b →
      MakesList code.atoms (Some m) (AtIndexes code.atoms a) result → Listed Slice m count caller result (v ∷ w ∷ [])
  slice-so good result m count caller known v w a b f g first second makes =
      a-list c.world.heap (λ z. Fits code c z a → Listed Slice m count caller result (z ∷ w ∷ [])) v (of-kind code t c good.nearly.heap (λ k. k ≡ Lists) v a f (λ x h. lists x (first x h)))
      (λ n s items e is fn.
      an-int c.world.heap (λ z. Listed Slice m count caller result (Struct n ∷ z ∷ [])) w (of-kind code t c good.nearly.heap (λ k. k ≡ Ints) w b g (λ x h. integers x (second x h)))
      (λ i. does-call-at fillers code t place c good result Slice (Some m) count caller (Struct n ∷ Int i ∷ [])
      (at-list code t c good result n s items e is (λ s vs came. Slices c.world m vs i (pos (length vs)) came) (does-slice good result m known n s items e is a fn makes i (pos (length items)))))) f

  slice-to : (good : GoodCommon code c Running) (result : Option SemType) (m count : ℕ) (caller : Caller) → IsInherent code m → (v w y : Value) (a b d : SemType) → Fits code c v a → Fits code c w b → Fits code c y d → IsWithin code.atoms IsList a → IsWithin code.atoms IsInteger b → IsWithin code.atoms IsInteger d →
      MakesList code.atoms (Some m) (AtIndexes code.atoms a) result → Listed Slice m count caller result (v ∷ w ∷ y ∷ [])
  slice-to good result m count caller known v w y a b d f g k first second third makes =
      a-list c.world.heap (λ z. Fits code c z a → Listed Slice m count caller result (z ∷ w ∷ y ∷ [])) v (of-kind code t c good.nearly.heap (λ k. k ≡ Lists) v a f (λ x h. lists x (first x h)))
      (λ n s items e is fn.
      an-int c.world.heap (λ z. Listed Slice m count caller result (Struct n ∷ z ∷ y ∷ [])) w (of-kind code t c good.nearly.heap (λ k. k ≡ Ints) w b g (λ x h. integers x (second x h)))
      (λ i. an-int c.world.heap (λ z. Listed Slice m count caller result (Struct n ∷ Int i ∷ z ∷ [])) y (of-kind code t c good.nearly.heap (λ k. k ≡ Ints) y d k (λ x h. integers x (third x h)))
      (λ j. does-call-at fillers code t place c good result Slice (Some m) count caller (Struct n ∷ Int i ∷ Int j ∷ [])
      (at-list code t c good result n s items e is (λ s vs came. Slices c.world m vs i j came) (does-slice good result m known n s items e is a fn makes i j))))) f

  pub slice : Row fillers code t place c Slice
  slice None count names operands result vs caller good (long, (inl two, more)) fit =
      two-fit code c (Answered fillers code t place c Slice None count caller result) operands vs _ (both-of-two operands _ _ two more) fit (λ a b v w (h, never) f g. absurd never)
  slice None count names operands result vs caller good (long, (inr three, more)) fit =
      three-fit code c (Answered fillers code t place c Slice None count caller result) operands vs _ (both-of-three operands _ _ three more) fit (λ a b d v w y (h, never) f g k. absurd never)
  slice (Some m) count names operands result vs caller good (long, (inl two, more)) fit =
      two-fit code c (Listed Slice m count caller result) operands vs _ (both-of-two operands _ _ two more) fit
      (λ a b v w (h, makes) f g. slice-so good result m count caller (names.atoms 0 0 (omega arith)) v w a b f g h.0 h.1 makes)
  slice (Some m) count names operands result vs caller good (long, (inr three, more)) fit =
      three-fit code c (Listed Slice m count caller result) operands vs _ (both-of-three operands _ _ three more) fit
      (λ a b d v w y (h, makes) f g k. slice-to good result m count caller (names.atoms 0 0 (omega arith)) v w y a b d f g k h.0 h.1 h.2 makes)

  -- the items from the last one on
  pub turned : Row fillers code t place c Reverse
  turned None count names operands result vs caller good (long, typed) fit = one-fit code c (Answered fillers code t place c Reverse None count caller result) operands vs _ typed fit (λ a v (within, never) f. absurd never)
  turned (Some m) count names operands result vs caller good (long, typed) fit =
      one-fit code c (Listed Reverse m count caller result) operands vs _ typed fit
      (λ a v (within, (is-list, has)) f.
      a-list c.world.heap (λ z. Fits code c z a → Listed Reverse m count caller result (z ∷ [])) v (of-kind code t c good.nearly.heap (λ k. k ≡ Lists) v a f (λ x h. lists x (within x h)))
      (λ n s items e is fn. does-call-at fillers code t place c good result Reverse (Some m) count caller (Struct n ∷ [])
      (at-list code t c good result n s items e is (λ s vs came. GivesList c.world m (reverse vs) came)
      (gives-list code t c good result m (AtIndexes code.atoms a) (names.atoms 0 0 (omega arith)) is-list has (reverse items)
      (λ r within k v ev. item-fits code t c good n s items e is a fn v (from-reverse items k v ev) r within)))) f)

pub members-are-given : MembersAreGiven
members-are-given = (of-row Get get, of-row Slice slice, of-row Reverse turned)
