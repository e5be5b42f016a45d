-- A value is copied so that it can't change: where nothing contains itself, each copy has a shape.
use Rattle.std.proofs.Common.{◌≡◌, ◌<◌, ◌+◌, ◌++◌, ◌^◌, ◌∙◌, ℕ, zero, suc, Bool, true, false, List, [], ◌∷◌, Option, Some, None, inl, inr, length, map, refl, sym, ap, subst, arith}
use Rattle.std.proofs.lemmas.Bool.{eq-eqb, eqb-true, false≢true}
use Rattle.std.proofs.lemmas.List.{append-nil, length-map}
use Rattle.std.proofs.lemmas.List.Elements.{All-cons, All-head, All-nil, All-tail}
use Rattle.std.proofs.lemmas.List.Quantifiers.{position-Some}
use Rattle.std.proofs.lemmas.Option.{slice_get-get_or, slice_get_within}
use Rattle.std.specs.List.{AllZip, list_any}
use Rattle.std.specs.Prelude.{◌⊎◌, ◌==◌, All, IsFalse, IsSomeAnd, IsTrue, get_or, if◌then◌else◌, position, slice_get}
use Rattle.bal_base.specs.declared.shape.Shape.{Shape, Nil as NilShape, Bool as BoolShape, Int as IntShape, Str as StrShape}
use Rattle.bal_base.specs.declared.text.Text.{Text}
use Rattle.bal_base.specs.Valid.{IsFrozen, IsText, IsValid}
use Rattle.bal_base.proofs.SameShapes.{IsFrozen-same}
use Rattle.type_model.specs.declared.basic.SemType.{SemType, Atom}
use Rattle.type_model.specs.Anydata.{IsAnydata}
use Rattle.type_model.specs.Membership.{In}
use Rattle.type_model.specs.Places.{is_same_text}
use Rattle.operations.specs.Rows.{IsWithin, ResultHas}
use Rattle.value_model.specs.declared.value.Value.{Value}
use Rattle.value_model.specs.declared.value.Value.TheVariants.{Nil, Bool as Truth, Int, Str, Struct, Error, Function, Future}
use Rattle.value_model.specs.Heap.{Entries, Grows, Heap, Items, Members, Stays, Structure, entry_at, values_of}
use Rattle.value_model.specs.Stands.{HasShape, IsUnmarked, MembersBelong, Stands, StructureStands}
use Rattle.value_model.specs.Valid.{AreValidMembers, IsValidValue}
use Rattle.value_model.specs.World.{World}
use Rattle.value_model.proofs.EntryKeys.{same-text, text-same}
use Rattle.value_model.proofs.OneShape.{one}
use Rattle.value_model.proofs.Stability.{HasShape-stable}
use Rattle.op_model.specs.Common.{Common}
use Rattle.op_model.specs.Copies.{copied_members, copied_structure, copied_structures, copied_value, copy_of, has_cycle, mutable_members, mutable_number, mutable_numbers, reached, reached_from, with_copies}
use Rattle.op_model.specs.Effects.{lifted, with_world}
use Rattle.op_model.specs.Rows.{gives, size_of, within as within-cells}
use Rattle.machine_model.specs.Runs.{Running}
use Rattle.machine_model.proofs.Once.{some-same}
use Rattle.stack_code.specs.declared.code.Code.{Code}
use Rattle.stack_code.specs.Good.{GoodCommon}
use Rattle.stack_code.specs.Tables.{IsInherent}
use Rattle.stack_code.specs.Values.{AreKeysApart, ComeOnce, Fits, GoodHeap, IsMade, IsWithinAtom, code_types}
use Rattle.stack_code.specs.WellTyped.{WellTyped}
use Rattle.code_keeping.specs.Rows.{EffectTyped}
use Rattle.code_keeping.proofs.Growing.{IsGrown, IsNewStructure, all-from, front-or-behind, gave-typed, get-behind, get-front, later, made-there, one-given, within-gave}
use Rattle.code_keeping.proofs.Lists.{all-at, at-some, of-some, some-there, there, zip-to}
use Rattle.code_keeping.proofs.OfKind.{same-kind}
use Rattle.code_keeping.proofs.Shapes.{has-shape}
use Rattle.code_keeping.proofs.Staying.{stays-same}
use Rattle.code_keeping_heap.proofs.Mapped.{entries-made, in-mapping}
use Rattle.code_keeping_heap.proofs.Mapping.{HasFrozen, frozen-shape, frozen-stands, frozen-valid}
use Rattle.code_keeping_heap.proofs.Making.{one-there}
use Rattle.code_keeping_heap.proofs.Reading.{has-stands, in-whole, stands-has}
use Rattle.code_keeping_heap.proofs.Shaping.{list-of, list-stands, list-valid, zip-long, zip-second}
use Rattle.code_keeping_sends.proofs.Copying.{IsMutableAt, reached-mutable}
use Rattle.code_keeping_stores.proofs.Keys.{entries-so, values-all}
use Rattle.code_keeping_fillers.proofs.Fillers.{mapped-at}
use Rattle.code_keeping_fillers.proofs.Walks.{IsAmong, IsDeep, Leads, all-deep, deep-led, leads-on}
use Rattle.code_keeping_copies.proofs.Parts.{among-kids, among-numbers, atom-data, copied-from, copy-there, found-mutable, item-data, kids-mutable, member-data, no-error, no-function, no-future, number-from, number-is, numbers_in, struct-frozen}
use Rattle.code_keeping_copies.proofs.Reaching.{any-among, has-position, last-of, level-up, level-walk, mapped-get, walk-level}

-- ---- a heap with copies that can't change

module _ (code : Code) (t : WellTyped code) (c : Common) (good : GoodHeap code c) (root : Value) where
  abbrev heap : Heap
  heap = c.world.heap

  abbrev first : ℕ
  first = length heap.structures

  abbrev kids : ℕ → List ℕ
  kids = mutable_members heap

  abbrev roots : List ℕ
  roots = mutable_numbers heap (root ∷ [])

  abbrev ns : List ℕ
  ns = reached_from c.world root

  abbrev more : List Structure
  more = copied_structures first ns false heap

  abbrev pub world-then : World
  world-then = with_copies false c.world root

  abbrev pub after : Common
  after = with_world c world-then

  abbrev pub copied : Value → Value
  copied v = copied_value first ns v

  all-mutable : All (IsMutableAt heap) ns
  all-mutable = reached-mutable c.world root

  pub grows : Grows heap world-then.heap
  grows =
      record {
        structures = λ n s e. at-some (Stays s) (slice_get (heap.structures ++ more) n) s (get-front heap.structures more n s e) (stays-same s);
        errors = ([], sym (append-nil heap.errors));
        functions = ([], sym (append-nil heap.functions));
      }

  -- ---- numbers

  abbrev copy_number : ℕ → Option ℕ → ℕ
  copy_number n (Some k) = first + k
  copy_number n None = n

  position-at : (n k : ℕ) → position (λ m. m == n) ns ≡ Some k → slice_get ns k ≡ Some n
  position-at n k e =
      let (lt, same, before) = position-Some (λ m. m == n) ns k 0 e in
      slice_get-get_or ns k 0 lt ∙ ap (λ m. Some m) (eqb-true (get_or ns k 0) n same)

  copy-behind : (k n : ℕ) → slice_get ns k ≡ Some n → (s : Structure) × (slice_get heap.structures n ≡ Some s) × IsTrue s.mutable × (slice_get world-then.heap.structures (first + k) ≡ Some (copied_structure first ns false s))
  copy-behind k n e =
      let (s, es, mutable, at) = copy-there first ns heap ns all-mutable k n e in
      (s, es, mutable, get-behind heap.structures more k (copied_structure first ns false s) at)

  copied-made : (v : Value) → IsMade code c v → IsMade code after (copied v)
  copied-made (Struct n) (lt, valid, strand) = by (position (λ m. m == n) ns) refl
    where
      by : (o : Option ℕ) → position (λ m. m == n) ns ≡ o → IsMade code after (Struct (copy_number n o))
      by (Some k) e = let (s, es, mutable, at) = copy-behind k n (position-at n k e) in (slice_get_within world-then.heap.structures (first + k) (copied_structure first ns false s) at, tt, tt)
      by None e = made-there code c world-then good grows (Struct n) (lt, valid, strand)
  copied-made Nil m = made-there code c world-then good grows Nil m
  copied-made (Truth b) m = made-there code c world-then good grows (Truth b) m
  copied-made (Int i) m = made-there code c world-then good grows (Int i) m
  copied-made (Str u) m = made-there code c world-then good grows (Str u) m
  copied-made (Error n) m = made-there code c world-then good grows (Error n) m
  copied-made (Function n) m = made-there code c world-then good grows (Function n) m
  copied-made (Future strand unit) m = made-there code c world-then good grows (Future strand unit) m

  copied-valid : (v : Value) → IsValidValue v → IsValidValue (copied v)
  copied-valid (Struct n) h = tt
  copied-valid Nil h = h
  copied-valid (Truth b) h = h
  copied-valid (Int i) h = h
  copied-valid (Str u) h = h
  copied-valid (Error n) h = h
  copied-valid (Function n) h = h
  copied-valid (Future strand unit) h = h

  abbrev copied_entry : Text × Value → Text × Value
  copied_entry e = (e.0, copied e.1)

  mapped : {A B : Type 0} (P : A → Type 0) (Q : B → Type 0) (f : A → B) → ((x : A) → P x → Q (f x)) → (xs : List A) → All P xs → All Q (map f xs)
  mapped P Q f h [] k = All-nil Q
  mapped P Q f h (x ∷ xs) k = All-cons Q (f x) (map f xs) (h x (All-head P x xs k)) (mapped P Q f h xs (All-tail P x xs k))

  members-made : (m : Members) → All (IsMade code c) (values_of m) → All (IsMade code after) (values_of (copied_members first ns m))
  members-made (Items vs) h = mapped (IsMade code c) (IsMade code after) copied copied-made vs h
  members-made (Entries es) h =
      values-all (IsMade code after) (map copied_entry es) (mapped (λ (e : Text × Value). IsMade code c e.1) (λ (e : Text × Value). IsMade code after e.1) copied_entry (λ e k. copied-made e.1 k) es (entries-so (IsMade code c) es h))

  members-valid : (m : Members) → AreValidMembers m → AreValidMembers (copied_members first ns m)
  members-valid (Items vs) h = mapped IsValidValue IsValidValue copied copied-valid vs h
  members-valid (Entries es) h = mapped (λ (e : Text × Value). IsText e.0 × IsValidValue e.1) (λ (e : Text × Value). IsText e.0 × IsValidValue e.1) copied_entry (λ e k. (k.0, copied-valid e.1 k.1)) es h

  same-size : (m : Members) → size_of (copied_members first ns m) ≡ size_of m
  same-size (Items vs) = length-map vs copied
  same-size (Entries es) = length-map es copied_entry

  none-still : (es : List (Text × Value)) (key : Text) → entry_at es key ≡ None → entry_at (map copied_entry es) key ≡ None
  none-still [] key e = refl
  none-still (x ∷ es) key e = by (is_same_text x.0 key) e (λ e. none-still es key e)
    where
      by : (b : Bool) → (if b then Some x.1 else entry_at es key) ≡ None → (entry_at es key ≡ None → entry_at (map copied_entry es) key ≡ None) → (if b then Some (copied x.1) else entry_at (map copied_entry es) key) ≡ None
      by true e more = absurd (let q : ⊥ = cc in q)
      by false e more = more e

  apart-still : (es : List (Text × Value)) → ComeOnce es → ComeOnce (map copied_entry es)
  apart-still [] h = tt
  apart-still (e ∷ es) (none, h) = (none-still es e.0 none, apart-still es h)

  members-apart : (m : Members) → AreKeysApart m → AreKeysApart (copied_members first ns m)
  members-apart (Items vs) h = tt
  members-apart (Entries es) h = apart-still es h

  -- ---- which are reached, where nothing contains itself

  abbrev IsReachedIn : ℕ → ℕ → Type 0
  IsReachedIn k n = (r : ℕ) × IsAmong roots r × Leads kids r k n

  reached-mutable-at : (k n : ℕ) → IsReachedIn k n → IsMutableAt heap n
  reached-mutable-at zero n (r, (i, er), e) = subst (IsMutableAt heap) e (found-mutable heap (root ∷ []) i r er)
  reached-mutable-at (suc k) n (r, among, leads) = let (j, last) = last-of kids r k n leads in kids-mutable heap j n last

  reached-there : (k n : ℕ) → IsReachedIn k n → n < first
  reached-there k n h = let (s, es, mutable) = some-there (λ s. IsTrue s.mutable) (slice_get heap.structures n) (reached-mutable-at k n h) in slice_get_within heap.structures n s es

  goes-on : (k n m : ℕ) → IsReachedIn k n → IsAmong (kids n) m → IsReachedIn (suc k) m
  goes-on k n m (r, among, leads) last = (r, among, leads-on kids r k n m leads last)

  among-reached : (k n : ℕ) → IsReachedIn k n → k < first → IsAmong ns n
  among-reached k n (r, among, leads) lt = level-up kids roots (suc k) first n (omega (arith, lt)) (walk-level kids roots r k n among leads)

  module _ (straight : has_cycle heap ns ≡ false) where
    no-ring : (k n j : ℕ) → IsReachedIn k n → k < first → j < first → Leads kids n (suc j) n → ⊥
    no-ring k n j h lt le (i, among, leads) =
        let own : IsAmong (reached heap (kids n)) n = level-up kids (kids n) (suc j) first n (omega (arith, le)) (walk-level kids (kids n) i j n among leads) in
        let ring = any-among (λ n. list_any (λ m. m == n) (reached heap (kids n))) ns n (among-reached k n h lt) (any-among (λ m. m == n) (reached heap (kids n)) n own (eq-eqb n n refl)) in
        false≢true (sym straight ∙ ring)

    pub deep-roots : (r : ℕ) → IsAmong roots r → IsDeep kids first r
    deep-roots r among = all-deep kids first IsReachedIn reached-there goes-on no-ring r (r, among, refl)

    -- ---- shapes of copies

    abbrev pub IsData : Value → Type 0
    IsData v = (x : Shape) → IsValid x → Stands (code_types code) heap v x → IsAnydata x

    -- a copy that can't change has a shape
    abbrev pub HasCopy : Value → Type 0
    HasCopy v = (x : Shape) × IsValid x × IsFrozen x × HasShape world-then.heap x (copied v)

    abbrev HasCopyAt : ℕ → Type 0
    HasCopyAt k = (x : Shape) × IsValid x × IsFrozen x × HasShape world-then.heap x (Struct (first + k))

    -- of its atom all shapes are anydata
    data-of-atom : (n : ℕ) (s : Structure) → slice_get heap.structures n ≡ Some s → IsTrue s.mutable → IsData (Struct n) → (a : ℕ) × Fits code c (Struct n) (Atom a) × IsWithin code.atoms IsAnydata (Atom a)
    data-of-atom n s es mutable holds =
        let (a, ea, own) = some-there (λ a. IsInherent code a × ((x : Shape) × IsValid x × IsUnmarked x × In code.atoms x (Atom a)) × IsSomeAnd (slice_get code.atoms a) (MembersBelong (code_types code) heap s.members)) s.atom (all-at (IsWithinAtom code c) heap.structures n s good.mutable es mutable) in (
          a,
          (good.closed, (slice_get_within heap.structures n s es, tt, tt), (λ x valid stands. of-own a ea s.mutable mutable x (of-some (λ s. StructureStands (code_types code) heap s.mutable s.atom n x) (slice_get heap.structures n) s es stands))),
          atom-data code a (λ x valid unmarked inside. holds x valid (at-some (λ s. StructureStands (code_types code) heap s.mutable s.atom n x) (slice_get heap.structures n) s es (to-own a ea s.mutable mutable x unmarked inside))),
        )
      where
        of-own : (a : ℕ) → s.atom ≡ Some a → (b : Bool) → IsTrue b → (x : Shape) → StructureStands (code_types code) heap b s.atom n x → In code.atoms x (Atom a)
        of-own a ea true is x h = of-some (λ a. In code.atoms x (Atom a)) s.atom a ea h.1
        of-own a ea false is x h = absurd (let q : ⊥ = cc in q)

        to-own : (a : ℕ) → s.atom ≡ Some a → (b : Bool) → IsTrue b → (x : Shape) → IsUnmarked x → In code.atoms x (Atom a) → StructureStands (code_types code) heap b s.atom n x
        to-own a ea true is x unmarked inside = (unmarked, at-some (λ a. In code.atoms x (Atom a)) s.atom a ea inside)
        to-own a ea false is x unmarked inside = absurd (let q : ⊥ = cc in q)

    -- so its items and the values at its keys are anydata
    items-are-data : (n : ℕ) (s : Structure) (vs : List Value) → slice_get heap.structures n ≡ Some s → s.members ≡ Items vs → IsTrue s.mutable → IsData (Struct n) → (i : ℕ) (v : Value) → slice_get vs i ≡ Some v → IsData v
    items-are-data n s vs es is mutable holds i v ev x valid stands =
        let (a, fits, within) = data-of-atom n s es mutable holds in
        let few = subst (λ m. size_of m < 2 ^ 63) is (all-at (λ s. size_of s.members < 2 ^ 63) heap.structures n s good.short es) in
        let (w, ok, inside, at, any) = in-whole code t c good n s vs es is few i v ev x valid stands (Atom a) fits in
        item-data w x (within w (ok, inside)) any

    values-are-data : (n : ℕ) (s : Structure) (ps : List (Text × Value)) → slice_get heap.structures n ≡ Some s → s.members ≡ Entries ps → IsTrue s.mutable → IsData (Struct n) → (key : Text) (v : Value) → entry_at ps key ≡ Some v → IsData v
    values-are-data n s ps es is mutable holds key v ev x valid stands =
        let (a, fits, within) = data-of-atom n s es mutable holds in
        let few = subst (λ m. size_of m < 2 ^ 63) is (all-at (λ s. size_of s.members < 2 ^ 63) heap.structures n s good.short es) in
        let (w, ok, inside, at, any) = in-mapping code t c good n s ps es is few key v ev x valid stands (Atom a) fits in
        member-data w x (within w (ok, inside)) any

    -- ---- a value, where mutable structures have their copies

    immutable-copy : (n : ℕ) (s : Structure) → slice_get heap.structures n ≡ Some s → IsFalse s.mutable → HasCopy (Struct n)
    immutable-copy n s es frozen = by (position (λ m. m == n) ns) refl
      where
        lt : n < first
        lt = slice_get_within heap.structures n s es

        by : (o : Option ℕ) → position (λ m. m == n) ns ≡ o → (x : Shape) × IsValid x × IsFrozen x × HasShape world-then.heap x (Struct (copy_number n o))
        by (Some k) e =
            let (s', es', mutable, at) = copy-behind k n (position-at n k e) in
            absurd (false≢true (sym (let f : s.mutable ≡ false = false-of s.mutable frozen in f) ∙ (ap (λ z. z.mutable) (some-same s s' (sym es ∙ es')) ∙ mutable)))
          where
            false-of : (b : Bool) → IsFalse b → b ≡ false
            false-of false f = refl
            false-of true f = absurd (let q : ⊥ = cc in q)
        by None e =
            let (x, ok, has) = good.immutable.0 n s es frozen in
            let still = (HasShape-stable heap world-then.heap good.closed grows x (Struct n) lt).0 has in
            (x, ok, struct-frozen world-then.heap n x still, still)

    value-copy : (v : Value) → IsMade code c v → IsData v → ((n : ℕ) (s : Structure) → v ≡ Struct n → slice_get heap.structures n ≡ Some s → IsTrue s.mutable → HasCopy (Struct n)) → HasCopy v
    value-copy Nil made holds rec = (NilShape, tt, tt, refl)
    value-copy (Truth b) made holds rec = (BoolShape b, tt, tt, refl)
    value-copy (Int i) made holds rec = (IntShape i, made.1, tt, refl)
    value-copy (Str u) made holds rec = (StrShape u, made.1, tt, refl)
    value-copy (Error n) made holds rec = let (x, ok, st) = has-shape code t c good (Error n) made in absurd (no-error x (holds x ok st) (sym (same-kind code t c good (Error n) made x st)))
    value-copy (Function n) made holds rec = let (x, ok, st) = has-shape code t c good (Function n) made in absurd (no-function x (holds x ok st) (sym (same-kind code t c good (Function n) made x st)))
    value-copy (Future n unit) made holds rec = let (x, ok, st) = has-shape code t c good (Future n unit) made in absurd (no-future x (holds x ok st) (sym (same-kind code t c good (Future n unit) made x st)))
    value-copy (Struct n) made holds rec = let (s, es) = there heap.structures n made.0 in by s es s.mutable refl
      where
        by : (s : Structure) → slice_get heap.structures n ≡ Some s → (b : Bool) → s.mutable ≡ b → HasCopy (Struct n)
        by s es true e = rec n s refl es e
        by s es false e = immutable-copy n s es (subst IsFalse (sym e) refl)

    -- ---- a structure, where what it holds has copies

    all-copies : (vs : List Value) → ((i : ℕ) (v : Value) → slice_get vs i ≡ Some v → HasCopy v) → (xs : List Shape) × AllZip (λ v x. IsValid x × IsFrozen x × HasShape world-then.heap x v) (map copied vs) xs
    all-copies [] h = ([], tt)
    all-copies (v ∷ vs) h = let (x, ok, frozen, has) = h 0 v refl in let (xs, zip) = all-copies vs (λ i w e. h (suc i) w e) in (x ∷ xs, ((ok, frozen, has), zip))

    list-copy : (k n : ℕ) (s : Structure) (vs : List Value) → slice_get heap.structures n ≡ Some s → s.members ≡ Items vs → slice_get world-then.heap.structures (first + k) ≡ Some (copied_structure first ns false s) → ((i : ℕ) (v : Value) → slice_get vs i ≡ Some v → HasCopy v) → HasCopyAt k
    list-copy k n s vs es is at h =
        let (xs, zip) = all-copies vs h in
        let short = subst (λ m. size_of m < 2 ^ 63) is (all-at (λ s. size_of s.members < 2 ^ 63) heap.structures n s good.short es) in
        let few : length xs < 2 ^ 63 = (let l = zip-long (λ v x. IsValid x × IsFrozen x × HasShape world-then.heap x v) (map copied vs) xs zip in let m = length-map vs copied in omega (arith, l, m, short)) in (
          list-of true xs few,
          list-valid true xs few (λ m. zip-second (λ v x. IsValid x × IsFrozen x × HasShape world-then.heap x v) IsFrozen (λ v x h. h.1) (map copied vs) xs zip) (zip-second (λ v x. IsValid x × IsFrozen x × HasShape world-then.heap x v) IsValid (λ v x h. h.0) (map copied vs) xs zip),
          refl,
          list-stands world-then.heap (first + k) (copied_structure first ns false s) (map copied vs) xs few at refl (ap (copied_members first ns) is)
              (zip-to (λ v x. IsValid x × IsFrozen x × HasShape world-then.heap x v) (λ v x. HasShape world-then.heap x v) (λ v x h. h.2) (map copied vs) xs zip),
        )

    mapping-copy : (k n : ℕ) (s : Structure) (ps : List (Text × Value)) → slice_get heap.structures n ≡ Some s → s.members ≡ Entries ps → slice_get world-then.heap.structures (first + k) ≡ Some (copied_structure first ns false s) → ComeOnce ps → ((i : ℕ) (p : Text × Value) → slice_get ps i ≡ Some p → HasCopy p.1) → HasCopyAt k
    mapping-copy k n s ps es is at own h = (
      frozen-shape code after world-then.heap (λ v x m has. has) (map copied_entry ps) made texts (apart-still ps own) few frozen (first + k) (copied_structure first ns false s) at refl is-now,
      frozen-valid code after world-then.heap (λ v x m has. has) (map copied_entry ps) made texts (apart-still ps own) few frozen (first + k) (copied_structure first ns false s) at refl is-now,
      refl,
      frozen-stands code after world-then.heap (λ v x m has. has) (map copied_entry ps) made texts (apart-still ps own) few frozen (first + k) (copied_structure first ns false s) at refl is-now,
    )
      where
        is-now : (copied_structure first ns false s).members ≡ Entries (map copied_entry ps)
        is-now = ap (copied_members first ns) is

        short : length ps < 2 ^ 63
        short = subst (λ m. size_of m < 2 ^ 63) is (all-at (λ s. size_of s.members < 2 ^ 63) heap.structures n s good.short es)

        few : length (map copied_entry ps) < 2 ^ 63
        few = let l = length-map ps copied_entry in omega (arith, l, short)

        made : All (λ e. IsMade code after e.1) (map copied_entry ps)
        made = mapped (λ (e : Text × Value). IsMade code c e.1) (λ (e : Text × Value). IsMade code after e.1) copied_entry (λ e m. copied-made e.1 m) ps (entries-made code t c good n s ps es is short)

        texts : All (λ e. IsText e.0) (map copied_entry ps)
        texts = mapped (λ (e : Text × Value). IsText e.0 × IsValidValue e.1) (λ (e : Text × Value). IsText e.0) copied_entry (λ e k. k.0) ps (subst AreValidMembers is (all-at (λ s. AreValidMembers s.members) heap.structures n s good.valid.members es))

        frozen : All (HasFrozen code after) (map copied_entry ps)
        frozen =
            mapped (λ (e : Text × Value). IsMade code c e.1 × HasCopy e.1) (HasFrozen code after) copied_entry
            (λ e (m, (x, ok, frozen, has)). (x, (ok, has-stands world-then.heap code (copied e.1) x (copied-made e.1 m).0 has), frozen, has)) ps
            (all-from (λ (e : Text × Value). IsMade code c e.1 × HasCopy e.1) ps (λ i p ep. (all-at (λ (e : Text × Value). IsMade code c e.1) ps i p (entries-made code t c good n s ps es is short) ep, h i p ep)))

    -- an entry is found by its key, where keys are apart
    entry-of : (es : List (Text × Value)) → ComeOnce es → (i : ℕ) (p : Text × Value) → slice_get es i ≡ Some p → entry_at es p.0 ≡ Some p.1
    entry-of [] own i p e = absurd (let q : ⊥ = cc in q)
    entry-of (x ∷ es) (none, own) zero p e =
        let same : x ≡ p = some-same x p e in
        subst (λ z. entry_at (x ∷ es) z.0 ≡ Some z.1) same (ap (λ b. if b then Some x.1 else entry_at es x.0) (text-same x.0 x.0 refl))
    entry-of (x ∷ es) (none, own) (suc i) p e = by (is_same_text x.0 p.0) refl (entry-of es own i p e)
      where
        by : (b : Bool) → is_same_text x.0 p.0 ≡ b → entry_at es p.0 ≡ Some p.1 → (if b then Some x.1 else entry_at es p.0) ≡ Some p.1
        by true is h = absurd (let k : entry_at es x.0 ≡ Some p.1 = subst (λ t. entry_at es t ≡ Some p.1) (sym (same-text x.0 p.0 is)) h in let z : None ≡ Some p.1 = sym none ∙ k in (let q : ⊥ = cc in q))
        by false is h = h

    -- ---- each structure that is reached, from those that hold nothing on

    abbrev CopiesFrom : ℕ → Type 0
    CopiesFrom k = (i n : ℕ) → k + i ≡ first → IsDeep kids k n → IsReachedIn i n → IsData (Struct n) → (p : ℕ) → slice_get ns p ≡ Some n → HasCopyAt p

    -- at the place where its copy stands
    at-own : (k i n : ℕ) → CopiesFrom k → k + i ≡ first → 0 < k → IsDeep kids k n → IsReachedIn i n → IsData (Struct n) → HasCopy (Struct n)
    at-own k i n rec sum some deep h holds = by (position (λ m. m == n) ns) refl
      where
        by : (o : Option ℕ) → position (λ m. m == n) ns ≡ o → (x : Shape) × IsValid x × IsFrozen x × HasShape world-then.heap x (Struct (copy_number n o))
        by (Some p) e = rec i n sum deep h holds p (position-at n p e)
        by None e = absurd (has-position (λ m. m == n) ns n (among-reached i n h (omega (arith, sum, some))) (eq-eqb n n refl) e)

    none-deep : (k n : ℕ) → IsDeep kids k n → 0 < k
    none-deep zero n h = absurd h
    none-deep (suc k) n h = omega arith

    structure-copy : (k : ℕ) → CopiesFrom k → CopiesFrom (suc k)
    structure-copy k rec i n sum deep h holds p ep = let (s, es, mutable, at) = copy-behind p n ep in by s es mutable at s.members refl
      where
        inside : (s : Structure) → slice_get heap.structures n ≡ Some s → (j : ℕ) (v : Value) → slice_get (values_of s.members) j ≡ Some v → IsMade code c v → IsData v → HasCopy v
        inside s es j v ev made own =
            value-copy v made own
            (λ m u same eu mutable.
            let among = among-kids heap n m j s v es ev (subst (λ z. mutable_number heap z ≡ Some m) (sym same) (number-is heap m u eu mutable)) in
            let inner = all-at (IsDeep kids k) (kids n) among.0 m deep among.1 in
            at-own k (suc i) m rec (omega (arith, sum)) (none-deep k m inner) inner (goes-on i n m h among) (subst IsData same own))

        all-made : (s : Structure) → slice_get heap.structures n ≡ Some s → All (IsMade code c) (values_of s.members)
        all-made s es = all-at (λ s. All (IsMade code c) (values_of s.members)) heap.structures n s good.members es

        by : (s : Structure) → slice_get heap.structures n ≡ Some s → IsTrue s.mutable → slice_get world-then.heap.structures (first + p) ≡ Some (copied_structure first ns false s) → (m : Members) → s.members ≡ m → HasCopyAt p
        by s es mutable at (Items vs) is =
            list-copy p n s vs es is at
            (λ j v ev.
            let here = subst (λ m. slice_get (values_of m) j ≡ Some v) (sym is) ev in
            inside s es j v here (all-at (IsMade code c) (values_of s.members) j v (all-made s es) here) (items-are-data n s vs es is mutable holds j v ev))
        by s es mutable at (Entries ps) is =
            let own : ComeOnce ps = subst AreKeysApart is (all-at (λ s. AreKeysApart s.members) heap.structures n s good.apart es) in
            mapping-copy p n s ps es is at own
            (λ j q eq.
            let here = subst (λ m. slice_get (values_of m) j ≡ Some q.1) (sym is) (mapped-get (λ (e : Text × Value). e.1) ps j q eq) in
            inside s es j q.1 here (all-at (IsMade code c) (values_of s.members) j q.1 (all-made s es) here) (values-are-data n s ps es is mutable holds q.0 q.1 (entry-of ps own j q eq)))

    all-structures : (k : ℕ) → CopiesFrom k
    all-structures zero i n sum deep h holds p ep = absurd deep
    all-structures (suc k) i n sum deep h holds p ep = structure-copy k (all-structures k) i n sum deep h holds p ep

    -- ---- the whole

    module _ (a : SemType) (fits : Fits code c root a) (within : IsWithin code.atoms IsAnydata a) where
      root-data : IsData root
      root-data x valid stands = within x (valid, fits.2 x valid stands)

      root-copy : HasCopy root
      root-copy =
          value-copy root fits.1 root-data
          (λ n s same es mutable.
          let among : IsAmong roots n = among-numbers heap (root ∷ []) 0 n root refl (subst (λ z. mutable_number heap z ≡ Some n) (sym same) (number-is heap n s es mutable)) in
          let deep = deep-roots n among in
          at-own first 0 n (all-structures first) (omega arith) (none-deep first n deep) deep (n, among, refl) (subst IsData same root-data))

      -- ---- all that is reached holds anydata

      kid-data : (i n : ℕ) → IsReachedIn i n → IsData (Struct n) → (m : ℕ) → IsAmong (kids n) m → IsData (Struct m)
      kid-data i n h holds m (j, ej) = let (s, es, mutable) = some-there (λ s. IsTrue s.mutable) (slice_get heap.structures n) (reached-mutable-at i n h) in by s es mutable s.members refl
        where
          numbers : (s : Structure) → slice_get heap.structures n ≡ Some s → (k : ℕ) × (slice_get (values_of s.members) k ≡ Some (Struct m))
          numbers s es = number-from heap (values_of s.members) j m (subst (λ o. slice_get (numbers_in heap o) j ≡ Some m) es ej)

          by : (s : Structure) → slice_get heap.structures n ≡ Some s → IsTrue s.mutable → (ms : Members) → s.members ≡ ms → IsData (Struct m)
          by s es mutable (Items vs) is =
              let (k, ek) = numbers s es in
              items-are-data n s vs es is mutable holds k (Struct m) (subst (λ z. slice_get (values_of z) k ≡ Some (Struct m)) is ek)
          by s es mutable (Entries ps) is =
              let (k, ek) = numbers s es in
              let own : ComeOnce ps = subst AreKeysApart is (all-at (λ s. AreKeysApart s.members) heap.structures n s good.apart es) in
              let (q, eq, same) = mapped-at (λ (e : Text × Value). e.1) ps k (Struct m) (subst (λ z. slice_get (values_of z) k ≡ Some (Struct m)) is ek) in
              subst IsData same (values-are-data n s ps es is mutable holds q.0 q.1 (entry-of ps own k q eq))

      walk-data : (r k i n : ℕ) → IsReachedIn i r → IsData (Struct r) → Leads kids r k n → IsData (Struct n)
      walk-data r zero i n h holds e = subst (λ z. IsData (Struct z)) e holds
      walk-data r (suc k) i n h holds (j, among, more) = walk-data j k (suc i) n (goes-on i r j h among) (kid-data i r h holds j among) more

      root-number : (r : ℕ) → IsAmong roots r → IsData (Struct r)
      root-number r (i, e) = let (k, ek) = number-from heap (root ∷ []) i r e in subst IsData (one-there root k (Struct r) ek) root-data

      -- so each copy has a shape
      copy-at : (p n : ℕ) → slice_get ns p ≡ Some n → HasCopyAt p
      copy-at p n ep =
          let (r, k, among, leads) = level-walk kids roots first n (p, ep) in
          let (l, sum, deep) = deep-led kids first r k n (deep-roots r among) leads in
          all-structures l k n sum deep (r, among, leads) (walk-data r k 0 n (r, among, refl) (root-number r among) leads) p ep

      grown : IsGrown code c world-then good grows
      grown = record { structures = λ k x ex. by k x (front-or-behind heap.structures more k x ex); errors = λ k x ex. inl ex; functions = λ k x ex. inl ex }
        where
          by : (k : ℕ) (x : Structure) → (slice_get heap.structures k ≡ Some x) ⊎ ((j : ℕ) × (k ≡ first + j) × (slice_get more j ≡ Some x)) → (slice_get heap.structures k ≡ Some x) ⊎ IsNewStructure code c world-then good grows k x
          by k x (inl e) = inl e
          by k x (inr (j, at, e)) =
              let (n, en, (s, es, mutable, same)) = copied-from first ns heap ns all-mutable j x e in
              let (y, ok, frozen, has) = copy-at j n en in
              inr (subst (λ z. IsNewStructure code c world-then good grows k z) same (record {
                mutable = λ is. absurd (let q : ⊥ = cc in q);
                frozen = λ f. (y, ok, subst (λ i. HasShape world-then.heap y (Struct i)) (sym at) has);
                made = members-made s.members (all-at (λ s. All (IsMade code c) (values_of s.members)) heap.structures n s good.members es);
                valid = members-valid s.members (all-at (λ s. AreValidMembers s.members) heap.structures n s good.valid.members es);
                short = subst (λ m. m < 2 ^ 63) (sym (same-size s.members)) (all-at (λ s. size_of s.members < 2 ^ 63) heap.structures n s good.short es);
                apart = members-apart s.members (all-at (λ s. AreKeysApart s.members) heap.structures n s good.apart es);
              }))

      pub frozen-typed : (result : Option SemType) → GoodCommon code c Running → ResultHas code.atoms result IsFrozen → EffectTyped code c result (lifted c (within-cells (gives world-then (copy_of c.world root))))
      frozen-typed result all has =
          let (y, ok, frozen, shown) = root-copy in
          within-gave code c result (copy_of c.world root ∷ []) world-then
          (λ small. gave-typed code c result (copy_of c.world root ∷ []) world-then all good grows grown
          (one-given code after result IsFrozen (copy_of c.world root) has ((later code c world-then good grows grown None).closed good.closed) (copied-made root fits.1)
          (λ x valid st. IsFrozen-same y x (one world-then.heap y x (copied root) ok valid shown (stands-has world-then.heap code (copied root) y x shown st)) frozen)))
