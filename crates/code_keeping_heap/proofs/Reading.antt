-- Items of lists are read: what is read is of the result's type, and the index may name one place or any.
use Rattle.std.proofs.Common.{◌≡◌, ◌<◌, ◌^◌, ◌∙◌, ℤ, ℕ, suc, Bool, true, false, List, [], ◌∷◌, Option, Some, None, inl, inr, length, refl, sym, ap, subst, arith}
use Rattle.std.specs.Prelude.{◌⊎◌, All, Contains, IsFalse, IsSomeAnd, IsTrue, negsuc, option_to_list, pos, slice_get, slice_set}
use Rattle.std.specs.List.{AllZip}
use Rattle.bal_base.specs.declared.shape.Shape.{Shape, Nil as NilShape, Bool as BoolShape, Int as IntShape, Str as StrShape, List', Mapping', Error', Function as FunctionShape, Future', Row_of-Shape, end_of-Shape, more_of-Shape, items-the_row-Shape as shapes_in, items_hidden-the_row-Shape-0}
use Rattle.bal_base.specs.declared.text.Text.{Text}
use Rattle.bal_base.specs.Valid.{AreValid, IsFrozen, IsValid}
use Rattle.bal_base.proofs.SameShapes.{IsFrozen-same}
use Rattle.type_model.specs.declared.answers.Keys.TheVariants.{AnyIndex, Index}
use Rattle.type_model.specs.declared.atoms.AtomDef.{AtomDef}
use Rattle.type_model.specs.declared.atoms.AtomDef.TheVariants.{List as ListAtom, Mapping as MappingAtom, Arrow, Error as ErrorAtom, Future as FutureAtom}
use Rattle.type_model.specs.declared.basic.SemType.{SemType, Atom}
use Rattle.type_model.specs.declared.basic.Ty.{Ty}
use Rattle.type_model.specs.Membership.{In}
use Rattle.type_model.specs.Parts.{StandsIn}
use Rattle.type_model.proofs.Decided.{In-decided}
use Rattle.operations.specs.declared.operation.Operation.TheVariants as op
use Rattle.operations.specs.Rows.{IsSingleIndex, ResultHas, StandsAtIndex, Surroundings}
use Rattle.value_model.specs.declared.filler.Filler.{Filler}
use Rattle.value_model.specs.declared.panics.PanicName.TheVariants.{IndexOutOfRange}
use Rattle.value_model.specs.declared.value.Value.{Value}
use Rattle.value_model.specs.declared.value.Value.TheVariants.{Nil, Bool as Truth, Int, Str, Struct, Error, Function, Future}
use Rattle.value_model.specs.Heap.{Entries, Heap, IsThere, Items, Members, Structure, values_of}
use Rattle.value_model.specs.Meaning.{Answers}
use Rattle.value_model.specs.Stands.{HasShape, HaveShapes, IsList as IsListOf, IsMapping as IsMappingOf, IsUnmarked, ItemsBelong, MembersBelong, Stands, StructureStands}
use Rattle.value_model.specs.World.{Came}
use Rattle.value_model.proofs.OneShape.{one}
use Rattle.op_model.specs.Common.{Common}
use Rattle.op_model.specs.Performs.{Performs}
use Rattle.op_model.specs.Rows.{HasItems, ListAt, found, size_of}
use Rattle.op_model.specs.StructureRows.{ReadsItem, at_place}
use Rattle.machine_model.specs.Runs.{Running}
use Rattle.machine_model.proofs.Once.{some-same}
use Rattle.stack_code.specs.declared.code.Code.{Code}
use Rattle.stack_code.specs.CodeMachine.{code_facts}
use Rattle.stack_code.specs.Good.{GoodCommon}
use Rattle.stack_code.specs.Tables.{IsInherent}
use Rattle.stack_code.specs.Values.{AllFit, Fits, GoodHeap, IsMade, IsWithinAtom, code_types}
use Rattle.stack_code.specs.WellTyped.{WellTyped}
use Rattle.code_keeping.specs.Kinds.{Ints, Lists, structure_kind, members_kind, value_kind}
use Rattle.code_keeping.proofs.Changing.{or-there, within}
use Rattle.code_keeping.proofs.Coming.{AllCome, Does, IsTyped, RowHolds, does-else, on-world, panics-typed}
use Rattle.code_keeping.proofs.Lists.{all-at, at-some, of-some, some-there, there, zip-to}
use Rattle.code_keeping.proofs.OfKind.{of-kind}
use Rattle.code_keeping.proofs.Operands.{an-int, integers, lists, two-fit}
use Rattle.code_keeping.proofs.Staying.{same}
use Rattle.code_keeping_heap.proofs.Shaping.{IsShown, all-shown, list-in, list-of, list-stands, list-valid, shapes-of, zip-at, zip-long, zip-second, zip-set}

-- ---- a list in the heap

pub a-list : (h : Heap) (R : Value → Type 0) (v : Value) → value_kind h v ≡ Lists → ((n : ℕ) (s : Structure) (vs : List Value) → slice_get h.structures n ≡ Some s → s.members ≡ Items vs → R (Struct n)) → R v
a-list h R (Struct n) e k = by (slice_get h.structures n) refl e
  where
    on : (s : Structure) → slice_get h.structures n ≡ Some s → (m : Members) → s.members ≡ m → members_kind m ≡ Lists → R (Struct n)
    on s es (Items vs) is em = k n s vs es is
    on s es (Entries entries) is em = absurd (let q : ⊥ = cc in q)

    by : (o : Option Structure) → slice_get h.structures n ≡ o → structure_kind o ≡ Lists → R (Struct n)
    by None eo em = absurd (let q : ⊥ = cc in q)
    by (Some s) eo em = on s eo s.members refl em
a-list h R Nil e k = absurd (let q : ⊥ = cc in q)
a-list h R (Truth b) e k = absurd (let q : ⊥ = cc in q)
a-list h R (Int i) e k = absurd (let q : ⊥ = cc in q)
a-list h R (Str s) e k = absurd (let q : ⊥ = cc in q)
a-list h R (Error n) e k = absurd (let q : ⊥ = cc in q)
a-list h R (Function n) e k = absurd (let q : ⊥ = cc in q)
a-list h R (Future n unit) e k = absurd (let q : ⊥ = cc in q)

-- ---- what has a shape stands for no other kind of shapes

module _ (h : Heap) where
  no-function : (n : ℕ) (y : Shape) → HasShape h y (Function n) → ⊥
  no-function n NilShape e = let q : ⊥ = cc in q
  no-function n (BoolShape b) e = let q : ⊥ = cc in q
  no-function n (IntShape i) e = let q : ⊥ = cc in q
  no-function n (StrShape s) e = let q : ⊥ = cc in q
  no-function n (List' mark _ items) e = e.1
  no-function n (Mapping' mark _ fields) e = e.1
  no-function n (Error' _ detail) e = e
  no-function n (FunctionShape isolated graph) e = e
  no-function n (Future' _ results) e = e

  no-future : (n unit : ℕ) (y : Shape) → HasShape h y (Future n unit) → ⊥
  no-future n unit NilShape e = let q : ⊥ = cc in q
  no-future n unit (BoolShape b) e = let q : ⊥ = cc in q
  no-future n unit (IntShape i) e = let q : ⊥ = cc in q
  no-future n unit (StrShape s) e = let q : ⊥ = cc in q
  no-future n unit (List' mark _ items) e = e.1
  no-future n unit (Mapping' mark _ fields) e = e.1
  no-future n unit (Error' _ detail) e = e
  no-future n unit (FunctionShape isolated graph) e = e
  no-future n unit (Future' _ results) e = e

  is-frozen : (n : ℕ) (s : Structure) (y : Shape) → slice_get h.structures n ≡ Some s → HasShape h y (Struct n) → IsFalse s.mutable
  is-frozen n s (List' mark _ items) e k = (of-some (λ s. IsFalse s.mutable × IsListOf h (HaveShapes h items) s.members) (slice_get h.structures n) s e k.1).0
  is-frozen n s (Mapping' mark _ fields) e k = (of-some _ (slice_get h.structures n) s e k.1).0
  is-frozen n s NilShape e k = absurd (let q : ⊥ = cc in q)
  is-frozen n s (BoolShape b) e k = absurd (let q : ⊥ = cc in q)
  is-frozen n s (IntShape i) e k = absurd (let q : ⊥ = cc in q)
  is-frozen n s (StrShape z) e k = absurd (let q : ⊥ = cc in q)
  is-frozen n s (Error' _ detail) e k = absurd k
  is-frozen n s (FunctionShape isolated graph) e k = absurd k
  is-frozen n s (Future' _ results) e k = absurd k

  pub stands-has : (code : Code) (v : Value) (y x : Shape) → HasShape h y v → Stands (code_types code) h v x → HasShape h x v
  stands-has code Nil y x k s = s
  stands-has code (Truth b) y x k s = s
  stands-has code (Int i) y x k s = s
  stands-has code (Str z) y x k s = s
  stands-has code (Error n) y x k s = s
  stands-has code (Function n) y x k s = absurd (no-function n y k)
  stands-has code (Future n unit) y x k s = absurd (no-future n unit y k)
  stands-has code (Struct n) y x k st =
      let (s, e, stands) = some-there (λ s. StructureStands (code_types code) h s.mutable s.atom n x) (slice_get h.structures n) st in
      by s.mutable s.atom (is-frozen n s y e k) stands
    where
      by : (m : Bool) (atom : Option ℕ) → IsFalse m → StructureStands (code_types code) h m atom n x → HasShape h x (Struct n)
      by false atom f stands = stands
      by true atom f stands = absurd (let q : ⊥ = cc in q)

  -- and stands for what it has
  pub has-stands : (code : Code) (v : Value) (x : Shape) → IsThere h v → HasShape h x v → Stands (code_types code) h v x
  has-stands code Nil x t k = k
  has-stands code (Truth b) x t k = k
  has-stands code (Int i) x t k = k
  has-stands code (Str z) x t k = k
  has-stands code (Error n) x t k = k
  has-stands code (Function n) x t k = absurd (no-function n x k)
  has-stands code (Future n unit) x t k = absurd (no-future n unit x k)
  has-stands code (Struct n) x t k =
      let (s, e) = there h.structures n t in
      at-some (λ s. StructureStands (code_types code) h s.mutable s.atom n x) (slice_get h.structures n) s e (by s.mutable s.atom (is-frozen n s x e k))
    where
      by : (m : Bool) (atom : Option ℕ) → IsFalse m → StructureStands (code_types code) h m atom n x
      by false atom f = k
      by true atom f = absurd (let q : ⊥ = cc in q)

  -- the items of an immutable list, each with its shape
  row-zip : (n : _) (row : Row_of-Shape n) (vs : List Value) → AreValid row → All IsFrozen (shapes_in n row) → HaveShapes h row vs → AllZip (λ v x. IsValid x × IsFrozen x × HasShape h x v) vs (shapes_in n row)
  row-zip n end_of-Shape [] valid frozen has = tt
  row-zip n end_of-Shape (v ∷ vs) valid frozen has = absurd (let q : ⊥ = cc in q)
  row-zip n (more_of-Shape x xs) [] valid frozen has = absurd has
  row-zip n (more_of-Shape x xs) (v ∷ vs) valid frozen has = ((valid.0, frozen 0 x (omega arith), has.0), row-zip _ xs vs valid.1 (λ k d l. frozen (suc k) d (omega (arith, l))) has.1)

  no-mapping : (vs : List Value) (m : Members) (P : List (Text × Value) → Type 0) → m ≡ Items vs → IsMappingOf h P m → ⊥
  no-mapping vs (Items ws) P e k = k
  no-mapping vs (Entries es) P e k = let q : ⊥ = cc in q

  pub list-zip : (n : ℕ) (s : Structure) (vs : List Value) (y : Shape) → slice_get h.structures n ≡ Some s → s.members ≡ Items vs → IsValid y → HasShape h y (Struct n) → (ys : List Shape) × AllZip (λ v x. IsValid x × IsFrozen x × HasShape h x v) vs ys
  list-zip n s vs (List' mark _ items) e is valid has =
      let k = (of-some (λ s. IsFalse s.mutable × IsListOf h (HaveShapes h items) s.members) (slice_get h.structures n) s e has.1).1 in
      (shapes_in _ items, row-zip _ items vs valid.1 (valid.0 has.0) (subst (λ m. IsListOf h (HaveShapes h items) m) is k))
  list-zip n s vs (Mapping' mark _ fields) e is valid has = absurd (no-mapping vs s.members _ is (of-some _ (slice_get h.structures n) s e has.1).1)
  list-zip n s vs NilShape e is valid has = absurd (let q : ⊥ = cc in q)
  list-zip n s vs (BoolShape b) e is valid has = absurd (let q : ⊥ = cc in q)
  list-zip n s vs (IntShape i) e is valid has = absurd (let q : ⊥ = cc in q)
  list-zip n s vs (StrShape z) e is valid has = absurd (let q : ⊥ = cc in q)
  list-zip n s vs (Error' _ detail) e is valid has = absurd has
  list-zip n s vs (FunctionShape isolated graph) e is valid has = absurd has
  list-zip n s vs (Future' _ results) e is valid has = absurd has

-- ---- the list stands for a shape with this item

-- members of a list are those of an atom of lists
pub list-members : (code : Code) (h : Heap) (vs : List Value) (d : AtomDef) → MembersBelong (code_types code) h (Items vs) d → (fixed : List Ty) × (rest : Option Ty) × (d ≡ ListAtom fixed rest) × ItemsBelong (code_types code) h fixed rest vs
list-members code h vs (ListAtom fixed rest) b = (fixed, rest, refl, b)
list-members code h vs (MappingAtom fields rest) b = absurd b
list-members code h vs (Arrow args outcome alone) b = absurd b
list-members code h vs (ErrorAtom detail) b = absurd b
list-members code h vs (FutureAtom outcome) b = absurd b

module _ (code : Code) (t : WellTyped code) (c : Common) (good : GoodHeap code c) (n : ℕ) (s : Structure) (vs : List Value) (e : slice_get c.world.heap.structures n ≡ Some s) (is : s.members ≡ Items vs) (short : length vs < 2 ^ 63)
    (k : ℕ) (v : Value) (ev : slice_get vs k ≡ Some v) (x : Shape) (valid : IsValid x) (stands : Stands (code_types code) c.world.heap v x) where
  abbrev h : Heap
  h = c.world.heap

  pub record IsWhole (m : Bool) (atom : Option ℕ) : Type 0 where
    pub mark : Bool
    pub items : List Shape
    pub small : length items < 2 ^ 63
    pub ok : IsValid (list-of mark items small)
    pub standing : StructureStands (code_types code) h m atom n (list-of mark items small)
    pub at : slice_get items k ≡ Some x

  members-made : All (IsMade code c) vs
  members-made = subst (λ m. All (IsMade code c) (values_of m)) is (all-at (λ s. All (IsMade code c) (values_of s.members)) h.structures n s good.members e)

  abbrev Sound : Bool → Option ℕ → Type 0
  Sound m atom = IsTrue m → IsSomeAnd atom (λ a. IsInherent code a × ((x : Shape) × IsValid x × IsUnmarked x × In code.atoms x (Atom a)) × IsSomeAnd (slice_get code.atoms a) (MembersBelong (code_types code) h (Items vs)))

  whole : (m : Bool) (atom : Option ℕ) → Sound m atom → (IsFalse m → (y : Shape) × IsValid y × HasShape h y (Struct n)) → IsFalse s.mutable ⊎ IsTrue m → IsWhole m atom
  whole true None sound has f = absurd (sound refl)
  whole true (Some a) sound has f =
      let (known, shape, belong) = sound refl in
      let (d, ed, members) = some-there (MembersBelong (code_types code) h (Items vs)) (slice_get code.atoms a) belong in
      let (fixed, rest, dl, belongs) = list-members code h vs d members in
      let (xs, shown) = all-shown code c t good vs members-made in
      let (set, at) = zip-set (IsShown code c) vs xs k v x shown ev (valid, stands) in
      let few : length (slice_set xs k x) < 2 ^ 63 = subst (λ n. n < 2 ^ 63) (zip-long (IsShown code c) vs (slice_set xs k x) set) short in
      record {
        mark = false;
        items = slice_set xs k x;
        small = few;
        ok = list-valid false (slice_set xs k x) few (λ f. absurd (let q : ⊥ = cc in q)) (zip-second (IsShown code c) IsValid (λ v x p. p.0) vs (slice_set xs k x) set);
        standing = (refl, list-in code c false vs (slice_set xs k x) few fixed rest a (ed ∙ ap (λ d. Some d) dl) set belongs.0 belongs.1);
        at = at;
      }
  whole false atom sound has (inr m) = absurd (let q : ⊥ = cc in q)
  whole false atom sound has (inl f) =
      let (y, ok, held) = has refl in
      let (ys, zip) = list-zip h n s vs y e is ok held in
      let (z, ez) = there ys k (subst (λ n. k < n) (zip-long _ vs ys zip) (within vs k v ev)) in
      let (w, ew, item) = zip-at _ vs ys k z zip ez in
      let w-is : w ≡ v = some-same w v (sym ew ∙ ev) in
      let shape-of-v : HasShape h z v = subst (λ u. HasShape h z u) w-is item.2 in
      let has-x : HasShape h x v = stands-has h code v z x shape-of-v stands in
      let frozen : IsFrozen x = IsFrozen-same z x (one h z x v item.0 valid shape-of-v has-x) item.1 in
      let (set, at) = zip-set _ vs ys k v x zip ev (valid, frozen, has-x) in
      let few : length (slice_set ys k x) < 2 ^ 63 = subst (λ n. n < 2 ^ 63) (zip-long _ vs (slice_set ys k x) set) short in
      record {
        mark = true;
        items = slice_set ys k x;
        small = few;
        ok = list-valid true (slice_set ys k x) few (λ m. zip-second _ IsFrozen (λ v x p. p.1) vs (slice_set ys k x) set) (zip-second _ IsValid (λ v x p. p.0) vs (slice_set ys k x) set);
        standing = list-stands h n s vs (slice_set ys k x) few e f is (zip-to _ (λ v x. HasShape h x v) (λ v x p. p.2) vs (slice_set ys k x) set);
        at = at;
      }

  either : (m : Bool) → IsFalse m ⊎ IsTrue m
  either true = inr refl
  either false = inl refl

  pub its-whole : IsWhole s.mutable s.atom
  its-whole =
      whole s.mutable s.atom (λ m. subst (λ ms. IsSomeAnd s.atom (λ a. IsInherent code a × ((x : Shape) × IsValid x × IsUnmarked x × In code.atoms x (Atom a)) × IsSomeAnd (slice_get code.atoms a) (MembersBelong (code_types code) h ms))) is (all-at (IsWithinAtom code c) h.structures n s good.mutable e m))
      (good.immutable.0 n s e) (either s.mutable)

  -- so it stands at its place in a shape of each type of the list
  pub in-whole : (a : SemType) → Fits code c (Struct n) a → (w : Shape) × IsValid w × In code.atoms w a × StandsIn (Index k) w x × StandsIn AnyIndex w x
  in-whole a fits =
      let i = its-whole in
      let w : Shape = list-of i.mark i.items i.small in
      let there : Stands (code_types code) h (Struct n) w = at-some (λ y. StructureStands (code_types code) h y.mutable y.atom n w) (slice_get h.structures n) s e i.standing in
      let hidden = items_hidden-the_row-Shape-0 (shapes-of i.items i.small).items in
      (w, i.ok, fits.2 w i.ok there, subst (λ ys. slice_get ys k ≡ Some x) (sym hidden) i.at, subst (λ ys. Contains ys x) (sym hidden) (k, within i.items k x i.at, or-there i.items k x x i.at))

-- ---- the row

module _ (code : Code) (t : WellTyped code) (c : Common) (good : GoodCommon code c Running) (result : Option SemType) where
  module _ (n : ℕ) (s : Structure) (vs : List Value) (e : slice_get c.world.heap.structures n ≡ Some s) (is : s.members ≡ Items vs) (a b : SemType) (fits : Fits code c (Struct n) a) where
    few : length vs < 2 ^ 63
    few = subst (λ m. size_of m < 2 ^ 63) is (all-at (λ s. size_of s.members < 2 ^ 63) c.world.heap.structures n s good.nearly.heap.short e)

    -- an item that is read is of the result's type: that is decided, so it is enough that it can't be otherwise
    item-in : (k : ℕ) (v : Value) → slice_get vs k ≡ Some v → Fits code c (Int (pos k)) b → (r : SemType) → ((x : Shape) → IsValid x → StandsAtIndex code.atoms a b x → In code.atoms x r) → (x : Shape) → IsValid x → Stands (code_types code) c.world.heap v x → In code.atoms x r
    item-in k v ev at r has x valid stands = by (In-decided code.atoms x r)
      where
        whole-of : (w : Shape) × IsValid w × In code.atoms w a × StandsIn (Index k) w x × StandsIn AnyIndex w x
        whole-of = in-whole code t c good.nearly.heap n s vs e is few k v ev x valid stands a fits

        same-index : (m : ℕ) → IsSingleIndex code.atoms b m → k ≡ m
        same-index m index = let q : IntShape (pos k) ≡ IntShape (pos m) = (index.1 (IntShape (pos k)) at.1.1).0 (at.2 (IntShape (pos k)) at.1.1 refl) in let z : k ≡ m = cc in z

        by : In code.atoms x r ⊎ (¬ (In code.atoms x r)) → In code.atoms x r
        by (inl is-in) = is-in
        by (inr never) =
            let (w, ok, inside, at-k, any) = whole-of in
            absurd (never (has x valid (
              AnyIndex,
              inr (λ m index. never (has x valid (Index m, inl (m, index, refl), (w, (ok, inside), subst (λ j. StandsIn (Index j) w x) (same-index m index) at-k))), refl),
              (w, (ok, inside), any),
            )))

    all-made : All (IsMade code c) vs
    all-made = subst (λ m. All (IsMade code c) (values_of m)) is (all-at (λ s. All (IsMade code c) (values_of s.members)) c.world.heap.structures n s good.nearly.heap.members e)

    item-typed : (i : ℤ) → Fits code c (Int i) b → ResultHas code.atoms result (StandsAtIndex code.atoms a b) → IsTyped code c good result (found c.world IndexOutOfRange (at_place vs i))
    item-typed (negsuc k) at has = panics-typed code c good result IndexOutOfRange refl
    item-typed (pos k) at has = by (slice_get vs k) refl
      where
        given : (v : Value) → slice_get vs k ≡ Some v → (r : Option SemType) → ResultHas code.atoms r (StandsAtIndex code.atoms a b) → AllFit code c (v ∷ []) (option_to_list r)
        given v ev (Some r) has = ((good.nearly.heap.closed, all-at (IsMade code c) vs k v all-made ev, (λ x valid stands. item-in k v ev at r has x valid stands)), tt)
        given v ev None has = absurd has

        by : (o : Option Value) → slice_get vs k ≡ o → IsTyped code c good result (found c.world IndexOutOfRange o)
        by (Some v) ev = (good, (refl, refl), (λ q. same q c), given v ev result has)
        by None ev = panics-typed code c good result IndexOutOfRange refl

  -- what comes of a list in the heap
  pub at-list : (n : ℕ) (s : Structure) (vs : List Value) → slice_get c.world.heap.structures n ≡ Some s → s.members ≡ Items vs → (P : Structure → List Value → Came → Type 0) → Does code c good result (P s vs) → Does code c good result (λ came. ListAt c.world n (λ s vs. P s vs came))
  at-list n s vs e is P d =
      subst (λ o. Does code c good result (λ came. IsSomeAnd o (λ s. HasItems (λ vs. P s vs came) s.members))) (sym e) (subst (λ m. Does code c good result (λ came. HasItems (λ vs. P s vs came) m)) (sym is) d)

pub get-item : (fillers : ℕ → List Filler) (natives : Answers) (code : Code) → WellTyped code → (c : Common) (place : Surroundings) → RowHolds code fillers natives c place op.GetItem
get-item fillers natives code t c place operands result vs caller good typed fit =
    two-fit code c (λ us. AllCome code c result (Performs (code_facts fillers code) natives op.GetItem us caller c)) operands vs _ typed fit
    (λ a b v w (first, second, has) f g.
    a-list c.world.heap (λ z. Fits code c z a → AllCome code c result (Performs (code_facts fillers code) natives op.GetItem (z ∷ w ∷ []) caller c)) v (of-kind code t c good.nearly.heap (λ k. k ≡ Lists) v a f (λ x h. lists x (first x h)))
    (λ n s items e is fn.
    an-int c.world.heap (λ z. Fits code c z b → AllCome code c result (Performs (code_facts fillers code) natives op.GetItem (Struct n ∷ z ∷ []) caller c)) w (of-kind code t c good.nearly.heap (λ k. k ≡ Ints) w b g (λ x h. integers x (second x h)))
    (λ i gi. on-world code c good result (λ w. ReadsItem w n i)
    (at-list code t c good result n s items e is (λ s vs came. came ≡ found c.world IndexOutOfRange (at_place vs i)) (does-else code c good result (found c.world IndexOutOfRange (at_place items i)) (item-typed code t c good result n s items e is a b fn i gi has)))) g) f)
