-- A value has at most one shape that is valid, but for where its parts lie in memory.
use Rattle.std.proofs.Common.{◌≡◌, ◌∙◌, ◌≤◌, Bool, List, [], ◌∷◌, All, Contains, Option, Some, None, IsSomeAnd, is_some, length, slice_get, refl, sym, ap, subst, arith}
use Rattle.std.specs.Prelude.{IsFalse}
use Rattle.std.proofs.lemmas.List.Elements.{All-nil, All-cons, All-map}
use Rattle.std.proofs.Math.ListN.{length-map}
use Rattle.bal_base.specs.declared.text.Text.{Text}
use Rattle.bal_base.specs.declared.shape.Shape.{Shape, Nil as NilShape, Bool as BoolShape, Int as IntShape, Str as StrShape, List', Mapping', Error', Function as FunctionShape, Future', Row_of-Shape, end_of-Shape, more_of-Shape, Row_of-Fields-items-2 as Row_of-Field, end_of-Fields-items-2 as end_of-Field, more_of-Fields-items-2 as more_of-Field, items-the_row-Fields-items-2 as fields_in}
use Rattle.bal_base.specs.Same.{IsSame, AreSame, FieldsSame}
use Rattle.bal_base.specs.Valid.{IsValid, AreValid, FieldsValid, KeysRise}
use Rattle.bal_base.proofs.SameShapes.{keys_of}
use Rattle.type_model.proofs.TextOrder.{Below, Sorted, Sorted-rise, KeysSorted}
use Rattle.value_model.specs.declared.value.Value.{Value}
use Rattle.value_model.specs.declared.value.Value.TheVariants.{Nil, Bool as Truth, Int, Str, Struct, Error}
use Rattle.value_model.specs.Heap.{Heap, Structure, Members, Items, Entries, entry_at}
use Rattle.value_model.specs.Stands.{HasShape, HaveShapes, HaveFields, FrontIs, IsList, IsMapping}
use Rattle.value_model.proofs.EntryKeys.{HasEntry, keys-fill, one-order}

-- ---- keys of fields

all-keys : (key : Text) (fs : List (Text × Shape)) → All (λ f. Below key f.0) fs → All (Below key) (keys_of fs)
all-keys key fs h = All-map (Below key) (λ f. f.0) fs h

sorted-keys : (fs : List (Text × Shape)) → Sorted (λ f. f.0) fs → KeysSorted (keys_of fs)
sorted-keys [] h = tt
sorted-keys (f ∷ fs) h = (all-keys f.0 fs h.0, sorted-keys fs h.1)

pub rise-keys : (fs : List (Text × Shape)) → KeysRise fs → KeysSorted (keys_of fs)
rise-keys fs rise = sorted-keys fs (Sorted-rise (λ f. f.0) fs rise)

pub there-some : {X : Type 0} (P : X → Type 0) (o : Option X) → IsSomeAnd o P → (x : X) × (o ≡ Some x) × P x
there-some P (Some x) h = (x, refl, h)
there-some P None h = absurd h

module _ (h : Heap) where
  pub fields-entries : (n : _) (row : Row_of-Field n) (es : List (Text × Value)) → HaveFields h row es → All (HasEntry es) (keys_of (fields_in n row))
  fields-entries n end_of-Field es has = All-nil (HasEntry es)
  fields-entries n (more_of-Field key x rest) es has =
      let there = there-some (HasShape h x) (entry_at es key) has.0 in
      All-cons (HasEntry es) key _ (ap is_some there.1) (fields-entries _ rest es has.1)

-- ---- keys of two mappings of the same entries

along-keys : (P : Text → Type 0) (ks : List Text) → All P ks → (k : Text) → Contains ks k → P k
along-keys P ks h k (i, lt, is) = subst P is (h i k lt)

same-keys : (fs gs : List (Text × Shape)) (es : List (Text × Value)) → KeysRise fs → KeysRise gs → length es ≡ length fs → length es ≡ length gs → All (HasEntry es) (keys_of fs) → All (HasEntry es) (keys_of gs) → keys_of fs ≡ keys_of gs
same-keys fs gs es rise rise' long long' each each' =
    let at : length es ≤ length (keys_of fs) = omega (arith, long, length-map fs (λ f. f.0)) in
    let at' : length es ≤ length (keys_of gs) = omega (arith, long', length-map gs (λ f. f.0)) in
    let s = rise-keys fs rise in
    let s' = rise-keys gs rise' in
    one-order (keys_of fs) (keys_of gs) s s'
    (λ k c. keys-fill es (keys_of gs) s' each' at' k (along-keys (HasEntry es) (keys_of fs) each k c))
    (λ k c. keys-fill es (keys_of fs) s each at k (along-keys (HasEntry es) (keys_of gs) each' k c))

-- ---- what is at a number, twice

both-at : {X : Type 0} (o : Option X) (P Q : X → Type 0) (R : Type 0) → IsSomeAnd o P → IsSomeAnd o Q → ((x : X) → P x → Q x → R) → R
both-at (Some x) P Q R p q f = f x p q
both-at None P Q R p q f = absurd p

module _ (h : Heap) where
  abbrev FrozenAnd : (Members → Type 0) → Structure → Type 0
  FrozenAnd P s = IsFalse s.mutable × P s.members

  two-lists : (P Q : List Value → Type 0) (R : Type 0) → ((vs : List Value) → P vs → Q vs → R) → (m : Members) → IsList h P m → IsList h Q m → R
  two-lists P Q R f (Items vs) p q = f vs p q
  two-lists P Q R f (Entries es) p q = absurd p

  two-mappings : (P Q : List (Text × Value) → Type 0) (R : Type 0) → ((es : List (Text × Value)) → P es → Q es → R) → (m : Members) → IsMapping h P m → IsMapping h Q m → R
  two-mappings P Q R f (Items vs) p q = absurd p
  two-mappings P Q R f (Entries es) p q = f es p q

  no-both : (P : List Value → Type 0) (Q : List (Text × Value) → Type 0) (m : Members) → IsList h P m → IsMapping h Q m → ⊥
  no-both P Q (Items vs) p q = q
  no-both P Q (Entries es) p q = p

  -- ---- simple values

  of-nil : (y : Shape) → HasShape h y Nil → IsSame NilShape y
  of-nil NilShape e = tt
  of-nil (BoolShape b) e = cc
  of-nil (IntShape i) e = cc
  of-nil (StrShape t) e = cc
  of-nil (List' mark _ items) e = e.1
  of-nil (Mapping' mark _ fields) e = e.1
  of-nil (Error' _ detail) e = e
  of-nil (FunctionShape isolated graph) e = e
  of-nil (Future' _ results) e = e

  of-truth : (b : Bool) (y : Shape) → HasShape h y (Truth b) → IsSame (BoolShape b) y
  of-truth b NilShape e = cc
  of-truth b (BoolShape c) e = cc
  of-truth b (IntShape i) e = cc
  of-truth b (StrShape t) e = cc
  of-truth b (List' mark _ items) e = e.1
  of-truth b (Mapping' mark _ fields) e = e.1
  of-truth b (Error' _ detail) e = e
  of-truth b (FunctionShape isolated graph) e = e
  of-truth b (Future' _ results) e = e

  of-int : (i : _) (y : Shape) → HasShape h y (Int i) → IsSame (IntShape i) y
  of-int i NilShape e = cc
  of-int i (BoolShape c) e = cc
  of-int i (IntShape j) e = cc
  of-int i (StrShape t) e = cc
  of-int i (List' mark _ items) e = e.1
  of-int i (Mapping' mark _ fields) e = e.1
  of-int i (Error' _ detail) e = e
  of-int i (FunctionShape isolated graph) e = e
  of-int i (Future' _ results) e = e

  of-text : (t : Text) (y : Shape) → HasShape h y (Str t) → IsSame (StrShape t) y
  of-text t NilShape e = cc
  of-text t (BoolShape c) e = cc
  of-text t (IntShape j) e = cc
  of-text t (StrShape u) e = cc
  of-text t (List' mark _ items) e = e.1
  of-text t (Mapping' mark _ fields) e = e.1
  of-text t (Error' _ detail) e = e
  of-text t (FunctionShape isolated graph) e = e
  of-text t (Future' _ results) e = e

  -- ---- all values

  -- the entries are these fields
  abbrev Fill : {n : _} → Row_of-Field n → List (Text × Value) → Type 0
  Fill fields es = (length es ≡ length (fields_in _ fields)) × HaveFields h fields es

  none-there : {R : Type 0} (P : Value → Type 0) (Q : List Value → Type 0) (vs : List Value) → vs ≡ [] → FrontIs h P Q vs → R
  none-there P Q [] e front = absurd front
  none-there P Q (v ∷ vs) e front = cc

  same-head : (k l : Text) (ks ls : List Text) → k ∷ ks ≡ l ∷ ls → k ≡ l
  same-head k l ks ls e = cc

  same-tail : (k l : Text) (ks ls : List Text) → k ∷ ks ≡ l ∷ ls → ks ≡ ls
  same-tail k l ks ls e = cc

  mutual
    pub one : (x y : Shape) (v : Value) → IsValid x → IsValid y → HasShape h x v → HasShape h y v → IsSame x y
    one NilShape y v vx vy hx hy = of-nil y (subst (HasShape h y) hx hy)
    one (BoolShape b) y v vx vy hx hy = of-truth b y (subst (HasShape h y) hx hy)
    one (IntShape i) y v vx vy hx hy = of-int i y (subst (HasShape h y) hx hy)
    one (StrShape t) y v vx vy hx hy = of-text t y (subst (HasShape h y) hx hy)
    one (List' mark _ items) NilShape (Struct n) vx vy hx hy = cc
    one (List' mark _ items) (BoolShape b) (Struct n) vx vy hx hy = cc
    one (List' mark _ items) (IntShape j) (Struct n) vx vy hx hy = cc
    one (List' mark _ items) (StrShape t) (Struct n) vx vy hx hy = cc
    one (List' mark _ items) (List' mark' _ items') (Struct n) vx vy hx hy = (
      hx.0 ∙ sym hy.0,
      both-at (slice_get h.structures n) (FrozenAnd (IsList h (HaveShapes h items))) (FrozenAnd (IsList h (HaveShapes h items'))) (AreSame items items') hx.1 hy.1
          (λ s p q. two-lists (HaveShapes h items) (HaveShapes h items') (AreSame items items') (λ vs a b. all-one _ _ items items' vs vx.1 vy.1 a b) s.members p.1 q.1),
    )
    one (List' mark _ items) (Mapping' mark' _ fields') (Struct n) vx vy hx hy =
        absurd (both-at (slice_get h.structures n) (FrozenAnd (IsList h (HaveShapes h items))) (FrozenAnd (IsMapping h (Fill fields'))) ⊥ hx.1 hy.1 (λ s p q. no-both (HaveShapes h items) (Fill fields') s.members p.1 q.1))
    one (List' mark _ items) (Error' _ detail') (Struct n) vx vy hx hy = absurd hy
    one (List' mark _ items) (FunctionShape isolated graph) (Struct n) vx vy hx hy = absurd hy
    one (List' mark _ items) (Future' _ results) (Struct n) vx vy hx hy = absurd hy
    one (List' mark _ items) y v vx vy hx hy = absurd hx.1
    one (Mapping' mark _ fields) NilShape (Struct n) vx vy hx hy = cc
    one (Mapping' mark _ fields) (BoolShape b) (Struct n) vx vy hx hy = cc
    one (Mapping' mark _ fields) (IntShape j) (Struct n) vx vy hx hy = cc
    one (Mapping' mark _ fields) (StrShape t) (Struct n) vx vy hx hy = cc
    one (Mapping' mark _ fields) (List' mark' _ items') (Struct n) vx vy hx hy =
        absurd (both-at (slice_get h.structures n) (FrozenAnd (IsMapping h (Fill fields))) (FrozenAnd (IsList h (HaveShapes h items'))) ⊥ hx.1 hy.1 (λ s p q. no-both (HaveShapes h items') (Fill fields) s.members q.1 p.1))
    one (Mapping' mark _ fields) (Mapping' mark' _ fields') (Struct n) vx vy hx hy = (
      hx.0 ∙ sym hy.0,
      both-at (slice_get h.structures n) (FrozenAnd (IsMapping h (Fill fields))) (FrozenAnd (IsMapping h (Fill fields'))) (FieldsSame fields fields') hx.1 hy.1
          (λ s p q. two-mappings (Fill fields) (Fill fields') (FieldsSame fields fields')
          (λ es a b. each-one _ _ fields fields' es
          (same-keys (fields_in _ fields) (fields_in _ fields') es vx.1 vy.1 a.0 b.0 (fields-entries h _ fields es a.1) (fields-entries h _ fields' es b.1))
          vx.3 vy.3 a.1 b.1) s.members p.1 q.1),
    )
    one (Mapping' mark _ fields) (Error' _ detail') (Struct n) vx vy hx hy = absurd hy
    one (Mapping' mark _ fields) (FunctionShape isolated graph) (Struct n) vx vy hx hy = absurd hy
    one (Mapping' mark _ fields) (Future' _ results) (Struct n) vx vy hx hy = absurd hy
    one (Mapping' mark _ fields) y v vx vy hx hy = absurd hx.1
    one (Error' _ detail) NilShape (Error n) vx vy hx hy = cc
    one (Error' _ detail) (BoolShape b) (Error n) vx vy hx hy = cc
    one (Error' _ detail) (IntShape j) (Error n) vx vy hx hy = cc
    one (Error' _ detail) (StrShape t) (Error n) vx vy hx hy = cc
    one (Error' _ detail) (List' mark' _ items') (Error n) vx vy hx hy = absurd hy.1
    one (Error' _ detail) (Mapping' mark' _ fields') (Error n) vx vy hx hy = absurd hy.1
    one (Error' _ detail) (Error' _ detail') (Error n) vx vy hx hy =
        both-at (slice_get h.errors n) (λ e. HasShape h detail (Struct e.detail)) (λ e. HasShape h detail' (Struct e.detail)) (IsSame detail detail') hx hy
        (λ e p q. one detail detail' (Struct e.detail) vx.1 vy.1 p q)
    one (Error' _ detail) (FunctionShape isolated graph) (Error n) vx vy hx hy = absurd hy
    one (Error' _ detail) (Future' _ results) (Error n) vx vy hx hy = absurd hy
    one (Error' _ detail) y v vx vy hx hy = absurd hx
    one (FunctionShape isolated graph) y v vx vy hx hy = absurd hx
    one (Future' _ results) y v vx vy hx hy = absurd hx

    all-one : (n m : _) (row : Row_of-Shape n) (row' : Row_of-Shape m) (vs : List Value) → AreValid row → AreValid row' → HaveShapes h row vs → HaveShapes h row' vs → AreSame row row'
    all-one n m end_of-Shape end_of-Shape vs vx vy hx hy = tt
    all-one n m end_of-Shape (more_of-Shape y ys) vs vx vy hx hy = none-there (HasShape h y) (HaveShapes h ys) vs hx hy
    all-one n m (more_of-Shape x xs) end_of-Shape vs vx vy hx hy = none-there (HasShape h x) (HaveShapes h xs) vs hy hx
    all-one n m (more_of-Shape x xs) (more_of-Shape y ys) [] vx vy hx hy = absurd hx
    all-one n m (more_of-Shape x xs) (more_of-Shape y ys) (v ∷ vs) vx vy hx hy = (one x y v vx.0 vy.0 hx.0 hy.0, all-one _ _ xs ys vs vx.1 vy.1 hx.1 hy.1)

    each-one : (n m : _) (row : Row_of-Field n) (row' : Row_of-Field m) (es : List (Text × Value)) → keys_of (fields_in n row) ≡ keys_of (fields_in m row') → FieldsValid row → FieldsValid row' → HaveFields h row es → HaveFields h row' es → FieldsSame row row'
    each-one n m end_of-Field end_of-Field es keys vx vy hx hy = tt
    each-one n m end_of-Field (more_of-Field key' y more') es keys vx vy hx hy = cc
    each-one n m (more_of-Field key x more) end_of-Field es keys vx vy hx hy = cc
    each-one n m (more_of-Field key x more) (more_of-Field key' y more') es keys vx vy hx hy =
        let same : key ≡ key' = same-head key key' _ _ keys in (
          same,
          both-at (entry_at es key) (HasShape h x) (HasShape h y) (IsSame x y) hx.0 (subst (λ k. IsSomeAnd (entry_at es k) (HasShape h y)) (sym same) hy.0) (λ v p q. one x y v vx.0 vy.0 p q),
          each-one _ _ more more' es (same-tail key key' _ _ keys) vx.1 vy.1 hx.1 hy.1,
        )
