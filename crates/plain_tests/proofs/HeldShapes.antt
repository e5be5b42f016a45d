-- The shape of a list or mapping, by those of its members.
use Rattle.std.proofs.Common.{◌≡◌, ◌⊎◌, ⊎_elim, inl, inr, ◌∙◌, ℕ, ◌+◌, ◌<◌, ◌≤◌, Bool, true, false, cond, List, [], ◌∷◌, All, Contains, Option, Some, None, IsSomeAnd, IfSome, is_some, length, get_or, refl, sym, ap, subst, arith}
use Rattle.std.specs.List.{AllZip, Any}
use Rattle.std.specs.Ordering.{nat_cmp}
use Rattle.std.specs.Cmp.Lexicographic.{slice_cmp}
use Rattle.std.proofs.Math.ListN.{get_or-map, length-map}
use Rattle.std.proofs.lemmas.Bool.{false≢true}
use Rattle.std.proofs.lemmas.Cmp.{nat_list_eq_equiv}
use Rattle.std.proofs.lemmas.List.Elements.{All-nil, All-cons, All-head, All-tail, All-contains_itself, All-weaker}
use Rattle.std.proofs.lemmas.Map.Made.{length-le_from_is_member}
use Rattle.std.proofs.lemmas.Map.Views.{list_any-from_Contains}
use Rattle.bal_base.specs.declared.text.Text.{Text}
use Rattle.bal_base.specs.declared.shape.Shape.{Shape, Nil as NilShape, Bool as BoolShape, Int as IntShape, Str as StrShape, List as AList, Mapping as AMapping, List', Mapping', Error', Function as FunctionShape, Future', Row_of-Shape, end_of-Shape, more_of-Shape, items-the_row-Shape as shapes_in, items_hidden-the_row-Shape-0, Row_of-Fields-items-2 as Row_of-Field, end_of-Fields-items-2 as end_of-Field, more_of-Fields-items-2 as more_of-Field, items-the_row-Fields-items-2 as fields_in, items_hidden-the_row-Fields-items-2-1}
use Rattle.bal_base.specs.declared.shape.Shapes.{Shapes}
use Rattle.bal_base.specs.declared.shape.Fields.{Fields}
use Rattle.bal_base.specs.Levels.{greatest, greatest_field}
use Rattle.bal_base.specs.Valid.{IsFrozen, IsText, IsValid, AreValid, FieldsValid, KeysRise, AreTexts}
use Rattle.bal_base.proofs.Rows.{row_of, fields_of, IsValid-List, IsValid-Mapping}
use Rattle.bal_base.proofs.SameShapes.{keys_of}
use Rattle.type_diagrams.proofs.Elements.{All-unmap}
use Rattle.type_model.specs.Places.{is_same_text}
use Rattle.type_model.proofs.TextOrder.{KeysSorted}
use Rattle.empty_product.proofs.KeyInsert.{rise-keys as sorted-from}
use Rattle.empty_product.proofs.Zipped.{Any-first, Any-is, Any-later, Any-more, AllZip-length}
use Rattle.value_model.specs.declared.value.Value.{Value}
use Rattle.value_model.specs.Heap.{Heap, Items, Entries, entry_at}
use Rattle.value_model.specs.Stands.{HasShape, HaveShapes, HaveFields}
use Rattle.plain_tests.specs.Shapes.{AreKeysOf, FindsHeld, HasNone, IsField, IsInner, IsNamed}
use Rattle.value_model.proofs.EntryKeys.{Contains-split, HasEntry, at-Contains, found-in, keys-at-most, keys-fill, same-text, sorted-apart, text-same}
use Rattle.value_model.proofs.OneShape.{fields-entries, rise-keys, there-some}

-- ---- pairs of lists

all-second : {X Y : Type 0} (R : X → Y → Type 0) (P : Y → Type 0) → ((x : X) (y : Y) → R x y → P y) → (xs : List X) (ys : List Y) → AllZip R xs ys → All P ys
all-second R P f [] [] h = All-nil P
all-second R P f [] (y ∷ ys) h = absurd h
all-second R P f (x ∷ xs) [] h = absurd h
all-second R P f (x ∷ xs) (y ∷ ys) h = All-cons P y ys (f x y h.0) (all-second R P f xs ys h.1)

module _ (h : Heap) (most : ℕ) where
  -- ---- lists

  none-row : (n : _) (row : Row_of-Shape n) (vs : List Value) → AreValid row → All IsFrozen (shapes_in n row) → HaveShapes h row vs → Any (HasNone h most) vs → most < greatest row
  none-row n end_of-Shape vs valid frozen has any = let (i, v, lt, at, none) = any in absurd (omega (arith, lt, ap length has))
  none-row n (more_of-Shape x xs) [] valid frozen has any = absurd has
  none-row n (more_of-Shape x xs) (v ∷ vs) valid frozen has any =
      ⊎_elim
      (λ (none : HasNone h most v). let l = none x (valid.0, All-head IsFrozen x _ frozen, has.0) in omega (arith, l))
      (λ (rest : Any (HasNone h most) vs). let l = none-row _ xs vs valid.1 (All-tail IsFrozen x _ frozen) has.1 rest in omega (arith, l))
      (Any-more (HasNone h most) v vs any)

  pub list_none : (vs : List Value) → Any (HasNone h most) vs → FindsHeld h most (Items vs) None
  list_none vs any NilShape valid frozen held = absurd held
  list_none vs any (BoolShape b) valid frozen held = absurd held
  list_none vs any (IntShape i) valid frozen held = absurd held
  list_none vs any (StrShape t) valid frozen held = absurd held
  list_none vs any (List' mark _ items) valid frozen held = let l = none-row _ items vs valid.1 (valid.0 held.0) held.1 any in omega (arith, l)
  list_none vs any (Mapping' mark _ fields) valid frozen held = absurd held.1
  list_none vs any (Error' _ detail) valid frozen held = absurd held
  list_none vs any (FunctionShape isolated graph) valid frozen held = absurd held
  list_none vs any (Future' _ results) valid frozen held = absurd held

  row-has : (n : _) (row : Row_of-Shape n) (vs : List Value) → AllZip (IsInner h) vs (shapes_in n row) → HaveShapes h row vs
  row-has n end_of-Shape [] all = refl
  row-has n end_of-Shape (v ∷ vs) all = absurd all
  row-has n (more_of-Shape x xs) [] all = absurd all
  row-has n (more_of-Shape x xs) (v ∷ vs) all = (all.0.2, row-has _ xs vs all.1)

  pub list_some : (vs : List Value) (items : Shapes) → AllZip (IsInner h) vs items.items.items → FindsHeld h most (Items vs) (Some (AList true items))
  list_some vs items all =
      let row = row_of (AList true items) in
      let zip = subst (AllZip (IsInner h) vs) (sym (items_hidden-the_row-Shape-0 items.items)) all in (
        (IsValid-List true items).1 (λ m. all-second (IsInner h) IsFrozen (λ v x is. is.1) vs items.items.items all, all-second (IsInner h) IsValid (λ v x is. is.0) vs items.items.items all),
        refl,
        (refl, row-has row.0 row.1 vs zip),
      )

  -- ---- mappings

  named-entry : (es : List (Text × Value)) (key : Text) → Any (IsNamed key) es → HasEntry es key
  named-entry [] key any = let (i, e, lt, at, named) = any in absurd (omega (arith, lt))
  named-entry (d ∷ es) key any = by (is_same_text d.0 key) refl (named-entry es key) (Any-more (IsNamed key) d es any)
    where
      by : (b : Bool) → is_same_text d.0 key ≡ b → (Any (IsNamed key) es → HasEntry es key) → IsNamed key d ⊎ Any (IsNamed key) es → is_some (cond b (Some d.1) (entry_at es key)) ≡ true
      by true e rest any = refl
      by false e rest (inr later) = rest later
      by false e rest (inl named) = absurd (false≢true (sym e ∙ text-same d.0 key named))

  entry-named : (es : List (Text × Value)) (key : Text) → HasEntry es key → Any (IsNamed key) es
  entry-named [] key there = absurd (false≢true there)
  entry-named (d ∷ es) key there = by (is_same_text d.0 key) refl (entry-named es key) there
    where
      by : (b : Bool) → is_same_text d.0 key ≡ b → (HasEntry es key → Any (IsNamed key) es) → is_some (cond b (Some d.1) (entry_at es key)) ≡ true → Any (IsNamed key) (d ∷ es)
      by true e rest there = Any-first (IsNamed key) d es (same-text d.0 key e)
      by false e rest there = Any-later (IsNamed key) d es (rest there)

  module _ (es : List (Text × Value)) (keys : List Text) (are : AreKeysOf es keys) where
    key-entry : (key : Text) → Contains keys key → HasEntry es key
    key-entry key c =
        ⊎_elim (λ (none : Contains [] key). absurd (omega (arith, none.1))) (λ (any : Any (IsNamed key) es). named-entry es key any)
        (at-Contains (λ k. Contains [] k ⊎ Any (IsNamed k) es) keys are.1.among key c)

    entry-key : (key : Text) → HasEntry es key → Contains keys key
    entry-key key there = are.1.added key (entry-named es key there)

    sorted : KeysSorted keys
    sorted = sorted-from keys are.0.rise

    -- at most as many fields as keys
    as-many : (fs : List (Text × Shape)) → KeysRise fs → All (HasEntry es) (keys_of fs) → length fs ≤ length keys
    as-many fs rise each =
        let long = length-le_from_is_member nat_list_eq_equiv (keys_of fs) keys (sorted-apart (keys_of fs) (rise-keys fs rise))
        (λ k m. list_any-from_Contains nat_list_eq_equiv k keys (entry-key k (at-Contains (HasEntry es) (keys_of fs) each k (found-in k (keys_of fs) m)))) in
        omega (arith, long, length-map fs (λ f. f.0))

    pub mapping_short : length keys < length es → FindsHeld h most (Entries es) None
    mapping_short short NilShape valid frozen held = absurd held
    mapping_short short (BoolShape b) valid frozen held = absurd held
    mapping_short short (IntShape i) valid frozen held = absurd held
    mapping_short short (StrShape t) valid frozen held = absurd held
    mapping_short short (List' mark _ items) valid frozen held = absurd held.1
    mapping_short short (Mapping' mark _ fields) valid frozen held =
        let l = as-many (fields_in _ fields) valid.1 (fields-entries h _ fields es held.1.1) in
        absurd (omega (arith, l, held.1.0, short))
    mapping_short short (Error' _ detail) valid frozen held = absurd held
    mapping_short short (FunctionShape isolated graph) valid frozen held = absurd held
    mapping_short short (Future' _ results) valid frozen held = absurd held

    none-field : (n : _) (row : Row_of-Field n) → FieldsValid row → All (λ f. IsFrozen f.1) (fields_in n row) → HaveFields h row es → (key : Text) → Contains (keys_of (fields_in n row)) key → IfSome (entry_at es key) (HasNone h most) → most < greatest_field row
    none-field n end_of-Field valid frozen has key c none = absurd (omega (arith, c.1))
    none-field n (more_of-Field other x more) valid frozen has key c none =
        ⊎_elim
        (λ (same : other ≡ key).
        let at = there-some (HasShape h x) (entry_at es other) has.0 in
        let lacks : HasNone h most at.0 = subst (λ o. IfSome o (HasNone h most)) at.1 (subst (λ k. IfSome (entry_at es k) (HasNone h most)) (sym same) none) in
        let l = lacks x (valid.0, All-head (λ (f : Text × Shape). IsFrozen f.1) (other, x) _ frozen, at.2) in
        omega (arith, l))
        (λ (rest : Contains (keys_of (fields_in _ more)) key).
        let l = none-field _ more valid.1 (All-tail (λ (f : Text × Shape). IsFrozen f.1) (other, x) _ frozen) has.1 key rest none in
        omega (arith, l))
        (Contains-split other key _ c)

    pub mapping_none : Any (λ key. IfSome (entry_at es key) (HasNone h most)) keys → FindsHeld h most (Entries es) None
    mapping_none any NilShape valid frozen held = absurd held
    mapping_none any (BoolShape b) valid frozen held = absurd held
    mapping_none any (IntShape i) valid frozen held = absurd held
    mapping_none any (StrShape t) valid frozen held = absurd held
    mapping_none any (List' mark _ items) valid frozen held = absurd held.1
    mapping_none any (Mapping' mark _ fields) valid frozen held =
        let (key, among, none) = Any-is (λ key. IfSome (entry_at es key) (HasNone h most)) keys any in
        let fs = fields_in _ fields in
        let long : length es ≤ length (keys_of fs) = omega (arith, held.1.0, length-map fs (λ f. f.0)) in
        let c = keys-fill es (keys_of fs) (rise-keys fs valid.1) (fields-entries h _ fields es held.1.1) long key (key-entry key among) in
        let l = none-field _ fields valid.3 (valid.2 held.0) held.1.1 key c none in
        omega (arith, l)
    mapping_none any (Error' _ detail) valid frozen held = absurd held
    mapping_none any (FunctionShape isolated graph) valid frozen held = absurd held
    mapping_none any (Future' _ results) valid frozen held = absurd held

    -- ---- the fields that were found

    field-keys : (keys : List Text) (fs : List (Text × Shape)) → AllZip (IsField h es) keys fs → keys_of fs ≡ keys
    field-keys [] [] all = refl
    field-keys [] (f ∷ fs) all = absurd all
    field-keys (k ∷ ks) [] all = absurd all
    field-keys (k ∷ ks) (f ∷ fs) all = λ i. all.0.0 i ∷ field-keys ks fs all.1 i

    abbrev Found : Text × Shape → Type 0
    Found f = IsSomeAnd (entry_at es f.0) (λ v. IsInner h v f.1)

    some-at : {P : Value → Type 0} {Q : Type 0} (o : Option Value) → ((v : Value) → P v → Q) → IsSomeAnd o P → Q
    some-at (Some v) f p = f v p
    some-at None f p = absurd p

    with-shape : (o : Option Value) (x : Shape) → IsSomeAnd o (λ v. IsInner h v x) → IsSomeAnd o (HasShape h x)
    with-shape (Some v) x p = p.2
    with-shape None x p = p

    fields-have : (n : _) (row : Row_of-Field n) → All Found (fields_in n row) → HaveFields h row es
    fields-have n end_of-Field all = tt
    fields-have n (more_of-Field key x more) all = (with-shape (entry_at es key) x (All-head Found (key, x) _ all), fields-have _ more (All-tail Found (key, x) _ all))

    rises : (fs : List (Text × Shape)) → keys_of fs ≡ keys → KeysRise fs
    rises fs same k d lt =
        let at : (j : ℕ) → (get_or fs j d).0 ≡ get_or keys j d.0 = λ j. sym (get_or-map (λ f. f.0) fs j d) ∙ ap (λ ks. get_or ks j d.0) same in
        let long : length fs ≡ length keys = sym (length-map fs (λ f. f.0)) ∙ ap length same in
        (λ i. slice_cmp nat_cmp (at k i) (at (k + 1) i)) ∙ are.0.rise k d.0 (omega (arith, lt, long))

    pub mapping_some : (fields : Fields) → length es ≤ length keys → AllZip (IsField h es) keys fields.items.items → FindsHeld h most (Entries es) (Some (AMapping true fields))
    mapping_some fields long all =
        let fs = fields.items.items in
        let row = fields_of (AMapping true fields) in
        let hidden = items_hidden-the_row-Fields-items-2-1 fields.items in
        let same : keys_of fs ≡ keys = field-keys keys fs all in
        let found : All Found fs = all-second (IsField h es) Found (λ k f is. subst (λ key. IsSomeAnd (entry_at es key) (λ v. IsInner h v f.1)) (sym is.0) is.1) keys fs all in
        let each : (P : Shape → Type 0) → ((v : Value) (x : Shape) → IsInner h v x → P x) → All (λ f. P f.1) fs = λ P take. all-second (IsField h es) (λ f. P f.1) (λ k f is. some-at (entry_at es k) (λ v inner. take v f.1 inner) is.1) keys fs all in
        let shorter : length keys ≤ length es = keys-at-most es keys sorted (All-weaker (Contains keys) (HasEntry es) key-entry keys (All-contains_itself keys)) in
        let as_long : length fs ≡ length keys = AllZip-length (IsField h es) keys fs all in
        let exact : length es ≡ length fs = omega (arith, long, shorter, as_long) in
        let texts : AreTexts fs = All-unmap IsText (λ f. f.0) fs (subst (All IsText) (sym same) are.0.texts) in (
          (IsValid-Mapping true fields).1 (texts, rises fs same, (λ m. each IsFrozen (λ v x is. is.1)), each IsValid (λ v x is. is.0)),
          refl,
          (refl, (exact ∙ sym (ap length hidden), fields-have row.0 row.1 (subst (All Found) (sym hidden) found))),
        )
