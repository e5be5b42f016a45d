-- Items and members are taken out of structures, and given.
use Rattle.std.proofs.Common.{◌≡◌, ◌<◌, ◌≤◌, ◌-◌, ◌^◌, ◌∙◌, ℕ, suc, Bool, true, false, List, [], ◌∷◌, Option, Some, None, length, refl, sym, ap, subst, arith}
use Rattle.std.proofs.lemmas.List.{length-append, length-drop, length-take-le}
use Rattle.std.proofs.lemmas.List.Elements.{All-append, All-cons, All-drop, All-head, All-tail, All-take}
use Rattle.std.specs.Prelude.{All, IsTrue, drop, if◌then◌else◌, option_and_then, option_to_list, remove, slice_get, take}
use Rattle.bal_base.specs.declared.text.Text.{Text}
use Rattle.bal_base.specs.declared.shape.Shape.{Shape}
use Rattle.bal_base.specs.Valid.{IsText}
use Rattle.type_model.specs.declared.basic.SemType.{SemType}
use Rattle.type_model.specs.Places.{is_same_text}
use Rattle.operations.specs.declared.library.LibraryCall.TheVariants.{Pop, RemoveItem, RemoveKey}
use Rattle.operations.specs.LibraryTyping.{AtIndexes, AtKeys}
use Rattle.operations.specs.Rows.{ResultHas, Surroundings}
use Rattle.value_model.specs.declared.filler.Filler.{Filler}
use Rattle.value_model.specs.declared.panics.PanicName.TheVariants.{IndexOutOfRange, InherentTypeViolation, KeyNotFound}
use Rattle.value_model.specs.declared.value.Value.{Value}
use Rattle.value_model.specs.declared.value.Value.TheVariants.{Int, Str, Struct}
use Rattle.value_model.specs.Heap.{AreAlike, Entries, IsThere, Items, Members, Structure, entry_at, values_of}
use Rattle.value_model.specs.Stands.{MembersBelong}
use Rattle.value_model.specs.Valid.{AreValidMembers, IsValidValue}
use Rattle.op_model.specs.Common.{Common}
use Rattle.op_model.specs.Library.{RemovesAt, RemovesKey, last_place}
use Rattle.op_model.specs.Rows.{ListAt, MappingAt, found, gives, panics, place_of, size_of}
use Rattle.op_model.specs.Stores.{StillFits, atom_of, remove_entry, stored}
use Rattle.machine_model.specs.Runs.{Running}
use Rattle.stack_code.specs.declared.code.Code.{Code}
use Rattle.stack_code.specs.Good.{GoodCommon}
use Rattle.stack_code.specs.Values.{AreKeysApart, ComeOnce, AllFit, Fits, IsMade, code_types}
use Rattle.stack_code.specs.WellTyped.{WellTyped}
use Rattle.code_keeping.specs.Kinds.{Ints, Lists, Mappings, Strings}
use Rattle.code_keeping.proofs.Coming.{Does, IsTyped, does-else, does-unless, panics-typed}
use Rattle.code_keeping.proofs.Growing.{later, made-there}
use Rattle.code_keeping.proofs.Lists.{all-at, of-some, there}
use Rattle.code_keeping.proofs.OfKind.{of-kind}
use Rattle.code_keeping.proofs.Operands.{a-string, an-int, integers, lists, mappings, one-fit, strings, two-fit}
use Rattle.code_keeping.proofs.Serving.{all-to}
use Rattle.code_keeping.proofs.Staying.{fits-later}
use Rattle.code_keeping.proofs.Valuing.{own-same}
use Rattle.code_keeping_heap.proofs.Keyed.{at-mapping}
use Rattle.code_keeping_heap.proofs.Mapped.{a-mapping, entries-made, entry-all, in-mapping}
use Rattle.code_keeping_heap.proofs.Reading.{a-list, at-list}
use Rattle.code_keeping_library.proofs.Calls.{Answered, does-call-at}
use Rattle.code_keeping_library.proofs.Lists.{Row, of-row}
use Rattle.code_keeping_library.proofs.Members.{item-fits}
use Rattle.code_keeping_stores.proofs.Keys.{values-all}
use Rattle.code_keeping_stores.proofs.Storing.{IsFine, d, given-typed, grown, grows, members-then, world-then}
use Rattle.code_keeping_changes.specs.Laws.{RemovalsAreDone}

-- ---- what is left

left-all : {A : Type 0} (P : A → Type 0) (xs : List A) (k : ℕ) → All P xs → All P (remove xs k)
left-all P xs k h = All-append P (take k xs) (drop (suc k) xs) (All-take P k xs h) (All-drop P (suc k) xs h)

left-short : {A : Type 0} (xs : List A) (k : ℕ) → k < length xs → length (remove xs k) ≤ length xs
left-short xs k lt =
    let l = length-append (take k xs) (drop (suc k) xs) in
    let f = length-take-le k xs (omega (arith, lt)) in
    let b = length-drop (suc k) xs in
    omega (arith, l, f, b, lt)

left-entries : (P : Text × Value → Type 0) (es : List (Text × Value)) (key : Text) → All P es → All P (remove_entry es key)
left-entries P [] key h = h
left-entries P (e ∷ es) key h = by (is_same_text e.0 key) (left-entries P es key (All-tail P e es h))
  where
    by : (b : Bool) → All P (remove_entry es key) → All P (if b then es else e ∷ remove_entry es key)
    by true more = All-tail P e es h
    by false more = All-cons P e (remove_entry es key) (All-head P e es h) more

left-few : (es : List (Text × Value)) (key : Text) → length (remove_entry es key) ≤ length es
left-few [] key = omega arith
left-few (e ∷ es) key = by (is_same_text e.0 key) (left-few es key)
  where
    by : (b : Bool) → length (remove_entry es key) ≤ length es → length (if b then es else e ∷ remove_entry es key) ≤ length (e ∷ es)
    by true l = let q : length es ≤ length (e ∷ es) = omega arith in q
    by false l = let q : length (e ∷ remove_entry es key) ≤ length (e ∷ es) = omega (arith, l) in q

-- keys that are apart stay apart
left-none : (es : List (Text × Value)) (key other : Text) → entry_at es other ≡ None → entry_at (remove_entry es key) other ≡ None
left-none [] key other none = refl
left-none (e ∷ es) key other none = by (is_same_text e.0 key) (λ k. left-none es key other k) (is_same_text e.0 other) refl none
  where
    by : (b : Bool) → (entry_at es other ≡ None → entry_at (remove_entry es key) other ≡ None) → (o : Bool) → is_same_text e.0 other ≡ o → (if o then Some e.1 else entry_at es other) ≡ None →
        entry_at (if b then es else e ∷ remove_entry es key) other ≡ None
    by b more true is none = absurd (let q : ⊥ = cc in q)
    by true more false is none = none
    by false more false is none = ap (λ o. if o then Some e.1 else entry_at (remove_entry es key) other) is ∙ more none

left-apart : (es : List (Text × Value)) (key : Text) → ComeOnce es → ComeOnce (remove_entry es key)
left-apart [] key h = h
left-apart (e ∷ es) key (none, h) = by (is_same_text e.0 key) (left-apart es key h)
  where
    by : (b : Bool) → ComeOnce (remove_entry es key) → ComeOnce (if b then es else e ∷ remove_entry es key)
    by true more = h
    by false more = (left-none es key e.0 none, more)

-- ---- the structure without it, and what is given

module _ (code : Code) (t : WellTyped code) (c : Common) (good : GoodCommon code c Running) (result : Option SemType) (n : ℕ) (s : Structure) (e : slice_get c.world.heap.structures n ≡ Some s) (mutable : IsTrue s.mutable)
    (m : Members) (kind : AreAlike s.members m) (still : StillFits (code_types code) c.world s m) (made : All (IsMade code c) (values_of m)) (valid : AreValidMembers m) (apart : AreKeysApart m) (few : size_of m < 2 ^ 63) where
  abbrev after : Common
  after = d code c good n s e mutable m kind []

  fine : IsFine code c good n s e mutable m kind []
  fine =
      record {
        belong = λ a definition ea ed h.
            members-then code c good n s e mutable m kind [] a definition ea ed (all-to (IsMade code c) (IsThere c.world.heap) (λ v h. h.0) (values_of m) made)
            (of-some (MembersBelong (code_types code) c.world.heap m) (atom_of (code_types code) s) definition (ap (λ o. option_and_then (λ b. slice_get code.atoms b) o) ea ∙ ed) still);
        made = all-to (IsMade code c) (IsMade code after) (made-there code c (world-then code c good n s e mutable m kind []) good.nearly.heap (grows code c good n s e mutable m kind [])) (values_of m) made;
        valid = valid;
        apart = apart;
      }

  removed-typed : (P : Shape → Type 0) (v : Value) → ((r : SemType) → ResultHas code.atoms (Some r) P → Fits code c v r) → ResultHas code.atoms result P → IsTyped code c good result (gives (stored c.world n s m []) v)
  removed-typed P v fits has =
      given-typed code c good n s e mutable m kind [] fine few (λ j x ex. absurd (let q : ⊥ = cc in q)) (v ∷ []) result (by result has)
    where
      fits-then : (r : SemType) → Fits code c v r → Fits code after v r
      fits-then r f =
          fits-later code None c after
          (later code c (world-then code c good n s e mutable m kind []) good.nearly.heap (grows code c good n s e mutable m kind []) (grown code c good n s e mutable m kind [] fine few (λ j x ex. absurd (let q : ⊥ = cc in q))) None) v r f

      by : (r : Option SemType) → ResultHas code.atoms r P → AllFit code after (v ∷ []) (option_to_list r)
      by (Some r) has = (fits-then r (fits r has), tt)
      by None has = absurd has

module _ (code : Code) (t : WellTyped code) (c : Common) (good : GoodCommon code c Running) (result : Option SemType) (n : ℕ) (s : Structure) (e : slice_get c.world.heap.structures n ≡ Some s) (a : SemType) (fits : Fits code c (Struct n) a) where
  does-remove : (vs : List Value) (is : s.members ≡ Items vs) (o : Option ℕ) → ResultHas code.atoms result (AtIndexes code.atoms a) → Does code c good result (RemovesAt (code_types code) c.world n s vs o)
  does-remove vs is None has = does-else code c good result (panics c.world IndexOutOfRange) (panics-typed code c good result IndexOutOfRange refl)
  does-remove vs is (Some k) has =
      does-unless code c good result (k < length vs) (panics c.world IndexOutOfRange) _ (panics-typed code c good result IndexOutOfRange refl) (λ lt.
      does-unless code c good result (IsTrue s.mutable) (panics c.world InherentTypeViolation) _ (panics-typed code c good result InherentTypeViolation refl) (λ mutable.
      does-unless code c good result (StillFits (code_types code) c.world s (Items (remove vs k))) (panics c.world InherentTypeViolation) _ (panics-typed code c good result InherentTypeViolation refl) (λ still.
      does-else code c good result (found (stored c.world n s (Items (remove vs k)) []) IndexOutOfRange (slice_get vs k))
      (let (v, ev) = there vs k lt in
      subst (λ o. IsTyped code c good result (found (stored c.world n s (Items (remove vs k)) []) IndexOutOfRange o)) (sym ev)
      (removed-typed code t c good result n s e mutable (Items (remove vs k)) (subst (λ x. AreAlike x (Items (remove vs k))) (sym is) tt) still
      (left-all (IsMade code c) vs k (subst (λ x. All (IsMade code c) (values_of x)) is (all-at (λ s. All (IsMade code c) (values_of s.members)) c.world.heap.structures n s good.nearly.heap.members e)))
      (left-all IsValidValue vs k (subst AreValidMembers is (all-at (λ s. AreValidMembers s.members) c.world.heap.structures n s good.nearly.heap.valid.members e))) tt
      (let l = left-short vs k lt in let short = subst (λ x. size_of x < 2 ^ 63) is (all-at (λ s. size_of s.members < 2 ^ 63) c.world.heap.structures n s good.nearly.heap.short e) in omega (arith, l, short))
      (AtIndexes code.atoms a) v (λ r within. item-fits code t c good n s vs e is a fits v (k, ev) r within) has)))))

  does-remove-key : (es : List (Text × Value)) (is : s.members ≡ Entries es) (key : Text) (o : Option Value) → entry_at es key ≡ o → ResultHas code.atoms result (AtKeys code.atoms a) → Does code c good result (RemovesKey (code_types code) c.world n s es key o)
  does-remove-key es is key None ev has = does-else code c good result (panics c.world KeyNotFound) (panics-typed code c good result KeyNotFound refl)
  does-remove-key es is key (Some v) ev has =
      let short = subst (λ x. size_of x < 2 ^ 63) is (all-at (λ s. size_of s.members < 2 ^ 63) c.world.heap.structures n s good.nearly.heap.short e) in
      does-unless code c good result (IsTrue s.mutable) (panics c.world InherentTypeViolation) _ (panics-typed code c good result InherentTypeViolation refl) (λ mutable.
      does-unless code c good result (StillFits (code_types code) c.world s (Entries (remove_entry es key))) (panics c.world InherentTypeViolation) _ (panics-typed code c good result InherentTypeViolation refl) (λ still.
      does-else code c good result (gives (stored c.world n s (Entries (remove_entry es key)) []) v)
      (removed-typed code t c good result n s e mutable (Entries (remove_entry es key)) (subst (λ x. AreAlike x (Entries (remove_entry es key))) (sym is) tt) still
      (values-all (IsMade code c) (remove_entry es key) (left-entries (λ e. IsMade code c e.1) es key (entries-made code t c good.nearly.heap n s es e is short)))
      (left-entries (λ e. IsText e.0 × IsValidValue e.1) es key (subst AreValidMembers is (all-at (λ s. AreValidMembers s.members) c.world.heap.structures n s good.nearly.heap.valid.members e)))
      (left-apart es key (subst AreKeysApart is (all-at (λ s. AreKeysApart s.members) c.world.heap.structures n s good.nearly.heap.apart e)))
      (let l = left-few es key in omega (arith, l, short))
      (AtKeys code.atoms a) v (λ r within. (
        good.nearly.heap.closed,
        entry-all (λ e. IsMade code c e.1) es key v (entries-made code t c good.nearly.heap n s es e is short) ev,
        (λ x ok stands. let (w, valid, inside, at, any) = in-mapping code t c good.nearly.heap n s es e is short key v ev x ok stands a fits in within x ok (w, (valid, inside), any)),
      )) has)))

-- ---- rows

module _ (fillers : ℕ → List Filler) (code : Code) (t : WellTyped code) (place : Surroundings) (c : Common) where
  pub pop : Row fillers code t place c Pop
  pop atom count names operands result vs caller good (long, typed) fit =
      one-fit code c (Answered fillers code t place c Pop atom count caller result) operands vs _ typed fit
      (λ a v (within, (none, has)) f.
      a-list c.world.heap (λ z. Fits code c z a → Answered fillers code t place c Pop atom count caller result (z ∷ [])) v (of-kind code t c good.nearly.heap (λ k. k ≡ Lists) v a f (λ x h. lists x (within x h)))
      (λ n s items e is fn. does-call-at fillers code t place c good result Pop atom count caller (Struct n ∷ [])
      (subst (λ own. Does code c good result (λ came. ListAt c.world n (λ s vs. RemovesAt own c.world n s vs (last_place vs) came))) (sym (own-same fillers code))
      (at-list code t c good result n s items e is (λ s vs came. RemovesAt (code_types code) c.world n s vs (last_place vs) came) (does-remove code t c good result n s e a fn items is (last_place items) has)))) f)

  pub remove-item : Row fillers code t place c RemoveItem
  remove-item atom count names operands result vs caller good (long, typed) fit =
      two-fit code c (Answered fillers code t place c RemoveItem atom count caller result) operands vs _ typed fit
      (λ a b v w (first, second, (none, has)) f g.
      a-list c.world.heap (λ z. Fits code c z a → Answered fillers code t place c RemoveItem atom count caller result (z ∷ w ∷ [])) v (of-kind code t c good.nearly.heap (λ k. k ≡ Lists) v a f (λ x h. lists x (first x h)))
      (λ n s items e is fn.
      an-int c.world.heap (λ z. Answered fillers code t place c RemoveItem atom count caller result (Struct n ∷ z ∷ [])) w (of-kind code t c good.nearly.heap (λ k. k ≡ Ints) w b g (λ x h. integers x (second x h)))
      (λ i. does-call-at fillers code t place c good result RemoveItem atom count caller (Struct n ∷ Int i ∷ [])
      (subst (λ own. Does code c good result (λ came. ListAt c.world n (λ s vs. RemovesAt own c.world n s vs (place_of i) came))) (sym (own-same fillers code))
      (at-list code t c good result n s items e is (λ s vs came. RemovesAt (code_types code) c.world n s vs (place_of i) came) (does-remove code t c good result n s e a fn items is (place_of i) has))))) f)

  pub remove-key : Row fillers code t place c RemoveKey
  remove-key atom count names operands result vs caller good (long, typed) fit =
      two-fit code c (Answered fillers code t place c RemoveKey atom count caller result) operands vs _ typed fit
      (λ a b v w (first, second, (none, has)) f g.
      a-mapping c.world.heap (λ z. Fits code c z a → Answered fillers code t place c RemoveKey atom count caller result (z ∷ w ∷ [])) v (of-kind code t c good.nearly.heap (λ k. k ≡ Mappings) v a f (λ x h. mappings x (first x h)))
      (λ n s es e is fn.
      a-string c.world.heap (λ z. Answered fillers code t place c RemoveKey atom count caller result (Struct n ∷ z ∷ [])) w (of-kind code t c good.nearly.heap (λ k. k ≡ Strings) w b g (λ x h. strings x (second x h)))
      (λ key. does-call-at fillers code t place c good result RemoveKey atom count caller (Struct n ∷ Str key ∷ [])
      (subst (λ own. Does code c good result (λ came. MappingAt c.world n (λ s es. RemovesKey own c.world n s es key (entry_at es key) came))) (sym (own-same fillers code))
      (at-mapping code t c good result n s es e is (λ s es came. RemovesKey (code_types code) c.world n s es key (entry_at es key) came) (does-remove-key code t c good result n s e a fn es is key (entry_at es key) refl has))))) f)

pub removals-are-done : RemovalsAreDone
removals-are-done = (of-row Pop pop, of-row RemoveItem remove-item, of-row RemoveKey remove-key)
