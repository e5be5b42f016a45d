-- Constructors: two runs of each need agree, but for those that make atoms.
use Rattle.std.proofs.Common.{◌≡◌, ◌++◌, ℕ, Bool, true, false, List, [], ◌∷◌, length, IsSomeAnd, Option, Some, None, unwrap_or, refl, sym, subst, ap, ◌∙◌}
use Rattle.std.specs.List.{AllZip, list_any}
use Rattle.bal_base.specs.declared.fault.FaultCode.TheVariants.{Duplicate, ReadOnlyHolds}
use Rattle.bal_base.specs.declared.place.Place.{Place}
use Rattle.bal_base.specs.declared.text.Text.{Text}
use Rattle.bal_tree.specs.declared.name.Literal.{Literal}
use Rattle.checks.specs.Agreement.{AreTwins}
use Rattle.descriptors.specs.Described.{plain}
use Rattle.operations.specs.Structures.{IsListAtom, IsMappingAtom}
use Rattle.type_model.specs.declared.answers.TypeLimit.{TypeLimit}
use Rattle.type_model.specs.declared.atoms.AtomDef.{AtomDef}
use Rattle.type_model.specs.declared.atoms.FieldDef.{FieldDef}
use Rattle.type_model.specs.declared.basic.BasicSet.TheVariants.{Never}
use Rattle.type_model.specs.declared.basic.Choice.{Choice}
use Rattle.type_model.specs.declared.basic.SemType.{Basic, SemType}
use Rattle.type_model.specs.declared.basic.Ty.{Ty}
use Rattle.type_model.specs.Calls.{Asked}
use Rattle.type_model.specs.Places.{item_type}
use Rattle.typed_tree.specs.declared.expr.TypedExpr.{TypedExpr}
use Rattle.typed_tree.specs.Exprs.{type_of}
use Rattle.typed_tree.specs.SharedTypes.{Shared}
use Rattle.expr_needs.specs.declared.expected.Expected.{Expected}
use Rattle.expr_needs.specs.declared.expected.Expected.TheVariants as expected
use Rattle.expr_needs.specs.Needs.{MemberSeen}
use Rattle.check_words.specs.Constructors.{IsFrozenType, IsItemWant, IsMemberWant, IsReadonlyType, IsWantCopy, ListFits, MappingFits, added_type, adds_member, at_work, begins_keys, chooses_by, chooses_constructor, chooses_for, computes_key, expects_item, expects_member, gives_new_key, is_detail, is_frozen, is_item, is_key, lacks_cause, may_stand, member_type, takes_key, with_key, with_member}
use Rattle.check_words.specs.Sharing.{SameOption}
use Rattle.check_words.specs.State.{ConstructorAtWork}
use Rattle.check_words.specs.Words.{Atoms, opens_constructor, sem, sets_constructor, wants_no_more, whether_within}
use Rattle.check_answers.specs.TwinStates.{ConstructorTwins, PartTwins, SharedTwins}
use Rattle.check_answers.specs.TwinTypes.{TwinAtoms, TwinFields}
use Rattle.check_answers.proofs.Atoms.{with-lists, with-mappings}
use Rattle.check_answers.proofs.Choosing.{fit-leads, list-fits, mapping-fits}
use Rattle.check_answers.proofs.Back.{atoms-back}
use Rattle.check_answers.proofs.Leading.{Any2, Leads, Pairs, leads-done, leads-either, leads-fails, leads-from, leads-gives, leads-over, leads-then, leads-unless}
use Rattle.check_answers.proofs.Meanings.{copies-twin, itself-twin, same-twin}
use Rattle.check_answers.proofs.Members.{item-twins, key-twins}
use Rattle.check_answers.proofs.MemberReads.{key-leads}
use Rattle.check_answers.proofs.Questions.{Before, Behind, D, Equal, W, before-atoms, before-behind, below-if-leads, settled-twins, whether-leads}
use Rattle.check_answers.proofs.SameTrees.{parts-same}
use Rattle.check_answers.proofs.Values.{wants-weak, widened-leads}
use Rattle.check_answers.proofs.Words.{constructor-leads, makes-leads, no-more-leads, opens-constructor-leads, part-leads, sets-constructor-leads, want-leads}
use Rattle.check_answers.proofs.Writing.{implied-type, implied-written}
use Rattle.check_answers.proofs.Zips.{last-same, zip-long, zip-map, zip-one}

module _ (m n : Atoms) (twins : TwinAtoms m n) where
  abbrev B : Pairs
  B = Before m n

  abbrev A : Pairs
  A = Behind m n

  abbrev ConsD : ConstructorAtWork → ConstructorAtWork → Type 0
  ConsD = ConstructorTwins (D m n) (D m n)

  -- ---- which atom is chosen

  opens-leads : (c d : Option ℕ) (b e : Bool) → d ≡ c → e ≡ b → Leads B B Any2 (opens_constructor (at_work c b)) (opens_constructor (at_work d e))
  opens-leads c d b e p q = opens-constructor-leads m n (D m n) (D m n) _ _ (record { choice = p; immutable = q; keys = refl; types = tt })

  module _ (passes : List AtomDef → Asked → TypeLimit → Type 0) where
    readonly-leads : (P : Atoms → Ty → Type 0) (e f : SemType) (at : Place) → ((t u : Ty) → P m t → P n u → W m n t u) → AreTwins m e n f
        → Leads B B Equal (whether_within passes P e at) (whether_within passes P f at)
    readonly-leads P e f at k h = whether-leads passes m n B (before-atoms m n) P P e f at k h

    module _ (own : Ty → List Choice) (own-same : (s t : Ty) → W m n s t → own t ≡ own s) (Fits : Atoms → Choice → Type 0)
        (forth : (c : Choice) → Fits m c → Fits n c) (back : (c : Choice) → Fits n c → Fits m c) where
      by-leads : (cs ds : List Choice) (t u : Ty) (at : Place) → ds ≡ cs → W m n t u
          → Leads B B Any2 (chooses_by passes own Fits cs t at) (chooses_by passes own Fits ds u at)
      by-leads [] [] t u at e h =
          leads-then B B B Equal Any2 _ _ _ _ (readonly-leads IsReadonlyType t.sem u.sem at (λ a b x y. same-twin m n _ a b x y) h.shapes)
          (λ b c k. opens-leads None None b c refl k)
      by-leads (c ∷ cs) (d ∷ ds) t u at e h =
          leads-then B B B (λ c d. d ≡ c) Any2 _ _ _ _ (fit-leads m n B (before-atoms m n) Fits forth back (own t) (own u) (own-same t u h) at)
          (λ x y k. opens-leads (Some x.atom) (Some y.atom) x.immutable y.immutable (ap (λ (c : Choice). Some c.atom) k) (ap (λ (c : Choice). c.immutable) k))
      by-leads [] (d ∷ ds) t u at e h = absurd (cc)
      by-leads (c ∷ cs) [] t u at e h = absurd (cc)

      for-leads : (w x : Option Shared) (at : Place) → SameOption (SharedTwins (D m n) (D m n)) w x
          → Leads B B Any2 (chooses_for passes own Fits w at) (chooses_for passes own Fits x at)
      for-leads None None at h = opens-leads None None false false refl refl
      for-leads (Some t) (Some u) at h =
          by-leads (t.value.lists ++ t.value.maps) (u.value.lists ++ u.value.maps) t.value u.value at
          (ap (λ l. l ++ u.value.maps) h.twins.lists ∙ ap (λ l. t.value.lists ++ l) h.twins.maps) h.twins
      for-leads None (Some u) at h = absurd h
      for-leads (Some t) None at h = absurd h

      chooses-leads : (e : Expected) (at : Place) → Leads B B Any2 (chooses_constructor passes own Fits e at) (chooses_constructor passes own Fits e at)
      chooses-leads expected.Nothing at = opens-leads None None false false refl refl
      chooses-leads expected.Immutable at = opens-leads None None true true refl refl
      chooses-leads expected.Wanted at = leads-then B B B _ Any2 _ _ _ _ (want-leads m n (D m n) (D m n)) (λ w x h. for-leads w x at h)

    pub chooses-list-leads : (e : Expected) (items : List (Option Literal)) (at : Place)
        → Leads B B Any2 (chooses_constructor passes (λ t. t.lists) (ListFits items) e at) (chooses_constructor passes (λ t. t.lists) (ListFits items) e at)
    chooses-list-leads e items at =
        chooses-leads (λ t. t.lists) (λ s t h. h.lists) (ListFits items) (λ c x. list-fits m n twins items c x) (λ c x. list-fits n m (atoms-back m n twins) items c x) e at

    pub chooses-mapping-leads : (e : Expected) (ms : List MemberSeen) (at : Place)
        → Leads B B Any2 (chooses_constructor passes (λ t. t.maps) (MappingFits ms) e at) (chooses_constructor passes (λ t. t.maps) (MappingFits ms) e at)
    chooses-mapping-leads e ms at =
        chooses-leads (λ t. t.maps) (λ s t h. h.maps) (MappingFits ms) (λ c x. mapping-fits m n twins ms c x) (λ c x. mapping-fits n m (atoms-back m n twins) ms c x) e at

  pub begins-keys-leads : Leads B B Any2 begins_keys begins_keys
  begins-keys-leads = opens-leads None None false false refl refl

  -- ---- keys

  sets-leads : (c d : ConstructorAtWork) → ConsD c d → Leads B B Any2 (sets_constructor c) (sets_constructor d)
  sets-leads c d h = sets-constructor-leads m n (D m n) (D m n) c d h

  with-key-same : (key : Option Text) (c d : ConstructorAtWork) → ConsD c d → ConsD (with_key key c) (with_key key d)
  with-key-same key c d h = record { choice = h.choice; immutable = h.immutable; keys = ap (λ ks. ks ++ key ∷ []) h.keys; types = h.types }

  pub takes-key-leads : (text : Text) (at : Place) → Leads B B Any2 (takes_key text at) (takes_key text at)
  takes-key-leads text at =
      leads-then B B B _ Any2 _ _ _ _ (constructor-leads m n (D m n) (D m n))
      (λ c d h. leads-either B B Any2 _ _ _ _ _ _ (ap (list_any (is_key text)) h.keys) (leads-fails B B Any2 Duplicate at)
      (sets-leads _ _ (with-key-same (Some text) c d h)))

  pub gives-key-leads : (text : Text) (at : Place) → Leads B A Any2 (gives_new_key text at) (gives_new_key text at)
  gives-key-leads text at = leads-then B B A Any2 Any2 _ _ _ _ (takes-key-leads text at) (λ x y k. key-leads m n text at)

  pub computes-key-leads : Leads B B Any2 computes_key computes_key
  computes-key-leads =
      leads-then B B B _ Any2 _ _ _ _ (constructor-leads m n (D m n) (D m n)) (λ c d h. sets-leads _ _ (with-key-same None c d h))

  pub lacks-cause-leads : (at : Place) → Leads B A Any2 (lacks_cause at) (lacks_cause at)
  lacks-cause-leads at =
      makes-leads m n (D m n) (D m n) (W m n) (settled-twins m n) 0 _ _
      (λ es fs e f h (t, k, is) (u, l, it). parts-same (D m n) (W m n) e f t u _ _ (implied-type _ t at e is) (implied-type _ u at f it)
      (implied-written _ t at e is) (implied-written _ u at f it) (same-twin m n _ t.value u.value k l) refl)

  -- ---- what is wanted of members

  abbrev WeakWant : Option Shared → Option Shared → Type 0
  WeakWant = SameOption (SharedTwins (D m n) (W m n))

  both-none : (w x : Option Shared) → w ≡ None → x ≡ None → WeakWant w x
  both-none w x e f = subst (λ k. WeakWant k x) (sym e) (subst (WeakWant None) (sym f) tt)

  both-copies : (t u : Ty) (w x : Option Shared) → W m n t u → IsWantCopy t w → IsWantCopy u x → WeakWant w x
  both-copies t u w x h (a, e, p) (b, f, q) =
      subst (λ k. WeakWant k x) (sym e) (subst (WeakWant (Some a)) (sym f) (copies-twin m n t u a.value b.value h p q))

  copies-there : (o p : Option Ty) (w x : Option Shared) → SameOption (W m n) o p → IsSomeAnd o (λ t. IsWantCopy t w) → IsSomeAnd p (λ t. IsWantCopy t x) → WeakWant w x
  copies-there (Some t) (Some u) w x h p q = both-copies t u w x h p q
  copies-there None p w x h i j = absurd i
  copies-there (Some t) None w x h i j = absurd h

  -- a constructor by its fields
  abbrev cons : Option ℕ → Bool → List (Option Text) → List Ty → ConstructorAtWork
  cons choice immutable keys types = record { choice = choice; immutable = immutable; keys = keys; types = types }

  abbrev WantsAt : ℕ → Option Shared → List Ty → Option Ty → Type 0
  WantsAt place w fixed rest = IsSomeAnd (item_type fixed rest place) (λ t. IsWantCopy t w)

  item-by : (c d : Option ℕ) (b e : Bool) (ks ls : List (Option Text)) (ts us : List Ty) (w x : Option Shared) → d ≡ c → length us ≡ length ts
      → IsItemWant m (cons c b ks ts) w → IsItemWant n (cons d e ls us) x → WeakWant w x
  item-by None None b e ks ls ts us w x h l p q = both-none w x p q
  item-by (Some a) (Some o) b e ks ls ts us w x h l p q =
      let i : o ≡ a = cc in
      with-lists m n twins a (WantsAt (length ts) w) (WantsAt (length us) x) p (subst (λ k. IsListAtom n k (WantsAt (length us) x)) i q)
      (λ fixed gs rest s z r y v. copies-there _ _ w x
      (subst (λ k. SameOption (W m n) (item_type fixed rest (length ts)) (item_type gs s k)) (sym l) (item-twins m n fixed gs rest s (length ts) z r)) y v)
  item-by None (Some o) b e ks ls ts us w x h l p q = absurd (cc)
  item-by (Some a) None b e ks ls ts us w x h l p q = absurd (cc)

  item-want : (c d : ConstructorAtWork) (w x : Option Shared) → ConsD c d → IsItemWant m c w → IsItemWant n d x → WeakWant w x
  item-want c d w x h p q =
      item-by c.choice d.choice c.immutable d.immutable c.keys d.keys c.types d.types w x h.choice (sym (zip-long (D m n) c.types d.types h.types)) p q

  pub expects-item-leads : Leads B A Any2 expects_item expects_item
  expects-item-leads =
      leads-then B B A _ Any2 _ _ _ _ (constructor-leads m n (D m n) (D m n))
      (λ c d h. leads-then B B A WeakWant Any2 _ _ _ _ (leads-over m n B WeakWant _ _ (before-atoms m n) (λ w x p q. item-want c d w x h p q))
      (λ w x k. wants-weak m n w x k))

  member-at : (fields gs : List FieldDef) (rest s : Option Ty) (key : Option Text) → AllZip (TwinFields m n) fields gs → SameOption (W m n) rest s
      → SameOption (W m n) (member_type fields rest key) (member_type gs s key)
  member-at fields gs rest s (Some key) h r = key-twins m n fields gs rest s key h r
  member-at fields gs rest s None h r = r

  or-same : (o p : Option Ty) (t : Ty) → W m n t t → SameOption (W m n) o p → W m n (unwrap_or o t) (unwrap_or p t)
  or-same None None t h k = h
  or-same (Some a) (Some b) t h k = k
  or-same None (Some b) t h k = absurd k
  or-same (Some a) None t h k = absurd k

  never : W m n (plain (Basic Never)) (plain (Basic Never))
  never = itself-twin m n twins (plain (Basic Never))

  abbrev WantsKey : Option Text → Option Shared → List FieldDef → Option Ty → Type 0
  WantsKey key w fields rest = IsWantCopy (unwrap_or (member_type fields rest key) (plain (Basic Never))) w

  key-want : (a : ℕ) (k l : Option Text) (w x : Option Shared) → l ≡ k → IsMappingAtom m a (WantsKey k w) → IsMappingAtom n a (WantsKey l x) → WeakWant w x
  key-want a k l w x e p q =
      with-mappings m n twins a (WantsKey k w) (WantsKey l x) p q
      (λ fields gs rest s z r y v. both-copies _ _ w x
      (subst (λ o. W m n (unwrap_or (member_type fields rest k) (plain (Basic Never))) (unwrap_or (member_type gs s o) (plain (Basic Never)))) (sym e)
      (or-same _ _ (plain (Basic Never)) never (member-at fields gs rest s k z r))) y v)

  member-by : (c d : Option ℕ) (b e : Bool) (ks ls : List (Option Text)) (ts us : List Ty) (w x : Option Shared) → d ≡ c → ls ≡ ks
      → IsMemberWant m (cons c b ks ts) w → IsMemberWant n (cons d e ls us) x → WeakWant w x
  member-by None None b e ks ls ts us w x h l p q = both-none w x p q
  member-by (Some a) (Some o) b e ks ls ts us w x h l (k, last, p) (j, end, q) =
      let i : o ≡ a = cc in
      key-want a k j w x (last-same ks ls k j l (record { kept = last.before; is = last.is }) (record { kept = end.before; is = end.is })) p
      (subst (λ i. IsMappingAtom n i (WantsKey j x)) i q)
  member-by None (Some o) b e ks ls ts us w x h l p q = absurd (cc)
  member-by (Some a) None b e ks ls ts us w x h l p q = absurd (cc)

  member-want : (c d : ConstructorAtWork) (w x : Option Shared) → ConsD c d → IsMemberWant m c w → IsMemberWant n d x → WeakWant w x
  member-want c d w x h p q = member-by c.choice d.choice c.immutable d.immutable c.keys d.keys c.types d.types w x h.choice h.keys p q

  pub expects-member-leads : Leads B A Any2 expects_member expects_member
  expects-member-leads =
      leads-then B B A _ Any2 _ _ _ _ (constructor-leads m n (D m n) (D m n))
      (λ c d h. leads-then B B A WeakWant Any2 _ _ _ _ (leads-over m n B WeakWant _ _ (before-atoms m n) (λ w x p q. member-want c d w x h p q))
      (λ w x k. wants-weak m n w x k))

  -- ---- members that are there

  module _ (passes : List AtomDef → Asked → TypeLimit → Type 0) where
    abbrev Weak : Shared → Shared → Type 0
    Weak = SharedTwins (D m n) (W m n)

    pub frozen-leads : (e f : TypedExpr) (at : Place) → PartTwins (D m n) (D m n) e f → Leads B B Any2 (is_frozen passes e at) (is_frozen passes f at)
    frozen-leads e f at h =
        leads-then B B B Equal Any2 _ _ _ _ (readonly-leads passes IsFrozenType (sem e) (sem f) at (λ a b x y. same-twin m n _ a b x y) h.ty.twins.shapes)
        (λ b c k. leads-unless B b c ReadOnlyHolds at k)

    pub may-stand-leads : (c d : ConstructorAtWork) (e f : TypedExpr) (at : Place) → ConsD c d → PartTwins (D m n) (D m n) e f
        → Leads B B Any2 (may_stand passes c e at) (may_stand passes d f at)
    may-stand-leads c d e f at h k = leads-either B B Any2 c.immutable d.immutable _ _ _ _ h.immutable (frozen-leads e f at k) (leads-done B)

    added-leads : (c d : Option ℕ) (e f : TypedExpr) (at : Place) → d ≡ c → PartTwins (D m n) (D m n) e f
        → Leads B B Weak (added_type passes c e at) (added_type passes d f at)
    added-leads None None e f at p h = widened-leads m n passes (type_of e) (type_of f) at h.ty.twins
    added-leads (Some a) (Some b) e f at p h = leads-gives B Weak (type_of e) (type_of f) h.ty.twins
    added-leads None (Some b) e f at p h = absurd (cc)
    added-leads (Some a) None e f at p h = absurd (cc)

    constructor-weak : (c d : ConstructorAtWork) → ConsD c d → ConstructorTwins (D m n) (W m n) c d
    constructor-weak c d h =
        record { choice = h.choice; immutable = h.immutable; keys = h.keys; types = zip-map (D m n) (W m n) (settled-twins m n) c.types d.types h.types }

    with-member-same : (t u : Ty) (c d : ConstructorAtWork) → W m n t u → ConstructorTwins (D m n) (W m n) c d
        → ConstructorTwins (D m n) (W m n) (with_member t c) (with_member u d)
    with-member-same t u c d h k =
        record { choice = k.choice; immutable = k.immutable; keys = k.keys; types = zip-one (W m n) c.types d.types t u k.types h }

    sets-member : (c d : ConstructorAtWork) (t u : Ty) → ConsD c d → W m n t u
        → Leads B A Any2 (sets_constructor (with_member t c)) (sets_constructor (with_member u d))
    sets-member c d t u h k =
        leads-from B A A Any2 _ _ (before-behind m n)
        (sets-constructor-leads m n (D m n) (W m n) _ _ (with-member-same t u c d k (constructor-weak c d h)))

    pub adds-member-leads : (c d : ConstructorAtWork) (e f : TypedExpr) (at : Place) → ConsD c d → PartTwins (D m n) (D m n) e f
        → Leads B A Any2 (adds_member passes c e at) (adds_member passes d f at)
    adds-member-leads c d e f at h k =
        leads-then B B A Weak Any2 _ _ _ _ (added-leads c.choice d.choice e f at h.choice k)
        (λ t u i. leads-then B B A (W m n) Any2 _ _ _ _
        (leads-over m n B (W m n) _ _ (before-atoms m n) (λ a b x y. copies-twin m n t.value u.value a b i x y))
        (λ a b j. sets-member c d a b h j))

    no-more-behind : Leads A A Any2 (wants_no_more 1) (wants_no_more 1)
    no-more-behind = no-more-leads m n (D m n) (W m n) 1

    pub item-leads : (at : Place) → Leads B A Any2 (is_item passes at) (is_item passes at)
    item-leads at =
        leads-then B B A _ Any2 _ _ _ _ (constructor-leads m n (D m n) (D m n))
        (λ c d h. leads-then B B A _ Any2 _ _ _ _ (part-leads m n (D m n) (D m n))
        (λ e f k. leads-then B B A _ Any2 _ _ _ _ (want-leads m n (D m n) (D m n))
        (λ w x i. leads-then B B A Any2 Any2 _ _ _ _ (below-if-leads m n passes w x e f at i k)
        (λ a b j. leads-then B B A Any2 Any2 _ _ _ _ (may-stand-leads c d e f at h k)
        (λ o p q. leads-then B A A Any2 Any2 _ _ _ _ (adds-member-leads c d e f at h k) (λ r s l. no-more-behind))))))

    pub detail-leads : (at : Place) → Leads B A Any2 (is_detail passes at) (is_detail passes at)
    detail-leads at =
        leads-then B B A _ Any2 _ _ _ _ (constructor-leads m n (D m n) (D m n))
        (λ c d h. leads-then B B A _ Any2 _ _ _ _ (part-leads m n (D m n) (D m n))
        (λ e f k. leads-then B B A Any2 Any2 _ _ _ _ (frozen-leads e f at k)
        (λ a b j. leads-then B B A (W m n) Any2 _ _ _ _
        (leads-over m n B (W m n) _ _ (before-atoms m n) (λ t u x y. copies-twin m n (type_of e).value (type_of f).value t u k.ty.twins x y))
        (λ t u i. sets-member c d t u h i))))
