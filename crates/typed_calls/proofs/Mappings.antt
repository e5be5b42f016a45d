-- Mapping constructors, member by member.
use Rattle.std.proofs.Common.{◌≡◌, ◌<◌, ◌∙◌, ◌++◌, ◌+◌, ◌*◌, inl, inr, ℕ, Bool, true, false, List, [], ◌∷◌, length, map, All, Option, Some, None, IfSome, append_assoc, arith, length-append, refl, sym, subst, ap}
use Rattle.std.specs.Prelude.{◌⊎◌, ◌/◌, Any, slice_get}
use Rattle.std.specs.List.{AllZip}
use Rattle.std.proofs.lemmas.List.Elements.{All-cons, All-head, All-nil, All-push, All-tail}
use Rattle.std.proofs.Math.Nat.{mul-div_cancel_left}
use Rattle.bal_base.specs.declared.place.Place.{Place}
use Rattle.bal_base.specs.declared.shape.Shape.{Shape, Str}
use Rattle.bal_base.specs.declared.text.Text.{Text}
use Rattle.checks.specs.Checks.{Gives, ◌▷◌, either, gives_some}
use Rattle.checks.specs.Questions.{adds, below}
use Rattle.descriptors.specs.declared.names.Names.{Names}
use Rattle.descriptors.specs.Described.{IsCopy, IsPlain}
use Rattle.needs.specs.Needs.{asks, does}
use Rattle.operations.specs.declared.operation.Operation.TheVariants.{MakeMapping}
use Rattle.operations.specs.Rows.{Surroundings}
use Rattle.operations.specs.Structures.{IsMade, IsMappingAtom, MayStandIn, MemberFits, NamesRequired}
use Rattle.type_model.specs.declared.answers.TypeLimit.{TypeLimit}
use Rattle.type_model.specs.declared.atoms.AtomDef.{AtomDef}
use Rattle.type_model.specs.declared.atoms.AtomDef.TheVariants.{Mapping as MappingAtom}
use Rattle.type_model.specs.declared.atoms.FieldDef.{FieldDef}
use Rattle.type_model.specs.declared.basic.SemType.{SemType, Atom}
use Rattle.type_model.specs.declared.basic.Ty.{Ty}
use Rattle.type_model.specs.Calls.{Asked, KeepsTypes}
use Rattle.type_model.specs.Defined.{DefBelow, IsClosed, IsDefined, TyBelow}
use Rattle.type_model.specs.Inclusion.{IsShapeOf, Sub}
use Rattle.type_model.specs.Membership.{In}
use Rattle.type_model.proofs.SameTypes.{In-same}
use Rattle.typed_tree.specs.declared.expr.TypedExpr.{TypedExpr}
use Rattle.typed_tree.specs.declared.form.StrictForm.TheVariants as form
use Rattle.typed_tree.specs.SharedTypes.{Shared, sem_of}
use Rattle.expr_needs.specs.Needs.{MemberSeen}
use Rattle.flow_narrowing.specs.Flows.{AreSame, IfShared}
use Rattle.check_words.specs.Constructors.{IsLastKey, IsMemberWant, IsOfMembers, IsWantCopy, MappingFits, RequiredAreThere, added_type, all_known, atom_of, computes_key, expects_member, fields_with, fits_field, fits_fields, fits_keys, is_below_copy, is_member, makes_mapping, may_stand, names_field, with_key, with_member}
use Rattle.check_words.specs.Stands.{ConstructorBelow, PartBelow}
use Rattle.check_words.specs.State.{AreLast, ConstructorAtWork, IsLast, State, all_but, replaced}
use Rattle.check_words.specs.Words.{Atoms, below_if, done}
use Rattle.check_words.proofs.Standing.{last-has, last-have}
use Rattle.tree_promises.specs.Made.{sem}
use Rattle.typed_needs.specs.Items.{AreFirst, WantsWithin}
use Rattle.typed_needs.specs.Pieces.{IsBefore}
use Rattle.typed_needs.proofs.Asking.{below-if-leaves, below-if-so}
use Rattle.typed_needs.proofs.AtomKinds.{added-atom, as-mapping, later-atom, mapping-of, one-mapping}
use Rattle.typed_needs.proofs.Items.{FitsChoice, added-leaves, added-so, chosen, mapped-all, may-stand-leaves, one-of, same-none, same-some, stands-so, want-put, zip-more}
use Rattle.typed_needs.proofs.Leaving.{AddsNone, LeavesAll, Makes, all-asking, all-some, all-then, made}
use Rattle.typed_needs.proofs.Opened.{as-before, cons-same, last-defined, same-lasts, sub-later}
use Rattle.typed_needs.proofs.Placed.{last-same}
use Rattle.typed_needs.proofs.Questions.{below-adds-none}
use Rattle.typed_needs.proofs.Strict.{StrictMade, one-typed}
use Rattle.typed_calls.specs.Errors.{AreDistinct, Pair, parts_of}
use Rattle.typed_calls.specs.Mappings.{AwaitsMember, HasAllRequired, HoldsMembers, IsKeyPart, IsNewKey, KeyIsComputed, MappingIsChosen, MappingIsTyped, MappingsAreTyped, MemberIsExpected, MemberIsTaken, MembersChosen, TakesMember, type_at}
use Rattle.typed_calls.proofs.Errors.{distinct-more, in-pairs, parts-many, sems}
use Rattle.typed_calls.proofs.MappingMembers.{FitsNamed, all-there, chosen-names, closed-fits, closed-names, computed-fits, keys-text, known-fits, map-fits, new-differs}

-- ---- definitions of what was made

said : (c : ConstructorAtWork) (env defs : Atoms) → all_known c.keys ≡ true → IsOfMembers c env defs → defs ≡ MappingAtom (fields_with c.keys c.types) None ∷ []
said c env defs e h = rw e at h

said-any : (c : ConstructorAtWork) (env defs : Atoms) → all_known c.keys ≡ false → IsOfMembers c env defs
    → (t : Ty) × IsPlain (λ x. Any (λ u. In env x u.sem) c.types) env t × TyBelow (length env) t × (defs ≡ MappingAtom [] (Some t) ∷ [])
said-any c env defs e h = rw e at h

halved : (pairs : List Pair) → length (parts_of pairs) / 2 ≡ length pairs
halved pairs = ap (λ k. k / 2) (parts-many pairs) ∙ mul-div_cancel_left (length pairs) (omega arith)

module _ (passes : List AtomDef → Asked → TypeLimit → Type 0) where
  -- ---- computed keys

  names-none : (name : Text) (key : SemType) → AddsNone (names_field passes name key)
  unfolding names_field
  names-none name key old new b (which, same) = same

  copy-leaves : (e : TypedExpr) (s : SemType) (at : Place) → LeavesAll (is_below_copy passes e s at)
  copy-leaves e s at = all-then _ _ (all-some _) (λ t. all-asking _ (below-adds-none passes (sem e) t (Some at)))

  field-leaves : (key : SemType) (e : TypedExpr) (at : Place) (f : FieldDef) → LeavesAll (fits_field passes key e at f)
  field-leaves key e at f =
      all-then _ _ (all-asking _ (names-none f.name key)) (λ b. one-of passes b (is_below_copy passes e f.ty.sem at) done (copy-leaves e f.ty.sem at) (all-some _))

  fields-leave : (key : SemType) (e : TypedExpr) (at : Place) (fields : List FieldDef) → LeavesAll (fits_fields passes key e at fields)
  fields-leave key e at [] = all-some _
  fields-leave key e at (f ∷ fields) = all-then _ _ (field-leaves key e at f) (λ u. fields-leave key e at fields)

  keys-leave : (choice : Option ℕ) (key : Option Text) (at : Place) → LeavesAll (fits_keys passes choice key at)
  keys-leave None key at = all-some _
  keys-leave (Some atom) (Some text) at = all-some _
  keys-leave (Some atom) None at = all-then _ _ (all-some _) (λ p. all-then _ _ (all-some _) (λ fields. fields-leave (sem p.0) p.1 at fields))

  copy-so : (e : TypedExpr) (s : SemType) (at : Place) (u : Unit {0}) (old new : State) → is_below_copy passes e s at old (Gives u) new → Sub old.atoms (sem e) s
  unfolding ◌▷◌ gives_some asks below
  copy-so e s at u old new (t, mid, (copy, same), ((under, atoms), over)) =
      λ x valid i. (In-same old.atoms x s t copy).1 (subst (λ (m : State). Sub m.atoms (sem e) t) same under x valid i)

  field-so : (key : SemType) (e : TypedExpr) (at : Place) (f : FieldDef) (u : Unit {0}) (old new : State) → fits_field passes key e at f old (Gives u) new
      → IsShapeOf old.atoms key (Str f.name) → Sub old.atoms (sem e) f.ty.sem
  unfolding ◌▷◌ asks names_field
  field-so key e at f u old new (b, mid, ((which, same), over), rest) shape =
      let here : mid ≡ old = over ∙ ap (λ (xs : Atoms). record old { atoms = xs }) same in
      subst (λ (s : State). Sub s.atoms (sem e) f.ty.sem) here (by b which rest)
    where
      by : (b : Bool) → ((b ≡ true) × IsShapeOf old.atoms key (Str f.name) ⊎ (b ≡ false) × (¬ IsShapeOf old.atoms key (Str f.name)))
          → either b (is_below_copy passes e f.ty.sem at) done mid (Gives u) new → Sub mid.atoms (sem e) f.ty.sem
      by true which rest = copy-so e f.ty.sem at u mid new rest
      by false (inl (is, h)) rest = absurd (let bad : ⊥ = cc in bad)
      by false (inr (is, none)) rest = absurd (none shape)

  fields-so : (key : SemType) (e : TypedExpr) (at : Place) (fields : List FieldDef) (u : Unit {0}) (old new : State) → fits_fields passes key e at fields old (Gives u) new
      → FitsNamed old.atoms key (sem e) fields
  unfolding ◌▷◌
  fields-so key e at [] u old new met = All-nil _
  fields-so key e at (f ∷ fields) u old new (v, mid, first, rest) =
      All-cons (λ (g : FieldDef). IsShapeOf old.atoms key (Str g.name) → Sub old.atoms (sem e) g.ty.sem) f fields (field-so key e at f v old mid first)
      (subst (λ (s : State). FitsNamed s.atoms key (sem e) fields) (field-leaves key e at f old mid v first) (fields-so key e at fields u mid new rest))

  -- ---- a member, step by step

  pub record MemberOpened (at : Place) (old new : State) : Type 0 where
    pub c : ConstructorAtWork
    pub e : TypedExpr
    pub w : Option Shared
    pub key : Option Text
    pub t : Shared
    pub added : Ty
    pub below : State
    pub fitted : State
    pub stood : State
    pub typed : State
    pub last_constructor : IsLast old.constructors c
    pub last_part : IsLast old.found e
    pub last_want : IsLast old.wants w
    pub last_key : IsLastKey c key
    pub is_below : below_if passes w e at old (Gives tt) below
    pub fits : fits_keys passes c.choice key at old (Gives tt) fitted
    pub stands : may_stand passes c e at old (Gives tt) stood
    pub type : added_type passes c.choice e at old (Gives t) typed
    pub copy : IsCopy t.value added
    pub all : new ≡ record old { constructors = replaced old.constructors (with_member added c); wants = all_but 1 old.wants }

  member-opened : (at : Place) (old new : State) → is_member passes at old (Gives tt) new → MemberOpened at old new
  unfolding ◌▷◌ gives_some does
  member-opened at old new (c, s1, (l1, e1), (e, s2, (l2, e2), (w, s3, (l3, e3), (u, s4, below, (v, s6, (key, s5, (lk, e5), fit), (x, s7, stand, (y, s9, (t, s8, type, (a, s10, (copy, e10), set)), drop))))))) =
      let two : s2 ≡ old = e2 ∙ e1 in
      let three : s3 ≡ old = e3 ∙ two in
      let four : s4 ≡ old = below-if-leaves passes w e at s3 s4 u below ∙ three in
      let five : s5 ≡ old = e5 ∙ four in
      let six : s6 ≡ old = keys-leave c.choice key at s5 s6 v fit ∙ five in
      let seven : s7 ≡ old = may-stand-leaves passes c e at s6 s7 x stand ∙ six in
      let ten : s10 ≡ old = e10 ∙ added-leaves passes c.choice e at s7 s8 t type ∙ seven in
      record {
        c = c;
        e = e;
        w = w;
        key = key;
        t = t;
        added = a;
        below = s4;
        fitted = s6;
        stood = s7;
        typed = s8;
        last_constructor = l1;
        last_part = subst (λ (s : State). IsLast s.found e) e1 l2;
        last_want = subst (λ (s : State). IsLast s.wants w) two l3;
        last_key = lk;
        is_below = subst (λ (s : State). below_if passes w e at s (Gives tt) s4) three below;
        fits = subst (λ (s : State). fits_keys passes c.choice key at s (Gives tt) s6) five fit;
        stands = subst (λ (s : State). may_stand passes c e at s (Gives tt) s7) six stand;
        type = subst (λ (s : State). added_type passes c.choice e at s (Gives t) s8) seven type;
        copy = copy;
        all = drop ∙ ap (λ (s : State). record s { wants = all_but 1 s.wants }) (set ∙ ap (λ (s : State). record s { constructors = replaced s.constructors (with_member a c) }) ten);
      }

  expected-opened : (old new : State) → expects_member old (Gives tt) new
      → (d : ConstructorAtWork) × (w : Option Shared) × IsLast old.constructors d × IsMemberWant old.atoms d w × (x : Option Shared) × AreSame w x × (new ≡ record old { wants = old.wants ++ x ∷ [] })
  unfolding ◌▷◌ gives_some
  expected-opened old new (d, s1, (l, e1), (w, s2, (wanted, e2), put)) =
      let (x, same, is) = want-put w tt s2 new put in
      (d, w, l, subst (λ (s : State). IsMemberWant s.atoms d w) e1 wanted, x, same, is ∙ ap (λ (s : State). record s { wants = s.wants ++ x ∷ [] }) (e2 ∙ e1))

  computed-opened : (old new : State) → computes_key old (Gives tt) new
      → (d : ConstructorAtWork) × IsLast old.constructors d × (new ≡ record old { constructors = replaced old.constructors (with_key None d) })
  unfolding ◌▷◌ gives_some does
  computed-opened old new (d, mid, (l, same), met) = (d, l, met ∙ ap (λ (s : State). record s { constructors = replaced s.constructors (with_key None d) }) same)

  -- the key that was put last
  one-key : (c : ConstructorAtWork) (key k : Option Text) → IsLastKey (with_key key c) k → k ≡ key
  one-key c key k last = last-same (c.keys ++ key ∷ []) k key (record { kept = last.before; is = last.is }) (record { kept = c.keys; is = refl })

  module _ (names : Names) (env : List AtomDef) where
    -- ---- what is chosen, and what is expected

    mapping-chosen : (place : Surroundings) → MappingIsChosen passes names env place
    mapping-chosen place e members at old new first met =
        let (c, is, (types, keys, fits)) = chosen passes (λ t. t.maps) (MappingFits members) e at tt old new met in (
          c,
          is,
          keys,
          record {
            keys = subst (λ ks. AllZip (λ key (p : Pair). IsKeyPart env key p.0) ks []) (sym keys) tt;
            distinct = subst (λ ks. AreDistinct ks) (sym keys) tt;
            many = ap length types;
            fit = fit c.choice c.types types fits;
            frozen = All-nil _;
          },
          required c.choice fits,
        )
      where
        fit : (choice : Option ℕ) (types : List Ty) → types ≡ [] → FitsChoice passes (MappingFits members) old.atoms choice → MembersChosen env choice types []
        fit None types none fits = subst (λ ts. MembersChosen env None ts []) (sym none) tt
        fit (Some atom) types none (d, is, fits) =
            let (fields, rest, there, h) = mapping-of old.atoms d.atom _ fits in
            as-mapping env atom fields rest (λ fs more. All (λ (p : Pair). MemberFits env fs more (sem p.0, sem p.1)) [])
            (later-atom env old.atoms atom (MappingAtom fields rest) first (subst (λ a. slice_get old.atoms a ≡ Some (MappingAtom fields rest)) is there)) (All-nil _)

        required : (choice : Option ℕ) → FitsChoice passes (MappingFits members) old.atoms choice → HasAllRequired env choice members
        required None fits = tt
        required (Some atom) (d, is, fits) =
            let (fields, rest, there, h) = mapping-of old.atoms d.atom _ fits in
            as-mapping env atom fields rest _ (later-atom env old.atoms atom (MappingAtom fields rest) first (subst (λ a. slice_get old.atoms a ≡ Some (MappingAtom fields rest)) is there)) h.1

    key-computed : (place : Surroundings) → KeyIsComputed passes names env place
    key-computed place old new c met last =
        let (d, l, is) = computed-opened old new met in
        is ∙ ap (λ (x : ConstructorAtWork). record old { constructors = replaced old.constructors (with_key None x) }) (last-same old.constructors d c l last)

    member-expected : (place : Surroundings) → MemberIsExpected passes names env place
    member-expected place old new c key first met last =
        let (d, w, l, wanted, x, same, is) = expected-opened old new met in
        let one : d ≡ with_key key c = last-same old.constructors d (with_key key c) l last in
        (x, is, awaits c.choice w x same (subst (λ (b : ConstructorAtWork). IsMemberWant old.atoms b w) one wanted))
      where
        awaits : (choice : Option ℕ) (w x : Option Shared) → AreSame w x → IsMemberWant old.atoms (record (with_key key c) { choice = choice }) w → AwaitsMember env choice key x
        awaits None w x same wanted = same-none w x same wanted
        awaits (Some atom) w x same (k, at, wanted) =
            let (fields, rest, there, copied) = mapping-of old.atoms atom _ wanted in
            let (u, is, copy) = subst (λ (j : Option Text). IsWantCopy (type_at fields rest j) w) (one-key c key k (record { before = at.before; is = at.is })) copied in
            let (v, has, value) = same-some w x u same is in
            as-mapping env atom fields rest _ (later-atom env old.atoms atom (MappingAtom fields rest) first there)
            (v, has, (λ y i. (In-same env y (type_at fields rest key).sem u.value.sem copy.sem).1 (subst (λ (z : Ty). In env y z.sem) value i)))

    -- ---- a member more

    -- over the atoms at the end
    named-later : (old : State) (k e : TypedExpr) (fields : List FieldDef) → IsBefore env old → AreLast old.found 2 (k ∷ e ∷ []) → All (λ (f : FieldDef). TyBelow (length old.atoms) f.ty) fields
        → FitsNamed old.atoms (sem k) (sem e) fields → FitsNamed env (sem k) (sem e) fields
    named-later old k e [] before last defined h = All-nil _
    named-later old k e (f ∷ fields) before last defined h =
        let both : All (PartBelow (length old.atoms)) (k ∷ e ∷ []) = last-have (PartBelow (length old.atoms)) 2 old.found (k ∷ e ∷ []) last before.stands.found in
        let first : PartBelow (length old.atoms) k = All-head (PartBelow (length old.atoms)) k (e ∷ []) both in
        let second : PartBelow (length old.atoms) e = All-head (PartBelow (length old.atoms)) e [] (All-tail (PartBelow (length old.atoms)) k (e ∷ []) both) in
        let there : TyBelow (length old.atoms) f.ty = All-head (λ (g : FieldDef). TyBelow (length old.atoms) g.ty) f fields defined in
        All-cons (λ (g : FieldDef). IsShapeOf env (sem k) (Str g.name) → Sub env (sem e) g.ty.sem) f fields
        (λ shape. sub-later env old.atoms (sem e) f.ty.sem before.keeps second.0 there.0
        (All-head (λ (g : FieldDef). IsShapeOf old.atoms (sem k) (Str g.name) → Sub old.atoms (sem e) g.ty.sem) f fields h
        (shape.0, (before.keeps.shapes (sem k) first.0 (Str f.name)).1 shape.1)))
        (named-later old k e fields before last (All-tail (λ (g : FieldDef). TyBelow (length old.atoms) g.ty) f fields defined)
        (All-tail (λ (g : FieldDef). IsShapeOf old.atoms (sem k) (Str g.name) → Sub old.atoms (sem e) g.ty.sem) f fields h))

    computed-opened-so : (atom : ℕ) (at : Place) (u : Unit {0}) (old new : State) → fits_keys passes (Some atom) None at old (Gives u) new
        → (p : TypedExpr × TypedExpr) × (fs : List FieldDef) × AreLast old.found 2 (p.0 ∷ p.1 ∷ []) × IsMappingAtom old.atoms atom (λ gs rest. fs ≡ gs) × FitsNamed old.atoms (sem p.0) (sem p.1) fs
    unfolding ◌▷◌ gives_some
    computed-opened-so atom at u old new (p, s1, (last, e1), (fs, s2, (is, e2), met)) = (
      p,
      fs,
      last,
      subst (λ (s : State). IsMappingAtom s.atoms atom (λ gs rest. fs ≡ gs)) e1 is,
      subst (λ (s : State). FitsNamed s.atoms (sem p.0) (sem p.1) fs) (e2 ∙ e1) (fields-so (sem p.0) p.1 at fs u s2 new met),
    )

    computed-so : (atom : ℕ) (at : Place) (old new : State) (k e : TypedExpr) (fields : List FieldDef) (rest : Option Ty) → IsClosed old.atoms → AreFirst env old.atoms → IsBefore env old
        → AreLast old.found 2 (k ∷ e ∷ []) → fits_keys passes (Some atom) None at old (Gives tt) new → slice_get env atom ≡ Some (MappingAtom fields rest) → FitsNamed env (sem k) (sem e) fields
    computed-so atom at old new k e fields rest closed first before last met there =
        let (p, fs, l, is, named) = computed-opened-so atom at tt old new met in
        let (gs, more, here, same) = mapping-of old.atoms atom _ is in
        let (ef, er) = one-mapping env atom gs fields more rest (later-atom env old.atoms atom (MappingAtom gs more) first here) there in
        let parts : p.0 ∷ p.1 ∷ [] ≡ k ∷ e ∷ [] = same-lasts old.found 2 (p.0 ∷ p.1 ∷ []) (k ∷ e ∷ []) l last in
        let (ek, more-parts) = cons-same p.0 k (p.1 ∷ []) (e ∷ []) parts in
        let ee : p.1 ≡ e = (cons-same p.1 e [] [] more-parts).0 in
        let defined : DefBelow (length old.atoms) (MappingAtom gs more) = all-there (DefBelow (length old.atoms)) old.atoms atom (MappingAtom gs more) closed here in
        let named' : FitsNamed old.atoms (sem k) (sem e) gs =
        subst (λ (xs : List FieldDef). FitsNamed old.atoms (sem k) (sem e) xs) same
        (subst (λ (x : TypedExpr). FitsNamed old.atoms (sem k) (sem x) fs) ee (subst (λ (x : TypedExpr). FitsNamed old.atoms (sem x) (sem p.1) fs) ek named)) in
        subst (λ (xs : List FieldDef). FitsNamed env (sem k) (sem e) xs) ef (named-later old k e gs before last defined.0 named')

    -- what is below what is wanted is in the type of its place
    within-wanted : (w : Option Shared) (t : Ty) (e : TypedExpr) (at : Place) (old below : State) → IsBefore env old → IsLast old.found e → IsLast old.wants w
        → below_if passes w e at old (Gives tt) below → WantsWithin env w t → (x : Shape) → IsShapeOf env (sem e) x → In env x t.sem
    within-wanted w t e at old below before last want met (u, is, within) x i = within x (below-wanted x i.0 i.1)
      where
        below-wanted : Sub env (sem e) (sem_of u)
        below-wanted =
            let met' : below_if passes (Some u) e at old (Gives tt) below = subst (λ (o : Option Shared). below_if passes o e at old (Gives tt) below) is met in
            let there : IfShared (TyBelow (length old.atoms)) (Some u) =
            subst (IfShared (TyBelow (length old.atoms))) is (last-has (IfShared (TyBelow (length old.atoms))) old.wants w want before.stands.wants) in
            sub-later env old.atoms (sem e) (sem_of u) before.keeps (last-defined env old e before last) there.0 (below-if-so passes u e at tt old below met')

    member-fits : (atom : ℕ) (key : Option Text) (k e : TypedExpr) (at : Place) (old fitted : State) (fields : List FieldDef) (rest : Option Ty) → IsClosed old.atoms → AreFirst env old.atoms
        → IsBefore env old → AreLast old.found 2 (k ∷ e ∷ []) → fits_keys passes (Some atom) key at old (Gives tt) fitted → slice_get env atom ≡ Some (MappingAtom fields rest)
        → IsKeyPart env key k → ((x : Shape) → IsShapeOf env (sem e) x → In env x (type_at fields rest key).sem) → MemberFits env fields rest (sem k, sem e)
    member-fits atom (Some text) k e at old fitted fields rest closed first before last met there single within = known-fits env fields rest text (sem k) (sem e) single within
    member-fits atom None k e at old fitted fields rest closed first before last met there string within =
        computed-fits env fields rest (sem k) (sem e) (computed-so atom at old fitted k e fields rest closed first before last met there) within

    abbrev Adding : Option ℕ → Option Text → TypedExpr → TypedExpr → Option Shared → Shared → Ty → Place → State → State → State → State → Type 0
    Adding choice key k e w t added at old below fitted typed =
        AreLast old.found 2 (k ∷ e ∷ []) × IsLast old.found e × IsLast old.wants w × IsDefined old.atoms added.sem × added_type passes choice e at old (Gives t) typed × IsCopy t.value added
        × below_if passes w e at old (Gives tt) below × fits_keys passes choice key at old (Gives tt) fitted × AwaitsMember env choice key w × IsKeyPart env key k

    fit-more : (choice : Option ℕ) (types : List Ty) (pairs : List Pair) (key : Option Text) (k e : TypedExpr) (w : Option Shared) (t : Shared) (added : Ty) (at : Place) (old below fitted typed : State)
        → IsClosed old.atoms → AreFirst env old.atoms → IsBefore env old → Adding choice key k e w t added at old below fitted typed → MembersChosen env choice types pairs
        → MembersChosen env choice (types ++ added ∷ []) (pairs ++ (k, e) ∷ [])
    fit-more None types pairs key k e w t added at old below fitted typed closed first before (both, last, want, defined, type, copy, under, fits, awaited, is) fit =
        zip-more (λ (p : Pair) (u : Ty). Sub env (sem p.1) u.sem) pairs types (k, e) added fit
        (sub-later env old.atoms (sem e) added.sem before.keeps (last-defined env old e before last) defined
        (λ x valid i. (In-same old.atoms x (sem_of t) added.sem copy.sem).0 (added-so passes e t at old typed type x valid i)))
    fit-more (Some atom) types pairs key k e w t added at old below fitted typed closed first before (both, last, want, defined, type, copy, under, fits, awaited, is) fit =
        let (fields, rest, there, all) = mapping-of env atom _ fit in
        let (others, more, here, next) = mapping-of env atom _ awaited in
        let (ef, er) = one-mapping env atom others fields more rest here there in
        let next' : WantsWithin env w (type_at fields rest key) =
        subst (λ (r : Option Ty). WantsWithin env w (type_at fields r key)) er (subst (λ (fs : List FieldDef). WantsWithin env w (type_at fs more key)) ef next) in
        as-mapping env atom fields rest _ there
        (All-push (λ (p : Pair). MemberFits env fields rest (sem p.0, sem p.1)) pairs (k, e) all
        (member-fits atom key k e at old fitted fields rest closed first before both fits there is
        (within-wanted w (type_at fields rest key) e at old below before last want under next')))

    taken-of : (place : Surroundings) (at : Place) (old new : State) (c : ConstructorAtWork) (key : Option Text) (k : TypedExpr) (pairs : List Pair) (o : MemberOpened at old new)
        → IsClosed old.atoms → AreFirst env old.atoms → IsBefore env old → IsBefore env new → o.c ≡ with_key key c → o.key ≡ key → AreLast old.found 2 (k ∷ o.e ∷ [])
        → AwaitsMember env c.choice key o.w → IsNewKey key c.keys → IsKeyPart env key k → HoldsMembers env c pairs
        → TakesMember passes names env place old new (with_key key c) (pairs ++ (k, o.e) ∷ [])
    taken-of place at old new c key k pairs o closed first before after ec ek both awaited fresh is holds =
        let now : ConstructorAtWork = with_member o.added (with_key key c) in
        let constructors : new.constructors ≡ replaced old.constructors now =
        ap (λ (s : State). s.constructors) o.all ∙ ap (λ (x : ConstructorAtWork). replaced old.constructors (with_member o.added x)) ec in
        let atoms : new.atoms ≡ old.atoms = ap (λ (s : State). s.atoms) o.all in
        let last : IsLast new.constructors now = record { kept = all_but 1 old.constructors; is = constructors } in
        let types : ConstructorBelow (length new.atoms) now = last-has (ConstructorBelow (length new.atoms)) new.constructors now last after.stands.constructors in
        let added : TyBelow (length new.atoms) o.added = last-has (TyBelow (length new.atoms)) now.types o.added (record { kept = c.types; is = refl }) types.types in
        let type : added_type passes c.choice o.e at old (Gives o.t) o.typed = subst (λ (x : ConstructorAtWork). added_type passes x.choice o.e at old (Gives o.t) o.typed) ec o.type in
        let fits : fits_keys passes c.choice key at old (Gives tt) o.fitted =
        subst (λ (j : Option Text). fits_keys passes c.choice j at old (Gives tt) o.fitted) ek
        (subst (λ (x : ConstructorAtWork). fits_keys passes x.choice o.key at old (Gives tt) o.fitted) ec o.fits) in
        let stands : may_stand passes (with_key key c) o.e at old (Gives tt) o.stood = subst (λ (x : ConstructorAtWork). may_stand passes x o.e at old (Gives tt) o.stood) ec o.stands in
        record {
          type = o.added;
          constructors = constructors;
          wants = ap (λ (s : State). s.wants) o.all;
          found = ap (λ (s : State). s.found) o.all;
          holds = record {
            keys = zip-more (λ (j : Option Text) (p : Pair). IsKeyPart env j p.0) c.keys pairs key (k, o.e) holds.keys is;
            distinct = distinct-more c.keys key holds.distinct (new-differs key c.keys fresh);
            many = length-append c.types (o.added ∷ []) ∙ ap (λ n. n + 1) holds.many ∙ sym (length-append pairs ((k, o.e) ∷ []));
            fit = fit-more c.choice c.types pairs key k o.e o.w o.t o.added at old o.below o.fitted o.typed closed first before
                (both, o.last_part, o.last_want, subst (λ (xs : Atoms). IsDefined xs o.added.sem) atoms added.0, type, o.copy, o.is_below, fits, awaited, is) holds.fit;
            frozen = All-push (λ (p : Pair). MayStandIn env c.immutable (sem p.1)) pairs (k, o.e) holds.frozen (stands-so passes names env c.immutable o.e at old o.stood before o.last_part stands);
          };
        }

    member-taken : (place : Surroundings) → MemberIsTaken passes names env place
    member-taken place at old new c key k e w pairs closed first before after met lc both lw awaited fresh is holds =
        let o = member-opened at old new met in
        let ec : o.c ≡ with_key key c = last-same old.constructors o.c (with_key key c) o.last_constructor lc in
        let ek : o.key ≡ key = one-key c key o.key (subst (λ (x : ConstructorAtWork). IsLastKey x o.key) ec o.last_key) in
        let le : IsLast old.found e = second-last old.found k e both in
        let ee : o.e ≡ e = last-same old.found o.e e o.last_part le in
        let ew : o.w ≡ w = last-same old.wants o.w w o.last_want lw in
        subst (λ (x : TypedExpr). TakesMember passes names env place old new (with_key key c) (pairs ++ (k, x) ∷ [])) ee
        (taken-of place at old new c key k pairs o closed first before after ec ek (subst (λ (x : TypedExpr). AreLast old.found 2 (k ∷ x ∷ [])) (sym ee) both)
        (subst (λ (v : Option Shared). AwaitsMember env c.choice key v) (sym ew) awaited) fresh is holds)
      where
        second-last : (xs : List TypedExpr) (a b : TypedExpr) → AreLast xs 2 (a ∷ b ∷ []) → IsLast xs b
        second-last xs a b l = record { kept = l.kept ++ a ∷ []; is = l.is ∙ sym (append_assoc l.kept (a ∷ []) (b ∷ [])) }

    -- ---- the whole mapping

    -- the atom that was chosen, or that of the very members
    abbrev AtomOf : Option ℕ → ConstructorAtWork → Atoms → Atoms → ℕ → Type 0
    AtomOf None c old new atom = (atom ≡ length old) × ((defs : Atoms) × IsOfMembers c old defs × (new ≡ old ++ defs))
    AtomOf (Some a) c old new atom = (atom ≡ a) × (new ≡ old)

    abbrev MadeMapping : ℕ → Bool → Place → Atoms → List TypedExpr → TypedExpr → Type 0
    MadeMapping atom immutable at = StrictMade (form.Mapping atom immutable) (λ env. IsPlain (IsMade env atom immutable) env) at

    atom-of-so : (choice : Option ℕ) (c : ConstructorAtWork) (at : Place) (atom : ℕ) (old new : State) → atom_of choice (IsOfMembers c) at old (Gives atom) new
        → (new.found ≡ old.found) × AtomOf choice c old.atoms new.atoms atom
    unfolding gives_some asks adds
    atom-of-so None c at atom old new ((defs, is, number, atoms), over) = (ap (λ (s : State). s.found) over, (number, (defs, is, atoms)))
    atom-of-so (Some a) c at atom old new (is, same) = (ap (λ (s : State). s.found) same, (is, ap (λ (s : State). s.atoms) same))

    mapping-opened : (count : ℕ) (at : Place) (old new : State) → makes_mapping count at old (Gives tt) new
        → (c : ConstructorAtWork) × (atom : ℕ) × (mid : State) × IsLast old.constructors c × (mid.found ≡ old.found) × AtomOf c.choice c old.atoms mid.atoms atom
        × Makes (2 * count) (MadeMapping atom c.immutable at) mid new
    unfolding ◌▷◌ gives_some does
    mapping-opened count at old new (c, s3, (d, s1, (l, e1), (u, s2, e2, (is, e3))), (atom, mid, chosen, makes-it)) =
        let (found, of) = atom-of-so c.choice c at atom s3 mid chosen in
        let same : s3 ≡ record s1 { constructors = all_but 1 s1.constructors } = e3 ∙ e2 in (
          c,
          atom,
          mid,
          subst (λ (x : ConstructorAtWork). IsLast old.constructors x) (sym is) l,
          found ∙ ap (λ (s : State). s.found) same ∙ ap (λ (s : State). s.found) e1,
          subst (λ (xs : Atoms). AtomOf c.choice c xs mid.atoms atom) (ap (λ (s : State). s.atoms) same ∙ ap (λ (s : State). s.atoms) e1) of,
          made (2 * count) (MadeMapping atom c.immutable at) tt mid new makes-it,
        )

    abbrev Fitting : List Pair → ℕ → Type 0
    Fitting pairs atom = IsMappingAtom env atom (λ fields rest. All (MemberFits env fields rest) (map (sems env) pairs) × NamesRequired env fields (map (sems env) pairs))

    -- the very members fit the atom that is made of them
    members-fit : (c : ConstructorAtWork) (pairs : List Pair) (old defs : Atoms) → KeepsTypes old env → All (TyBelow (length old)) c.types → AllZip (λ key (p : Pair). IsKeyPart env key p.0) c.keys pairs
        → AreDistinct c.keys → MembersChosen env None c.types pairs → IsOfMembers c old defs → AreFirst env (old ++ defs) → Fitting pairs (length old) × (length defs ≡ 1)
    members-fit c pairs old defs keeps defined keys distinct fit of first = by (all_known c.keys) refl
      where
        by : (b : Bool) → all_known c.keys ≡ b → Fitting pairs (length old) × (length defs ≡ 1)
        by true known =
            let is = said c old defs known of in (
              as-mapping env (length old) (fields_with c.keys c.types) None _
                  (added-atom env old (MappingAtom (fields_with c.keys c.types) None) [] (subst (λ (ds : Atoms). AreFirst env (old ++ ds)) is first))
                  (closed-fits env c.keys c.types pairs keys fit distinct known, closed-names env c.keys c.types pairs keys),
              ap length is,
            )
        by false known =
            let (t, plain, below, is) = said-any c old defs known of in (
              as-mapping env (length old) [] (Some t) _ (added-atom env old (MappingAtom [] (Some t)) [] (subst (λ (ds : Atoms). AreFirst env (old ++ ds)) is first))
                  (map-fits env old t pairs c.types keeps fit defined (λ x valid a. (keeps.shapes t.sem below.0 x).0 ((plain.shapes x valid).1 a)), All-nil _),
              ap length is,
            )

    -- the atom is there, and the members fit it
    atom-fits : (choice : Option ℕ) (c : ConstructorAtWork) (members : List MemberSeen) (pairs : List Pair) (old mid : Atoms) (atom : ℕ) → KeepsTypes old env → All (TyBelow (length old)) c.types
        → IfSome choice (λ a. a < length old) → AtomOf choice c old mid atom → AreFirst env mid → c.keys ≡ map (λ m. m.key) members → HasAllRequired env choice members
        → AllZip (λ key (p : Pair). IsKeyPart env key p.0) c.keys pairs → AreDistinct c.keys → MembersChosen env choice c.types pairs → Fitting pairs atom × (atom < length mid)
    atom-fits None c members pairs old mid atom keeps defined there (is, (defs, of, grown)) first seen required keys distinct fit =
        let (fits, one) = members-fit c pairs old defs keeps defined keys distinct fit of (subst (AreFirst env) grown first) in
        let long : length mid ≡ length old + length defs = ap length grown ∙ length-append old defs in
        (subst (Fitting pairs) (sym is) fits, omega (arith, is, long, one))
    atom-fits (Some a) c members pairs old mid atom keeps defined there (is, same) first seen required keys distinct fit =
        let (fields, rest, here, all) = mapping-of env a _ fit in
        let (others, more, at, needed) = mapping-of env a _ required in
        let (ef, er) = one-mapping env a others fields more rest at here in
        let keys' : AllZip (λ key (p : Pair). IsKeyPart env key p.0) (map (λ m. m.key) members) pairs = subst (λ ks. AllZip (λ key (p : Pair). IsKeyPart env key p.0) ks pairs) seen keys in
        let long : length mid ≡ length old = ap length same in (
          subst (Fitting pairs) (sym is) (as-mapping env a fields rest _ here (
            mapped-all (MemberFits env fields rest) (sems env) pairs all,
            chosen-names env fields members pairs keys' (subst (λ (fs : List FieldDef). RequiredAreThere fs members) ef needed),
          )),
          omega (arith, is, long, there),
        )

    mapping-made : (place : Surroundings) → MappingIsTyped passes names env place
    mapping-made place count at old new c members pairs before after first met last many lasts typed seen required holds =
        let (d, atom, mid, l, found, of, made) = mapping-opened count at old new met in
        let one : d ≡ c = last-same old.constructors d c l last in
        let of' : AtomOf c.choice c old.atoms mid.atoms atom = subst (λ (b : ConstructorAtWork). AtomOf b.choice b old.atoms mid.atoms atom) one of in
        let made' : Makes (2 * count) (MadeMapping atom c.immutable at) mid new = subst (λ (b : ConstructorAtWork). Makes (2 * count) (MadeMapping atom b.immutable at) mid new) one made in
        let lasts' : AreLast mid.found (2 * count) (parts_of pairs) = subst (λ xs. AreLast xs (2 * count) (parts_of pairs)) (sym found) lasts in
        let below : ConstructorBelow (length old.atoms) c = last-has (ConstructorBelow (length old.atoms)) old.constructors c last before.stands.constructors in
        let (fits, there) = atom-fits c.choice c members pairs old.atoms mid.atoms atom before.keeps below.types below.choice of' (subst (AreFirst env) made'.5 first) seen required holds.keys holds.distinct holds.fit in
        as-before env passes names place (2 * count) old mid new found
        (one-typed env passes names place (form.Mapping atom c.immutable) (MakeMapping atom c.immutable (length pairs)) (2 * count) (parts_of pairs) (λ env. IsPlain (IsMade env atom c.immutable) env)
        (IsMade env atom c.immutable) at mid new after lasts' typed made' (ap (λ (k : ℕ). MakeMapping atom c.immutable k ∷ []) (halved pairs))
        (λ t has. in-pairs env pairs _ (
          keys-text env c.keys pairs holds.keys,
          fits,
          mapped-all (λ (m : SemType × SemType). MayStandIn env c.immutable m.1) (sems env) pairs holds.frozen,
          has,
        ))
        (λ t plain defined keeps x valid is. (keeps.shapes (sem_of t) defined x).0 ((plain.shapes x valid).1 ((keeps.shapes (Atom atom) there x).1 is.0, is.1))))

    pub mappings-are-typed : (place : Surroundings) → MappingsAreTyped passes names env place
    mappings-are-typed place =
        record {
          chosen = mapping-chosen place;
          computed = key-computed place;
          expected = member-expected place;
          taken = member-taken place;
          made = mapping-made place;
        }
