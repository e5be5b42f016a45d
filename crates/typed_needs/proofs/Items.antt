-- List constructors, item by item.
use Rattle.std.proofs.Common.{◌≡◌, ◌≤◌, ◌<◌, ◌∙◌, ◌++◌, ◌+◌, ℕ, Bool, true, false, List, [], ◌∷◌, length, map, All, Option, Some, None, IfSome, append_assoc, arith, length-append, refl, sym, subst, ap}
use Rattle.std.specs.Prelude.{IsSomeAnd, slice_get, ⊤}
use Rattle.std.specs.List.{AllZip}
use Rattle.std.proofs.lemmas.List.{length-map}
use Rattle.std.proofs.lemmas.List.Elements.{All-cons, All-head, All-nil, All-push, All-tail}
use Rattle.bal_base.specs.declared.fault.FaultCode.TheVariants.{ReadOnlyHolds}
use Rattle.bal_base.specs.declared.place.Place.{Place}
use Rattle.checks.specs.Checks.{Check, Gives, ◌▷◌, either, gives_some}
use Rattle.checks.specs.Questions.{adds, is_below}
use Rattle.descriptors.specs.declared.names.Names.{Names}
use Rattle.descriptors.specs.Described.{IsCopy, IsPlain}
use Rattle.needs.specs.Needs.{asks, does}
use Rattle.operations.specs.declared.operation.Operation.TheVariants.{MakeList}
use Rattle.operations.specs.Kinds.{IsImmutableData}
use Rattle.operations.specs.Rows.{IsWithin, Surroundings}
use Rattle.operations.specs.Structures.{IsListAtom, IsMade, ItemsFit, MayStandIn}
use Rattle.type_model.specs.declared.answers.TypeLimit.{TypeLimit}
use Rattle.type_model.specs.declared.atoms.AtomDef.{AtomDef}
use Rattle.type_model.specs.declared.atoms.AtomDef.TheVariants.{List as ListAtom}
use Rattle.type_model.specs.declared.basic.Choice.{Choice}
use Rattle.type_model.specs.declared.basic.SemType.{SemType, Atom}
use Rattle.type_model.specs.declared.basic.Ty.{Ty}
use Rattle.type_model.specs.Calls.{Asked}
use Rattle.type_model.specs.Defined.{IsDefined, TyBelow}
use Rattle.type_model.specs.Inclusion.{Sub}
use Rattle.type_model.specs.Membership.{In}
use Rattle.type_model.specs.Places.{item_type, or_rest}
use Rattle.type_model.proofs.SameTypes.{In-same}
use Rattle.typed_tree.specs.declared.expr.TypedExpr.{TypedExpr}
use Rattle.typed_tree.specs.declared.form.StrictForm.TheVariants as form
use Rattle.typed_tree.specs.Exprs.{type_of}
use Rattle.typed_tree.specs.SharedTypes.{Shared, sem_of}
use Rattle.expr_needs.specs.declared.expected.Expected.{Expected}
use Rattle.expr_needs.specs.declared.expected.Expected.TheVariants as expected
use Rattle.expr_needs.specs.declared.kind.Kind.{Kind}
use Rattle.expr_needs.specs.declared.kind.Kind.TheVariants as kind
use Rattle.flow_narrowing.specs.Flows.{AreSame, IfShared}
use Rattle.check_words.specs.Constructors.{IsFrozenType, IsItemWant, IsWantCopy, ListFits, added_type, at_work, atom_of, chooses_by, chooses_constructor, chooses_for, expects_item, first_fit, is_frozen, is_item, makes_list, may_stand, with_member}
use Rattle.check_words.specs.Stands.{ConstructorBelow}
use Rattle.check_words.specs.State.{AreLast, ConstructorAtWork, IsLast, State, all_but, replaced}
use Rattle.check_words.specs.Values.{widens_to}
use Rattle.check_words.specs.Words.{Atoms, OfKind, below_if, by_handles, done, opens_constructor, some_over, wants, whether_within}
use Rattle.check_words.proofs.Standing.{last-has}
use Rattle.tree_promises.specs.Made.{sem}
use Rattle.typed_needs.specs.Items.{AreFirst, AwaitsItem, HoldsItems, ItemIsExpected, ItemIsTaken, ItemsChosen, ListIsChosen, ListIsTyped, ListsAreTyped, TakesItem, WantsWithin}
use Rattle.typed_needs.specs.Pieces.{IsBefore}
use Rattle.typed_needs.proofs.Asking.{below-if-leaves, below-if-so, whether-leaves, whether-opened}
use Rattle.typed_needs.proofs.AtomKinds.{added-atom, as-list, later-atom, list-of, one-list}
use Rattle.typed_needs.proofs.Leaving.{LeavesAll, Makes, all-some, all-then, made}
use Rattle.typed_needs.proofs.Opened.{as-before, last-defined, sub-later}
use Rattle.typed_needs.proofs.Placed.{get-behind, last-same}
use Rattle.typed_needs.proofs.Strict.{StrictMade, never, one-typed, unless-leaves}

-- ---- lists

-- an item more that fits its place
pub items-more : (env : List AtomDef) (fixed : List Ty) (rest : Option Ty) (ss : List SemType) (s : SemType) (k : ℕ) → ItemsFit env ss k fixed rest
    → IsSomeAnd (item_type fixed rest (k + length ss)) (λ t. IsWithin env (λ x. In env x t.sem) s) → ItemsFit env (ss ++ s ∷ []) k fixed rest
items-more env fixed rest [] s k fit next = (subst (λ n. IsSomeAnd (item_type fixed rest n) (λ t. IsWithin env (λ x. In env x t.sem) s)) (omega arith) next, tt)
items-more env fixed rest (t ∷ ss) s k fit next =
    (fit.0, items-more env fixed rest ss s (k + 1) fit.1 (subst (λ n. IsSomeAnd (item_type fixed rest n) (λ t. IsWithin env (λ x. In env x t.sem) s)) (omega arith) next))

pub map-more : {A B : Type 0} (f : A → B) (xs : List A) (x : A) → map f (xs ++ x ∷ []) ≡ map f xs ++ f x ∷ []
map-more f [] x = refl
map-more f (y ∷ xs) x = ap (λ l. f y ∷ l) (map-more f xs x)

pub zip-more : {A B : Type 0} (R : A → B → Type 0) (xs : List A) (ys : List B) (x : A) (y : B) → AllZip R xs ys → R x y → AllZip R (xs ++ x ∷ []) (ys ++ y ∷ [])
zip-more R [] [] x y h r = (r, tt)
zip-more R (a ∷ xs) (b ∷ ys) x y h r = (h.0, zip-more R xs ys x y h.1 r)
zip-more R [] (b ∷ ys) x y h r = absurd h
zip-more R (a ∷ xs) [] x y h r = absurd h

-- the places of a list without a rest have the types
each-place : (env : List AtomDef) (es : List TypedExpr) (before types : List Ty) → AllZip (λ e t. Sub env (sem e) t.sem) es types
    → ItemsFit env (map sem es) (length before) (before ++ types) None
each-place env [] before [] h = tt
each-place env (e ∷ es) before (t ∷ types) h = (
  subst (λ (o : Option Ty). IsSomeAnd (or_rest o None) (λ u. IsWithin env (λ x. In env x u.sem) (sem e))) (sym (get-behind before t types)) (λ x i. h.0 x i.0 i.1),
  subst (λ n. ItemsFit env (map sem es) n (before ++ t ∷ types) None) (length-append before (t ∷ []))
      (subst (λ ts. ItemsFit env (map sem es) (length (before ++ t ∷ [])) ts None) (append_assoc before (t ∷ []) types)
      (each-place env es (before ++ t ∷ []) types h.1)),
)
each-place env [] before (t ∷ types) h = absurd h
each-place env (e ∷ es) before [] h = absurd h

pub mapped-all : {A B : Type 0} (P : B → Type 0) (f : A → B) (xs : List A) → All (λ a. P (f a)) xs → All P (map f xs)
mapped-all P f [] h = All-nil P
mapped-all P f (x ∷ xs) h = All-cons P (f x) (map f xs) (All-head (λ a. P (f a)) x xs h) (mapped-all P f xs (All-tail (λ a. P (f a)) x xs h))

-- ---- words

pub constructor-opened : (c : ConstructorAtWork) (u : Unit {0}) (old new : State) → opens_constructor c old (Gives u) new → new ≡ record old { constructors = old.constructors ++ c ∷ [] }
unfolding does
constructor-opened c u old new is = is

pub want-put : (w : Option Shared) (u : Unit {0}) (old new : State) → wants w old (Gives u) new → (x : Option Shared) × AreSame w x × (new ≡ record old { wants = old.wants ++ x ∷ [] })
unfolding ◌▷◌ by_handles does
want-put w u old new (x, mid, (same, first), is) = (x, same, is ∙ ap (λ (s : State). record s { wants = s.wants ++ x ∷ [] }) first)

pub same-none : (w x : Option Shared) → AreSame w x → w ≡ None → x ≡ None
same-none None None same e = refl
same-none None (Some t) same e = absurd same
same-none (Some t) x same e = absurd (let q : ⊥ = cc in q)

pub same-some : (w x : Option Shared) (t : Shared) → AreSame w x → w ≡ Some t → (u : Shared) × (x ≡ Some u) × (u.value ≡ t.value)
same-some (Some s) (Some u) t same e = (u, refl, same ∙ ap (λ (v : Shared). v.value) (some-same s t e))
  where
    some-same : (s t : Shared) → Some s ≡ Some t → s ≡ t
    some-same s t e = let q : s ≡ t = cc in q
same-some (Some s) None t same e = absurd same
same-some None x t same e = absurd (let q : ⊥ = cc in q)

module _ (passes : List AtomDef → Asked → TypeLimit → Type 0) where
  -- ---- what is chosen

  first-fit-leaves : (Fits : Atoms → Choice → Type 0) (all : List Choice) (at : Place) → LeavesAll (first_fit Fits all at)
  unfolding first_fit
  first-fit-leaves Fits all at old new c (x, is) = is

  first-fit-fits : (Fits : Atoms → Choice → Type 0) (all : List Choice) (at : Place) (old new : State) (c : Choice) → first_fit Fits all at old (Gives c) new → Fits old.atoms c
  unfolding first_fit
  first-fit-fits Fits all at old new c (x, is) = x.fits

  abbrev pub FitsChoice : (Atoms → Choice → Type 0) → Atoms → Option ℕ → Type 0
  FitsChoice Fits atoms None = ⊤
  FitsChoice Fits atoms (Some atom) = (d : Choice) × (d.atom ≡ atom) × Fits atoms d

  -- nothing is chosen, or one that fits
  abbrev pub IsChosenBy : (Atoms → Choice → Type 0) → State → ConstructorAtWork → Type 0
  IsChosenBy Fits old c = (c.types ≡ []) × (c.keys ≡ []) × FitsChoice Fits old.atoms c.choice

  module _ (own : Ty → List Choice) (Fits : Atoms → Choice → Type 0) where
    abbrev Opened : State → State → Type 0
    Opened old new = (c : ConstructorAtWork) × (new ≡ record old { constructors = old.constructors ++ c ∷ [] }) × IsChosenBy Fits old c

    none-chosen : (b : Bool) (u : Unit {0}) (old new : State) → opens_constructor (at_work None b) old (Gives u) new → Opened old new
    none-chosen b u old new met = (at_work None b, constructor-opened (at_work None b) u old new met, (refl, refl, tt))

    from-same : (old mid new : State) → mid ≡ old → Opened mid new → Opened old new
    from-same old mid new same o = subst (λ (s : State). Opened s new) same o

    chosen-by : (all : List Choice) (t : Ty) (at : Place) (u : Unit {0}) (old new : State) → chooses_by passes own Fits all t at old (Gives u) new → Opened old new
    unfolding ◌▷◌
    chosen-by [] t at u old new (b, mid, asked, met) = from-same old mid new (whether-leaves passes _ t.sem at old mid b asked) (none-chosen b u mid new met)
    chosen-by (c ∷ cs) t at u old new (d, mid, first, met) =
        let same : mid ≡ old = first-fit-leaves Fits (own t) at old mid d first in
        let fits : Fits mid.atoms d = subst (λ (s : State). Fits s.atoms d) (sym same) (first-fit-fits Fits (own t) at old mid d first) in
        let c : ConstructorAtWork = at_work (Some d.atom) d.immutable in
        from-same old mid new same (c, constructor-opened c u mid new met, (refl, refl, (d, refl, fits)))

    chosen-for : (w : Option Shared) (at : Place) (u : Unit {0}) (old new : State) → chooses_for passes own Fits w at old (Gives u) new → Opened old new
    chosen-for None at u old new met = none-chosen false u old new met
    chosen-for (Some t) at u old new met = chosen-by (t.value.lists ++ t.value.maps) t.value at u old new met

    pub chosen : (e : Expected) (at : Place) (u : Unit {0}) (old new : State) → chooses_constructor passes own Fits e at old (Gives u) new → Opened old new
    unfolding ◌▷◌ gives_some
    chosen expected.Nothing at u old new met = none-chosen false u old new met
    chosen expected.Immutable at u old new met = none-chosen true u old new met
    chosen expected.Wanted at u old new (w, mid, (last, same), met) = from-same old mid new same (chosen-for w at u mid new met)

  -- ---- members

  pub frozen-leaves : (e : TypedExpr) (at : Place) → LeavesAll (is_frozen passes e at)
  frozen-leaves e at = all-then _ _ (whether-leaves passes IsFrozenType (sem e) at) (λ b. unless-leaves b ReadOnlyHolds at)

  pub one-of : {A : Type 0} (b : Bool) (m n : Check State A) → LeavesAll m → LeavesAll n → LeavesAll (either b m n)
  one-of true m n f g = f
  one-of false m n f g = g

  pub may-stand-leaves : (c : ConstructorAtWork) (e : TypedExpr) (at : Place) → LeavesAll (may_stand passes c e at)
  may-stand-leaves c e at = one-of c.immutable (is_frozen passes e at) done (frozen-leaves e at) (all-some _)

  widens-to-leaves : (kinds : List Kind) (t : Shared) (at : Place) → LeavesAll (widens_to passes kinds t at)
  widens-to-leaves [] t at = all-some _
  widens-to-leaves (k ∷ kinds) t at =
      all-then _ _ (whether-leaves passes (OfKind k) (sem_of t) at) (λ b. one-of b _ _ (all-some _) (widens-to-leaves kinds t at))

  pub added-leaves : (choice : Option ℕ) (e : TypedExpr) (at : Place) → LeavesAll (added_type passes choice e at)
  added-leaves None e at = widens-to-leaves (kind.Integer ∷ kind.Text ∷ kind.Truth ∷ []) (type_of e) at
  added-leaves (Some atom) e at = all-some _

  -- the type that an item adds has its shapes
  widened-so : (kinds : List Kind) (t u : Shared) (at : Place) (old new : State) → widens_to passes kinds t at old (Gives u) new → Sub old.atoms (sem_of t) (sem_of u)
  unfolding ◌▷◌ gives_some
  widened-so [] t u at old new (is, same) = λ x valid i. subst (λ (v : Shared). In old.atoms x (sem_of v)) (sym is) i
  widened-so (k ∷ kinds) t u at old new (b, mid, asked, rest) = by b asked rest (widened-so kinds t u at)
    where
      by : (b : Bool) → whether_within passes (OfKind k) (sem_of t) at old (Gives b) mid
          → either b (some_over (λ env (u : Shared). OfKind k env u.value)) (widens_to passes kinds t at) mid (Gives u) new
          → ((m n : State) → widens_to passes kinds t at m (Gives u) n → Sub m.atoms (sem_of t) (sem_of u)) → Sub old.atoms (sem_of t) (sem_of u)
      by true asked (kind-of, same) more =
          let (v, of, under) = whether-opened passes (OfKind k) (sem_of t) at old mid asked in
          let here : mid ≡ old = whether-leaves passes (OfKind k) (sem_of t) at old mid true asked in
          let wide : OfKind k old.atoms u.value = subst (λ (s : State). OfKind k s.atoms u.value) here kind-of in
          λ x valid i. (wide.0.shapes x valid).1 ((of.0.shapes x valid).0 (under x valid i))
      by false asked rest more =
          let here : mid ≡ old = whether-leaves passes (OfKind k) (sem_of t) at old mid false asked in
          subst (λ (s : State). Sub s.atoms (sem_of t) (sem_of u)) here (more mid new rest)

  pub added-so : (e : TypedExpr) (t : Shared) (at : Place) (old new : State) → added_type passes None e at old (Gives t) new → Sub old.atoms (sem e) (sem_of t)
  added-so e t at old new met = widened-so (kind.Integer ∷ kind.Text ∷ kind.Truth ∷ []) (type_of e) t at old new met

  -- an item, step by step
  pub record ItemOpened (at : Place) (old new : State) : Type 0 where
    pub c : ConstructorAtWork
    pub e : TypedExpr
    pub w : Option Shared
    pub t : Shared
    pub added : Ty
    pub below : State
    pub stood : State
    pub typed : State
    pub last_constructor : IsLast old.constructors c
    pub last_part : IsLast old.found e
    pub last_want : IsLast old.wants w
    pub is_below : below_if passes w e at old (Gives tt) below
    pub stands : may_stand passes c e at old (Gives tt) stood
    pub type : added_type passes c.choice e at old (Gives t) typed
    pub copy : IsCopy t.value added
    pub all : new ≡ record old { constructors = replaced old.constructors (with_member added c); wants = all_but 1 old.wants }

  item-opened : (at : Place) (old new : State) → is_item passes at old (Gives tt) new → ItemOpened at old new
  unfolding ◌▷◌ gives_some does
  item-opened at old new (c, s1, (l1, e1), (e, s2, (l2, e2), (w, s3, (l3, e3), (u, s4, below, (v, s5, stand, (x, s6, (t, s7, type, (y, s8, (copy, e8), set)), drop)))))) =
      let two : s2 ≡ old = e2 ∙ e1 in
      let three : s3 ≡ old = e3 ∙ two in
      let four : s4 ≡ old = below-if-leaves passes w e at s3 s4 u below ∙ three in
      let five : s5 ≡ old = may-stand-leaves c e at s4 s5 v stand ∙ four in
      let eight : s8 ≡ old = e8 ∙ added-leaves c.choice e at s5 s7 t type ∙ five in
      record {
        c = c;
        e = e;
        w = w;
        t = t;
        added = y;
        below = s4;
        stood = s5;
        typed = s7;
        last_constructor = l1;
        last_part = subst (λ (s : State). IsLast s.found e) e1 l2;
        last_want = subst (λ (s : State). IsLast s.wants w) two l3;
        is_below = subst (λ (s : State). below_if passes w e at s (Gives tt) s4) three below;
        stands = subst (λ (s : State). may_stand passes c e at s (Gives tt) s5) four stand;
        type = subst (λ (s : State). added_type passes c.choice e at s (Gives t) s7) five type;
        copy = copy;
        all = drop ∙ ap (λ (s : State). record s { wants = all_but 1 s.wants }) (set ∙ ap (λ (s : State). record s { constructors = replaced s.constructors (with_member y c) }) eight);
      }

  pub frozen-opened : (e : TypedExpr) (at : Place) (old new : State) → is_frozen passes e at old (Gives tt) new → (t : Ty) × IsFrozenType old.atoms t × Sub old.atoms (sem e) t.sem
  unfolding ◌▷◌
  frozen-opened e at old new (true, mid, asked, rest) = whether-opened passes IsFrozenType (sem e) at old mid asked
  frozen-opened e at old new (false, mid, asked, rest) = absurd (never ReadOnlyHolds at mid new rest)

  expected-opened : (old new : State) → expects_item old (Gives tt) new
      → (d : ConstructorAtWork) × (w : Option Shared) × IsLast old.constructors d × IsItemWant old.atoms d w × (x : Option Shared) × AreSame w x × (new ≡ record old { wants = old.wants ++ x ∷ [] })
  unfolding ◌▷◌ gives_some
  expected-opened old new (d, s1, (l, e1), (w, s2, (wanted, e2), put)) =
      let (x, same, is) = want-put w tt s2 new put in
      (d, w, l, subst (λ (s : State). IsItemWant s.atoms d w) e1 wanted, x, same, is ∙ ap (λ (s : State). record s { wants = s.wants ++ x ∷ [] }) (e2 ∙ e1))

  module _ (names : Names) (env : List AtomDef) where
    -- what may stand in an immutable structure is immutable data
    pub stands-so : (immutable : Bool) (e : TypedExpr) (at : Place) (old new : State) → IsBefore env old → IsLast old.found e
        → either immutable (is_frozen passes e at) done old (Gives tt) new → MayStandIn env immutable (sem e)
    stands-so false e at old new before last met = λ is. absurd (let q : ⊥ = cc in q)
    stands-so true e at old new before last met = λ is. by (frozen-opened e at old new met)
      where
        by : ((t : Ty) × IsFrozenType old.atoms t × Sub old.atoms (sem e) t.sem) → IsWithin env IsImmutableData (sem e)
        by (t, frozen, under) x i =
            (frozen.shapes x i.0).0 (under x i.0 ((before.keeps.shapes (sem e) (last-defined env old e before last) x).1 i.1))

    list-chosen : (place : Surroundings) → ListIsChosen passes names env place
    list-chosen place e items at old new first met =
        let (c, is, (types, keys, fits)) = chosen (λ t. t.lists) (ListFits items) e at tt old new met in (
          c,
          is,
          record {
            many = ap length types;
            fit = by c.choice c.types types fits;
            frozen = All-nil _;
          },
        )
      where
        by : (choice : Option ℕ) (types : List Ty) → types ≡ [] → FitsChoice (ListFits items) old.atoms choice → ItemsChosen env choice types (length items) []
        by None types none fits = subst (λ ts. ItemsChosen env None ts (length items) []) (sym none) tt
        by (Some atom) types none (d, is, fits) =
            let (fixed, rest, there, (long, literals)) = list-of old.atoms d.atom _ fits in
            as-list env atom fixed rest _ (later-atom env old.atoms atom (ListAtom fixed rest) first (subst (λ a. slice_get old.atoms a ≡ Some (ListAtom fixed rest)) is there)) (long.0, tt)

    item-expected : (place : Surroundings) → ItemIsExpected passes names env place
    item-expected place old new c first met last =
        let (d, w, l, wanted, x, same, is) = expected-opened old new met in
        let one : d ≡ c = last-same old.constructors d c l last in
        (x, is, awaits c.choice (length c.types) w x same (subst (λ (b : ConstructorAtWork). IsItemWant old.atoms b w) one wanted) refl)
      where
        awaits : (choice : Option ℕ) (k : ℕ) (w x : Option Shared) → AreSame w x
            → IsItemWant old.atoms (record c { choice = choice }) w → k ≡ length c.types → AwaitsItem env choice k x
        awaits None k w x same wanted is = same-none w x same wanted
        awaits (Some atom) k w x same wanted is =
            let (fixed, rest, there, at) = list-of old.atoms atom _ wanted in
            as-list env atom fixed rest _ (later-atom env old.atoms atom (ListAtom fixed rest) first there)
            (subst (λ n. IsSomeAnd (item_type fixed rest n) (WantsWithin env x)) (sym is) (item (item_type fixed rest (length c.types)) at))
          where
            item : (o : Option Ty) → IsSomeAnd o (λ t. IsWantCopy t w) → IsSomeAnd o (WantsWithin env x)
            item (Some t) (u, is, copy) =
                let (v, has, value) = same-some w x u same is in
                (v, has, (λ y i. (In-same env y t.sem u.value.sem copy.sem).1 (subst (λ (z : Ty). In env y z.sem) value i)))
            item None h = absurd h

    -- ---- an item more

    fit-more : (choice : Option ℕ) (types : List Ty) (count : ℕ) (items : List TypedExpr) (e : TypedExpr) (w : Option Shared) (t : Shared) (added : Ty) (at : Place) (old typed below : State)
        → IsBefore env old → IsLast old.found e → IsLast old.wants w → IsDefined old.atoms added.sem → added_type passes choice e at old (Gives t) typed → IsCopy t.value added
        → below_if passes w e at old (Gives tt) below → AwaitsItem env choice (length types) w → length types ≡ length items → ItemsChosen env choice types count items
        → ItemsChosen env choice (types ++ added ∷ []) count (items ++ e ∷ [])
    fit-more None types count items e w t added at old typed below before last want defined type copy met awaited many fit =
        zip-more (λ p u. Sub env (sem p) u.sem) items types e added fit
        (sub-later env old.atoms (sem e) added.sem before.keeps (last-defined env old e before last) defined
        (λ x valid i. (In-same old.atoms x (sem_of t) added.sem copy.sem).0 (added-so e t at old typed type x valid i)))
    fit-more (Some atom) types count items e w t added at old typed below before last want defined type copy met awaited many fit =
        let (fixed, rest, there, (long, fits)) = list-of env atom _ fit in
        let (others, more, here, next) = list-of env atom _ awaited in
        let (ef, er) = one-list env atom others fixed more rest here there in
        let next' : IsSomeAnd (item_type fixed rest (length types)) (WantsWithin env w) =
        subst (λ (r : Option Ty). IsSomeAnd (item_type fixed r (length types)) (WantsWithin env w)) er
        (subst (λ (f : List Ty). IsSomeAnd (item_type f more (length types)) (WantsWithin env w)) ef next) in
        let placed : 0 + length (map sem items) ≡ length types = (let m = length-map items sem in omega (arith, many, m)) in
        as-list env atom fixed rest _ there (
          long,
          subst (λ ss. ItemsFit env ss 0 fixed rest) (sym (map-more sem items e))
              (items-more env fixed rest (map sem items) (sem e) 0 fits
              (subst (λ n. IsSomeAnd (item_type fixed rest n) (λ u. IsWithin env (λ x. In env x u.sem) (sem e))) (sym placed)
              (by (item_type fixed rest (length types)) next'))),
        )
      where
        below-wanted : (u : Shared) → w ≡ Some u → Sub env (sem e) (sem_of u)
        below-wanted u is =
            let met' : below_if passes (Some u) e at old (Gives tt) below = subst (λ (o : Option Shared). below_if passes o e at old (Gives tt) below) is met in
            let there : IfShared (TyBelow (length old.atoms)) (Some u) =
            subst (IfShared (TyBelow (length old.atoms))) is (last-has (IfShared (TyBelow (length old.atoms))) old.wants w want before.stands.wants) in
            sub-later env old.atoms (sem e) (sem_of u) before.keeps (last-defined env old e before last) there.0 (below-if-so passes u e at tt old below met')

        by : (o : Option Ty) → IsSomeAnd o (WantsWithin env w) → IsSomeAnd o (λ u. IsWithin env (λ x. In env x u.sem) (sem e))
        by (Some v) (u, is, within) = λ x i. within x (below-wanted u is x i.0 i.1)
        by None h = absurd h

    taken-of : (place : Surroundings) (at : Place) (old new : State) (count : ℕ) (items : List TypedExpr) (o : ItemOpened at old new) → IsBefore env old → IsBefore env new
        → AwaitsItem env o.c.choice (length o.c.types) o.w → HoldsItems env o.c count items → TakesItem passes names env place old new count (items ++ o.e ∷ [])
    taken-of place at old new count items o before after awaited holds =
        let now : ConstructorAtWork = with_member o.added o.c in
        let constructors : new.constructors ≡ replaced old.constructors now = ap (λ (s : State). s.constructors) o.all in
        let atoms : new.atoms ≡ old.atoms = ap (λ (s : State). s.atoms) o.all in
        let last : IsLast new.constructors now = record { kept = all_but 1 old.constructors; is = constructors } in
        let types : ConstructorBelow (length new.atoms) now = last-has (ConstructorBelow (length new.atoms)) new.constructors now last after.stands.constructors in
        let added : TyBelow (length new.atoms) o.added = last-has (TyBelow (length new.atoms)) now.types o.added (record { kept = o.c.types; is = refl }) types.types in
        record {
          now = now;
          constructors = constructors;
          wants = ap (λ (s : State). s.wants) o.all;
          found = ap (λ (s : State). s.found) o.all;
          holds = record {
            many = length-append o.c.types (o.added ∷ []) ∙ ap (λ n. n + 1) holds.many ∙ sym (length-append items (o.e ∷ []));
            fit = fit-more o.c.choice o.c.types count items o.e o.w o.t o.added at old o.typed o.below before o.last_part o.last_want
                (subst (λ (xs : Atoms). IsDefined xs o.added.sem) atoms added.0) o.type o.copy o.is_below awaited holds.many holds.fit;
            frozen = All-push (λ e. MayStandIn env o.c.immutable (sem e)) items o.e holds.frozen (stands-so o.c.immutable o.e at old o.stood before o.last_part o.stands);
          };
        }

    item-taken : (place : Surroundings) → ItemIsTaken passes names env place
    item-taken place at old new c e w count items before after met lc le lw awaited holds =
        let o = item-opened at old new met in
        let ec : o.c ≡ c = last-same old.constructors o.c c o.last_constructor lc in
        let ee : o.e ≡ e = last-same old.found o.e e o.last_part le in
        let ew : o.w ≡ w = last-same old.wants o.w w o.last_want lw in
        subst (λ (p : TypedExpr). TakesItem passes names env place old new count (items ++ p ∷ [])) ee
        (taken-of place at old new count items o before after
        (subst (λ (v : Option Shared). AwaitsItem env o.c.choice (length o.c.types) v) (sym ew) (subst (λ (b : ConstructorAtWork). AwaitsItem env b.choice (length b.types) w) (sym ec) awaited))
        (subst (λ (b : ConstructorAtWork). HoldsItems env b count items) (sym ec) holds))

    -- ---- the whole list

    -- the atom that was chosen, or that of the very items
    abbrev AtomOf : Option ℕ → List Ty → Atoms → Atoms → ℕ → Type 0
    AtomOf None types old new atom = (atom ≡ length old) × (new ≡ old ++ ListAtom types None ∷ [])
    AtomOf (Some a) types old new atom = (atom ≡ a) × (new ≡ old)

    abbrev MadeList : ℕ → Bool → Place → Atoms → List TypedExpr → TypedExpr → Type 0
    MadeList atom immutable at = StrictMade (form.List atom immutable) (λ env. IsPlain (IsMade env atom immutable) env) at

    atom-of-so : (choice : Option ℕ) (types : List Ty) (at : Place) (atom : ℕ) (old new : State) → atom_of choice (λ env defs. defs ≡ ListAtom types None ∷ []) at old (Gives atom) new
        → (new.found ≡ old.found) × AtomOf choice types old.atoms new.atoms atom
    unfolding gives_some asks adds
    atom-of-so None types at atom old new ((defs, is, number, atoms), over) = (ap (λ (s : State). s.found) over, (number, atoms ∙ ap (λ ds. old.atoms ++ ds) is))
    atom-of-so (Some a) types at atom old new (is, same) = (ap (λ (s : State). s.found) same, (is, ap (λ (s : State). s.atoms) same))

    list-opened : (count : ℕ) (at : Place) (old new : State) → makes_list count at old (Gives tt) new
        → (c : ConstructorAtWork) × (atom : ℕ) × (mid : State) × IsLast old.constructors c × (mid.found ≡ old.found) × AtomOf c.choice c.types old.atoms mid.atoms atom
        × Makes count (MadeList atom c.immutable at) mid new
    unfolding ◌▷◌ gives_some does
    list-opened count at old new (c, s3, (d, s1, (l, e1), (u, s2, e2, (is, e3))), (atom, mid, chosen, makes-it)) =
        let (found, of) = atom-of-so c.choice c.types at atom s3 mid chosen in
        let same : s3 ≡ record s1 { constructors = all_but 1 s1.constructors } = e3 ∙ e2 in (
          c,
          atom,
          mid,
          subst (λ (x : ConstructorAtWork). IsLast old.constructors x) (sym is) l,
          found ∙ ap (λ (s : State). s.found) same ∙ ap (λ (s : State). s.found) e1,
          subst (λ (xs : Atoms). AtomOf c.choice c.types xs mid.atoms atom) (ap (λ (s : State). s.atoms) same ∙ ap (λ (s : State). s.atoms) e1) of,
          made count (MadeList atom c.immutable at) tt mid new makes-it,
        )

    -- the atom is there, and the items fit it
    atom-fits : (choice : Option ℕ) (types : List Ty) (count : ℕ) (items : List TypedExpr) (old mid : Atoms) (atom : ℕ) → AtomOf choice types old mid atom → AreFirst env mid
        → length types ≡ length items → length items ≡ count → ItemsChosen env choice types count items
        → IsListAtom env atom (λ fixed rest. (length fixed ≤ count) × ItemsFit env (map sem items) 0 fixed rest)
    atom-fits None types count items old mid atom (is, grown) first many all fit =
        subst (λ a. IsListAtom env a (λ fixed rest. (length fixed ≤ count) × ItemsFit env (map sem items) 0 fixed rest)) (sym is)
        (as-list env (length old) types None _ (added-atom env old (ListAtom types None) [] (subst (AreFirst env) grown first))
        (omega (arith, many, all), each-place env items [] types fit))
    atom-fits (Some a) types count items old mid atom (is, same) first many all fit =
        subst (λ a. IsListAtom env a (λ fixed rest. (length fixed ≤ count) × ItemsFit env (map sem items) 0 fixed rest)) (sym is) fit

    atom-there : (choice : Option ℕ) (types : List Ty) (old mid : Atoms) (atom : ℕ) → AtomOf choice types old mid atom → IfSome choice (λ a. a < length old) → atom < length mid
    atom-there None types old mid atom (is, grown) h =
        let long : length mid ≡ length old + 1 = ap length grown ∙ length-append old (ListAtom types None ∷ []) in omega (arith, is, long)
    atom-there (Some a) types old mid atom (is, same) h = let long : length mid ≡ length old = ap length same in omega (arith, is, long, h)

    list-made : (place : Surroundings) → ListIsTyped passes names env place
    list-made place at old new c count items before after first met last lasts typed holds =
        let (d, atom, mid, l, found, of, made) = list-opened count at old new met in
        let one : d ≡ c = last-same old.constructors d c l last in
        let of' : AtomOf c.choice c.types old.atoms mid.atoms atom = subst (λ (b : ConstructorAtWork). AtomOf b.choice b.types old.atoms mid.atoms atom) one of in
        let made' : Makes count (MadeList atom c.immutable at) mid new = subst (λ (b : ConstructorAtWork). Makes count (MadeList atom b.immutable at) mid new) one made in
        let lasts' : AreLast mid.found count items = subst (λ xs. AreLast xs count items) (sym found) lasts in
        let below : ConstructorBelow (length old.atoms) c = last-has (ConstructorBelow (length old.atoms)) old.constructors c last before.stands.constructors in
        let there : atom < length mid.atoms = atom-there c.choice c.types old.atoms mid.atoms atom of' below.choice in
        let fits = atom-fits c.choice c.types count items old.atoms mid.atoms atom of' (subst (AreFirst env) made'.5 first) holds.many lasts.many holds.fit in
        let many : length (map sem items) ≡ length items = length-map items sem in
        let fits' : IsListAtom env atom (λ fixed rest. (length fixed ≤ length items) × ItemsFit env (map sem items) 0 fixed rest) =
        subst (λ n. IsListAtom env atom (λ fixed rest. (length fixed ≤ n) × ItemsFit env (map sem items) 0 fixed rest)) (sym lasts.many) fits in
        as-before env passes names place count old mid new found
        (one-typed env passes names place (form.List atom c.immutable) (MakeList atom c.immutable (length items)) count items (λ env. IsPlain (IsMade env atom c.immutable) env)
        (IsMade env atom c.immutable) at mid new after lasts' typed made' refl
        (λ t has. (many, fits', mapped-all (MayStandIn env c.immutable) sem items holds.frozen, has))
        (λ t plain defined keeps x valid is. (keeps.shapes (sem_of t) defined x).0 ((plain.shapes x valid).1 ((keeps.shapes (Atom atom) there x).1 is.0, is.1))))

    pub lists-are-typed : (place : Surroundings) → ListsAreTyped passes names env place
    lists-are-typed place = record { chosen = list-chosen place; expected = item-expected place; taken = item-taken place; made = list-made place }
