-- Waits whose names are all known.
use Rattle.std.proofs.Common.{◌≡◌, ◌∙◌, ◌++◌, ◌+◌, ℕ, zero, suc, false, List, [], ◌∷◌, length, map, All, Option, Some, None, arith, refl, sym, subst, ap}
use Rattle.std.specs.Prelude.{Any, IsSome, IsSomeAnd, slice_get}
use Rattle.std.specs.List.{AllZip}
use Rattle.std.proofs.lemmas.List.{length-map}
use Rattle.std.proofs.lemmas.List.Elements.{All-cons, All-head, All-nil, All-tail}
use Rattle.bal_base.specs.declared.place.Place.{Place}
use Rattle.bal_base.specs.declared.shape.Shape.{Shape}
use Rattle.bal_base.specs.declared.text.Text.{Text}
use Rattle.bal_base.specs.Valid.{IsValid}
use Rattle.bal_tree.specs.declared.name.QualifiedName.{QualifiedName}
use Rattle.checks.specs.Checks.{Gives, ◌▷◌, gives_some}
use Rattle.checks.specs.Questions.{adds}
use Rattle.descriptors.specs.declared.names.Names.{Names}
use Rattle.descriptors.specs.Described.{IsCopy, plain}
use Rattle.needs.specs.Needs.{asks, does}
use Rattle.operations.specs.declared.operation.Operation.TheVariants.{WaitAll, WaitAny, WaitFuture, WaitWorker}
use Rattle.operations.specs.Rows.{ResultHas, Surroundings}
use Rattle.operations.specs.Structures.{AwaitsAll, AwaitsEach, GivenByFuture, GivenByWorker}
use Rattle.type_model.specs.declared.answers.TypeLimit.{TypeLimit}
use Rattle.type_model.specs.declared.atoms.AtomDef.{AtomDef}
use Rattle.type_model.specs.declared.atoms.AtomDef.TheVariants.{Mapping as MappingAtom}
use Rattle.type_model.specs.declared.atoms.FieldDef.{FieldDef}
use Rattle.type_model.specs.declared.basic.SemType.{SemType, Atom}
use Rattle.type_model.specs.declared.basic.Ty.{Ty}
use Rattle.type_model.specs.Calls.{Asked, KeepsTypes}
use Rattle.type_model.specs.Defined.{IsDefined, TyBelow}
use Rattle.type_model.specs.Inclusion.{Sub}
use Rattle.type_model.specs.Membership.{In}
use Rattle.type_model.proofs.SameTypes.{In-same}
use Rattle.typed_tree.specs.declared.expr.TypedExpr.{TypedExpr}
use Rattle.typed_tree.specs.declared.form.StrictForm.TheVariants as form
use Rattle.typed_tree.specs.SharedTypes.{Shared, sem_of}
use Rattle.held_operations.specs.Constructs.{wait_operations}
use Rattle.flow_narrowing.specs.Flows.{IfShared}
use Rattle.check_words.specs.Actions.{IsOfAny, awaited, futures, takes_wants, waits_for_all, waits_for_any}
use Rattle.check_words.specs.Constructors.{fields_with}
use Rattle.check_words.specs.Seen.{worker_named}
use Rattle.check_words.specs.State.{AreLast, ConstructorAtWork, IsLast, Site, State, all_but}
use Rattle.check_words.specs.Words.{Atoms}
use Rattle.check_words.proofs.Standing.{last-have}
use Rattle.tree_promises.specs.Made.{LeadsTo, sem}
use Rattle.typed_needs.specs.Items.{AreFirst}
use Rattle.typed_needs.specs.Pieces.{IsBefore}
use Rattle.typed_needs.proofs.AtomKinds.{added-atom, as-mapping}
use Rattle.typed_needs.proofs.Leaving.{Makes, SameParts, between, made, then-same}
use Rattle.typed_needs.proofs.Messages.{one-op, ticked}
use Rattle.typed_needs.proofs.Opened.{as-before, cons-same, same-lasts}
use Rattle.typed_needs.proofs.Placed.{last-same}
use Rattle.typed_needs.proofs.Strict.{StrictMade, strict-typed}
use Rattle.typed_calls.specs.WholeWaits.{AllGive, AlternateWaitIsTyped, MultipleWaitIsTyped, WholeWaitsAreTyped}

any-here : {A : Type 0} (P : A → Type 0) (x : A) (xs : List A) → P x → Any P (x ∷ xs)
any-here P x xs p = (0, x, omega arith, refl, p)

any-later : {A : Type 0} (P : A → Type 0) (x : A) (xs : List A) → Any P xs → Any P (x ∷ xs)
any-later P x xs a = (suc a.0, a.1, omega (arith, a.2), a.3, a.4)

same-map : (ts us : List Shared) → map Some ts ≡ map Some us → ts ≡ us
same-map [] [] e = refl
same-map (t ∷ ts) (u ∷ us) e =
    let (first, rest) = cons-same (Some t) (Some u) (map Some ts) (map Some us) e in
    let one : t ≡ u = cc in
    ap (λ x. x ∷ ts) one ∙ ap (λ l. u ∷ l) (same-map ts us rest)
same-map [] (u ∷ us) e = absurd (let bad : ⊥ = cc in bad)
same-map (t ∷ ts) [] e = absurd (let bad : ⊥ = cc in bad)

-- ---- what is taken

wants-taken : (count : ℕ) (ts : List Shared) (old new : State) → takes_wants count old (Gives ts) new
    → AreLast old.wants count (map Some ts) × (new ≡ record old { wants = all_but count old.wants })
unfolding ◌▷◌ gives_some does
wants-taken count ts old new (ws, s1, (last, e1), (us, s2, (present, e2), (u, s3, e3, (is, e4)))) = (
  subst (λ l. AreLast old.wants count (map Some l)) (sym is) (subst (λ l. AreLast old.wants count l) present last),
  e4 ∙ e3 ∙ ap (λ (s : State). record s { wants = all_but count s.wants }) (e2 ∙ e1),
)

same-when : (old new : State) (ws : List (Option Shared)) → new ≡ record old { wants = ws } → SameParts old new
same-when old new ws is = record { found = ap (λ (s : State). s.found) is; atoms = ap (λ (s : State). s.atoms) is }

-- the types that are taken are those that are known to be wanted
wants-same : (count : ℕ) (ts us : List Shared) (s : State) → AreLast s.wants count (map Some ts) → AreLast s.wants count (map Some us) → ts ≡ us
wants-same count ts us s l m = same-map ts us (same-lasts s.wants count (map Some ts) (map Some us) l m)

wants-there : (env : List AtomDef) (count : ℕ) (ts : List Shared) (s : State) → IsBefore env s → AreLast s.wants count (map Some ts) → All (λ t. IsDefined s.atoms (sem_of t)) ts
wants-there env count ts s before last = by ts (last-have (IfShared (TyBelow (length s.atoms))) count s.wants (map Some ts) last before.stands.wants)
  where
    by : (ts : List Shared) → All (IfShared (TyBelow (length s.atoms))) (map Some ts) → All (λ t. IsDefined s.atoms (sem_of t)) ts
    by [] h = All-nil _
    by (t ∷ ts) h =
        All-cons (λ (u : Shared). IsDefined s.atoms (sem_of u)) t ts (All-head (IfShared (TyBelow (length s.atoms))) (Some t) (map Some ts) h).0
        (by ts (All-tail (IfShared (TyBelow (length s.atoms))) (Some t) (map Some ts) h))

-- ---- what each name gives

worker-has : (env : List AtomDef) (u t : SemType) (o : Option SemType) → ((x : Shape) → IsValid x → In env x u → In env x t) → IsSomeAnd o (λ s. Sub env s u)
    → IsSome o × ((x : Shape) → IsValid x → IsSomeAnd o (λ s. In env x s) → In env x t)
worker-has env u t (Some s) wide under = (refl, (λ x valid i. wide x valid (under x valid i)))
worker-has env u t None wide under = absurd under

module _ (env : List AtomDef) (place : Surroundings) where
  -- one name behind another, where each type that is known of a name does for what is asked there
  each-awaited : (each : ℕ → (Shape → Type 0) → Type 0) (k : ℕ) (names : List (Option ℕ)) (ts : List Shared) (parts : List TypedExpr) → AllGive env place names ts parts
      → ((i : ℕ) (t : Shared) (P : Shape → Type 0) → slice_get ts i ≡ Some t → ((x : Shape) → IsValid x → P x → In env x (sem_of t)) → each (k + i) P)
      → AwaitsEach env place each k names (map sem parts)
  each-awaited each k [] [] [] give does = tt
  each-awaited each k (Some w ∷ names) (t ∷ ts) parts give does =
      let h = worker-has env (sem_of t) (sem_of t) (slice_get place.workers w) (λ x valid i. i) give.0 in (
        h.0,
        subst (λ n. each n (GivenByWorker env place w)) (omega arith) (does 0 t (GivenByWorker env place w) refl h.1),
        each-awaited each (k + 1) names ts parts give.1 (λ i u P is has. subst (λ n. each n P) (omega arith) (does (suc i) u P is has)),
      )
  each-awaited each k (None ∷ names) (t ∷ ts) (e ∷ parts) give does = (
    give.0.0,
    subst (λ n. each n (GivenByFuture env (sem e))) (omega arith) (does 0 t (GivenByFuture env (sem e)) refl give.0.1),
    each-awaited each (k + 1) names ts parts give.1 (λ i u P is has. subst (λ n. each n P) (omega arith) (does (suc i) u P is has)),
  )
  each-awaited each k [] [] (e ∷ parts) give does = absurd give
  each-awaited each k [] (t ∷ ts) parts give does = absurd give
  each-awaited each k (Some w ∷ names) [] parts give does = absurd give
  each-awaited each k (None ∷ names) [] parts give does = absurd give
  each-awaited each k (None ∷ names) (t ∷ ts) [] give does = absurd give

  -- the type has all of what is known of each name
  abbrev AllUnder : List Shared → SemType → Type 0
  AllUnder ts t = (i : ℕ) (u : Shared) → slice_get ts i ≡ Some u → (x : Shape) → IsValid x → In env x (sem_of u) → In env x t

  given-any : (names : List (Option ℕ)) (ts : List Shared) (parts : List TypedExpr) (t : SemType) → AllGive env place names ts parts → AllUnder ts t
      → AwaitsEach env place (λ k P. ResultHas env (Some t) P) 0 names (map sem parts)
  given-any names ts parts t give under = each-awaited (λ k P. ResultHas env (Some t) P) 0 names ts parts give (λ i u P is has x valid p. under i u is x valid (has x valid p))

module _ (passes : List AtomDef → Asked → TypeLimit → Type 0) (names : Names) (env : List AtomDef) (place : Surroundings) where
  wait-leads : (n : Option ℕ) (ns : List (Option ℕ)) (ts : List Shared) (parts : List TypedExpr) (t : SemType) → AllGive env place (n ∷ ns) ts parts → AllUnder env place ts t
      → LeadsTo env place (wait_operations (n ∷ ns)) (map sem parts) t
  wait-leads (Some w) [] (u ∷ []) [] t give under =
      let h = worker-has env (sem_of u) t (slice_get place.workers w) (under 0 u refl) give.0 in
      one-op passes names env place (WaitWorker w) [] t (refl, h.0, h.1)
  wait-leads None [] (u ∷ []) (e ∷ []) t give under =
      one-op passes names env place WaitFuture (sem e ∷ []) t (give.0.0, (λ x valid p. under 0 u refl x valid (give.0.1 x valid p)))
  wait-leads (Some w) (m ∷ ns) ts parts t give under =
      one-op passes names env place (WaitAny (Some w ∷ m ∷ ns)) (map sem parts) t (given-any env place (Some w ∷ m ∷ ns) ts parts t give under)
  wait-leads None (m ∷ ns) ts parts t give under =
      one-op passes names env place (WaitAny (None ∷ m ∷ ns)) (map sem parts) t (given-any env place (None ∷ m ∷ ns) ts parts t give under)
  wait-leads (Some w) [] [] parts t give under = absurd give
  wait-leads (Some w) [] (u ∷ []) (e ∷ parts) t give under = absurd give.1
  wait-leads (Some w) [] (u ∷ v ∷ ts) parts t give under = absurd give.1
  wait-leads None [] [] parts t give under = absurd give
  wait-leads None [] (u ∷ ts) [] t give under = absurd give
  wait-leads None [] (u ∷ []) (e ∷ f ∷ parts) t give under = absurd give.1
  wait-leads None [] (u ∷ v ∷ ts) (e ∷ parts) t give under = absurd give.1

  -- ---- alternate waits

  any-there : (old : Atoms) (ts : List Shared) (i : ℕ) (u : Shared) (x : Shape) → slice_get ts i ≡ Some u → In old x (sem_of u) → Any (λ w. In old x (sem_of w)) ts
  any-there old (v ∷ ts) zero u x is i =
      let one : v ≡ u = cc in any-here (λ (w : Shared). In old x (sem_of w)) v ts (subst (λ (w : Shared). In old x (sem_of w)) (sym one) i)
  any-there old (v ∷ ts) (suc k) u x is i = any-later (λ (w : Shared). In old x (sem_of w)) v ts (any-there old ts k u x is i)
  any-there old [] k u x is i = absurd (let bad : ⊥ = cc in bad)

  defined-at : (old : Atoms) (ts : List Shared) (i : ℕ) (u : Shared) → slice_get ts i ≡ Some u → All (λ t. IsDefined old (sem_of t)) ts → IsDefined old (sem_of u)
  defined-at old (v ∷ ts) zero u is h =
      let one : v ≡ u = cc in subst (λ (w : Shared). IsDefined old (sem_of w)) one (All-head (λ t. IsDefined old (sem_of t)) v ts h)
  defined-at old (v ∷ ts) (suc k) u is h = defined-at old ts k u is (All-tail (λ t. IsDefined old (sem_of t)) v ts h)
  defined-at old [] k u is h = absurd (let bad : ⊥ = cc in bad)

  any-under : (ts : List Shared) (old : Atoms) (t : Shared) → IsOfAny ts old t.value → IsDefined old (sem_of t) → KeepsTypes old env
      → All (λ u. IsDefined old (sem_of u)) ts → AllUnder env place ts (sem_of t)
  any-under [] old t of defined keeps all i u is x valid there = absurd (let bad : ⊥ = cc in bad)
  any-under (v ∷ []) old t of defined keeps all zero u is x valid there =
      let one : v ≡ u = cc in
      subst (λ (y : Ty). In env x y.sem) (sym of) (subst (λ (w : Shared). In env x (sem_of w)) (sym one) there)
  any-under (v ∷ []) old t of defined keeps all (suc i) u is x valid there = absurd (let bad : ⊥ = cc in bad)
  any-under (v ∷ w ∷ more) old t of defined keeps all i u is x valid there =
      let here : In old x (sem_of u) = (keeps.shapes (sem_of u) (defined-at old (v ∷ w ∷ more) i u is all) x).1 there in
      (keeps.shapes (sem_of t) defined x).0 ((of.shapes x valid).1 (any-there old (v ∷ w ∷ more) i u x is here))

  abbrev AnyMade : List Shared → List (Option ℕ) → Place → Atoms → List TypedExpr → TypedExpr → Type 0
  AnyMade ts ns at = StrictMade (form.WaitAny ns) (IsOfAny ts) at

  any-opened : (qs : List QualifiedName) (at : Place) (old new : State) → waits_for_any qs at old (Gives tt) new
      → (ts : List Shared) × AreLast old.wants (length qs) (map Some ts) × Makes (futures (awaited old.site qs)) (AnyMade ts (awaited old.site qs) at) old new
  unfolding ◌▷◌ gives_some
  any-opened qs at old new (site, s1, (is, e1), (ts, s2, took, makes-it)) =
      let (last, same) = wants-taken (length qs) ts s1 s2 took in
      let made' : Makes (futures (awaited site qs)) (AnyMade ts (awaited site qs) at) s2 new = made (futures (awaited site qs)) (AnyMade ts (awaited site qs) at) tt s2 new makes-it in
      let made'' : Makes (futures (awaited old.site qs)) (AnyMade ts (awaited old.site qs) at) s2 new =
      subst (λ (x : Site). Makes (futures (awaited x qs)) (AnyMade ts (awaited x qs) at) s2 new) is made' in (
        ts,
        subst (λ (s : State). AreLast s.wants (length qs) (map Some ts)) e1 last,
        between (futures (awaited old.site qs)) (AnyMade ts (awaited old.site qs) at) old s2 new new
            (then-same old s1 s2 (record { found = ap (λ (s : State). s.found) e1; atoms = ap (λ (s : State). s.atoms) e1 }) (same-when s1 s2 _ same)) made''
            (record { found = refl; atoms = refl }),
      )

  alternate : AlternateWaitIsTyped passes names env place
  alternate q more at old new ts parts before after met wanted lasts typed give =
      let qs : List QualifiedName = q ∷ more in
      let ns : List (Option ℕ) = awaited old.site qs in
      let (us, last, made-it) = any-opened qs at old new met in
      let same : us ≡ ts = wants-same (length qs) us ts old last wanted in
      let made' : Makes (futures ns) (AnyMade ts ns at) old new = subst (λ (l : List Shared). Makes (futures ns) (AnyMade l ns at) old new) same made-it in
      strict-typed env passes names place (form.WaitAny ns) (futures ns) parts (IsOfAny ts) at old new after lasts typed made'
      (λ t of defined keeps. ticked passes names env place (wait_operations ns) (map sem parts) (sem_of t)
      (wait-leads _ _ ts parts (sem_of t) give (any-under ts old.atoms t of defined keeps (wants-there env (length qs) ts old before wanted))))

  -- ---- multiple waits

  -- the fields of keys that are known
  abbrev field_of : Text → Ty → FieldDef
  field_of key t = record { name = key; ty = t; optional = false }

  fields-many : (keys : List Text) (types : List Ty) → length keys ≡ length types → length (fields_with (map Some keys) types) ≡ length keys
  fields-many [] [] e = refl
  fields-many (k ∷ keys) (t ∷ types) e = ap suc (fields-many keys types (omega (arith, e)))
  fields-many [] (t ∷ types) e = absurd (omega (arith, e))
  fields-many (k ∷ keys) [] e = absurd (omega (arith, e))

  -- at the place of a type stands a field with a copy of it
  field-at : (keys : List Text) (types : List Ty) (ts : List Shared) (i : ℕ) (u : Shared) (P : FieldDef → Type 0) → length keys ≡ length types → AllZip (λ t v. IsCopy t.value v) ts types
      → slice_get ts i ≡ Some u → ((key : Text) (t : Ty) → IsCopy u.value t → P (field_of key t)) → IsSomeAnd (slice_get (fields_with (map Some keys) types) i) P
  field-at (k ∷ keys) (t ∷ types) (v ∷ ts) zero u P many copies is holds =
      let one : v ≡ u = cc in holds k t (subst (λ (w : Shared). IsCopy w.value t) one copies.0)
  field-at (k ∷ keys) (t ∷ types) (v ∷ ts) (suc i) u P many copies is holds = field-at keys types ts i u P (omega (arith, many)) copies.1 is holds
  field-at keys types [] i u P many copies is holds = absurd (let bad : ⊥ = cc in bad)
  field-at keys [] (v ∷ ts) i u P many copies is holds = absurd copies
  field-at [] (t ∷ types) (v ∷ ts) i u P many copies is holds = absurd (omega (arith, many))

  give-many : (ns : List (Option ℕ)) (ts : List Shared) (parts : List TypedExpr) → AllGive env place ns ts parts → length ts ≡ length ns
  give-many [] [] [] give = refl
  give-many (Some w ∷ ns) (t ∷ ts) parts give = ap suc (give-many ns ts parts give.1)
  give-many (None ∷ ns) (t ∷ ts) (e ∷ parts) give = ap suc (give-many ns ts parts give.1)
  give-many [] [] (e ∷ parts) give = absurd give
  give-many [] (t ∷ ts) parts give = absurd give
  give-many (Some w ∷ ns) [] parts give = absurd give
  give-many (None ∷ ns) [] parts give = absurd give
  give-many (None ∷ ns) (t ∷ ts) [] give = absurd give

  copies-many : (ts : List Shared) (types : List Ty) → AllZip (λ t v. IsCopy t.value v) ts types → length types ≡ length ts
  copies-many [] [] h = refl
  copies-many (t ∷ ts) (u ∷ types) h = ap suc (copies-many ts types h.1)
  copies-many [] (u ∷ types) h = absurd h
  copies-many (t ∷ ts) [] h = absurd h

  awaits-all : (keys : List Text) (types : List Ty) (ns : List (Option ℕ)) (ts : List Shared) (parts : List TypedExpr) → length keys ≡ length ns
      → AllZip (λ t v. IsCopy t.value v) ts types → AllGive env place ns ts parts → AwaitsAll env place (fields_with (map Some keys) types) ns (map sem parts)
  awaits-all keys types ns ts parts many copies give =
      let one = give-many ns ts parts give in let two = copies-many ts types copies in
      let all : length keys ≡ length types = omega (arith, many, one, two) in (
        (let f = fields-many keys types all in omega (arith, many, f)),
        each-awaited env place (λ k P. IsSomeAnd (slice_get (fields_with (map Some keys) types) k) (λ f. ResultHas env (Some f.ty.sem) P)) 0 ns ts parts give
            (λ i u P is has.
            let here : i ≡ 0 + i = omega arith in
            subst (λ k. IsSomeAnd (slice_get (fields_with (map Some keys) types) k) (λ f. ResultHas env (Some f.ty.sem) P)) here
            (field-at keys types ts i u (λ f. ResultHas env (Some f.ty.sem) P) all copies is
            (λ key t copy x valid p. (In-same env x (sem_of u) t.sem copy.sem).0 (has x valid p)))),
      )

  abbrev AllMade : ℕ → List (Option ℕ) → Place → Atoms → List TypedExpr → TypedExpr → Type 0
  AllMade atom ns at = StrictMade (form.WaitAll atom ns) (λ env t. t ≡ plain (Atom atom)) at

  -- what was wanted, the atom of the fields, and what is made
  record AllOpened (qs : List QualifiedName) (at : Place) (old new : State) : Type 0 where
    pub c : ConstructorAtWork
    pub ts : List Shared
    pub types : List Ty
    pub mid : State
    pub constructor : IsLast old.constructors c
    pub wanted : AreLast old.wants (length qs) (map Some ts)
    pub copies : AllZip (λ t v. IsCopy t.value v) ts types
    pub found : mid.found ≡ old.found
    pub atoms : mid.atoms ≡ old.atoms ++ MappingAtom (fields_with c.keys types) None ∷ []
    pub made : Makes (futures (awaited old.site qs)) (AllMade (length old.atoms) (awaited old.site qs) at) mid new

  all-opened : (qs : List QualifiedName) (at : Place) (old new : State) → waits_for_all qs at old (Gives tt) new → AllOpened qs at old new
  unfolding ◌▷◌ gives_some does asks adds
  all-opened qs at old new (site, s1, (is, e1), (c, s4, (d, s2, (l, e2), (u, s3, e3, (same, e4))), (ts, s5, took, (atom, s6, ((defs, (types, copies, are), number, atoms), over), makes-it)))) =
      let (last, e5) = wants-taken (length qs) ts s4 s5 took in
      let to-4 : s4 ≡ record old { constructors = all_but 1 old.constructors } =
      e4 ∙ e3 ∙ ap (λ (s : State). record s { constructors = all_but 1 s.constructors }) (e2 ∙ e1) in
      let atoms-5 : s5.atoms ≡ old.atoms = ap (λ (s : State). s.atoms) e5 ∙ ap (λ (s : State). s.atoms) to-4 in
      let number' : atom ≡ length old.atoms = number ∙ ap length atoms-5 in
      let made' : Makes (futures (awaited site qs)) (AllMade atom (awaited site qs) at) s6 new = made (futures (awaited site qs)) (AllMade atom (awaited site qs) at) tt s6 new makes-it in
      record {
        c = c;
        ts = ts;
        types = types;
        mid = s6;
        constructor = subst (λ (s : State). IsLast s.constructors c) e1 (subst (λ (x : ConstructorAtWork). IsLast s1.constructors x) (sym same) l);
        wanted = subst (λ (ws : List (Option Shared)). AreLast ws (length qs) (map Some ts)) (ap (λ (s : State). s.wants) to-4) last;
        copies = copies;
        found = ap (λ (s : State). s.found) over ∙ ap (λ (s : State). s.found) e5 ∙ ap (λ (s : State). s.found) to-4;
        atoms = atoms ∙ ap (λ ds. s5.atoms ++ ds) are ∙ ap (λ xs. xs ++ MappingAtom (fields_with c.keys types) None ∷ []) atoms-5;
        made = subst (λ (n : ℕ). Makes (futures (awaited old.site qs)) (AllMade n (awaited old.site qs) at) s6 new) number'
            (subst (λ (x : Site). Makes (futures (awaited x qs)) (AllMade atom (awaited x qs) at) s6 new) is made');
      }

  multiple : MultipleWaitIsTyped passes names env place
  multiple qs at old new c keys ts parts before after first met last known many wanted lasts typed give =
      let ns : List (Option ℕ) = awaited old.site qs in
      let o = all-opened qs at old new met in
      let ec : o.c ≡ c = last-same old.constructors o.c c o.constructor last in
      let et : o.ts ≡ ts = wants-same (length qs) o.ts ts old o.wanted wanted in
      let copies : AllZip (λ t v. IsCopy t.value v) ts o.types = subst (λ l. AllZip (λ t v. IsCopy t.value v) l o.types) et o.copies in
      let keys-are : o.c.keys ≡ map Some keys = ap (λ (x : ConstructorAtWork). x.keys) ec ∙ known in
      let atoms : o.mid.atoms ≡ old.atoms ++ MappingAtom (fields_with (map Some keys) o.types) None ∷ [] =
      o.atoms ∙ ap (λ ks. old.atoms ++ MappingAtom (fields_with ks o.types) None ∷ []) keys-are in
      let there : slice_get env (length old.atoms) ≡ Some (MappingAtom (fields_with (map Some keys) o.types) None) =
      added-atom env old.atoms (MappingAtom (fields_with (map Some keys) o.types) None) [] (subst (AreFirst env) atoms (subst (AreFirst env) o.made.5 first)) in
      let many' : length keys ≡ length ns = many ∙ sym (length-map qs (worker_named old.site.workers)) in
      as-before env passes names place (futures ns) old o.mid new o.found
      (strict-typed env passes names place (form.WaitAll (length old.atoms) ns) (futures ns) parts (λ env t. t ≡ plain (Atom (length old.atoms))) at o.mid new after
      (subst (λ xs. AreLast xs (futures ns) parts) (sym o.found) lasts) typed o.made
      (λ t is defined keeps. ticked passes names env place (WaitAll (length old.atoms) ns ∷ []) (map sem parts) (sem_of t)
      (one-op passes names env place (WaitAll (length old.atoms) ns) (map sem parts) (sem_of t) (
        as-mapping env (length old.atoms) (fields_with (map Some keys) o.types) None _ there (awaits-all keys o.types ns ts parts many' copies give),
        (λ x valid i. subst (λ (y : Ty). In env x y.sem) (sym is) i),
      ))))

  pub whole-waits-are-typed : WholeWaitsAreTyped passes names env place
  whole-waits-are-typed = record { alternate = alternate; multiple = multiple }
