-- What is read of members that are assigned with an operator.
use Rattle.std.proofs.Common.{List, Some, [], ap, arith, inl, inr, length, length-append, refl, subst, sym, ⊎_elim, ◌++◌, ◌∙◌, ◌∷◌, ◌≡◌, ◌⊎◌}
use Rattle.bal_base.specs.declared.place.Place.{Place}
use Rattle.bal_base.specs.declared.shape.Shape.{Shape}
use Rattle.bal_tree.specs.declared.name.Word.{Word}
use Rattle.check_words.specs.Members.{HaveField, container_kind, NamesFields, NamesItems, is_accessed_as, reads_stored, reads_stored_field, stored_type}
use Rattle.check_words.specs.State.{AreLast, IsLast, State}
use Rattle.check_words.specs.Words.{EitherOf, OfKind}
use Rattle.check_words.specs.declared.access.Access.TheVariants.{Char, Item, Key}
use Rattle.check_words.specs.declared.access.Access.{Access}
use Rattle.checks.specs.Checks.{Gives, either, gives_some, ◌▷◌}
use Rattle.descriptors.specs.Described.{plain}
use Rattle.descriptors.specs.declared.names.Names.{Names}
use Rattle.expr_needs.specs.declared.kind.Kind.TheVariants as kind
use Rattle.operations.specs.Kinds.{IsList, IsNil}
use Rattle.tree_promises.specs.Made.{sem}
use Rattle.type_model.proofs.DefinedLaws.{NamesBelow-more}
use Rattle.type_model.specs.Calls.{Asked, KeepsTypes}
use Rattle.type_model.specs.Defined.{IsDefined}
use Rattle.type_model.specs.Inclusion.{HasExactly, Sub}
use Rattle.type_model.specs.Membership.{In}
use Rattle.type_model.specs.Parts.{StandsAt}
use Rattle.type_model.specs.declared.answers.Keys.TheVariants.{Field}
use Rattle.type_model.specs.declared.answers.Keys.{Keys}
use Rattle.type_model.specs.declared.answers.TypeLimit.{TypeLimit}
use Rattle.type_model.specs.declared.atoms.AtomDef.{AtomDef}
use Rattle.type_model.specs.declared.basic.SemType.{Atom, SemType}
use Rattle.type_model.specs.declared.basic.Ty.{Ty}
use Rattle.typed_needs.proofs.Asking.{either-way, has-part-leaves, is-of-leaves, is-of-so}
use Rattle.typed_needs.proofs.Leaving.{LeavesAll, all-asking, all-some, all-then}
use Rattle.typed_needs.proofs.MemberReads.{has-member, item-named, key-asked, key-named, member-asked}
use Rattle.typed_needs.proofs.Opened.{same-lasts}
use Rattle.typed_needs.proofs.Placed.{last-same}
use Rattle.typed_needs.proofs.Questions.{member-adds-none, names-add-none}
use Rattle.needs.specs.Needs.{does}
use Rattle.typed_needs.specs.Asked.{IsOfIt}
use Rattle.typed_needs.specs.Pieces.{IsBefore}
use Rattle.typed_stmts.proofs.Branching.{two-same}
use Rattle.typed_stmts.proofs.Storing.{last-want-defined, names-asked, two-defined}
use Rattle.typed_stmts.proofs.Words.{want-some-put}
use Rattle.typed_stmts.specs.Elements.{FieldIsRead, HasAllThere, IsStructure, MemberIsRead, StructureIsChosen}
use Rattle.typed_tree.specs.SharedTypes.{Shared, sem_of}
use Rattle.typed_tree.specs.declared.expr.TypedExpr.{TypedExpr}

module _ (passes : List AtomDef → Asked → TypeLimit → Type 0) where
  -- ---- what was asked

  char-asked : (container key : SemType) (at : Place) (t : Shared) (old new : State) → stored_type passes Char container key at old (Gives t) new → OfKind kind.Text old.atoms t.value
  unfolding gives_some
  char-asked container key at t old new (of, e) = of

  item-asked : (container key : SemType) (at : Place) (t : Shared) (old new : State) → stored_type passes Item container key at old (Gives t) new
      → (keys : Keys) × (m : SemType) × NamesItems old.atoms key keys × HasExactly old.atoms m (StandsAt old.atoms container keys) × (t.value ≡ plain m)
  unfolding ◌▷◌ gives_some
  item-asked container key at t old new (keys, a, asked, (m, b, member, (is, e))) =
      let (named, e1) = names-asked passes Item key at old a keys asked in
      let (defined, exactly, e2) = member-asked passes container keys at a b m member in
      (keys, m, named, subst (λ (s : State). HasExactly s.atoms m (StandsAt s.atoms container keys)) e1 exactly, is)

  key-type-asked : (container key : SemType) (at : Place) (t : Shared) (old new : State) → stored_type passes Key container key at old (Gives t) new
      → (keys : Keys) × (m : SemType) × NamesFields old.atoms key keys × HasExactly old.atoms m (StandsAt old.atoms container keys) × EitherOf m IsNil old.atoms t.value
  unfolding ◌▷◌ gives_some
  key-type-asked container key at t old new (keys, a, asked, (m, b, member, (is, e))) =
      let (named, e1) = names-asked passes Key key at old a keys asked in
      let (defined, exactly, e2) = member-asked passes container keys at a b m member in (
        keys,
        m,
        named,
        subst (λ (s : State). HasExactly s.atoms m (StandsAt s.atoms container keys)) e1 exactly,
        subst (λ (s : State). EitherOf m IsNil s.atoms t.value) (e2 ∙ e1) is,
      )

  stored-leaves : (access : Access) (container key : SemType) (at : Place) → LeavesAll (stored_type passes access container key at)
  stored-leaves Char container key at = all-some _
  stored-leaves Item container key at =
      all-then _ _ (all-asking _ (names-add-none passes Item key at)) (λ keys. all-then _ _ (all-asking _ (member-adds-none passes container keys (Some at))) (λ m. all-some _))
  stored-leaves Key container key at =
      all-then _ _ (all-asking _ (names-add-none passes Key key at)) (λ keys. all-then _ _ (all-asking _ (member-adds-none passes container keys (Some at))) (λ m. all-some _))

  pub record StoredRead (at : Place) (old new : State) : Type 0 where
    pub container : TypedExpr
    pub key : TypedExpr
    pub access : Access
    pub type : Shared
    pub want : Shared
    pub last_parts : AreLast old.found 2 (container ∷ key ∷ [])
    pub last_access : IsLast old.accesses access
    pub asked : stored_type passes access (sem container) (sem key) at old (Gives type) old
    pub all : new ≡ record old { wants = old.wants ++ Some want ∷ [] }
    pub value : want.value ≡ type.value

  pub stored-opened : (at : Place) (old new : State) → reads_stored passes at old (Gives tt) new → StoredRead at old new
  unfolding ◌▷◌ gives_some
  stored-opened at old new (p, a, (pair, e1), (access, b, (la, e2), (t, c, asked, put))) =
      let two : b ≡ old = e2 ∙ e1 in
      let asked' : stored_type passes access (sem p.0) (sem p.1) at old (Gives t) c = subst (λ (s : State). stored_type passes access (sem p.0) (sem p.1) at s (Gives t) c) two asked in
      let e3 : c ≡ old = stored-leaves access (sem p.0) (sem p.1) at old c t asked' in
      let (w, e4, value) = want-some-put (λ env u. u ≡ t.value) tt c new put in
      record {
        container = p.0;
        key = p.1;
        access = access;
        type = t;
        want = w;
        last_parts = pair;
        last_access = subst (λ (s : State). IsLast s.accesses access) e1 la;
        asked = subst (λ (s : State). stored_type passes access (sem p.0) (sem p.1) at old (Gives t) s) e3 asked';
        all = e4 ∙ ap (λ (s : State). record s { wants = s.wants ++ Some w ∷ [] }) e3;
        value = value;
      }

  pub record FieldOpened (w : Word) (old new : State) : Type 0 where
    pub container : TypedExpr
    pub key : TypedExpr
    pub defs : List AtomDef
    pub member : SemType
    pub want : Shared
    pub last_parts : AreLast old.found 2 (container ∷ key ∷ [])
    pub have : HaveField w.name defs
    pub grown : new.atoms ≡ old.atoms ++ defs
    pub under : Sub new.atoms (sem container) (Atom (length old.atoms))
    pub defined : IsDefined new.atoms member
    pub exactly : HasExactly new.atoms member (StandsAt new.atoms (sem container) (Field w.name))
    pub value : want.value ≡ plain member
    pub all : new ≡ record old { atoms = new.atoms; wants = old.wants ++ Some want ∷ [] }

  pub field-opened : (w : Word) (at : Place) (old new : State) → reads_stored_field passes w at old (Gives tt) new → FieldOpened w old new
  unfolding ◌▷◌ gives_some
  field-opened w at old new (p, a, (pair, e1), (m, c, (u, b, keyed, asked), put)) =
      let (defs, have, grown, under) = key-asked passes w.name (sem p.0) at u a b keyed in
      let (defined, exactly, e2) = member-asked passes (sem p.0) (Field w.name) at b c m asked in
      let (want, e3, value) = want-some-put (λ env t. t ≡ plain m) tt c new put in
      let to-b : b ≡ record old { atoms = old.atoms ++ defs } = grown ∙ ap (λ (s : State). record s { atoms = s.atoms ++ defs }) e1 in
      let to-new : new ≡ record old { atoms = old.atoms ++ defs; wants = old.wants ++ Some want ∷ [] } =
      e3 ∙ ap (λ (s : State). record s { wants = s.wants ++ Some want ∷ [] }) (e2 ∙ to-b) in
      let here : new.atoms ≡ b.atoms = ap (λ (s : State). s.atoms) e3 ∙ ap (λ (s : State). s.atoms) e2 in
      let all-atoms : new.atoms ≡ old.atoms ++ defs = ap (λ (s : State). s.atoms) to-new in
      record {
        container = p.0;
        key = p.1;
        defs = defs;
        member = m;
        want = want;
        last_parts = pair;
        have = have;
        grown = all-atoms;
        under = subst (λ (s : State). Sub new.atoms (sem p.0) (Atom (length s.atoms))) e1 (subst (λ xs. Sub xs (sem p.0) (Atom (length a.atoms))) (sym here) under);
        defined = subst (λ xs. IsDefined xs m) (sym here) defined;
        exactly = subst (λ xs. HasExactly xs m (StandsAt xs (sem p.0) (Field w.name))) (sym here) exactly;
        value = value;
        all = to-new ∙ ap (λ xs. record old { atoms = xs; wants = old.wants ++ Some want ∷ [] }) (sym all-atoms);
      }

  module _ (names : Names) (env : List AtomDef) where
    -- ---- which structure

    abbrev Chosen : State → State → TypedExpr → Type 0
    Chosen old new e = (a : Access) × (new ≡ record old { accesses = old.accesses ++ a ∷ [] }) × IsOfIt passes names env (container_kind a) e × IsStructure a

    accessed : (a : Access) (at : Place) (old new : State) (e : TypedExpr) → IsBefore env old → is_accessed_as passes a at old (Gives tt) new → IsLast old.found e
        → (b : Access) × (new ≡ record old { accesses = old.accesses ++ b ∷ [] }) × IsOfIt passes names env (container_kind b) e × (b ≡ a)
    unfolding ◌▷◌ does
    accessed a at old new e before (u, mid, met, is) last = (
      a,
      is ∙ ap (λ (s : State). record s { accesses = s.accesses ++ a ∷ [] }) (is-of-leaves passes (container_kind a) at old mid u met),
      is-of-so passes names env (container_kind a) at u old mid e before met last,
      refl,
    )

    accessed-so : (a : Access) (at : Place) (old new : State) (e : TypedExpr) → IsStructure a → IsBefore env old → is_accessed_as passes a at old (Gives tt) new → IsLast old.found e
        → Chosen old new e
    accessed-so a at old new e structure before met last = let (b, is, of, same) = accessed a at old new e before met last in (b, is, of, subst IsStructure (sym same) structure)

    pub structure-chosen : StructureIsChosen passes names env
    unfolding ◌▷◌
    structure-chosen at old new e before (b, mid, asked, met) last =
        let same : mid ≡ old = has-part-leaves passes IsList at old mid b asked in
        either-way passes names env b (is_accessed_as passes Item at) (is_accessed_as passes Key at) old new (Chosen old new e)
        (subst (λ (s : State). either b (is_accessed_as passes Item at) (is_accessed_as passes Key at) s (Gives tt) new) same met)
        (λ m. accessed-so Item at old new e tt before m last) (λ m. accessed-so Key at old new e tt before m last)

    -- ---- what is read, over the atoms at the end

    -- what stands there over the atoms at the end stood there before
    stands-before : (old : List AtomDef) (a : SemType) (keys : Keys) (x : Shape) → KeepsTypes old env → IsDefined old a → StandsAt env a keys x → StandsAt old a keys x
    stands-before old a keys x keeps defined (whole, shape, stands) = (whole, (shape.0, (keeps.shapes a defined whole).1 shape.1), stands)

    module _ (old : List AtomDef) (a i : TypedExpr) (want : Shared) (keeps : KeepsTypes old env) (da : IsDefined old (sem a)) (di : IsDefined old (sem i)) (dw : IsDefined old (sem_of want)) where
      wanted-has : (t : Ty) (x : Shape) → want.value ≡ t → In old x t.sem → In env x (sem_of want)
      wanted-has t x value h = (keeps.shapes (sem_of want) dw x).0 (subst (λ (y : Ty). In old x y.sem) (sym value) h)

      char-has : (t : Shared) → want.value ≡ t.value → OfKind kind.Text old t.value → HasAllThere passes names env Char a i (sem_of want)
      char-has t value of x valid is = wanted-has t.value x value ((of.0.shapes x valid).1 is)

      item-has : (t : Shared) (keys : Keys) (m : SemType) → want.value ≡ t.value → NamesItems old (sem i) keys → HasExactly old m (StandsAt old (sem a) keys) → t.value ≡ plain m
          → HasAllThere passes names env Item a i (sem_of want)
      item-has t keys m value named exactly is x valid (others, index, (whole, shape, stands)) =
          let here : StandsAt env (sem a) keys x = (whole, shape, item-named old env (sem i) (keeps.shapes (sem i) di) keys others whole x named index stands) in
          wanted-has (plain m) x (value ∙ is) ((exactly x valid).1 (stands-before old (sem a) keys x keeps da here))

      key-has : (t : Shared) (keys : Keys) (m : SemType) → want.value ≡ t.value → NamesFields old (sem i) keys → HasExactly old m (StandsAt old (sem a) keys)
          → EitherOf m IsNil old t.value → HasAllThere passes names env Key a i (sem_of want)
      key-has t keys m value named exactly either x valid there =
          wanted-has t.value x value ((either.shapes x valid).1 (⊎_elim
          (λ (others, key, (whole, shape, stands)).
          let here : StandsAt env (sem a) keys x = (whole, shape, key-named old env (sem i) (keeps.shapes (sem i) di) keys others whole x named key stands) in
          inl ((exactly x valid).1 (stands-before old (sem a) keys x keeps da here))) (λ nil. inr nil) there))

    stored-has : (access : Access) (at : Place) (old : State) (a i : TypedExpr) (t want : Shared) → KeepsTypes old.atoms env → IsDefined old.atoms (sem a) → IsDefined old.atoms (sem i)
        → IsDefined old.atoms (sem_of want) → want.value ≡ t.value → stored_type passes access (sem a) (sem i) at old (Gives t) old → HasAllThere passes names env access a i (sem_of want)
    stored-has Char at old a i t want keeps da di dw value asked = char-has old.atoms a i want keeps da di dw t value (char-asked (sem a) (sem i) at t old old asked)
    stored-has Item at old a i t want keeps da di dw value asked =
        let (keys, m, named, exactly, is) = item-asked (sem a) (sem i) at t old old asked in item-has old.atoms a i want keeps da di dw t keys m value named exactly is
    stored-has Key at old a i t want keeps da di dw value asked =
        let (keys, m, named, exactly, either) = key-type-asked (sem a) (sem i) at t old old asked in key-has old.atoms a i want keeps da di dw t keys m value named exactly either

    pub member-read : MemberIsRead passes names env
    member-read at old new a i access before after met lasts la =
        let o = stored-opened at old new met in
        let (ea, ei) = two-same o.container o.key a i (same-lasts old.found 2 (o.container ∷ o.key ∷ []) (a ∷ i ∷ []) o.last_parts lasts) in
        let es : o.access ≡ access = last-same old.accesses o.access access o.last_access la in
        let (da, di) = two-defined passes names env old a i before lasts in
        let defined = last-want-defined passes names env old new o.want after o.all in
        let asked : stored_type passes access (sem a) (sem i) at old (Gives o.type) old =
        subst (λ (e : TypedExpr). stored_type passes access (sem a) (sem e) at old (Gives o.type) old) ei
        (subst (λ (e : TypedExpr). stored_type passes access (sem e) (sem o.key) at old (Gives o.type) old) ea
        (subst (λ (x : Access). stored_type passes x (sem o.container) (sem o.key) at old (Gives o.type) old) es o.asked)) in
        (o.want, o.all, stored-has access at old a i o.type o.want before.keeps da di defined o.value asked)

    pub field-read : FieldIsRead passes names env
    field-read w at old new a i before after met lasts =
        let o = field-opened w at old new met in
        let (ea, ei) = two-same o.container o.key a i (same-lasts old.found 2 (o.container ∷ o.key ∷ []) (a ∷ i ∷ []) o.last_parts lasts) in
        let under : Sub new.atoms (sem a) (Atom (length old.atoms)) = subst (λ (e : TypedExpr). Sub new.atoms (sem e) (Atom (length old.atoms))) ea o.under in
        let exactly : HasExactly new.atoms o.member (StandsAt new.atoms (sem a) (Field w.name)) =
        subst (λ (e : TypedExpr). HasExactly new.atoms o.member (StandsAt new.atoms (sem e) (Field w.name))) ea o.exactly in
        let there : IsDefined new.atoms (sem a) =
        subst (λ xs. IsDefined xs (sem a)) (sym o.grown)
        (NamesBelow-more (length old.atoms) (length (old.atoms ++ o.defs)) (let more = length-append old.atoms o.defs in omega arith) (sem a) (two-defined passes names env old a i before lasts).0) in
        let wide : IsDefined new.atoms (sem_of o.want) = subst (λ (y : Ty). IsDefined new.atoms y.sem) (sym o.value) o.defined in (
          o.want,
          o.all,
          record {
            has = λ x s. has-member old.atoms w.name o.defs x o.have
                (subst (λ xs. In xs x (Atom (length old.atoms))) o.grown (under x s.0 ((after.keeps.shapes (sem a) there x).1 s.1)));
            all = λ x valid (whole, shape, stands). (after.keeps.shapes (sem_of o.want) wide x).0
                (subst (λ (y : Ty). In new.atoms x y.sem) (sym o.value) ((exactly x valid).1 (whole, (shape.0, (after.keeps.shapes (sem a) there whole).1 shape.1), stands)));
          },
        )
