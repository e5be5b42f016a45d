-- Reads of members of typed parts.
use Rattle.std.proofs.Common.{◌≡◌, ◌↔◌, ◌∙◌, ◌++◌, ◌⊎◌, inl, inr, ⊎_elim, ℕ, zero, suc, true, false, List, [], ◌∷◌, length, map, Some, arith, length-append, refl, sym, subst, ap}
use Rattle.std.specs.Prelude.{Contains, IsSomeAnd, pos, slice_get}
use Rattle.std.proofs.lemmas.List.Elements.{Contains-get_or}
use Rattle.std.proofs.lemmas.Option.{get_or_from_slice_get, slice_get_within}
use Rattle.bal_base.specs.declared.fault.FaultCode.TheVariants.{NoField}
use Rattle.bal_base.specs.declared.place.Place.{Place}
use Rattle.bal_base.specs.declared.shape.Shape.{Shape, Nil, Bool as BoolShape, Int, Str, List', Mapping', Error', Function, Future', items-the_row-Shape as shapes_in, items-the_row-Fields-items-2 as fields_in}
use Rattle.bal_base.specs.declared.text.Text.{Text}
use Rattle.bal_base.specs.Valid.{IsValid}
use Rattle.bal_tree.specs.declared.name.Word.{Word}
use Rattle.checks.specs.Checks.{Gives, ◌▷◌, gives_some}
use Rattle.checks.specs.Questions.{adds, is_below, member}
use Rattle.descriptors.specs.declared.names.Names.{Names}
use Rattle.descriptors.specs.Described.{plain}
use Rattle.needs.specs.Needs.{asks, does}
use Rattle.type_model.specs.declared.answers.Keys.{Keys}
use Rattle.type_model.specs.declared.answers.Keys.TheVariants.{Index, AnyIndex, Field, AnyField}
use Rattle.type_model.specs.declared.answers.TypeLimit.{TypeLimit}
use Rattle.type_model.specs.declared.atoms.AtomDef.{AtomDef}
use Rattle.type_model.specs.declared.basic.SemType.{SemType, Atom}
use Rattle.type_model.specs.declared.basic.Ty.{Ty}
use Rattle.type_model.specs.Calls.{Asked, KeepsTypes}
use Rattle.type_model.specs.Defined.{IsDefined}
use Rattle.type_model.specs.Inclusion.{HasExactly, Sub}
use Rattle.type_model.specs.declared.atoms.AtomDef.TheVariants.{Mapping as MappingAtom}
use Rattle.type_model.specs.Membership.{Fits, In}
use Rattle.type_model.specs.Parts.{StandsAt, StandsIn}
use Rattle.type_model.proofs.DefinedLaws.{NamesBelow-more}
use Rattle.operations.specs.declared.operation.Operation.TheVariants.{GetChar, GetField, GetItem, GetKey, GetOptional}
use Rattle.operations.specs.Kinds.{HasMember, IsNil, IsString}
use Rattle.operations.specs.Rows.{NamesIndex, NamesKey, StandsAtIndex, StandsAtKey, Surroundings}
use Rattle.typed_tree.specs.declared.expr.TypedExpr.{TypedExpr}
use Rattle.typed_tree.specs.declared.form.Read.TheVariants as read
use Rattle.typed_tree.specs.declared.form.StrictForm.{StrictForm}
use Rattle.typed_tree.specs.declared.form.StrictForm.TheVariants as form
use Rattle.typed_tree.specs.SharedTypes.{sem_of}
use Rattle.expr_needs.specs.declared.kind.Kind.TheVariants as kind
use Rattle.check_words.specs.declared.access.Access.{Access}
use Rattle.check_words.specs.declared.access.Access.TheVariants.{Char, Item, Key}
use Rattle.check_words.specs.Members.{HaveField, NamesFields, NamesItems, NamesMembers, container_kind, has_key, index_kind, member_at, names_members, reads_accessed, reads_element, reads_field, reads_optional, some_member_at, takes_access}
use Rattle.check_words.specs.Stands.{PartBelow}
use Rattle.check_words.specs.State.{AreLast, IsLast, State, all_but}
use Rattle.check_words.specs.Words.{Atoms, EitherOf, OfKind, asking}
use Rattle.check_words.proofs.Standing.{last-have}
use Rattle.tree_promises.specs.Made.{sem}
use Rattle.tree_promises.specs.Types.{IsTypedExpr}
use Rattle.typed_needs.specs.Asked.{IsOfIt}
use Rattle.typed_needs.specs.Pieces.{IsBefore, MakesTyped}
use Rattle.typed_needs.specs.MemberReads.{ElementIsTyped, FieldIsTyped, OptionalIsTyped, ReadsAreTyped}
use Rattle.typed_needs.proofs.Questions.{has-some-adds-none}
use Rattle.typed_needs.proofs.Leaving.{Makes, all-asking, as-same, between, made, still}
use Rattle.typed_needs.proofs.Opened.{as-before, as-lasts, cons-same, exactly-later, last-defined, same-lasts}
use Rattle.typed_needs.proofs.Placed.{get-behind, last-same}
use Rattle.typed_needs.proofs.Strict.{StrictMade, never, one-typed, unless-leaves}

-- two lists of two are the same
pair-same : {A : Type 0} (a b x y : A) → a ∷ b ∷ [] ≡ x ∷ y ∷ [] → (a ≡ x) × (b ≡ y)
pair-same a b x y e = let first = cons-same a x (b ∷ []) (y ∷ []) e in (first.0, (cons-same b y [] [] first.1).0)

-- ---- a member at a place stands at any place

pub index-any : (n : ℕ) (whole part : Shape) → StandsIn (Index n) whole part → StandsIn AnyIndex whole part
index-any n (List' mark _ items) part at =
    let xs = shapes_in _ items in
    subst (Contains xs) (get_or_from_slice_get xs n part part at) (Contains-get_or xs n part (slice_get_within xs n part at))
index-any n Nil part at = absurd at
index-any n (BoolShape b) part at = absurd at
index-any n (Int i) part at = absurd at
index-any n (Str t) part at = absurd at
index-any n (Mapping' mark _ fields) part at = absurd at
index-any n (Error' _ detail) part at = absurd at
index-any n (Function isolated graph) part at = absurd at
index-any n (Future' _ results) part at = absurd at

contains-map : (fs : List (Text × Shape)) (f : Text × Shape) → Contains fs f → Contains (map (λ g. g.1) fs) f.1
contains-map [] f (k, l, e) = absurd (omega (arith, l))
contains-map (g ∷ fs) f (zero, l, e) = (0, omega arith, ap (λ h. h.1) e)
contains-map (g ∷ fs) f (suc k, l, e) = let (j, m, is) = contains-map fs f (k, omega (arith, l), e) in (suc j, omega (arith, m), is)

pub field-any : (name : Text) (whole part : Shape) → StandsIn (Field name) whole part → StandsIn AnyField whole part
field-any name (Mapping' mark _ fields) part at = contains-map (fields_in _ fields) (name, part) at
field-any name Nil part at = absurd at
field-any name (BoolShape b) part at = absurd at
field-any name (Int i) part at = absurd at
field-any name (Str t) part at = absurd at
field-any name (List' mark _ items) part at = absurd at
field-any name (Error' _ detail) part at = absurd at
field-any name (Function isolated graph) part at = absurd at
field-any name (Future' _ results) part at = absurd at

-- a mapping of an atom with a required field has that member
pub has-member : (env : List AtomDef) (name : Text) (defs : List AtomDef) (x : Shape) → HaveField name defs → In (env ++ defs) x (Atom (length env)) → HasMember name x
has-member env name defs x (t, r, every, rest, is) i = by x (subst (λ d. IsSomeAnd d (Fits (env ++ defs) x)) there i)
  where
    def : AtomDef
    def = MappingAtom (record { name = name; ty = t; optional = false } ∷ []) (Some r)

    there : slice_get (env ++ defs) (length env) ≡ Some def
    there = ap (λ ds. slice_get (env ++ ds) (length env)) is ∙ get-behind env def []

    by : (x : Shape) → Fits (env ++ defs) x def → HasMember name x
    by (Mapping' mark _ fields) fits =
        ⊎_elim (λ optional. absurd (let bad : ⊥ = cc in bad)) (λ has. has) (fits.0 0 (record { name = name; ty = t; optional = false }) (omega arith))
    by Nil fits = absurd fits
    by (BoolShape b) fits = absurd fits
    by (Int i) fits = absurd fits
    by (Str t) fits = absurd fits
    by (List' mark _ items) fits = absurd fits
    by (Error' _ detail) fits = absurd fits
    by (Function isolated graph) fits = absurd fits
    by (Future' _ results) fits = absurd fits

-- ---- which members are named, over older atoms and over those at the end

module _ (old env : List AtomDef) (t : SemType) (same : (x : Shape) → In old x t ↔ In env x t) where
  single-later : (x : Shape) → HasExactly old t (λ y. y ≡ x) → HasExactly env t (λ y. y ≡ x)
  single-later x h y valid = ((λ i. (h y valid).0 ((same y).1 i)), (λ e. (same y).0 ((h y valid).1 e)))

  -- two that are the only one are the same
  only-one : (x y : Shape) → IsValid x → HasExactly old t (λ z. z ≡ x) → HasExactly env t (λ z. z ≡ y) → x ≡ y
  only-one x y valid h k = (k x valid).0 ((same x).0 ((h x valid).1 refl))

  pub item-named : (keys others : Keys) (whole part : Shape) → NamesItems old t keys → NamesIndex env t others → StandsIn others whole part → StandsIn keys whole part
  item-named keys others whole part (inl (n, (valid, only), is)) (inl (m, (int, single), are)) at =
      let one : Int (pos n) ≡ Int (pos m) = only-one (Int (pos n)) (Int (pos m)) valid only single in
      let number : n ≡ m = cc in
      subst (λ k. StandsIn k whole part) (are ∙ ap Index (sym number) ∙ sym is) at
  item-named keys others whole part (inl (n, (valid, only), is)) (inr (none, are)) at =
      absurd (none n (valid, single-later (Int (pos n)) only))
  item-named keys others whole part (inr (none, is)) (inl (m, single, are)) at =
      subst (λ k. StandsIn k whole part) (sym is) (index-any m whole part (subst (λ k. StandsIn k whole part) are at))
  item-named keys others whole part (inr (none, is)) (inr (never, are)) at = subst (λ k. StandsIn k whole part) (are ∙ sym is) at

  pub key-named : (keys others : Keys) (whole part : Shape) → NamesFields old t keys → NamesKey env t others → StandsIn others whole part → StandsIn keys whole part
  key-named keys others whole part (inl (n, (valid, only), is)) (inl (m, (text, single), are)) at =
      let one : Str n ≡ Str m = only-one (Str n) (Str m) valid only single in
      let name : n ≡ m = cc in
      subst (λ k. StandsIn k whole part) (are ∙ ap Field (sym name) ∙ sym is) at
  key-named keys others whole part (inl (n, (valid, only), is)) (inr (none, are)) at = absurd (none n (valid, single-later (Str n) only))
  key-named keys others whole part (inr (none, is)) (inl (m, single, are)) at =
      subst (λ k. StandsIn k whole part) (sym is) (field-any m whole part (subst (λ k. StandsIn k whole part) are at))
  key-named keys others whole part (inr (none, is)) (inr (never, are)) at = subst (λ k. StandsIn k whole part) (are ∙ sym is) at

-- ---- what is made

abbrev ItemMade : SemType → Place → Atoms → List TypedExpr → TypedExpr → Type 0
ItemMade m at = StrictMade (form.Read read.Item) (λ env t. t ≡ plain m) at

abbrev KeyMade : SemType → Place → Atoms → List TypedExpr → TypedExpr → Type 0
KeyMade m at = StrictMade (form.Read read.Key) (EitherOf m IsNil) at

abbrev OptionalMade : Word → SemType → Place → Atoms → List TypedExpr → TypedExpr → Type 0
OptionalMade w m at = StrictMade (form.Read (read.OptionalField w.name)) (EitherOf m IsNil) at

abbrev FieldMade : Word → SemType → Place → Atoms → List TypedExpr → TypedExpr → Type 0
FieldMade w m at = StrictMade (form.Read (read.Field w.name)) (λ env t. t ≡ plain m) at

-- ---- what is asked before a read

module _ (passes : List AtomDef → Asked → TypeLimit → Type 0) where
  pub member-asked : (t : SemType) (keys : Keys) (at : Place) (old new : State) (m : SemType) → member_at passes t keys at old (Gives m) new
      → IsDefined old.atoms m × HasExactly old.atoms m (StandsAt old.atoms t keys) × (new ≡ old)
  unfolding asks member
  member-asked t keys at old new m ((defined, exactly, atoms), over) = (defined, exactly, over ∙ ap (λ (xs : Atoms). record old { atoms = xs }) atoms)

  some-member-asked : (t : SemType) (keys : Keys) (at : Place) (old new : State) (m : SemType) → some_member_at passes t keys at old (Gives m) new
      → IsDefined old.atoms m × HasExactly old.atoms m (StandsAt old.atoms t keys) × (new ≡ old)
  unfolding ◌▷◌ gives_some
  some-member-asked t keys at old new m (n, a, first, (b, c, second, (u, d, third, (is, fourth)))) =
      let (defined, exactly, same) = member-asked t keys at old a n first in
      let all : new ≡ old = fourth ∙ unless-leaves b NoField at c d u third ∙ all-asking _ (has-some-adds-none passes n (Some at)) a c b second ∙ same in (
        subst (λ (k : SemType). IsDefined old.atoms k) (sym is) defined,
        subst (λ (k : SemType). HasExactly old.atoms k (StandsAt old.atoms t keys)) (sym is) exactly,
        all,
      )

  names-asked : (a : Access) (t : SemType) (at : Place) (old new : State) (keys : Keys) → asking (names_members passes a t at) old (Gives keys) new
      → NamesMembers a old.atoms t keys × (new ≡ old)
  unfolding asks names_members
  names-asked a t at old new keys ((named, atoms), over) = (named, over ∙ ap (λ (xs : Atoms). record old { atoms = xs }) atoms)

  access-taken : (a : Access) (old new : State) → takes_access old (Gives a) new → IsLast old.accesses a × (new.found ≡ old.found) × (new.atoms ≡ old.atoms)
  unfolding ◌▷◌ gives_some does
  access-taken a old new (b, s, (last, first), (u, t, second, (same, third))) =
      let all : new ≡ record s { accesses = all_but 1 s.accesses } = third ∙ second in (
        subst (λ (x : Access). IsLast old.accesses x) (sym same) last,
        ap (λ (x : State). x.found) all ∙ ap (λ (x : State). x.found) first,
        ap (λ (x : State). x.atoms) all ∙ ap (λ (x : State). x.atoms) first,
      )

  -- what was asked of the two last parts, and what is made of them
  pub record MemberRead (old new : State) (container key : TypedExpr) (keys : Keys) (m : SemType) (P : Atoms → Ty → Type 0) (f : StrictForm) (at : Place) : Type 0 where
    pub lasts : AreLast old.found 2 (container ∷ key ∷ [])
    pub defined : IsDefined old.atoms m
    pub exactly : HasExactly old.atoms m (StandsAt old.atoms (sem container) keys)
    pub made : Makes 2 (StrictMade f P at) old new

  item-opened : (at : Place) (old new : State) → reads_element passes Item at old (Gives tt) new
      → (l i : TypedExpr) × (keys : Keys) × (m : SemType) × NamesItems old.atoms (sem i) keys × MemberRead old new l i keys m (λ env t. t ≡ plain m) (form.Read read.Item) at
  unfolding ◌▷◌ gives_some
  item-opened at old new (p, a, (last, first), (keys, b, second, (m, c, third, makes-it))) =
      let (named, same) = names-asked Item (sem p.1) at a b keys second in
      let (defined, exactly, still) = some-member-asked (sem p.0) keys at b c m third in
      let to-b : b ≡ old = same ∙ first in
      let to-c : c ≡ old = still ∙ to-b in (
        p.0,
        p.1,
        keys,
        m,
        subst (λ (s : State). NamesItems s.atoms (sem p.1) keys) first named,
        record {
          lasts = last;
          defined = subst (λ (s : State). IsDefined s.atoms m) to-b defined;
          exactly = subst (λ (s : State). HasExactly s.atoms m (StandsAt s.atoms (sem p.0) keys)) to-b exactly;
          made = between 2 (ItemMade m at) old c new new (as-same old c to-c) (made 2 (ItemMade m at) tt c new makes-it) (as-same new new refl);
        },
      )

  key-opened : (at : Place) (old new : State) → reads_element passes Key at old (Gives tt) new
      → (l i : TypedExpr) × (keys : Keys) × (m : SemType) × NamesFields old.atoms (sem i) keys × MemberRead old new l i keys m (EitherOf m IsNil) (form.Read read.Key) at
  unfolding ◌▷◌ gives_some
  key-opened at old new (p, a, (last, first), (keys, b, second, (m, c, third, makes-it))) =
      let (named, same) = names-asked Key (sem p.1) at a b keys second in
      let (defined, exactly, still) = member-asked (sem p.0) keys at b c m third in
      let to-b : b ≡ old = same ∙ first in
      let to-c : c ≡ old = still ∙ to-b in (
        p.0,
        p.1,
        keys,
        m,
        subst (λ (s : State). NamesFields s.atoms (sem p.1) keys) first named,
        record {
          lasts = last;
          defined = subst (λ (s : State). IsDefined s.atoms m) to-b defined;
          exactly = subst (λ (s : State). HasExactly s.atoms m (StandsAt s.atoms (sem p.0) keys)) to-b exactly;
          made = between 2 (KeyMade m at) old c new new (as-same old c to-c) (made 2 (KeyMade m at) tt c new makes-it) (as-same new new refl);
        },
      )

  element-opened : (at : Place) (old new : State) → reads_accessed passes at old (Gives tt) new
      → (a : Access) × (mid : State) × IsLast old.accesses a × (mid.found ≡ old.found) × (mid.atoms ≡ old.atoms) × reads_element passes a at mid (Gives tt) new
  unfolding ◌▷◌
  element-opened at old new (a, mid, first, second) = let (last, found, atoms) = access-taken a old mid first in (a, mid, last, found, atoms, second)

  optional-opened : (w : Word) (at : Place) (old new : State) → reads_optional passes w at old (Gives tt) new
      → (e : TypedExpr) × (m : SemType) × IsLast old.found e × IsDefined old.atoms m × HasExactly old.atoms m (StandsAt old.atoms (sem e) (Field w.name))
      × Makes 1 (StrictMade (form.Read (read.OptionalField w.name)) (EitherOf m IsNil) at) old new
  unfolding ◌▷◌ gives_some
  optional-opened w at old new (e, a, (last, first), (m, b, second, makes-it)) =
      let (defined, exactly, same) = some-member-asked (sem e) (Field w.name) at a b m second in (
        e,
        m,
        last,
        subst (λ (s : State). IsDefined s.atoms m) first defined,
        subst (λ (s : State). HasExactly s.atoms m (StandsAt s.atoms (sem e) (Field w.name))) first exactly,
        between 1 (OptionalMade w m at) old b new new (as-same old b (same ∙ first)) (made 1 (OptionalMade w m at) tt b new makes-it) (as-same new new refl),
      )

  -- the mappings that have the field are an atom more
  pub key-asked : (name : Text) (t : SemType) (at : Place) (u : Unit {0}) (old new : State) → has_key passes name t at old (Gives u) new
      → (defs : List AtomDef) × HaveField name defs × (new ≡ record old { atoms = old.atoms ++ defs }) × Sub new.atoms t (Atom (length old.atoms))
  unfolding ◌▷◌ asks adds is_below
  key-asked name t at u old new (atom, a, ((defs, have, number, atoms), over), (true, b, ((under, same), still), rest)) =
      let to-a : a ≡ record old { atoms = old.atoms ++ defs } = over ∙ ap (λ (xs : Atoms). record old { atoms = xs }) atoms in
      let to-b : b ≡ a = still ∙ ap (λ (xs : Atoms). record a { atoms = xs }) same in
      let to-new : new ≡ b = unless-leaves true NoField at b new u rest in (
        defs,
        have,
        to-new ∙ to-b ∙ to-a,
        subst (λ (n : ℕ). Sub new.atoms t (Atom n)) number (subst (λ (s : State). Sub s.atoms t (Atom atom)) (sym (to-new ∙ to-b)) under),
      )
  key-asked name t at u old new (atom, a, added, (false, b, asked, rest)) = absurd (never NoField at b new rest)

  field-opened : (w : Word) (at : Place) (old new : State) → reads_field passes w at old (Gives tt) new
      → (e : TypedExpr) × (defs : List AtomDef) × (m : SemType) × (mid : State) × IsLast old.found e × HaveField w.name defs × (mid ≡ record old { atoms = old.atoms ++ defs })
      × Sub mid.atoms (sem e) (Atom (length old.atoms)) × IsDefined mid.atoms m × HasExactly mid.atoms m (StandsAt mid.atoms (sem e) (Field w.name))
      × Makes 1 (StrictMade (form.Read (read.Field w.name)) (λ env t. t ≡ plain m) at) mid new
  unfolding ◌▷◌ gives_some
  field-opened w at old new (e, a, (last, first), (m, c, (u, b, second, third), makes-it)) =
      let (defs, have, grown, under) = key-asked w.name (sem e) at u a b second in
      let (defined, exactly, same) = member-asked (sem e) (Field w.name) at b c m third in (
        e,
        defs,
        m,
        b,
        last,
        have,
        grown ∙ ap (λ (s : State). record s { atoms = s.atoms ++ defs }) first,
        subst (λ (s : State). Sub b.atoms (sem e) (Atom (length s.atoms))) first under,
        defined,
        exactly,
        between 1 (FieldMade w m at) b c new new (as-same b c same) (made 1 (FieldMade w m at) tt c new makes-it) (as-same new new refl),
      )

  module _ (names : Names) (env : List AtomDef) (place : Surroundings) where
    abbrev Result : ℕ → State → State → Type 0
    Result = MakesTyped passes names env place

    two-below : (s : State) (a i : TypedExpr) → IsBefore env s → AreLast s.found 2 (a ∷ i ∷ []) → IsDefined s.atoms (sem a) × IsDefined s.atoms (sem i)
    two-below s a i before last =
        let all = last-have (PartBelow (length s.atoms)) 2 s.found (a ∷ i ∷ []) last before.stands.found in ((all 0 a (omega arith)).0, (all 1 i (omega arith)).0)

    -- from a state with the same parts and atoms
    char-typed : (at : Place) (old new : State) (a i : TypedExpr) → IsBefore env new → reads_element passes Char at old (Gives tt) new → AreLast old.found 2 (a ∷ i ∷ [])
        → IsTypedExpr env place a → IsTypedExpr env place i → IsOfIt passes names env kind.Text a → IsOfIt passes names env kind.Integer i → Result 2 old new
    char-typed at old new a i after met last first second text number =
        one-typed env passes names place (form.Read read.Char) GetChar 2 (a ∷ i ∷ []) (OfKind kind.Text) IsString at old new after last (first, (second, tt)) (made 2 _ tt old new met) refl
        (λ t has. (text, number, has))
        (λ t kind-of defined keeps x valid is. (exactly-later env old.atoms IsString (sem_of t) keeps defined kind-of.0.shapes x valid).1 is)

    item-typed : (at : Place) (old new : State) (a i : TypedExpr) → KeepsTypes old.atoms env → IsDefined old.atoms (sem a) → IsDefined old.atoms (sem i) → IsBefore env new
        → reads_element passes Item at old (Gives tt) new → AreLast old.found 2 (a ∷ i ∷ [])
        → IsTypedExpr env place a → IsTypedExpr env place i → IsOfIt passes names env kind.AnyList a → IsOfIt passes names env kind.Integer i → Result 2 old new
    item-typed at old new a i keeps da di after met last first second list number =
        let (l, k, keys, m, named, r) = item-opened at old new met in
        let (el, ek) = pair-same l k a i (same-lasts old.found 2 (l ∷ k ∷ []) (a ∷ i ∷ []) r.lasts last) in
        let named' : NamesItems old.atoms (sem i) keys = subst (λ (q : TypedExpr). NamesItems old.atoms (sem q) keys) ek named in
        let exactly : HasExactly old.atoms m (StandsAt old.atoms (sem a) keys) = subst (λ (q : TypedExpr). HasExactly old.atoms m (StandsAt old.atoms (sem q) keys)) el r.exactly in
        one-typed env passes names place (form.Read read.Item) GetItem 2 (a ∷ i ∷ []) (λ env t. t ≡ plain m) (StandsAtIndex env (sem a) (sem i)) at old new after last
        (first, (second, tt)) r.made refl (λ t has. (list, number, has))
        (λ t is defined kept x valid (others, index, (whole, shape, stands)).
        subst (λ (u : Ty). In env x u.sem) (sym is)
        ((keeps.shapes m r.defined x).0 ((exactly x valid).1
        (whole, (shape.0, (keeps.shapes (sem a) da whole).1 shape.1), item-named old.atoms env (sem i) (keeps.shapes (sem i) di) keys others whole x named' index stands))))

    key-typed : (at : Place) (old new : State) (a i : TypedExpr) → KeepsTypes old.atoms env → IsDefined old.atoms (sem a) → IsDefined old.atoms (sem i) → IsBefore env new
        → reads_element passes Key at old (Gives tt) new → AreLast old.found 2 (a ∷ i ∷ [])
        → IsTypedExpr env place a → IsTypedExpr env place i → IsOfIt passes names env kind.AnyMapping a → IsOfIt passes names env kind.Text i → Result 2 old new
    key-typed at old new a i keeps da di after met last first second mapping text =
        let (l, k, keys, m, named, r) = key-opened at old new met in
        let (el, ek) = pair-same l k a i (same-lasts old.found 2 (l ∷ k ∷ []) (a ∷ i ∷ []) r.lasts last) in
        let named' : NamesFields old.atoms (sem i) keys = subst (λ (q : TypedExpr). NamesFields old.atoms (sem q) keys) ek named in
        let exactly : HasExactly old.atoms m (StandsAt old.atoms (sem a) keys) = subst (λ (q : TypedExpr). HasExactly old.atoms m (StandsAt old.atoms (sem q) keys)) el r.exactly in
        one-typed env passes names place (form.Read read.Key) GetKey 2 (a ∷ i ∷ []) (EitherOf m IsNil) (λ x. StandsAtKey env (sem a) (sem i) x ⊎ IsNil x) at old new after last
        (first, (second, tt)) r.made refl (λ t has. (mapping, text, has))
        (λ t either defined kept x valid stands. (keeps.shapes (sem_of t) defined x).0 ((either.shapes x valid).1 (⊎_elim
        (λ (others, key, (whole, shape, stands)). inl ((exactly x valid).1
        (whole, (shape.0, (keeps.shapes (sem a) da whole).1 shape.1), key-named old.atoms env (sem i) (keeps.shapes (sem i) di) keys others whole x named' key stands)))
        (λ nil. inr nil) stands)))

    by-access : (access : Access) (at : Place) (old new : State) (a i : TypedExpr) → KeepsTypes old.atoms env → IsDefined old.atoms (sem a) → IsDefined old.atoms (sem i) → IsBefore env new
        → reads_element passes access at old (Gives tt) new → AreLast old.found 2 (a ∷ i ∷ []) → IsTypedExpr env place a → IsTypedExpr env place i
        → IsOfIt passes names env (container_kind access) a → IsOfIt passes names env (index_kind access) i → Result 2 old new
    by-access Char at old new a i keeps da di after met last first second one other = char-typed at old new a i after met last first second one other
    by-access Item at old new a i keeps da di after met last first second one other = item-typed at old new a i keeps da di after met last first second one other
    by-access Key at old new a i keeps da di after met last first second one other = key-typed at old new a i keeps da di after met last first second one other

    element : ElementIsTyped passes names env place
    element at old new a i access before after met accessed last first second one other =
        let (b, mid, l, found, atoms, rest) = element-opened at old new met in
        let same : b ≡ access = last-same old.accesses b access l accessed in
        let rest' : reads_element passes access at mid (Gives tt) new = subst (λ (x : Access). reads_element passes x at mid (Gives tt) new) same rest in
        let (da, di) = two-below old a i before last in
        as-before env passes names place 2 old mid new found
        (by-access access at mid new a i (subst (λ (xs : Atoms). KeepsTypes xs env) (sym atoms) before.keeps) (subst (λ (xs : Atoms). IsDefined xs (sem a)) (sym atoms) da)
        (subst (λ (xs : Atoms). IsDefined xs (sem i)) (sym atoms) di) after rest' (subst (λ xs. AreLast xs 2 (a ∷ i ∷ [])) (sym found) last) first second one other)

    optional : OptionalIsTyped passes names env place
    optional w at old new a before after met last typed mapping =
        let (e, m, l, defined, exactly, made) = optional-opened w at old new met in
        let one : e ≡ a = last-same old.found e a l last in
        let exactly' : HasExactly old.atoms m (StandsAt old.atoms (sem a) (Field w.name)) =
        subst (λ (q : TypedExpr). HasExactly old.atoms m (StandsAt old.atoms (sem q) (Field w.name))) one exactly in
        let there = last-defined env old a before last in
        one-typed env passes names place (form.Read (read.OptionalField w.name)) (GetOptional w.name) 1 (a ∷ []) (EitherOf m IsNil)
        (λ x. StandsAt env (sem a) (Field w.name) x ⊎ IsNil x) at old new after (as-lasts old.found a last) (typed, tt) made refl (λ t has. (mapping, has))
        (λ t either here keeps x valid stands. (keeps.shapes (sem_of t) here x).0 ((either.shapes x valid).1 (⊎_elim
        (λ (whole, shape, stands). inl ((exactly' x valid).1 (whole, (shape.0, (before.keeps.shapes (sem a) there whole).1 shape.1), stands))) (λ nil. inr nil) stands)))

    field : FieldIsTyped passes names env place
    field w at old new a before after met last typed =
        let (e, defs, m, mid, l, have, grown, under, defined, exactly, made) = field-opened w at old new met in
        let one : e ≡ a = last-same old.found e a l last in
        let found : mid.found ≡ old.found = ap (λ (s : State). s.found) grown in
        let atoms : mid.atoms ≡ old.atoms ++ defs = ap (λ (s : State). s.atoms) grown in
        let exactly' : HasExactly mid.atoms m (StandsAt mid.atoms (sem a) (Field w.name)) =
        subst (λ (q : TypedExpr). HasExactly mid.atoms m (StandsAt mid.atoms (sem q) (Field w.name))) one exactly in
        let under' : Sub mid.atoms (sem a) (Atom (length old.atoms)) = subst (λ (q : TypedExpr). Sub mid.atoms (sem q) (Atom (length old.atoms))) one under in
        let there : IsDefined mid.atoms (sem a) =
        subst (λ xs. IsDefined xs (sem a)) (sym atoms)
        (NamesBelow-more (length old.atoms) (length (old.atoms ++ defs)) (let more = length-append old.atoms defs in omega arith) (sem a) (last-defined env old a before last)) in
        let kept : KeepsTypes mid.atoms env = subst (λ (xs : Atoms). KeepsTypes xs env) made.5 after.keeps in
        let last' : IsLast mid.found a = subst (λ xs. IsLast xs a) (sym found) last in
        as-before env passes names place 1 old mid new found
        (one-typed env passes names place (form.Read (read.Field w.name)) (GetField w.name) 1 (a ∷ []) (λ env t. t ≡ plain m) (StandsAt env (sem a) (Field w.name)) at mid new after
        (as-lasts mid.found a last') (typed, tt) made refl
        (λ t has. (
          (λ x i. has-member old.atoms w.name defs x have
              (subst (λ xs. In xs x (Atom (length old.atoms))) atoms (under' x i.0 ((kept.shapes (sem a) there x).1 i.1)))),
          has,
        ))
        (λ t is here keeps x valid (whole, shape, stands).
        subst (λ (u : Ty). In env x u.sem) (sym is) ((keeps.shapes m defined x).0 ((exactly' x valid).1 (whole, (shape.0, (keeps.shapes (sem a) there whole).1 shape.1), stands)))))

    pub reads-are-typed : ReadsAreTyped passes names env place
    reads-are-typed = record { elements = element; fields = field; optional = optional }
