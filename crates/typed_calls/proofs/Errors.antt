-- Error constructors, detail by detail.
use Rattle.std.proofs.Common.{◌≡◌, ◌∙◌, ◌++◌, ◌+◌, ◌*◌, ◌-◌, inl, inr, ⊎_elim, ℕ, zero, suc, Bool, true, false, List, [], ◌∷◌, length, map, All, Option, Some, None, append_assoc, arith, length-append, refl, rules, sym, subst, ap}
use Rattle.std.specs.Prelude.{◌⊎◌, ◌/◌, ◌||◌, Any, IsSomeAnd, IsTrue, if◌then◌else◌, slice_get}
use Rattle.std.specs.Cmp.Lexicographic.{bytes_decides}
use Rattle.std.specs.List.{list_any}
use Rattle.std.proofs.lemmas.List.Elements.{All-cons, All-head, All-nil, All-tail}
use Rattle.std.proofs.Math.Nat.{mul-div_cancel_left}
use Rattle.bal_base.specs.declared.fault.FaultCode.TheVariants.{Duplicate}
use Rattle.bal_base.specs.declared.place.Place.{Place}
use Rattle.bal_base.specs.declared.shape.Shape.{Shape, Nil, Bool as BoolShape, Int, Str, List', Mapping', Error', Function, Future', Row_of-Fields-items-2 as Row_of-Field, end_of-Fields-items-2 as end_of-Field, more_of-Fields-items-2 as more_of-Field, items-the_row-Fields-items-2 as fields_in}
use Rattle.bal_base.specs.declared.text.Text.{Text}
use Rattle.bal_base.specs.Valid.{AreTexts, FieldsValid, IsText, IsValid}
use Rattle.checks.specs.Checks.{Gives, ◌▷◌, either, gives_some}
use Rattle.checks.specs.Questions.{adds}
use Rattle.descriptors.specs.declared.names.Names.{Names}
use Rattle.descriptors.specs.Described.{IsCopy, plain}
use Rattle.needs.specs.Needs.{asks, does}
use Rattle.operations.specs.declared.operation.Constant.{Constant}
use Rattle.operations.specs.declared.operation.Constant.TheVariants as constant
use Rattle.operations.specs.declared.operation.Operation.TheVariants.{MakeError}
use Rattle.operations.specs.Kinds.{IsErrorOf, IsImmutableData, IsString}
use Rattle.operations.specs.Rows.{InPairs, IsWithin, Surroundings, shape_of}
use Rattle.operations.specs.Structures.{IsDetailOf}
use Rattle.type_model.specs.declared.answers.TypeLimit.{TypeLimit}
use Rattle.type_model.specs.declared.atoms.AtomDef.{AtomDef}
use Rattle.type_model.specs.declared.atoms.AtomDef.TheVariants.{Mapping as MappingAtom, Error as ErrorAtom}
use Rattle.type_model.specs.declared.atoms.FieldDef.{FieldDef}
use Rattle.type_model.specs.declared.basic.SemType.{SemType, Atom}
use Rattle.type_model.specs.declared.basic.Ty.{Ty}
use Rattle.type_model.specs.Calls.{Asked, KeepsTypes}
use Rattle.type_model.specs.Inclusion.{HasExactly, Sub}
use Rattle.type_model.specs.Membership.{Fits, In, MembersIn}
use Rattle.type_model.specs.Places.{HasKey, HasRequired, is_same_text, key_type}
use Rattle.type_model.proofs.SameTypes.{In-same}
use Rattle.typed_tree.proofs.ExprLayers.{expr_layers}
use Rattle.typed_tree.specs.declared.expr.TypedExpr.{TypedExpr}
use Rattle.typed_tree.specs.declared.form.StrictForm.TheVariants as form
use Rattle.typed_tree.specs.Exprs.{type_of}
use Rattle.typed_tree.specs.SharedTypes.{Shared, sem_of}
use Rattle.typed_tree.specs.Views.{IsImplied}
use Rattle.check_words.specs.Constructors.{at_work, fields_with, gives_new_key, is_detail, is_frozen, is_key, makes_error, takes_key, with_key, with_member}
use Rattle.check_words.specs.Members.{gives_key}
use Rattle.check_words.specs.State.{AreLast, ConstructorAtWork, IsLast, State, all_but, replaced}
use Rattle.check_words.specs.Values.{SingleOf}
use Rattle.check_words.specs.Words.{Atoms, fails, sets_constructor}
use Rattle.tree_promises.specs.Made.{MadeIsTyped, sem}
use Rattle.tree_promises.specs.Types.{IsTypedExpr}
use Rattle.tree_promises.proofs.Pieces.{made-is-typed}
use Rattle.typed_needs.specs.Items.{AreFirst}
use Rattle.typed_needs.specs.Pieces.{IsBefore}
use Rattle.typed_needs.proofs.AtomKinds.{added-atom}
use Rattle.typed_needs.proofs.Items.{constructor-opened, frozen-leaves, frozen-opened}
use Rattle.typed_needs.proofs.Leaving.{Makes, made}
use Rattle.typed_needs.proofs.Opened.{as-before, exactly-later, last-defined}
use Rattle.typed_needs.proofs.Placed.{last-same}
use Rattle.typed_needs.proofs.Strict.{StrictMade, made-defined, never, one-typed}
use Rattle.typed_needs.proofs.Waits.{none-off}
use Rattle.typed_calls.specs.Errors.{AreDistinct, CauseIsLacking, DetailFits, DetailIsTaken, DetailsFit, DetailsGrow, Differ, ErrorIsTyped, ErrorsAreTyped, KeyIsGiven, KeyIsTaken, KeysBegin, Pair, parts_of}

-- ---- keys

pub same-text : (a b : Text) → is_same_text a b ≡ true → a ≡ b
same-text a b e = (bytes_decides a b).0 e

pub text-same : (a b : Text) → a ≡ b → is_same_text a b ≡ true
text-same a b e = (bytes_decides a b).1 e

-- what is not the same text isn't equal to it
pub other-text : (a b : Text) → is_same_text a b ≡ false → (b ≡ a) → ⊥
other-text a b other same = let one : is_same_text a b ≡ true = text-same a b (sym same) in let bad : ⊥ = cc in bad

pub none-so : (text : Text) (keys : List (Option Text)) → list_any (is_key text) keys ≡ false → All (λ key. Differ key (Some text)) keys
none-so text [] e = All-nil _
none-so text (key ∷ keys) e = All-cons (λ k. Differ k (Some text)) key keys (first key (or-false (is_key text key) (list_any (is_key text) keys) e).0)
    (none-so text keys (or-false (is_key text key) (list_any (is_key text) keys) e).1)
  where
    first : (key : Option Text) → is_key text key ≡ false → Differ key (Some text)
    first None e = tt
    first (Some k) e = λ same. other-text text k e same

    or-false : (a b : Bool) → (a || b) ≡ false → (a ≡ false) × (b ≡ false)
    or-false false b e = (refl, e)
    or-false true b e = absurd (let bad : ⊥ = cc in bad)

pub distinct-more : (keys : List (Option Text)) (key : Option Text) → AreDistinct keys → All (λ k. Differ k key) keys → AreDistinct (keys ++ key ∷ [])
distinct-more [] key d h = (All-nil _, tt)
distinct-more (k ∷ keys) key d h =
    (push k keys d.0 (All-head (λ j. Differ j key) k keys h), distinct-more keys key d.1 (All-tail (λ j. Differ j key) k keys h))
  where
    push : (k : Option Text) (keys : List (Option Text)) → All (Differ k) keys → Differ k key → All (Differ k) (keys ++ key ∷ [])
    push k [] all one = All-cons (Differ k) key [] one (All-nil _)
    push k (j ∷ keys) all one = All-cons (Differ k) j (keys ++ key ∷ []) (All-head (Differ k) j keys all) (push k keys (All-tail (Differ k) j keys all) one)

module _ (env : List AtomDef) where
  fit-more : (keys : List (Option Text)) (types : List Ty) (pairs : List Pair) (key : Option Text) (t : Ty) (p : Pair) → DetailsFit env keys types pairs → DetailFits env key t p
      → DetailsFit env (keys ++ key ∷ []) (types ++ t ∷ []) (pairs ++ p ∷ [])
  fit-more [] [] [] key t p fit one = (one, tt)
  fit-more (k ∷ keys) (u ∷ types) (q ∷ pairs) key t p fit one = (fit.0, fit-more keys types pairs key t p fit.1 one)
  fit-more [] [] (q ∷ pairs) key t p fit one = absurd fit
  fit-more [] (u ∷ types) pairs key t p fit one = absurd fit
  fit-more (k ∷ keys) [] pairs key t p fit one = absurd fit
  fit-more (k ∷ keys) (u ∷ types) [] key t p fit one = absurd fit

  details-grow : DetailsGrow env
  details-grow c pairs text t p holds fresh fits =
      record {
        fit = fit-more c.keys c.types pairs (Some text) t p holds.fit fits;
        distinct = distinct-more c.keys (Some text) holds.distinct (none-so text c.keys fresh);
      }

  -- ---- the details of errors

  abbrev pub sems : Pair → SemType × SemType
  sems p = (sem p.0, sem p.1)

  abbrev IsOf : Text → Shape → SemType × SemType → Type 0
  IsOf key y p = In env (Str key) p.0 × In env y p.1

  pub any-cases : {A : Type 0} (P : A → Type 0) (x : A) (xs : List A) → Any P (x ∷ xs) → P x ⊎ Any P xs
  any-cases P x xs (zero, y, lt, at, h) = inl (subst P (sym at) h)
  any-cases P x xs (suc k, y, lt, at, h) = inr (k, y, omega (arith, lt), at, h)

  -- a member that is of some pair is in the type of its key
  key-found : (keys : List (Option Text)) (types : List Ty) (pairs : List Pair) (key : Text) (y : Shape) → DetailsFit env keys types pairs → AreDistinct keys → IsText key → IsValid y
      → Any (IsOf key y) (map sems pairs) → IsSomeAnd (key_type (fields_with keys types) None key) (λ t. In env y t.sem)
  key-found (Some k ∷ keys) (t ∷ types) (p ∷ pairs) key y fit distinct text valid any =
      by (is_same_text k key) refl (any-cases (IsOf key y) (sems p) (map sems pairs) any) (λ later. key-found keys types pairs key y fit.1 distinct.1 text valid later)
    where
      Found : Bool → Type 0
      Found b = IsSomeAnd (if b then Some t else key_type (fields_with keys types) None key) (λ u. In env y u.sem)

      same-key : In env (Str key) (sem p.0) → k ≡ key
      same-key i = let is : Str key ≡ Str k = (fit.0.0 (Str key) text).0 i in let names : k ≡ key = cc in names

      -- a later pair has another key
      among : (ks : List (Option Text)) (ts : List Ty) (ps : List Pair) → DetailsFit env ks ts ps → All (Differ (Some k)) ks → Any (IsOf key y) (map sems ps) → (k ≡ key) → ⊥
      among (Some j ∷ ks) (u ∷ ts) (q ∷ ps) f d a same =
          ⊎_elim (λ here. All-head (Differ (Some k)) (Some j) ks d (let is : Str key ≡ Str j = (f.0.0 (Str key) text).0 here.0 in let names : k ≡ j = cc in names))
          (λ later. among ks ts ps f.1 (All-tail (Differ (Some k)) (Some j) ks d) later same) (any-cases (IsOf key y) (sems q) (map sems ps) a)
      among [] [] [] f d a same = absurd (omega (arith, a.2))
      among (None ∷ ks) (u ∷ ts) (q ∷ ps) f d a same = absurd f.0.0
      among [] [] (q ∷ ps) f d a same = absurd f
      among [] (u ∷ ts) ps f d a same = absurd f
      among (j ∷ ks) [] ps f d a same = absurd f
      among (j ∷ ks) (u ∷ ts) [] f d a same = absurd f

      by : (b : Bool) → is_same_text k key ≡ b → IsOf key y (sems p) ⊎ Any (IsOf key y) (map sems pairs)
          → (Any (IsOf key y) (map sems pairs) → IsSomeAnd (key_type (fields_with keys types) None key) (λ u. In env y u.sem)) → Found b
      by true is (inl here) more = fit.0.1 y valid here.1
      by true is (inr later) more = absurd (among keys types pairs fit.1 distinct.0 later (same-text k key is))
      by false is (inl here) more = absurd (other-text k key is (sym (same-key here.0)))
      by false is (inr later) more = more later
  key-found [] [] [] key y fit distinct text valid any = absurd (omega (arith, any.2))
  key-found (None ∷ keys) (t ∷ types) (p ∷ pairs) key y fit distinct text valid any = absurd fit.0.0
  key-found [] [] (p ∷ pairs) key y fit distinct text valid any = absurd fit
  key-found [] (t ∷ types) pairs key y fit distinct text valid any = absurd fit
  key-found (k ∷ keys) [] pairs key y fit distinct text valid any = absurd fit
  key-found (k ∷ keys) (t ∷ types) [] key y fit distinct text valid any = absurd fit

  -- and so are all members
  members-found : (keys : List (Option Text)) (types : List Ty) (pairs : List Pair) → DetailsFit env keys types pairs → AreDistinct keys → (n : _) (row : Row_of-Field n)
      → AreTexts (fields_in _ row) → FieldsValid row → All (λ m. Any (IsOf m.0 m.1) (map sems pairs)) (fields_in _ row) → MembersIn env row (fields_with keys types) None
  members-found keys types pairs fit distinct n end_of-Field texts valid all = tt
  members-found keys types pairs fit distinct n (more_of-Field key y more) texts valid all = (
    key-found keys types pairs key y fit distinct (All-head (λ (f : Text × Shape). IsText f.0) (key, y) (fields_in _ more) texts) valid.0
        (All-head (λ (m : Text × Shape). Any (IsOf m.0 m.1) (map sems pairs)) (key, y) (fields_in _ more) all),
    members-found keys types pairs fit distinct _ more (All-tail (λ (f : Text × Shape). IsText f.0) (key, y) (fields_in _ more) texts) valid.1
        (All-tail (λ (m : Text × Shape). Any (IsOf m.0 m.1) (map sems pairs)) (key, y) (fields_in _ more) all),
  )

  -- each field is there
  required-found : (keys : List (Option Text)) (types : List Ty) (pairs : List Pair) (members : List (Text × Shape)) → DetailsFit env keys types pairs → AreTexts members
      → All (λ p. Any (λ m. In env (Str m.0) p.0) members) (map sems pairs) → HasRequired (fields_with keys types) members
  required-found (Some k ∷ keys) (t ∷ types) (p ∷ pairs) members fit texts all =
      All-cons (λ (f : FieldDef). IsTrue f.optional ⊎ HasKey members f.name) (record { name = k; ty = t; optional = false }) (fields_with keys types)
      (inr (has members texts (All-head (λ (q : SemType × SemType). Any (λ m. In env (Str m.0) q.0) members) (sems p) (map sems pairs) all)))
      (required-found keys types pairs members fit.1 texts (All-tail (λ (q : SemType × SemType). Any (λ m. In env (Str m.0) q.0) members) (sems p) (map sems pairs) all))
    where
      has : (ms : List (Text × Shape)) → AreTexts ms → Any (λ m. In env (Str m.0) (sem p.0)) ms → Any (λ m. m.0 ≡ k) ms
      has (m ∷ ms) texts a =
          ⊎_elim (λ here. (0, m, omega arith, refl, (let is : Str m.0 ≡ Str k = (fit.0.0 (Str m.0) (All-head (λ (f : Text × Shape). IsText f.0) m ms texts)).0 here in let names : m.0 ≡ k = cc in names)))
          (λ later. let r = has ms (All-tail (λ (f : Text × Shape). IsText f.0) m ms texts) later in (suc r.0, r.1, omega (arith, r.2), r.3, r.4))
          (any-cases (λ (m : Text × Shape). In env (Str m.0) (sem p.0)) m ms a)
      has [] texts a = absurd (omega (arith, a.2))
  required-found [] [] [] members fit texts all = All-nil _
  required-found (None ∷ keys) (t ∷ types) (p ∷ pairs) members fit texts all = absurd fit.0.0
  required-found [] [] (p ∷ pairs) members fit texts all = absurd fit
  required-found [] (t ∷ types) pairs members fit texts all = absurd fit
  required-found (k ∷ keys) [] pairs members fit texts all = absurd fit
  required-found (k ∷ keys) (t ∷ types) [] members fit texts all = absurd fit

  -- an error with such a detail is of the atom
  module _ (keys : List (Option Text)) (types : List Ty) (pairs : List Pair) (first : ℕ) (mapping : slice_get env first ≡ Some (MappingAtom (fields_with keys types) None))
      (fit : DetailsFit env keys types pairs) (distinct : AreDistinct keys) where
    detail-fits : (mark : Bool) (n : _) (row : Row_of-Field n) → AreTexts (fields_in _ row) → FieldsValid row → IsDetailOf env (map sems pairs) (fields_in _ row)
        → HasRequired (fields_with keys types) (fields_in _ row) × MembersIn env row (fields_with keys types) None
    detail-fits mark n row texts valid of = (required-found keys types pairs (fields_in _ row) fit texts of.1, members-found keys types pairs fit distinct _ row texts valid of.0)

    of-detail : (x : Shape) → IsValid x → IsErrorOf (IsDetailOf env (map sems pairs)) x → Fits env x (ErrorAtom (Atom first))
    of-detail (Error' n detail) valid of = subst (λ o. IsSomeAnd o (Fits env detail)) (sym mapping) (by n detail valid.1 of)
      where
        by : (n : _) (d : Shape) → IsValid d → IsErrorOf (IsDetailOf env (map sems pairs)) (Error' n d) → Fits env d (MappingAtom (fields_with keys types) None)
        by n (Mapping' mark _ fields) valid of = detail-fits mark _ fields valid.0 valid.3 of
        by n Nil valid of = absurd of
        by n (BoolShape b) valid of = absurd of
        by n (Int i) valid of = absurd of
        by n (Str t) valid of = absurd of
        by n (List' mark _ items) valid of = absurd of
        by n (Error' _ d) valid of = absurd of
        by n (Function isolated graph) valid of = absurd of
        by n (Future' _ results) valid of = absurd of
    of-detail Nil valid of = absurd of
    of-detail (BoolShape b) valid of = absurd of
    of-detail (Int i) valid of = absurd of
    of-detail (Str t) valid of = absurd of
    of-detail (List' mark _ items) valid of = absurd of
    of-detail (Mapping' mark _ fields) valid of = absurd of
    of-detail (Function isolated graph) valid of = absurd of
    of-detail (Future' _ results) valid of = absurd of

    error-in : (x : Shape) → slice_get env (first + 1) ≡ Some (ErrorAtom (Atom first)) → IsValid x → IsErrorOf (IsDetailOf env (map sems pairs)) x → In env x (Atom (first + 1))
    error-in x error valid of = subst (λ o. IsSomeAnd o (Fits env x)) (sym error) (of-detail x valid of)

  -- parts of pairs, in pairs
  pub in-pairs : (ps : List Pair) (P : List (SemType × SemType) → Type 0) → P (map sems ps) → InPairs (length ps) (map sem (parts_of ps)) P
  in-pairs [] P h = h
  in-pairs (p ∷ ps) P h = in-pairs ps (λ more. P (sems p ∷ more)) h

  pairs-fit : (keys : List (Option Text)) (types : List Ty) (pairs : List Pair) → DetailsFit env keys types pairs
      → All (λ (p : SemType × SemType). IsWithin env IsString p.0 × IsWithin env IsImmutableData p.1) (map sems pairs)
  pairs-fit [] [] [] fit = All-nil _
  pairs-fit (Some k ∷ keys) (t ∷ types) (p ∷ pairs) fit =
      All-cons (λ (q : SemType × SemType). IsWithin env IsString q.0 × IsWithin env IsImmutableData q.1) (sems p) (map sems pairs)
      ((λ x i. subst IsString (sym ((fit.0.0 x i.0).0 i.1)) tt), fit.0.2) (pairs-fit keys types pairs fit.1)
  pairs-fit (None ∷ keys) (t ∷ types) (p ∷ pairs) fit = absurd fit.0.0
  pairs-fit [] [] (p ∷ pairs) fit = absurd fit
  pairs-fit [] (t ∷ types) pairs fit = absurd fit
  pairs-fit (k ∷ keys) [] pairs fit = absurd fit
  pairs-fit (k ∷ keys) (t ∷ types) [] fit = absurd fit

pub parts-many : (ps : List Pair) → length (parts_of ps) ≡ 2 * length ps
parts-many [] = refl
parts-many (p ∷ ps) = let more = parts-many ps in omega (arith, more)

-- the second of two that were added
second-added : (env old : List AtomDef) (def other : AtomDef) → AreFirst env (old ++ def ∷ other ∷ []) → slice_get env (length old + 1) ≡ Some other
second-added env old def other first =
    let long : length (old ++ def ∷ []) ≡ length old + 1 = length-append old (def ∷ []) in
    subst (λ n. slice_get env n ≡ Some other) long
    (added-atom env (old ++ def ∷ []) other [] (subst (AreFirst env) (sym (append_assoc old (def ∷ []) (other ∷ []))) first))

halved : (message cause : TypedExpr) (pairs : List Pair) → (length (message ∷ cause ∷ parts_of pairs) - 2) / 2 ≡ length pairs
halved message cause pairs =
    let less : length (message ∷ cause ∷ parts_of pairs) - 2 ≡ 2 * length pairs = (let many = parts-many pairs in omega (arith, many)) in
    ap (λ k. k / 2) less ∙ mul-div_cancel_left (length pairs) (omega arith)

-- ---- words

implied-type : (c : Constant) (t : Shared) (at : Place) (e : TypedExpr) → IsImplied c t at e → type_of e ≡ t
implied-type c t at e is = search (rules, expr_layers)

abbrev ImpliedMade : Constant → Place → Atoms → List TypedExpr → TypedExpr → Type 0
ImpliedMade c at env parts e = (t : Shared) × SingleOf c env t.value × IsImplied c t at e

key-taken : (text : Text) (at : Place) (u : Unit {0}) (old new : State) → takes_key text at old (Gives u) new
    → (c : ConstructorAtWork) × IsLast old.constructors c × (list_any (is_key text) c.keys ≡ false) × (new ≡ record old { constructors = replaced old.constructors (with_key (Some text) c) })
unfolding ◌▷◌ gives_some does
key-taken text at u old new (c, mid, (last, same), met) = by (list_any (is_key text) c.keys) refl met
  where
    by : (b : Bool) → list_any (is_key text) c.keys ≡ b → either b (fails Duplicate at) (sets_constructor (with_key (Some text) c)) mid (Gives u) new
        → (d : ConstructorAtWork) × IsLast old.constructors d × (list_any (is_key text) d.keys ≡ false) × (new ≡ record old { constructors = replaced old.constructors (with_key (Some text) d) })
    by false is met = (c, last, is, met ∙ ap (λ (s : State). record s { constructors = replaced s.constructors (with_key (Some text) c) }) same)
    by true is met = absurd (never Duplicate at mid new met)

module _ (passes : List AtomDef → Asked → TypeLimit → Type 0) (names : Names) (env : List AtomDef) (place : Surroundings) where
  begun : KeysBegin passes names env place
  begun old new met = constructor-opened (at_work None false) tt old new met

  -- a value alone, as a part
  implied-typed : (c : Constant) (at : Place) (old new : State) → IsBefore env new → Makes 0 (ImpliedMade c at) old new
      → (e : TypedExpr) × (new.found ≡ old.found ++ e ∷ []) × IsTypedExpr env place e × HasExactly env (sem e) (λ x. x ≡ shape_of c)
  implied-typed c at old new after (ps, e, last, (t, single, view), found, atoms) =
      let type = implied-type c t at e view in
      let defined = made-defined env 0 old new e t after type found atoms in
      let exactly = exactly-later env old.atoms (λ x. x ≡ shape_of c) (sem_of t) (subst (λ xs. KeepsTypes xs env) atoms after.keeps) defined single.shapes in
      let pieces : MadeIsTyped env place (sem_of t) = made-is-typed env place (sem_of t) in (
        e,
        found ∙ ap (λ xs. xs ++ e ∷ []) (none-off old.found),
        pieces.implied c t at e view (λ x valid is. (exactly x valid).1 is),
        subst (λ (u : Shared). HasExactly env (sem_of u) (λ x. x ≡ shape_of c)) (sym type) exactly,
      )

  given-opened : (text : Text) (at : Place) (old new : State) → gives_new_key text at old (Gives tt) new
      → (c : ConstructorAtWork) × (mid : State) × IsLast old.constructors c × (list_any (is_key text) c.keys ≡ false)
      × (mid ≡ record old { constructors = replaced old.constructors (with_key (Some text) c) }) × gives_key text at mid (Gives tt) new
  unfolding ◌▷◌
  given-opened text at old new (u, mid, taken, gives-it) = let (c, last, fresh, is) = key-taken text at u old mid taken in (c, mid, last, fresh, is, gives-it)

  key-leaves : (text : Text) (at : Place) (old new : State) → gives_key text at old (Gives tt) new → new.constructors ≡ old.constructors
  unfolding does
  key-leaves text at old new (parts, last, e, p, is) = ap (λ (s : State). s.constructors) is

  key : KeyIsGiven passes names env place
  key text at old new c after met last =
      let (d, mid, l, fresh, is, gives-it) = given-opened text at old new met in
      let one : d ≡ c = last-same old.constructors d c l last in
      let (e, found, typed, exactly) = implied-typed (constant.Str text) at mid new after (made 0 (ImpliedMade (constant.Str text) at) tt mid new gives-it) in
      record {
        part = e;
        fresh = subst (λ (x : ConstructorAtWork). list_any (is_key text) x.keys ≡ false) one fresh;
        constructors = key-leaves text at mid new gives-it ∙ ap (λ (s : State). s.constructors) is ∙ ap (λ (x : ConstructorAtWork). replaced old.constructors (with_key (Some text) x)) one;
        found = found ∙ ap (λ (s : State). s.found ++ e ∷ []) is;
        typed = typed;
        single = exactly;
      }

  taken : KeyIsTaken passes names env place
  taken text at old new c met last =
      let (d, l, fresh, is) = key-taken text at tt old new met in
      let one : d ≡ c = last-same old.constructors d c l last in (
        subst (λ (x : ConstructorAtWork). list_any (is_key text) x.keys ≡ false) one fresh,
        subst (λ (x : ConstructorAtWork). new ≡ record old { constructors = replaced old.constructors (with_key (Some text) x) }) one is,
      )

  detail-opened : (at : Place) (old new : State) → is_detail passes at old (Gives tt) new
      → (c : ConstructorAtWork) × (e : TypedExpr) × (mid : State) × (t : Ty) × IsLast old.constructors c × IsLast old.found e × is_frozen passes e at old (Gives tt) mid
      × IsCopy (type_of e).value t × (new ≡ record old { constructors = replaced old.constructors (with_member t c) })
  unfolding ◌▷◌ gives_some does
  detail-opened at old new (c, s1, (l1, e1), (e, s2, (l2, e2), (u, s3, frozen, (t, s4, (copy, e4), set)))) =
      let two : s2 ≡ old = e2 ∙ e1 in
      let three : s3 ≡ old = frozen-leaves passes e at s2 s3 u frozen ∙ two in (
        c,
        e,
        s3,
        t,
        l1,
        subst (λ (s : State). IsLast s.found e) e1 l2,
        subst (λ (s : State). is_frozen passes e at s (Gives u) s3) two frozen,
        copy,
        set ∙ ap (λ (s : State). record s { constructors = replaced s.constructors (with_member t c) }) (e4 ∙ three),
      )

  detail : DetailIsTaken passes names env place
  detail at old new c e before met lc le =
      let (d, f, mid, t, l1, l2, frozen, copy, is) = detail-opened at old new met in
      let ec : d ≡ c = last-same old.constructors d c l1 lc in
      let ee : f ≡ e = last-same old.found f e l2 le in
      let (s, plain-frozen, under) = frozen-opened passes f at old mid frozen in
      let keeps = before.keeps.shapes (sem f) (last-defined env old f before l2) in (
        t,
        is ∙ ap (λ (x : ConstructorAtWork). record old { constructors = replaced old.constructors (with_member t x) }) ec,
        subst (λ (p : TypedExpr). Sub env (sem p) t.sem) ee (λ x valid i. (In-same env x (sem f) t.sem copy.sem).0 i),
        subst (λ (p : TypedExpr). IsWithin env IsImmutableData (sem p)) ee (λ x i. (plain-frozen.shapes x i.0).0 (under x i.0 ((keeps x).1 i.1))),
      )

  lacking : CauseIsLacking passes names env place
  lacking at old new after met =
      let (e, found, typed, exactly) = implied-typed constant.Nil at old new after (made 0 (ImpliedMade constant.Nil at) tt old new met) in
      record { part = e; found = found; typed = typed; nil = λ x i. (exactly x i.0).0 i.1 }

  -- ---- the whole error

  abbrev ErrorMade : ℕ → Place → Atoms → List TypedExpr → TypedExpr → Type 0
  ErrorMade first at = StrictMade form.Error (λ env t. t ≡ plain (Atom (first + 1))) at

  error-opened : (count : ℕ) (at : Place) (old new : State) → makes_error count at old (Gives tt) new
      → (c : ConstructorAtWork) × (mid : State) × IsLast old.constructors c × (mid.found ≡ old.found)
      × (mid.atoms ≡ old.atoms ++ MappingAtom (fields_with c.keys c.types) None ∷ ErrorAtom (Atom (length old.atoms)) ∷ []) × Makes (2 + 2 * count) (ErrorMade (length old.atoms) at) mid new
  unfolding ◌▷◌ gives_some does asks adds
  error-opened count at old new (c, s3, (d, s1, (l, e1), (u, s2, e2, (is, e3))), (first, mid, ((defs, are, number, atoms), over), makes-it)) =
      let same : s3 ≡ record s1 { constructors = all_but 1 s1.constructors } = e3 ∙ e2 in
      let atoms-3 : s3.atoms ≡ old.atoms = ap (λ (s : State). s.atoms) same ∙ ap (λ (s : State). s.atoms) e1 in (
        c,
        mid,
        subst (λ (x : ConstructorAtWork). IsLast old.constructors x) (sym is) l,
        ap (λ (s : State). s.found) over ∙ ap (λ (s : State). s.found) same ∙ ap (λ (s : State). s.found) e1,
        atoms ∙ ap (λ ds. s3.atoms ++ ds) are
            ∙ ap (λ xs. xs ++ MappingAtom (fields_with c.keys c.types) None ∷ ErrorAtom (Atom (length xs)) ∷ []) atoms-3,
        subst (λ k. Makes (2 + 2 * count) (ErrorMade k at) mid new) (number ∙ ap length atoms-3) (made (2 + 2 * count) (ErrorMade first at) tt mid new makes-it),
      )

  error : ErrorIsTyped passes names env place
  error count at old new c message cause pairs after first met last many lasts typed text causes holds =
      let (d, mid, l, found, atoms, made-it) = error-opened count at old new met in
      let one : d ≡ c = last-same old.constructors d c l last in
      let keys : List (Option Text) = c.keys in
      let n : ℕ = length old.atoms in
      let atoms' : mid.atoms ≡ old.atoms ++ MappingAtom (fields_with c.keys c.types) None ∷ ErrorAtom (Atom n) ∷ [] =
      atoms ∙ ap (λ (x : ConstructorAtWork). old.atoms ++ MappingAtom (fields_with x.keys x.types) None ∷ ErrorAtom (Atom n) ∷ []) one in
      let first' : AreFirst env (old.atoms ++ MappingAtom (fields_with c.keys c.types) None ∷ ErrorAtom (Atom n) ∷ []) = subst (AreFirst env) atoms' (subst (AreFirst env) made-it.5 first) in
      let mapping : slice_get env n ≡ Some (MappingAtom (fields_with c.keys c.types) None) =
      added-atom env old.atoms (MappingAtom (fields_with c.keys c.types) None) (ErrorAtom (Atom n) ∷ []) first' in
      let error-atom : slice_get env (n + 1) ≡ Some (ErrorAtom (Atom n)) = second-added env old.atoms (MappingAtom (fields_with c.keys c.types) None) (ErrorAtom (Atom n)) first' in
      let so-many : (length (message ∷ cause ∷ parts_of pairs) - 2) / 2 ≡ length pairs = halved message cause pairs in
      as-before env passes names place (2 + 2 * count) old mid new found
      (one-typed env passes names place form.Error (MakeError (length pairs)) (2 + 2 * count) (message ∷ cause ∷ parts_of pairs) (λ env t. t ≡ plain (Atom (n + 1)))
      (IsErrorOf (IsDetailOf env (map (sems env) pairs))) at mid new after (subst (λ xs. AreLast xs (2 + 2 * count) (message ∷ cause ∷ parts_of pairs)) (sym found) lasts) typed made-it
      (ap (λ (k : ℕ). MakeError k ∷ []) so-many)
      (λ t has. in-pairs env pairs _ (text, (λ x i. ⊎_elim inr inl (causes x i)), pairs-fit env c.keys c.types pairs holds.fit, has))
      (λ t is defined keeps x valid of. subst (λ (y : Ty). In env x y.sem) (sym is) (error-in env c.keys c.types pairs n mapping holds.fit holds.distinct x error-atom valid of)))

  pub errors-are-typed : ErrorsAreTyped passes names env place
  errors-are-typed = record { begun = begun; keys = key; taken = taken; details = detail; grow = details-grow env; lacking = lacking; made = error }
