-- What needs say is the same where each type is kept.
use Rattle.std.proofs.Common.{◌≡◌, ◌<◌, ◌↔◌, ℕ, Bool, true, false, List, [], ◌∷◌, Option, Some, None, All, Any, IfSome, IsSomeAnd, if◌then◌else◌, inl, inr, pos, subst, length, get_or}
use Rattle.std.proofs.lemmas.List.Elements.{All-head, All-tail}
use Rattle.bal_base.specs.declared.shape.Shape.{Shape, Nil, Bool as BoolShape, Int, Str, List', Mapping', Error', Function, Future', items-the_row-Shape as shapes_in, items-the_row-Fields-items-2 as fields_in}
use Rattle.bal_base.specs.declared.text.Text.{Text}
use Rattle.operations.specs.Kinds.{HasMember, IsErrorOf, IsFutureOf, IsInteger, IsString}
use Rattle.operations.specs.Rows.{IsSingle, IsSingleIndex, IsWithin, MayGive, NamesIndex, NamesKey, ResultHas, StandsAtIndex, StandsAtKey, shape_of}
use Rattle.operations.specs.Structures.{IsDetailOf, IsMade, MemberFits}
use Rattle.type_model.specs.declared.answers.Answer.{Answer}
use Rattle.type_model.specs.declared.answers.Answer.TheVariants.{Yes, No}
use Rattle.type_model.specs.declared.answers.Keys.{Keys}
use Rattle.type_model.specs.declared.atoms.AtomDef.{AtomDef}
use Rattle.type_model.specs.declared.atoms.FieldDef.{FieldDef}
use Rattle.type_model.specs.declared.basic.SemType.{SemType, Atom}
use Rattle.type_model.specs.declared.basic.Ty.{Ty}
use Rattle.type_model.specs.Calls.{KeepsTypes}
use Rattle.type_model.specs.Defined.{IsDefined}
use Rattle.type_model.specs.Inclusion.{IsShapeOf}
use Rattle.type_model.specs.Membership.{In}
use Rattle.type_model.specs.Parts.{StandsAt}
use Rattle.type_model.specs.Places.{is_same_text, key_type}
use Rattle.type_model.proofs.Same.{both, either, itself, neither}
use Rattle.code_needs.specs.Needs.{IsOfKind, Need, Below, Within, Has, HasConstant, HasBoth, HasMade, PartIn, PartHas, ItemIn, ItemHas, MemberIn, MemberHas, HasField, Ordered, Applies, Gives, GivesFuture, FitsFields, Names, HasErrorsOf}
use Rattle.code_verifier.specs.Asked.{Answers, FailsAt, IsLeftOut, IsNoString, IsOutside, IsUnfit, Tells}
use Rattle.atom_questions.specs.Kept.{AnswersKept, NeedDefined}
use Rattle.atom_questions.proofs.Giving.{answer-kept, fails-back, fails-kept}

-- ---- lists

all-alike : {X : Type 0} (D P Q : X → Type 0) → ((x : X) → D x → P x ↔ Q x) → (xs : List X) → All D xs → All P xs ↔ All Q xs
all-alike D P Q same xs d = ((λ h k e lt. (same (get_or xs k e) (d k e lt)).0 (h k e lt)), (λ h k e lt. (same (get_or xs k e) (d k e lt)).1 (h k e lt)))

any-alike : {X : Type 0} (D P Q : X → Type 0) → ((x : X) → D x → P x ↔ Q x) → (xs : List X) → All D xs → Any P xs ↔ Any Q xs
any-alike D P Q same xs d = (so, back)
  where
    so : Any P xs → Any Q xs
    so (i, y, lt, e, p) = (i, y, lt, e, (same y (subst D e (d i y lt))).0 p)

    back : Any Q xs → Any P xs
    back (i, y, lt, e, q) = (i, y, lt, e, (same y (subst D e (d i y lt))).1 q)

abbrev Always : {X : Type 0} → X → Type 0
Always x = Unit {0}

always : {X : Type 0} (xs : List X) → All Always xs
always xs k d lt = tt

some-alike : {X : Type 0} (P Q : X → Type 0) (o : Option X) → IfSome o (λ x. P x ↔ Q x) → IsSomeAnd o P ↔ IsSomeAnd o Q
some-alike P Q None h = itself
some-alike P Q (Some x) h = h

-- ---- shapes of parts

future-alike : (P Q : Shape → Type 0) → ((x : Shape) → P x ↔ Q x) → (x : Shape) → IsFutureOf P x ↔ IsFutureOf Q x
future-alike P Q same (Future' _ results) = all-alike Always P Q (λ x d. same x) (shapes_in _ results) (always (shapes_in _ results))
future-alike P Q same Nil = itself
future-alike P Q same (BoolShape b) = itself
future-alike P Q same (Int i) = itself
future-alike P Q same (Str t) = itself
future-alike P Q same (List' mark _ items) = itself
future-alike P Q same (Mapping' mark _ fields) = itself
future-alike P Q same (Error' _ detail) = itself
future-alike P Q same (Function isolated graph) = itself

error-alike : (P Q : List (Text × Shape) → Type 0) → ((ms : List (Text × Shape)) → P ms ↔ Q ms) → (x : Shape) → IsErrorOf P x ↔ IsErrorOf Q x
error-alike P Q same (Error' _ (Mapping' mark _ fields)) = same (fields_in _ fields)
error-alike P Q same (Error' _ Nil) = itself
error-alike P Q same (Error' _ (BoolShape b)) = itself
error-alike P Q same (Error' _ (Int i)) = itself
error-alike P Q same (Error' _ (Str t)) = itself
error-alike P Q same (Error' _ (List' mark _ items)) = itself
error-alike P Q same (Error' _ (Error' _ detail)) = itself
error-alike P Q same (Error' _ (Function isolated graph)) = itself
error-alike P Q same (Error' _ (Future' _ results)) = itself
error-alike P Q same Nil = itself
error-alike P Q same (BoolShape b) = itself
error-alike P Q same (Int i) = itself
error-alike P Q same (Str t) = itself
error-alike P Q same (List' mark _ items) = itself
error-alike P Q same (Mapping' mark _ fields) = itself
error-alike P Q same (Function isolated graph) = itself
error-alike P Q same (Future' _ results) = itself

abbrev Member : List AtomDef → Text × Shape → SemType × SemType → Type 0
Member e m p = In e (Str m.0) p.0 × In e m.1 p.1

abbrev Keyed : List AtomDef → SemType × SemType → Text × Shape → Type 0
Keyed e p m = In e (Str m.0) p.0

module _ (env new : List AtomDef) (keeps : KeepsTypes env new) where
  in-alike : (t : SemType) → IsDefined env t → (x : Shape) → In env x t ↔ In new x t
  in-alike t d x = keeps.shapes t d x

  shape-alike : (t : SemType) → IsDefined env t → (x : Shape) → IsShapeOf env t x ↔ IsShapeOf new t x
  shape-alike t d x = both itself (in-alike t d x)

  -- ---- the four forms

  within-alike : (P Q : Shape → Type 0) → ((x : Shape) → P x ↔ Q x) → (s : SemType) → IsDefined env s → IsWithin env P s ↔ IsWithin new Q s
  within-alike P Q same s d = ((λ h x i. (same x).0 (h x ((shape-alike s d x).1 i))), (λ h x i. (same x).1 (h x ((shape-alike s d x).0 i))))

  outside-alike : (P Q : Shape → Type 0) → ((x : Shape) → P x ↔ Q x) → (s : SemType) → IsDefined env s → (x : Shape) → IsOutside env P s x ↔ IsOutside new Q s x
  outside-alike P Q same s d x = both (shape-alike s d x) (neither (same x))

  result-alike : (P Q : Shape → Type 0) → ((x : Shape) → P x ↔ Q x) → (r : SemType) → IsDefined env r → ResultHas env (Some r) P ↔ ResultHas new (Some r) Q
  result-alike P Q same r d = ((λ h x v q. (in-alike r d x).0 (h x v ((same x).1 q))), (λ h x v p. (in-alike r d x).1 (h x v ((same x).0 p))))

  left-alike : (P Q : Shape → Type 0) → ((x : Shape) → P x ↔ Q x) → (r : SemType) → IsDefined env r → (x : Shape) → IsLeftOut env r P x ↔ IsLeftOut new r Q x
  left-alike P Q same r d x = ((λ h. (h.0, (same x).0 h.1, (λ i. h.2 ((in-alike r d x).1 i)))), (λ h. (h.0, (same x).1 h.1, (λ i. h.2 ((in-alike r d x).0 i)))))

  tells-alike : {A B : Type 0} (F G : Shape → Type 0) → A ↔ B → ((x : Shape) → F x ↔ G x) → (a : Answer) → Tells A F a ↔ Tells B G a
  tells-alike F G met against Yes = met
  tells-alike F G met against (No x) = both (against x) (neither met)

  -- a need that all shapes of a type have a property; and that a type has all with one
  of-within : (P Q : Shape → Type 0) → ((x : Shape) → P x ↔ Q x) → (s : SemType) → IsDefined env s → (a : Answer) → Tells (IsWithin env P s) (IsOutside env P s) a ↔ Tells (IsWithin new Q s) (IsOutside new Q s) a
  of-within P Q same s d = tells-alike (IsOutside env P s) (IsOutside new Q s) (within-alike P Q same s d) (outside-alike P Q same s d)

  of-result : (P Q : Shape → Type 0) → ((x : Shape) → P x ↔ Q x) → (r : SemType) → IsDefined env r → (a : Answer)
      → Tells (ResultHas env (Some r) P) (IsLeftOut env r P) a ↔ Tells (ResultHas new (Some r) Q) (IsLeftOut new r Q) a
  of-result P Q same r d = tells-alike (IsLeftOut env r P) (IsLeftOut new r Q) (result-alike P Q same r d) (left-alike P Q same r d)

  -- ---- the words of needs

  parts-alike : (s : SemType) → IsDefined env s → (keys : Keys) (x : Shape) → StandsAt env s keys x ↔ StandsAt new s keys x
  parts-alike s d keys x = (so, back)
    where
      so : StandsAt env s keys x → StandsAt new s keys x
      so (whole, shape, h) = (whole, (shape-alike s d whole).0 shape, h)

      back : StandsAt new s keys x → StandsAt env s keys x
      back (whole, shape, h) = (whole, (shape-alike s d whole).1 shape, h)

  single-alike : (t : SemType) → IsDefined env t → (x : Shape) → IsSingle env t x ↔ IsSingle new t x
  single-alike t d x = (
    (λ h y v. ((λ i. (h y v).0 ((in-alike t d y).1 i)), (λ e. (in-alike t d y).0 ((h y v).1 e)))),
    (λ h y v. ((λ i. (h y v).0 ((in-alike t d y).0 i)), (λ e. (in-alike t d y).1 ((h y v).1 e)))),
  )

  keys-alike : (k : SemType) → IsDefined env k → (keys : Keys) → NamesKey env k keys ↔ NamesKey new k keys
  keys-alike k d keys = (so, back)
    where
      so : NamesKey env k keys → NamesKey new k keys
      so (inl (key, (text, single), e)) = inl (key, (text, (single-alike k d (Str key)).0 single), e)
      so (inr (none, e)) = inr ((λ key single. none key (single.0, (single-alike k d (Str key)).1 single.1)), e)

      back : NamesKey new k keys → NamesKey env k keys
      back (inl (key, (text, single), e)) = inl (key, (text, (single-alike k d (Str key)).1 single), e)
      back (inr (none, e)) = inr ((λ key single. none key (single.0, (single-alike k d (Str key)).0 single.1)), e)

  at-key-alike : (m k : SemType) → IsDefined env m → IsDefined env k → (x : Shape) → StandsAtKey env m k x ↔ StandsAtKey new m k x
  at-key-alike m k d e x = (so, back)
    where
      so : StandsAtKey env m k x → StandsAtKey new m k x
      so (keys, named, h) = (keys, (keys-alike k e keys).0 named, (parts-alike m d keys x).0 h)

      back : StandsAtKey new m k x → StandsAtKey env m k x
      back (keys, named, h) = (keys, (keys-alike k e keys).1 named, (parts-alike m d keys x).1 h)

  made-alike : (atom : ℕ) → atom < length env → (immutable : Bool) (x : Shape) → IsMade env atom immutable x ↔ IsMade new atom immutable x
  made-alike atom lt immutable x = both (in-alike (Atom atom) lt x) itself

  abbrev Pair : SemType × SemType → Type 0
  Pair p = IsDefined env p.0 × IsDefined env p.1

  member : (m : Text × Shape) (p : SemType × SemType) → Pair p → Member env m p ↔ Member new m p
  member m p e = both (in-alike p.0 e.0 (Str m.0)) (in-alike p.1 e.1 m.1)

  detail-alike : (pairs : List (SemType × SemType)) → All Pair pairs → (ms : List (Text × Shape)) → IsDetailOf env pairs ms ↔ IsDetailOf new pairs ms
  detail-alike pairs d ms = both
      (all-alike Always (λ m. Any (Member env m) pairs) (λ m. Any (Member new m) pairs) (λ m u. any-alike Pair (Member env m) (Member new m) (member m) pairs d) ms (always ms))
      (all-alike Pair (λ p. Any (Keyed env p) ms) (λ p. Any (Keyed new p) ms) (λ p e. any-alike Always (Keyed env p) (Keyed new p) (λ m u. in-alike p.0 e.0 (Str m.0)) ms (always ms)) pairs d)

  -- ---- members of mappings

  either-defined : (b : Bool) (t : Ty) (o : Option Ty) → IsDefined env t.sem → IfSome o (λ u. IsDefined env u.sem) → IfSome (if b then Some t else o) (λ u. IsDefined env u.sem)
  either-defined true t o d r = d
  either-defined false t o d r = r

  key-defined : (fields : List FieldDef) (rest : Option Ty) (key : Text) → All (λ f. IsDefined env f.ty.sem) fields → IfSome rest (λ t. IsDefined env t.sem) → IfSome (key_type fields rest key) (λ t. IsDefined env t.sem)
  key-defined [] rest key d r = r
  key-defined (f ∷ fields) rest key d r =
      either-defined (is_same_text f.name key) f.ty (key_type fields rest key) (All-head (λ g. IsDefined env g.ty.sem) f fields d)
      (key-defined fields rest key (All-tail (λ g. IsDefined env g.ty.sem) f fields d) r)

  some-defined : (P Q : Ty → Type 0) → ((t : Ty) → IsDefined env t.sem → P t ↔ Q t) → (o : Option Ty) → IfSome o (λ t. IsDefined env t.sem) → IsSomeAnd o P ↔ IsSomeAnd o Q
  some-defined P Q same None d = itself
  some-defined P Q same (Some t) d = same t d

  module _ (fields : List FieldDef) (rest : Option Ty) (k v : SemType) (dk : IsDefined env k) (dv : IsDefined env v) (dr : IfSome rest (λ t. IsDefined env t.sem)) (df : All (λ f. IsDefined env f.ty.sem) fields) where
    abbrev Placed : List AtomDef → Text → Shape → Type 0
    Placed at key x = IsSomeAnd (key_type fields rest key) (λ t. In at x t.sem)

    value-alike : (key : Text) (x : Shape) → Placed env key x ↔ Placed new key x
    value-alike key x = some-defined (λ t. In env x t.sem) (λ t. In new x t.sem) (λ t d. in-alike t.sem d x) (key_type fields rest key) (key-defined fields rest key df dr)

    fits-alike : MemberFits env fields rest (k, v) ↔ MemberFits new fields rest (k, v)
    fits-alike = (
      (λ h key i. (within-alike (Placed env key) (Placed new key) (value-alike key) v dv).0 (h key ((shape-alike k dk (Str key)).1 i))),
      (λ h key i. (within-alike (Placed env key) (Placed new key) (value-alike key) v dv).1 (h key ((shape-alike k dk (Str key)).0 i))),
    )

    unfit-alike : (x : Shape) → IsUnfit env fields rest (k, v) x ↔ IsUnfit new fields rest (k, v) x
    unfit-alike x = (so, back)
      where
        so : IsUnfit env fields rest (k, v) x → IsUnfit new fields rest (k, v) x
        so (key, i, h) = (key, (shape-alike k dk (Str key)).0 i, (outside-alike (Placed env key) (Placed new key) (value-alike key) v dv x).0 h)

        back : IsUnfit new fields rest (k, v) x → IsUnfit env fields rest (k, v) x
        back (key, i, h) = (key, (shape-alike k dk (Str key)).1 i, (outside-alike (Placed env key) (Placed new key) (value-alike key) v dv x).1 h)

  -- ---- indexes

  index-alike : (i : SemType) → IsDefined env i → (n : ℕ) → IsSingleIndex env i n ↔ IsSingleIndex new i n
  index-alike i d n = ((λ h. (h.0, (single-alike i d (Int (pos n))).0 h.1)), (λ h. (h.0, (single-alike i d (Int (pos n))).1 h.1)))

  indexes-alike : (i : SemType) → IsDefined env i → (keys : Keys) → NamesIndex env i keys ↔ NamesIndex new i keys
  indexes-alike i d keys = (so, back)
    where
      so : NamesIndex env i keys → NamesIndex new i keys
      so (inl (n, single, e)) = inl (n, (index-alike i d n).0 single, e)
      so (inr (none, e)) = inr ((λ n single. none n ((index-alike i d n).1 single)), e)

      back : NamesIndex new i keys → NamesIndex env i keys
      back (inl (n, single, e)) = inl (n, (index-alike i d n).1 single, e)
      back (inr (none, e)) = inr ((λ n single. none n ((index-alike i d n).0 single)), e)

  at-index-alike : (l i : SemType) → IsDefined env l → IsDefined env i → (x : Shape) → StandsAtIndex env l i x ↔ StandsAtIndex new l i x
  at-index-alike l i d e x = (so, back)
    where
      so : StandsAtIndex env l i x → StandsAtIndex new l i x
      so (keys, named, h) = (keys, (indexes-alike i e keys).0 named, (parts-alike l d keys x).0 h)

      back : StandsAtIndex new l i x → StandsAtIndex env l i x
      back (keys, named, h) = (keys, (indexes-alike i e keys).1 named, (parts-alike l d keys x).1 h)

-- ---- all needs

module _ (env new : List AtomDef) (keeps : KeepsTypes env new) where
  own : (P : Shape → Type 0) (x : Shape) → P x ↔ P x
  own P x = itself

  gives-alike : (f : SemType) (args : List SemType) → IsDefined env f → All (IsDefined env) args → (x : Shape) → MayGive env f args x ↔ MayGive new f args x
  gives-alike f args d e x = answer-kept env new keeps f args d e (Some x)

  kept : (need : Need) → NeedDefined env need → (answer : Answer) → Answers env need answer ↔ Answers new need answer
  kept (Below s t) d a = of-within env new keeps (λ x. In env x t) (λ x. In new x t) (in-alike env new keeps t d.1) s d.0 a
  kept (Within s kind) d a = of-within env new keeps (IsOfKind kind) (IsOfKind kind) (own (IsOfKind kind)) s d a
  kept (Has r kind) d a = of-result env new keeps (IsOfKind kind) (IsOfKind kind) (own (IsOfKind kind)) r d a
  kept (HasConstant r c) d a = of-result env new keeps (λ x. x ≡ shape_of c) (λ x. x ≡ shape_of c) (own (λ x. x ≡ shape_of c)) r d a
  kept (HasBoth r s t) d a =
      of-result env new keeps (λ x. In env x s × In env x t) (λ x. In new x s × In new x t) (λ x. both (in-alike env new keeps s d.1 x) (in-alike env new keeps t d.2 x)) r d.0 a
  kept (HasMade r atom immutable) d a = of-result env new keeps (IsMade env atom immutable) (IsMade new atom immutable) (made-alike env new keeps atom d.1 immutable) r d.0 a
  kept (PartIn s keys r) d a = of-result env new keeps (StandsAt env s keys) (StandsAt new s keys) (parts-alike env new keeps s d.0 keys) r d.1 a
  kept (PartHas s keys v) d a = of-within env new keeps (StandsAt env s keys) (StandsAt new s keys) (parts-alike env new keeps s d.0 keys) v d.1 a
  kept (ItemIn l i r) d a = of-result env new keeps (StandsAtIndex env l i) (StandsAtIndex new l i) (at-index-alike env new keeps l i d.0 d.1) r d.2 a
  kept (ItemHas l i v) d a = of-within env new keeps (StandsAtIndex env l i) (StandsAtIndex new l i) (at-index-alike env new keeps l i d.0 d.1) v d.2 a
  kept (MemberIn m k r) d a = of-result env new keeps (StandsAtKey env m k) (StandsAtKey new m k) (at-key-alike env new keeps m k d.0 d.1) r d.2 a
  kept (MemberHas m k v) d a = of-within env new keeps (StandsAtKey env m k) (StandsAtKey new m k) (at-key-alike env new keeps m k d.0 d.1) v d.2 a
  kept (HasField m name) d a = of-within env new keeps (HasMember name) (HasMember name) (own (HasMember name)) m d a
  kept (Ordered s t) d a =
      tells-alike env new keeps (IsNoString env s t) (IsNoString new s t)
      (either (both (ints s d.0) (ints t d.1)) (both (strings s d.0) (strings t d.1))) (λ x. both (either (shape-alike env new keeps s d.0 x) (shape-alike env new keeps t d.1 x)) itself) a
    where
      ints : (u : SemType) → IsDefined env u → IsWithin env IsInteger u ↔ IsWithin new IsInteger u
      ints u e = within-alike env new keeps IsInteger IsInteger (own IsInteger) u e

      strings : (u : SemType) → IsDefined env u → IsWithin env IsString u ↔ IsWithin new IsString u
      strings u e = within-alike env new keeps IsString IsString (own IsString) u e
  kept (Applies f args) d a =
      tells-alike env new keeps (FailsAt env f args) (FailsAt new f args) (neither (answer-kept env new keeps f args d.0 d.1 None))
      (λ x. (fails-back env new keeps f args d.0 d.1 x, fails-kept env new keeps f args d.0 d.1 x)) a
  kept (Gives f args r) d a = of-result env new keeps (MayGive env f args) (MayGive new f args) (gives-alike f args d.0 d.2) r d.1 a
  kept (GivesFuture f args r) d a =
      of-result env new keeps (IsFutureOf (MayGive env f args)) (IsFutureOf (MayGive new f args)) (future-alike (MayGive env f args) (MayGive new f args) (gives-alike f args d.0 d.2)) r d.1 a
  kept (FitsFields fields rest (k, v)) d a =
      tells-alike env new keeps (IsUnfit env fields rest (k, v)) (IsUnfit new fields rest (k, v)) (fits-alike env new keeps fields rest k v d.0 d.1 d.2 d.3) (unfit-alike env new keeps fields rest k v d.0 d.1 d.2 d.3) a
  kept (Names pairs name) d a =
      tells-alike env new keeps (λ x. x ≡ Str name) (λ x. x ≡ Str name)
      (any-alike (λ p. IsDefined env p.0) (λ p. IsSingle env p.0 (Str name)) (λ p. IsSingle new p.0 (Str name)) (λ p e. single-alike env new keeps p.0 e (Str name)) pairs d) (own (λ x. x ≡ Str name)) a
  kept (HasErrorsOf r pairs) d a =
      of-result env new keeps (IsErrorOf (IsDetailOf env pairs)) (IsErrorOf (IsDetailOf new pairs)) (error-alike (IsDetailOf env pairs) (IsDetailOf new pairs) (detail-alike env new keeps pairs d.1)) r d.0 a

pub answers-kept : AnswersKept
answers-kept env new keeps need d a = kept env new keeps need d a
