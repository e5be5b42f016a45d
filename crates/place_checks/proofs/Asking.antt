-- The needs of a place, asked as questions over atoms that were added since.
use Rattle.std.proofs.Common.{◌≡◌, ◌∙◌, ◌<◌, ◌+◌, ℕ, zero, suc, Bool, true, false, List, [], ◌∷◌, ◌++◌, Option, Some, None, IsSome, All, Contains, IfSome, arith, ap, get_or, length, if◌then◌else◌, refl, slice_get, subst, sym}
use Rattle.std.specs.List.{flat_map}
use Rattle.std.proofs.lemmas.List.Elements.{All-cons, All-contains, All-head, All-nil, All-tail}
use Rattle.bal_base.specs.declared.shape.Shape.{Shape}
use Rattle.type_model.specs.declared.answers.Answer.TheVariants.{Yes, No}
use Rattle.type_model.specs.declared.atoms.AtomDef.{AtomDef}
use Rattle.type_model.specs.declared.basic.SemType.{SemType, Atom}
use Rattle.type_model.specs.declared.basic.Ty.{Ty}
use Rattle.type_model.specs.Calls.{KeepsTypes}
use Rattle.type_model.specs.Defined.{IsDefined}
use Rattle.type_model.specs.Inclusion.{HasExactly}
use Rattle.stack_code.specs.declared.code.Code.{Code}
use Rattle.stack_code.specs.declared.code.Unit.{Unit as CodeUnit}
use Rattle.stack_code.specs.Places.{Station}
use Rattle.code_needs.specs.Combining.{AreMet, Needs, ◌&◌, nothing}
use Rattle.code_needs.specs.Needs.{IsMet, Need, Below, Within, Has, HasConstant, HasBoth, HasMade, PartIn, PartHas, ItemIn, ItemHas, MemberIn, MemberHas, HasField, Ordered, Applies, Gives, GivesFuture, FitsFields, Names, HasErrorsOf}
use Rattle.code_needs.specs.PlaceNeeds.{place_needs}
use Rattle.code_verifier.specs.declared.kind_types.KnownTypes.{KnownTypes}
use Rattle.code_verifier.specs.Asked.{IsAgainst}
use Rattle.code_verifier.specs.KindSets.{AreKnown}
use Rattle.atom_questions.specs.Kept.{AnswersKept, NeedDefined}
use Rattle.need_questions.specs.declared.question.NeedQuestion.{NeedQuestion}
use Rattle.need_questions.specs.NeedsAsked.{AnswersNeeds, AreAnswered, IsAskableNeed, NeedsMet, needs_of}
use Rattle.needs_of_rows.specs.declared.found.Found.{Found}
use Rattle.needs_of_rows.specs.Finding.{Finds, needs_in}
use Rattle.needs_of_commands.specs.Askable.{HasDefined, MakesCallable, MayBeAsked}
use Rattle.needs_of_commands.specs.Laws.{PlaceNeedsMayBeAsked, QuestionsMayBeAsked}

-- ---- what was found

nothing-and : (n : Needs) → nothing & n ≡ n
nothing-and (Some xs) = refl
nothing-and None = refl

empty-in : (f : Found) → f.questions.items ≡ [] → f.refused ≡ false → needs_in f ≡ nothing
empty-in f qs passed = λ i. if passed i then None else Some (flat_map needs_of (qs i))

pub found-all : (needs : Needs) (old new : Found) → old.questions.items ≡ [] → old.refused ≡ false → Finds needs old new → new.full ≡ false → needs_in new ≡ needs
found-all needs old new qs passed finds full = (finds.more full).1 ∙ ap (λ n. n & needs) (empty-in old qs passed) ∙ nothing-and needs

pub may-of : (P : Need → Type 0) (f : Found) → f.refused ≡ false → IfSome (needs_in f) (All P) → All P (flat_map needs_of f.questions.items)
may-of P f passed may = subst (λ (n : Needs). IfSome n (All P)) (λ i. if passed i then None else Some (flat_map needs_of f.questions.items)) may

-- ---- needs of several questions

all-both : {A : Type 0} (P : A → Type 0) (xs ys : List A) → All P xs → All P ys → All P (xs ++ ys)
all-both P [] ys a b = b
all-both P (x ∷ xs) ys a b = All-cons P x (xs ++ ys) (All-head P x xs a) (all-both P xs ys (All-tail P x xs a) b)

all-flat : (P : Need → Type 0) (qs : List NeedQuestion) → All (λ q. All P (needs_of q)) qs → All P (flat_map needs_of qs)
all-flat P [] h = All-nil P
all-flat P (q ∷ qs) h = all-both P (needs_of q) (flat_map needs_of qs) (All-head (λ q. All P (needs_of q)) q qs h) (all-flat P qs (All-tail (λ q. All P (needs_of q)) q qs h))

in-front : {A : Type 0} (xs ys : List A) (k : ℕ) (x : A) → slice_get xs k ≡ Some x → slice_get (xs ++ ys) k ≡ Some x
in-front [] ys k x e = absurd (let bad : None ≡ Some x = e in let bot : ⊥ = cc in bot)
in-front (y ∷ xs) ys zero x e = e
in-front (y ∷ xs) ys (suc k) x e = in-front xs ys k x e

behind : {A : Type 0} (xs ys : List A) (k : ℕ) (x : A) → slice_get ys k ≡ Some x → (i : ℕ) × (slice_get (xs ++ ys) i ≡ Some x)
behind [] ys k x e = (k, e)
behind (y ∷ xs) ys k x e = let (i, is) = behind xs ys k x e in (suc i, is)

in-flat : (qs : List NeedQuestion) (k : ℕ) (q : NeedQuestion) (j : ℕ) (need : Need) → slice_get qs k ≡ Some q → slice_get (needs_of q) j ≡ Some need
    → (i : ℕ) × (slice_get (flat_map needs_of qs) i ≡ Some need)
in-flat [] k q j need e at = absurd (let bad : None ≡ Some q = e in let bot : ⊥ = cc in bot)
in-flat (r ∷ qs) zero q j need e at = (j, in-front (needs_of r) (flat_map needs_of qs) j need (subst (λ (o : Option NeedQuestion). at-of o) (sym e) at))
  where
    at-of : Option NeedQuestion → Type 0
    at-of (Some p) = slice_get (needs_of p) j ≡ Some need
    at-of None = ⊥
in-flat (r ∷ qs) (suc k) q j need e at = let (i, is) = in-flat qs k q j need e at in behind (needs_of r) (flat_map needs_of qs) i need is

-- ---- where atoms are added

module _ (env new : List AtomDef) (keeps : KeepsTypes env new) where
  all-kept : (ts : List SemType) → All (IsDefined env) ts → All (IsDefined new) ts
  all-kept ts d k t lt = keeps.defined (get_or ts k t) (d k t lt)

  rest-kept : (rest : Option Ty) → IfSome rest (λ t. IsDefined env t.sem) → IfSome rest (λ t. IsDefined new t.sem)
  rest-kept (Some t) d = keeps.defined t.sem d
  rest-kept None d = tt

  defined-kept : (need : Need) → NeedDefined env need → NeedDefined new need
  defined-kept (Below s t) d = (keeps.defined s d.0, keeps.defined t d.1)
  defined-kept (Within s kind) d = keeps.defined s d
  defined-kept (Has r kind) d = keeps.defined r d
  defined-kept (HasConstant r c) d = keeps.defined r d
  defined-kept (HasBoth r s t) d = (keeps.defined r d.0, keeps.defined s d.1, keeps.defined t d.2)
  defined-kept (HasMade r atom immutable) d = (keeps.defined r d.0, keeps.defined (Atom atom) d.1)
  defined-kept (PartIn s keys r) d = (keeps.defined s d.0, keeps.defined r d.1)
  defined-kept (PartHas s keys v) d = (keeps.defined s d.0, keeps.defined v d.1)
  defined-kept (ItemIn l i r) d = (keeps.defined l d.0, keeps.defined i d.1, keeps.defined r d.2)
  defined-kept (ItemHas l i v) d = (keeps.defined l d.0, keeps.defined i d.1, keeps.defined v d.2)
  defined-kept (MemberIn m k r) d = (keeps.defined m d.0, keeps.defined k d.1, keeps.defined r d.2)
  defined-kept (MemberHas m k v) d = (keeps.defined m d.0, keeps.defined k d.1, keeps.defined v d.2)
  defined-kept (HasField m name) d = keeps.defined m d
  defined-kept (Ordered a b) d = (keeps.defined a d.0, keeps.defined b d.1)
  defined-kept (Applies f args) d = (keeps.defined f d.0, all-kept args d.1)
  defined-kept (Gives f args r) d = (keeps.defined f d.0, keeps.defined r d.1, all-kept args d.2)
  defined-kept (GivesFuture f args r) d = (keeps.defined f d.0, keeps.defined r d.1, all-kept args d.2)
  defined-kept (FitsFields fields rest pair) d =
      (keeps.defined pair.0 d.0, keeps.defined pair.1 d.1, rest-kept rest d.2, (λ k f lt. keeps.defined (get_or fields k f).ty.sem (d.3 k f lt)))
  defined-kept (Names pairs name) d = λ k p lt. keeps.defined (get_or pairs k p).0 (d k p lt)
  defined-kept (HasErrorsOf r pairs) d = (keeps.defined r d.0, (λ k p lt. (keeps.defined (get_or pairs k p).0 (d.1 k p lt).0, keeps.defined (get_or pairs k p).1 (d.1 k p lt).1)))

  exactly-kept : (t : SemType) (P : Shape → Type 0) → IsDefined env t → HasExactly env t P → HasExactly new t P
  exactly-kept t P d h x v = let same = keeps.shapes t d x in ((λ i. (h x v).0 (same.1 i)), (λ p. same.0 ((h x v).1 p)))

  pub known-kept : (known : KnownTypes) → AreKnown env known → AreKnown new known
  known-kept known h = record {
    anydata = exactly-kept known.anydata _ h.anydata_defined h.anydata;
    anydata_defined = keeps.defined known.anydata h.anydata_defined;
    sendable = exactly-kept known.sendable _ h.sendable_defined h.sendable;
    sendable_defined = keeps.defined known.sendable h.sendable_defined;
  }

  -- the questions may be asked over the new ones too
  pub askable : QuestionsMayBeAsked → (qs : List NeedQuestion) → All (MayBeAsked env) (flat_map needs_of qs) → All (IsAskableNeed new) qs
  askable law qs h = law new qs (λ k need lt. (defined-kept (get_or (flat_map needs_of qs) k need) (h k need lt).0, (h k need lt).1))

  pub may-kept : (needs : Needs) → IfSome needs (All (MayBeAsked env)) → IfSome needs (All (MayBeAsked new))
  may-kept (Some ns) h = λ k need lt. (defined-kept (get_or ns k need) (h k need lt).0, (h k need lt).1)
  may-kept None h = tt

  -- ---- what is answered

  module _ (kept : AnswersKept) (qs : List NeedQuestion) (may : All (MayBeAsked env) (flat_map needs_of qs)) where
    pub all-met : AreAnswered new qs None → All (IsMet env) (flat_map needs_of qs)
    all-met h k need lt =
        let all = flat_map needs_of qs in (kept env new keeps (get_or all k need) (may k need lt).0 Yes).1 (all-flat (IsMet new) qs h k need lt)

    is-there : (ns : List Need) (k : ℕ) (need : Need) → slice_get ns k ≡ Some need → Contains ns need
    is-there [] k need e = absurd (let bad : None ≡ Some need = e in let bot : ⊥ = cc in bot)
    is-there (n ∷ ns) zero need e = (0, omega arith, of-some n need e)
      where
        of-some : (a b : Need) → Some a ≡ Some b → a ≡ b
        of-some a b i = ap (λ o. or-else o a) i
          where
            or-else : Option Need → Need → Need
            or-else (Some x) d = x
            or-else None d = d
    is-there (n ∷ ns) (suc k) need e = let (i, lt, is) = is-there ns k need e in (suc i, omega (arith, lt), is)

    -- one of all these needs, which isn't met
    abbrev pub Unmet : Shape → Type 0
    Unmet x = (need : Need) × Contains (flat_map needs_of qs) need × IsAgainst env need x × (¬ (IsMet env need))

    pub one-unmet : (x : Shape) → AreAnswered new qs (Some x) → Unmet x
    one-unmet x (k, q, at, before, (j, need, here, earlier, against, unmet)) =
        let (i, is) = in-flat qs k q j need at here in
        let there = is-there (flat_map needs_of qs) i need is in
        let back = (kept env new keeps need (All-contains (MayBeAsked env) (flat_map needs_of qs) need may there).0 (No x)).1 (against, unmet) in
        (need, there, back.0, back.1)

-- ---- the needs of a place

pub may-here : PlaceNeedsMayBeAsked → (code : Code) (u : CodeUnit) (station : Station) (p : ℕ) → HasDefined code → (n : ℕ) × (slice_get code.units n ≡ Some u) → MakesCallable code p → (needs : Needs) → needs ≡ place_needs code u station p
    → IfSome needs (All (MayBeAsked code.atoms))
may-here law code u station p defined (n, there) callable (Some ns) e = law code n u station p ns defined there callable (sym e)
may-here law code u station p defined there callable None e = tt

-- ---- types that stay as they are

pub stays : (env new : List AtomDef) → new ≡ env → KeepsTypes env new
stays env new e = subst (λ (ds : List AtomDef). KeepsTypes env ds) (sym e) (record { defined = λ t d. d; shapes = λ t d x. ((λ i. i), (λ i. i)) })
