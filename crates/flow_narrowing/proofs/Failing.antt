-- Which shapes may belong to values that failed a test, from what was judged of each kind.
use Rattle.std.proofs.Common.{IfOk, Result, Ok, Err, ◌∙◌, ◌≡◌, ◌⊎◌, ◌↔◌, List, Bool, true, false, Some, None, ⊎_elim, inl, inr, refl, sym, subst}
use Rattle.std.specs.Prelude.{IsTrue}
use Rattle.bal_base.specs.declared.shape.Shape.{Shape, Nil, Bool as BoolShape, Int, Str, List', Mapping', Error', Function, Future'}
use Rattle.bal_base.specs.Valid.{IsValid}
use Rattle.bal_base.specs.declared.stop.Memory.{Memory as NoMemory}
use Rattle.bal_base.specs.declared.stop.Stop.{Stop}
use Rattle.checks.specs.Questions.{IsYes}
use Rattle.type_model.specs.declared.answers.TypeLimit.{TypeLimit}
use Rattle.type_model.specs.declared.answers.Answer.{Answer}
use Rattle.type_model.specs.declared.answers.Answer.TheVariants.{Yes, No}
use Rattle.type_model.specs.declared.atoms.AtomDef.{AtomDef}
use Rattle.type_model.specs.declared.basic.BasicSet.TheVariants.{ListAll, MappingAll, FunctionAll, FutureAll}
use Rattle.type_model.specs.declared.basic.SemType.{SemType, Basic, And'}
use Rattle.type_model.specs.declared.basic.Ty.{Ty}
use Rattle.type_model.specs.Basic.{InBasic}
use Rattle.type_model.specs.Inclusion.{AnswersSub, HaveSameShapes}
use Rattle.type_model.specs.Membership.{In}
use Rattle.type_model.specs.SameType.{IsSameType}
use Rattle.type_model.proofs.SameTypes.{In-same}
use Rattle.flow_narrowing.specs.declared.kind.Kind.{Kind}
use Rattle.flow_narrowing.specs.declared.kind.Kind.TheVariants as kind
use Rattle.descriptors.specs.Described.{HasMeaning}
use Rattle.flow_narrowing.specs.Asked.{IsBoth, IsNot, IsOpenPart, IsOpenSet, open_part, all_of}
use Rattle.flow_narrowing.specs.Judged.{IsFailing, IsJudged, Settles, kind_of}
use Rattle.flow_narrowing.specs.Narrowed.{LiesIn, Part, Lists, Mappings, Functions, Futures, WhereFalse, part_of}
use Rattle.flow_narrowing.proofs.Written.{both-in, in-unmarked, not-in, unmarked-in}

-- ---- the open part of a kind is what the question asks about

marked : (b : Bool) → b ≡ false → ¬ IsTrue b
marked true e h = cc
marked false e h = cc

is-unmarked : (b : Bool) → (¬ IsTrue b) → b ≡ false
is-unmarked true h = absurd (h refl)
is-unmarked false h = refl

same-mark : (Of : Bool → Part) (b : Bool) → b ≡ false → Of b ≡ Of false
same-mark Of b e = subst (λ c. Of b ≡ Of c) e refl

mark-of-lists : (b : Bool) → Lists b ≡ Lists false → b ≡ false
mark-of-lists b e = cc

mark-of-mappings : (b : Bool) → Mappings b ≡ Mappings false → b ≡ false
mark-of-mappings b e = cc

module _ (env : List AtomDef) where
  in-open : (k : Kind) (u : SemType) (x : Shape) → IsOpenSet k u → part_of x ≡ open_part k → In env x u
  in-open kind.Lists u (List' mark n items) is at = unmarked-in env (List' mark n items) ListAll u is tt (marked mark (mark-of-lists mark at))
  in-open kind.Mappings u (Mapping' mark n fields) is at = unmarked-in env (Mapping' mark n fields) MappingAll u is tt (marked mark (mark-of-mappings mark at))
  in-open kind.Functions u (Function isolated graph) is at = (In-same env (Function isolated graph) (Basic FunctionAll) u is).0 tt
  in-open kind.Futures u (Future' n results) is at = (In-same env (Future' n results) (Basic FutureAll) u is).0 tt
  in-open k u x is at = absurd (cc)

  of-open : (k : Kind) (u : SemType) (x : Shape) → IsOpenSet k u → In env x u → part_of x ≡ open_part k
  of-open kind.Lists u (List' mark n items) is h = same-mark Lists mark (is-unmarked mark (in-unmarked env (List' mark n items) ListAll u is h).1)
  of-open kind.Lists u x is h = absurd (in-unmarked env x ListAll u is h).0
  of-open kind.Mappings u (Mapping' mark n fields) is h = same-mark Mappings mark (is-unmarked mark (in-unmarked env (Mapping' mark n fields) MappingAll u is h).1)
  of-open kind.Mappings u x is h = absurd (in-unmarked env x MappingAll u is h).0
  of-open kind.Functions u (Function isolated graph) is h = refl
  of-open kind.Functions u x is h = absurd ((In-same env x (Basic FunctionAll) u is).1 h)
  of-open kind.Futures u (Future' _ results) is h = refl
  of-open kind.Futures u x is h = absurd ((In-same env x (Basic FutureAll) u is).1 h)

  module _ (s t : SemType) where
    in-part : (k : Kind) (u : SemType) (x : Shape) → IsOpenPart k s u → part_of x ≡ open_part k → In env x s → In env x u
    in-part k (And' _ a _ b) x is at h = ((In-same env x s a is.0).0 h, in-open k b x is.1 at)
    in-part k _ x is at h = absurd is

    of-part : (k : Kind) (u : SemType) (x : Shape) → IsOpenPart k s u → In env x u → (part_of x ≡ open_part k) × In env x s
    of-part k (And' _ a _ b) x is h = (of-open k b x is.1 h.1, (In-same env x s a is.0).1 h.0)
    of-part k _ x is h = absurd is

    -- what was answered of the part settles whether it lies in t
    pub settles : (k : Kind) (u : SemType) (answer : Answer) (b : Bool) → IsOpenPart k s u → AnswersSub env u t answer → IsYes answer b → Settles env s t k b
    settles k u Yes true is below e = λ x valid at h. below x valid (in-part k u x is at h)
    settles k u Yes false is below e = absurd (cc)
    settles k u (No x) true is outside e = absurd (cc)
    settles k u (No x) false is outside e = λ lies. let of = of-part k u x is outside.0.1 in outside.1 (lies x outside.0.0 of.0 of.1)

    -- ---- one kind

    pub judged-lies : (k : Kind) (u : SemType) → LiesIn env s t (open_part k) → IsJudged env s t k u u
    judged-lies k u lies = record { settled = inl lies; shapes = λ x. (λ h. inl h, ⊎_elim (λ h. h) (λ h. absurd (h.1 lies))) }

    all-kind : (k : Kind) (x : Shape) → InBasic x (all_of k) → kind_of x ≡ Some k
    all-kind kind.Lists (List' mark n items) h = refl
    all-kind kind.Mappings (Mapping' mark n fields) h = refl
    all-kind kind.Functions (Function isolated graph) h = refl
    all-kind kind.Futures (Future' _ results) h = refl
    all-kind k x h = absurd h

    kind-all : (k : Kind) (x : Shape) → kind_of x ≡ Some k → InBasic x (all_of k)
    kind-all kind.Lists (List' mark n items) e = tt
    kind-all kind.Mappings (Mapping' mark n fields) e = tt
    kind-all kind.Functions (Function isolated graph) e = tt
    kind-all kind.Futures (Future' _ results) e = tt
    kind-all k x e = absurd (cc)

    pub judged-fails : (k : Kind) (u w : SemType) (b : Bool) → b ≡ false → Settles env s t k b → ((x : Shape) → In env x w ↔ (In env x u ⊎ InBasic x (all_of k))) → IsJudged env s t k u w
    judged-fails k u w true e settled has = absurd (cc)
    judged-fails k u w false e fails has = record {
      settled = inr fails;
      shapes = λ x. (
        λ h. ⊎_elim (λ i. inl i) (λ i. inr (all-kind k x i, fails)) ((has x).0 h),
        λ h. (has x).1 (⊎_elim (λ i. inl i) (λ i. inr (kind-all k x i.0)) h),
      );
    }

-- ---- all kinds

pub then : {A B C : Type 0} → A ↔ B → B ↔ C → A ↔ C
then e f = (λ a. f.0 (e.0 a), λ c. e.1 (f.1 c))

or-same : {A B : Type 0} (F : Type 0) → A ↔ B → (A ⊎ F) ↔ (B ⊎ F)
or-same F e = (⊎_elim (λ a. inl (e.0 a)) (λ f. inr f), ⊎_elim (λ b. inl (e.1 b)) (λ f. inr f))

module _ (env : List AtomDef) (s t : SemType) where
  abbrev Fails : Kind → Type 0
  Fails k = ¬ LiesIn env s t (open_part k)

  other : (k : Kind) (u w : SemType) → IsJudged env s t k u w → (x : Shape) → ¬ (kind_of x ≡ Some k) → In env x w ↔ In env x u
  other k u w j x apart = (λ h. ⊎_elim (λ i. i) (λ i. absurd (apart i.0)) ((j.shapes x).0 h), λ h. (j.shapes x).1 (inl h))

  own : (k : Kind) (u w : SemType) → IsJudged env s t k u w → (x : Shape) → kind_of x ≡ Some k → In env x w ↔ (In env x u ⊎ Fails k)
  own k u w j x e = (λ h. ⊎_elim (λ i. inl i) (λ i. inr i.1) ((j.shapes x).0 h), λ h. (j.shapes x).1 (⊎_elim (λ i. inl i) (λ n. inr (e, n)) h))

  -- of a shape of an open part
  when-open : (p : Part) (x : Shape) → IsValid x → part_of x ≡ p → In env x s → ((¬ In env x t) ⊎ (¬ LiesIn env s t p)) ↔ (¬ LiesIn env s t p)
  when-open p x valid at h = (λ c. ⊎_elim (λ n lies. n (lies x valid at h)) (λ n. n) c, λ n. inr n)

  -- of a marked one
  when-marked : (p : Part) (x : Shape) → (LiesIn env s t p ⊎ (¬ LiesIn env s t p)) → ((¬ In env x t) ⊎ (¬ LiesIn env s t p)) ↔ (LiesIn env s t p → ¬ In env x t)
  when-marked p x settled = (
    λ c. ⊎_elim (λ n lies. n) (λ n lies. absurd (n lies)) c,
    λ f. ⊎_elim (λ lies. inl (f lies)) (λ n. inr n) settled,
  )

  module _ (a b c d e : SemType) (negated : IsNot (IsSameType t) a) (lists : IsJudged env s t kind.Lists a b) (mappings : IsJudged env s t kind.Mappings b c)
      (functions : IsJudged env s t kind.Functions c d) (futures : IsJudged env s t kind.Futures d e) where
    not-t : (x : Shape) → In env x a ↔ (¬ In env x t)
    not-t x = not-in env x t a negated

    or-not : (x : Shape) (F : Type 0) → (In env x a ⊎ F) ↔ ((¬ In env x t) ⊎ F)
    or-not x F = (⊎_elim (λ h. inl ((not-t x).0 h)) (λ f. inr f), ⊎_elim (λ h. inl ((not-t x).1 h)) (λ f. inr f))

    of-plain : (x : Shape) → kind_of x ≡ None → In env x e ↔ (¬ In env x t)
    of-plain x is =
        then (other kind.Futures d e futures x (λ k. cc)) (then (other kind.Functions c d functions x (λ k. cc))
        (then (other kind.Mappings b c mappings x (λ k. cc)) (then (other kind.Lists a b lists x (λ k. cc)) (not-t x))))

    of-lists : (x : Shape) → kind_of x ≡ Some kind.Lists → In env x e ↔ ((¬ In env x t) ⊎ Fails kind.Lists)
    of-lists x is =
        then (other kind.Futures d e futures x (λ k. cc)) (then (other kind.Functions c d functions x (λ k. cc))
        (then (other kind.Mappings b c mappings x (λ k. cc)) (then (own kind.Lists a b lists x is) (or-not x (Fails kind.Lists)))))

    of-mappings : (x : Shape) → kind_of x ≡ Some kind.Mappings → In env x e ↔ ((¬ In env x t) ⊎ Fails kind.Mappings)
    of-mappings x is =
        then (other kind.Futures d e futures x (λ k. cc)) (then (other kind.Functions c d functions x (λ k. cc))
        (then (own kind.Mappings b c mappings x is) (or-same (Fails kind.Mappings) (then (other kind.Lists a b lists x (λ k. cc)) (not-t x)))))

    of-functions : (x : Shape) → kind_of x ≡ Some kind.Functions → In env x e ↔ ((¬ In env x t) ⊎ Fails kind.Functions)
    of-functions x is =
        then (other kind.Futures d e futures x (λ k. cc))
        (then (own kind.Functions c d functions x is) (or-same (Fails kind.Functions)
        (then (other kind.Mappings b c mappings x (λ k. cc)) (then (other kind.Lists a b lists x (λ k. cc)) (not-t x)))))

    of-futures : (x : Shape) → kind_of x ≡ Some kind.Futures → In env x e ↔ ((¬ In env x t) ⊎ Fails kind.Futures)
    of-futures x is =
        then (own kind.Futures d e futures x is) (or-same (Fails kind.Futures)
        (then (other kind.Functions c d functions x (λ k. cc))
        (then (other kind.Mappings b c mappings x (λ k. cc)) (then (other kind.Lists a b lists x (λ k. cc)) (not-t x)))))

    pub all-judged : IsFailing env s t e
    all-judged Nil valid h = of-plain Nil refl
    all-judged (BoolShape v) valid h = of-plain (BoolShape v) refl
    all-judged (Int v) valid h = of-plain (Int v) refl
    all-judged (Str v) valid h = of-plain (Str v) refl
    all-judged (List' false n items) valid h = then (of-lists (List' false n items) refl) (when-open (Lists false) (List' false n items) valid refl h)
    all-judged (List' true n items) valid h = then (of-lists (List' true n items) refl) (when-marked (Lists false) (List' true n items) lists.settled)
    all-judged (Mapping' false n fields) valid h = then (of-mappings (Mapping' false n fields) refl) (when-open (Mappings false) (Mapping' false n fields) valid refl h)
    all-judged (Mapping' true n fields) valid h = then (of-mappings (Mapping' true n fields) refl) (when-marked (Mappings false) (Mapping' true n fields) mappings.settled)
    all-judged (Error' n detail) valid h = of-plain (Error' n detail) refl
    all-judged (Function isolated graph) valid h = then (of-functions (Function isolated graph) refl) (when-open Functions (Function isolated graph) valid refl h)
    all-judged (Future' n results) valid h = then (of-futures (Future' n results) refl) (when-open Futures (Future' n results) valid refl h)

-- the same, where the calls were made over atoms that are equal
pub failing-from : (m0 m1 m2 m3 : List AtomDef) (s t a b c d : SemType) (r : Result SemType (Stop TypeLimit)) → m1 ≡ m0 → m2 ≡ m1 → m3 ≡ m2
    → IsNot (IsSameType t) a → IsJudged m0 s t kind.Lists a b → IsJudged m1 s t kind.Mappings b c → IsJudged m2 s t kind.Functions c d
    → IfOk r (IsJudged m3 s t kind.Futures d) → IfOk r (IsFailing m0 s t)
failing-from m0 m1 m2 m3 s t a b c d (Ok u) e1 e2 e3 negated lists mappings functions futures =
    all-judged m0 s t a b c d u negated lists (subst (λ m. IsJudged m s t kind.Mappings b c) e1 mappings)
    (subst (λ m. IsJudged m s t kind.Functions c d) (e2 ∙ e1) functions) (subst (λ m. IsJudged m s t kind.Futures d u) (e3 ∙ e2 ∙ e1) futures)
failing-from m0 m1 m2 m3 s t a b c d (Err stop) e1 e2 e3 negated lists mappings functions futures = tt

-- ---- the types that are given

module _ (env : List AtomDef) (s t u c : SemType) (choices : Ty) where
  both-written : IsBoth (IsSameType s) (IsSameType t) u → HaveSameShapes env c u
      → HasMeaning (λ x. In env x s × In env x t) choices.lists choices.maps env (record { sem = c; lists = choices.lists; maps = choices.maps })
  both-written is same = record {
    shapes = λ x valid. then (same x valid) (both-in env x s t u is);
    lists = refl;
    maps = refl;
  }

-- ---- what the calls give

pub gives-both : (m : List AtomDef) (s t u c : SemType) (choices : Ty) (r : Result Ty NoMemory) → IsBoth (IsSameType s) (IsSameType t) u → HaveSameShapes m c u
    → IfOk r (λ v. v ≡ record { sem = c; lists = choices.lists; maps = choices.maps })
    → IfOk r (HasMeaning (λ x. In m x s × In m x t) choices.lists choices.maps m)
gives-both m s t u c choices (Ok v) is same e = subst (HasMeaning (λ x. In m x s × In m x t) choices.lists choices.maps m) (sym e) (both-written m s t u c choices is same)
gives-both m s t u c choices (Err stop) is same e = tt

where-false : (m : List AtomDef) (s t v : Ty) (f : SemType) → IsFailing m s.sem t.sem f → HasMeaning (λ x. In m x s.sem × In m x f) s.lists s.maps m v
    → WhereFalse m s t v
where-false m s t v f failing is = record {
  shapes = λ x valid. (
    λ h. let both = (is.shapes x valid).0 h in (both.0, (failing x valid both.0).0 both.1),
    λ h. (is.shapes x valid).1 (h.0, (failing x valid h.0).1 h.1),
  );
  lists = is.lists;
  maps = is.maps;
}

pub gives-false : (m m1 : List AtomDef) (s t v : Ty) (f : SemType) → m1 ≡ m → IsFailing m s.sem t.sem f
    → HasMeaning (λ x. In m1 x s.sem × In m1 x f) s.lists s.maps m1 v → WhereFalse m s t v
gives-false m m1 s t v f at failing is =
    where-false m s t v f failing (subst (λ n. HasMeaning (λ x. In n x s.sem × In n x f) s.lists s.maps n v) at is)
