-- Membership of shapes of a kind is the type's condition for the kind on what the shape says.
use Rattle.std.proofs.Common.{◌≡◌, ◌↔◌, ℕ, ◌<◌, ◌≤◌, ◌==◌, List, length, Bool, true, false, ◌&&◌, Option, Some, None, IsSomeAnd, MatchBool, slice_get, refl, subst, arith}
use Rattle.std.proofs.lemmas.Bool.{false≢true, eqb-true}
use Rattle.std.proofs.lemmas.Option.{slice_get_within}
use Rattle.bal_base.specs.declared.shape.Shape.{Shape, Nil, Bool as BoolShape, Int, Str, List', Mapping', Error', Function, Future'}
use Rattle.type_model.specs.declared.basic.BasicSet.{BasicSet}
use Rattle.type_model.specs.declared.basic.BasicSet.TheVariants.{Nil as NilOnly, Bool as BoolOne, IntRange, StringOne, StringAll, ListAll, MappingAll, ErrorAll, FunctionAll, FutureAll, Readonly, Never}
use Rattle.type_model.specs.declared.basic.SemType.{SemType, Atom}
use Rattle.type_model.specs.declared.atoms.AtomDef.{AtomDef}
use Rattle.type_model.specs.declared.atoms.AtomDef.TheVariants.{List as ListAtom, Mapping as MappingAtom, Arrow, Error as ErrorAtom, Future as FutureAtom}
use Rattle.type_model.specs.Basic.{InBasic}
use Rattle.type_model.specs.Membership.{In, Fits}
use Rattle.type_diagrams.specs.declared.kind.Kind.{Kind}
use Rattle.type_diagrams.specs.declared.kind.Kind.TheVariants.{List as Lists, Mapping as Mappings, Error as Errors, Function as Functions, Future as Futures}
use Rattle.type_diagrams.specs.Kinds.{IsOfKind, IsMarked, Says, the_mark}
use Rattle.type_diagrams.specs.Conditions.{has_kind, is_def_of, condition_of}
use Rattle.type_diagrams.proofs.Truths.{neither, sure, truth-Holds}

by_bool : (x : Bool) → (x ≡ true → ⊥) → x ≡ false
by_bool true f = absurd (f refl)
by_bool false f = refl

swap : {A B : Type 0} → A ↔ B → B ↔ A
swap e = (λ b. e.1 b, λ a. e.0 a)

for_kind : (P : Kind → Type 0) (j k : Kind) → Some j ≡ Some k → P j → P k
for_kind P j k e h = let same : j ≡ k = cc in subst P same h

-- the basic sets that have a shape are those that have its kind, given its mark
abbrev Same : Shape → Bool → BasicSet → Kind → Type 0
Same x m b k = InBasic x b ↔ (has_kind k m b ≡ true)

basic_case : (k : Kind) (x : Shape) (m : Bool) → IsOfKind k x → (m ≡ true) ↔ IsMarked x → (b : BasicSet) → Same x m b k
basic_case k (List' mark s items) m i e NilOnly = for_kind (Same (List' mark s items) m NilOnly) Lists k i neither
basic_case k (List' mark s items) m i e (BoolOne c) = for_kind (Same (List' mark s items) m (BoolOne c)) Lists k i neither
basic_case k (List' mark s items) m i e (IntRange low high) = for_kind (Same (List' mark s items) m (IntRange low high)) Lists k i neither
basic_case k (List' mark s items) m i e (StringOne u) = for_kind (Same (List' mark s items) m (StringOne u)) Lists k i neither
basic_case k (List' mark s items) m i e StringAll = for_kind (Same (List' mark s items) m StringAll) Lists k i neither
basic_case k (List' mark s items) m i e ListAll = for_kind (Same (List' mark s items) m ListAll) Lists k i (sure tt)
basic_case k (List' mark s items) m i e MappingAll = for_kind (Same (List' mark s items) m MappingAll) Lists k i neither
basic_case k (List' mark s items) m i e ErrorAll = for_kind (Same (List' mark s items) m ErrorAll) Lists k i neither
basic_case k (List' mark s items) m i e FunctionAll = for_kind (Same (List' mark s items) m FunctionAll) Lists k i neither
basic_case k (List' mark s items) m i e FutureAll = for_kind (Same (List' mark s items) m FutureAll) Lists k i neither
basic_case k (List' mark s items) m i e Readonly = for_kind (Same (List' mark s items) m Readonly) Lists k i (λ h. e.1 h, λ h. e.0 h)
basic_case k (List' mark s items) m i e Never = for_kind (Same (List' mark s items) m Never) Lists k i neither
basic_case k (Mapping' mark s fields) m i e NilOnly = for_kind (Same (Mapping' mark s fields) m NilOnly) Mappings k i neither
basic_case k (Mapping' mark s fields) m i e (BoolOne c) = for_kind (Same (Mapping' mark s fields) m (BoolOne c)) Mappings k i neither
basic_case k (Mapping' mark s fields) m i e (IntRange low high) = for_kind (Same (Mapping' mark s fields) m (IntRange low high)) Mappings k i neither
basic_case k (Mapping' mark s fields) m i e (StringOne u) = for_kind (Same (Mapping' mark s fields) m (StringOne u)) Mappings k i neither
basic_case k (Mapping' mark s fields) m i e StringAll = for_kind (Same (Mapping' mark s fields) m StringAll) Mappings k i neither
basic_case k (Mapping' mark s fields) m i e ListAll = for_kind (Same (Mapping' mark s fields) m ListAll) Mappings k i neither
basic_case k (Mapping' mark s fields) m i e MappingAll = for_kind (Same (Mapping' mark s fields) m MappingAll) Mappings k i (sure tt)
basic_case k (Mapping' mark s fields) m i e ErrorAll = for_kind (Same (Mapping' mark s fields) m ErrorAll) Mappings k i neither
basic_case k (Mapping' mark s fields) m i e FunctionAll = for_kind (Same (Mapping' mark s fields) m FunctionAll) Mappings k i neither
basic_case k (Mapping' mark s fields) m i e FutureAll = for_kind (Same (Mapping' mark s fields) m FutureAll) Mappings k i neither
basic_case k (Mapping' mark s fields) m i e Readonly = for_kind (Same (Mapping' mark s fields) m Readonly) Mappings k i (λ h. e.1 h, λ h. e.0 h)
basic_case k (Mapping' mark s fields) m i e Never = for_kind (Same (Mapping' mark s fields) m Never) Mappings k i neither
basic_case k (Error' s detail) m i e NilOnly = for_kind (Same (Error' s detail) m NilOnly) Errors k i neither
basic_case k (Error' s detail) m i e (BoolOne c) = for_kind (Same (Error' s detail) m (BoolOne c)) Errors k i neither
basic_case k (Error' s detail) m i e (IntRange low high) = for_kind (Same (Error' s detail) m (IntRange low high)) Errors k i neither
basic_case k (Error' s detail) m i e (StringOne u) = for_kind (Same (Error' s detail) m (StringOne u)) Errors k i neither
basic_case k (Error' s detail) m i e StringAll = for_kind (Same (Error' s detail) m StringAll) Errors k i neither
basic_case k (Error' s detail) m i e ListAll = for_kind (Same (Error' s detail) m ListAll) Errors k i neither
basic_case k (Error' s detail) m i e MappingAll = for_kind (Same (Error' s detail) m MappingAll) Errors k i neither
basic_case k (Error' s detail) m i e ErrorAll = for_kind (Same (Error' s detail) m ErrorAll) Errors k i (sure tt)
basic_case k (Error' s detail) m i e FunctionAll = for_kind (Same (Error' s detail) m FunctionAll) Errors k i neither
basic_case k (Error' s detail) m i e FutureAll = for_kind (Same (Error' s detail) m FutureAll) Errors k i neither
basic_case k (Error' s detail) m i e Readonly = for_kind (Same (Error' s detail) m Readonly) Errors k i (sure tt)
basic_case k (Error' s detail) m i e Never = for_kind (Same (Error' s detail) m Never) Errors k i neither
basic_case k (Function isolated graph) m i e NilOnly = for_kind (Same (Function isolated graph) m NilOnly) Functions k i neither
basic_case k (Function isolated graph) m i e (BoolOne c) = for_kind (Same (Function isolated graph) m (BoolOne c)) Functions k i neither
basic_case k (Function isolated graph) m i e (IntRange low high) = for_kind (Same (Function isolated graph) m (IntRange low high)) Functions k i neither
basic_case k (Function isolated graph) m i e (StringOne u) = for_kind (Same (Function isolated graph) m (StringOne u)) Functions k i neither
basic_case k (Function isolated graph) m i e StringAll = for_kind (Same (Function isolated graph) m StringAll) Functions k i neither
basic_case k (Function isolated graph) m i e ListAll = for_kind (Same (Function isolated graph) m ListAll) Functions k i neither
basic_case k (Function isolated graph) m i e MappingAll = for_kind (Same (Function isolated graph) m MappingAll) Functions k i neither
basic_case k (Function isolated graph) m i e ErrorAll = for_kind (Same (Function isolated graph) m ErrorAll) Functions k i neither
basic_case k (Function isolated graph) m i e FunctionAll = for_kind (Same (Function isolated graph) m FunctionAll) Functions k i (sure tt)
basic_case k (Function isolated graph) m i e FutureAll = for_kind (Same (Function isolated graph) m FutureAll) Functions k i neither
basic_case k (Function isolated graph) m i e Readonly = for_kind (Same (Function isolated graph) m Readonly) Functions k i (sure tt)
basic_case k (Function isolated graph) m i e Never = for_kind (Same (Function isolated graph) m Never) Functions k i neither
basic_case k (Future' s results) m i e NilOnly = for_kind (Same (Future' s results) m NilOnly) Futures k i neither
basic_case k (Future' s results) m i e (BoolOne c) = for_kind (Same (Future' s results) m (BoolOne c)) Futures k i neither
basic_case k (Future' s results) m i e (IntRange low high) = for_kind (Same (Future' s results) m (IntRange low high)) Futures k i neither
basic_case k (Future' s results) m i e (StringOne u) = for_kind (Same (Future' s results) m (StringOne u)) Futures k i neither
basic_case k (Future' s results) m i e StringAll = for_kind (Same (Future' s results) m StringAll) Futures k i neither
basic_case k (Future' s results) m i e ListAll = for_kind (Same (Future' s results) m ListAll) Futures k i neither
basic_case k (Future' s results) m i e MappingAll = for_kind (Same (Future' s results) m MappingAll) Futures k i neither
basic_case k (Future' s results) m i e ErrorAll = for_kind (Same (Future' s results) m ErrorAll) Futures k i neither
basic_case k (Future' s results) m i e FunctionAll = for_kind (Same (Future' s results) m FunctionAll) Futures k i neither
basic_case k (Future' s results) m i e FutureAll = for_kind (Same (Future' s results) m FutureAll) Futures k i (sure tt)
basic_case k (Future' s results) m i e Readonly = for_kind (Same (Future' s results) m Readonly) Futures k i neither
basic_case k (Future' s results) m i e Never = for_kind (Same (Future' s results) m Never) Futures k i neither
basic_case k Nil m i e b = cc
basic_case k (BoolShape c) m i e b = cc
basic_case k (Int n) m i e b = cc
basic_case k (Str t) m i e b = cc

module _ (env : List AtomDef) where
  -- a shape fits only definitions of its kind
  abbrev IsDef : AtomDef → Kind → Type 0
  IsDef d k = is_def_of k (Some d) ≡ true

  of_kind : (k : Kind) (x : Shape) → IsOfKind k x → (d : AtomDef) → Fits env x d → IsDef d k
  of_kind k (List' mark _ items) i (ListAtom fixed rest) h = for_kind (IsDef (ListAtom fixed rest)) Lists k i refl
  of_kind k (List' mark _ items) i (MappingAtom fields rest) h = absurd h
  of_kind k (List' mark _ items) i (ErrorAtom detail) h = absurd h
  of_kind k (List' mark _ items) i (Arrow args outcome alone) h = absurd h
  of_kind k (List' mark _ items) i (FutureAtom outcome) h = absurd h
  of_kind k (Mapping' mark _ members) i (ListAtom fixed rest) h = absurd h
  of_kind k (Mapping' mark _ members) i (MappingAtom fields rest) h = for_kind (IsDef (MappingAtom fields rest)) Mappings k i refl
  of_kind k (Mapping' mark _ members) i (ErrorAtom detail) h = absurd h
  of_kind k (Mapping' mark _ members) i (Arrow args outcome alone) h = absurd h
  of_kind k (Mapping' mark _ members) i (FutureAtom outcome) h = absurd h
  of_kind k (Error' _ part) i (ListAtom fixed rest) h = absurd h
  of_kind k (Error' _ part) i (MappingAtom fields rest) h = absurd h
  of_kind k (Error' _ part) i (ErrorAtom detail) h = for_kind (IsDef (ErrorAtom detail)) Errors k i refl
  of_kind k (Error' _ part) i (Arrow args outcome alone) h = absurd h
  of_kind k (Error' _ part) i (FutureAtom outcome) h = absurd h
  of_kind k (Function isolated graph) i (ListAtom fixed rest) h = absurd h
  of_kind k (Function isolated graph) i (MappingAtom fields rest) h = absurd h
  of_kind k (Function isolated graph) i (ErrorAtom detail) h = absurd h
  of_kind k (Function isolated graph) i (Arrow args outcome alone) h = for_kind (IsDef (Arrow args outcome alone)) Functions k i refl
  of_kind k (Function isolated graph) i (FutureAtom outcome) h = absurd h
  of_kind k (Future' _ results) i (ListAtom fixed rest) h = absurd h
  of_kind k (Future' _ results) i (MappingAtom fields rest) h = absurd h
  of_kind k (Future' _ results) i (ErrorAtom detail) h = absurd h
  of_kind k (Future' _ results) i (Arrow args outcome alone) h = absurd h
  of_kind k (Future' _ results) i (FutureAtom outcome) h = for_kind (IsDef (FutureAtom outcome)) Futures k i refl
  of_kind k Nil i d h = absurd h
  of_kind k (BoolShape c) i d h = absurd h
  of_kind k (Int n) i d h = absurd h
  of_kind k (Str t) i d h = absurd h

  at_atom : (k : Kind) (x : Shape) → IsOfKind k x → (o : Option AtomDef) → IsSomeAnd o (Fits env x) → is_def_of k o ≡ true
  at_atom k x i (Some d) h = of_kind k x i d h
  at_atom k x i None h = absurd h

  only_where : {A : Type 0} (b y : Bool) → (A → b ≡ true) → (b ≡ true → A ↔ (y ≡ true)) → A ↔ ((b && y) ≡ true)
  only_where true y f p = p refl
  only_where false y f p = (λ a. f a, λ h. absurd (false≢true h))

  module _ (small : length env ≤ the_mark) (k : Kind) (x : Shape) (v : ℕ → Bool) (i : IsOfKind k x) (says : Says env x v) where
    below : (a : ℕ) (o : Option AtomDef) → slice_get env a ≡ o → is_def_of k o ≡ true → a < the_mark
    below a None e h = absurd (false≢true h)
    below a (Some d) e h = omega (arith, small, slice_get_within env a d e)

    is_atom : (a : ℕ) → a < the_mark → In env x (Atom a) ↔ (v a ≡ true)
    is_atom a lt =
        swap (subst (λ b. (v a ≡ true) ↔ MatchBool b (IsMarked x) (In env x (Atom a))) (by_bool (a == the_mark) (λ e. omega (arith, lt, eqb-true a the_mark e))) (says a))

    for_atom : (a : ℕ) → IsSomeAnd (slice_get env a) (Fits env x) ↔ ((is_def_of k (slice_get env a) && v a) ≡ true)
    for_atom a =
        only_where (is_def_of k (slice_get env a)) (v a) (λ h. at_atom k x i (slice_get env a) h) (λ d. is_atom a (below a (slice_get env a) refl d))

    pub In-by_kind : (t : SemType) → In env x t ↔ ((condition_of env t).by_kind k v ≡ true)
    In-by_kind t = truth-Holds _ _ (has_kind k (v the_mark)) (λ a. is_def_of k (slice_get env a) && v a) (basic_case k x (v the_mark) i (says the_mark)) for_atom t
