-- What holds exactly where needs are met, put together as the needs are.
use Rattle.std.proofs.Common.{◌≡◌, ◌↔◌, ◌⊎◌, ◌≤◌, ℕ, zero, suc, Bool, true, false, List, [], ◌∷◌, ◌++◌, Option, Some, None, length, inl, inr, refl, arith, ◌==◌}
use Rattle.std.specs.Prelude.{All, IsSomeAnd, IsTrue, nat_le, not, ⊤}
use Rattle.std.specs.List.{AllZip}
use Rattle.std.proofs.lemmas.Bool.{eqb-true, eq-eqb, leb-true}
use Rattle.bal_base.specs.declared.shape.Shape.{Shape}
use Rattle.type_model.specs.declared.atoms.AtomDef.{AtomDef}
use Rattle.type_model.specs.declared.atoms.AtomDef.TheVariants.{List as ListAtom, Mapping as MappingAtom, Arrow, Error as ErrorAtom, Future as FutureAtom}
use Rattle.type_model.specs.declared.atoms.FieldDef.{FieldDef}
use Rattle.type_model.specs.declared.basic.SemType.{SemType}
use Rattle.type_model.specs.declared.basic.Ty.{Ty}
use Rattle.type_model.specs.Membership.{In}
use Rattle.operations.specs.Rows.{InPairs, One, OneAndMore, ResultHas, Three, Two}
use Rattle.code_needs.specs.Combining.{AreMet, Needs, ◌&◌, absent, as_many, at_most, each, each_zip, in_pairs, need, none, nothing, of_list, of_mapping, of_some, one, one_and_more, only_if, test, three, two}
use Rattle.code_needs.specs.Needs.{Below, IsMet, Need}

-- ---- lists

pub all-end : {A : Type 0} (P : A → Type 0) → All P []
all-end P k d l = absurd (omega (arith, l))

pub all-more : {A : Type 0} (P : A → Type 0) (x : A) (xs : List A) → P x → All P xs → All P (x ∷ xs)
all-more P x xs h more zero d l = h
all-more P x xs h more (suc k) d l = more k d (omega (arith, l))

pub all-first : {A : Type 0} (P : A → Type 0) (x : A) (xs : List A) → All P (x ∷ xs) → P x
all-first P x xs h = h 0 x (omega arith)

pub all-rest : {A : Type 0} (P : A → Type 0) (x : A) (xs : List A) → All P (x ∷ xs) → All P xs
all-rest P x xs h k d l = h (suc k) d (omega (arith, l))

pub all-joined : {A : Type 0} (P : A → Type 0) (xs ys : List A) → All P xs → All P ys → All P (xs ++ ys)
all-joined P [] ys h k = k
all-joined P (x ∷ xs) ys h k = all-more P x (xs ++ ys) (all-first P x xs h) (all-joined P xs ys (all-rest P x xs h) k)

pub all-front : {A : Type 0} (P : A → Type 0) (xs ys : List A) → All P (xs ++ ys) → All P xs
all-front P [] ys h = all-end P
all-front P (x ∷ xs) ys h = all-more P x xs (all-first P x (xs ++ ys) h) (all-front P xs ys (all-rest P x (xs ++ ys) h))

pub all-back : {A : Type 0} (P : A → Type 0) (xs ys : List A) → All P (xs ++ ys) → All P ys
all-back P [] ys h = h
all-back P (x ∷ xs) ys h = all-back P xs ys (all-rest P x (xs ++ ys) h)

-- nothing is not something
pub untrue : {A : Type 0} → false ≡ true → A
untrue e = absurd (let r : ⊥ = cc in r)

-- ---- needs

module _ (env : List AtomDef) where
  -- it holds exactly where the needs are met
  pub record Decided (A : Type 0) (needs : Needs) : Type 0 where
    pub so : A → AreMet env needs
    pub back : AreMet env needs → A

  pub as-pair : {A : Type 0} {x : Needs} → Decided A x → A ↔ AreMet env x
  as-pair d = (d.so, d.back)

  -- another word for it
  pub otherwise : {A B : Type 0} {x : Needs} → (B → A) → (A → B) → Decided A x → Decided B x
  otherwise f g d = record { so = (λ b. d.so (f b)); back = (λ m. g (d.back m)) }

  pub met-need : (n : Need) → Decided (IsMet env n) (need n)
  met-need n = record { so = (λ h. all-more (IsMet env) n [] h (all-end (IsMet env))); back = (λ h. all-first (IsMet env) n [] h) }

  pub met-nothing : Decided ⊤ nothing
  met-nothing = record { so = (λ h. all-end (IsMet env)); back = (λ h. tt) }

  pub never : {A : Type 0} → (A → ⊥) → Decided A None
  never f = record { so = (λ a. f a); back = (λ h. absurd h) }

  pub met-both : (x y : Needs) → AreMet env x → AreMet env y → AreMet env (x & y)
  met-both (Some xs) (Some ys) h k = all-joined (IsMet env) xs ys h k
  met-both (Some xs) None h k = k
  met-both None y h k = absurd h

  pub met-front : (x y : Needs) → AreMet env (x & y) → AreMet env x
  met-front (Some xs) (Some ys) h = all-front (IsMet env) xs ys h
  met-front (Some xs) None h = absurd h
  met-front None y h = absurd h

  pub met-back : (x y : Needs) → AreMet env (x & y) → AreMet env y
  met-back (Some xs) (Some ys) h = all-back (IsMet env) xs ys h
  met-back (Some xs) None h = absurd h
  met-back None y h = absurd h

  pub and-two : {A B : Type 0} {x y : Needs} → Decided A x → Decided B y → Decided (A × B) (x & y)
  and-two {A} {B} {x} {y} d e = record { so = (λ h. met-both x y (d.so h.0) (e.so h.1)); back = (λ m. (d.back (met-front x y m), e.back (met-back x y m))) }

  pub and-three : {A B C : Type 0} {x y z : Needs} → Decided A x → Decided B y → Decided C z → Decided (A × B × C) (x & (y & z))
  and-three {A} {B} {C} {x} {y} {z} d e f =
      record {
        so = (λ h. met-both x (y & z) (d.so h.0) (met-both y z (e.so h.1) (f.so h.2)));
        back = (λ m. (d.back (met-front x (y & z) m), e.back (met-front y z (met-back x (y & z) m)), f.back (met-back y z (met-back x (y & z) m))));
      }

  pub and-four : {A B C D : Type 0} {x y z w : Needs} → Decided A x → Decided B y → Decided C z → Decided D w → Decided (A × B × C × D) (x & (y & (z & w)))
  and-four {A} {B} {C} {D} {x} {y} {z} {w} d e f g =
      let t = and-three e f g in
      record {
        so = (λ h. met-both x (y & (z & w)) (d.so h.0) (t.so (h.1, h.2, h.3)));
        back = (λ m. let r = t.back (met-back x (y & (z & w)) m) in (d.back (met-front x (y & (z & w)) m), r.0, r.1, r.2));
      }

  -- ---- tests

  pub met-test : (A : Type 0) (b : Bool) → (A → b ≡ true) → (b ≡ true → A) → Decided A (test b)
  met-test A true f g = record { so = (λ a. all-end (IsMet env)); back = (λ h. g refl) }
  met-test A false f g = record { so = (λ a. absurd (let q : false ≡ true = f a in let r : ⊥ = cc in r)); back = (λ h. absurd h) }

  pub met-as_many : {A : Type 0} (xs : List A) (n : ℕ) → Decided (length xs ≡ n) (as_many xs n)
  met-as_many xs n = met-test (length xs ≡ n) (length xs == n) (eq-eqb (length xs) n) (eqb-true (length xs) n)

  pub met-as_many_as : {A B : Type 0} (xs : List A) (ys : List B) → Decided (length xs ≡ length ys) (test (length xs == length ys))
  met-as_many_as xs ys = met-test (length xs ≡ length ys) (length xs == length ys) (eq-eqb (length xs) (length ys)) (eqb-true (length xs) (length ys))

  pub met-at_most : {A : Type 0} (xs : List A) (n : ℕ) → Decided (length xs ≤ n) (at_most xs n)
  met-at_most xs n = met-test (length xs ≤ n) (nat_le (length xs) n) (λ l. grind (l, arith)) (leb-true (length xs) n)

  pub met-none : {A : Type 0} (xs : List A) → Decided (xs ≡ []) (none xs)
  met-none [] = record { so = (λ h. all-end (IsMet env)); back = (λ h. refl) }
  met-none (x ∷ xs) = never (λ e. let q : ⊥ = cc in q)

  pub met-absent : {A : Type 0} (o : Option A) → Decided (o ≡ None) (absent o)
  met-absent None = record { so = (λ h. all-end (IsMet env)); back = (λ h. refl) }
  met-absent (Some x) = never (λ e. let q : ⊥ = cc in q)

  -- ---- what is there

  pub met-some : {A : Type 0} {P : A → Type 0} {f : A → Needs} (o : Option A) → ((x : A) → Decided (P x) (f x)) → Decided (IsSomeAnd o P) (of_some o f)
  met-some (Some x) d = d x
  met-some None d = never (λ h. h)

  -- a result is given
  pub met-given : {P : Shape → Type 0} {f : SemType → Needs} (result : Option SemType) → ((r : SemType) → Decided (ResultHas env (Some r) P) (f r)) → Decided (ResultHas env result P) (of_some result f)
  met-given (Some r) d = d r
  met-given None d = never (λ h. h)

  pub met-all_of : (t r : SemType) → Decided (ResultHas env (Some r) (λ x. In env x t)) (need (Below t r))
  met-all_of t r = otherwise (λ h x k. h x k.0 k.1) (λ h x v i. h x (v, i)) (met-need (Below t r))

  abbrev pub ByList : (List Ty → Option Ty → Type 0) → AtomDef → Type 0
  ByList P (ListAtom fixed rest) = P fixed rest
  ByList P (MappingAtom fields rest) = ⊥
  ByList P (Arrow args outcome alone) = ⊥
  ByList P (ErrorAtom detail) = ⊥
  ByList P (FutureAtom outcome) = ⊥

  pub met-list : {P : List Ty → Option Ty → Type 0} {f : List Ty → Option Ty → Needs} (o : Option AtomDef) → ((fixed : List Ty) (rest : Option Ty) → Decided (P fixed rest) (f fixed rest)) → Decided (IsSomeAnd o (ByList P)) (of_list o f)
  met-list (Some (ListAtom fixed rest)) d = d fixed rest
  met-list (Some (MappingAtom fields rest)) d = never (λ h. h)
  met-list (Some (Arrow args outcome alone)) d = never (λ h. h)
  met-list (Some (ErrorAtom detail)) d = never (λ h. h)
  met-list (Some (FutureAtom outcome)) d = never (λ h. h)
  met-list None d = never (λ h. h)

  abbrev pub ByMapping : (List FieldDef → Option Ty → Type 0) → AtomDef → Type 0
  ByMapping P (MappingAtom fields rest) = P fields rest
  ByMapping P (ListAtom fixed rest) = ⊥
  ByMapping P (Arrow args outcome alone) = ⊥
  ByMapping P (ErrorAtom detail) = ⊥
  ByMapping P (FutureAtom outcome) = ⊥

  pub met-mapping : {P : List FieldDef → Option Ty → Type 0} {f : List FieldDef → Option Ty → Needs} (o : Option AtomDef) → ((fields : List FieldDef) (rest : Option Ty) → Decided (P fields rest) (f fields rest)) → Decided (IsSomeAnd o (ByMapping P)) (of_mapping o f)
  met-mapping (Some (MappingAtom fields rest)) d = d fields rest
  met-mapping (Some (ListAtom fixed rest)) d = never (λ h. h)
  met-mapping (Some (Arrow args outcome alone)) d = never (λ h. h)
  met-mapping (Some (ErrorAtom detail)) d = never (λ h. h)
  met-mapping (Some (FutureAtom outcome)) d = never (λ h. h)
  met-mapping None d = never (λ h. h)

  pub of-mapping : {P : List FieldDef → Option Ty → Type 0} {R : Type 0} (o : Option AtomDef) → ((fields : List FieldDef) (rest : Option Ty) → P fields rest → R) → IsSomeAnd o (ByMapping P) → R
  of-mapping (Some (MappingAtom fields rest)) f h = f fields rest h
  of-mapping (Some (ListAtom fixed rest)) f h = absurd h
  of-mapping (Some (Arrow args outcome alone)) f h = absurd h
  of-mapping (Some (ErrorAtom detail)) f h = absurd h
  of-mapping (Some (FutureAtom outcome)) f h = absurd h
  of-mapping None f h = absurd h

  -- ---- operands

  pub met-one : {P : SemType → Type 0} {f : SemType → Needs} (operands : List SemType) → ((a : SemType) → Decided (P a) (f a)) → Decided (One operands P) (one operands f)
  met-one (a ∷ []) d = d a
  met-one [] d = never (λ h. h)
  met-one (a ∷ b ∷ more) d = never (λ h. h)

  pub met-two : {P : SemType → SemType → Type 0} {f : SemType → SemType → Needs} (operands : List SemType) → ((a b : SemType) → Decided (P a b) (f a b)) → Decided (Two operands P) (two operands f)
  met-two (a ∷ b ∷ []) d = d a b
  met-two [] d = never (λ h. h)
  met-two (a ∷ []) d = never (λ h. h)
  met-two (a ∷ b ∷ c ∷ more) d = never (λ h. h)

  pub met-three : {P : SemType → SemType → SemType → Type 0} {f : SemType → SemType → SemType → Needs} (operands : List SemType) → ((a b c : SemType) → Decided (P a b c) (f a b c)) → Decided (Three operands P) (three operands f)
  met-three (a ∷ b ∷ c ∷ []) d = d a b c
  met-three [] d = never (λ h. h)
  met-three (a ∷ []) d = never (λ h. h)
  met-three (a ∷ b ∷ []) d = never (λ h. h)
  met-three (a ∷ b ∷ c ∷ e ∷ more) d = never (λ h. h)

  pub met-one_and_more : {P : SemType → List SemType → Type 0} {f : SemType → List SemType → Needs} (operands : List SemType) → ((a : SemType) (rest : List SemType) → Decided (P a rest) (f a rest)) → Decided (OneAndMore operands P) (one_and_more operands f)
  met-one_and_more (a ∷ rest) d = d a rest
  met-one_and_more [] d = never (λ h. h)

  pub met-pairs : (count : ℕ) (operands : List SemType) (P : List (SemType × SemType) → Type 0) (f : List (SemType × SemType) → Needs) → ((pairs : List (SemType × SemType)) → Decided (P pairs) (f pairs)) → Decided (InPairs count operands P) (in_pairs count operands f)
  met-pairs zero [] P f d = d []
  met-pairs zero (a ∷ rest) P f d = never (λ h. h)
  met-pairs (suc n) (key ∷ value ∷ rest) P f d = met-pairs n rest (λ pairs. P ((key, value) ∷ pairs)) (λ pairs. f ((key, value) ∷ pairs)) (λ pairs. d ((key, value) ∷ pairs))
  met-pairs (suc n) (key ∷ []) P f d = never (λ h. h)
  met-pairs (suc n) [] P f d = never (λ h. h)

  -- ---- of each

  pub met-each : {A : Type 0} (P : A → Type 0) (f : A → Needs) (xs : List A) → ((x : A) → Decided (P x) (f x)) → Decided (All P xs) (each f xs)
  met-each P f [] d = otherwise (λ h. tt) (λ h. all-end P) met-nothing
  met-each P f (x ∷ xs) d = otherwise (λ h. (all-first P x xs h, all-rest P x xs h)) (λ h. all-more P x xs h.0 h.1) (and-two (d x) (met-each P f xs d))

  pub met-each_zip : {A B : Type 0} (P : A → B → Type 0) (f : A → B → Needs) (xs : List A) (ys : List B) → ((x : A) (y : B) → Decided (P x y) (f x y)) → Decided (AllZip P xs ys) (each_zip f xs ys)
  met-each_zip P f [] [] d = met-nothing
  met-each_zip P f [] (y ∷ ys) d = never (λ h. h)
  met-each_zip P f (x ∷ xs) [] d = never (λ h. h)
  met-each_zip P f (x ∷ xs) (y ∷ ys) d = and-two (d x y) (met-each_zip P f xs ys d)

  pub met-only_if : {A : Type 0} {x : Needs} (b : Bool) → Decided A x → Decided (IsTrue b → A) (only_if b x)
  met-only_if true d = otherwise (λ h. h refl) (λ a t. a) d
  met-only_if false d = otherwise (λ h. tt) (λ h t. untrue t) met-nothing

  pub met-unless : {A : Type 0} {x : Needs} (b : Bool) → Decided A x → Decided (IsTrue b ⊎ A) (only_if (not b) x)
  met-unless {A} true d = otherwise (λ h. tt) (λ h. inl refl) met-nothing
  met-unless {A} false d = otherwise only (λ a. inr a) d
    where
      only : IsTrue false ⊎ A → A
      only (inl t) = untrue t
      only (inr a) = a

  -- a type has what has one property or the other, where it has both
  pub met-either : {P Q : Shape → Type 0} {x y : Needs} (r : SemType) → Decided (ResultHas env (Some r) P) x → Decided (ResultHas env (Some r) Q) y → Decided (ResultHas env (Some r) (λ s. P s ⊎ Q s)) (x & y)
  met-either {P} {Q} r d e = otherwise (λ h. ((λ s v k. h s v (inl k)), (λ s v k. h s v (inr k)))) together (and-two d e)
    where
      together : ResultHas env (Some r) P × ResultHas env (Some r) Q → ResultHas env (Some r) (λ s. P s ⊎ Q s)
      together h s v (inl k) = h.0 s v k
      together h s v (inr k) = h.1 s v k
