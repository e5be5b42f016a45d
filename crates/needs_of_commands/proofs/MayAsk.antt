-- Needs that may be asked about, put together.
use Rattle.std.proofs.Common.{◌≡◌, ◌==◌, ℕ, zero, suc, Bool, true, false, List, [], ◌∷◌, Option, Some, None, All, IfSome, length, refl}
use Rattle.std.specs.Prelude.{nat_le}
use Rattle.std.proofs.lemmas.List.Elements.{All-append, All-cons, All-head, All-nil, All-tail}
use Rattle.type_model.specs.declared.atoms.AtomDef.{AtomDef}
use Rattle.type_model.specs.declared.atoms.AtomDef.TheVariants.{List as ListAtom, Mapping as MappingAtom, Arrow, Error as ErrorAtom, Future as FutureAtom}
use Rattle.type_model.specs.declared.atoms.FieldDef.{FieldDef}
use Rattle.type_model.specs.declared.basic.SemType.{SemType}
use Rattle.type_model.specs.declared.basic.Ty.{Ty}
use Rattle.type_model.specs.Defined.{IsDefined}
use Rattle.code_needs.specs.Combining.{Needs, ◌&◌, absent, as_many, at_most, each, each_zip, in_pairs, need, none, nothing, of_list, of_mapping, of_some, one, one_and_more, only_if, test, three, two}
use Rattle.code_needs.specs.declared.kind.Kind.{Kind}
use Rattle.code_needs.specs.Needs.{Below, Has, Need, Within}
use Rattle.code_needs.specs.RowNeeds.{has, has_all, within}
use Rattle.needs_of_commands.specs.Askable.{MayBeAsked}

module _ (env : List AtomDef) where
  -- where the tests pass, each need may be asked about
  pub record May (needs : Needs) : Type 0 where
    pub all : IfSome needs (All (MayBeAsked env))

  pub may-nothing : May nothing
  may-nothing = record { all = All-nil (MayBeAsked env) }

  pub may-fail : May None
  may-fail = record { all = tt }

  pub may-need : (n : Need) → MayBeAsked env n → May (need n)
  may-need n h = record { all = All-cons (MayBeAsked env) n [] h (All-nil (MayBeAsked env)) }

  may-both : (n m : Needs) → May n → May m → May (n & m)
  may-both (Some ns) (Some ms) a b = record { all = All-append (MayBeAsked env) ns ms a.all b.all }
  may-both (Some ns) None a b = may-fail
  may-both None m a b = may-fail

  pub may-two : {x y : Needs} → May x → May y → May (x & y)
  may-two {x} {y} a b = may-both x y a b

  pub may-three : {x y z : Needs} → May x → May y → May z → May (x & (y & z))
  may-three {x} {y} {z} a b c = may-both x (y & z) a (may-both y z b c)

  pub may-four : {x y z w : Needs} → May x → May y → May z → May w → May (x & (y & (z & w)))
  may-four {x} {y} {z} {w} a b c d = may-both x (y & (z & w)) a (may-both y (z & w) b (may-both z w c d))

  -- the others where the tests of the ones pass
  pub may-then : {y : Needs} (x : Needs) → May x → ((ns : List Need) → x ≡ Some ns → May y) → May (x & y)
  may-then {y} (Some ns) a h = may-both (Some ns) y a (h ns refl)
  may-then None a h = may-fail

  -- ---- tests

  may-test : (b : Bool) → May (test b)
  may-test true = may-nothing
  may-test false = may-fail

  pub may-as_many : {A : Type 0} (xs : List A) (n : ℕ) → May (as_many xs n)
  may-as_many xs n = may-test (length xs == n)

  pub may-as_many_as : {A B : Type 0} (xs : List A) (ys : List B) → May (test (length xs == length ys))
  may-as_many_as xs ys = may-test (length xs == length ys)

  pub may-at_most : {A : Type 0} (xs : List A) (n : ℕ) → May (at_most xs n)
  may-at_most xs n = may-test (nat_le (length xs) n)

  pub may-none : {A : Type 0} (xs : List A) → May (none xs)
  may-none [] = may-nothing
  may-none (x ∷ xs) = may-fail

  pub may-absent : {A : Type 0} (o : Option A) → May (absent o)
  may-absent None = may-nothing
  may-absent (Some x) = may-fail

  pub may-only_if : {x : Needs} (b : Bool) → May x → May (only_if b x)
  may-only_if true h = h
  may-only_if false h = may-nothing

  -- ---- what is there

  pub may-some : {A : Type 0} {f : A → Needs} (o : Option A) → ((a : A) → o ≡ Some a → May (f a)) → May (of_some o f)
  may-some (Some a) h = h a refl
  may-some None h = may-fail

  pub may-list : {f : List Ty → Option Ty → Needs} (o : Option AtomDef) → ((fixed : List Ty) (rest : Option Ty) → o ≡ Some (ListAtom fixed rest) → May (f fixed rest)) → May (of_list o f)
  may-list (Some (ListAtom fixed rest)) h = h fixed rest refl
  may-list (Some (MappingAtom fields rest)) h = may-fail
  may-list (Some (Arrow args outcome alone)) h = may-fail
  may-list (Some (ErrorAtom detail)) h = may-fail
  may-list (Some (FutureAtom outcome)) h = may-fail
  may-list None h = may-fail

  pub may-mapping : {f : List FieldDef → Option Ty → Needs} (o : Option AtomDef) → ((fields : List FieldDef) (rest : Option Ty) → o ≡ Some (MappingAtom fields rest) → May (f fields rest)) → May (of_mapping o f)
  may-mapping (Some (MappingAtom fields rest)) h = h fields rest refl
  may-mapping (Some (ListAtom fixed rest)) h = may-fail
  may-mapping (Some (Arrow args outcome alone)) h = may-fail
  may-mapping (Some (ErrorAtom detail)) h = may-fail
  may-mapping (Some (FutureAtom outcome)) h = may-fail
  may-mapping None h = may-fail

  -- ---- operands whose types are defined

  abbrev pub AllDefined : List SemType → Type 0
  AllDefined ts = All (IsDefined env) ts

  pub may-one : {f : SemType → Needs} (ts : List SemType) → AllDefined ts → ((a : SemType) → IsDefined env a → May (f a)) → May (one ts f)
  may-one (a ∷ []) d h = h a (All-head (IsDefined env) a [] d)
  may-one [] d h = may-fail
  may-one (a ∷ b ∷ ts) d h = may-fail

  pub may-pair : {f : SemType → SemType → Needs} (ts : List SemType) → AllDefined ts → ((a b : SemType) → IsDefined env a → IsDefined env b → May (f a b)) → May (two ts f)
  may-pair (a ∷ b ∷ []) d h = h a b (All-head (IsDefined env) a (b ∷ []) d) (All-head (IsDefined env) b [] (All-tail (IsDefined env) a (b ∷ []) d))
  may-pair [] d h = may-fail
  may-pair (a ∷ []) d h = may-fail
  may-pair (a ∷ b ∷ c ∷ ts) d h = may-fail

  pub may-triple : {f : SemType → SemType → SemType → Needs} (ts : List SemType) → AllDefined ts → ((a b c : SemType) → IsDefined env a → IsDefined env b → IsDefined env c → May (f a b c)) → May (three ts f)
  may-triple (a ∷ b ∷ c ∷ []) d h =
      let more = All-tail (IsDefined env) a (b ∷ c ∷ []) d in
      h a b c (All-head (IsDefined env) a (b ∷ c ∷ []) d) (All-head (IsDefined env) b (c ∷ []) more) (All-head (IsDefined env) c [] (All-tail (IsDefined env) b (c ∷ []) more))
  may-triple [] d h = may-fail
  may-triple (a ∷ []) d h = may-fail
  may-triple (a ∷ b ∷ []) d h = may-fail
  may-triple (a ∷ b ∷ c ∷ e ∷ ts) d h = may-fail

  pub may-first : {f : SemType → List SemType → Needs} (ts : List SemType) → AllDefined ts → ((a : SemType) (more : List SemType) → IsDefined env a → AllDefined more → May (f a more)) → May (one_and_more ts f)
  may-first (a ∷ ts) d h = h a ts (All-head (IsDefined env) a ts d) (All-tail (IsDefined env) a ts d)
  may-first [] d h = may-fail

  abbrev pub PairDefined : SemType × SemType → Type 0
  PairDefined p = IsDefined env p.0 × IsDefined env p.1

  pub may-pairs : (n : ℕ) (ts : List SemType) (f : List (SemType × SemType) → Needs) → AllDefined ts → ((pairs : List (SemType × SemType)) → All PairDefined pairs → May (f pairs)) → May (in_pairs n ts f)
  may-pairs zero [] f d h = h [] (All-nil PairDefined)
  may-pairs zero (a ∷ ts) f d h = may-fail
  may-pairs (suc n) [] f d h = may-fail
  may-pairs (suc n) (a ∷ []) f d h = may-fail
  may-pairs (suc n) (a ∷ b ∷ ts) f d h =
      let more = All-tail (IsDefined env) a (b ∷ ts) d in
      may-pairs n ts (λ pairs. f ((a, b) ∷ pairs)) (All-tail (IsDefined env) b ts more)
      (λ pairs ds. h ((a, b) ∷ pairs) (All-cons PairDefined (a, b) pairs (All-head (IsDefined env) a (b ∷ ts) d, All-head (IsDefined env) b ts more) ds))

  -- ---- of each

  pub may-each : {A : Type 0} (P : A → Type 0) (f : A → Needs) (xs : List A) → All P xs → ((x : A) → P x → May (f x)) → May (each f xs)
  may-each P f [] d h = may-nothing
  may-each P f (x ∷ xs) d h = may-both (f x) (each f xs) (h x (All-head P x xs d)) (may-each P f xs (All-tail P x xs d) h)

  pub may-zip : (f : SemType → SemType → Needs) (ss ts : List SemType) → AllDefined ss → AllDefined ts → ((s t : SemType) → IsDefined env s → IsDefined env t → May (f s t)) → May (each_zip f ss ts)
  may-zip f [] [] c d h = may-nothing
  may-zip f [] (t ∷ ts) c d h = may-fail
  may-zip f (s ∷ ss) [] c d h = may-fail
  may-zip f (s ∷ ss) (t ∷ ts) c d h =
      may-both (f s t) (each_zip f ss ts) (h s t (All-head (IsDefined env) s ss c) (All-head (IsDefined env) t ts d))
      (may-zip f ss ts (All-tail (IsDefined env) s ss c) (All-tail (IsDefined env) t ts d) h)

  -- ---- results, which are defined where they are there

  abbrev pub MayBeGiven : Option SemType → Type 0
  MayBeGiven result = IfSome result (IsDefined env)

  pub may-given : {f : SemType → Needs} (result : Option SemType) → MayBeGiven result → ((r : SemType) → IsDefined env r → May (f r)) → May (of_some result f)
  may-given (Some r) d h = h r d
  may-given None d h = may-fail

  pub may-within : (s : SemType) (kind : Kind) → IsDefined env s → May (within s kind)
  may-within s kind d = may-need (Within s kind) (d, tt)

  pub may-has : (result : Option SemType) (kind : Kind) → MayBeGiven result → May (has result kind)
  may-has result kind d = may-given result d (λ r e. may-need (Has r kind) (e, tt))

  pub may-has_all : (result : Option SemType) (t : SemType) → MayBeGiven result → IsDefined env t → May (has_all result t)
  may-has_all result t d e = may-given result d (λ r g. may-need (Below t r) ((e, g), tt))
