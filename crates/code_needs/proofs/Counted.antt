-- As many operands as there are, by the words of rows, and results in wider types.
use Rattle.std.proofs.Common.{◌≡◌, ◌⊎◌, ◌+◌, ℕ, zero, suc, Bool, true, false, List, [], ◌∷◌, Option, Some, None, length, inl, inr, refl, ap, arith}
use Rattle.std.specs.Prelude.{IsSome, IsSomeAnd}
use Rattle.bal_base.specs.declared.shape.Shape.{Shape}
use Rattle.type_model.specs.declared.atoms.AtomDef.{AtomDef}
use Rattle.type_model.specs.declared.basic.SemType.{SemType}
use Rattle.type_model.specs.Inclusion.{Sub}
use Rattle.operations.specs.Rows.{InPairs, One, OneAndMore, ResultHas, Three, Two}

-- ---- how many

pub one-long : {P : SemType → Type 0} {R : Type 0} (operands : List SemType) → ((a : SemType) → P a → R) → One operands P → (length operands ≡ 1) × R
one-long (a ∷ []) f h = (refl, f a h)
one-long [] f h = absurd h
one-long (a ∷ b ∷ more) f h = absurd h

pub two-long : {P : SemType → SemType → Type 0} {R : Type 0} (operands : List SemType) → ((a b : SemType) → P a b → R) → Two operands P → (length operands ≡ 2) × R
two-long (a ∷ b ∷ []) f h = (refl, f a b h)
two-long [] f h = absurd h
two-long (a ∷ []) f h = absurd h
two-long (a ∷ b ∷ c ∷ more) f h = absurd h

pub three-long : {P : SemType → SemType → SemType → Type 0} {R : Type 0} (operands : List SemType) → ((a b c : SemType) → P a b c → R) → Three operands P → (length operands ≡ 3) × R
three-long (a ∷ b ∷ c ∷ []) f h = (refl, f a b c h)
three-long [] f h = absurd h
three-long (a ∷ []) f h = absurd h
three-long (a ∷ b ∷ []) f h = absurd h
three-long (a ∷ b ∷ c ∷ d ∷ more) f h = absurd h

pub more-long : {P : SemType → List SemType → Type 0} (R : ℕ → Type 0) (operands : List SemType) → ((a : SemType) (rest : List SemType) → P a rest → R (suc (length rest))) → OneAndMore operands P → R (length operands)
more-long R (a ∷ rest) f h = f a rest h
more-long R [] f h = absurd h

pub pairs-long : {R : Type 0} (count : ℕ) (operands : List SemType) (P : List (SemType × SemType) → Type 0) → ((pairs : List (SemType × SemType)) → P pairs → R) → InPairs count operands P → (length operands ≡ count + count) × R
pairs-long zero [] P f h = (refl, f [] h)
pairs-long zero (a ∷ rest) P f h = absurd h
pairs-long (suc n) (key ∷ value ∷ rest) P f h =
    let q = pairs-long n rest (λ pairs. P ((key, value) ∷ pairs)) (λ pairs k. f ((key, value) ∷ pairs) k) h in
    let e : length rest ≡ n + n = q.0 in
    (omega (arith, e), q.1)
pairs-long (suc n) (key ∷ []) P f h = absurd h
pairs-long (suc n) [] P f h = absurd h

pub none-long : (operands : List SemType) → operands ≡ [] → length operands ≡ 0
none-long operands e = ap length e

-- ---- other words for the same operands

pub one-to : {P Q : SemType → Type 0} (operands : List SemType) → ((a : SemType) → P a → Q a) → One operands P → One operands Q
one-to (a ∷ []) f h = f a h
one-to [] f h = absurd h
one-to (a ∷ b ∷ more) f h = absurd h

pub two-to : {P Q : SemType → SemType → Type 0} (operands : List SemType) → ((a b : SemType) → P a b → Q a b) → Two operands P → Two operands Q
two-to (a ∷ b ∷ []) f h = f a b h
two-to [] f h = absurd h
two-to (a ∷ []) f h = absurd h
two-to (a ∷ b ∷ c ∷ more) f h = absurd h

pub more-to : {P Q : SemType → List SemType → Type 0} (operands : List SemType) → ((a : SemType) (rest : List SemType) → P a rest → Q a rest) → OneAndMore operands P → OneAndMore operands Q
more-to (a ∷ rest) f h = f a rest h
more-to [] f h = absurd h

pub pairs-to : (count : ℕ) (operands : List SemType) (P Q : List (SemType × SemType) → Type 0) → ((pairs : List (SemType × SemType)) → P pairs → Q pairs) → InPairs count operands P → InPairs count operands Q
pairs-to zero [] P Q f h = f [] h
pairs-to zero (a ∷ rest) P Q f h = absurd h
pairs-to (suc n) (key ∷ value ∷ rest) P Q f h = pairs-to n rest (λ pairs. P ((key, value) ∷ pairs)) (λ pairs. Q ((key, value) ∷ pairs)) (λ pairs. f ((key, value) ∷ pairs)) h
pairs-to (suc n) (key ∷ []) P Q f h = absurd h
pairs-to (suc n) [] P Q f h = absurd h

pub some-to : {A : Type 0} {P Q : A → Type 0} (o : Option A) → ((a : A) → P a → Q a) → IsSomeAnd o P → IsSomeAnd o Q
some-to (Some a) f h = f a h
some-to None f h = absurd h

pub some-of : {A : Type 0} {P : A → Type 0} {R : Type 0} (o : Option A) → ((a : A) → P a → R) → IsSomeAnd o P → R
some-of (Some a) f h = f a h
some-of None f h = absurd h

pub either-of : {A B R : Type 0} → (A → R) → (B → R) → A ⊎ B → R
either-of f g (inl a) = f a
either-of f g (inr b) = g b

-- ---- results

-- a result where one is given, and else none
abbrev pub GivesAs : Bool → Option SemType → Type 0
GivesAs true result = IsSome result
GivesAs false result = result ≡ None

pub no-result : {X : Type 0} (r : SemType) → Some r ≡ None → X
no-result r e = absurd (let q : ⊥ = cc in q)

module _ (env : List AtomDef) where
  pub there : (P : Shape → Type 0) (result : Option SemType) → ResultHas env result P → IsSome result
  there P (Some r) h = refl
  there P None h = absurd h

  pub wider : (r t : SemType) → Sub env r t → (P : Shape → Type 0) → ResultHas env (Some r) P → ResultHas env (Some t) P
  wider r t sub P h x v k = sub x v (h x v k)
