-- Members of lists, one by one.
use Rattle.std.proofs.Common.{◌≡◌, ◌+◌, ℕ, zero, suc, List, [], ◌∷◌, ◌++◌, length, map, refl, ap, ◌∙◌, arith}
use Rattle.std.specs.Prelude.{All, Bool, true, false, nat_eq, sum}
use Rattle.std.proofs.lemmas.Bool.{eqb-true}
use Rattle.std.proofs.lemmas.List.Sums.{sum_by-append}
use Rattle.package_files.specs.Names.{is_empty}

pub all-none : {X : Type 0} (P : X → Type 0) → All P []
all-none P k d lt = absurd (let no-way : ⊥ = omega arith in no-way)

pub all-more : {X : Type 0} (P : X → Type 0) (x : X) (xs : List X) → P x → All P xs → All P (x ∷ xs)
all-more P x xs here all zero d lt = here
all-more P x xs here all (suc k) d lt = all k d (omega arith)

pub all-first : {X : Type 0} (P : X → Type 0) (x : X) (xs : List X) → All P (x ∷ xs) → P x
all-first P x xs all = all 0 x (omega arith)

pub all-rest : {X : Type 0} (P : X → Type 0) (x : X) (xs : List X) → All P (x ∷ xs) → All P xs
all-rest P x xs all = λ k d lt. all (suc k) d (omega arith)

-- what is so of each member of one list is so of each of another made of it
pub all-mapped : {X Y : Type 0} (P : X → Type 0) (Q : Y → Type 0) (f : X → Y) (xs : List X) → ((x : X) → P x → Q (f x)) → All P xs → All Q (map f xs)
all-mapped P Q f [] gives all = all-none Q
all-mapped P Q f (x ∷ xs) gives all =
    all-more Q (f x) (map f xs) (gives x (all-first P x xs all)) (all-mapped P Q f xs gives (all-rest P x xs all))

pub all-append : {X : Type 0} (P : X → Type 0) (xs ys : List X) → All P xs → All P ys → All P (xs ++ ys)
all-append P [] ys one other = other
all-append P (x ∷ xs) ys one other = all-more P x (xs ++ ys) (all-first P x xs one) (all-append P xs ys (all-rest P x xs one) other)

pub map-push : {X Y : Type 0} (f : X → Y) (xs : List X) (x : X) → map f (xs ++ x ∷ []) ≡ map f xs ++ f x ∷ []
map-push f [] x = refl
map-push f (y ∷ xs) x = ap (λ l. f y ∷ l) (map-push f xs x)

not-none : (n : ℕ) → nat_eq (suc n) 0 ≡ false
not-none n = by (nat_eq (suc n) 0) refl
  where
    by : (b : Bool) → nat_eq (suc n) 0 ≡ b → b ≡ false
    by true q = absurd (let same : suc n ≡ 0 = eqb-true (suc n) 0 q in let no-way : ⊥ = omega arith in no-way)
    by false q = refl

pub empty-is : (xs : List ℕ) → nat_eq (length xs) 0 ≡ is_empty xs
empty-is [] = refl
empty-is (x ∷ xs) = not-none (length xs)

pub map-twice : {X Y Z : Type 0} (f : X → Y) (g : Y → Z) (xs : List X) → map g (map f xs) ≡ map (λ x. g (f x)) xs
map-twice f g [] = refl
map-twice f g (x ∷ xs) = ap (λ l. g (f x) ∷ l) (map-twice f g xs)

pub map-long : {X Y : Type 0} (f : X → Y) (xs : List X) → length (map f xs) ≡ length xs
map-long f [] = refl
map-long f (x ∷ xs) = ap suc (map-long f xs)

pub sum-push : (ns : List ℕ) (n : ℕ) → sum (ns ++ n ∷ []) ≡ sum ns + n
sum-push ns n = let both : sum (ns ++ n ∷ []) ≡ sum ns + (0 + n) = sum_by-append (λ x. x) ns (n ∷ []) in both ∙ (let last : sum ns + (0 + n) ≡ sum ns + n = omega arith in last)
