-- Lists that fit lists, and ends of stacks.
use Rattle.std.proofs.Common.{◌≡◌, ◌≤◌, ◌<◌, ℕ, zero, suc, List, [], ◌∷◌, ◌++◌, Option, Some, None, length, refl, sym, ap, subst, arith}
use Rattle.std.proofs.lemmas.Option.{get_or_from_slice_get, slice_get_within}
use Rattle.std.specs.Prelude.{All, IsSomeAnd, slice_get}
use Rattle.std.specs.List.{AllZip}

pub zip-to : {A B : Type 0} (P Q : A → B → Type 0) → ((a : A) (b : B) → P a b → Q a b) → (xs : List A) (ys : List B) → AllZip P xs ys → AllZip Q xs ys
zip-to P Q f [] [] h = tt
zip-to P Q f [] (y ∷ ys) h = absurd h
zip-to P Q f (x ∷ xs) [] h = absurd h
zip-to P Q f (x ∷ xs) (y ∷ ys) (h, more) = (f x y h, zip-to P Q f xs ys more)

pub zip-all : {A B : Type 0} (P R : A → B → Type 0) (Q : B → Type 0) → ((a : A) (b : B) → P a b → Q b → R a b) → (xs : List A) (ys : List B) → AllZip P xs ys → All Q ys → AllZip R xs ys
zip-all P R Q f [] [] h all = tt
zip-all P R Q f [] (y ∷ ys) h all = absurd h
zip-all P R Q f (x ∷ xs) [] h all = absurd h
zip-all P R Q f (x ∷ xs) (y ∷ ys) (h, more) all = (f x y h (all 0 y (omega arith)), zip-all P R Q f xs ys more (λ k d l. all (suc k) d (omega (arith, l))))

pub zip-then : {A B C : Type 0} (P : A → B → Type 0) (Q : B → C → Type 0) (R : A → C → Type 0) → ((a : A) (b : B) (c : C) → P a b → Q b c → R a c) → (xs : List A) (ys : List B) (zs : List C) → AllZip P xs ys → AllZip Q ys zs → AllZip R xs zs
zip-then P Q R f [] [] [] h k = tt
zip-then P Q R f [] [] (z ∷ zs) h k = absurd k
zip-then P Q R f [] (y ∷ ys) zs h k = absurd h
zip-then P Q R f (x ∷ xs) [] zs h k = absurd h
zip-then P Q R f (x ∷ xs) (y ∷ ys) [] h k = absurd k
zip-then P Q R f (x ∷ xs) (y ∷ ys) (z ∷ zs) (h, more) (k, others) = (f x y z h k, zip-then P Q R f xs ys zs more others)

pub zip-both : {A B : Type 0} (P : A → B → Type 0) (xs vs : List A) (ys ws : List B) → AllZip P xs ys → AllZip P vs ws → AllZip P (xs ++ vs) (ys ++ ws)
zip-both P [] vs [] ws h k = k
zip-both P [] vs (y ∷ ys) ws h k = absurd h
zip-both P (x ∷ xs) vs [] ws h k = absurd h
zip-both P (x ∷ xs) vs (y ∷ ys) ws (h, more) k = (h, zip-both P xs vs ys ws more k)

tails : {A : Type 0} (x y : A) (xs ys : List A) → x ∷ xs ≡ y ∷ ys → xs ≡ ys
tails x y xs ys e = let q : xs ≡ ys = cc in q

longer : {A : Type 0} (xs ys : List A) → length ys ≤ length (xs ++ ys)
longer [] ys = omega arith
longer (x ∷ xs) ys = let l : length ys ≤ length (xs ++ ys) = longer xs ys in omega (arith, l)

-- what ends a list and is no longer than another end of it ends that one
pub ends-in : {A : Type 0} (xs ys zs ws : List A) → xs ++ ys ≡ zs ++ ws → length ws ≤ length ys → (front : List A) × (ys ≡ front ++ ws)
ends-in [] ys zs ws e l = (zs, e)
ends-in (x ∷ xs) ys [] ws e l = absurd (let k : length (x ∷ xs ++ ys) ≡ length ws = ap length e in let m : length ys ≤ length (xs ++ ys) = longer xs ys in omega (arith, k, l, m))
ends-in (x ∷ xs) ys (z ∷ zs) ws e l = ends-in xs ys zs ws (tails x z (xs ++ ys) (zs ++ ws) e) l

pub assoc : {A : Type 0} (xs ys zs : List A) → (xs ++ ys) ++ zs ≡ xs ++ (ys ++ zs)
assoc [] ys zs = refl
assoc (x ∷ xs) ys zs = ap (λ t. x ∷ t) (assoc xs ys zs)

pub some-to : {A : Type 0} (P Q : A → Type 0) (o : Option A) → ((a : A) → P a → Q a) → IsSomeAnd o P → IsSomeAnd o Q
some-to P Q (Some a) f h = f a h
some-to P Q None f h = absurd h

pub there : {A : Type 0} (xs : List A) (n : ℕ) → n < length xs → (x : A) × (slice_get xs n ≡ Some x)
there [] n l = absurd (omega (arith, l))
there (x ∷ xs) zero l = (x, refl)
there (x ∷ xs) (suc n) l = there xs n (omega (arith, l))

pub all-at : {A : Type 0} (P : A → Type 0) (xs : List A) (n : ℕ) (x : A) → All P xs → slice_get xs n ≡ Some x → P x
all-at P xs n x h e = subst P (get_or_from_slice_get xs n x x e) (h n x (slice_get_within xs n x e))

-- what is there of something that is there
pub at-some : {A : Type 0} (P : A → Type 0) (o : Option A) (x : A) → o ≡ Some x → P x → IsSomeAnd o P
at-some P o x e h = subst (λ r. IsSomeAnd r P) (sym e) h

pub of-some : {A : Type 0} (P : A → Type 0) (o : Option A) (x : A) → o ≡ Some x → IsSomeAnd o P → P x
of-some P o x e h = subst (λ r. IsSomeAnd r P) e h

pub some-there : {A : Type 0} (P : A → Type 0) (o : Option A) → IsSomeAnd o P → (x : A) × (o ≡ Some x) × P x
some-there P (Some x) h = (x, refl, h)
some-there P None h = absurd h
