-- Lists of slots: what is put into one, and what then stands in the others.
use Rattle.std.proofs.Common.{◌≡◌, ◌<◌, ℕ, zero, suc, [], ◌∷◌, length, Option, None, Some, replicate, arith, refl, ap}
use Rattle.std.specs.Prelude.{slice_get, slice_set}
use Rattle.type_model.specs.declared.basic.SemType.{SemType}
use Rattle.tree_promises.specs.Known.{Known}

pub get-none : (count slot : ℕ) → slot < count → (let none : Known = replicate count None in slice_get none slot ≡ Some None)
get-none zero slot lt = absurd (omega (arith, lt))
get-none (suc n) zero lt = refl
get-none (suc n) (suc slot) lt = get-none n slot (omega (arith, lt))

pub get-other : (ks : Known) (i j : ℕ) (t : Option SemType) → (¬ (i ≡ j)) → slice_get (slice_set ks i t) j ≡ slice_get ks j
get-other [] i j t apart = refl
get-other (k ∷ ks) zero zero t apart = absurd (apart refl)
get-other (k ∷ ks) zero (suc j) t apart = refl
get-other (k ∷ ks) (suc i) zero t apart = refl
get-other (k ∷ ks) (suc i) (suc j) t apart = get-other ks i j t (λ e. apart (ap (λ n. suc n) e))

pub get-set : (ks : Known) (i : ℕ) (t : Option SemType) → i < length ks → slice_get (slice_set ks i t) i ≡ Some t
get-set [] i t lt = absurd (omega (arith, lt))
get-set (k ∷ ks) zero t lt = refl
get-set (k ∷ ks) (suc i) t lt = get-set ks i t (omega (arith, lt))

pub set-again : (ks : Known) (i : ℕ) (s t : Option SemType) → slice_set (slice_set ks i s) i t ≡ slice_set ks i t
set-again [] i s t = refl
set-again (k ∷ ks) zero s t = refl
set-again (k ∷ ks) (suc i) s t = ap (λ js. k ∷ js) (set-again ks i s t)

pub set-apart : (ks : Known) (i j : ℕ) (s t : Option SemType) → (¬ (i ≡ j)) → slice_set (slice_set ks i s) j t ≡ slice_set (slice_set ks j t) i s
set-apart [] i j s t apart = refl
set-apart (k ∷ ks) zero zero s t apart = absurd (apart refl)
set-apart (k ∷ ks) zero (suc j) s t apart = refl
set-apart (k ∷ ks) (suc i) zero s t apart = refl
set-apart (k ∷ ks) (suc i) (suc j) s t apart = ap (λ js. k ∷ js) (set-apart ks i j s t (λ e. apart (ap (λ n. suc n) e)))

pub set-long : (ks : Known) (i : ℕ) (t : Option SemType) → length (slice_set ks i t) ≡ length ks
set-long [] i t = refl
set-long (k ∷ ks) zero t = refl
set-long (k ∷ ks) (suc i) t = ap (λ n. suc n) (set-long ks i t)

pub none-long : (count : ℕ) → (let none : Known = replicate count None in length none ≡ count)
none-long zero = refl
none-long (suc n) = ap (λ m. suc m) (none-long n)
