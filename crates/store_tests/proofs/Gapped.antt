-- The fillers of places, one after another.
use Rattle.std.proofs.Common.{◌≡◌, ◌∙◌, ◌+◌, ◌-◌, ◌<◌, ◌≤◌, ℕ, zero, suc, Bool, true, false, List, [], ◌∷◌, ◌++◌, get_or, length, map, take, refl, sym, ap, arith}
use Rattle.std.specs.Prelude.{◌&&◌}
use Rattle.std.specs.List.{list_all}
use Rattle.std.proofs.lemmas.List.{append_assoc, map-append, take_more}
use Rattle.std.proofs.lemmas.List.Elements.{filter-append}
use Rattle.std.proofs.lemmas.List.Folds.{list_all-append}
use Rattle.value_model.specs.declared.filler.Filler.{Filler}
use Rattle.op_model.specs.Fillers.{filler_at, fillers_from, is_new, new_ones}
use Rattle.op_model.specs.Levels.{numbers_from}
use Rattle.store_tests.specs.Fillers.{is_there}

-- ---- one place

pub filler-here : (fs : List Filler) (k : ℕ) (d : Filler) → k < length fs → get_or fs k d ≡ filler_at fs k
filler-here [] k d l = absurd (omega (arith, l))
filler-here (f ∷ []) zero d l = refl
filler-here (f ∷ []) (suc k) d l = absurd (omega (arith, l))
filler-here (f ∷ g ∷ fs) zero d l = refl
filler-here (f ∷ g ∷ fs) (suc k) d l = let m : k < length (g ∷ fs) = omega (arith, l) in filler-here (g ∷ fs) k d m

pub filler-last : (fs : List Filler) (k : ℕ) (d : Filler) → 0 < length fs → length fs - 1 < k → get_or fs (length fs - 1) d ≡ filler_at fs k
filler-last [] k d p l = absurd (omega (arith, p))
filler-last (f ∷ []) k d p l = refl
filler-last (f ∷ g ∷ fs) zero d p l = absurd (omega (arith, l))
filler-last (f ∷ g ∷ fs) (suc k) d p l =
    let e : length (f ∷ g ∷ fs) - 1 ≡ suc (length (g ∷ fs) - 1) = omega arith in
    let q : 0 < length (g ∷ fs) = omega arith in
    let m : length (g ∷ fs) - 1 < k = omega (arith, l) in
    ap (λ n. get_or (f ∷ g ∷ fs) n d) e ∙ filler-last (g ∷ fs) k d q m

-- ---- places in turn

numbers-more : (first n : ℕ) → numbers_from first (suc n) ≡ numbers_from first n ++ (first + n) ∷ []
numbers-more first zero = let e : first ≡ first + 0 = omega arith in ap (λ k. k ∷ []) e
numbers-more first (suc n) =
    let e : first + 1 + n ≡ first + suc n = omega arith in
    ap (λ l. first ∷ l) (numbers-more (first + 1) n ∙ ap (λ k. numbers_from (first + 1) n ++ k ∷ []) e)

-- a place before the end that has no filler
pub all-fails : (fs : List Filler) (first n k : ℕ) → k < n → is_there (filler_at fs (first + k)) ≡ false → list_all is_there (fillers_from fs first n) ≡ false
all-fails fs first zero k l h = absurd (omega (arith, l))
all-fails fs first (suc n) zero l h =
    let e : first + 0 ≡ first = omega arith in
    ap (λ b. b && list_all is_there (fillers_from fs (first + 1) n)) (ap (λ j. is_there (filler_at fs j)) (sym e) ∙ h)
all-fails fs first (suc n) (suc k) l h =
    let e : first + 1 + k ≡ first + suc k = omega arith in
    let m : k < n = omega (arith, l) in
    ap (λ b. is_there (filler_at fs first) && b) (all-fails fs (first + 1) n k m (ap (λ j. is_there (filler_at fs j)) e ∙ h)) ∙ both (is_there (filler_at fs first))
  where
    both : (b : Bool) → (b && false) ≡ false
    both true = refl
    both false = refl

pub all-missing : (fs : List Filler) (first place end : ℕ) → first ≤ place → place < end → is_there (filler_at fs place) ≡ false → false ≡ list_all is_there (fillers_from fs first (end - first))
all-missing fs first place end l m h =
    let e : first + (place - first) ≡ place = omega (arith, l) in
    let b : place - first < end - first = omega (arith, l, m) in
    sym (all-fails fs first (end - first) (place - first) b (ap (λ j. is_there (filler_at fs j)) e ∙ h))

module _ (fs : List Filler) (first : ℕ) where
  pub from-none : fillers_from fs first (first - first) ≡ []
  from-none = let e : first - first ≡ 0 = omega arith in ap (fillers_from fs first) e

  pub from-more : (place : ℕ) → first ≤ place → fillers_from fs first (place + 1 - first) ≡ fillers_from fs first (place - first) ++ filler_at fs place ∷ []
  from-more place l =
      let n : ℕ = place - first in
      let e : place + 1 - first ≡ suc (place - first) = omega (arith, l) in
      let f : first + (place - first) ≡ place = omega (arith, l) in
      ap (fillers_from fs first) e
      ∙ (ap (map (filler_at fs)) (numbers-more first (place - first))
      ∙ (map-append (filler_at fs) (numbers_from first (place - first)) ((first + (place - first)) ∷ [])
      ∙ ap (λ k. fillers_from fs first (place - first) ++ filler_at fs k ∷ []) f))

  pub all-more : (place : ℕ) → first ≤ place → list_all is_there (fillers_from fs first (place - first)) ≡ true → is_there (filler_at fs place) ≡ true → list_all is_there (fillers_from fs first (place + 1 - first)) ≡ true
  all-more place l h t =
      ap (list_all is_there) (from-more place l)
      ∙ (list_all-append is_there (fillers_from fs first (place - first)) (filler_at fs place ∷ [])
      ∙ (ap (λ b. b && list_all is_there (filler_at fs place ∷ [])) h ∙ ap (λ b. b && true) t))

-- ---- fillers for which structures are made

-- the new ones, one more
pub ones-more : (fs : List Filler) (i : ℕ) (f : Filler) (old mid new : List Filler) → i < length fs → f ≡ get_or fs i f → mid ≡ old ++ new_ones (take i fs) → new ≡ mid ++ new_ones (f ∷ []) → new ≡ old ++ new_ones (take (i + 1) fs)
ones-more fs i f old mid new l e m h =
    h
    ∙ ((λ j. m j ++ new_ones (e j ∷ []))
    ∙ (append_assoc old (new_ones (take i fs)) (new_ones (get_or fs i f ∷ []))
    ∙ ap (λ l. old ++ l) (sym (filter-append is_new (take i fs) (get_or fs i f ∷ [])) ∙ sym (ap new_ones (take_more fs i f l)))))

pub ruleset gapped = (filler-here, filler-last)
