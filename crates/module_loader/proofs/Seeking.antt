-- The first of several files in which there is such a place.
use Rattle.std.proofs.Common.{◌≡◌, ◌≤◌, ◌<◌, ◌+◌, ℕ, zero, suc, List, [], ◌∷◌, ◌++◌, get_or, length, take, refl, sym, ap, ◌∙◌, arith}
use Rattle.std.specs.Prelude.{Option, Some, None}
use Rattle.std.proofs.lemmas.List.{take_all, take_more}
use Rattle.bal_base.specs.declared.place.Place.{Place}
use Rattle.bal_tree.specs.declared.package.SourceFile.{SourceFile}
use Rattle.module_loader.specs.Packages.{first_or, first_place}

module _ (place_in : SourceFile → Option Place) where
  first-append : (xs ys : List SourceFile) → first_place place_in (xs ++ ys) ≡ first_or (first_place place_in xs) (first_place place_in ys)
  first-append [] ys = refl
  first-append (x ∷ xs) ys = by (place_in x) (first-append xs ys)
    where
      by : (o : Option Place) → first_place place_in (xs ++ ys) ≡ first_or (first_place place_in xs) (first_place place_in ys)
          → first_or o (first_place place_in (xs ++ ys)) ≡ first_or (first_or o (first_place place_in xs)) (first_place place_in ys)
      by (Some at) rest = refl
      by None rest = rest

  -- there is none in one more file
  pub none-more : (read : List SourceFile) (i : ℕ) (file : SourceFile) → i < length read → get_or read i file ≡ file → first_place place_in (take i read) ≡ None → place_in file ≡ None
      → first_place place_in (take (i + 1) read) ≡ None
  none-more read i file lt is none here =
      ap (first_place place_in) (take_more read i file lt ∙ ap (λ f. take i read ++ f ∷ []) is)
      ∙ (first-append (take i read) (file ∷ []) ∙ (ap (λ o. first_or o (first_or (place_in file) None)) none ∙ ap (λ o. first_or o None) here))

  -- there is one in the next file
  pub first-found : (read : List SourceFile) (i : ℕ) (file : SourceFile) (at : Place) → i < length read → get_or read i file ≡ file → first_place place_in (take i read) ≡ None → place_in file ≡ Some at
      → Some at ≡ first_place place_in read
  first-found [] i file at lt is none here = absurd (let no-way : ⊥ = omega arith in no-way)
  first-found (x ∷ read) zero file at lt is none here = sym (ap (λ o. first_or o (first_place place_in read)) (ap place_in is ∙ here))
  first-found (x ∷ read) (suc i) file at lt is none here =
      by (place_in x) none (λ rest. first-found read i file at (omega arith) is rest here)
    where
      by : (o : Option Place) → first_or o (first_place place_in (take i read)) ≡ None → (first_place place_in (take i read) ≡ None → Some at ≡ first_place place_in read)
          → Some at ≡ first_or o (first_place place_in read)
      by (Some p) none rest = absurd (let no-way : ⊥ = cc in no-way)
      by None none rest = rest none

  -- there is none in any of them
  pub none-all : (read : List SourceFile) (i : ℕ) → length read ≤ i → first_place place_in (take i read) ≡ None → None ≡ first_place place_in read
  none-all read i end none = sym none ∙ ap (first_place place_in) (take_all i read end)
