-- What a copy reaches, and what is copied.
use Rattle.std.proofs.Common.{◌≡◌, ◌∙◌, ◌+◌, ℕ, List, [], ◌∷◌, ◌++◌, Option, Some, None, refl, sym, ap}
use Rattle.std.specs.Prelude.{filter_map, flat_map, option_to_list, position}
use Rattle.std.specs.List.{cons_option}
use Rattle.std.proofs.lemmas.List.{append_assoc, append-nil, flat_map_more, length-map, map-append}
use Rattle.std.proofs.lemmas.List.Elements.{filter_map-append}
use Rattle.std.proofs.lemmas.Option.{slice_get-map}
use Rattle.op_model.specs.Copies.{copied_number}
use Rattle.plain_run.proofs.Lists.{append-one}
use Rattle.plain_copies.specs.Copied.{is_number}

pub filter-one : {A B : Type 0} (f : A → Option B) (xs : List A) (x : A) → filter_map f (xs ++ x ∷ []) ≡ filter_map f xs ++ option_to_list (f x)
filter-one f xs x = filter_map-append f xs (x ∷ []) ∙ ap (λ ys. filter_map f xs ++ ys) (by (f x))
  where
    by : {B : Type 0} (o : Option B) → cons_option o [] ≡ option_to_list o
    by (Some y) = refl
    by None = refl

pub flat-one : {A B : Type 0} (f : A → List B) (xs : List A) (x : A) → flat_map f (xs ++ x ∷ []) ≡ flat_map f xs ++ f x
flat-one f xs x = sym (flat_map_more f [] xs x)

module _ (first : ℕ) (ns : List ℕ) (n : ℕ) where
  abbrev number : Option ℕ → ℕ
  number (Some k) = first + k
  number None = n

  pub number-none : None ≡ position (is_number n) ns → n ≡ copied_number first ns n
  number-none e = ap number e

  pub number-there : (k : ℕ) → Some k ≡ position (is_number n) ns → first + k ≡ copied_number first ns n
  number-there k e = ap number e

pub ruleset copying = (number-none, number-there, flat-one, append_assoc, append-nil, append-one, length-map, map-append, slice_get-map)
