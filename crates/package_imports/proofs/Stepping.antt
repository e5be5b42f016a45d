-- Imports, one behind the other.
use Rattle.std.proofs.Common.{◌≡◌, ◌≤◌, ◌<◌, ◌+◌, ℕ, suc, true, false, cond, List, [], ◌∷◌, ◌++◌, length, take, drop, get_or, map, Option, Some, None, refl, sym, ap, ◌∙◌, add-one}
use Rattle.std.specs.List.{cons_option, filter_map, list_any}
use Rattle.std.proofs.Math.Seq.{drop-cons}
use Rattle.std.proofs.lemmas.List.{drop_all, take_more}
use Rattle.std.proofs.lemmas.List.Elements.{filter_map-append}
use Rattle.bal_tree.specs.declared.def.Import.{Import}
use Rattle.bal_tree.specs.declared.name.Word.{Word}
use Rattle.package_imports.specs.Imports.{Home, dotted, first_unknown, imported, is_known, is_same, module_number, prefix_of, target_of}
use Rattle.package_imports.specs.Repeats.{first_repeat}

drop-at : {X : Type 0} (xs : List X) (i : ℕ) (x : X) → i < length xs → x ≡ get_or xs i x → drop i xs ≡ x ∷ drop (i + 1) xs
drop-at xs i x lt at = drop-cons xs i x lt ∙ (ap (λ y. y ∷ drop (suc i) xs) (sym at) ∙ ap (λ k. x ∷ drop k xs) (sym (add-one i)))

map-push : {X Y : Type 0} (f : X → Y) (ys : List X) (y : X) → map f (ys ++ y ∷ []) ≡ map f ys ++ f y ∷ []
map-push f [] y = refl
map-push f (z ∷ ys) y = ap (λ l. f z ∷ l) (map-push f ys y)

map-more : {X Y : Type 0} (f : X → Y) (xs : List X) (i : ℕ) (x : X) → i < length xs → x ≡ get_or xs i x → map f (take (i + 1) xs) ≡ map f (take i xs) ++ f x ∷ []
map-more f xs i x lt at = ap (map f) (take_more xs i x lt) ∙ (map-push f (take i xs) (get_or xs i x) ∙ ap (λ y. map f (take i xs) ++ f y ∷ []) (sym at))

-- ---- imports that name nothing

module _ (home : Home) (imports : List Import) where
  pub unknown-here : (i : ℕ) (item : Import) → i < length imports → item ≡ get_or imports i item → is_known (target_of home item) ≡ false
      → first_unknown home imports ≡ first_unknown home (drop i imports) → Some item.at ≡ first_unknown home imports
  unknown-here i item lt at none so = sym (so ∙ (ap (first_unknown home) (drop-at imports i item lt at) ∙ ap (λ b. cond b (first_unknown home (drop (i + 1) imports)) (Some item.at)) none))

  pub unknown-later : (i : ℕ) (item : Import) → i < length imports → item ≡ get_or imports i item → is_known (target_of home item) ≡ true
      → first_unknown home imports ≡ first_unknown home (drop i imports) → first_unknown home imports ≡ first_unknown home (drop (i + 1) imports)
  unknown-later i item lt at known so = so ∙ (ap (first_unknown home) (drop-at imports i item lt at) ∙ ap (λ b. cond b (first_unknown home (drop (i + 1) imports)) (Some item.at)) known)

  pub unknown-never : (i : ℕ) → length imports ≤ i → first_unknown home imports ≡ first_unknown home (drop i imports) → None ≡ first_unknown home imports
  unknown-never i all so = sym (so ∙ ap (first_unknown home) (drop_all i imports all))

  -- ---- which modules they name

  pub imported-more : (i : ℕ) (item : Import) → i < length imports → item ≡ get_or imports i item
      → imported home (take (i + 1) imports) ≡ imported home (take i imports) ++ cons_option (module_number (target_of home item)) []
  imported-more i item lt at =
      let step : Import → Option ℕ = λ j. module_number (target_of home j) in
      ap (filter_map step) (take_more imports i item lt) ∙ (filter_map-append step (take i imports) (get_or imports i item ∷ []) ∙ ap (λ j. imported home (take i imports) ++ cons_option (step j) []) (sym at))

-- ---- prefixes

module _ (imports : List Import) where
  abbrev pub before : ℕ → List (List ℕ)
  before i = map prefix_of (take i imports)

  pub before-more : (i : ℕ) (item : Import) → i < length imports → item ≡ get_or imports i item → before (i + 1) ≡ before i ++ prefix_of item ∷ []
  before-more i item lt at = map-more prefix_of imports i item lt at

  pub repeat-here : (i : ℕ) (item : Import) → i < length imports → item ≡ get_or imports i item → list_any (is_same (prefix_of item)) (before i) ≡ true
      → first_repeat [] imports ≡ first_repeat (before i) (drop i imports) → Some item.at ≡ first_repeat [] imports
  repeat-here i item lt at known so =
      sym (so ∙ (ap (first_repeat (before i)) (drop-at imports i item lt at) ∙ ap (λ b. cond b (Some item.at) (first_repeat (before i ++ prefix_of item ∷ []) (drop (i + 1) imports))) known))

  pub repeat-later : (i : ℕ) (item : Import) → i < length imports → item ≡ get_or imports i item → list_any (is_same (prefix_of item)) (before i) ≡ false
      → first_repeat [] imports ≡ first_repeat (before i) (drop i imports) → first_repeat [] imports ≡ first_repeat (before (i + 1)) (drop (i + 1) imports)
  repeat-later i item lt at new so =
      so
      ∙ (ap (first_repeat (before i)) (drop-at imports i item lt at)
      ∙ (ap (λ b. cond b (Some item.at) (first_repeat (before i ++ prefix_of item ∷ []) (drop (i + 1) imports))) new
      ∙ ap (λ l. first_repeat l (drop (i + 1) imports)) (sym (map-more prefix_of imports i item lt at))))

  pub repeat-never : (i : ℕ) → length imports ≤ i → first_repeat [] imports ≡ first_repeat (before i) (drop i imports) → None ≡ first_repeat [] imports
  repeat-never i all so = sym (so ∙ ap (first_repeat (before i)) (drop_all i imports all))

-- ---- words

pub dotted-more : (path more : List ℕ) (words : List Word) (i : ℕ) (item : Word) → i < length words → item ≡ get_or words i item → more ≡ path ++ 46 ∷ item.name
    → dotted path (drop i words) ≡ dotted more (drop (i + 1) words)
dotted-more path more words i item lt at e = ap (dotted path) (drop-at words i item lt at) ∙ ap (λ p. dotted p (drop (i + 1) words)) (sym e)

pub dotted-all : (path : List ℕ) (words : List Word) (i : ℕ) → length words ≤ i → dotted path (drop i words) ≡ path
dotted-all path words i all = ap (dotted path) (drop_all i words all)
