-- Items at their places, one item more.
use Rattle.std.proofs.Common.{◌≡◌, ◌∙◌, ◌<◌, ◌≤◌, ◌+◌, ℕ, List, [], ◌∷◌, ◌++◌, Option, length, take, get_or, sym, ap, arith}
use Rattle.std.proofs.lemmas.List.{length-take-le, take_all, take_more}
use Rattle.type_model.specs.declared.basic.SemType.{SemType}
use Rattle.type_model.specs.declared.basic.Ty.{Ty}
use Rattle.type_model.specs.Places.{item_type}
use Rattle.code_needs.specs.Combining.{Needs, ◌&◌, need, of_some}
use Rattle.code_needs.specs.Needs.{Below}
use Rattle.code_needs.specs.RowNeeds.{items_fit}
use Rattle.needs_of_rows.specs.declared.found.Found.{Found}
use Rattle.needs_of_rows.specs.Finding.{Finds}
use Rattle.needs_of_rows.proofs.Finding.{and-assoc, and-nothing, found-as, found-then, nothing-and}

module _ (fixed : List Ty) (rest : Option Ty) where
  -- the item fits the place
  abbrev pub at_place : SemType → ℕ → Needs
  at_place s k = of_some (item_type fixed rest k) (λ t. need (Below s t.sem))

  items-end : (xs : List SemType) (k : ℕ) (x : SemType) → items_fit (xs ++ x ∷ []) k fixed rest ≡ items_fit xs k fixed rest & at_place x (k + length xs)
  items-end [] k x =
      let same : k ≡ k + length {A = SemType} [] = omega arith in
      and-nothing (at_place x k) ∙ ap (at_place x) same ∙ sym (nothing-and (at_place x (k + length {A = SemType} [])))
  items-end (s ∷ xs) k x =
      let same : (k + 1) + length xs ≡ k + length (s ∷ xs) = omega arith in
      ap (λ n. at_place s k & n) (items-end xs (k + 1) x ∙ ap (λ j. items_fit xs (k + 1) fixed rest & at_place x j) same)
      ∙ sym (and-assoc (at_place s k) (items_fit xs (k + 1) fixed rest) (at_place x (k + length (s ∷ xs))))

  pub items-more : (xs : List SemType) (k : ℕ) (x : SemType) (old mid new : Found) → k < length xs → x ≡ get_or xs k x
      → Finds (items_fit (take k xs) 0 fixed rest) old mid → Finds (at_place x k) mid new → Finds (items_fit (take (k + 1) xs) 0 fixed rest) old new
  items-more xs k x old mid new lt is p q =
      let le : k ≤ length xs = omega (arith, lt) in
      let long = length-take-le k xs le in
      let place : 0 + length (take k xs) ≡ k = omega (arith, long) in
      found-as (items_fit (take k xs) 0 fixed rest & at_place x k) (items_fit (take (k + 1) xs) 0 fixed rest) old new
      (sym (ap (λ l. items_fit l 0 fixed rest) (take_more xs k x lt ∙ ap (λ y. take k xs ++ y ∷ []) (sym is)) ∙ items-end (take k xs) 0 x ∙ ap (λ j. items_fit (take k xs) 0 fixed rest & at_place x j) place))
      (found-then (items_fit (take k xs) 0 fixed rest) (at_place x k) old mid new p q)

  pub items-whole : (xs : List SemType) (k : ℕ) (old new : Found) → length xs ≤ k → Finds (items_fit (take k xs) 0 fixed rest) old new → Finds (items_fit xs 0 fixed rest) old new
  items-whole xs k old new all p = found-as (items_fit (take k xs) 0 fixed rest) (items_fit xs 0 fixed rest) old new (ap (λ l. items_fit l 0 fixed rest) (take_all k xs all)) p
