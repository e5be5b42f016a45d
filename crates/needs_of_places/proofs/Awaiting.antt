-- What the names of a wait need, one name more.
use Rattle.std.proofs.Common.{◌≡◌, ◌∙◌, ◌≤◌, ◌+◌, ℕ, suc, List, [], ◌∷◌, Option, Some, Bor, option_copied, drop, length, slice_get, refl, sym, ap, arith}
use Rattle.std.proofs.Math.ListN.{drop_of_length-le}
use Rattle.std.proofs.Math.Seq.{drop-cons}
use Rattle.std.proofs.lemmas.Option.{get_or_from_slice_get, slice_get_within}
use Rattle.type_model.specs.declared.basic.SemType.{SemType}
use Rattle.operations.specs.Rows.{Surroundings}
use Rattle.code_needs.specs.Combining.{Needs, ◌&◌, none, nothing}
use Rattle.code_needs.specs.RowNeeds.{awaits}
use Rattle.needs_of_rows.specs.declared.found.Found.{Found}
use Rattle.needs_of_rows.specs.Finding.{Finds}
use Rattle.needs_of_rows.proofs.Finding.{and-assoc, found-as, found-nothing, found-then, nothing-and}
use Rattle.needs_of_places.specs.inner.Awaited.{AwaitsOne}

module _ (place : Surroundings) (held : ℕ → Option SemType) (names : List (Option ℕ)) (operands : List SemType) where
  abbrev pub So : ℕ → Found → Found → List SemType → Type 0
  So k old new left = (front : Needs) × Finds front old new × (awaits place held 0 names operands ≡ front & awaits place held k (drop k names) left)

  pub awaits-none : (f : Found) → So 0 f f operands
  awaits-none f = (nothing, found-nothing f, sym (nothing-and (awaits place held 0 names operands)))

  -- the names from this one on
  drop-at : (ns : List (Option ℕ)) (k : ℕ) (n : Option ℕ) → slice_get ns k ≡ Some n → drop k ns ≡ n ∷ drop (k + 1) ns
  drop-at ns k n e =
      let next : suc k ≡ k + 1 = omega arith in
      drop-cons ns k n (slice_get_within ns k n e) ∙ (λ i. get_or_from_slice_get ns k n n e i ∷ drop (next i) ns)

  pub awaits-more : (k : ℕ) (n : Option ℕ) (type : Option (Bor SemType)) (old mid new : Found) (left after : List SemType) → slice_get names k ≡ Some n → So k old mid left
      → option_copied type ≡ held k → AwaitsOne place (option_copied type) n left mid new after → So (k + 1) old new after
  awaits-more k n type old mid new left after at (front, found, is) given (more, finds, step) = (
    front & more,
    found-then front more old mid new found finds,
    is ∙ ap (λ ns. front & awaits place held k ns left) (drop-at names k n at) ∙ ap (λ x. front & x) (step held k (drop (k + 1) names) (sym given))
        ∙ sym (and-assoc front more (awaits place held (k + 1) (drop (k + 1) names) after)),
  )

  no-names : (k : ℕ) (left : List SemType) → awaits place held k [] left ≡ none left
  no-names k [] = refl
  no-names k (t ∷ ts) = refl

  pub awaits-end : (k : ℕ) (old mid new : Found) (left : List SemType) → length names ≤ k → So k old mid left → Finds (none left) mid new
      → Finds (awaits place held 0 names operands) old new
  awaits-end k old mid new left all (front, found, is) finds =
      found-as (front & none left) (awaits place held 0 names operands) old new
      (sym (is ∙ ap (λ ns. front & awaits place held k ns left) (drop_of_length-le names all) ∙ ap (λ x. front & x) (no-names k left)))
      (found-then front (none left) old mid new found finds)
