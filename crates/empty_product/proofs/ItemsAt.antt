-- What is told of the fillings with a part at a place is told of the items there.
use Rattle.std.proofs.Common.{◌≡◌, inl, ℕ, List, map, length, Option, Some, slice_get, ap, subst, ◌∙◌}
use Rattle.bal_base.specs.declared.shape.Shape.{Shape}
use Rattle.type_model.specs.declared.atoms.AtomDef.{AtomDef}
use Rattle.type_diagrams.specs.declared.projection.Projection.{Projection}
use Rattle.type_diagrams.specs.declared.projection.Projection.TheVariants.{Parts, Ask}
use Rattle.type_diagrams.specs.Conditions.{Condition}
use Rattle.type_diagrams.specs.Tables.{Table}
use Rattle.empty_product.specs.declared.avoid.Filling.TheVariants.{Ask as AskFilling}
use Rattle.empty_product.specs.declared.slots.Slot.TheVariants.{Present}
use Rattle.empty_product.specs.declared.slots.Unwanted.{Unwanted}
use Rattle.empty_product.specs.Items.{StandsInItems, TellsItemsAt}
use Rattle.empty_product.specs.Lists.{AreAsked, AreDemandsOf, HasHeldItem}
use Rattle.empty_product.specs.Products.{HasHeldPart, all_askings, places_of}
use Rattle.empty_product.specs.Standing.{StandsInFilling, TellsStanding}
use Rattle.empty_product.proofs.Gathering.{along-Gathers}
use Rattle.empty_product.proofs.ItemPlaces.{at-map, at_mapped, some_same}
use Rattle.empty_product.proofs.ProductItems.{AvoidAll-Avoids, filling-TellsItems, held-item, items-IsIn, parts-AvoidAll}

module _ (env : List AtomDef) (base : ℕ → Condition) (t new : Table) (kept : List (ℕ × Option Shape)) (bases : List ℕ) (is_asked : AreAsked t base bases) (atoms : List ℕ) (us : List Unwanted) (demands : AreDemandsOf env t (length bases) atoms us) (place : ℕ) (found : Condition) where
  pub standing-TellsItemsAt : (p : Projection) → TellsStanding env new kept (places_of t (map Present bases)) (all_askings t us) place found p → TellsItemsAt env base new kept (λ n. n ≡ length bases) atoms place found p
  standing-TellsItemsAt (Parts q) h =
      along-Gathers env new (StandsInFilling env (places_of t (map Present bases)) (all_askings t us) place) (HasHeldPart env new kept) found q (StandsInItems env base (λ n. n ≡ length bases) atoms place) (HasHeldItem env new kept)
      (λ parts y s.
      let items = parts-AvoidAll env base t new kept bases is_asked atoms us demands parts s.fills s.avoiding in
      let x = at_mapped Some items.0 place (Some y) (subst (λ ps. slice_get ps place ≡ Some (Some y)) items.1 s.stands) in
      (items.0, record { all = items.2; stands = x.1 ∙ ap Some (some_same x.0 y x.2) }))
      (λ items y s. inl (
        map Some items,
        record {
          fills = items-IsIn env base t new kept bases is_asked atoms us demands items s.all;
          avoiding = AvoidAll-Avoids env base t new kept bases is_asked atoms us demands items s.all;
          stands = at-map Some items place y s.stands;
        },
        λ held. held-item env base t new kept bases is_asked atoms us demands items held,
      ))
      h
  standing-TellsItemsAt (Ask q) h = filling-TellsItems env base t new kept bases is_asked atoms us demands (AskFilling q) h
