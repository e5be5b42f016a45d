-- What stands in lists is what stands in the shapes of a list path.
use Rattle.std.proofs.Common.{◌≡◌, ◌==◌, ◌<◌, ◌≤◌, ◌^◌, ℕ, List, Vec, Global, length, Bool, true, All, IfOk, OnOk, Option, Some, None, Result, Ok, Err, sym, subst}
use Rattle.std.specs.List.{list_any}
use Rattle.std.proofs.lemmas.List.Elements.{All-contains}
use Rattle.bal_base.specs.declared.shape.Shape.{Shape, Nil, Bool as BoolShape, Int, Str, List as AList, List', Mapping', Error', Function, Future'}
use Rattle.bal_base.specs.declared.shape.Shape.TheBlock.{shown-the_row-Shape-0, items_shown-the_row-Shape-0}
use Rattle.bal_base.specs.declared.shape.Shapes.{Shapes}
use Rattle.bal_base.specs.Levels.{levels}
use Rattle.bal_base.specs.Valid.{IsValid}
use Rattle.bal_base.proofs.Vectors.{holding, length-small}
use Rattle.type_model.specs.declared.atoms.AtomDef.{AtomDef}
use Rattle.type_model.specs.Parts.{StandsIn}
use Rattle.type_diagrams.specs.declared.kind.Kind.TheVariants.{List as Lists}
use Rattle.type_diagrams.specs.declared.path.Path.{Path}
use Rattle.type_diagrams.specs.declared.projection.Projection.{Projection}
use Rattle.type_diagrams.specs.declared.projection.Projection.TheVariants.{Parts, Ask}
use Rattle.type_diagrams.specs.Conditions.{Condition, nothing}
use Rattle.type_diagrams.specs.Kinds.{IsOfKind, the_mark}
use Rattle.type_diagrams.specs.Members.{IsListOutOfPlay, atoms_in}
use Rattle.type_diagrams.specs.Projections.{Projects}
use Rattle.type_diagrams.specs.Tables.{Table}
use Rattle.type_diagrams.specs.Turns.{HasLower, IsShapeOn}
use Rattle.type_diagrams.proofs.Asking.{one_itself}
use Rattle.type_diagrams.proofs.PathShapes.{IsAtomOf, has_mark}
use Rattle.empty_product.specs.Items.{GivesLooking, IsAtIndex, StandsAtIndex, TellsIndex}
use Rattle.empty_product.specs.Lists.{HasHeldItem, item_asked}
use Rattle.empty_product.specs.Parts.{index_keys}
use Rattle.empty_product.specs.Play.{AreInPlay}
use Rattle.empty_product.proofs.Gathering.{gathered-AreParts}
use Rattle.empty_product.proofs.ItemPlaces.{Contains-at}
use Rattle.empty_product.proofs.ListTurns.{item-IsMemberQuestion, path-AreWithout, without-IsShapeOn}
use Rattle.empty_product.proofs.RowItems.{items_in, items_in-List, lower_items}

-- a list has no more items than a vector can hold
few_items : (x : Shape) → IsOfKind Lists x → length (items_in x) < 2 ^ 63
few_items (List' mark s row) kind = subst (λ xs. length xs < 2 ^ 63) (items_shown-the_row-Shape-0 s row) (length-small (shown-the_row-Shape-0 s row))
few_items Nil kind = cc
few_items (BoolShape b) kind = cc
few_items (Int i) kind = cc
few_items (Str t) kind = cc
few_items (Mapping' mark _ fields) kind = cc
few_items (Error' _ detail) kind = cc
few_items (Function isolated graph) kind = cc
few_items (Future' _ results) kind = cc

-- what stands at an index, or at any, of a list is an item there
standing_at : (index : Option ℕ) (x y : Shape) → StandsIn (index_keys index) x y → IsAtIndex index (items_in x) y
standing_at (Some i) (List' mark _ row) y h = h
standing_at (Some i) Nil y h = absurd h
standing_at (Some i) (BoolShape b) y h = absurd h
standing_at (Some i) (Int n) y h = absurd h
standing_at (Some i) (Str t) y h = absurd h
standing_at (Some i) (Mapping' mark _ fields) y h = absurd h
standing_at (Some i) (Error' _ detail) y h = absurd h
standing_at (Some i) (Function isolated graph) y h = absurd h
standing_at (Some i) (Future' _ results) y h = absurd h
standing_at None (List' mark _ row) y h = h
standing_at None Nil y h = absurd h
standing_at None (BoolShape b) y h = absurd h
standing_at None (Int n) y h = absurd h
standing_at None (Str t) y h = absurd h
standing_at None (Mapping' mark _ fields) y h = absurd h
standing_at None (Error' _ detail) y h = absurd h
standing_at None (Function isolated graph) y h = absurd h
standing_at None (Future' _ results) y h = absurd h

at_standing : (index : Option ℕ) (mark : Bool) (items : Shapes) (y : Shape) → IsAtIndex index items.items.items y → StandsIn (index_keys index) (AList mark items) y
at_standing (Some i) mark items y h = subst (λ xs. IsAtIndex (Some i) xs y) (sym (items_in-List mark items)) h
at_standing None mark items y h = subst (λ xs. IsAtIndex None xs y) (sym (items_in-List mark items)) h

-- an item at an index, or at any, is an item
at_some : (index : Option ℕ) (items : List Shape) (y : Shape) → IsAtIndex index items y → (k : ℕ) × IsAtIndex (Some k) items y
at_some (Some i) items y h = (i, h)
at_some None items y h = Contains-at items y h

-- what is known where there is a result serves to show what is said of it
pub on-ok : {A E P : Type 0} (Q : A → Type 0) (r : Result A E) → OnOk r P → (P → IfOk r Q) → IfOk r Q
on-ok Q (Ok a) known f = f known
on-ok Q (Err e) known f = tt

module _ (env : List AtomDef) (small : length env ≤ the_mark) (p : Path) (pos : All (IsAtomOf env Lists) (atoms_in p.pos)) (neg : All (IsAtomOf env Lists) (atoms_in p.neg))
    (playing : List ℕ) (are : AreInPlay (IsListOutOfPlay env (atoms_in p.pos)) (atoms_in p.neg) playing) (not_both : has_mark p ≡ true → list_any (λ l. l == the_mark) p.neg ≡ true → ⊥)
    (table : Table) (kept : List (ℕ × Option Shape)) (index : Option ℕ) (room : Vec ℕ Global) where
  abbrev base : ℕ → Condition
  base = item_asked env (atoms_in p.pos) (has_mark p)

  abbrev Stands : List Shape → Shape → Type 0
  Stands = StandsAtIndex env base (atoms_in p.pos) playing index

  -- a list of the path with such items
  a_list : (items : List Shape) (y : Shape) → Stands items y → (x : Shape) × IsShapeOn env Lists p x × StandsIn (index_keys index) x y
  a_list items y s =
      let held : Shapes = record { items = holding room items s.short } in
      (AList (has_mark p) held, without-IsShapeOn env small p pos neg playing are held not_both s.list, at_standing index (has_mark p) held y s.stands)

  -- the items of a list of the path
  its_items : (x y : Shape) → IsShapeOn env Lists p x → StandsIn (index_keys index) x y → IsValid y × ((w : List Shape) × Stands w y × (HasHeldItem env table kept w → HasLower env table kept x))
  its_items x y on stands =
      let list = path-AreWithout env small p pos neg playing are x on.0 on.1 in
      let at = standing_at index x y stands in
      let k = at_some index (items_in x) y at in (
        (list.inside k.0 y k.1).0,
        (
          items_in x,
          record { short = few_items x on.1.kind; list = list; stands = at },
          λ has. record {
            question = has.held.question;
            held = has.held.held;
            part = has.item;
            inside = has.held.inside;
            lower = All-contains (λ z. levels z < levels x) (items_in x) has.item (lower_items x on.1.kind) has.among;
          },
        ),
      )

  index-Projects : (q : Projection) → GivesLooking env table q → TellsIndex env base table kept (atoms_in p.pos) playing index q → Projects env table kept Lists p (index_keys index) q
  index-Projects (Parts q) looking h =
      gathered-AreParts env table Stands (HasHeldItem env table kept) nothing q kept Lists p (index_keys index) (one_itself nothing) looking.looks a_list its_items h
  index-Projects (Ask q) looking h = (h.unknown, h.diagram, item-IsMemberQuestion env small p pos neg playing are table kept q h)

  pub result-Projects : {E : Type 0} (r : Result Projection E) → IfOk r (GivesLooking env table) → IfOk r (TellsIndex env base table kept (atoms_in p.pos) playing index) → IfOk r (Projects env table kept Lists p (index_keys index))
  result-Projects (Ok q) looking h = index-Projects q looking h
  result-Projects (Err e) looking h = tt
