-- What stands at a place of lists that are longer than each fixed prefix.
use Rattle.std.proofs.Common.{◌≡◌, ◌⊎◌, ⊎_elim, inl, inr, ℕ, ◌+◌, ◌<◌, ◌≤◌, ◌^◌, List, ◌∷◌, ◌++◌, map, take, length, All, Option, arith}
use Rattle.std.proofs.lemmas.List.{length-append}
use Rattle.bal_base.specs.declared.shape.Shape.{Shape}
use Rattle.type_model.specs.declared.atoms.AtomDef.{AtomDef}
use Rattle.type_diagrams.specs.declared.projection.Projection.{Projection}
use Rattle.type_diagrams.specs.declared.projection.Projection.TheVariants.{Parts, Ask}
use Rattle.type_diagrams.specs.Conditions.{Condition, IsShapeOf}
use Rattle.type_diagrams.specs.Members.{item_of}
use Rattle.type_diagrams.specs.Tables.{Table, condition}
use Rattle.type_diagrams.specs.Turns.{IsSound}
use Rattle.type_diagrams.specs.Whole.{Keeps, Gives}
use Rattle.empty_product.specs.declared.further.RestDemand.{RestDemand}
use Rattle.empty_product.specs.Further.{AreSplit, rest_askings_of}
use Rattle.empty_product.specs.Items.{StandsInItems, TellsItemsAt}
use Rattle.empty_product.specs.Lists.{AvoidAll, FixesBefore, HasHeldItem, IsSameFrom}
use Rattle.empty_product.proofs.Gathering.{along-Gathers}
use Rattle.empty_product.proofs.ItemLists.{IsItemQuestion-more}
use Rattle.empty_product.proofs.ItemPlaces.{at_append_left, at_taken}
use Rattle.empty_product.proofs.LongerLists.{AvoidAll-length, longer-AvoidAll, longer-taken, staying-among, taken-HasHeldItem}

module _ (env : List AtomDef) (base : ℕ → Condition) (n : ℕ) (same : IsSameFrom n base) (kept : List (ℕ × Option Shape)) (t0 t1 t2 t3 : Table) (rest : ℕ) (rest_given : Gives t0 (base n) rest)
    (first_keeps : Keeps t0 t1) (next_keeps : Keeps t1 t2) (last_keeps : Keeps t2 t3)
    (atoms : List ℕ) (before : All (FixesBefore env n) atoms) (ds : List RestDemand) (named : map (λ d. d.atom) ds ≡ atoms) (given : All (λ d. Gives t1 (item_of env n d.atom) d.question) ds)
    (parts : List Shape) (staying : List ℕ) (split : AreSplit env t2 kept (condition t1 rest) (rest_askings_of t1 ds) parts staying) (sound : All (IsSound env t0) kept)
    (count : ℕ) (one_more : count ≡ n + 1) (room : count + length parts < 2 ^ 63) (m : ℕ) (e : m ≡ n) (first : Shape) (is_first : IsShapeOf env (condition t0 rest) first) where
  abbrev IsLong : ℕ → Type 0
  IsLong k = (count ≤ k) × (k < 2 ^ 63)

  longer-items : (items : List Shape) → AvoidAll env base (λ k. k ≡ m) staying items → AvoidAll env base IsLong atoms (items ++ first ∷ parts)
  longer-items items all =
      let longer = longer-AvoidAll env base n same kept t0 t1 t2 t3 rest rest_given first_keeps next_keeps last_keeps atoms before ds named given parts staying split m e first is_first items all in
      let long = length-append items (first ∷ parts) in
      let short = all.count in record {
        count = (omega (arith, long, short, e, one_more), omega (arith, long, short, e, one_more, room));
        inside = longer.inside;
        avoiding = longer.avoiding;
      }

  -- the first items of a longer list, of which one stands at the place, or one of it is held
  first-items : (place : ℕ) → place < n → (items : List Shape) (y : Shape) → StandsInItems env base IsLong atoms place items y
      → ((short : List Shape) × StandsInItems env base (λ k. k ≡ m) staying place short y × (HasHeldItem env t3 kept short → HasHeldItem env t3 kept items)) ⊎ HasHeldItem env t3 kept items
  first-items place lt items y s = ⊎_elim
      (λ (held : HasHeldItem env t3 kept items). inr held)
      (λ (all : AvoidAll env base (λ k. k ≡ m) staying (take m items)). inl (
        take m items,
        record { all = all; stands = at_taken items m place y (omega (arith, lt, e)) s.stands },
        λ held. taken-HasHeldItem env base n same kept t0 t1 t2 t3 rest rest_given first_keeps next_keeps last_keeps atoms before ds named given parts staying split m items held,
      ))
      (longer-taken env base n same kept t0 t1 t2 t3 rest rest_given first_keeps next_keeps last_keeps atoms before ds named given parts staying split m e sound items
      (AvoidAll-length env base IsLong (λ k. n + 1 ≤ k) (λ k h. omega (arith, h.0, one_more)) atoms items s.all))

  pub longer-TellsItemsAt : (place : ℕ) → place < n → (found : Condition) (p : Projection) → TellsItemsAt env base t3 kept (λ k. k ≡ m) staying place found p → TellsItemsAt env base t3 kept IsLong atoms place found p
  longer-TellsItemsAt place lt found (Parts q) h =
      along-Gathers env t3 (StandsInItems env base (λ k. k ≡ m) staying place) (HasHeldItem env t3 kept) found q (StandsInItems env base IsLong atoms place) (HasHeldItem env t3 kept)
      (λ items y s. (items ++ first ∷ parts, record { all = longer-items items s.all; stands = at_append_left items (first ∷ parts) place y s.stands }))
      (first-items place lt)
      h
  longer-TellsItemsAt place lt found (Ask q) h =
      IsItemQuestion-more env base t3 kept staying atoms (staying-among env base n same kept t0 t1 t2 t3 rest rest_given first_keeps next_keeps last_keeps atoms before ds named given parts staying split) q h
