-- At what the questions of lists look.
use Rattle.std.proofs.Common.{ℕ, List, [], ◌∷◌, ◌++◌, map, get_or, Bool, true, false, if◌then◌else◌, All, IfOk, Result, Ok, Err}
use Rattle.std.proofs.lemmas.List.Elements.{All-nil, All-cons, All-append, All-map, All-weaker}
use Rattle.std.proofs.lemmas.Option.{slice_get-get_or}
use Rattle.type_model.specs.declared.atoms.AtomDef.{AtomDef}
use Rattle.type_model.specs.Places.{item_type}
use Rattle.type_diagrams.specs.declared.projection.Projection.{Projection}
use Rattle.type_diagrams.specs.declared.projection.Projection.TheVariants.{Parts, Ask}
use Rattle.type_diagrams.specs.Atoms.{parts_of, list_parts}
use Rattle.type_diagrams.specs.Conditions.{Condition, LooksAtKinds, condition_of, frozen}
use Rattle.type_diagrams.specs.Members.{item_of, type_asked}
use Rattle.type_diagrams.specs.Tables.{Table, IsDiagram, condition}
use Rattle.type_diagrams.specs.Whole.{Keeps}
use Rattle.type_diagrams.proofs.Keeping.{length-grows}
use Rattle.type_diagrams.proofs.Reaching.{asked-Looks, asks-Looks, each, frozen-Looks, one-Looks, type-Looks}
use Rattle.empty_product.specs.declared.slots.Slot.TheVariants.{Present}
use Rattle.empty_product.specs.declared.slots.Unwanted.{Unwanted}
use Rattle.empty_product.specs.Cells.{GivesDiagram, LooksAtParts}
use Rattle.empty_product.specs.Items.{GivesLooking, IsLooking}
use Rattle.empty_product.specs.Lists.{AreAsked, AreDemandsOf, item_asked}
use Rattle.empty_product.specs.Standing.{AreLooking, SlotLooks}
use Rattle.empty_product.proofs.CellSteps.{looks-keep}

module _ (env : List AtomDef) where
  pub item_of-Looks : (place a : ℕ) → LooksAtKinds env (item_of env place a)
  item_of-Looks place a =
      asked-Looks env (λ e. type_asked env (item_type e.0 e.1 place)) (λ e. asked-Looks env (λ u. condition_of env u.sem) (λ u. type-Looks env u.sem) (item_type e.0 e.1 place)) (parts_of list_parts env a)

  where_marked : (b : Bool) → All (LooksAtKinds env) (if b then frozen ∷ [] else [])
  where_marked true = All-cons (LooksAtKinds env) frozen [] (frozen-Looks env) (All-nil (LooksAtKinds env))
  where_marked false = All-nil (LooksAtKinds env)

  pub item_asked-Looks : (wanted : List ℕ) (marked : Bool) (place : ℕ) → LooksAtKinds env (item_asked env wanted marked place)
  item_asked-Looks wanted marked place =
      asks-Looks env (map (item_of env place) wanted ++ (if marked then frozen ∷ [] else [])) []
      (All-append (LooksAtKinds env) (map (item_of env place) wanted) (if marked then frozen ∷ [] else []) (each env (item_of env place) wanted (λ a. item_of-Looks place a)) (where_marked marked)) (All-nil (LooksAtKinds env))

  -- the questions for what is asked at the first places
  pub asked-IsLooking : (t : Table) (wanted : List ℕ) (marked : Bool) (bases : List ℕ) → AreAsked t (item_asked env wanted marked) bases → All (IsLooking env t) bases
  asked-IsLooking t wanted marked bases asked k d lt =
      let q = get_or bases k d in
      let gives = asked k q (slice_get-get_or bases k d lt) in
      record { diagram = gives.diagram; looks = one-Looks env (item_asked env wanted marked k) (condition t q) gives.condition (item_asked-Looks wanted marked k) }

  pub looking-diagrams : (t : Table) (qs : List ℕ) → All (IsLooking env t) qs → All (IsDiagram t) qs
  looking-diagrams t qs = All-weaker (IsLooking env t) (IsDiagram t) (λ q is. is.diagram) qs

  pub looking-keeps : (old new : Table) → Keeps old new → (q : ℕ) → IsLooking env old q → IsLooking env new q
  looking-keeps old new keeps q is = record { diagram = length-grows old.diagrams new.diagrams q keeps.diagrams is.diagram; looks = looks-keep env old new q keeps is.diagram is.looks }

  pub all_looking-keep : (old new : Table) → Keeps old new → (qs : List ℕ) → All (IsLooking env old) qs → All (IsLooking env new) qs
  all_looking-keep old new keeps qs = All-weaker (IsLooking env old) (IsLooking env new) (λ q is. looking-keeps old new keeps q is) qs

  -- places for items, and what atoms ask there
  pub items-AreLooking : (t : Table) (n : ℕ) (bases atoms : List ℕ) (us : List Unwanted) → All (IsLooking env t) bases → AreDemandsOf env t n atoms us → AreLooking env t (map Present bases) us
  items-AreLooking t n bases atoms us looking demands = (
    All-map (SlotLooks env t) Present bases (All-weaker (IsLooking env t) (λ q. LooksAtKinds env (condition t q)) (λ q is. is.looks) bases looking),
    λ k e lt j d less.
        let f = demands.only k e lt in
        let ds = (get_or us k e).demands.items in
        one-Looks env (item_of env j f.0) (condition t (get_or ds j d).question) (f.2.each j (get_or ds j d) (slice_get-get_or ds j d less)).0.condition (item_of-Looks j f.0),
  )

  pub parts-GivesLooking : (t : Table) (p : Projection) → GivesDiagram t p → LooksAtParts env t p → GivesLooking env t p
  parts-GivesLooking t (Parts q) is looks = record { diagram = is; looks = looks }
  parts-GivesLooking t (Ask q) is looks = tt

  pub result-GivesLooking : {E : Type 0} (old t : Table) (bases : List ℕ) (us : List Unwanted) (found : Condition) (r : Result Projection E) → AreLooking env old (map Present bases) us → LooksAtKinds env found → IfOk r (GivesDiagram t)
      → IfOk r (λ p. AreLooking env old (map Present bases) us → LooksAtKinds env found → LooksAtParts env t p) → IfOk r (GivesLooking env t)
  result-GivesLooking old t bases us found (Ok p) places there is looks = parts-GivesLooking t p is (looks places there)
  result-GivesLooking old t bases us found (Err e) places there is looks = tt
