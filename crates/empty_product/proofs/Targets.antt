-- What is told of the cells of a product, as what stands at the target of its parts.
use Rattle.std.proofs.Common.{◌≡◌, ◌⊎◌, ⊎_elim, inl, inr, ℕ, ◌<◌, List, [], ◌∷◌, map, length, Contains, false, Option, Some, None, slice_get, sym, ap, subst, ◌∙◌, arith}
use Rattle.std.specs.List.{Any, AllZip}
use Rattle.std.proofs.Math.ListN.{set, length-set}
use Rattle.std.proofs.lemmas.Bool.{cases_eq, false≢true}
use Rattle.std.proofs.lemmas.List.{map-set}
use Rattle.std.proofs.lemmas.List.Elements.{All-nil, All-weaker, Contains-append_cases}
use Rattle.std.proofs.lemmas.Option.{slice_get_within}
use Rattle.bal_base.specs.declared.shape.Shape.{Shape}
use Rattle.type_model.specs.declared.atoms.AtomDef.{AtomDef}
use Rattle.type_diagrams.specs.declared.projection.Projection.{Projection}
use Rattle.type_diagrams.specs.declared.projection.Projection.TheVariants.{Parts, Ask}
use Rattle.type_diagrams.specs.Conditions.{Condition, IsShapeOf, Meets}
use Rattle.type_diagrams.specs.Tables.{Table, condition}
use Rattle.empty_product.specs.declared.cells.Aimed.{Aimed}
use Rattle.empty_product.specs.declared.slots.Slot.{Slot}
use Rattle.empty_product.specs.declared.slots.Slot.TheVariants.{Absent}
use Rattle.empty_product.specs.declared.slots.Unwanted.{Unwanted}
use Rattle.empty_product.specs.Cells.{Aim, Completes, IsAimOf, TellsCells, aims_of, asked_elsewhere}
use Rattle.empty_product.specs.Products.{AsksPart, Avoids, HasHeldPart, IsIn, all_askings, places_of}
use Rattle.empty_product.specs.Slots.{Asking, AvoidsAt, IsAt, Place, MayHave, HasNone, MustHave, asking_of, condition_at, place_of}
use Rattle.empty_product.specs.Standing.{StandsInFilling, TellsStanding}
use Rattle.empty_product.proofs.MappingParts.{at-map, map-at}
use Rattle.empty_product.proofs.PlacedParts.{slice_get-set_other, slice_get-set_same}
use Rattle.empty_product.proofs.Zipped.{some_same, none_some, AllZip-at, AllZip-back, All-slice_get, All-from_slice_get, Any-is, Any-of, Contains-at, at-Contains}

-- what an atom asks at the target, and elsewhere
pub record IsAimAt (target : ℕ) (row : List Asking) (a : Aim) : Type 0 where
  pub asking : Asking
  pub stands : slice_get row target ≡ Some asking
  pub there : a.there ≡ asking.part
  pub elsewhere : a.elsewhere ≡ set row target (record { part = asking.part; required = false })

-- a part that may stand at a place is of its condition
at-shape : (env : List AtomDef) (base : Place) (part : Condition) (y : Shape) → condition_at base ≡ Some part → IsAt env base (Some y) → IsShapeOf env part y
at-shape env (MayHave c) part y has h = subst (λ d. IsShapeOf env d y) (some_same has) h
at-shape env HasNone part y has h = absurd h
at-shape env (MustHave c) part y has h = subst (λ d. IsShapeOf env d y) (some_same has) h

shape-at : (env : List AtomDef) (base : Place) (part : Condition) (y : Shape) → condition_at base ≡ Some part → IsShapeOf env part y → IsAt env base (Some y)
shape-at env (MayHave c) part y has h = subst (λ d. IsShapeOf env d y) (sym (some_same has)) h
shape-at env HasNone part y has h = absurd (none_some has)
shape-at env (MustHave c) part y has h = subst (λ d. IsShapeOf env d y) (sym (some_same has)) h

module _ (env : List AtomDef) (places : List Place) (rows : List (List Asking)) (target : ℕ) (base : Place) (part : Condition) (is_base : slice_get places target ≡ Some base) (has : condition_at base ≡ Some part) (aims : List Aim) (aimed : AllZip (IsAimAt target) rows aims) where
  abbrev left_out : List Place
  left_out = set places target HasNone

  within : target < length places
  within = slice_get_within places target base is_base

  within_row : (row : List Asking) (a : Aim) → IsAimAt target row a → target < length row
  within_row row a is = slice_get_within row target is.asking is.stands

  -- what is asked elsewhere is what is asked there
  elsewhere-at : (row : List Asking) (a : Aim) → IsAimAt target row a → (k : ℕ) → (k ≡ target → ⊥) → slice_get a.elsewhere k ≡ slice_get row k
  elsewhere-at row a is k ne = ap (λ r. slice_get r k) is.elsewhere ∙ slice_get-set_other row target k (record { part = is.asking.part; required = false }) ne

  module _ (y : Shape) where
    -- ---- with the part put at the target

    module _ (parts : List (Option Shape)) (c : Completes env left_out aims [] part y parts) where
      abbrev whole : List (Option Shape)
      whole = set parts target (Some y)

      room : target < length parts
      room = let same = c.fills.length ∙ length-set places target HasNone in omega (arith, within, same)

      whole-IsIn : IsIn env places whole
      whole-IsIn = record {
        length = length-set parts target (Some y) ∙ c.fills.length ∙ length-set places target HasNone;
        each = λ k p x at stands. ⊎_elim
            (λ (e : k ≡ target). there p x (sym (ap (slice_get places) e) ∙ at) (sym (ap (slice_get whole) e) ∙ stands))
            (λ (ne : k ≡ target → ⊥). c.fills.each k p x (slice_get-set_other places target k HasNone ne ∙ at) (sym (slice_get-set_other parts target k (Some y) ne) ∙ stands))
            (cases_eq k target);
      }
        where
          there : (p : Place) (x : Option Shape) → slice_get places target ≡ Some p → slice_get whole target ≡ Some x → IsAt env p x
          there p x at stands =
              subst (λ q. IsAt env q x) (some_same (sym is_base ∙ at))
              (subst (IsAt env base) (some_same (sym (slice_get-set_same parts target (Some y) room) ∙ stands)) (shape-at env base part y has c.inside))

      -- an atom that is avoided elsewhere isn't avoided at the target
      whole-Avoids : (row : List Asking) (a : Aim) → IsAimAt target row a → Avoids env a.elsewhere parts ⊎ (¬ Meets env a.there y) → Avoids env row whole
      whole-Avoids row a is (inr out) = record {
        place = target;
        asking = is.asking;
        part = Some y;
        asks = is.stands;
        stands = slice_get-set_same parts target (Some y) room;
        avoids = λ m. out (subst (λ d. Meets env d y) (sym is.there) m);
      }
      whole-Avoids row a is (inl av) = ⊎_elim
          (λ (e : av.place ≡ target). absurd (at_target (av.part) (sym (ap (slice_get parts) e) ∙ av.stands) (sym (ap (slice_get a.elsewhere) e) ∙ av.asks) av.avoids))
          (λ (ne : av.place ≡ target → ⊥). record {
            place = av.place;
            asking = av.asking;
            part = av.part;
            asks = sym (elsewhere-at row a is av.place ne) ∙ av.asks;
            stands = slice_get-set_other parts target av.place (Some y) ne ∙ av.stands;
            avoids = av.avoids;
          })
          (cases_eq av.place target)
        where
          at_target : (o : Option Shape) → slice_get parts target ≡ Some o → slice_get a.elsewhere target ≡ Some av.asking → AvoidsAt env av.asking o → ⊥
          at_target (Some x) stands asks avoids = c.fills.each target HasNone (Some x) (slice_get-set_same places target HasNone within) stands
          at_target None stands asks avoids =
              let same = some_same (sym (slice_get-set_same row target (record { part = is.asking.part; required = false }) (within_row row a is)) ∙ sym (ap (λ r. slice_get r target) is.elsewhere) ∙ asks) in
              false≢true (ap (λ (b : Asking). b.required) same ∙ avoids)

      whole-stands : StandsInFilling env places rows target whole y
      whole-stands = record {
        fills = whole-IsIn;
        avoiding = All-from_slice_get (λ row. Avoids env row whole) rows (λ k row at.
            let a = AllZip-at (IsAimAt target) rows aims aimed k row at in
            whole-Avoids row a.0 a.2 (All-slice_get (λ b. Avoids env b.elsewhere parts ⊎ (¬ Meets env b.there y)) aims k a.0 c.each a.1));
        stands = slice_get-set_same parts target (Some y) room;
      }

    -- ---- with the part taken away from it

    module _ (parts : List (Option Shape)) (s : StandsInFilling env places rows target parts y) where
      abbrev others : List (Option Shape)
      others = set parts target None

      others-IsIn : IsIn env left_out others
      others-IsIn = record {
        length = length-set parts target None ∙ s.fills.length ∙ sym (length-set places target HasNone);
        each = λ k p x at stands. ⊎_elim
            (λ (e : k ≡ target). there p x (sym (ap (slice_get left_out) e) ∙ at) (sym (ap (slice_get others) e) ∙ stands))
            (λ (ne : k ≡ target → ⊥). s.fills.each k p x (sym (slice_get-set_other places target k HasNone ne) ∙ at) (sym (slice_get-set_other parts target k None ne) ∙ stands))
            (cases_eq k target);
      }
        where
          there : (p : Place) (x : Option Shape) → slice_get left_out target ≡ Some p → slice_get others target ≡ Some x → IsAt env p x
          there p x at stands =
              subst (λ q. IsAt env q x) (some_same (sym (slice_get-set_same places target HasNone within) ∙ at))
              (subst (IsAt env HasNone) (some_same (sym (slice_get-set_same parts target None (slice_get_within parts target (Some y) s.stands)) ∙ stands)) tt)

      others-Avoids : (row : List Asking) (a : Aim) → IsAimAt target row a → Avoids env row parts → Avoids env a.elsewhere others ⊎ (¬ Meets env a.there y)
      others-Avoids row a is av = ⊎_elim
          (λ (e : av.place ≡ target).
          let asked = some_same (sym is.stands ∙ sym (ap (slice_get row) e) ∙ av.asks) in
          let stood = some_same (sym s.stands ∙ sym (ap (slice_get parts) e) ∙ av.stands) in
          let out : ¬ Meets env is.asking.part y = subst (λ b. AvoidsAt env b (Some y)) (sym asked) (subst (AvoidsAt env av.asking) (sym stood) av.avoids) in
          inr (λ m. out (subst (λ d. Meets env d y) is.there m)))
          (λ (ne : av.place ≡ target → ⊥). inl (record {
            place = av.place;
            asking = av.asking;
            part = av.part;
            asks = elsewhere-at row a is av.place ne ∙ av.asks;
            stands = slice_get-set_other parts target av.place None ne ∙ av.stands;
            avoids = av.avoids;
          }))
          (cases_eq av.place target)

      others-Completes : Completes env left_out aims [] part y others
      others-Completes = record {
        inside = at-shape env base part y has (s.fills.each target base (Some y) is_base s.stands);
        fills = others-IsIn;
        avoided = All-nil (λ a. Avoids env a others);
        each = All-from_slice_get (λ b. Avoids env b.elsewhere others ⊎ (¬ Meets env b.there y)) aims (λ k a at.
            let row = AllZip-back (IsAimAt target) rows aims aimed k a at in
            others-Avoids row.0 a row.2 (All-slice_get (λ r. Avoids env r parts) rows k row.0 s.avoiding row.1));
      }

      -- a part among the others is one of all
      others-HasHeldPart : (table : Table) (kept : List (ℕ × Option Shape)) → HasHeldPart env table kept others → HasHeldPart env table kept parts
      others-HasHeldPart table kept h = ⊎_elim
          (λ (e : h.place ≡ target). absurd (none_some (some_same (sym (slice_get-set_same parts target None (slice_get_within parts target (Some y) s.stands)) ∙ sym (ap (slice_get others) e) ∙ h.stands))))
          (λ (ne : h.place ≡ target → ⊥). record { place = h.place; part = h.part; stands = sym (slice_get-set_other parts target h.place None ne) ∙ h.stands; held = h.held })
          (cases_eq h.place target)

  -- ---- the whole

  asked-AsksPart : (d : Condition) → AsksPart left_out (asked_elsewhere aims []) d → AsksPart places rows d
  asked-AsksPart d h = record {
    place = h.place;
    at = h.at;
    base = h.base;
    is_at = sym (slice_get-set_other places target h.place HasNone elsewhere) ∙ h.is_at;
    has = h.has;
    left = h.left;
    among = All-weaker (λ c. Any (λ row. (a : Asking) × (slice_get row h.place ≡ Some a) × (c ≡ a.part)) (asked_elsewhere aims [])) (λ c. Any (λ row. (a : Asking) × (slice_get row h.place ≡ Some a) × (c ≡ a.part)) rows) row_of h.left h.among;
    asked = h.asked;
  }
    where
      elsewhere : h.place ≡ target → ⊥
      elsewhere e =
          let none = some_same (sym (slice_get-set_same places target HasNone within) ∙ sym (ap (slice_get left_out) e) ∙ h.is_at) in
          none_some (ap condition_at none ∙ h.has)

      row_of : (c : Condition) → Any (λ row. (a : Asking) × (slice_get row h.place ≡ Some a) × (c ≡ a.part)) (asked_elsewhere aims []) → Any (λ row. (a : Asking) × (slice_get row h.place ≡ Some a) × (c ≡ a.part)) rows
      row_of c f =
          let n = Any-is (λ row. (a : Asking) × (slice_get row h.place ≡ Some a) × (c ≡ a.part)) (asked_elsewhere aims []) f in
          let among = ⊎_elim (λ (l : Contains (map (λ (a : Aim). a.elsewhere) aims) n.0). l) (λ (r : Contains [] n.0). absurd (omega (arith, r.1))) (Contains-append_cases (map (λ (a : Aim). a.elsewhere) aims) [] n.0 n.1) in
          let k = Contains-at (map (λ (a : Aim). a.elsewhere) aims) n.0 among in
          let a = at-map (λ (a : Aim). a.elsewhere) aims k.0 n.0 k.1 in
          let row = AllZip-back (IsAimAt target) rows aims aimed k.0 a.0 a.1 in
          let asks = sym (elsewhere-at row.0 a.0 row.2 h.place elsewhere) ∙ ap (λ r. slice_get r h.place) a.2 ∙ n.2.1 in
          Any-of (λ r. (b : Asking) × (slice_get r h.place ≡ Some b) × (c ≡ b.part)) rows row.0 (at-Contains rows k.0 row.0 row.1) (n.2.0, asks, n.2.2)

  pub cells-TellsStanding : (table : Table) (kept : List (ℕ × Option Shape)) (found : Condition) (p : Projection) → TellsCells env left_out table kept aims [] part found p → TellsStanding env table kept places rows target found p
  cells-TellsStanding table kept found (Parts q) h = record {
    diagram = h.diagram;
    found_too = h.found_too;
    from = λ y is. ⊎_elim
        (λ (m : Meets env found y). inl m)
        (λ (c : (parts : List (Option Shape)) × Completes env left_out aims [] part y parts). inr (set c.0 target (Some y), whole-stands y c.0 c.1))
        (h.from y is);
    to = λ parts y s. ⊎_elim
        (λ (m : Meets env (condition table q) y). inl m)
        (λ (held : HasHeldPart env table kept (set parts target None)). inr (others-HasHeldPart y parts s table kept held))
        (h.to y (set parts target None) (others-Completes y parts s));
  }
  cells-TellsStanding table kept found (Ask q) h = (h.0, h.1, h.2, asked-AsksPart (condition table q) h.3)

-- ---- from numbers to conditions

module _ (t : Table) (target : ℕ) where
  aim-at : (u : Unwanted) (a : Aimed) → IsAimOf target u a → IsAimAt target (map (asking_of t) u.demands.items) (record { there = condition t a.there; elsewhere = map (asking_of t) a.elsewhere.demands.items })
  aim-at u a is = record {
    asking = asking_of t is.demand;
    stands = map-at (asking_of t) u.demands.items target is.demand is.stands;
    there = ap (condition t) is.there;
    elsewhere = ap (map (asking_of t)) is.elsewhere ∙ map-set (asking_of t) u.demands.items target (record { question = is.demand.question; required = false });
  }

  pub aims-at : (us : List Unwanted) (aimed : List Aimed) → AllZip (IsAimOf target) us aimed → AllZip (IsAimAt target) (all_askings t us) (aims_of t aimed)
  aims-at [] [] h = tt
  aims-at [] (a ∷ aimed) h = absurd h
  aims-at (u ∷ us) [] h = absurd h
  aims-at (u ∷ us) (a ∷ aimed) h = (aim-at u a h.0, aims-at us aimed h.1)

  pub left_out-places : (slots : List Slot) → places_of t (set slots target Absent) ≡ set (places_of t slots) target HasNone
  left_out-places slots = map-set (place_of t) slots target Absent
