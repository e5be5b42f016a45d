-- A product in which the first atom is avoided in one step, and the other atoms then.
use Rattle.std.proofs.Common.{◌≡◌, ⊎_elim, ℕ, ◌+◌, ◌-◌, ◌*◌, ◌/◌, ◌%◌, ◌≤◌, ◌<◌, List, [], ◌∷◌, length, map, take, drop, get_or, All, Bool, nat_eq, Option, Some, refl, sym, subst, ap, ◌∙◌, arith}
use Rattle.std.proofs.Math.ListN.{length-set}
use Rattle.std.proofs.Math.Seq.{take-length}
use Rattle.std.proofs.lemmas.List.{length-map}
use Rattle.std.proofs.lemmas.List.Elements.{All-cons, All-get_or, All-head, All-tail}
use Rattle.bal_base.specs.declared.shape.Shape.{Shape}
use Rattle.type_model.specs.declared.atoms.AtomDef.{AtomDef}
use Rattle.type_diagrams.specs.Conditions.{Condition}
use Rattle.type_diagrams.specs.Tables.{Table}
use Rattle.type_diagrams.specs.Turns.{IsSound}
use Rattle.type_diagrams.specs.Whole.{Keeps}
use Rattle.empty_product.specs.declared.avoid.Filling.{Filling}
use Rattle.empty_product.specs.declared.avoid.Filling.TheVariants.{Parts, Empty, Ask}
use Rattle.empty_product.specs.declared.avoid.Next.{Next}
use Rattle.empty_product.specs.declared.slots.Demand.{Demand}
use Rattle.empty_product.specs.declared.slots.Slot.{Slot}
use Rattle.empty_product.specs.declared.slots.Unwanted.{Unwanted}
use Rattle.empty_product.specs.Products.{AreNarrower, AreSlots, AreUnwanted, AsksNext, AsksPart, Avoids, HasHeldPart, HasNoNext, IsIn, TellsFilling, TellsNext, all_askings, askings_of, places_of}
use Rattle.empty_product.specs.Slots.{Place, Asking, AvoidsAt, IsDemand, asking_of, place_of}
use Rattle.empty_product.proofs.Avoidance.{AvoidsBefore, AvoidsNow, NoneIn, all_steps, one_more_step}
use Rattle.empty_product.proofs.GrownPlaces.{all_askings-keep, askings-keep, part-keeps, places-keep}
use Rattle.empty_product.proofs.PlacedParts.{more-AsksPart, narrower-AsksPart, narrower-Avoids, narrower-IsIn, some_same, step-AsksPart, wider-IsIn}

-- ---- the first of a list, and the rest of it

module _ {X : Type 0} where
  abbrev pub rest_of : List X → List X
  rest_of xs = take (length xs - 1) (drop 1 xs)

  pub first-rest : (xs : List X) (d : X) → 1 ≤ length xs → xs ≡ get_or xs 0 d ∷ rest_of xs
  first-rest [] d h = absurd (omega (arith, h))
  first-rest (x ∷ xs) d h = let long : length (x ∷ xs) - 1 ≡ length xs = omega arith in ap (λ ys. x ∷ ys) (sym (ap (λ n. take n xs) long ∙ take-length xs))

  pub rest-shorter : (xs : List X) (d : X) → 1 ≤ length xs → length (rest_of xs) < length xs
  rest-shorter xs d h = let same = ap (length {A = X}) (first-rest xs d h) in omega (arith, same)

  pub no_items : (xs : List X) → length xs ≡ 0 → xs ≡ []
  no_items [] e = refl
  no_items (x ∷ xs) e = absurd (omega (arith, e))

module _ (old : Table) (us : List Unwanted) (f : Unwanted) (some : 1 ≤ length us) (first : f ≡ get_or us 0 f) where
  pub all-first : all_askings old us ≡ askings_of old f ∷ all_askings old (rest_of us)
  all-first = ap (all_askings old) (first-rest us f some) ∙ (λ i. askings_of old (sym first i) ∷ all_askings old (rest_of us))

  module _ (places : ℕ) (are : AreUnwanted old places us) where
    pub first-IsOver : All (IsDemand old) f.demands.items × (length f.demands.items ≡ places)
    first-IsOver =
        subst (λ u. All (IsDemand old) u.demands.items × (length u.demands.items ≡ places)) (sym first)
        (All-get_or (λ u. All (IsDemand old) u.demands.items × (length u.demands.items ≡ places)) us 0 f (omega (arith, some)) are)

    pub rest-AreUnwanted : AreUnwanted old places (rest_of us)
    rest-AreUnwanted =
        All-tail (λ u. All (IsDemand old) u.demands.items × (length u.demands.items ≡ places)) (get_or us 0 f) (rest_of us)
        (subst (All (λ u. All (IsDemand old) u.demands.items × (length u.demands.items ≡ places))) (first-rest us f some) are)

-- ---- what is told of the next slots, in terms of the first table

pub told-next : (old mid new : Table) (kept : List (ℕ × Option Shape)) (slots : List Slot) (f : Unwanted) (demands : List Demand) (place : ℕ) (absent : Bool) (next : Next) → Keeps old mid → AreSlots old slots → All (IsDemand old) f.demands.items → demands ≡ f.demands.items
    → TellsNext new kept (places_of mid slots) (map (asking_of mid) demands) place absent next → TellsNext new kept (places_of old slots) (askings_of old f) place absent next
told-next old mid new kept slots f demands place absent next keeps are over same tells =
    subst (λ bs. TellsNext new kept (places_of old slots) bs place absent next) (ap (map (asking_of mid)) same ∙ askings-keep old mid keeps f.demands.items over)
    (subst (λ ps. TellsNext new kept ps (map (asking_of mid) demands) place absent next) (places-keep old mid keeps slots are) tells)

-- and of their filling
pub told-rest : (env : List AtomDef) (old new fin : Table) (kept : List (ℕ × Option Shape)) (places : ℕ) (next items : List Slot) (us : List Unwanted) (filling : Filling) → Keeps old new → AreUnwanted old places us → items ≡ next
    → TellsFilling env fin kept (places_of new items) (all_askings new us) filling → TellsFilling env fin kept (places_of new next) (all_askings old us) filling
told-rest env old new fin kept places next items us filling keeps are same tells =
    subst (λ bs. TellsFilling env fin kept (places_of new next) bs filling) (all_askings-keep old new keeps places us are)
    (subst (λ ss. TellsFilling env fin kept (places_of new ss) (all_askings new us) filling) same tells)

-- ---- where the first atom is avoided by each filling

module _ (env : List AtomDef) (fin : Table) (kept : List (ℕ × Option Shape)) (places : List Place) (first : List Asking) (atoms : List (List Asking)) where
  pub skipped : ((parts : List (Option Shape)) → IsIn env places parts → Avoids env first parts) → (filling : Filling) → TellsFilling env fin kept places atoms filling → TellsFilling env fin kept places (first ∷ atoms) filling
  skipped avoided (Parts v) h = (h.0, All-cons (λ a. Avoids env a v.items) first atoms (avoided v.items h.0) h.1)
  skipped avoided Empty h = λ parts is all. h parts is (All-tail (λ a. Avoids env a parts) first atoms all)
  skipped avoided (Ask q) h = (h.0, h.1, h.2, more-AsksPart places _ first atoms h.3)

  -- after all steps
  pub none-after : (steps n : ℕ) → length first ≡ n → 2 * n ≤ steps → NoneIn env fin kept places first atoms steps → (parts : List (Option Shape)) → IsIn env places parts → All (λ a. Avoids env a parts) (first ∷ atoms) → HasHeldPart env fin kept parts
  none-after steps n long enough none parts is all =
      let b = all_steps env first parts n long (All-head (λ a. Avoids env a parts) first atoms all) in
      none parts is
      (record { place = b.place; asking = b.asking; part = b.part; asks = b.asks; stands = b.stands; avoids = b.avoids; earlier = omega (arith, b.earlier, enough) })
      (All-tail (λ a. Avoids env a parts) first atoms all)

-- ---- one step

pub length-next : (new : Table) (kept : List (ℕ × Option Shape)) (places : List Place) (first : List Asking) (place : ℕ) (absent : Bool) (next : List Slot) → AreNarrower new kept places first place absent next → length next ≡ length places
length-next new kept places first place absent next h = sym (length-map next (place_of new)) ∙ (ap (length {A = Place}) h.others ∙ length-set places place h.narrower)

module _ (env : List AtomDef) (mid new : Table) (kept : List (ℕ × Option Shape)) (places : List Place) (first : List Asking) (atoms : List (List Asking)) (step : ℕ) where
  abbrev place : ℕ
  place = step / 2

  abbrev absent : Bool
  absent = nat_eq (step % 2) 0

  module _ (none : NoneIn env mid kept places first atoms step) (keeps : Keeps mid new) (sound : All (IsSound env mid) kept) where
    pub none-Nothing : HasNoNext new kept places first place absent → NoneIn env new kept places first atoms (step + 1)
    none-Nothing h parts is before all = ⊎_elim
        (λ (b : AvoidsBefore env first parts step). part-keeps mid new keeps env kept sound parts (none parts is b all))
        (λ (n : AvoidsNow env first parts place absent).
        let same : n.asking ≡ h.asking = some_same n.asking h.asking (sym n.asks ∙ h.stands.is_asking) in
        let held = h.void env n.part (is.each place h.at n.part h.stands.is_place n.stands) (subst (λ a. AvoidsAt env a n.part) same n.avoids) n.absence in
        record { place = place; part = held.0; stands = n.stands ∙ ap Some held.1; held = held.2 })
        (one_more_step env first parts step before)

  pub ask-AsksPart : (d : Condition) → AsksNext new kept places first place absent d → AsksPart places (first ∷ atoms) d
  ask-AsksPart d h = step-AsksPart places d first atoms place h.at h.asking h.stands.is_place h.stands.is_asking h.base h.has h.asked

  module _ (next : List Slot) (h : AreNarrower new kept places first place absent next) where
    pub next-Parts : (parts : List (Option Shape)) → IsIn env (places_of new next) parts × All (λ a. Avoids env a parts) atoms → IsIn env places parts × All (λ a. Avoids env a parts) (first ∷ atoms)
    next-Parts parts found =
        let is = subst (λ ps. IsIn env ps parts) h.others found.0 in (
          wider-IsIn env places place h.at h.narrower h.asking absent h.stands.is_place h.narrows parts is,
          All-cons (λ a. Avoids env a parts) first atoms (narrower-Avoids env places place h.at h.narrower h.asking absent h.stands.is_place h.narrows first h.stands.is_asking parts is) found.1,
        )

    pub next-AsksPart : (d : Condition) → AsksPart (places_of new next) atoms d → AsksPart places (first ∷ atoms) d
    next-AsksPart d asks =
        narrower-AsksPart places d first atoms place h.at h.asking h.stands.is_place h.stands.is_asking h.narrower absent h.narrows (subst (λ ps. AsksPart ps atoms d) h.others asks)

    pub none-Empty : (fin : Table) → Keeps mid fin → All (IsSound env mid) kept → NoneIn env mid kept places first atoms step
        → ((parts : List (Option Shape)) → IsIn env (places_of new next) parts → All (λ a. Avoids env a parts) atoms → HasHeldPart env fin kept parts)
        → NoneIn env fin kept places first atoms (step + 1)
    none-Empty fin keeps sound none empty parts is before all = ⊎_elim
        (λ (b : AvoidsBefore env first parts step). part-keeps mid fin keeps env kept sound parts (none parts is b all))
        (λ (n : AvoidsNow env first parts place absent).
        let same : n.asking ≡ h.asking = some_same n.asking h.asking (sym n.asks ∙ h.stands.is_asking) in
        let narrow = narrower-IsIn env places place h.at h.narrower h.asking absent h.stands.is_place h.narrows parts n.part is n.stands (subst (λ a. AvoidsAt env a n.part) same n.avoids) n.absence in
        empty parts (subst (λ ps. IsIn env ps parts) (sym h.others) narrow) all)
        (one_more_step env first parts step before)
