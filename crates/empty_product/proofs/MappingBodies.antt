-- From the numbers of diagrams to what they stand for, in tables that grow: what is asked of mappings at keys.
use Rattle.std.proofs.Common.{◌≡◌, ◌⊎◌, ⊎_elim, inl, inr, ℕ, ◌+◌, ◌<◌, List, [], ◌∷◌, ◌++◌, map, take, length, get_or, All, Contains, Bool, Option, None, Vec, Global, sym, subst, ◌∙◌}
use Rattle.std.specs.List.{Any, AllZip}
use Rattle.std.proofs.lemmas.List.{take_more}
use Rattle.std.proofs.lemmas.List.Elements.{All-nil, All-cons, All-contains, All-weaker}
use Rattle.bal_base.specs.declared.text.Text.{Text}
use Rattle.bal_base.specs.declared.shape.Shape.{Shape}
use Rattle.type_model.specs.declared.atoms.AtomDef.{AtomDef}
use Rattle.type_diagrams.specs.Conditions.{Condition, AreOne, IsShapeOf}
use Rattle.type_diagrams.specs.Members.{member_of}
use Rattle.type_diagrams.specs.Tables.{Table, IsDiagram}
use Rattle.type_diagrams.specs.Turns.{IsSound}
use Rattle.type_diagrams.specs.Whole.{Keeps}
use Rattle.type_diagrams.proofs.Shapes.{gives-keeps}
use Rattle.empty_product.specs.declared.slots.Slot.{Slot}
use Rattle.empty_product.specs.declared.slots.Slot.TheVariants.{Optional, Absent, Present}
use Rattle.empty_product.specs.declared.slots.Demand.{Demand}
use Rattle.empty_product.specs.declared.slots.Unwanted.{Unwanted}
use Rattle.empty_product.specs.declared.further.RestDemand.{RestDemand}
use Rattle.empty_product.specs.declared.avoid.Filling.TheVariants.{Parts as SomeParts, Empty as NoFilling, Ask as AskFilling}
use Rattle.type_diagrams.specs.declared.turn.Turn.TheVariants.{Shape as Found, Empty, Ask}
use Rattle.empty_product.specs.Further.{RestAsking, AreSplit, IsAvoidedBy, MustStay, TellsFurther, rest_askings_of}
use Rattle.empty_product.specs.Keys.{HasNamedKeys, IsBehind}
use Rattle.empty_product.specs.Play.{AreInPlay}
use Rattle.empty_product.specs.declared.further.Further.TheVariants.{Ask as AskFurther}
use Rattle.type_diagrams.specs.declared.turn.Turn.{Turn}
use Rattle.empty_product.specs.Mappings.{AreDemandsOf, AreWays, IsAskingOf, IsDemandOf, IsMappingOf, IsPlaceOf, IsRestAskingOf, IsRestDemandOf, IsSlotOf, TellsFilled, TellsMappings, wanted_at}
use Rattle.empty_product.specs.Products.{AreSlots, AreUnwanted, TellsFilling, all_askings, places_of}
use Rattle.empty_product.specs.Slots.{IsDemand, IsInHeld, IsSlot, asking_of, place_of}
use Rattle.empty_product.proofs.Zipped.{AllZip-back, AllZip-length, AllZip-push, AllZip-weaker, Any-is, Contains-at, at-Contains}

-- one more of two lists
pub zip-more : {X Y : Type 0} (R S : X → Y → Type 0) → ((x : X) (y : Y) → R x y → S x y) → (xs : List X) (ys : List Y) (i : ℕ) (d : X) (y : Y) → i < length xs → AllZip R (take i xs) ys → S (get_or xs i d) y → AllZip S (take (i + 1) xs) (ys ++ y ∷ [])
zip-more R S f xs ys i d y lt are here =
    subst (λ zs. AllZip S zs (ys ++ y ∷ [])) (sym (take_more xs i d lt)) (AllZip-push S (take i xs) ys (get_or xs i d) y (AllZip-weaker R S f (take i xs) ys are) here)

-- ---- tables that grow

module _ (env : List AtomDef) (old new : Table) (keeps : Keeps old new) where
  pub slot-keeps : (wanted : List ℕ) (marked : Bool) (key : Text) (s : Slot) → IsSlotOf env wanted marked old key s → IsSlotOf env wanted marked new key s
  slot-keeps wanted marked key (Optional q) h = (gives-keeps old new (wanted_at env wanted marked key) q keeps h.0, h.1)
  slot-keeps wanted marked key Absent h = absurd h
  slot-keeps wanted marked key (Present q) h = (gives-keeps old new (wanted_at env wanted marked key) q keeps h.0, h.1)

  pub demand-keeps : (a : ℕ) (key : Text) (d : Demand) → IsDemandOf env old a key d → IsDemandOf env new a key d
  demand-keeps a key d h = record { question = gives-keeps old new (member_of env key a) d.question keeps h.question; required = h.required }

  pub demands-keep : (keys : List Text) (a : ℕ) (u : Unwanted) → AreDemandsOf env old keys a u → AreDemandsOf env new keys a u
  demands-keep keys a u h = AllZip-weaker (IsDemandOf env old a) (IsDemandOf env new a) (demand-keeps a) keys u.demands.items h

  pub rest-keeps : (fresh : Text) (a : ℕ) (d : RestDemand) → IsRestDemandOf env old fresh a d → IsRestDemandOf env new fresh a d
  rest-keeps fresh a d h = record { atom = h.atom; question = gives-keeps old new (member_of env fresh a) d.question keeps h.question }

  module _ (kept : List (ℕ × Option Shape)) (sound : All (IsSound env old) kept) where
    pub in_held-keeps : (x : Shape) → IsInHeld env old kept x → IsInHeld env new kept x
    in_held-keeps x h = record {
      question = h.question;
      held = h.held;
      inside = subst (λ c. IsShapeOf env c x) (sym (keeps.conditions h.question (All-contains (IsSound env old) kept (h.question, None) sound h.held))) h.inside;
    }

    module _ (rest : Condition) where
      avoided-back : (r : RestAsking) (x : Shape) → IsAvoidedBy env new kept rest r x → IsAvoidedBy env old kept rest r x
      avoided-back r x h = record { inside = h.inside; avoids = h.avoids }

      avoided-keeps : (r : RestAsking) (x : Shape) → IsAvoidedBy env old kept rest r x → IsAvoidedBy env new kept rest r x
      avoided-keeps r x h = record { inside = h.inside; avoids = h.avoids }

      stay-keeps : (r : RestAsking) → MustStay env old kept rest r → MustStay env new kept rest r
      stay-keeps r h = λ x av. in_held-keeps x (h x (avoided-back r x av))

      pub split-keeps : (askings : List RestAsking) (parts : List Shape) (staying : List ℕ) → AreSplit env old kept rest askings parts staying → AreSplit env new kept rest askings parts staying
      split-keeps askings parts staying h = record {
        inside = h.inside;
        each = All-weaker (λ a. Any (IsAvoidedBy env old kept rest a) parts ⊎ Contains staying a.atom) (λ a. Any (IsAvoidedBy env new kept rest a) parts ⊎ Contains staying a.atom)
            (λ a. ⊎_elim (λ (n : Any (IsAvoidedBy env old kept rest a) parts). inl (n.0, n.1, n.2, n.3, avoided-keeps a n.1 n.4)) (λ (c : Contains staying a.atom). inr c)) askings h.each;
        stay = All-weaker (λ s. Any (λ a. (a.atom ≡ s) × MustStay env old kept rest a) askings) (λ s. Any (λ a. (a.atom ≡ s) × MustStay env new kept rest a) askings)
            (λ s n. (n.0, n.1, n.2, n.3, (n.4.0, stay-keeps n.1 n.4.1))) staying h.stay;
      }

-- ---- what the numbers stand for

module _ (env : List AtomDef) (table : Table) where
  pub slots-places : (wanted : List ℕ) (marked : Bool) (keys : List Text) (slots : List Slot) → AllZip (IsSlotOf env wanted marked table) keys slots → AllZip (IsPlaceOf env wanted marked) keys (places_of table slots)
  slots-places wanted marked [] [] h = tt
  slots-places wanted marked [] (s ∷ slots) h = absurd h
  slots-places wanted marked (key ∷ keys) [] h = absurd h
  slots-places wanted marked (key ∷ keys) (s ∷ slots) h = (one s h.0, slots-places wanted marked keys slots h.1)
    where
      one : (s : Slot) → IsSlotOf env wanted marked table key s → IsPlaceOf env wanted marked key (place_of table s)
      one (Optional q) h = (h.0.condition, h.1)
      one Absent h = absurd h
      one (Present q) h = (h.0.condition, h.1)

  pub slots-are : (wanted : List ℕ) (marked : Bool) (keys : List Text) (slots : List Slot) → AllZip (IsSlotOf env wanted marked table) keys slots → AreSlots table slots
  slots-are wanted marked [] [] h = All-nil _
  slots-are wanted marked [] (s ∷ slots) h = absurd h
  slots-are wanted marked (key ∷ keys) [] h = absurd h
  slots-are wanted marked (key ∷ keys) (s ∷ slots) h = All-cons (IsSlot table) s slots (one s h.0) (slots-are wanted marked keys slots h.1)
    where
      one : (s : Slot) → IsSlotOf env wanted marked table key s → IsSlot table s
      one (Optional q) h = h.0.diagram
      one Absent h = absurd h
      one (Present q) h = h.0.diagram

  row-askings : (a : ℕ) (keys : List Text) (ds : List Demand) → AllZip (IsDemandOf env table a) keys ds → AllZip (IsAskingOf env a) keys (map (asking_of table) ds)
  row-askings a [] [] h = tt
  row-askings a [] (d ∷ ds) h = absurd h
  row-askings a (key ∷ keys) [] h = absurd h
  row-askings a (key ∷ keys) (d ∷ ds) h = (record { part = h.0.question.condition; required = h.0.required }, row-askings a keys ds h.1)

  pub row-demands : (a : ℕ) (keys : List Text) (ds : List Demand) → AllZip (IsDemandOf env table a) keys ds → All (IsDemand table) ds
  row-demands a [] [] h = All-nil _
  row-demands a [] (d ∷ ds) h = absurd h
  row-demands a (key ∷ keys) [] h = absurd h
  row-demands a (key ∷ keys) (d ∷ ds) h = All-cons (IsDemand table) d ds h.0.question.diagram (row-demands a keys ds h.1)

  pub all-rows : (keys : List Text) (atoms : List ℕ) (us : List Unwanted) → AllZip (AreDemandsOf env table keys) atoms us → AllZip (λ a row. AllZip (IsAskingOf env a) keys row) atoms (all_askings table us)
  all-rows keys [] [] h = tt
  all-rows keys [] (u ∷ us) h = absurd h
  all-rows keys (a ∷ atoms) [] h = absurd h
  all-rows keys (a ∷ atoms) (u ∷ us) h = (row-askings a keys u.demands.items h.0, all-rows keys atoms us h.1)

  pub all-unwanted : (keys : List Text) (places : ℕ) → places ≡ length keys → (atoms : List ℕ) (us : List Unwanted) → AllZip (AreDemandsOf env table keys) atoms us → AreUnwanted table places us
  all-unwanted keys places e [] [] h = All-nil _
  all-unwanted keys places e [] (u ∷ us) h = absurd h
  all-unwanted keys places e (a ∷ atoms) [] h = absurd h
  all-unwanted keys places e (a ∷ atoms) (u ∷ us) h =
      All-cons (λ u. All (IsDemand table) u.demands.items × (length u.demands.items ≡ places)) u us
      (row-demands a keys u.demands.items h.0, AllZip-length (IsDemandOf env table a) keys u.demands.items h.0 ∙ sym e)
      (all-unwanted keys places e atoms us h.1)

  pub rest-askings : (fresh : Text) (atoms : List ℕ) (ds : List RestDemand) → AllZip (IsRestDemandOf env table fresh) atoms ds → AllZip (IsRestAskingOf env fresh) atoms (rest_askings_of table ds)
  rest-askings fresh [] [] h = tt
  rest-askings fresh [] (d ∷ ds) h = absurd h
  rest-askings fresh (a ∷ atoms) [] h = absurd h
  rest-askings fresh (a ∷ atoms) (d ∷ ds) h = (record { atom = h.0.atom; part = h.0.question.condition }, rest-askings fresh atoms ds h.1)

  pub rest-diagrams : (fresh : Text) (atoms : List ℕ) (ds : List RestDemand) → AllZip (IsRestDemandOf env table fresh) atoms ds → All (λ d. IsDiagram table d.question) ds
  rest-diagrams fresh [] [] h = All-nil _
  rest-diagrams fresh [] (d ∷ ds) h = absurd h
  rest-diagrams fresh (a ∷ atoms) [] h = absurd h
  rest-diagrams fresh (a ∷ atoms) (d ∷ ds) h = All-cons (λ d. IsDiagram table d.question) d ds h.0.question.diagram (rest-diagrams fresh atoms ds h.1)

-- what holds of each atom holds of those that stay
pub staying-are : (P : ℕ → Type 0) (env : List AtomDef) (table : Table) (kept : List (ℕ × Option Shape)) (rest : Condition) (fresh : Text) (atoms : List ℕ) (askings : List RestAsking) → AllZip (IsRestAskingOf env fresh) atoms askings → All P atoms
    → (parts : List Shape) (staying : List ℕ) → AreSplit env table kept rest askings parts staying → All P staying
staying-are P env table kept rest fresh atoms askings are all parts staying split =
    All-weaker (λ s. Any (λ a. (a.atom ≡ s) × MustStay env table kept rest a) askings) P (λ s h.
    let n = Any-is (λ a. (a.atom ≡ s) × MustStay env table kept rest a) askings h in
    let at = Contains-at askings n.0 n.1 in
    let a = AllZip-back (IsRestAskingOf env fresh) atoms askings are at.0 n.0 at.1 in
    subst P (sym a.2.atom ∙ n.2.0) (All-contains P atoms a.0 all (at-Contains atoms at.0 a.0 a.1))) staying split.stay

-- ---- what is told at numbers, of what they stand for

module _ (env : List AtomDef) (wanted : List ℕ) (marked : Bool) (keys : List Text) (staying : List ℕ) (first mid : Table) (keeps : Keeps first mid) (slots : List Slot) (us : List Unwanted) (slots_are : AllZip (IsSlotOf env wanted marked first) keys slots) (us_are : AllZip (AreDemandsOf env mid keys) staying us) where
  pub slots_there : AllZip (IsSlotOf env wanted marked mid) keys slots
  slots_there = AllZip-weaker (IsSlotOf env wanted marked first) (IsSlotOf env wanted marked mid) (slot-keeps env first mid keeps wanted marked) keys slots slots_are

  pub ways_there : AreWays env wanted marked keys staying (places_of mid slots) (all_askings mid us)
  ways_there = record { places_are = slots-places env mid wanted marked keys slots slots_there; askings_are = all-rows env mid keys staying us us_are }

  pub avoid-slots : AreSlots mid slots
  avoid-slots = slots-are env mid wanted marked keys slots slots_there

  pub avoid-unwanted : AreUnwanted mid (length slots) us
  avoid-unwanted = all-unwanted env mid keys (length slots) (AllZip-length (IsSlotOf env wanted marked first) keys slots slots_are) staying us us_are

  module _ (new : Table) (kept : List (ℕ × Option Shape)) where
    pub parts-long : (parts : Vec (Option Shape) Global) → TellsFilling env new kept (places_of mid slots) (all_askings mid us) (SomeParts parts) → length parts.items ≡ length keys
    parts-long parts h = h.0.length ∙ AllZip-length (IsPlaceOf env wanted marked) keys (places_of mid slots) ways_there.places_are

    module _ (further : List Shape) where
      pub found-filled : (parts : Vec (Option Shape) Global) (x : Shape) → TellsFilling env new kept (places_of mid slots) (all_askings mid us) (SomeParts parts) → IsMappingOf marked keys parts.items further x → TellsFilled env wanted marked new kept keys further staying (Found x)
      found-filled parts x h is = record { places = places_of mid slots; askings = all_askings mid us; ways = ways_there; tells = (parts.items, h.0, h.1, is) }

      pub empty-filled : TellsFilling env new kept (places_of mid slots) (all_askings mid us) NoFilling → TellsFilled env wanted marked new kept keys further staying Empty
      empty-filled h = record { places = places_of mid slots; askings = all_askings mid us; ways = ways_there; tells = h }

      pub ask-filled : (q : ℕ) → TellsFilling env new kept (places_of mid slots) (all_askings mid us) (AskFilling q) → TellsFilled env wanted marked new kept keys further staying (Ask q)
      ask-filled q h = record { places = places_of mid slots; askings = all_askings mid us; ways = ways_there; tells = h }

-- ---- what is told of the whole

module _ (env : List AtomDef) (wanted : List ℕ) (marked : Bool) (table : Table) (kept : List (ℕ × Option Shape)) (unwanted : List ℕ) (keys : List Text) (named : HasNamedKeys env (wanted ++ unwanted) keys) (fresh : Text) (behind : IsBehind keys fresh)
    (rest : Condition) (rest_is : AreOne rest (wanted_at env wanted marked fresh)) (askings : List RestAsking) (askings_are : AllZip (IsRestAskingOf env fresh) unwanted askings) where
  pub asked-tells : (q : ℕ) → TellsFurther env table kept rest askings (AskFurther q) → TellsMappings env wanted marked table kept unwanted (Ask q)
  asked-tells q h = record {
    keys = keys;
    named = named;
    fresh = fresh;
    behind = behind;
    rest = rest;
    rest_is = rest_is;
    askings = askings;
    askings_are = askings_are;
    told = inl h;
  }

  pub settled-tells : (further : List Shape) (staying : List ℕ) → AreSplit env table kept rest askings further staying → (turn : Turn) → TellsFilled env wanted marked table kept keys further staying turn → TellsMappings env wanted marked table kept unwanted turn
  settled-tells further staying split turn filled = record {
    keys = keys;
    named = named;
    fresh = fresh;
    behind = behind;
    rest = rest;
    rest_is = rest_is;
    askings = askings;
    askings_are = askings_are;
    told = inr (record { further = further; staying = staying; split = split; filled = filled });
  }

-- atoms in play are among the unwanted ones
pub playing-are : (P IsOut : ℕ → Type 0) (unwanted playing : List ℕ) → AreInPlay IsOut unwanted playing → All P unwanted → All P playing
playing-are P IsOut unwanted playing play all = All-weaker (λ a. Contains unwanted a × (¬ IsOut a)) P (λ a h. All-contains P unwanted a all h.0) playing play.among
