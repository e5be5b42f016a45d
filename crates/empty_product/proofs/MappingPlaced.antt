-- What is told at numbers of diagrams of the parts at a target, as what stands at one key of mappings.
use Rattle.std.proofs.Common.{◌≡◌, inl, inr, ℕ, List, [], ◌∷◌, ◌++◌, map, length, All, Bool, true, false, Option, Some, Vec, Global, slice_get}
use Rattle.std.specs.Prelude.{if◌then◌else◌}
use Rattle.std.specs.List.{AllZip}
use Rattle.std.proofs.lemmas.List.Elements.{All-nil, All-cons, All-append}
use Rattle.bal_base.specs.declared.text.Text.{Text}
use Rattle.bal_base.specs.declared.shape.Shape.{Shape}
use Rattle.type_model.specs.declared.atoms.AtomDef.{AtomDef}
use Rattle.type_model.specs.Places.{key_type}
use Rattle.type_diagrams.specs.declared.projection.Projection.{Projection}
use Rattle.type_diagrams.specs.declared.projection.Projection.TheVariants.{Ask}
use Rattle.type_diagrams.specs.Atoms.{parts_of, mapping_parts}
use Rattle.type_diagrams.specs.Conditions.{AreOne, Condition, LooksAtKinds, condition_of, frozen}
use Rattle.type_diagrams.specs.Members.{member_of, type_asked}
use Rattle.type_diagrams.specs.Tables.{Table, condition}
use Rattle.type_diagrams.specs.Whole.{Keeps}
use Rattle.type_diagrams.proofs.Reaching.{asked-Looks, asks-Looks, each, frozen-Looks, one-Looks, type-Looks}
use Rattle.empty_product.specs.declared.further.Further.TheVariants.{Ask as AskFurther}
use Rattle.empty_product.specs.declared.slots.Demand.{Demand}
use Rattle.empty_product.specs.declared.slots.Slot.{Slot}
use Rattle.empty_product.specs.declared.slots.Slot.TheVariants.{Optional, Absent, Present}
use Rattle.empty_product.specs.declared.slots.Unwanted.{Unwanted}
use Rattle.empty_product.specs.Further.{AreSplit, RestAsking, TellsFurther}
use Rattle.empty_product.specs.Keys.{HasNamedKeys, IsBehind}
use Rattle.empty_product.specs.Mappings.{AreDemandsOf, IsDemandOf, IsRestAskingOf, IsSlotOf, conditions_at, wanted_at}
use Rattle.empty_product.specs.MemberParts.{IsRoom, TellsMembers, TellsPlaced}
use Rattle.empty_product.specs.Products.{all_askings, places_of}
use Rattle.empty_product.specs.Standing.{AreLooking, SlotLooks, TellsStanding}
use Rattle.empty_product.proofs.MappingBodies.{slots_there, ways_there}
use Rattle.empty_product.proofs.Zipped.{AllZip-length}

-- ---- at what the questions look

module _ (env : List AtomDef) where
  pub member-Looks : (key : Text) (a : ℕ) → LooksAtKinds env (member_of env key a)
  member-Looks key a =
      asked-Looks env (λ d. type_asked env (key_type d.0 d.1 key)) (λ d. asked-Looks env (λ u. condition_of env u.sem) (λ u. type-Looks env u.sem) (key_type d.0 d.1 key)) (parts_of mapping_parts env a)

  pub wanted-Looks : (wanted : List ℕ) (marked : Bool) (key : Text) → LooksAtKinds env (wanted_at env wanted marked key)
  wanted-Looks wanted marked key =
      asks-Looks env (conditions_at env wanted marked key) [] (All-append (LooksAtKinds env) (map (member_of env key) wanted) (if marked then frozen ∷ [] else []) (each env (member_of env key) wanted (member-Looks key)) (mark marked)) (All-nil (LooksAtKinds env))
    where
      mark : (b : Bool) → All (LooksAtKinds env) (if b then frozen ∷ [] else [])
      mark true = All-cons (LooksAtKinds env) frozen [] (frozen-Looks env) (All-nil (LooksAtKinds env))
      mark false = All-nil (LooksAtKinds env)

  module _ (table : Table) where
    slot-Looks : (wanted : List ℕ) (marked : Bool) (key : Text) (s : Slot) → IsSlotOf env wanted marked table key s → SlotLooks env table s
    slot-Looks wanted marked key (Optional q) h = one-Looks env (wanted_at env wanted marked key) (condition table q) h.0.condition (wanted-Looks wanted marked key)
    slot-Looks wanted marked key Absent h = absurd h
    slot-Looks wanted marked key (Present q) h = one-Looks env (wanted_at env wanted marked key) (condition table q) h.0.condition (wanted-Looks wanted marked key)

    slots-Look : (wanted : List ℕ) (marked : Bool) (keys : List Text) (slots : List Slot) → AllZip (IsSlotOf env wanted marked table) keys slots → All (SlotLooks env table) slots
    slots-Look wanted marked keys [] h = All-nil _
    slots-Look wanted marked [] (s ∷ slots) h = absurd h
    slots-Look wanted marked (key ∷ keys) (s ∷ slots) h = All-cons (SlotLooks env table) s slots (slot-Looks wanted marked key s h.0) (slots-Look wanted marked keys slots h.1)

    row-Looks : (a : ℕ) (keys : List Text) (ds : List Demand) → AllZip (IsDemandOf env table a) keys ds → All (λ d. LooksAtKinds env (condition table d.question)) ds
    row-Looks a keys [] h = All-nil _
    row-Looks a [] (d ∷ ds) h = absurd h
    row-Looks a (key ∷ keys) (d ∷ ds) h = All-cons (λ d. LooksAtKinds env (condition table d.question)) d ds (one-Looks env (member_of env key a) (condition table d.question) h.0.question.condition (member-Looks key a)) (row-Looks a keys ds h.1)

    rows-Look : (keys : List Text) (atoms : List ℕ) (us : List Unwanted) → AllZip (AreDemandsOf env table keys) atoms us → All (λ u. All (λ d. LooksAtKinds env (condition table d.question)) u.demands.items) us
    rows-Look keys atoms [] h = All-nil _
    rows-Look keys [] (u ∷ us) h = absurd h
    rows-Look keys (a ∷ atoms) (u ∷ us) h = All-cons (λ u. All (λ d. LooksAtKinds env (condition table d.question)) u.demands.items) u us (row-Looks a keys u.demands.items h.0) (rows-Look keys atoms us h.1)

-- ---- what is told at numbers, of what they stand for

module _ (env : List AtomDef) (wanted : List ℕ) (marked : Bool) (keys : List Text) (staying : List ℕ) (first mid : Table) (keeps : Keeps first mid) (slots : List Slot) (us : List Unwanted) (slots_are : AllZip (IsSlotOf env wanted marked first) keys slots) (us_are : AllZip (AreDemandsOf env mid keys) staying us) where
  pub slots_long : length slots ≡ length keys
  slots_long = AllZip-length (IsSlotOf env wanted marked first) keys slots slots_are

  pub are-Looking : AreLooking env mid slots us
  are-Looking = (slots-Look env mid wanted marked keys slots (slots_there env wanted marked keys staying first mid keeps slots us slots_are us_are), rows-Look env mid keys staying us us_are)

  pub standing-TellsPlaced : (new : Table) (kept : List (ℕ × Option Shape)) (target : ℕ) (found : Condition) (p : Projection) → TellsStanding env new kept (places_of mid slots) (all_askings mid us) target found p → TellsPlaced env wanted marked new kept keys target staying found p
  standing-TellsPlaced new kept target found p h = record {
    places = places_of mid slots;
    askings = all_askings mid us;
    ways = ways_there env wanted marked keys staying first mid keeps slots us slots_are us_are;
    tells = h;
  }

-- ---- what is told of the members at one key

module _ (env : List AtomDef) (wanted : List ℕ) (marked : Bool) (table : Table) (kept : List (ℕ × Option Shape)) (unwanted : List ℕ) (key : Text) (found : Condition) (keys : List Text) (named : HasNamedKeys env (wanted ++ unwanted) keys) (target : ℕ) (is_target : slice_get keys target ≡ Some key)
    (fresh : Text) (behind : IsBehind keys fresh) (rest : Condition) (rest_is : AreOne rest (wanted_at env wanted marked fresh)) (askings : List RestAsking) (askings_are : AllZip (IsRestAskingOf env fresh) unwanted askings) where
  pub further-TellsMembers : (q : ℕ) → TellsFurther env table kept rest askings (AskFurther q) → TellsMembers env wanted marked table kept unwanted key found (Ask q)
  further-TellsMembers q h = record {
    keys = keys;
    named = named;
    target = target;
    is_target = is_target;
    fresh = fresh;
    behind = behind;
    rest = rest;
    rest_is = rest_is;
    askings = askings;
    askings_are = askings_are;
    told = inl h;
  }

  pub placed-TellsMembers : (further : List Shape) (staying : List ℕ) → AreSplit env table kept rest askings further staying → (all : Vec Text Global) → IsRoom keys (length further) all.items → (p : Projection) → TellsPlaced env wanted marked table kept keys target staying found p → TellsMembers env wanted marked table kept unwanted key found p
  placed-TellsMembers further staying split all room p placed = record {
    keys = keys;
    named = named;
    target = target;
    is_target = is_target;
    fresh = fresh;
    behind = behind;
    rest = rest;
    rest_is = rest_is;
    askings = askings;
    askings_are = askings_are;
    told = inr (record { further = further; staying = staying; split = split; all = all; room = room; placed = placed });
  }
