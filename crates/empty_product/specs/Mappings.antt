-- Mappings by their keys: what is asked at each, and what is told of mappings against a table of questions.
use Rattle.std.specs.Prelude.{◌≡◌, ◌↔◌, ◌⊎◌, ℕ, List, [], ◌∷◌, ◌++◌, map, length, All, Any, Bool, Option, Some, None, IsTrue, if◌then◌else◌}
use Rattle.std.specs.List.{AllZip}
use Rattle.bal_base.specs.declared.text.Text.{Text}
use Rattle.bal_base.specs.declared.shape.Shape.{Shape, Mapping}
use Rattle.bal_base.specs.declared.shape.Fields.{Fields}
use Rattle.bal_base.specs.Shapes.{fields_list}
use Rattle.type_model.specs.declared.atoms.AtomDef.{AtomDef}
use Rattle.type_diagrams.specs.Conditions.{Condition, AreOne, asks, frozen}
use Rattle.type_diagrams.specs.Members.{Requires, member_of}
use Rattle.type_diagrams.specs.Tables.{Table}
use Rattle.type_diagrams.specs.Whole.{Gives}
use Rattle.empty_product.specs.declared.slots.Slot.{Slot}
use Rattle.empty_product.specs.declared.slots.Slot.TheVariants.{Optional, Absent, Present}
use Rattle.empty_product.specs.declared.slots.Demand.{Demand}
use Rattle.empty_product.specs.declared.slots.Unwanted.{Unwanted}
use Rattle.empty_product.specs.declared.further.RestDemand.{RestDemand}
use Rattle.type_diagrams.specs.declared.turn.Turn.{Turn}
use Rattle.type_diagrams.specs.declared.turn.Turn.TheVariants.{Shape as Found, Empty, Ask}
use Rattle.empty_product.specs.declared.avoid.Filling.TheVariants.{Empty as NoFilling, Ask as AskFilling}
use Rattle.empty_product.specs.declared.further.Further.TheVariants.{Ask as AskFurther}
use Rattle.empty_product.specs.Further.{RestAsking, AreSplit, TellsFurther}
use Rattle.empty_product.specs.Keys.{AreInOrder, HasNamedKeys, IsBehind}
use Rattle.empty_product.specs.Products.{IsIn, Avoids, TellsFilling}
use Rattle.empty_product.specs.Slots.{Place, MayHave, HasNone, MustHave, Asking}

module _ (env : List AtomDef) (wanted : List ℕ) (marked : Bool) where
  -- what is wanted at a key: what each wanted atom asks there, and in marked mappings what may stand in them
  abbrev pub conditions_at : Text → List Condition
  conditions_at key = map (member_of env key) wanted ++ (if marked then frozen ∷ [] else [])

  abbrev pub wanted_at : Text → Condition
  wanted_at key = asks (conditions_at key) []

  -- the place is that of the key: a part is needed where a wanted atom requires one
  abbrev pub IsPlaceOf : Text → Place → Type 0
  IsPlaceOf key (MayHave c) = AreOne c (wanted_at key) × (¬ Any (Requires env key) wanted)
  IsPlaceOf key HasNone = ⊥
  IsPlaceOf key (MustHave c) = AreOne c (wanted_at key) × Any (Requires env key) wanted

  -- the same of a slot, by numbers of diagrams
  abbrev pub IsSlotOf : Table → Text → Slot → Type 0
  IsSlotOf table key (Optional q) = Gives table (wanted_at key) q × (¬ Any (Requires env key) wanted)
  IsSlotOf table key Absent = ⊥
  IsSlotOf table key (Present q) = Gives table (wanted_at key) q × Any (Requires env key) wanted

module _ (env : List AtomDef) where
  -- what an atom asks at a key, and whether it needs a part there
  pub record IsAskingOf (a : ℕ) (key : Text) (asking : Asking) : Type 0 where
    pub part : AreOne asking.part (member_of env key a)
    pub required : IsTrue asking.required ↔ Requires env key a

  -- the same of a demand, by the number of a diagram
  pub record IsDemandOf (table : Table) (a : ℕ) (key : Text) (d : Demand) : Type 0 where
    pub question : Gives table (member_of env key a) d.question
    pub required : IsTrue d.required ↔ Requires env key a

  -- at each of the keys
  abbrev pub AreDemandsOf : Table → List Text → ℕ → Unwanted → Type 0
  AreDemandsOf table keys a u = AllZip (IsDemandOf table a) keys u.demands.items

  -- what the atom asks at a key that it doesn't name
  pub record IsRestDemandOf (table : Table) (key : Text) (a : ℕ) (d : RestDemand) : Type 0 where
    pub atom : d.atom ≡ a
    pub question : Gives table (member_of env key a) d.question

  -- what an atom asks at a key that it doesn't name
  pub record IsRestAskingOf (fresh : Text) (a : ℕ) (r : RestAsking) : Type 0 where
    pub atom : r.atom ≡ a
    pub part : AreOne r.part (member_of env fresh a)

module _ (env : List AtomDef) (wanted : List ℕ) (marked : Bool) where
  -- the places at the keys, and what some atoms ask there
  pub record AreWays (keys : List Text) (atoms : List ℕ) (places : List Place) (askings : List (List Asking)) : Type 0 where
    pub places_are : AllZip (IsPlaceOf env wanted marked) keys places
    pub askings_are : AllZip (λ a row. AllZip (IsAskingOf env a) keys row) atoms askings

-- the members at keys that have a part
abbrev pub members_at : List Text → List (Option Shape) → List (Text × Shape)
members_at [] parts = []
members_at (key ∷ keys) [] = []
members_at (key ∷ keys) (None ∷ parts) = members_at keys parts
members_at (key ∷ keys) (Some x ∷ parts) = (key, x) ∷ members_at keys parts

-- a mapping with these parts at the keys, and with the further ones at keys behind them
pub record IsMappingOf (mark : Bool) (keys : List Text) (parts : List (Option Shape)) (further : List Shape) (x : Shape) : Type 0 where
  pub fields : Fields
  pub fresh : List Text
  pub shape : x ≡ Mapping mark fields
  pub ordered : AreInOrder (keys ++ fresh)
  pub long : length fresh ≡ length further
  pub members : fields_list fields ≡ members_at (keys ++ fresh) (parts ++ map Some further)

-- ---- what is told

module _ (env : List AtomDef) (wanted : List ℕ) (marked : Bool) (table : Table) (kept : List (ℕ × Option Shape)) where
  -- what is told where parts at these places are to avoid these atoms
  abbrev pub TellsWay : List Text → List Shape → List Place → List (List Asking) → Turn → Type 0
  TellsWay keys further places askings (Found x) =
      (parts : List (Option Shape)) × IsIn env places parts × All (λ a. Avoids env a parts) askings × IsMappingOf marked keys parts further x
  TellsWay keys further places askings Empty = TellsFilling env table kept places askings NoFilling
  TellsWay keys further places askings (Ask q) = TellsFilling env table kept places askings (AskFilling q)

  -- of mappings that avoid the staying atoms at named keys, and have the further members
  pub record TellsFilled (keys : List Text) (further : List Shape) (staying : List ℕ) (turn : Turn) : Type 0 where
    pub places : List Place
    pub askings : List (List Asking)
    pub ways : AreWays env wanted marked keys staying places askings
    pub tells : TellsWay keys further places askings turn

  -- some atoms are avoided by further members, and the others at named keys; or a further member is asked for
  pub record IsSettled (keys : List Text) (rest : Condition) (askings : List RestAsking) (turn : Turn) : Type 0 where
    pub further : List Shape
    pub staying : List ℕ
    pub split : AreSplit env table kept rest askings further staying
    pub filled : TellsFilled keys further staying turn

  abbrev pub AsksFurther : Condition → List RestAsking → Turn → Type 0
  AsksFurther rest askings (Found x) = ⊥
  AsksFurther rest askings Empty = ⊥
  AsksFurther rest askings (Ask q) = TellsFurther env table kept rest askings (AskFurther q)

  -- of mappings in all wanted atoms and in no unwanted one
  pub record TellsMappings (unwanted : List ℕ) (turn : Turn) : Type 0 where
    pub keys : List Text
    pub named : HasNamedKeys env (wanted ++ unwanted) keys
    pub fresh : Text
    pub behind : IsBehind keys fresh
    pub rest : Condition
    pub rest_is : AreOne rest (wanted_at env wanted marked fresh)
    pub askings : List RestAsking
    pub askings_are : AllZip (IsRestAskingOf env fresh) unwanted askings
    pub told : AsksFurther rest askings turn ⊎ IsSettled keys rest askings turn
