-- What is asked of types, and what a check may conclude.
use Rattle.std.specs.Prelude.{◌≡◌, ◌⊎◌, ◌+◌, ◌<◌, ◌++◌, length, List, ℕ, Bool, true, false, Option, None, Some}
use Rattle.bal_base.specs.declared.fault.Fault.{Fault}
use Rattle.bal_base.specs.declared.fault.FaultCode.{FaultCode}
use Rattle.bal_base.specs.declared.fault.FaultCode.TheVariants.{TypeLimit as TooLarge, AtomLimit as TooManyAtoms, NotSubtype}
use Rattle.bal_base.specs.declared.fault.Kept.{Kept}
use Rattle.bal_base.specs.declared.fault.Kept.TheVariants.{Nothing, Shape as ShowsShape}
use Rattle.bal_base.specs.declared.limits.TheConstants.{MOST_ATOMS}
use Rattle.bal_base.specs.declared.place.Place.{Place}
use Rattle.bal_base.specs.declared.shape.Shape.{Shape}
use Rattle.bal_base.specs.declared.stop.Stop.{Stop}
use Rattle.bal_base.specs.declared.stop.Stop.TheVariants.{Memory, Fault as OwnFault}
use Rattle.type_model.specs.declared.answers.Answer.{Answer}
use Rattle.type_model.specs.declared.answers.Answer.TheVariants.{Yes, No}
use Rattle.type_model.specs.declared.answers.Keys.{Keys}
use Rattle.type_model.specs.declared.answers.TypeLimit.{TypeLimit}
use Rattle.type_model.specs.declared.atoms.AtomDef.{AtomDef}
use Rattle.type_model.specs.declared.basic.SemType.{SemType}
use Rattle.type_model.specs.Application.{IsLeastResult, IsOutside}
use Rattle.type_model.specs.Calls.{Asked, Without, Alone, Applied}
use Rattle.type_model.specs.Defined.{IsDefined}
use Rattle.type_model.specs.Inclusion.{Sub, IsShapeOf, IsEmpty, HasExactly}
use Rattle.type_model.specs.Membership.{In}
use Rattle.type_model.specs.Parts.{StandsAt}
use Rattle.checks.specs.Checks.{Check, Gives, Refuses}

-- the fault has this code and this place, and shows this
pub record IsFault (code : FaultCode) (at : Option Place) (shown : Kept) (f : Fault) : Type 0 where
  pub has_code : f.code ≡ code
  pub stands : f.at ≡ at
  pub shows : f.kept ≡ shown

-- whether an answer is yes
abbrev pub IsYes : Answer → Bool → Type 0
IsYes Yes b = b ≡ true
IsYes (No x) b = b ≡ false

-- whether a shape was found
abbrev pub IsFound : Option Shape → Bool → Type 0
IsFound None b = b ≡ false
IsFound (Some x) b = b ≡ true

-- what becomes of why a question was not answered: a limit is told at the place, and want of memory passes
abbrev pub IsLimitAt : Option Place → Stop TypeLimit → Stop Fault → Type 0
IsLimitAt at Memory stop = stop ≡ Memory
IsLimitAt at (OwnFault limit) Memory = ⊥
IsLimitAt at (OwnFault limit) (OwnFault f) = IsFault TooLarge at Nothing f

-- a further group of atoms of which P holds; its first number is how many there are
unfoldable pub adds : (List AtomDef → List AtomDef → Type 0) → Option Place → Check (List AtomDef) ℕ
adds P at old (Gives first) new = (defs : List AtomDef) × P old defs × (first ≡ length old) × (new ≡ old ++ defs)
adds P at old (Refuses f) new =
    (defs : List AtomDef) × P old defs × (MOST_ATOMS < length old + length defs) × IsFault TooManyAtoms at Nothing f × (new ≡ old)

-- `passes`: which questions pass a limit
module _ (passes : List AtomDef → Asked → TypeLimit → Type 0) where
  -- the question passes a limit
  abbrev pub IsTooLarge : Asked → Option Place → List AtomDef → Fault → Type 0
  IsTooLarge question at env f = (limit : TypeLimit) × passes env question limit × IsFault TooLarge at Nothing f

  -- a shape of s shows that s isn't below t
  abbrev pub ShowsOutside : SemType → SemType → Option Place → List AtomDef → Fault → Type 0
  ShowsOutside s t at env f = (x : Shape) × IsShapeOf env s x × (¬ In env x t) × IsFault NotSubtype at (ShowsShape x) f

  -- s has to be below t
  unfoldable pub below : SemType → SemType → Option Place → Check (List AtomDef) (Unit {0})
  below s t at old (Gives u) new = Sub old s t × (new ≡ old)
  below s t at old (Refuses f) new = (ShowsOutside s t at old f ⊎ IsTooLarge (Without s t) at old f) × (new ≡ old)

  -- whether s is below t
  unfoldable pub is_below : SemType → SemType → Option Place → Check (List AtomDef) Bool
  is_below s t at old (Gives true) new = Sub old s t × (new ≡ old)
  is_below s t at old (Gives false) new = ((x : Shape) × IsShapeOf old s x × ¬ In old x t) × (new ≡ old)
  is_below s t at old (Refuses f) new = IsTooLarge (Without s t) at old f × (new ≡ old)

  -- whether t has a shape
  unfoldable pub has_some : SemType → Option Place → Check (List AtomDef) Bool
  has_some t at old (Gives true) new = ((x : Shape) × IsShapeOf old t x) × (new ≡ old)
  has_some t at old (Gives false) new = IsEmpty old t × (new ≡ old)
  has_some t at old (Refuses f) new = IsTooLarge (Alone t) at old f × (new ≡ old)

  -- the type of what stands at such keys in shapes of t
  unfoldable pub member : SemType → Keys → Option Place → Check (List AtomDef) SemType
  member t keys at old (Gives m) new = IsDefined old m × HasExactly old m (StandsAt old t keys) × (new ≡ old)
  member t keys at old (Refuses f) new = IsTooLarge (Alone t) at old f × (new ≡ old)

  -- the least type of what functions of f give to arguments in args, all of which have to be in the domain
  unfoldable pub applied : SemType → SemType → Option Place → Check (List AtomDef) SemType
  applied f args at old (Gives r) new = IsDefined old r × IsLeastResult old f args r × (new ≡ old)
  applied f args at old (Refuses fault) new =
      (((x : Shape) × IsOutside old f args x × IsFault NotSubtype at (ShowsShape x) fault) ⊎ IsTooLarge (Applied f args) at old fault) × (new ≡ old)
