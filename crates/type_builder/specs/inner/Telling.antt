-- What is told where there is a fault in names, step by step.
use Rattle.std.specs.Prelude.{◌≡◌, ◌⊎◌, ⊤, List, Result, Ok, Err}
use Rattle.bal_base.specs.declared.fault.Fault.{Fault}
use Rattle.bal_base.specs.declared.stop.Stop.{Stop}
use Rattle.bal_base.specs.declared.stop.Stop.TheVariants.{Memory, Fault as OwnFault}
use Rattle.bal_tree.specs.declared.package.Package.{Package}
use Rattle.checks.specs.Checks.{Outcome, Gives, Refuses}
use Rattle.descriptors.specs.Described.{Atoms}
use Rattle.descriptors.specs.declared.names.OwnTypes.{OwnTypes}
use Rattle.type_builder.specs.MainInPlace.{HasNoRoom, IsAskedFirst, IsFirst, result_fits, room_of}
use Rattle.type_model.specs.declared.answers.TypeLimit.{TypeLimit}
use Rattle.type_model.specs.declared.atoms.AtomDef.{AtomDef}
use Rattle.type_model.specs.Calls.{Asked}

-- it stopped for want of memory, of which nothing is said, or by a fault of which this holds
abbrev pub IsStop : (Fault → Type 0) → Stop Fault → Type 0
IsStop P Memory = ⊤
IsStop P (OwnFault f) = P f

-- a fault told nothing of the question, so that the one behind is told
abbrev pub IsUnasked : Stop Fault → Fault → Stop Fault → Type 0
IsUnasked Memory behind stop = stop ≡ Memory
IsUnasked (OwnFault f) behind stop = stop ≡ OwnFault behind

-- the question's stop, or the one behind
abbrev pub IsFirstStop : Result (Unit {0}) (Stop Fault) → Fault → Stop Fault → Type 0
IsFirstStop (Ok u) behind stop = stop ≡ OwnFault behind
IsFirstStop (Err s) behind stop = stop ≡ s

-- behind the language's own types without room
pub record IsFull (q : Package) (own : OwnTypes) (behind : Fault) (old new : Atoms) (told : Fault) : Type 0 where
  pub fault : Fault
  pub full : room_of q own old (Refuses fault) new
  pub stays : told ≡ behind

-- `passes`: which questions pass a limit
module _ (passes : List AtomDef → Asked → TypeLimit → Type 0) where
  -- of a package whose names are without fault
  abbrev pub IsStopOf : Package → Fault → Atoms → Atoms → Fault → Type 0
  IsStopOf q behind old new told = HasNoRoom q behind old told new ⊎ IsAskedFirst passes q behind old told new

  -- the same behind the language's own types
  pub record IsAskedWith (q : Package) (own : OwnTypes) (behind : Fault) (old new : Atoms) (told : Fault) : Type 0 where
    pub mid : Atoms
    pub room : room_of q own old (Gives own) mid
    pub outcome : Outcome (Unit {0})
    pub asked : result_fits passes q own mid outcome new
    pub first : IsFirst outcome behind told

  abbrev pub IsRest : Package → OwnTypes → Fault → Atoms → Atoms → Fault → Type 0
  IsRest q own behind old new told = IsFull q own behind old new told ⊎ IsAskedWith q own behind old new told
