-- The question about the result of the function `main` in its place among the faults of names.
use Rattle.std.specs.Prelude.{◌≡◌, ◌⊎◌, ℕ, Bool, List}
use Rattle.bal_base.specs.declared.fault.Fault.{Fault}
use Rattle.bal_tree.specs.declared.package.Package.{Package}
use Rattle.checks.specs.Checks.{Check, Outcome, Gives, Refuses, ◌▷◌, gives}
use Rattle.descriptors.specs.Described.{Atoms}
use Rattle.descriptors.specs.Language.{own_types}
use Rattle.descriptors.specs.declared.names.Names.{Names}
use Rattle.descriptors.specs.declared.names.OwnTypes.{OwnTypes}
use Rattle.name_resolution.specs.Excerpts.{IsExcerpt}
use Rattle.name_resolution.specs.Faults.{all_named}
use Rattle.name_resolution.specs.MainExcerpt.{FindsFault, NoneBefore, StandsBefore, FindsNothing}
use Rattle.name_resolution.specs.Outlines.{outlines_of}
use Rattle.name_resolution.specs.Reached.{AreReached}
use Rattle.type_builder.specs.AtomPlaces.{package_places, room_for}
use Rattle.type_builder.specs.Building.{defines_all}
use Rattle.type_builder.specs.MainFunction.{main_fits}
use Rattle.type_model.specs.declared.answers.TypeLimit.{TypeLimit}
use Rattle.type_model.specs.declared.atoms.AtomDef.{AtomDef}
use Rattle.type_model.specs.Calls.{Asked}

-- q has of the definitions of p the one with this number and what it reaches
abbrev pub IsReachedPart : Package → ℕ → Package → Type 0
IsReachedPart p m q = (chosen : ℕ → Bool) × AreReached (outlines_of p) m chosen × IsExcerpt chosen p q

-- the names of a package, taken by itself
abbrev pub package_named : Package → Check Atoms (Unit {0})
package_named q = all_named (outlines_of q) q.main

-- room for the atoms of a package
abbrev pub room_of : Package → OwnTypes → Check Atoms OwnTypes
room_of q own = room_for (package_places q) ▷ λ v. gives own

-- the language's own types, and room behind them
abbrev pub roomy : Package → Check Atoms OwnTypes
roomy q = own_types ▷ λ own. room_of q own

-- ---- what is told where there is a fault in names, `behind`: that one, or what the question about the result of `main` comes to

-- the fault behind is told, and nothing was done
abbrev pub Stays : Fault → Atoms → Fault → Atoms → Type 0
Stays behind old told new = (told ≡ behind) × (new ≡ old)

abbrev pub IsFirst : Outcome (Unit {0}) → Fault → Fault → Type 0
IsFirst (Gives u) behind told = told ≡ behind
IsFirst (Refuses f) behind told = told ≡ f

-- without room nothing is asked
pub record HasNoRoom (q : Package) (behind : Fault) (old : Atoms) (told : Fault) (new : Atoms) : Type 0 where
  pub fault : Fault
  pub full : roomy q old (Refuses fault) new
  pub stays : told ≡ behind

-- `passes`: which questions pass a limit
module _ (passes : List AtomDef → Asked → TypeLimit → Type 0) where
  -- the question about the result, over the atoms of a package
  abbrev pub result_fits : Package → OwnTypes → Check Atoms (Unit {0})
  result_fits q own = defines_all q own ▷ λ names. main_fits passes q names

  -- with room it is asked over the atoms of this package alone
  pub record IsAskedFirst (q : Package) (behind : Fault) (old : Atoms) (told : Fault) (new : Atoms) : Type 0 where
    pub own : OwnTypes
    pub mid : Atoms
    pub room : roomy q old (Gives own) mid
    pub outcome : Outcome (Unit {0})
    pub asked : result_fits q own mid outcome new
    pub first : IsFirst outcome behind told

  -- `main` and what it reaches have a fault in names themselves, or none
  abbrev pub IsToldOfPart : Package → Fault → Atoms → Fault → Atoms → Type 0
  IsToldOfPart q behind old told new =
      (FindsFault (package_named q) × Stays behind old told new)
      ⊎ (FindsNothing (package_named q) × (HasNoRoom q behind old told new ⊎ IsAskedFirst q behind old told new))

  -- `main` stands before all faults, or it doesn't
  abbrev pub IsToldFirst : Package → Fault → Atoms → Fault → Atoms → Type 0
  IsToldFirst p behind old told new =
      (NoneBefore (outlines_of p) p.main × Stays behind old told new)
      ⊎ ((m : ℕ) × StandsBefore (outlines_of p) p.main m × (q : Package) × IsReachedPart p m q × IsToldOfPart q behind old told new)

  -- All names, and among them the form of `main` and what it gives: the first fault in text order.
  unfoldable pub named_in_order : Package → Check Atoms (Unit {0})
  named_in_order p old (Gives u) new = package_named p old (Gives u) new
  named_in_order p old (Refuses told) new = (behind : Fault) × package_named p old (Refuses behind) old × IsToldFirst p behind old told new

  -- ---- all of it

  -- behind the names: the language's own types, room for the atoms, what names stand for, and what `main` gives
  abbrev pub built_named : Package → Check Atoms Names
  built_named p =
      own_types ▷ λ own. room_for (package_places p) ▷ λ v. defines_all p own ▷ λ names. main_fits passes p names ▷ λ w. gives names

  -- First all names in order, and behind them the rest.
  abbrev pub built : Package → Check Atoms Names
  built p = named_in_order p ▷ λ u. built_named p
