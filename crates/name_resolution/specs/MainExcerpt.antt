-- Whether the function `main` stands before all faults in names, and whether what it reaches is without fault.
use Rattle.std.specs.Prelude.{◌≡◌, ◌==◌, ◌&&◌, ◌⊎◌, ℕ, suc, Bool, true, false, List, Option, None, Some, Result, Ok, Err, take}
use Rattle.std.specs.List.{position_from}
use Rattle.bal_base.specs.declared.fault.Fault.{Fault}
use Rattle.bal_base.specs.declared.stop.Memory.{Memory as NoMemory}
use Rattle.bal_base.specs.declared.stop.Stop.{Stop}
use Rattle.bal_base.specs.declared.stop.Stop.TheVariants.{Memory, Fault as OwnFault}
use Rattle.checks.specs.Checks.{Check, Gives, Refuses}
use Rattle.descriptors.specs.Described.{Atoms}
use Rattle.name_resolution.specs.Excerpts.{picked}
use Rattle.name_resolution.specs.Faults.{all_named, definitions_named}
use Rattle.name_resolution.specs.MainForm.{main_name}
use Rattle.graphs.specs.Ordering.{IsOrder}
use Rattle.name_resolution.specs.Reached.{AreReached, is_reached}
use Rattle.name_resolution.specs.Resolved.{parts}
use Rattle.name_resolution.specs.declared.excerpts.Excerpt.{Excerpt}
use Rattle.name_resolution.specs.declared.outlines.Outline.{Outline}
use Rattle.type_model.specs.Places.{is_same_text}

-- ---- checks that look at no atom

abbrev pub FindsNothing : Check Atoms (Unit {0}) → Type 0
FindsNothing check = (env : Atoms) → check env (Gives tt) env

abbrev pub FindsFault : Check Atoms (Unit {0}) → Type 0
FindsFault check = (f : Fault) × ((env : Atoms) → check env (Refuses f) env)

-- which of both is told
abbrev pub TellsOf : Check Atoms (Unit {0}) → Bool → Type 0
TellsOf check true = FindsNothing check
TellsOf check false = FindsFault check

-- ---- `main` among the definitions

-- the definition is that of the name `main` in this module
abbrev pub is_main_in : ℕ → Outline → Bool
is_main_in home d = home == d.«module» && is_same_text d.name main_name

module _ (outlines : List Outline) (home : ℕ) where
  -- the number of the first definition of this name in the default module, which is `home`
  abbrev pub main_number : Option ℕ
  main_number = position_from (is_main_in home) 0 outlines

  abbrev pub IsMain : ℕ → Type 0
  IsMain m = main_number ≡ Some m

  -- the definitions up to this number
  abbrev pub named_up_to : ℕ → Check Atoms (Unit {0})
  named_up_to m = definitions_named outlines home 0 (take (suc m) outlines)

  -- `main` has no fault in its names and its form, and neither has any definition before it
  abbrev pub StandsBefore : ℕ → Type 0
  StandsBefore m = IsMain m × FindsNothing (named_up_to m)

  -- there is no `main`, or there is a fault in it or before it
  abbrev pub NoneBefore : Type 0
  NoneBefore = (main_number ≡ None) ⊎ ((m : ℕ) × IsMain m × FindsFault (named_up_to m))

  -- the names of the definitions that are chosen, and of no others
  abbrev pub chosen_named : (ℕ → Bool) → Check Atoms (Unit {0})
  chosen_named chosen = all_named (picked chosen 0 outlines) home

  -- ---- what a search for the excerpt answers

  -- `main` stands before all faults, what it reaches is without fault, and these are the numbers of that in an order in which
  -- parts come first, counted among what is reached.
  pub record IsExcerptFrom (m : ℕ) (e : Excerpt) : Type 0 where
    pub before : StandsBefore m
    pub reached : AreReached outlines m (is_reached e.away.items)
    pub named : FindsNothing (chosen_named (is_reached e.away.items))
    pub order : IsOrder (parts (picked (is_reached e.away.items) 0 outlines)) e.order.items

  -- `main` stands before all faults, and what it reaches has one
  abbrev pub IsFaulty : ℕ → Type 0
  IsFaulty m = StandsBefore m × ((chosen : ℕ → Bool) × AreReached outlines m chosen × FindsFault (chosen_named chosen))

  abbrev pub IsMainExcerpt : Option Excerpt → Type 0
  IsMainExcerpt None = NoneBefore ⊎ ((m : ℕ) × IsFaulty m)
  IsMainExcerpt (Some e) = (m : ℕ) × IsExcerptFrom m e

-- ---- the steps

-- what is told of an answer
abbrev pub IsWhether : Result (Unit {0}) (Stop Fault) → Result Bool NoMemory → Type 0
IsWhether (Ok u) told = told ≡ Ok true
IsWhether (Err (OwnFault f)) told = told ≡ Ok false
IsWhether (Err Memory) told = (m : NoMemory) × (told ≡ Err m)

-- of chosen definitions, whose distances are these: a fault, or that there is none, and the order
pub record IsInOrder (chosen : List Outline) (home : ℕ) (away : List (Option ℕ)) (e : Excerpt) : Type 0 where
  pub far : e.away.items ≡ away
  pub named : FindsNothing (all_named chosen home)
  pub order : IsOrder (parts chosen) e.order.items

abbrev pub IsOrdered : List Outline → ℕ → List (Option ℕ) → Option Excerpt → Type 0
IsOrdered chosen home away None = FindsFault (all_named chosen home)
IsOrdered chosen home away (Some e) = IsInOrder chosen home away e
