-- The first fault in what the definitions of a package say of names, as checks in text order.
use Rattle.std.specs.Prelude.{◌≡◌, ◌==◌, ◌&&◌, ◌++◌, ◌∷◌, [], ℕ, suc, List, map, not, Option, None, Some, slice_get, true, if◌then◌else◌}
use Rattle.std.specs.Option.{option_or}
use Rattle.bal_base.specs.declared.fault.Fault.{Fault}
use Rattle.bal_base.specs.declared.fault.FaultCode.TheVariants.{BadMain, IllFounded}
use Rattle.bal_base.specs.declared.fault.Kept.TheVariants.{Names as ShowsNames}
use Rattle.bal_base.specs.declared.text.Name.{Name}
use Rattle.checks.specs.Checks.{Check, Gives, Refuses, ◌▷◌, gives, refuses}
use Rattle.name_resolution.specs.declared.outlines.Outline.{Outline}
use Rattle.name_resolution.specs.declared.named.Graph.{Graph}
use Rattle.graphs.specs.Cycles.{IsFirstCycle, IsOnCycle}
use Rattle.graphs.specs.Distances.{IsReversed}
use Rattle.name_resolution.specs.MainForm.{main_name}
use Rattle.name_resolution.specs.Resolved.{fault_at, first_fault, parts}
use Rattle.name_resolution.specs.Tables.{IsTableOf}
use Rattle.type_model.specs.Places.{is_same_text}

abbrev pub name_if : Option Outline → List Name
name_if None = []
name_if (Some d) = d.name ∷ []

-- no fault, or this one
abbrev pub unless : {S : Type 0} → Option Fault → Check S (Unit {0})
unless None = gives tt
unless (Some f) = refuses (λ old g. g ≡ f)

-- What is wrong with the function `main` where it is written, at its first token; `home`: the number of the default module.
abbrev pub form_fault : ℕ → Outline → Option Fault
form_fault home d = if home == d.«module» && is_same_text d.name main_name && not d.may_be_main then Some (fault_at BadMain d.at) else None

module _ (outlines : List Outline) where
  -- the names of the definitions with these numbers
  abbrev pub names_of : List ℕ → List Name
  names_of [] = []
  names_of (n ∷ numbers) = name_if (slice_get outlines n) ++ names_of numbers

  -- what is wrong where a definition and these others are parts of one another
  abbrev pub cycle_fault : ℕ → Outline → List ℕ → Fault
  cycle_fault n d others = record { code = IllFounded; at = Some d.at; kept = ShowsNames (names_of (n ∷ others)) }

  -- the first fault in the names of a definition, and behind these that of the form of `main`
  abbrev pub definition_fault : ℕ → ℕ → Outline → Option Fault
  definition_fault home n d = option_or (first_fault outlines n d d.mentions) (form_fault home d)

  module _ {S : Type 0} where
    -- the type that a definition defines isn't a part of itself
    unfoldable pub no_cycle : ℕ → Outline → Check S (Unit {0})
    no_cycle n d old (Gives u) new = (¬ IsOnCycle (parts outlines) n) × (new ≡ old)
    no_cycle n d old (Refuses f) new =
        ((others : List ℕ) × IsFirstCycle (parts outlines) n others × (f ≡ cycle_fault n d others)) × (new ≡ old)

    -- the definition with this number
    abbrev pub definition_named : ℕ → ℕ → Outline → Check S (Unit {0})
    definition_named home n d = no_cycle n d ▷ λ u. unless (definition_fault home n d)

    -- definitions in text order, from this number on
    abbrev pub definitions_named : ℕ → ℕ → List Outline → Check S (Unit {0})
    definitions_named home n [] = gives tt
    definitions_named home n (d ∷ ds) = definition_named home n d ▷ λ u. definitions_named home (suc n) ds

    -- all of them
    abbrev pub all_named : ℕ → Check S (Unit {0})
    all_named home = definitions_named home 0 outlines

  -- which definitions are parts of which
  pub record IsGraphOf (graph : Graph) : Type 0 where
    pub table : IsTableOf outlines graph.table.numbers
    pub parts_are : map (λ v. v.items) graph.parts.items ≡ parts outlines
    pub reversed : IsReversed (parts outlines) (map (λ v. v.items) graph.back.items)
    pub acyclic : graph.acyclic ≡ true → (i : ℕ) → ¬ IsOnCycle (parts outlines) i

-- No definition has a fault: each name is given once, each name of a type stands for one, and no type is its own part.
pub record AreNamed (outlines : List Outline) : Type 0 where
  pub faultless : (n : ℕ) (d : Outline) → slice_get outlines n ≡ Some d → first_fault outlines n d d.mentions ≡ None
  pub acyclic : (n : ℕ) → ¬ IsOnCycle (parts outlines) n
