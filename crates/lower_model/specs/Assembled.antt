-- Code that is put together of what is made for the units of a package is lowered from the package.
use Rattle.std.specs.Prelude.{◌≡◌, ℕ, List, Some, length, map, slice_get}
use Rattle.typed_tree.specs.declared.package.TypedPackage.{TypedPackage}
use Rattle.typed_tree.specs.Units.{UnitBody, UnitTree, unit_at}
use Rattle.eval_model.specs.Trees.{launch_of, unit_facts as tree_facts}
use Rattle.stack_code.specs.declared.code.Code.{Code}
use Rattle.stack_code.specs.CodeMachine.{code_launch, unit_facts}
use Rattle.lower_model.specs.Laying.{Agrees}
use Rattle.lower_model.specs.Making.{Making, firsts_made, place_of, units_made, unmade}
use Rattle.lower_model.specs.Whole.{IsLowered}

abbrev pub bodies_of : List UnitTree → List UnitBody
bodies_of us = map (λ u. u.body) us

-- what is made for these units
abbrev pub made_of : List UnitTree → Making
made_of us = units_made (bodies_of us) unmade

-- the package has these units, by their numbers, without gaps
pub record HasUnits (p : TypedPackage) (us : List UnitTree) : Type 0 where
  pub units : (n : ℕ) → unit_at p n ≡ slice_get us n
  pub count : length us ≡ p.units

-- the code has what is made for them, each from its first place on, and knows of them what the package knows
pub record IsAssembled (p : TypedPackage) (us : List UnitTree) (code : Code) : Type 0 where
  pub made : Agrees code (place_of (made_of us)) (made_of us)
  pub firsts : map (λ v. v.first) code.units ≡ firsts_made (bodies_of us) unmade
  pub slots : map (λ v. length v.slots) code.units ≡ map (λ u. length u.unit.slots) us
  pub facts : map unit_facts code.units ≡ map (λ u. tree_facts (Some u)) us
  pub initialisers : map (λ i. i.unit.number) p.initialisers.items ≡ code.initialisers
  pub launch : launch_of p ≡ code_launch code

abbrev pub AssembledIsLowered : Type 0
AssembledIsLowered = (p : TypedPackage) (us : List UnitTree) (code : Code) → HasUnits p us → IsAssembled p us code → IsLowered code.atoms p code
