-- The atoms that were found so far.
use Rattle.std.specs.Prelude.{◌≡◌, ℕ, Bool, List, Some, Contains, slice_get}
use Rattle.type_model.specs.declared.atoms.AtomDef.{AtomDef}
use Rattle.op_model.specs.Inherent.{IsInherent, MayFill}
use Rattle.inherent_atoms.specs.declared.found.Found.{Found}
use Rattle.inherent_atoms.specs.Named.{all_noted, is_among}

-- whether an atom is marked says whether it was found
pub record AreMarked (f : Found) : Type 0 where
  pub each : (a : ℕ) (b : Bool) → slice_get f.marked.items a ≡ Some b → is_among a f.atoms.items ≡ b

-- these were noted, one after another
pub record Notes (names : List ℕ) (f g : Found) : Type 0 where
  pub marked : AreMarked f → AreMarked g
  pub atoms : AreMarked f → g.atoms.items ≡ all_noted names f.atoms.items

-- what may fill gaps was noted, over and over
pub record Fills (defs : List AtomDef) (f g : Found) : Type 0 where
  pub more : List ℕ
  pub noted : Notes more f g
  pub closed : AreMarked f → (a b : ℕ) → Contains g.atoms.items a → MayFill defs a b → Contains g.atoms.items b
  pub only : AreMarked f → (a : ℕ) → Contains g.atoms.items a → IsInherent defs (Contains f.atoms.items) a
