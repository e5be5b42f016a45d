-- What is added with just these maps.
use Rattle.std.specs.Prelude.{◌≡◌, ◌++◌, ℕ, List, Option, length}
use Rattle.type_model.specs.declared.atoms.AtomDef.{AtomDef}
use Rattle.operations.specs.Rows.{Surroundings}
use Rattle.eval_model.specs.Ways.{Turns}
use Rattle.lower_model.specs.Making.{Making}
use Rattle.tree_promises.specs.Types.{Stack}
use Rattle.typed_making.specs.Mapped.{InLoop, Mapped}
use Rattle.map_model.specs.Maps.{Marks}

module _ (env : List AtomDef) (place : Surroundings) where
  -- what was added to the first to come to the second is typed, and these are the types at its places
  pub record Marked (m n : Making) (old wants : List Stack) (maps : Marks) (p q : Stack) : Type 0 where
    pub typed : Mapped env place m n old wants p q
    pub are : (k : List Stack) → maps k ≡ k ++ typed.stacks

  -- what is added within this loop leads from these types to those with these maps, whatever was there
  abbrev pub LeadsBy : Option (Turns ℕ) → Option (Turns Stack) → (Making → Making) → Marks → Stack → Stack → Type 0
  LeadsBy labels loop F maps p q =
      (m : Making) (old : List Stack) → length m.labels ≡ length old → InLoop env place old labels loop → (wants : List Stack) × Marked m (F m) old wants maps p q
