-- Whether there is a shape, as it is told.
use Rattle.std.proofs.Common.{List, Option, Some, None, Bor}
use Rattle.std.specs.Option.{option_copied, is_some}
use Rattle.std.proofs.lemmas.List.Elements.{All-contains}
use Rattle.bal_base.specs.declared.shape.Shape.{Shape}
use Rattle.type_model.specs.declared.atoms.AtomDef.{AtomDef}
use Rattle.type_diagrams.specs.Conditions.{Condition, IsShapeOf}
use Rattle.type_diagrams.specs.Tables.{Table as Diagrams}
use Rattle.type_diagrams.specs.Turns.{HasLower}
use Rattle.subtype_decider.specs.Closed.{FindsShapeOf, TellsSome, IsClosed, IsRight}
use Rattle.subtype_decider.proofs.Grown.{Entries}

module _ (env : List AtomDef) where
  pub found-TellsSome : (c : Condition) (o : Option (Bor Shape)) → FindsShapeOf env c (option_copied o) → TellsSome (IsShapeOf env c) (is_some o)
  found-TellsSome c (Some b) f = (b.now, f)
  found-TellsSome c None f = f

  -- in a table at rest nothing lower is held to be empty and has a shape
  pub no_lower : (d : Diagrams) (kept : Entries) → IsClosed env d kept → (x : Shape) → ¬ HasLower env d kept x
  no_lower d kept closed x lower = (All-contains (IsRight env d) kept (lower.question, None) closed.right lower.held).1 lower.part lower.inside
