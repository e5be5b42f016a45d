-- The indexes that a type of ints names, as a question may ask of them.
use Rattle.std.specs.Prelude.{◌≡◌, ◌↔◌, ℤ, pos, negsuc, List}
use Rattle.bal_base.specs.declared.shape.Shape.{Shape}
use Rattle.type_model.specs.declared.answers.Answer.{Answer}
use Rattle.type_model.specs.declared.answers.Answer.TheVariants.{Yes, No}
use Rattle.type_model.specs.declared.answers.Keys.{Keys}
use Rattle.type_model.specs.declared.answers.Keys.TheVariants.{AnyIndex, Index}
use Rattle.type_model.specs.declared.atoms.AtomDef.{AtomDef}
use Rattle.type_model.specs.declared.basic.SemType.{SemType}
use Rattle.type_model.specs.Parts.{StandsAt}
use Rattle.operations.specs.Rows.{StandsAtIndex}

-- what stands at an index that the type names is what stands at these, in each type
abbrev pub AreIndexesOf : List AtomDef → SemType → Keys → Type 0
AreIndexesOf env i keys = (l : SemType) (x : Shape) → StandsAtIndex env l i x ↔ StandsAt env l keys x

-- the index of an int, or all where it is none
abbrev pub index_at : ℤ → Keys
index_at (pos n) = Index n
index_at (negsuc n) = AnyIndex

-- by the answer whether there is no other int
abbrev pub IsIndexBy : ℤ → Answer → Keys → Type 0
IsIndexBy n Yes keys = keys ≡ index_at n
IsIndexBy n (No x) keys = keys ≡ AnyIndex
