-- Which shapes stand at a key in the shapes of a type.
use Rattle.std.specs.Prelude.{◌≡◌, List, Some, Contains, map, slice_get}
use Rattle.bal_base.specs.declared.shape.Shape.{Shape, List', Mapping', Future', items-the_row-Shape as shapes_in, items-the_row-Fields-items-2 as fields_in}
use Rattle.type_model.specs.declared.basic.SemType.{SemType}
use Rattle.type_model.specs.declared.atoms.AtomDef.{AtomDef}
use Rattle.type_model.specs.declared.answers.Keys.{Keys}
use Rattle.type_model.specs.declared.answers.Keys.TheVariants.{Index, AnyIndex, Field, AnyField, Results}
use Rattle.type_model.specs.Inclusion.{IsShapeOf}

-- the part stands at such a key of the whole
abbrev pub StandsIn : Keys → Shape → Shape → Type 0
StandsIn (Index place) (List' mark _ items) part = slice_get (shapes_in _ items) place ≡ Some part
StandsIn (Index place) _ part = ⊥
StandsIn AnyIndex (List' mark _ items) part = Contains (shapes_in _ items) part
StandsIn AnyIndex _ part = ⊥
StandsIn (Field name) (Mapping' mark _ fields) part = Contains (fields_in _ fields) (name, part)
StandsIn (Field name) _ part = ⊥
StandsIn AnyField (Mapping' mark _ fields) part = Contains (map (λ f. f.1) (fields_in _ fields)) part
StandsIn AnyField _ part = ⊥
StandsIn Results (Future' _ results) part = Contains (shapes_in _ results) part
StandsIn Results _ part = ⊥

-- the part stands at such a key of some shape of the type
abbrev pub StandsAt : List AtomDef → SemType → Keys → Shape → Type 0
StandsAt env t keys part = (whole : Shape) × IsShapeOf env t whole × StandsIn keys whole part
