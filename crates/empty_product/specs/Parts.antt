-- The keys at which parts of lists and mappings stand: one, or all.
use Rattle.std.specs.Prelude.{ℕ, Option, Some, None}
use Rattle.bal_base.specs.declared.text.Text.{Text}
use Rattle.type_model.specs.declared.answers.Keys.{Keys}
use Rattle.type_model.specs.declared.answers.Keys.TheVariants.{Index, AnyIndex, Field, AnyField}

abbrev pub index_keys : Option ℕ → Keys
index_keys (Some place) = Index place
index_keys None = AnyIndex

abbrev pub field_keys : Option Text → Keys
field_keys (Some name) = Field name
field_keys None = AnyField
