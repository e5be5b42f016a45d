use Rattle.std.proofs.Common.{◌∙◌, ap, refl}
use Rattle.std.proofs.lemmas.Str.{chars-nil}
use Rattle.value_model.specs.declared.filler.Filler.TheVariants.{Str}
use Rattle.filler_tables.proofs.values.of_strings.Goals as goal

pub returns : goal.returns
returns c = (refl, ap Str (c.in_ok-text.ensures ∙ chars-nil))
