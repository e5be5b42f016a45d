-- What the items of a list that is made need of their type.
use Rattle.std.specs.Prelude.{Option}
use Rattle.type_model.specs.declared.atoms.AtomDef.{AtomDef}
use Rattle.type_model.specs.declared.basic.SemType.{SemType}
use Rattle.code_needs.specs.Combining.{Needs, need}
use Rattle.code_needs.specs.Needs.{Has, PartIn}
use Rattle.needs_of_rows.specs.declared.library.Items.{Items}
use Rattle.needs_of_rows.specs.declared.library.Items.TheVariants.{Of, Parts}
use Rattle.needs_of_rows.specs.ListsMade.{list_with}

abbrev pub items_of : Items → SemType → Needs
items_of (Of kind) t = need (Has t kind)
items_of (Parts whole keys) t = need (PartIn whole.now keys.now t)

abbrev pub list_of : Option AtomDef → Items → SemType → Option SemType → Needs
list_of def items own result = list_with def (items_of items) own result
