-- Whether a type has all choices of another one.
use Rattle.std.specs.Prelude.{◌&&◌, Bool, List}
use Rattle.std.specs.List.{list_all}
use Rattle.type_model.specs.declared.basic.Choice.{Choice}
use Rattle.type_model.specs.declared.basic.Ty.{Ty}
use Rattle.descriptors.specs.Described.{is_chosen}

abbrev pub are_chosen : List Choice → List Choice → Bool
are_chosen choices others = list_all (λ c. is_chosen choices c) others

abbrev pub has_choices : Ty → Ty → Bool
has_choices s t = are_chosen s.lists t.lists && are_chosen s.maps t.maps
