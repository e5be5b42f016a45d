use Rattle.std.proofs.Common.{◌≡◌, map, take}
use Rattle.descriptors.specs.Descriptors.{descriptor_of, of_param, of_field, in_a_row, fields_in_a_row}
use Rattle.type_builder.specs.AtomPlaces.{all_places, field_places}
use Rattle.type_builder.proofs.atom_places.+types.Given as goal

abbrev pub invariant-type_list_places-loop-t : goal.invariant-type_list_places-loop-t
invariant-type_list_places-loop-t l = l.out.items ≡ all_places (in_a_row (map descriptor_of (take l.t-index l.types))) l.initial.out.items

abbrev pub invariant-param_list_places-loop-p : goal.invariant-param_list_places-loop-p
invariant-param_list_places-loop-p l = l.out.items ≡ all_places (in_a_row (map of_param (take l.p-index l.params))) l.initial.out.items

abbrev pub invariant-field_list_places-loop-f : goal.invariant-field_list_places-loop-f
invariant-field_list_places-loop-f l = l.out.items ≡ field_places (fields_in_a_row (map of_field (take l.f-index l.fields))) l.initial.out.items
