use Rattle.std.proofs.Common.{◌≡◌, [], map, take, true}
use Rattle.std.specs.List.{list_any}
use Rattle.indexmap.specs.IndexSet.{contains}
use Rattle.bal_base.specs.declared.text.Name.{Name}
use Rattle.type_model.specs.Places.{is_same_text}
use Rattle.descriptors.specs.Descriptors.{descriptor_of, of_param, of_field, in_a_row, fields_in_a_row}
use Rattle.name_resolution.specs.Mentions.{all_mentioned, fields_mentioned, sources}
use Rattle.name_resolution.proofs.MentionLoops.{field_name}
use Rattle.name_resolution.proofs.mentions.Reader.+types.Given as goal

abbrev pub invariant-type_list-loop-t : goal.invariant-type_list-loop-t
invariant-type_list-loop-t l = l.out.items ≡ all_mentioned l.self.«module» (sources l.self.file.now) true (in_a_row (map descriptor_of (take l.t-index l.types))) l.initial.out.items

abbrev pub invariant-param_list-loop-p : goal.invariant-param_list-loop-p
invariant-param_list-loop-p l = l.out.items ≡ all_mentioned l.self.«module» (sources l.self.file.now) true (in_a_row (map of_param (take l.p-index l.params))) l.initial.out.items

abbrev pub invariant-field_list-loop-f : goal.invariant-field_list-loop-f
invariant-field_list-loop-f l = (l.out.items ≡ fields_mentioned l.self.«module» (sources l.self.file.now) [] (fields_in_a_row (map of_field (take l.f-index l.fields))) l.initial.out.items)
    × ((q : Name) → contains is_same_text l.earlier q ≡ list_any (is_same_text q) (map field_name (map of_field (take l.f-index l.fields))))
