use Rattle.std.proofs.Common.{◌≡◌}
use Rattle.std.specs.List.{filter_map}
use Rattle.check_words.specs.Constructors.{field_with}
use Rattle.made_atoms.proofs.atoms.fields_with.Given as goal

abbrev pub invariant-loop-key : goal.invariant-loop-key
invariant-loop-key l = l.fields.items ≡ filter_map field_with l.yielded
