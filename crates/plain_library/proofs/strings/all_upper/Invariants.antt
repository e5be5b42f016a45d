use Rattle.std.specs.Prelude.{◌≡◌, map, take}
use Rattle.op_model.specs.Strings.{upper_ascii}
use Rattle.plain_library.proofs.strings.all_upper.Given as goal

abbrev pub invariant-loop-c : goal.invariant-loop-c
invariant-loop-c l = l.all.items ≡ map upper_ascii (take l.c-index l.characters)
