use Rattle.std.proofs.Common.{◌≡◌, ◌++◌, map, take}
use Rattle.type_model.specs.declared.basic.BasicSet.TheVariants.{StringOne}
use Rattle.type_diagrams.proofs.simple_type.push_texts.Given as goal

abbrev pub invariant-loop-text : goal.invariant-loop-text
invariant-loop-text l = l.sets.items ≡ l.initial.sets.items ++ map StringOne (take l.text-index l.texts)
