use Rattle.std.proofs.Common.{All, map, take}
use Rattle.expr_needs.specs.ExprTable.{read_member, seen_of}
use Rattle.check_words.specs.Constructors.{MappingFits}
use Rattle.check_constructors.proofs.choosing.first_mapping_choice.Given as goal

abbrev pub invariant-loop-choice : goal.invariant-loop-choice
invariant-loop-choice g l = All (λ d. ¬ MappingFits (map seen_of (map read_member l.members)) (g.T.Types.atoms l.types) d) (take l.choice-index l.choices)
