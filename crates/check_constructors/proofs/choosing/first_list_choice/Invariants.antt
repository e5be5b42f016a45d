use Rattle.std.proofs.Common.{All, map, take}
use Rattle.expr_needs.specs.ExprTable.{read_expr}
use Rattle.check_words.specs.Constructors.{ListFits}
use Rattle.check_constructors.proofs.choosing.first_list_choice.Given as goal

abbrev pub invariant-loop-choice : goal.invariant-loop-choice
invariant-loop-choice g l = All (λ d. ¬ ListFits (map (λ i. i.literal) (map read_expr l.items)) (g.T.Types.atoms l.types) d) (take l.choice-index l.choices)
