use Rattle.std.proofs.Common.{◌≡◌, take}
use Rattle.std.specs.List.{AllZip}
use Rattle.value_model.specs.Exact.{AnswersExactly}
use Rattle.test_answers.proofs.answers.test_answers.Given as goal

abbrev pub invariant-loop-atom : goal.invariant-loop-atom
invariant-loop-atom g l = (g.T.Types.atoms l.types ≡ g.T.Types.atoms l.fn.types) × AllZip (AnswersExactly (g.T.Types.atoms l.fn.types) l.tested) (take l.atom-index l.inherent) l.rows.items
