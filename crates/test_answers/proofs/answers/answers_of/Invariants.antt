use Rattle.std.proofs.Common.{◌≡◌, take}
use Rattle.std.specs.List.{AllZip}
use Rattle.code_verifier.specs.Deciding.{DecidesSub}
use Rattle.test_answers.proofs.answers.answers_of.Given as goal

abbrev pub invariant-loop-t : goal.invariant-loop-t
invariant-loop-t g l = (g.T.Types.atoms l.types ≡ g.T.Types.atoms l.fn.types) × AllZip (DecidesSub (g.T.Types.atoms l.fn.types) l.s) (take l.t-index l.tested) l.answers.items
