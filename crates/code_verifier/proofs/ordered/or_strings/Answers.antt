use Rattle.std.proofs.Common.{sym}
use Rattle.code_verifier.proofs.Ordering.{ints-told, strings-told}
use Rattle.code_verifier.proofs.ordered.or_strings.Goals as goal

pub returns-in-true-clause-answers : goal.returns-in-true-clause-answers
returns-in-true-clause-answers g c = ints-told (g.T.Types.atoms c.args.types.now) c.args.a.now c.args.b.now c.args.of_ints (sym c.in-true.ensures) c.requires.told

pub returns-in-false-clause-answers : goal.returns-in-false-clause-answers
returns-in-false-clause-answers g c =
    strings-told (g.T.Types.atoms c.args.types.now) c.args.a.now c.args.b.now c.args.of_ints (sym c.in-false.ensures) c.requires.told c.are_below.result c.are_below.ensures.tells
