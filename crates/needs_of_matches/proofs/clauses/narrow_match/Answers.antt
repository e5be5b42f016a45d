use Rattle.std.proofs.Common.{length, subst}
use Rattle.typed_tree.specs.SharedTypes.{Shared}
use Rattle.check_words.specs.Branches.{IsOneOf}
use Rattle.check_words.specs.Joins.{narrows_to}
use Rattle.check_words.specs.Words.{some_over}
use Rattle.check_kinds.proofs.Over.{over-on, over-out, over-some}
use Rattle.check_work.specs.Views.{match_of}
use Rattle.needs_of_matches.proofs.clauses.narrow_match.Goals as goal

pub narrowed-requires-clause-left : goal.narrowed-requires-clause-left
narrowed-requires-clause-left g c = c.requires.left

pub narrowed-requires-clause-right : goal.narrowed-requires-clause-right
narrowed-requires-clause-right g c = c.in-Ok.ensures.below (length (g.T.Types.atoms c.args.types.now))

pub returns-in-Ok-clause-comes : goal.returns-in-Ok-clause-comes
returns-in-Ok-clause-comes g c =
    let m = match_of c.args.held.now in
    let env = g.T.Types.atoms c.args.types.now in
    over-on (some_over (λ atoms (t : Shared). IsOneOf m.patterns atoms t.value)) (λ t. narrows_to g.T.Types.passes m.left t m.at) env env (g.T.Types.atoms c.narrowed.new.types) c.in-Ok.t c.narrowed.result
    (over-some _ env c.in-Ok.t (subst (λ ps. IsOneOf ps env c.in-Ok.t.value) c.as_slice.ensures.value (c.in-Ok.ensures.is env))) c.narrowed.ensures.comes

pub returns-in-Err-clause-comes : goal.returns-in-Err-clause-comes
returns-in-Err-clause-comes g c = over-out _ _ _
