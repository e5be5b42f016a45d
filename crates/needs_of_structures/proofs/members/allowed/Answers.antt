use Rattle.std.proofs.Common.{◌≡◌, Bool, Ok, refl, subst, sym}
use Rattle.checks.specs.Checks.{either}
use Rattle.check_kinds.specs.Over.{ComesOver}
use Rattle.check_kinds.proofs.Over.{over-some}
use Rattle.check_words.specs.Constructors.{is_frozen}
use Rattle.check_words.specs.Words.{done}
use Rattle.needs_of_structures.proofs.members.allowed.Goals as goal

pub returns-in-true-clause-comes : goal.returns-in-true-clause-comes
returns-in-true-clause-comes g c =
    subst (λ (b : Bool). ComesOver (either b (is_frozen g.T.Types.passes c.args.e.now c.args.at) done) (g.T.Types.atoms c.args.types.now) c.require_frozen.result (g.T.Types.atoms c.require_frozen.new.types)) (sym c.in-true.is)
    c.require_frozen.ensures.comes

pub returns-in-false-clause-comes : goal.returns-in-false-clause-comes
returns-in-false-clause-comes g c =
    subst (λ (b : Bool). ComesOver (either b (is_frozen g.T.Types.passes c.args.e.now c.args.at) done) (g.T.Types.atoms c.args.types.now) (Ok tt) (g.T.Types.atoms c.args.types.now)) (sym c.in-false.is)
    (over-some (λ o u. u ≡ tt) _ tt refl)
