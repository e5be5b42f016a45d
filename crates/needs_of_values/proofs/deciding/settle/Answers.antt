use Rattle.std.proofs.Common.{◌≡◌, Ok, refl, subst, sym}
use Rattle.check_kinds.specs.Over.{ComesOver}
use Rattle.check_kinds.proofs.Over.{over-some}
use Rattle.check_words.specs.Values.{decided}
use Rattle.needs_of_values.proofs.deciding.settle.Goals as goal

pub returns-in-true-clause-comes : goal.returns-in-true-clause-comes
returns-in-true-clause-comes g c =
    let env = g.T.Types.atoms c.args.types.now in
    subst (λ b. ComesOver (decided g.T.Types.passes b c.args.s.now c.args.at) env (Ok tt) env) (sym c.in-true.is) (over-some (λ o (b : Unit {0}). b ≡ tt) env tt refl)

pub returns-in-false-clause-comes : goal.returns-in-false-clause-comes
returns-in-false-clause-comes g c =
    subst (λ b. ComesOver (decided g.T.Types.passes b c.args.s.now c.args.at) (g.T.Types.atoms c.args.types.now) c.require_kind.result (g.T.Types.atoms c.require_kind.new.types)) (sym c.in-false.is)
    c.require_kind.ensures.comes
