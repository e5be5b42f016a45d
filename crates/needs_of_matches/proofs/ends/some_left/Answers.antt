use Rattle.std.proofs.Common.{◌≡◌, Ok, Some, false, refl, subst, sym}
use Rattle.checks.specs.Checks.{Comes}
use Rattle.checks.specs.Questions.{has_some}
use Rattle.type_model.specs.declared.basic.Ty.{Ty}
use Rattle.type_model.specs.Defined.{IsDefined}
use Rattle.check_words.specs.Branches.{some_is_left}
use Rattle.check_kinds.specs.Over.{ComesOver}
use Rattle.check_kinds.proofs.Over.{over-asks, over-some}
use Rattle.needs_of_matches.proofs.ends.some_left.Goals as goal

pub has_some-requires : goal.has_some-requires
has_some-requires g c = subst (λ (v : Ty). IsDefined (g.T.Types.atoms c.args.types.now) v.sem) (sym c.deref.ensures) c.requires.0

pub returns-in-true-clause-comes : goal.returns-in-true-clause-comes
returns-in-true-clause-comes g c =
    let env = g.T.Types.atoms c.args.types.now in
    subst (λ b. ComesOver (some_is_left g.T.Types.passes b c.args.t.now c.args.at) env (Ok false) env) (sym c.in-true.is) (over-some (λ e b. b ≡ false) env false refl)

pub returns-in-false-clause-comes : goal.returns-in-false-clause-comes
returns-in-false-clause-comes g c =
    let env = g.T.Types.atoms c.args.types.now in
    let new = g.T.Types.atoms c.has_some.new.types in
    subst (λ b. ComesOver (some_is_left g.T.Types.passes b c.args.t.now c.args.at) env c.has_some.result new) (sym c.in-false.is)
    (over-asks (has_some g.T.Types.passes c.args.t.now.value.sem (Some c.args.at)) env new c.has_some.result
    (subst (λ (v : Ty). Comes (has_some g.T.Types.passes v.sem (Some c.args.at)) env c.has_some.result new) c.deref.ensures c.has_some.ensures.comes))
