use Rattle.std.proofs.Common.{◌≡◌, ◌∙◌, Ok, Some, ap, refl, subst, sym}
use Rattle.checks.specs.Checks.{Comes}
use Rattle.checks.specs.Questions.{below}
use Rattle.typed_tree.specs.SharedTypes.{sem_of}
use Rattle.check_kinds.specs.Over.{ComesOver}
use Rattle.check_kinds.proofs.Over.{over-asks, over-some}
use Rattle.check_words.specs.Words.{below_if, sem}
use Rattle.needs_of_calls.proofs.arguments.fits.Goals as goal

pub returns-in-Some-clause-comes : goal.returns-in-Some-clause-comes
returns-in-Some-clause-comes g c =
    let old = g.T.Types.atoms c.args.types.now in
    let new = g.T.Types.atoms c.require_below.new.types in
    subst (λ w. ComesOver (below_if g.T.Types.passes w c.args.e.now c.args.at) old c.require_below.result new) (sym c.in-Some.is)
    (over-asks (below g.T.Types.passes (sem c.args.e.now) (sem_of c.in-Some.t) (Some c.args.at)) old new c.require_below.result
    (subst (λ u. Comes (below g.T.Types.passes u.sem (sem_of c.in-Some.t) (Some c.args.at)) old c.require_below.result new) (c.deref.ensures ∙ ap (λ t. t.value) c.ty.ensures)
    (subst (λ u. Comes (below g.T.Types.passes c.deref.result.now.sem u.sem (Some c.args.at)) old c.require_below.result new) c.deref-in-Some.ensures c.require_below.ensures.comes)))

pub returns-in-None-clause-comes : goal.returns-in-None-clause-comes
returns-in-None-clause-comes g c =
    let old = g.T.Types.atoms c.args.types.now in
    subst (λ w. ComesOver (below_if g.T.Types.passes w c.args.e.now c.args.at) old (Ok tt) old) (sym c.in-None.is) (over-some (λ env u. u ≡ tt) old tt refl)
