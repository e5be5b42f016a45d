use Rattle.std.proofs.Common.{refl, subst, sym}
use Rattle.std.specs.Prelude.{slice_get}
use Rattle.checks.specs.Checks.{Gives, Refuses, gives_some, refuses}
use Rattle.isolation_check.specs.inner.Judging.{Judged}
use Rattle.isolation_check.specs.inner.Views.{does_of}
use Rattle.isolation_check.specs.Walk.{is_steady, keeps}
use Rattle.isolation_check.proofs.judging.keeps.Goals as goal

pub returns-in-Reads-clause-judged : goal.returns-in-Reads-clause-judged
returns-in-Reads-clause-judged g c = λ names.
    subst (λ d. Judged (keeps g.T.Types.passes c.args.own.now c.args.«package».now (does_of d) names c.args.part.at) names c.args.part.at (g.T.Types.atoms c.args.types.now) c.is_steady_at.result) (sym c.in-Reads.is)
    (subst (λ vs. Judged (is_steady g.T.Types.passes (slice_get vs c.in-Reads.number) names c.args.part.at) names c.args.part.at (g.T.Types.atoms c.args.types.now) c.is_steady_at.result) c.deref.ensures.value (c.is_steady_at.ensures.judged names))

pub returns-in-Stores-clause-judged : goal.returns-in-Stores-clause-judged
unfolding refuses
returns-in-Stores-clause-judged g c = λ names f is.
    subst (λ d. keeps g.T.Types.passes c.args.own.now c.args.«package».now (does_of d) names c.args.part.at (g.T.Types.atoms c.args.types.now) (Refuses f) (g.T.Types.atoms c.args.types.now)) (sym c.in-Stores.is) (is, refl)

pub returns-in-Calls-clause-judged : goal.returns-in-Calls-clause-judged
unfolding gives_some
returns-in-Calls-clause-judged g c = λ names.
    subst (λ d. keeps g.T.Types.passes c.args.own.now c.args.«package».now (does_of d) names c.args.part.at (g.T.Types.atoms c.args.types.now) (Gives tt) (g.T.Types.atoms c.args.types.now)) (sym c.in-Calls.is) (refl, refl)

pub returns-in-CallsValue-clause-judged : goal.returns-in-CallsValue-clause-judged
returns-in-CallsValue-clause-judged g c = λ names.
    subst (λ d. Judged (keeps g.T.Types.passes c.args.own.now c.args.«package».now (does_of d) names c.args.part.at) names c.args.part.at (g.T.Types.atoms c.args.types.now) c.is_isolated.result) (sym c.in-CallsValue.is) (c.is_isolated.ensures.judged names)

pub returns-in-Captures-clause-judged : goal.returns-in-Captures-clause-judged
returns-in-Captures-clause-judged g c = λ names.
    subst (λ d. Judged (keeps g.T.Types.passes c.args.own.now c.args.«package».now (does_of d) names c.args.part.at) names c.args.part.at (g.T.Types.atoms c.args.types.now) c.are_readonly.result) (sym c.in-Captures.is) (c.are_readonly.ensures.judged names)
