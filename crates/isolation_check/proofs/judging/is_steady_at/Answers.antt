use Rattle.std.proofs.Common.{length, refl, subst, sym}
use Rattle.std.proofs.lemmas.Option.{slice_get_read}
use Rattle.isolation_check.specs.inner.Judging.{Judged}
use Rattle.isolation_check.specs.Walk.{is_steady}
use Rattle.isolation_check.proofs.judging.is_steady_at.Goals as goal

pub returns-in-Some-clause-judged : goal.returns-in-Some-clause-judged
returns-in-Some-clause-judged g c = λ names.
    let vs = c.args.variables.now in
    subst (λ o. Judged (is_steady g.T.Types.passes o names c.args.at) names c.args.at (g.T.Types.atoms c.args.types.now) c.is_steady.result)
    (sym (slice_get_read vs (length vs) c.args.number c.in-Some.v.now refl c.in-Some.ensures.lookup.3.0 c.in-Some.ensures.lookup.1)) (c.is_steady.ensures.judged names)
