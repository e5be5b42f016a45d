use Rattle.std.proofs.Common.{subst}
use Rattle.std.proofs.lemmas.Result.{IfOk-weaker}
use Rattle.filler_tables.specs.declared.simple.Simple.{Simple}
use Rattle.filler_tables.specs.inner.Telling.{IsCandidateAt, IsMade, IsSimple}
use Rattle.filler_tables.proofs.OneChoice.{filled-at, made-at, shapeless-at}
use Rattle.filler_tables.proofs.candidates.by_simple.Goals as goal

pub returns-in-Filled-clause-candidate : goal.returns-in-Filled-clause-candidate
returns-in-Filled-clause-candidate g c =
    let env = g.T.Types.atoms c.args.types.now in
    filled-at env c.args.place.now c.in-Filled.f (subst (λ (s : Simple). IsSimple env c.args.place.now.sem s) c.in-Filled.is c.requires.simple)

pub returns-in-Unfilled-clause-candidate : goal.returns-in-Unfilled-clause-candidate
returns-in-Unfilled-clause-candidate g c =
    let env = g.T.Types.atoms c.args.types.now in
    let p = c.args.place.now in
    IfOk-weaker c.of_made.result (IsMade env p.sem p.made) (IsCandidateAt env p) (made-at env p (subst (λ (s : Simple). IsSimple env p.sem s) c.in-Unfilled.is c.requires.simple)) c.of_made.ensures.candidate

pub returns-in-Shapeless-clause-candidate : goal.returns-in-Shapeless-clause-candidate
returns-in-Shapeless-clause-candidate g c =
    let env = g.T.Types.atoms c.args.types.now in
    shapeless-at env c.args.place.now (subst (λ (s : Simple). IsSimple env c.args.place.now.sem s) c.in-Shapeless.is c.requires.simple)
