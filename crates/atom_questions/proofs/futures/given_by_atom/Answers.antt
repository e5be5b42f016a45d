use Rattle.type_model.specs.declared.basic.SemType.{SemType, Atom}
use Rattle.type_model.specs.Application.{Applies as AppliesTo}
use Rattle.type_model.specs.Calls.{Applied}
use Rattle.atom_questions.specs.Added.{IsFunctionsOf}
use Rattle.atom_questions.specs.inner.Stopping.{TypesPass}
use Rattle.atom_questions.proofs.Arguments.{functions-alone, functions-defined}
use Rattle.atom_questions.proofs.Stops.{faults-on, ok-on}
use Rattle.atom_questions.proofs.futures.given_by_atom.Goals as goal

pub apply-requires-clause-g_defined : goal.apply-requires-clause-g_defined
apply-requires-clause-g_defined g c = functions-defined (g.T.Types.atoms c.args.types.now) c.args.f.now c.in-Ok.g c.in-Ok.ensures c.requires.f_defined

pub apply-requires-clause-functions : goal.apply-requires-clause-functions
apply-requires-clause-functions g c = functions-alone (g.T.Types.atoms c.args.types.now) c.args.f.now c.in-Ok.g c.in-Ok.ensures

pub returns-in-Ok-clause-applies : goal.returns-in-Ok-clause-applies
returns-in-Ok-clause-applies g c =
    let env = g.T.Types.atoms c.args.types.now in
    ok-on (AppliesTo env c.in-Ok.g (Atom c.args.atom)) (λ a. (h : SemType) × IsFunctionsOf c.args.f.now h × AppliesTo env h (Atom c.args.atom) a) (λ a is. (c.in-Ok.g, c.in-Ok.ensures, is)) c.apply.result c.apply.ensures.applies

pub returns-in-Ok-clause-limit : goal.returns-in-Ok-clause-limit
returns-in-Ok-clause-limit g c =
    let env = g.T.Types.atoms c.args.types.now in
    faults-on (TypesPass g.T.Types.passes env (Applied c.in-Ok.g (Atom c.args.atom))) (λ l. (h : SemType) × IsFunctionsOf c.args.f.now h × TypesPass g.T.Types.passes env (Applied h (Atom c.args.atom)) l)
    (λ l is. (c.in-Ok.g, c.in-Ok.ensures, is)) c.apply.result c.apply.ensures.limit
