use Rattle.type_model.specs.declared.basic.SemType.{Atom}
use Rattle.atom_questions.proofs.Arguments.{functions-alone, functions-defined}
use Rattle.atom_questions.proofs.Stops.{of-functions, told-of-functions}
use Rattle.atom_questions.proofs.applications.given_to_atom.Goals as goal

pub given_in-requires-clause-g_defined : goal.given_in-requires-clause-g_defined
given_in-requires-clause-g_defined g c = functions-defined (g.T.Types.atoms c.args.types.now) c.args.f.now c.in-Ok.g c.in-Ok.ensures c.requires.f_defined

pub given_in-requires-clause-functions : goal.given_in-requires-clause-functions
given_in-requires-clause-functions g c = functions-alone (g.T.Types.atoms c.args.types.now) c.args.f.now c.in-Ok.g c.in-Ok.ensures

pub returns-in-Ok-clause-told : goal.returns-in-Ok-clause-told
returns-in-Ok-clause-told g c =
    told-of-functions (g.T.Types.atoms c.args.types.now) c.in-Ok.g (Atom c.args.atom) c.args.r.now c.args.f.now c.in-Ok.ensures c.given_in.result c.given_in.ensures.told

pub returns-in-Ok-clause-limit : goal.returns-in-Ok-clause-limit
returns-in-Ok-clause-limit g c =
    of-functions g.T.Types.passes (g.T.Types.atoms c.args.types.now) c.in-Ok.g (Atom c.args.atom) c.args.r.now c.args.f.now c.in-Ok.ensures c.given_in.result c.given_in.ensures.limit
