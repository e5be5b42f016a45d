use Rattle.std.proofs.Common.{IfOk, List, Option, inl, refl, subst, sym}
use Rattle.bal_base.specs.declared.shape.Shape.{Shape}
use Rattle.bal_base.specs.Stops.{IfFault}
use Rattle.type_model.specs.declared.answers.Keys.{Keys}
use Rattle.type_model.specs.declared.atoms.AtomDef.{AtomDef}
use Rattle.type_model.specs.Calls.{Alone}
use Rattle.type_model.specs.Inclusion.{FindsShape}
use Rattle.code_verifier.specs.Indexed.{AreIndexesOf}
use Rattle.code_verifier.specs.LedTo.{AsksIndex, SomePasses}
use Rattle.code_verifier.proofs.Leading.{stop-leads}
use Rattle.code_verifier.proofs.indexed.named_indexes.Goals as goal

pub indexes_of_found-requires-clause-found : goal.indexes_of_found-requires-clause-found
indexes_of_found-requires-clause-found g c = subst (λ (env : List AtomDef). FindsShape env c.args.i.now c.in-Ok.found) (sym c.has_shape.ensures.atoms) c.in-Ok.ensures.found

pub returns-in-Ok-clause-keys : goal.returns-in-Ok-clause-keys
returns-in-Ok-clause-keys g c = subst (λ (env : List AtomDef). IfOk c.indexes_of_found.result (AreIndexesOf env c.args.i.now)) c.has_shape.ensures.atoms c.indexes_of_found.ensures.keys

pub returns-in-Ok-clause-limit : goal.returns-in-Ok-clause-limit
returns-in-Ok-clause-limit g c =
    subst (λ (env : List AtomDef). IfFault c.indexes_of_found.result (SomePasses g.T.Types.passes env (AsksIndex env c.args.i.now))) c.has_shape.ensures.atoms c.indexes_of_found.ensures.limit

pub returns-in-Err-clause-limit : goal.returns-in-Err-clause-limit
returns-in-Err-clause-limit g c =
    let env = g.T.Types.atoms c.args.types.now in
    stop-leads g.T.Types.passes env (AsksIndex env c.args.i.now) (Alone c.args.i.now) (inl refl) (Option Shape) Keys c.in-Err.stop c.in-Err.ensures.limit
