use Rattle.std.proofs.Common.{inr, refl, subst}
use Rattle.bal_base.specs.declared.shape.Shape.{Shape}
use Rattle.type_model.specs.declared.basic.BasicSet.TheVariants.{StringOne}
use Rattle.type_model.specs.declared.basic.SemType.{Basic}
use Rattle.type_model.specs.Calls.{Without}
use Rattle.type_model.specs.Inclusion.{IsShapeOf}
use Rattle.code_verifier.specs.LedTo.{AsksKey}
use Rattle.code_verifier.proofs.KeyNames.{other-told}
use Rattle.code_verifier.proofs.Leading.{fault-leads}
use Rattle.code_verifier.proofs.keyed.keys_of_shape.Goals as goal

pub keys_with-requires-clause-there : goal.keys_with-requires-clause-there
keys_with-requires-clause-there g c = subst (λ (x : Shape). IsShapeOf (g.T.Types.atoms c.args.types.now) c.args.k.now x) c.in-Str.is c.requires.there

pub returns-in-Str-clause-limit : goal.returns-in-Str-clause-limit
returns-in-Str-clause-limit g c =
    let env = g.T.Types.atoms c.args.types.now in
    fault-leads g.T.Types.passes env (AsksKey env c.args.k.now) (Without c.args.k.now (Basic (StringOne c.in-Str.name)))
    (inr (c.in-Str.name, subst (λ (x : Shape). IsShapeOf env c.args.k.now x) c.in-Str.is c.requires.there, refl)) c.keys_with.result c.keys_with.ensures.limit

pub returns-in_default-clause-keys : goal.returns-in_default-clause-keys
returns-in_default-clause-keys g c = other-told (g.T.Types.atoms c.args.types.now) c.args.k.now c.args.shape.now c.requires.there c.in_default.not-Str
