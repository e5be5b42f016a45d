use Rattle.std.proofs.Common.{Option}
use Rattle.type_model.specs.declared.answers.Answer.{Answer}
use Rattle.type_model.specs.declared.answers.Keys.{Keys}
use Rattle.type_model.specs.declared.basic.BasicSet.TheVariants.{StringOne}
use Rattle.type_model.specs.declared.basic.SemType.{Basic}
use Rattle.type_model.specs.Calls.{Without}
use Rattle.code_verifier.proofs.KeyNames.{keys-told}
use Rattle.code_verifier.proofs.Leading.{stop-passed}
use Rattle.code_verifier.proofs.keyed.keys_with.Goals as goal

pub returns-in-Ok-clause-keys : goal.returns-in-Ok-clause-keys
returns-in-Ok-clause-keys g c =
    keys-told (g.T.Types.atoms c.args.types.now) c.args.k.now c.args.name.now c.requires.there c.in-Ok.answer c.key_by.result c.in-Ok.ensures.answer c.key_by.ensures

pub returns-in-Err-clause-limit : goal.returns-in-Err-clause-limit
returns-in-Err-clause-limit g c =
    stop-passed (g.T.Types.passes (g.T.Types.atoms c.args.types.now) (Without c.args.k.now (Basic (StringOne c.args.name.now)))) Answer (Option Keys) c.in-Err.stop c.in-Err.ensures.limit
