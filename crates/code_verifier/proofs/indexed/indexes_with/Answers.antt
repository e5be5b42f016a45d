use Rattle.type_model.specs.declared.answers.Answer.{Answer}
use Rattle.type_model.specs.declared.answers.Keys.{Keys}
use Rattle.type_model.specs.declared.basic.BasicSet.TheVariants.{IntRange}
use Rattle.type_model.specs.declared.basic.SemType.{Basic}
use Rattle.type_model.specs.Calls.{Without}
use Rattle.code_verifier.proofs.IndexNames.{indexes-told}
use Rattle.code_verifier.proofs.Leading.{stop-passed}
use Rattle.code_verifier.proofs.indexed.indexes_with.Goals as goal

pub returns-in-Ok-clause-keys : goal.returns-in-Ok-clause-keys
returns-in-Ok-clause-keys g c =
    indexes-told (g.T.Types.atoms c.args.types.now) c.args.i.now c.args.n.now c.requires.there c.in-Ok.answer c.index_by.result c.in-Ok.ensures.answer c.index_by.ensures

pub returns-in-Err-clause-limit : goal.returns-in-Err-clause-limit
returns-in-Err-clause-limit g c =
    stop-passed (g.T.Types.passes (g.T.Types.atoms c.args.types.now) (Without c.args.i.now (Basic (IntRange c.args.n.now c.args.n.now)))) Answer Keys c.in-Err.stop c.in-Err.ensures.limit
