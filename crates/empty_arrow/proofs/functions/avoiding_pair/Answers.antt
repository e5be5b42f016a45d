use Rattle.std.proofs.Common.{true}
use Rattle.type_diagrams.specs.Members.{arguments_of}
use Rattle.type_diagrams.specs.Tables.{condition}
use Rattle.type_diagrams.proofs.Shapes.{IfOk-map}
use Rattle.empty_arrow.specs.Graphs.{arguments_sought, results_sought}
use Rattle.empty_arrow.proofs.Base.{arguments-given, results-given, same-AreArguments}
use Rattle.empty_arrow.proofs.GraphLaws.{sought-AreArguments}
use Rattle.empty_arrow.proofs.PairLaws.{tells-same}
use Rattle.type_diagrams.proofs.Tellings.{sound-keeps}
use Rattle.type_diagrams.proofs.AskedDiagrams.{then_all}
use Rattle.empty_arrow.proofs.functions.avoiding_pair.Goals as goal

pub returns-in_err-result-clause-extends : goal.returns-in_err-result-clause-extends
returns-in_err-result-clause-extends g c = then_all _ _ _ _ c.within.ensures.extends c.outside.ensures.extends

pub find_pair-requires-clause-lists : goal.find_pair-requires-clause-lists
find_pair-requires-clause-lists g c =
    let env = c.args.context.now.env.now in
    let args = arguments-given env c.defs.result.now c.defs.ensures.value c.args.dia.now c.within.new.dia c.outside.new.dia c.args.base.arguments c.args.base.results c.requires.base c.args.unwanted c.arrow_of-arrow.result.args.now c.in_ok-args.args c.arrow_of-arrow.ensures.args c.outside.ensures.extends.keeps c.in_ok-args.ensures.made in
    same-AreArguments env (condition c.outside.new.dia c.in_ok-args.args) (arguments_sought env c.args.unwanted) args (sought-AreArguments env c.defs.ensures.env.bound (arguments_of env c.args.unwanted))

pub find_pair-requires-clause-sound : goal.find_pair-requires-clause-sound
find_pair-requires-clause-sound g c =
    let on = then_all _ c.args.dia.now c.within.new.dia c.outside.new.dia c.within.ensures.extends c.outside.ensures.extends in
    sound-keeps c.args.context.now.env.now c.args.dia.now c.outside.new.dia (g.M.Member.kept c.args.context.now.m.now) on.keeps c.requires.sound

pub returns-clause-extends : goal.returns-clause-extends
returns-clause-extends g c = then_all _ _ _ _ c.within.ensures.extends (then_all _ _ _ _ c.outside.ensures.extends c.find_pair.ensures.extends)

pub returns-clause-tells : goal.returns-clause-tells
returns-clause-tells g c =
    let env = c.args.context.now.env.now in
    let kept = g.M.Member.kept c.args.context.now.m.now in
    let args = arguments-given env c.defs.result.now c.defs.ensures.value c.args.dia.now c.within.new.dia c.outside.new.dia c.args.base.arguments c.args.base.results c.requires.base c.args.unwanted c.arrow_of-arrow.result.args.now c.in_ok-args.args c.arrow_of-arrow.ensures.args c.outside.ensures.extends.keeps c.in_ok-args.ensures.made in
    let results = results-given env c.defs.result.now c.defs.ensures.value c.args.dia.now c.within.new.dia c.outside.new.dia c.args.base.arguments c.args.base.results c.requires.base c.args.unwanted c.arrow_of-arrow.result.result.now c.in_ok-result.result c.arrow_of-arrow.ensures.result c.within.ensures.extends.keeps c.in_ok-result.ensures.made in
    IfOk-map _ _ (λ found h. tells-same env c.find_pair.new.dia kept (condition c.outside.new.dia c.in_ok-args.args) (arguments_sought env c.args.unwanted) (condition c.outside.new.dia c.in_ok-result.result) (results_sought env c.args.unwanted) true c.args.wanted.now args results found h)
    c.find_pair.result c.find_pair.ensures.tells
