use Rattle.std.proofs.Common.{◌<◌, length, subst}
use Rattle.type_diagrams.proofs.AskedDiagrams.{then_all}
use Rattle.type_diagrams.proofs.Keeping.{keeps-further}
use Rattle.type_diagrams.proofs.Shapes.{IfOk-map}
use Rattle.type_diagrams.proofs.Tellings.{sound-keeps}
use Rattle.empty_product.specs.Lists.{TellsLists}
use Rattle.empty_product.proofs.DemandLists.{diagrams-keep}
use Rattle.empty_product.proofs.ItemPlaces.{AreAsked-keeps}
use Rattle.empty_product.proofs.LongerLists.{both-TellsLists}
use Rattle.empty_product.proofs.lists.all_lists.Goals as goal

pub long_lists-requires-clause-bases : goal.long_lists-requires-clause-bases
long_lists-requires-clause-bases g c = diagrams-keep c.args.dia.now c.short_lists.new.dia c.args.bases.now c.short_lists.ensures.extends.keeps c.requires.bases

pub long_lists-requires-clause-sound : goal.long_lists-requires-clause-sound
long_lists-requires-clause-sound g c = sound-keeps c.args.context.now.env.now c.args.dia.now c.short_lists.new.dia (g.M.Member.kept c.args.context.now.m.now) c.short_lists.ensures.extends.keeps c.requires.sound

pub returns-in-Empty-clause-extends : goal.returns-in-Empty-clause-extends
returns-in-Empty-clause-extends g c = then_all _ _ _ _ c.short_lists.ensures.extends c.long_lists.ensures.extends

pub returns-in-Empty-clause-tells : goal.returns-in-Empty-clause-tells
returns-in-Empty-clause-tells g c =
    let env = c.args.context.now.env.now in
    let kept = g.M.Member.kept c.args.context.now.m.now in
    let old = c.args.dia.now in
    let mid = c.short_lists.new.dia in
    let new = c.long_lists.new.dia in
    let bases = c.args.bases.now in
    let first = c.short_lists.ensures.extends.keeps in
    IfOk-map _ _ (λ filling tells base asked same.
    let short = c.in_ok-short_lists.ensures.tells base asked in
    both-TellsLists env base old mid new kept c.requires.sound first (keeps-further old mid new first c.long_lists.ensures.extends.keeps) c.args.literals.now.wanted.now c.args.literals.now.unwanted.now (length bases)
    (subst (TellsLists env base mid kept c.args.literals.now.wanted.now c.args.literals.now.unwanted.now (λ n. n < length bases)) c.in-Empty.is short) filling
    (tells base (AreAsked-keeps old mid base bases first asked) same))
    c.long_lists.result c.long_lists.ensures.tells

pub returns-in-Parts-clause-tells : goal.returns-in-Parts-clause-tells
returns-in-Parts-clause-tells g c = λ base asked same.
    subst (TellsLists c.args.context.now.env.now base c.short_lists.new.dia (g.M.Member.kept c.args.context.now.m.now) c.args.literals.now.wanted.now c.args.literals.now.unwanted.now (λ n. n < length c.args.bases.now)) c.in-Parts.is (c.in_ok-short_lists.ensures.tells base asked)

pub returns-in-Ask-clause-tells : goal.returns-in-Ask-clause-tells
returns-in-Ask-clause-tells g c = λ base asked same.
    subst (TellsLists c.args.context.now.env.now base c.short_lists.new.dia (g.M.Member.kept c.args.context.now.m.now) c.args.literals.now.wanted.now c.args.literals.now.unwanted.now (λ n. n < length c.args.bases.now)) c.in-Ask.is (c.in_ok-short_lists.ensures.tells base asked)
