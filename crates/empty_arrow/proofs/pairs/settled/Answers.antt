use Rattle.std.proofs.Common.{Contains, subst}
use Rattle.std.specs.Option.{option_copied}
use Rattle.type_diagrams.specs.Tables.{condition}
use Rattle.empty_arrow.proofs.PairLaws.{held-arguments, held-result, ask-arguments, ask-result}
use Rattle.empty_arrow.proofs.pairs.settled.Goals as goal

pub returns-in-None : goal.returns-in-None
returns-in-None g c =
    λ env arrows. ask-arguments env c.args.dia.now (g.M.Member.kept c.args.m.now) arrows c.args.sought.args (condition c.args.dia.now c.args.sought.result) c.args.sought.may_fail c.in-None.ensures c.requires.args

pub returns-in-Some-None : goal.returns-in-Some-None
returns-in-Some-None g c =
    λ env arrows. held-arguments env c.args.dia.now (g.M.Member.kept c.args.m.now) arrows c.args.sought.args (condition c.args.dia.now c.args.sought.result) c.args.sought.may_fail
    (subst (λ o. Contains (g.M.Member.kept c.args.m.now) (c.args.sought.args, option_copied o)) c.in-Some-None.field-0-is c.in-Some-None.ensures)

pub returns-in-None-seen : goal.returns-in-None-seen
returns-in-None-seen g c =
    λ env arrows. ask-result env c.args.dia.now (g.M.Member.kept c.args.m.now) arrows c.args.sought.result (condition c.args.dia.now c.args.sought.args) c.args.sought.may_fail c.if-sought.false c.in-None-seen.ensures c.requires.results

pub returns-in-Some-None-seen : goal.returns-in-Some-None-seen
returns-in-Some-None-seen g c =
    λ env arrows. held-result env c.args.dia.now (g.M.Member.kept c.args.m.now) arrows c.args.sought.result (condition c.args.dia.now c.args.sought.args) c.args.sought.may_fail c.if-sought.false
    (subst (λ o. Contains (g.M.Member.kept c.args.m.now) (c.args.sought.result, option_copied o)) c.in-Some-None-seen.field-0-is c.in-Some-None-seen.ensures)
