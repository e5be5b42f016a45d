use Rattle.subtype_decider.proofs.Grown.{CanJudge-grown}
use Rattle.subtype_decider.proofs.NextPath.{way-IsReady, result-NextSays, result-HasTooMany}
use Rattle.subtype_decider.proofs.held.Held.settle_next.Goals as goal

pub settle-requires : goal.settle-requires
settle-requires g c =
    way-IsReady c.args.call.now.env.now c.args.diagrams.now c.args.table.now c.args.self.now c.index-way.result.now c.requires.can c.requires.some c.index-way.ensures

pub returns-clause-can : goal.returns-clause-can
returns-clause-can g c =
    CanJudge-grown c.args.call.now.env.now c.args.diagrams.now c.settle.new.diagrams c.args.table.now c.args.self.now c.settle.ensures.extends c.requires.can

pub returns-clause-says : goal.returns-clause-says
returns-clause-says g c =
    let can = CanJudge-grown c.args.call.now.env.now c.args.diagrams.now c.settle.new.diagrams c.args.table.now c.args.self.now c.settle.ensures.extends c.requires.can in
    result-NextSays c.args.call.now.env.now c.settle.new.diagrams c.args.table.now c.args.self.now c.index-way.result.now can c.requires.some c.index-way.ensures c.settle.result c.settle.ensures.turn

pub returns-clause-limit : goal.returns-clause-limit
returns-clause-limit g c =
    let can = CanJudge-grown c.args.call.now.env.now c.args.diagrams.now c.settle.new.diagrams c.args.table.now c.args.self.now c.settle.ensures.extends c.requires.can in
    result-HasTooMany c.args.call.now.env.now c.settle.new.diagrams c.args.table.now c.args.self.now c.index-way.result.now can c.requires.some c.index-way.ensures c.settle.result c.settle.ensures.limit
