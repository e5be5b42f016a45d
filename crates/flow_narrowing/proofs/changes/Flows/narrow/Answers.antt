use Rattle.flow_narrowing.proofs.Undoing.{narrow-logs}
use Rattle.flow_narrowing.proofs.changes.Flows.narrow.Goals as goal

pub returns-clause-logged : goal.returns-clause-logged
returns-clause-logged c =
    narrow-logs c.args.self.now.log.items c.push.new.self.items c.args.self.now.variables.items c.take_back-back.new.variables.items c.args.index c.args.to
    c.take_back-back.result c.take_back-back.ensures.variables c.take_back-back.ensures.again c.in_ok-push.ensures.items
