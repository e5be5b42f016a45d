use Rattle.flow_narrowing.proofs.Undoing.{end-again}
use Rattle.flow_narrowing.proofs.changes.Flows.leave.Goals as goal

pub returns-clause-again : goal.returns-clause-again
returns-clause-again c =
    end-again c.args.mark.variables c.take_all_back.new.back.items c.new-changes.result.items c.args.self.now.variables.items c.take_all_back.new.variables.items
    c.truncate.new.self.items c.in_ok-take_all_back.ensures.again c.new-changes.ensures.items c.truncate.ensures.items
