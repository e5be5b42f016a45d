use Rattle.flow_narrowing.proofs.Undoing.{blocks-end, logs-begin, logs-go-on, no-trace}
use Rattle.flow_narrowing.proofs.changes.ways_leave_no_trace.Goals as goal

pub returns-clause-begin : goal.returns-clause-begin
returns-clause-begin c = logs-begin

pub returns-clause-go_on : goal.returns-clause-go_on
returns-clause-go_on c = logs-go-on

pub returns-clause-blocks : goal.returns-clause-blocks
returns-clause-blocks c = blocks-end

pub returns-clause-no_trace : goal.returns-clause-no_trace
returns-clause-no_trace c = no-trace
