use Rattle.worker_pairing.specs.Marks.{stmts_marks}
use Rattle.event_search.proofs.Whole.{all-said}
use Rattle.event_search.proofs.looking.in_statements.Goals as goal

pub returns : goal.returns
returns c =
    all-said (stmts_marks c.args.initial.now) (stmts_marks c.args.rest.now) c.args.end c.args.search c.stmts.new.search c.stmts-2.new.search c.say.new.self c.stmts.ensures c.stmts-2.ensures c.say.ensures
