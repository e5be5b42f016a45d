use Rattle.std.proofs.Common.{subst}
use Rattle.worker_pairing.specs.Marks.{stmts_marks}
use Rattle.worker_members.specs.inner.Hearing.{Grows}
use Rattle.worker_members.proofs.Whole.{member-of}
use Rattle.worker_members.proofs.gathering.of_statements.Goals as goal

pub returns : goal.returns
returns c =
    member-of (stmts_marks c.args.initial.now) (stmts_marks c.args.rest.now) c.unheard-heard.result c.stmts.new.heard c.stmts-2.new.heard c.args.gives.now c.args.end c.ended.result c.unheard-heard.ensures
    (subst (λ s. Grows s (stmts_marks c.args.initial.now) c.unheard-heard.result c.stmts.new.heard) c.initially.ensures c.stmts.ensures)
    (subst (λ s. Grows s (stmts_marks c.args.rest.now) c.stmts.new.heard c.stmts-2.new.heard) c.outside.ensures c.stmts-2.ensures) c.ended.ensures
