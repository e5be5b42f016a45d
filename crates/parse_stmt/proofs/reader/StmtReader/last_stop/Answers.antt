use Rattle.std.proofs.Common.{sym, ◌∙◌, subst, arith}
use Rattle.parse_stmt.proofs.KnownAll.{known}
use Rattle.parse_stmt.proofs.StopPlaces.{Walked, ends-there, more-walked, none-walked, stops-there}
use Rattle.parse_stmt.proofs.reader.StmtReader.last_stop.Goals as goal

pub loop-after-init : goal.loop-after-init
loop-after-init c = none-walked c.args.self.file c.args.tokens.now

pub stop_within-requires-clause-room : goal.stop_within-requires-clause-room
stop_within-requires-clause-room c = let no_longer = c.loop-after.invariant.no_longer in omega (arith, c.requires)

pub loop-after-preserved : goal.loop-after-preserved
loop-after-preserved c =
    let read = rw c.in-Some.is at c.in_ok-after.ensures in
    subst (λ o. Walked c.args.self.file c.args.tokens.now o c.in-Some.after.now) (sym c.or-stop.ensures)
    (more-walked known c.args.room c.args.self.file c.args.tokens.now c.loop-after.rest.now c.in-Some.after.now read c.loop-after.stop c.in_ok-inner.inner c.loop-after.invariant c.in_ok-inner.ensures)

pub returns-then-ends_stmts : goal.returns-then-ends_stmts
returns-then-ends_stmts c =
    let none = rw c.in_default.is at c.in_ok-after.ensures in
    ends-there known c.args.room c.args.self.file c.args.tokens.now c.loop-after.rest c.loop-after.stop c.loop-after.invariant none c.requires (sym c.ends_stmts.ensures ∙ c.if-ends_stmts.true)

pub returns : goal.returns
returns c =
    let none = rw c.in_default.is at c.in_ok-after.ensures in
    stops-there known c.args.room c.args.self.file c.args.tokens.now c.loop-after.rest c.loop-after.stop c.loop-after.invariant none c.requires (sym c.ends_stmts.ensures ∙ c.if-ends_stmts.false)
