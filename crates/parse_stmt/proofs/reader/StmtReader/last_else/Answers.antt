use Rattle.parse_stmt.proofs.ElseStops.{all-passed, more-passed, none-passed}
use Rattle.parse_stmt.proofs.KnownAll.{known}
use Rattle.parse_stmt.proofs.reader.StmtReader.last_else.Goals as goal

pub loop-at-init : goal.loop-at-init
loop-at-init c = none-passed c.args.self.file c.args.tokens.now c.args.after.now

pub loop-at-preserved : goal.loop-at-preserved
loop-at-preserved c =
    let there = rw c.in-Some.is at c.in_ok-at.ensures in
    more-passed known c.args.room c.args.self.file c.args.tokens.now c.args.after.now c.loop-at.rest.now c.in-Some.behind.now c.in-Some.at there c.loop-at.last c.requires.room c.loop-at.invariant

pub returns : goal.returns
returns c =
    let none = rw c.in_default.is at c.in_ok-at.ensures in
    all-passed known c.args.room c.args.self.file c.args.tokens.now c.args.after.now c.requires.read c.requires.first c.requires.room c.loop-at.last c.loop-at.rest.now c.loop-at.invariant none
