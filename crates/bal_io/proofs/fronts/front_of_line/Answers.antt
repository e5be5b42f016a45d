use Rattle.std.proofs.Common.{◌≡◌, ◌+◌, ◌<◌, take, length, position, Some, None, sym, arith}
use Rattle.bal_io.specs.Content.{is_line_feed}
use Rattle.bal_io.proofs.Lines.{IsLineFront-line_feed, IsLineFront-full}
use Rattle.bal_io.proofs.fronts.front_of_line.Goals as goal

pub returns-in-Some : goal.returns-in-Some
returns-in-Some c =
    let found : position is_line_feed (take (c.args.max + 1) c.args.bytes.now) ≡ Some c.in-Some.at = rw (← c.first_bytes-seen.ensures) (sym c.in-Some.ensures) in
    IsLineFront-line_feed c.args.bytes.now c.args.max c.in-Some.at found

pub returns-in-None : goal.returns-in-None
returns-in-None c =
    let none : position is_line_feed (take (c.args.max + 1) c.args.bytes.now) ≡ None = rw (← c.first_bytes-seen.ensures) (sym c.in-None.ensures) in
    let long : c.args.max < length (take (c.args.max + 1) c.args.bytes.now) = rw (← c.first_bytes-seen.ensures) (omega arith) in
    IsLineFront-full c.args.bytes.now c.args.max none long
