use Rattle.std.proofs.Common.{◌≡◌, Some, sym, ap, ◌∙◌, length, arith}
use Rattle.bal_tree.specs.Spells.{kinds_of}
use Rattle.parse_types.proofs.Holding.{leaves-found}
use Rattle.parse_types.proofs.Readings.{length-kinds}
use Rattle.parse_stmt.specs.Reaches.{inside, then_part}
use Rattle.parse_stmt.proofs.reader.StmtReader.next_else.Goals as goal

pub returns-then-at-after : goal.returns-then-at-after
returns-then-at-after c = λ ks e starts.
    let at = c.in-Some.at in
    let ok = rw c.in-Some.is at c.in_ok-_then.ensures in
    let found = leaves-found (then_part (inside c.args.room) (kinds_of c.args.tokens.now)) c.then_part.result (c.in-Some._then, at) ok c.then_part.ensures.end in
    let both : Some (kinds_of at.now) ≡ Some ks = sym found ∙ e in
    let same : kinds_of at.now ≡ ks = cc both in
    let size = ap length same in
    let l = length-kinds at.now in
    omega (arith, c.if-at-after.true)

pub returns : goal.returns
returns c =
    let at = c.in-Some.at in
    let ok = rw c.in-Some.is at c.in_ok-_then.ensures in
    record {
      condition = c.in-Some._then.0;
      then = c.in-Some._then.1;
      reads = rw ok at c.then_part.ensures.reads;
      end = leaves-found (then_part (inside c.args.room) (kinds_of c.args.tokens.now)) c.then_part.result (c.in-Some._then, at) ok c.then_part.ensures.end;
      heads = c.in-Some-after_key.ensures.heads;
      longer = omega (arith, c.if-at-after.false);
    }
