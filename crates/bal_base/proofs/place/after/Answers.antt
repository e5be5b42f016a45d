use Rattle.std.proofs.Common.{◌+◌, sym, ap, ◌∙◌, arith}
use Rattle.std.proofs.lemmas.Iterator.{YieldsList-from_chars}
use Rattle.std.proofs.lemmas.Iterator.Consumers.{YieldsList-turn, YieldsList-end}
use Rattle.std.proofs.lemmas.List.{map-id}
use Rattle.bal_base.specs.Place.{line_after, column_after}
use Rattle.bal_base.proofs.Lines.{line-feed, other-point, line-small, column-small, chars-short}
use Rattle.bal_base.proofs.place.after.Goals as goal

pub overflow_add-line : goal.overflow_add-line
overflow_add-line c =
    let t = YieldsList-turn (YieldsList-from_chars c.args.before.now c.utf8.before cc) c.loop-c.yielded _ c.loop-c.yielded_by _ _ c.in-Some.c c.in-Some.is c.next.ensures.steps in
    omega (arith, line-small c.loop-c.yielded, chars-short c.args.before.now c.utf8.before, t.0)

pub overflow_add-column : goal.overflow_add-column
overflow_add-column c =
    let t = YieldsList-turn (YieldsList-from_chars c.args.before.now c.utf8.before cc) c.loop-c.yielded _ c.loop-c.yielded_by _ _ c.in-Some.c c.in-Some.is c.next.ensures.steps in
    omega (arith, column-small c.loop-c.yielded, chars-short c.args.before.now c.utf8.before, t.0)

pub loop-c-preserved-then-c-eq10 : goal.loop-c-preserved-then-c-eq10
loop-c-preserved-then-c-eq10 c =
    let step = line-feed c.loop-c.yielded c.in-Some.c c.if-c-eq10.true in
    record { line = ap (λ n. n + 1) c.loop-c.invariant.line ∙ sym step.0; column = sym step.1 }

pub loop-c-preserved : goal.loop-c-preserved
loop-c-preserved c =
    let step = other-point c.loop-c.yielded c.in-Some.c c.if-c-eq10.false in
    record { line = c.loop-c.invariant.line ∙ sym step.0; column = ap (λ n. n + 1) c.loop-c.invariant.column ∙ sym step.1 }

pub returns-clause-line : goal.returns-clause-line
returns-clause-line c =
    let t = YieldsList-end (YieldsList-from_chars c.args.before.now c.utf8.before cc) c.loop-c.yielded _ c.loop-c.yielded_by _ _ c.in-None.is c.next.ensures.steps in
    c.loop-c.invariant.line ∙ ap line_after (sym (map-id c.loop-c.yielded) ∙ t.0)

pub returns-clause-column : goal.returns-clause-column
returns-clause-column c =
    let t = YieldsList-end (YieldsList-from_chars c.args.before.now c.utf8.before cc) c.loop-c.yielded _ c.loop-c.yielded_by _ _ c.in-None.is c.next.ensures.steps in
    c.loop-c.invariant.column ∙ ap column_after (sym (map-id c.loop-c.yielded) ∙ t.0)
