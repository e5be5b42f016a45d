use Rattle.std.proofs.Common.{◌≡◌, false, chars, sym, ap, ◌∙◌}
use Rattle.bal_lexer.specs.Lexemes.{begins_with}
use Rattle.bal_lexer.specs.Runs.{class_test}
use Rattle.bal_lexer.proofs.Runs.{has_passed-none, has_passed-more, has_passed-run}
use Rattle.bal_lexer.proofs.cursor.split_run.Goals as goal
use Rattle.bal_lexer.proofs.cursor.split_run.Goals.{in-Some+then-not-has, in_default, Joined-split_first}

pub loop-c-init : goal.loop-c-init
loop-c-init c = (c.utf8.s, has_passed-none (class_test c.args.class) c.args.s.now)

pub loop-c-preserved : goal.loop-c-preserved
loop-c-preserved c =
    (c.in-Some.ensures.text, has_passed-more (class_test c.args.class) c.args.s.now c.loop-c.rest.now c.in-Some.after.now c.in-Some.c c.utf8.s c.loop-c.invariant.0 c.in-Some.ensures.text c.loop-c.invariant.1 c.in-Some.ensures.bytes (sym c.if-not-has.ensures))

-- the run is over
stops : (c : Joined-split_first) → begins_with (class_test c.args.class) (chars c.loop-c.rest.now) ≡ false
stops c =
    let test = class_test c.args.class in
    elim c.match-split_first.branch [
      | in-Some+then-not-has w ↦ ap (begins_with test) w.in-Some.ensures.chars ∙ sym w.if-not-has.ensures
      | in_default w ↦ ap (begins_with test) w.in_default.ensures.chars
    ]

pub split_at-requires : goal.split_at-requires
split_at-requires c =
    (has_passed-run (class_test c.args.class) c.args.s.now c.loop-c.rest.now c.utf8.s c.loop-c.invariant.0 c.loop-c.invariant.1 (stops (goal.at.split_at-requires c).Joined-split_first)).2

pub returns-clause-front : goal.returns-clause-front
returns-clause-front c =
    ap chars c.split_at.ensures.front ∙ (has_passed-run (class_test c.args.class) c.args.s.now c.loop-c.rest.now c.utf8.s c.loop-c.invariant.0 c.loop-c.invariant.1 (stops (goal.at.returns-clause-front c).Joined-split_first)).0

pub returns-clause-after : goal.returns-clause-after
returns-clause-after c =
    ap chars c.split_at.ensures.back ∙ (has_passed-run (class_test c.args.class) c.args.s.now c.loop-c.rest.now c.utf8.s c.loop-c.invariant.0 c.loop-c.invariant.1 (stops (goal.at.returns-clause-after c).Joined-split_first)).1
