use Rattle.std.proofs.Common.{◌≡◌, ◌≤◌, ◌∙◌, Bool, List, ap, arith, length, subst}
use Rattle.std.specs.List.{count_by}
use Rattle.list_fillers.specs.Marks.{IsRound}
use Rattle.filler_tables.proofs.Marking.{at-most-all, first-round, grown, next-round, still}
use Rattle.filler_tables.proofs.rounds.settle.Goals as goal

pub loop-turn-init : goal.loop-turn-init
loop-turn-init c = (first-round c.args.defs.now c.args.rows.now c.requires c.in_ok-marks.marks.items c.in_ok-marks.ensures.length c.in_ok-marks.ensures.round, omega arith)

pub loop-turn-preserved : goal.loop-turn-preserved
loop-turn-preserved c =
    let defs = c.args.defs.now in
    let rows = c.args.rows.now in
    let old = c.loop-turn.marks.items in
    let new = c.in_ok-next.next.items in
    let round = subst (λ (ms : List Bool). IsRound defs rows ms new) c.deref.ensures.value c.in_ok-next.ensures.round in
    let now : c.marked.result ≡ count_by (λ m. m) new = c.marked.ensures ∙ ap (λ (ms : List Bool). count_by (λ m. m) ms) c.deref-in-loop-turn.ensures.value in
    let before : c.marked-in-loop-turn.result ≡ count_by (λ m. m) old = c.marked-in-loop-turn.ensures ∙ ap (λ (ms : List Bool). count_by (λ m. m) ms) c.deref-in-loop-turn-2.ensures.value in
    let more : count_by (λ m. m) old ≤ count_by (λ m. m) new = grown defs rows c.requires old new c.in_ok-next.ensures.length c.loop-turn.invariant.0 round in (
      next-round defs rows c.requires old new c.in_ok-next.ensures.length c.loop-turn.invariant.0 round,
      omega (arith, now, before, more, c.loop-turn.invariant.1),
    )

pub returns-then-marked-clause-still : goal.returns-then-marked-clause-still
returns-then-marked-clause-still c =
    let defs = c.args.defs.now in
    let rows = c.args.rows.now in
    let old = c.loop-turn.marks.items in
    let new = c.in_ok-next.next.items in
    let round = subst (λ (ms : List Bool). IsRound defs rows ms new) c.deref.ensures.value c.in_ok-next.ensures.round in
    let now : c.marked.result ≡ count_by (λ m. m) new = c.marked.ensures ∙ ap (λ (ms : List Bool). count_by (λ m. m) ms) c.deref-in-loop-turn.ensures.value in
    let before : c.marked-in-loop-turn.result ≡ count_by (λ m. m) old = c.marked-in-loop-turn.ensures ∙ ap (λ (ms : List Bool). count_by (λ m. m) ms) c.deref-in-loop-turn-2.ensures.value in
    let same : count_by (λ m. m) new ≡ count_by (λ m. m) old = omega (arith, now, before, c.if-marked.true) in
    still defs rows c.requires old new c.in_ok-next.ensures.length c.loop-turn.invariant.0 round same

pub unreachable-requires : goal.unreachable-requires
unreachable-requires c =
    let most = at-most-all c.args.defs.now c.args.rows.now c.loop-turn.marks.items c.loop-turn.invariant.0 in
    absurd (omega (arith, most, c.loop-turn.invariant.1, c.loop-turn-test.false))
