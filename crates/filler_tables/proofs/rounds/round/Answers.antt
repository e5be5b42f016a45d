use Rattle.std.proofs.Common.{◌≡◌, ◌↔◌, ◌∙◌, List, Some, ap, arith, length, subst, sym, true}
use Rattle.std.proofs.lemmas.Option.{slice_get-get_or}
use Rattle.list_fillers.specs.declared.candidate.Candidate.{Candidate}
use Rattle.list_fillers.specs.Marks.{CanFill}
use Rattle.filler_tables.proofs.Marking.{AreMarked, all-marked, marked-more, none-marked}
use Rattle.filler_tables.proofs.rounds.round.Goals as goal

pub loop-a-init : goal.loop-a-init
loop-a-init c = subst (AreMarked c.args.defs.now c.args.rows.now c.args.marks.now 0) (sym c.new-next.ensures.items) (none-marked c.args.defs.now c.args.rows.now c.args.marks.now)

pub loop-a-preserved : goal.loop-a-preserved
loop-a-preserved c =
    let defs = c.args.defs.now in
    let d = c.index-defs-a.result in
    let there = slice_get-get_or defs c.loop-a.a d c.loop-a-test.true ∙ ap Some (sym c.index-defs-a.is) in
    let here = subst (λ (cs : List Candidate). (c.can_fill.result ≡ true) ↔ CanFill c.args.marks.now d cs) c.row_at.ensures c.can_fill.ensures in
    marked-more defs c.args.rows.now c.args.marks.now c.loop-a.a c.loop-a.next.items _ c.can_fill.result d c.loop-a.invariant there here c.in_ok-push.ensures.items

pub returns-clause-round : goal.returns-clause-round
returns-clause-round c =
    let e : c.loop-a.a ≡ length c.args.defs.now = omega (arith, c.loop-a-test.false, c.loop-a.auto.a-end) in
    all-marked c.args.defs.now c.args.rows.now c.args.marks.now c.loop-a.a c.loop-a.next.items e c.loop-a.invariant

pub returns-clause-length : goal.returns-clause-length
returns-clause-length c =
    let e : c.loop-a.a ≡ length c.args.defs.now = omega (arith, c.loop-a-test.false, c.loop-a.auto.a-end) in
    c.loop-a.invariant.long ∙ e
