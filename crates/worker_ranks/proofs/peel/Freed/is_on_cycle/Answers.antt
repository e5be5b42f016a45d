use Rattle.std.proofs.Common.{◌∙◌, map, subst, sym}
use Rattle.std.proofs.lemmas.Bool.{false≢true}
use Rattle.worker_ranks.specs.inner.Free.{AreFree}
use Rattle.worker_ranks.proofs.NotOnCycle.{frees-back, frees-next, set-free}
use Rattle.worker_ranks.proofs.peel.Freed.is_on_cycle.Goals as goal

pub returns-then-is_free-clause-free : goal.returns-then-is_free-clause-free
returns-then-is_free-clause-free c =
    let next = map (λ v. v.items) c.args.next.now in
    let back = map (λ v. v.items) c.args.back.now in
    c.free-2.ensures next (frees-back next back c.requires.reversed) (c.free.ensures next (frees-next next) c.requires.free)

pub returns-then-is_free-clause-none : goal.returns-then-is_free-clause-none
returns-then-is_free-clause-none c off =
    let next = map (λ v. v.items) c.args.next.now in
    let back = map (λ v. v.items) c.args.back.now in
    c.free-2.ensures next (frees-back next back c.requires.reversed) (c.free.ensures next (frees-next next) c.requires.free) c.args.number (sym c.is_free.ensures ∙ c.if-is_free.true)

pub returns-then-is_free-clause-cycle : goal.returns-then-is_free-clause-cycle
returns-then-is_free-clause-cycle c on = absurd (false≢true on)

pub returns-then-on-clause-free : goal.returns-then-on-clause-free
returns-then-on-clause-free c =
    let next = map (λ v. v.items) c.args.next.now in
    let back = map (λ v. v.items) c.args.back.now in
    c.free-2.ensures next (frees-back next back c.requires.reversed) (c.free.ensures next (frees-next next) c.requires.free)

pub returns-then-on-clause-none : goal.returns-then-on-clause-none
returns-then-on-clause-none c off = absurd (false≢true (sym off))

pub returns-then-on-clause-cycle : goal.returns-then-on-clause-cycle
returns-then-on-clause-cycle c on = c.in_ok-on.ensures.cycle c.if-on.true

pub returns-clause-free : goal.returns-clause-free
returns-clause-free c =
    let next = map (λ v. v.items) c.args.next.now in
    let back = map (λ v. v.items) c.args.back.now in
    subst (AreFree next) (sym c.mark.ensures)
    (set-free next _ c.args.number (c.free-2.ensures next (frees-back next back c.requires.reversed) (c.free.ensures next (frees-next next) c.requires.free)) (c.in_ok-on.ensures.none c.if-on.false))

pub returns-clause-none : goal.returns-clause-none
returns-clause-none c off = c.in_ok-on.ensures.none c.if-on.false

pub returns-clause-cycle : goal.returns-clause-cycle
returns-clause-cycle c on = absurd (false≢true on)
