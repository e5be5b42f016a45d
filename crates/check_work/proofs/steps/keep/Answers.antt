use Rattle.std.proofs.Common.{◌++◌, ◌∷◌, [], ap, map}
use Rattle.check_words.proofs.Stepping.{slot-stands}
use Rattle.check_work.specs.Views.{state_of, unit_of}
use Rattle.check_work.proofs.Noting.{at-hand}
use Rattle.check_work.proofs.Slots.{slot-numbered}
use Rattle.check_work.proofs.steps.keep.Goals as goal

pub returns-clause-stands : goal.returns-clause-stands
returns-clause-stands c = λ env below h.
    let s = state_of env c.args.work.now in
    let around = map unit_of c.args.work.now.around.items in
    slot-stands s around (unit_of c.in_ok-unit.unit) (at-hand _ _ _ c.in_ok-unit.ensures) c.args.ty _ (ap (λ v. record s { units = around ++ v ∷ [] }) c.in_ok-slot.ensures.unit) below h

pub returns-clause-comes : goal.returns-clause-comes
returns-clause-comes c = λ env t same.
    let s = state_of env c.args.work.now in
    let around = map unit_of c.args.work.now.around.items in
    slot-numbered s around (unit_of c.in_ok-unit.unit) (at-hand _ _ _ c.in_ok-unit.ensures) t c.args.ty c.in_ok-slot.slot c.in_ok-slot.ensures.slot same _
    (ap (λ v. record s { units = around ++ v ∷ [] }) c.in_ok-slot.ensures.unit)
