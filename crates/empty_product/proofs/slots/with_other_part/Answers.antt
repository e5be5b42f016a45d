use Rattle.std.proofs.Common.{◌≡◌, Some}
use Rattle.type_diagrams.specs.Tables.{condition}
use Rattle.empty_product.specs.Slots.{condition_at, place_of, asking_of}
use Rattle.empty_product.proofs.Narrowing.{slot-condition, other-IsVoidAt}
use Rattle.empty_product.proofs.slots.with_other_part.Goals as goal
use Rattle.empty_product.proofs.slots.with_other_part.Goals.{in-Optional, in-Optional-2}

pub returns-in-Void-clause-tells : goal.returns-in-Void-clause-tells
returns-in-Void-clause-tells g c =
    let old = c.args.dia.now in
    let has : condition_at (place_of old c.args.slot) ≡ Some (condition old c.match-slot.from) = elim c.match-slot.branch [ in-Optional w ↦ slot-condition old c.args.slot w.in-Optional.question c.match-slot.from w.in-Optional.is w.from-is | in-Optional-2 w ↦ slot-condition old c.args.slot w.in-Optional.question c.match-slot.from w.in-Optional.is w.from-is ] in
    other-IsVoidAt (asking_of old c.args.demand) c.diff.new.self (g.M.Member.kept c.args.m.now) (place_of old c.args.slot) (condition old c.match-slot.from) c.in_ok-question.question has c.in_ok-question.ensures.condition.condition c.in-Void.ensures
