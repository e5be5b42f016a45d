use Rattle.std.proofs.Common.{map, refl}
use Rattle.check_words.proofs.Coming.{given, next}
use Rattle.check_words.proofs.Flowing.{flow-now}
use Rattle.check_work.specs.Views.{flow_of, state_of, unit_of}
use Rattle.check_work.proofs.Noting.{at-hand}
use Rattle.needs_of_loops.proofs.Answered.{read-last}
use Rattle.needs_of_loops.proofs.loops.item_slot.Goals as goal

pub returns-in-Some : goal.returns-in-Some
returns-in-Some c = λ env.
    let s = state_of env c.args.work.now in
    let unit = unit_of c.in_ok-unit.unit.now in
    (c.in-Some.v.now, refl, next _ _ _ _ _ unit.flow s (flow-now s (map unit_of c.args.work.now.around.items) unit (at-hand _ _ _ c.in_ok-unit.ensures)) (given _ s c.in-Some.v.now (read-last _ _ _ c.as_slice.ensures.value c.in-Some.ensures)))
