use Rattle.std.proofs.Common.{◌∙◌, List, Some, map, subst}
use Rattle.check_words.specs.Constructors.{takes_key}
use Rattle.check_words.specs.State.{IsLast}
use Rattle.check_work.specs.declared.work.Constructor.{Constructor}
use Rattle.check_work.specs.Views.{constructor_of, state_of}
use Rattle.needs_of_structures.proofs.Answering.{on-any}
use Rattle.needs_of_structures.proofs.Made.{lifted-comes, lifted-on}
use Rattle.needs_of_structures.proofs.Opening.{keyed-comes, keyed-stands, on-then, taken-comes}
use Rattle.needs_of_structures.proofs.keys.take_key.Goals as goal

pub returns-in-Ok-true-clause-stands : goal.returns-in-Ok-true-clause-stands
returns-in-Ok-true-clause-stands c = λ env h. on-any _ c.refused.result h

pub returns-in-Ok-true-clause-comes : goal.returns-in-Ok-true-clause-comes
returns-in-Ok-true-clause-comes c = λ env.
    let s = state_of env c.args.work.now in
    let t = c.in-Ok-true.ensures in
    taken-comes s c.args.key.now c.args.at t.0 (subst (λ (cs : List Constructor). IsLast (map constructor_of cs) t.0) c.as_slice.ensures.value t.1) (t.2 ∙ c.in-Ok-true.field-0-test) c.refused.result (c.refused.ensures s)

pub returns-in-Ok-false-clause-stands : goal.returns-in-Ok-false-clause-stands
returns-in-Ok-false-clause-stands c = λ env h.
    lifted-on _ c.add_key.result c.lift.result c.lift.ensures
    (on-then _ _ c.add_key.result (λ g. keyed-stands (state_of env c.args.work.now) (Some c.share.result) _ g h) c.add_key.ensures)

pub returns-in-Ok-false-clause-comes : goal.returns-in-Ok-false-clause-comes
returns-in-Ok-false-clause-comes c = λ env.
    let s = state_of env c.args.work.now in
    let t = c.in-Ok-false.ensures in
    lifted-comes (takes_key c.args.key.now c.args.at) s _ c.add_key.result c.lift.result c.lift.ensures
    (on-then _ _ c.add_key.result (λ g. keyed-comes s c.args.key.now c.args.at t.0 (subst (λ (cs : List Constructor). IsLast (map constructor_of cs) t.0) c.as_slice.ensures.value t.1) (t.2 ∙ c.in-Ok-false.field-0-test) c.share.result c.share.ensures _ g) c.add_key.ensures)
