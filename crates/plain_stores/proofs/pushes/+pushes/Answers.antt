use Rattle.std.proofs.Common.{◌∙◌, ◌-◌, drop, length, subst, sym, take}
use Rattle.op_model.specs.ProgramFacts.{own_types}
use Rattle.op_model.specs.Library.{Pushes}
use Rattle.plain_run.specs.ProgramFacts.{facts_of}
use Rattle.plain_run.specs.Held.{world_of}
use Rattle.plain_structures.specs.Rows.{IsTried}
use Rattle.plain_stores.specs.Changes.{IsEnd}
use Rattle.plain_stores.specs.Questions.{PushesAreBeyond}
use Rattle.plain_stores.proofs.Pushing.{first-of, push-goes, push-keeps, push-stops}
use Rattle.plain_stores.proofs.pushes.+pushes.Goals as goal

pub returns-then-not-has_given-clause-row : goal.returns-then-not-has_given-clause-row
returns-then-not-has_given-clause-row t c =
    let facts = c.args.facts.now in
    let old = c.args.world.now in
    let n = c.args.n in
    let vs = c.args.values.now in
    let v = c.v-item.result in
    let new = c.stores_at.new.world in
    let first = c.in_ok-first-in-len1-up.first in
    let end = subst (IsEnd (world_of old) n) c.in-Some.is c.end_of.ensures in
    subst (λ l. IsTried (Pushes (own_types (facts_of facts)) n l (world_of old)) (PushesAreBeyond facts n l old) new first) (sym (first-of vs v c.in-len1-up.len_at_least c.v-item.is))
    (push-stops facts n v (take (length vs - 1) (drop 1 vs)) old c.in-Some.end end first new (sym c.has_given.ensures ∙ c.if-not-has_given.true) c.in_ok-first-in-len1-up.ensures.row)

pub returns-in_ok-undo_unless_done-in-len1-up-clause-row : goal.returns-in_ok-undo_unless_done-in-len1-up-clause-row
returns-in_ok-undo_unless_done-in-len1-up-clause-row t c =
    let facts = c.args.facts.now in
    let old = c.args.world.now in
    let n = c.args.n in
    let vs = c.args.values.now in
    let v = c.v-item.result in
    let first = c.in_ok-first-in-len1-up.first in
    let behind = c.in_ok-behind-in-len1-up.behind in
    let new = c.undo_unless_done.new.world in
    let end = subst (IsEnd (world_of old) n) c.in-Some.is c.end_of.ensures in
    subst (λ l. IsTried (Pushes (own_types (facts_of facts)) n l (world_of old)) (PushesAreBeyond facts n l old) new behind) (sym (first-of vs v c.in-len1-up.len_at_least c.v-item.is))
    (push-goes facts n v (take (length vs - 1) (drop 1 vs)) old c.in-Some.end end first behind c.stores_at.new.world c.pushes.new.world new (sym c.has_given.ensures ∙ c.if-not-has_given.false) c.in_ok-first-in-len1-up.ensures.row c.in_ok-behind-in-len1-up.ensures.row c.in_ok-undo_unless_done-in-len1-up.ensures)

pub returns-in_ok-undo_unless_done-in-len1-up-clause-stays : goal.returns-in_ok-undo_unless_done-in-len1-up-clause-stays
returns-in_ok-undo_unless_done-in-len1-up-clause-stays t c =
    let old = c.args.world.now in
    let vs = c.args.values.now in
    let end = subst (IsEnd (world_of old) c.args.n) c.in-Some.is c.end_of.ensures in
    push-keeps c.args.facts.now c.args.n c.v-item.result (take (length vs - 1) (drop 1 vs)) old c.in-Some.end end c.in_ok-first-in-len1-up.first c.in_ok-behind-in-len1-up.behind c.stores_at.new.world c.pushes.new.world c.undo_unless_done.new.world (sym c.has_given.ensures ∙ c.if-not-has_given.false) c.in_ok-first-in-len1-up.ensures.row c.in_ok-behind-in-len1-up.ensures.stays c.in_ok-undo_unless_done-in-len1-up.ensures
