use Rattle.std.proofs.Common.{◌≡◌, ◌∙◌, ◌++◌, length, subst, ap}
use Rattle.op_model.specs.Fillers.{filler_structures, new_ones}
use Rattle.op_model.specs.Levels.{all_of, levels}
use Rattle.plain_run.specs.Held.{world_of}
use Rattle.store_tests.specs.Fillers.{fixed_of}
use Rattle.plain_stores.specs.Changes.{AreMade, kids}
use Rattle.plain_stores.proofs.Fitted.{for-full, for-made, for-past}
use Rattle.plain_stores.proofs.making.structures_for.Goals as goal

pub returns-then-not-has_room : goal.returns-then-not-has_room
returns-then-not-has_room c =
    let facts = c.args.facts.now in
    let gap = c.args.gap.now in
    let roots = c.push_new.new.new.items in
    let new : c.push_new.new.new.items ≡ new_ones c.args.gap.now = c.in_ok-push_new.ensures ∙ ap (λ l. l ++ new_ones gap) c.new-roots.ensures.items in
    let depth = subst (λ l. levels all_of (kids facts) l c.depth_for-depth.result ≡ levels all_of (kids facts) l (length facts.atoms.now)) c.as_slice.ensures.value c.depth_for-depth.ensures in
    let made = subst (AreMade facts roots c.depth_for-depth.result) c.in-Some.is c.in_ok-made_for.ensures in
    for-full facts (world_of c.args.world.now) c.args.greatest c.args.size c.args.first gap roots c.depth_for-depth.result new depth c.in-Some.made c.taken.result c.has_room.result made c.taken.ensures.value c.has_room.ensures c.if-not-has_room.true

pub returns-in-None : goal.returns-in-None
returns-in-None c =
    let facts = c.args.facts.now in
    let gap = c.args.gap.now in
    let roots = c.push_new.new.new.items in
    let new : c.push_new.new.new.items ≡ new_ones c.args.gap.now = c.in_ok-push_new.ensures ∙ ap (λ l. l ++ new_ones gap) c.new-roots.ensures.items in
    let depth = subst (λ l. levels all_of (kids facts) l c.depth_for-depth.result ≡ levels all_of (kids facts) l (length facts.atoms.now)) c.as_slice.ensures.value c.depth_for-depth.ensures in
    let past = subst (AreMade facts roots c.depth_for-depth.result) c.in-None.is c.in_ok-made_for.ensures in
    for-past facts (world_of c.args.world.now) c.args.greatest c.args.size c.args.first gap roots c.depth_for-depth.result new depth past

pub returns-in_ok-more-in-Some : goal.returns-in_ok-more-in-Some
returns-in_ok-more-in-Some c =
    let facts = c.args.facts.now in
    let gap = c.args.gap.now in
    let roots = c.push_new.new.new.items in
    let new : c.push_new.new.new.items ≡ new_ones c.args.gap.now = c.in_ok-push_new.ensures ∙ ap (λ l. l ++ new_ones gap) c.new-roots.ensures.items in
    let depth = subst (λ l. levels all_of (kids facts) l c.depth_for-depth.result ≡ levels all_of (kids facts) l (length facts.atoms.now)) c.as_slice.ensures.value c.depth_for-depth.ensures in
    let made = subst (AreMade facts roots c.depth_for-depth.result) c.in-Some.is c.in_ok-made_for.ensures in
    let structures = c.in_ok-more-in-Some.ensures ∙ ap (filler_structures (fixed_of facts) c.args.first) c.as_slice-in-Some.ensures.value in
    for-made facts (world_of c.args.world.now) c.args.greatest c.args.size c.args.first gap roots c.depth_for-depth.result new depth c.in-Some.made c.taken.result c.has_room.result c.in_ok-more-in-Some.more made c.taken.ensures.value c.has_room.ensures c.if-not-has_room.false structures
