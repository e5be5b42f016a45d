use Rattle.std.proofs.Common.{◌≡◌, ◌≤◌, ◌-◌, ◌∷◌, drop, length, subst, rules}
use Rattle.std.proofs.lemmas.List.{take_all}
use Rattle.plain_run.specs.Held.{with_world, world_of}
use Rattle.plain_structures.specs.Entries.{MakesNamed}
use Rattle.plain_structures.specs.Rows.{IsRowOf}
use Rattle.plain_structures.proofs.Doing.{error-done}
use Rattle.plain_structures.proofs.constructors.perform_make_error.Goals as goal

pub returns-in_ok-came-in-len2-up-clause-row : goal.returns-in_ok-came-in-len2-up-clause-row
returns-in_ok-came-in-len2-up-clause-row c =
    let old = c.args.common.now in
    let w = c.makes_named.new.world in
    let vs = c.args.operands.now in
    let is : c.args.operands.now ≡ c.message-item.result ∷ c.cause-item.result ∷ drop 2 c.args.operands.now = search rules in
    let size : length (drop 2 c.args.operands.now) ≤ length c.args.operands.now - 2 = search rules in
    let all = take_all (length c.args.operands.now - 2) (drop 2 c.args.operands.now) size in
    let row = subst (λ ds. IsRowOf (MakesNamed (world_of old.world) c.message-item.result c.cause-item.result ds) w c.in_ok-came-in-len2-up.came) all c.in_ok-came-in-len2-up.ensures.row in
    λ facts caller. error-done facts caller c.args.operands.now old w c.in_ok-came-in-len2-up.came c.performed.result (c.performed.ensures.row (with_world old w)) c.args.count c.message-item.result c.cause-item.result (drop 2 c.args.operands.now) is row

pub returns-in_ok-came-in-len2-up-clause-stays : goal.returns-in_ok-came-in-len2-up-clause-stays
returns-in_ok-came-in-len2-up-clause-stays c = c.performed.ensures.stays c.args.common.now c.makes_named.new.world c.in_ok-came-in-len2-up.ensures.stays
