use Rattle.std.proofs.Common.{ℕ, ◌+◌, ◌-◌, ◌*◌, ◌<◌, IsSomeAnd, All, take, get_or}
use Rattle.type_model.specs.Places.{item_type}
use Rattle.type_model.specs.Membership.{In}
use Rattle.type_model.specs.Elements.{MemberIn, CaseMaps}
use Rattle.subtype_decider.specs.Measure.{fixed_nodes, fields_nodes, rest_nodes, type_nodes, option_nodes, room}
use Rattle.subtype_decider.proofs.member.+holds.Given as goal

abbrev pub decreases-holds : goal.decreases-holds
decreases-holds l = goal.size-holds l * (2 * room l.env.now) + type_nodes l.t.now

abbrev pub decreases-fits : goal.decreases-fits
decreases-fits l = goal.size-fits l * (2 * room l.env.now)

abbrev pub decreases-list_fits : goal.decreases-list_fits
decreases-list_fits l = goal.size-list_fits l * (2 * room l.env.now) + room l.env.now

abbrev pub decreases-items_in : goal.decreases-items_in
decreases-items_in l = goal.size-items_in l * (2 * room l.env.now) + fixed_nodes l.fixed.now + rest_nodes l.rest.now + 2

abbrev pub decreases-item_in : goal.decreases-item_in
decreases-item_in l = goal.size-item_in l * (2 * room l.env.now) + option_nodes l.t + 1

abbrev pub decreases-mapping_fits : goal.decreases-mapping_fits
decreases-mapping_fits l = goal.size-mapping_fits l * (2 * room l.env.now) + room l.env.now

abbrev pub decreases-members_in : goal.decreases-members_in
decreases-members_in l = goal.size-members_in l * (2 * room l.env.now) + fields_nodes l.fields.now + rest_nodes l.rest.now + 3

abbrev pub decreases-member_in : goal.decreases-member_in
decreases-member_in l = goal.size-member_in l * (2 * room l.env.now) + fields_nodes l.fields.now + rest_nodes l.rest.now + 2

abbrev pub decreases-all_in : goal.decreases-all_in
decreases-all_in l = goal.size-all_in l * (2 * room l.env.now) + type_nodes l.t.now + 1

abbrev pub decreases-function_fits : goal.decreases-function_fits
decreases-function_fits l = goal.size-function_fits l * (2 * room l.env.now) + 2 * room l.env.now - 1

abbrev pub decreases-cases_map : goal.decreases-cases_map
decreases-cases_map l = goal.size-cases_map l * (2 * room l.env.now) + room l.env.now + type_nodes l.args.now + type_nodes l.outcome.now + 2

abbrev pub decreases-case_maps : goal.decreases-case_maps
decreases-case_maps l = goal.size-case_maps l * (2 * room l.env.now) + room l.env.now + type_nodes l.args.now + type_nodes l.outcome.now + 1

abbrev pub decreases-arguments_in : goal.decreases-arguments_in
decreases-arguments_in l = goal.size-arguments_in l * (2 * room l.env.now) + room l.env.now + type_nodes l.t.now

abbrev pub invariant-items_in-loop-i : goal.invariant-items_in-loop-i
invariant-items_in-loop-i l = (i : ℕ) (d : _) → i < l.i → IsSomeAnd (item_type l.fixed l.rest i) (λ t. In l.env (get_or l.items i d) t.sem)

abbrev pub invariant-members_in-loop-m : goal.invariant-members_in-loop-m
invariant-members_in-loop-m l = All (MemberIn l.env l.fields l.rest) (take l.m-index l.members)

abbrev pub invariant-all_in-loop-x : goal.invariant-all_in-loop-x
invariant-all_in-loop-x l = All (λ x. In l.env x l.t) (take l.x-index l.shapes)

abbrev pub invariant-cases_map-loop-case : goal.invariant-cases_map-loop-case
invariant-cases_map-loop-case l = All (CaseMaps l.env l.args l.outcome) (take l.case-index l.cases)
