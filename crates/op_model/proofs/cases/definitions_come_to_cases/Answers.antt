use Rattle.std.proofs.Common.{refl}
use Rattle.op_model.proofs.CaseRows.{sets_new_key, sets_old_key, sets_no_string, sets_no_immutable, equal_lists, other_lists, equal_mappings, equal_cycles}
use Rattle.op_model.proofs.cases.definitions_come_to_cases.Goals as goal

pub returns-clause-clones_list : goal.returns-clause-clones_list
returns-clause-clones_list c = refl

pub returns-clause-clones_once : goal.returns-clause-clones_once
returns-clause-clones_once c = refl

pub returns-clause-clones_share : goal.returns-clause-clones_share
returns-clause-clones_share c = refl

pub returns-clause-clones_cycle : goal.returns-clause-clones_cycle
returns-clause-clones_cycle c = refl

pub returns-clause-reaches_by_levels : goal.returns-clause-reaches_by_levels
returns-clause-reaches_by_levels c = refl

pub returns-clause-freezes : goal.returns-clause-freezes
returns-clause-freezes c = refl

pub returns-clause-freezes_no_cycle : goal.returns-clause-freezes_no_cycle
returns-clause-freezes_no_cycle c = refl

pub returns-clause-fills_with_ints : goal.returns-clause-fills_with_ints
returns-clause-fills_with_ints c = refl

pub returns-clause-fills_by_levels : goal.returns-clause-fills_by_levels
returns-clause-fills_by_levels c = refl

pub returns-clause-sets_entries : goal.returns-clause-sets_entries
returns-clause-sets_entries c = refl

pub returns-clause-sets_new_key : goal.returns-clause-sets_new_key
returns-clause-sets_new_key c = sets_new_key

pub returns-clause-sets_old_key : goal.returns-clause-sets_old_key
returns-clause-sets_old_key c = sets_old_key

pub returns-clause-sets_no_string : goal.returns-clause-sets_no_string
returns-clause-sets_no_string c = sets_no_string

pub returns-clause-sets_no_immutable : goal.returns-clause-sets_no_immutable
returns-clause-sets_no_immutable c = sets_no_immutable

pub returns-clause-counts_cells : goal.returns-clause-counts_cells
returns-clause-counts_cells c = refl

pub returns-clause-equal_lists : goal.returns-clause-equal_lists
returns-clause-equal_lists c = equal_lists

pub returns-clause-other_lists : goal.returns-clause-other_lists
returns-clause-other_lists c = other_lists

pub returns-clause-equal_mappings : goal.returns-clause-equal_mappings
returns-clause-equal_mappings c = equal_mappings

pub returns-clause-equal_cycles : goal.returns-clause-equal_cycles
returns-clause-equal_cycles c = equal_cycles

pub returns-clause-error_made : goal.returns-clause-error_made
returns-clause-error_made c = refl

pub returns-clause-text_of_list : goal.returns-clause-text_of_list
returns-clause-text_of_list c = refl

pub returns-clause-text_of_cycle : goal.returns-clause-text_of_cycle
returns-clause-text_of_cycle c = refl

pub returns-clause-text_of_error : goal.returns-clause-text_of_error
returns-clause-text_of_error c = refl

pub returns-clause-parses_ints : goal.returns-clause-parses_ints
returns-clause-parses_ints c = refl

pub returns-clause-trims : goal.returns-clause-trims
returns-clause-trims c = refl

pub returns-clause-makes_three : goal.returns-clause-makes_three
returns-clause-makes_three c = refl

pub returns-clause-wakes_behind : goal.returns-clause-wakes_behind
returns-clause-wakes_behind c = refl

pub returns-clause-receives_later : goal.returns-clause-receives_later
returns-clause-receives_later c = refl

pub returns-clause-send_wakes : goal.returns-clause-send_wakes
returns-clause-send_wakes c = refl

pub returns-clause-receives_sent : goal.returns-clause-receives_sent
returns-clause-receives_sent c = refl

pub returns-clause-waits_for_end : goal.returns-clause-waits_for_end
returns-clause-waits_for_end c = refl

pub returns-clause-wait_takes : goal.returns-clause-wait_takes
returns-clause-wait_takes c = refl

pub returns-clause-waits_twice : goal.returns-clause-waits_twice
returns-clause-waits_twice c = refl
