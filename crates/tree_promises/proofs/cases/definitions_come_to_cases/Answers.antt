use Rattle.tree_promises.proofs.cases.definitions_come_to_cases.Goals as goal
use Rattle.tree_promises.proofs.Worked.{breaks-stand-in-loops, calls-have-their-arguments, narrowed-is-known, nil-is-no-text, nil-is-returned, reached-ends-are-said, tests-narrow, tests-of-copies-narrow, texts-are-texts, unset-is-not-read}

pub returns-clause-texts_are_texts : goal.returns-clause-texts_are_texts
returns-clause-texts_are_texts c = texts-are-texts

pub returns-clause-nil_is_no_text : goal.returns-clause-nil_is_no_text
returns-clause-nil_is_no_text c = nil-is-no-text

pub returns-clause-calls_have_their_arguments : goal.returns-clause-calls_have_their_arguments
returns-clause-calls_have_their_arguments c = calls-have-their-arguments

pub returns-clause-breaks_stand_in_loops : goal.returns-clause-breaks_stand_in_loops
returns-clause-breaks_stand_in_loops c = breaks-stand-in-loops

pub returns-clause-narrowed_is_known : goal.returns-clause-narrowed_is_known
returns-clause-narrowed_is_known c = narrowed-is-known

pub returns-clause-unset_is_not_read : goal.returns-clause-unset_is_not_read
returns-clause-unset_is_not_read c = unset-is-not-read

pub returns-clause-tests_narrow : goal.returns-clause-tests_narrow
returns-clause-tests_narrow c = tests-narrow

pub returns-clause-tests_of_copies_narrow : goal.returns-clause-tests_of_copies_narrow
returns-clause-tests_of_copies_narrow c = tests-of-copies-narrow

pub returns-clause-reached_ends_are_said : goal.returns-clause-reached_ends_are_said
returns-clause-reached_ends_are_said c = reached-ends-are-said

pub returns-clause-nil_is_returned : goal.returns-clause-nil_is_returned
returns-clause-nil_is_returned c = nil-is-returned
