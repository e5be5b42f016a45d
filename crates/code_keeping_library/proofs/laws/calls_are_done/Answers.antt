use Rattle.code_keeping_library.proofs.Calls.{input-is-done, measures-are-done, output-is-done, text-calls-are-done, texts-are-made}
use Rattle.code_keeping_library.proofs.Lists.{lists-are-made}
use Rattle.code_keeping_library.proofs.Errors.{errors-are-given}
use Rattle.code_keeping_library.proofs.Members.{members-are-given}
use Rattle.code_keeping_library.proofs.Printed.{values-are-printed}
use Rattle.code_keeping_library.proofs.laws.calls_are_done.Goals as goal

pub returns-clause-output : goal.returns-clause-output
returns-clause-output c = output-is-done

pub returns-clause-measures : goal.returns-clause-measures
returns-clause-measures c = measures-are-done

pub returns-clause-texts : goal.returns-clause-texts
returns-clause-texts c = text-calls-are-done

pub returns-clause-made : goal.returns-clause-made
returns-clause-made c = texts-are-made

pub returns-clause-input : goal.returns-clause-input
returns-clause-input c = input-is-done

pub returns-clause-lists : goal.returns-clause-lists
returns-clause-lists c = lists-are-made

pub returns-clause-members : goal.returns-clause-members
returns-clause-members c = members-are-given

pub returns-clause-errors : goal.returns-clause-errors
returns-clause-errors c = errors-are-given

pub returns-clause-printed : goal.returns-clause-printed
returns-clause-printed c = values-are-printed
