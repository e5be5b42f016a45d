use Rattle.std.proofs.Common.{◌≡◌, Some, None, length, slice_get, refl, rules}
use Rattle.std.proofs.lemmas.Option.{slice_get_past, slice_get_read}
use Rattle.flow_narrowing.proofs.Undoing.{again-past, again-there, put-past, put-there}
use Rattle.flow_narrowing.proofs.changes.take_back.Goals as goal

pub returns-in-Some-clause-variables : goal.returns-in-Some-clause-variables
returns-in-Some-clause-variables c =
    let there : slice_get c.args.variables.now.items c.args.change.index ≡ Some c.in-Some.v.now =
    slice_get_read _ (length c.args.variables.now.items) _ _ refl (search rules) (search rules) in
    put-there c.args.variables.now.items c.args.change.index c.in-Some.v.now c.args.change.was c.replace-was.new.dest there c.replace-was.ensures.after

pub returns-in-Some-clause-again : goal.returns-in-Some-clause-again
returns-in-Some-clause-again c =
    let there : slice_get c.args.variables.now.items c.args.change.index ≡ Some c.in-Some.v.now =
    slice_get_read _ (length c.args.variables.now.items) _ _ refl (search rules) (search rules) in
    again-there c.args.variables.now.items c.args.change.index c.in-Some.v.now c.replace-was.result there c.replace-was.ensures.value

pub returns-in-None-clause-variables : goal.returns-in-None-clause-variables
returns-in-None-clause-variables c =
    let past : slice_get c.args.variables.now.items c.args.change.index ≡ None = slice_get_past c.args.variables.now.items c.args.change.index (search rules) in
    put-past c.args.variables.now.items c.args.change.index c.args.change.was past

pub returns-in-None-clause-again : goal.returns-in-None-clause-again
returns-in-None-clause-again c =
    let past : slice_get c.args.variables.now.items c.args.change.index ≡ None = slice_get_past c.args.variables.now.items c.args.change.index (search rules) in
    again-past c.args.variables.now.items c.args.change.index past
