use Rattle.std.proofs.Common.{◌≡◌, ◌∙◌, None}
use Rattle.std.specs.Str.{chars}
use Rattle.value_model.specs.declared.value.Value.TheVariants.{Error}
use Rattle.value_model.specs.PanicName.{number_parsing_error}
use Rattle.op_model.specs.Rows.{gives, makes_error, next_error, within}
use Rattle.op_model.specs.Strings.{int_in}
use Rattle.plain_run.proofs.Given.{if-ok}
use Rattle.plain_run.specs.Came.{came_of}
use Rattle.plain_run.specs.Held.{world_of}
use Rattle.plain_library.proofs.Given.{unparsed}
use Rattle.plain_library.proofs.values.parses_int.Goals as goal

pub returns-in_ok-message-in-None-clause-row : goal.returns-in_ok-message-in-None-clause-row
unfolding chars
returns-in_ok-message-in-None-clause-row c =
    let w = world_of c.args.world.now in
    let message : c.in_ok-message-in-None.message ≡ number_parsing_error = c.in_ok-message-in-None.ensures in
    if-ok _ _ c.gives_error.result (λ came h. unparsed w (int_in c.args.text.now) (came_of came c.gives_error.new.world) c.in-None.ensures (h ∙ (λ i. within (gives (makes_error w (message i) None (c.new-in-None.ensures i)) (Error (next_error w))))))
    c.gives_error.ensures.row
