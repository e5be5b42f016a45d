use Rattle.std.proofs.Common.{◌≡◌, ◌++◌, rules, encode_utf8_all}
use Rattle.value_model.specs.declared.value.Value.TheVariants.{Nil}
use Rattle.op_model.specs.Rows.{gives}
use Rattle.plain_run.specs.Held.{world_of}
use Rattle.text_forms.specs.Forms.{written}
use Rattle.plain_library.proofs.Printing.{encoded}
use Rattle.plain_library.proofs.output.writes.Goals as goal

pub returns-clause-row : goal.returns-clause-row
returns-clause-row c =
    let w = world_of c.args.world.now in
    let out : c.extend_from_slice.new.self.items ≡ w.output ++ encode_utf8_all (written c.args.text.now) = search (rules, encoded) in
    λ i. gives (record { heap = w.heap; input = w.input; output = out i }) Nil
