use Rattle.std.proofs.Common.{◌≡◌, ◌∙◌, ◌++◌, rules, encode_utf8_all, ap}
use Rattle.plain_run.specs.Held.{world_of}
use Rattle.text_forms.specs.Forms.{written}
use Rattle.plain_library.proofs.Printing.{encoded}
use Rattle.plain_library.proofs.input.take_and_write.Goals as goal

pub returns : goal.returns
returns c =
    let w = world_of c.take_input.new.world in
    let more = encode_utf8_all (written c.args.prompt.now) in
    let out : c.extend_from_slice.new.self.items ≡ w.output ++ more = search (rules, encoded) in
    (λ i. record { heap = w.heap; input = w.input; output = out i })
    ∙ ap (λ v. record { heap = v.heap; input = v.input; output = v.output ++ more }) c.take_input.ensures
