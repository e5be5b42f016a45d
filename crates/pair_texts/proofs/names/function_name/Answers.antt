use Rattle.std.proofs.Common.{subst}
use Rattle.bal_tree.specs.Files.{file_in}
use Rattle.pair_texts.specs.PairText.{function_name, module_at}
use Rattle.text_forms.specs.Forms.{Adds, written}
use Rattle.text_forms.proofs.Adding.{adds-both, adds-first}
use Rattle.pair_texts.proofs.names.function_name.Goals as goal

pub returns : goal.returns
returns c =
    let f = c.args.f.now in
    let modules = c.args.modules.now in
    adds-first c.new-out.result c.add_text.new.out (function_name modules f) c.new-out.ensures.bytes
    (adds-both (written c.new-out.result) (written c.add_module_at.new.out) (written c.add_text.new.out) (module_at (file_in f.at.file modules)) f.name c.in_ok-add_module_at.ensures
    (subst (λ t. Adds (written c.add_module_at.new.out) t (written c.add_text.new.out)) c.as_str.ensures.value c.in_ok-add_text.ensures))
