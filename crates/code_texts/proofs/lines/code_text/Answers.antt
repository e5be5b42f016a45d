use Rattle.std.proofs.Common.{subst}
use Rattle.code_texts.specs.CodeText.{code_text, lines_from}
use Rattle.text_forms.specs.Forms.{Adds, written}
use Rattle.text_forms.proofs.Adding.{adds-first}
use Rattle.code_texts.proofs.lines.code_text.Goals as goal

pub returns : goal.returns
returns c =
    adds-first c.new-out.result c.add_lines.new.out (code_text c.args.code.now) c.new-out.ensures.bytes
    (subst (λ is. Adds (written c.new-out.result) (lines_from 0 is) (written c.add_lines.new.out)) c.as_slice.ensures c.in_ok-add_lines.ensures)
