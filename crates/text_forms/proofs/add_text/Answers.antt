use Rattle.text_forms.proofs.Adding.{adds-bytes}
use Rattle.text_forms.proofs.add_text.Goals as goal

pub returns : goal.returns
returns c = adds-bytes c.args.out.now c.push_str.new.self c.args.text.now c.in_ok-push_str.ensures.bytes
