use Rattle.text_forms.proofs.Adding.{adds-char}
use Rattle.text_forms.proofs.add_char.Goals as goal

pub returns : goal.returns
returns c = adds-char c.args.out.now c.push.new.self c.args.c c.ranges.c.0 c.in_ok-push.ensures.bytes
