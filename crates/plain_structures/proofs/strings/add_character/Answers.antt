use Rattle.text_forms.proofs.Adding.{adds-char}
use Rattle.plain_structures.proofs.strings.add_character.Goals as goal

pub returns : goal.returns
returns c = adds-char c.args.text.now c.push.new.self c.args.c c.ranges.c.0 c.in_ok-push.ensures.bytes
