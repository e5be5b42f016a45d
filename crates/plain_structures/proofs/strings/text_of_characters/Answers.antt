use Rattle.std.proofs.Common.{ap, ◌∙◌, chars}
use Rattle.std.proofs.lemmas.Str.{chars-nil}
use Rattle.plain_structures.proofs.strings.text_of_characters.Goals as goal

pub loop-c-init : goal.loop-c-init
loop-c-init c = ap chars c.new-text.ensures.bytes ∙ chars-nil
