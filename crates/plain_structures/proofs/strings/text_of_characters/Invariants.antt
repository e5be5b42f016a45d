use Rattle.std.specs.Prelude.{◌≡◌, take}
use Rattle.text_forms.specs.Forms.{written}
use Rattle.plain_structures.proofs.strings.text_of_characters.Given as goal

abbrev pub invariant-loop-c : goal.invariant-loop-c
invariant-loop-c l = written l.text ≡ take l.c-index l.characters
