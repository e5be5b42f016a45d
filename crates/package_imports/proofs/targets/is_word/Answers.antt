use Rattle.std.proofs.Common.{◌∙◌}
use Rattle.std.specs.Str.{bytes_eq}
use Rattle.std.proofs.lemmas.Str.{IsUtf8-from_ascii, chars-IsAscii}
use Rattle.bal_base.proofs.Points.{chars-same}
use Rattle.text_forms.proofs.AsciiWords.{all-ascii}
use Rattle.package_imports.proofs.targets.is_word.Goals as goal

pub returns : goal.returns
returns c =
    let bytes = c.as_str.result.now in
    let word = c.args.word.now in
    let ascii = all-ascii word c.requires in
    c.eq.ensures ∙ (chars-same bytes word c.as_str.utf8 (IsUtf8-from_ascii word ascii) ∙ (λ i. bytes_eq (c.as_str.ensures.value i) (chars-IsAscii word ascii i)))
