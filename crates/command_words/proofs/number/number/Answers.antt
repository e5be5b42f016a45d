use Rattle.std.proofs.Common.{◌∙◌, sym}
use Rattle.command_words.proofs.Digits.{no-digits, number-read, too-many}
use Rattle.command_words.proofs.number.number.Goals as goal

pub returns-then-word-gt-MOST_DIGITS : goal.returns-then-word-gt-MOST_DIGITS
returns-then-word-gt-MOST_DIGITS c = too-many c.args.word.now c.if-word-gt-MOST_DIGITS.true

pub returns-then-not-are_digits : goal.returns-then-not-are_digits
returns-then-not-are_digits c = no-digits c.args.word.now (sym c.are_digits.ensures ∙ c.if-not-are_digits.true)

pub returns : goal.returns
returns c =
    number-read c.args.word.now c.parse.result c.ok.result (sym c.are_digits.ensures ∙ c.if-not-are_digits.false) c.if-word-gt-MOST_DIGITS.false
    c.parse.ensures.value.0 c.ok.ensures.value
