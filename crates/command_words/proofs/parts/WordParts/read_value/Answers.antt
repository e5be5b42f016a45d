use Rattle.std.proofs.Common.{◌∙◌, sym}
use Rattle.std.proofs.lemmas.Bool.{false≢true}
use Rattle.command_words.specs.inner.Reading.{said_by}
use Rattle.command_words.proofs.Alike.{set-apart, stop-dash}
use Rattle.command_words.proofs.parts.WordParts.read_value.Goals as goal

pub returns-then-begins_with_dash : goal.returns-then-begins_with_dash
returns-then-begins_with_dash c =
    stop-dash (said_by c.args.self.now) c.args.setting c.args.word.now (c.begins_with_dash.ensures.0 c.if-begins_with_dash.true)

pub returns : goal.returns
returns c =
    set-apart c.args.setting c.args.word.now (said_by c.args.self.now) (said_by c.set.new.self) c.set.result
    (λ d. false≢true (sym c.if-begins_with_dash.false ∙ c.begins_with_dash.ensures.1 d))
    c.set.ensures
