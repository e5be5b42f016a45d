use Rattle.std.proofs.Common.{codes}
use Rattle.command_words.specs.Words.{option_word}
use Rattle.command_words.specs.inner.Reading.{said_by}
use Rattle.command_words.proofs.Alike.{add-word, left-word, set-joined, stop-bad}
use Rattle.command_words.proofs.parts.WordParts.read_word.Goals as goal

pub returns-in_ok-add-in-Positional : goal.returns-in_ok-add-in-Positional
returns-in_ok-add-in-Positional c =
    add-word c.args.word.now (said_by c.args.self.now) (said_by c.add.new.self) c.in-Positional.ensures c.in_ok-add-in-Positional.ensures

pub returns-in-Dashes : goal.returns-in-Dashes
returns-in-Dashes c = left-word c.args.word.now (codes "--") (said_by c.args.self.now) (c.in-Dashes.ensures)

pub returns-in-Alone : goal.returns-in-Alone
returns-in-Alone c = left-word c.args.word.now (option_word c.in-Alone.setting) (said_by c.args.self.now) (c.in-Alone.ensures)

pub returns-in-Joined : goal.returns-in-Joined
returns-in-Joined c =
    set-joined c.in-Joined.setting c.in-Joined.value.now c.args.word.now (said_by c.args.self.now) (said_by c.set.new.self) c.set.result
    (c.in-Joined.ensures) c.set.ensures

pub returns-in-Bad : goal.returns-in-Bad
returns-in-Bad c = stop-bad (said_by c.args.self.now) c.args.word.now (c.in-Bad.ensures)
