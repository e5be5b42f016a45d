use Rattle.std.proofs.Common.{[], ◌∷◌, codes, sym, subst}
use Rattle.std.specs.Prelude.{IfOk}
use Rattle.command_words.specs.inner.Reading.{GoesOn, IsRead, awaited, said_by}
use Rattle.command_words.proofs.Alike.{add-rest}
use Rattle.command_words.proofs.parts.WordParts.read.Goals as goal

pub returns-in-Word : goal.returns-in-Word
returns-in-Word c =
    subst (λ a. IfOk c.read_word.result (λ next. GoesOn (said_by c.args.self.now) (awaited a) c.args.word.now (said_by c.read_word.new.self) next))
    (sym c.in-Word.is) c.read_word.ensures

pub returns-in-Value : goal.returns-in-Value
returns-in-Value c =
    subst (λ a. GoesOn (said_by c.args.self.now) (awaited a) c.args.word.now (said_by c.read_value.new.self) c.read_value.result)
    (sym c.in-Value.is) c.read_value.ensures

pub returns-in_ok-add-in-Rest : goal.returns-in_ok-add-in-Rest
returns-in_ok-add-in-Rest c =
    subst (λ a. IsRead (said_by c.args.self.now) (awaited a) c.args.word.now (said_by c.add.new.self) (codes "--" ∷ [])) (sym c.in-Rest.is)
    (add-rest c.args.word.now (said_by c.args.self.now) (said_by c.add.new.self) c.in_ok-add-in-Rest.ensures)
