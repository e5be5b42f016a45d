use Rattle.std.proofs.Common.{sym, subst}
use Rattle.command_words.specs.inner.Reading.{IsSet, said_by}
use Rattle.command_words.proofs.Setting.{mode-set, ticks-set, seed-set}
use Rattle.command_words.proofs.parts.WordParts.set.Goals as goal

pub returns-in-Mode : goal.returns-in-Mode
returns-in-Mode c =
    let p = c.args.self.now in
    subst (λ s. IsSet s c.args.value.now (said_by p) (said_by (record p { mode = c.set_once.new.place })) c.set_once.result) (sym c.in-Mode.is)
    (mode-set p c.args.value c.set_once.new.place c.set_once.result c.set_once.ensures)

pub returns-in-Ticks : goal.returns-in-Ticks
returns-in-Ticks c =
    let p = c.args.self.now in
    subst (λ s. IsSet s c.args.value.now (said_by p) (said_by (record p { ticks = c.set_once-in-Ticks.new.place })) c.set_once-in-Ticks.result) (sym c.in-Ticks.is)
    (ticks-set p c.args.value c.set_once-in-Ticks.new.place c.set_once-in-Ticks.result c.set_once-in-Ticks.ensures)

pub returns-in-Seed : goal.returns-in-Seed
returns-in-Seed c =
    let p = c.args.self.now in
    subst (λ s. IsSet s c.args.value.now (said_by p) (said_by (record p { seed = c.set_once-in-Seed.new.place })) c.set_once-in-Seed.result) (sym c.in-Seed.is)
    (seed-set p c.args.value c.set_once-in-Seed.new.place c.set_once-in-Seed.result c.set_once-in-Seed.ensures)
