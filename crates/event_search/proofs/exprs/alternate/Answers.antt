use Rattle.std.proofs.Common.{◌∙◌, sym}
use Rattle.event_search.proofs.Layers.{alternate-none}
use Rattle.event_search.proofs.exprs.alternate.Goals as goal

pub returns-then-is_empty : goal.returns-then-is_empty
returns-then-is_empty c =
    alternate-none c.args.initial c.args.names.now c.args.at c.args.search.now c.say.new.self (sym c.is_empty.ensures ∙ c.if-is_empty.true) c.say.ensures
