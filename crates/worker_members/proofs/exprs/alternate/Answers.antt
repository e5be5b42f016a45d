use Rattle.std.proofs.Common.{◌∙◌, sym}
use Rattle.worker_members.proofs.Noted.{alternate-none}
use Rattle.worker_members.proofs.exprs.alternate.Goals as goal

pub returns-then-is_empty : goal.returns-then-is_empty
returns-then-is_empty c =
    alternate-none c.args.spot c.aside.result c.args.names.now c.args.at c.args.heard.now c.say.new.self (sym c.is_empty.ensures ∙ c.if-is_empty.true) c.aside.ensures c.say.ensures
