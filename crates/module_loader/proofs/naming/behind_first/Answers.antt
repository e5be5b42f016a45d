use Rattle.std.proofs.Common.{rules}
use Rattle.module_loader.proofs.Links.{behind-drop, behind-none}
use Rattle.module_loader.proofs.naming.behind_first.Goals as goal

pub returns-then-is_empty : goal.returns-then-is_empty
returns-then-is_empty c = behind-none c.args.folders.now (search rules)

pub returns : goal.returns
returns c = behind-drop c.args.folders.now
