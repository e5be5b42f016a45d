use Rattle.tested_types.proofs.Noting.{notes-new}
use Rattle.tested_types.proofs.places.add.Goals as goal

pub returns : goal.returns
returns c = notes-new _ _ c.args.t.now _ c.in_ok-push.ensures.items c.in_ok-copy.ensures c.requires
