use Rattle.std.proofs.Common.{refl}
use Rattle.inherent_atoms.proofs.Noting.{notes-new}
use Rattle.inherent_atoms.proofs.found.Found.add.Goals as goal

pub returns : goal.returns
returns c = notes-new c.args.self.now _ c.args.atom c.requires c.in_ok-push.ensures.items refl
