use Rattle.std.proofs.Common.{arith, refl}
use Rattle.descriptors.proofs.Drafting.{handed-on}
use Rattle.descriptors.proofs.Numbering.{atom-no_memory, atom-numbered, atom-refused}
use Rattle.descriptors.proofs.draft.Draft.atom.Goals as goal

pub returns-then-number-ge-MOST_ATOMS : goal.returns-then-number-ge-MOST_ATOMS
returns-then-number-ge-MOST_ATOMS c = atom-refused c.args.def c.args.at c.args.self.now _ (grind arith) (record { has_code = refl; stands = refl; shows = refl })

pub returns-in_err-push : goal.returns-in_err-push
returns-in_err-push c = handed-on _ _ _ _ _ _ _ c.from_residual.ensures (atom-no_memory _ _ _ _ refl c.in_err-push.ensures.items)

pub returns : goal.returns
returns c = atom-numbered _ _ _ _ _ (grind arith) (grind arith) refl c.in_ok-push.ensures.items c.requires
