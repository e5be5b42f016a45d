use Rattle.descriptors.proofs.Drafting.{drafts-lifted_just, drafts-on, drafts-stops, handed-on}
use Rattle.descriptors.proofs.Yielding.{mapping-below}
use Rattle.descriptors.proofs.atoms.new_mapping.Goals as goal

pub returns-in_err-atom : goal.returns-in_err-atom
returns-in_err-atom c = handed-on _ _ _ _ _ _ _ c.from_residual.ensures (drafts-stops _ _ _ _ _ _ _ _ c.in_err-atom.ensures)

pub returns : goal.returns
returns c = drafts-on _ _ _ _ _ _ _ _ _ _ c.in_ok-atom.ensures (drafts-lifted_just _ _ _ _ _ _ c.lift.ensures c.mapping_of.ensures (λ n le h. mapping-below n _ h.1))
