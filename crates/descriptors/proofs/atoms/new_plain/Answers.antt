use Rattle.type_model.specs.declared.basic.SemType.{Atom}
use Rattle.descriptors.proofs.Drafting.{drafts-just, drafts-on, drafts-stops, handed-on}
use Rattle.descriptors.proofs.Yielding.{plain-below}
use Rattle.descriptors.proofs.atoms.new_plain.Goals as goal

pub returns-in_err-atom : goal.returns-in_err-atom
returns-in_err-atom c = handed-on _ _ _ _ _ _ _ c.from_residual.ensures (drafts-stops _ _ _ _ _ _ _ _ c.in_err-atom.ensures)

pub returns : goal.returns
returns c = drafts-on _ _ _ _ _ _ _ _ _ _ c.in_ok-atom.ensures (drafts-just _ _ _ _ _ c.plain.ensures (λ n le h. plain-below n (Atom c.in_ok-atom.atom) h.1))
