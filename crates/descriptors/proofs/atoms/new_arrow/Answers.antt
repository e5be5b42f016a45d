use Rattle.descriptors.proofs.Drafting.{drafts-on, drafts-stops, given, handed-on}
use Rattle.descriptors.proofs.atoms.new_arrow.Goals as goal

pub returns-in_err-arguments : goal.returns-in_err-arguments
returns-in_err-arguments c =
    handed-on _ _ _ _ _ _ _ c.from_residual.ensures (drafts-stops _ _ _ _ _ _ _ _ (given _ _ _ _ _ _ _ c.in_err-arguments.ensures (λ n h. h.0)))

pub returns : goal.returns
returns c = drafts-on _ _ _ _ _ _ _ _ _ _ (given _ _ _ _ _ _ _ c.in_ok-arguments.ensures (λ n h. h.0)) (given _ _ _ _ _ _ _ c.new_plain.ensures (λ n h. (h.1, h.0.1)))
