use Rattle.descriptors.specs.Steps.{AllBelow}
use Rattle.descriptors.proofs.Drafting.{drafts-on, drafts-ran_out, drafts-stops, given, handed-on}
use Rattle.descriptors.proofs.Making.{made-copies}
use Rattle.descriptors.proofs.descriptors.repeated.Goals as goal

pub returns-in_err-fixed : goal.returns-in_err-fixed
returns-in_err-fixed c = λ names. handed-on _ _ _ _ _ _ _ c.from_residual.ensures (drafts-stops _ AllBelow _ _ _ _ _ _ (drafts-ran_out _ AllBelow _ _))

pub returns : goal.returns
returns c = λ names.
    drafts-on _ _ _ _ _ _ _ _ _ _ (made-copies names _ _ _ _ c.in_ok-fixed.ensures.copies c.in_ok-fixed.ensures.defined) (given _ _ _ _ _ _ _ c.new_list.ensures (λ n h. (h.1, tt)))
