use Rattle.std.proofs.Common.{ap, subst, sym}
use Rattle.declared_reads.specs.Declared.{IsAnything}
use Rattle.bare_packages.proofs.ends.anything.Goals as goal

pub returns : goal.returns
returns c = subst IsAnything (sym (ap (λ t. t.sem) c.in_ok-new.ensures.ok)) c.in_ok-everything.ensures
