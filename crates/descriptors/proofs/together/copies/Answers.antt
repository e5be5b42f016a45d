use Rattle.std.proofs.Common.{sym, subst}
use Rattle.std.proofs.lemmas.List.Elements.{All-weaker}
use Rattle.type_model.specs.Defined.{TyBelow}
use Rattle.descriptors.specs.Described.{IsCopy}
use Rattle.descriptors.specs.Steps.{AllBelow}
use Rattle.descriptors.proofs.Yielding.{copy-below}
use Rattle.descriptors.proofs.together.copies.Goals as goal

pub returns-clause-defined : goal.returns-clause-defined
returns-clause-defined c = λ n below. subst (AllBelow n) (sym c.of.ensures)
    (All-weaker (IsCopy c.args.t.now) (TyBelow n) (λ u e. copy-below n c.args.t.now u e below) c.loop-place.copies.items c.loop-place.invariant.1)
