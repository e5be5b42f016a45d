use Rattle.std.proofs.Common.{◌≡◌, All, take}
use Rattle.bal_base.specs.declared.shape.Shape.{Str}
use Rattle.operations.specs.Rows.{IsSingle}
use Rattle.pair_questions.proofs.names.has_name.Given as goal

abbrev pub invariant-loop-pair : goal.invariant-loop-pair
invariant-loop-pair g l = (g.T.Types.atoms l.types ≡ g.T.Types.atoms l.fn.types) × All (λ p. ¬ (IsSingle (g.T.Types.atoms l.fn.types) p.key.now (Str l.name))) (take l.pair-index l.pairs)
