use Rattle.std.proofs.Common.{◌≡◌, ◌∙◌, ◌++◌, ◌∷◌, [], Bool, List, ℕ, false, ap, arith}
use Rattle.std.specs.Prelude.{replicate}
use Rattle.callable_units.proofs.Marking.{blank-more}
use Rattle.callable_units.proofs.marks.unmarked.Goals as goal

pub loop-number-preserved : goal.loop-number-preserved
loop-number-preserved c = c.in_ok-push.ensures.items ∙ ap (λ (l : List Bool). l ++ false ∷ []) c.loop-number.invariant ∙ blank-more c.loop-number._number

pub returns : goal.returns
returns c = let same : c.loop-number._number ≡ c.args.count = omega (arith, c.loop-number-test.false, c.loop-number.auto._number-end) in c.loop-number.invariant ∙ ap (λ (n : ℕ). replicate n false) same
