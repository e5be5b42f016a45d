use Rattle.bal_base.specs.declared.limits.TheConstants.{MOST_NESTING}
use Rattle.std.proofs.Common.{◌≡◌, ◌≤◌, ◌+◌, length}
use Rattle.std.specs.Prelude.{nat_lt}
use Rattle.std.specs.List.{position_from}
use Rattle.parse_types.specs.Nesting.{nesting, nestings, first_too_deep}
use Rattle.bal_tree.specs.Spells.{kinds_of}
use Rattle.parse_types.proofs.nesting.first_too_deep.Given as goal

abbrev pub invariant-loop-first : goal.invariant-loop-first
invariant-loop-first l = record {
  onward : first_too_deep (kinds_of l.tokens) ≡ position_from (λ n. nat_lt MOST_NESTING n) l.index (nestings l.levels (kinds_of l.rest));
  within : l.index + length l.rest ≡ length l.tokens;
  shallow : nesting l.levels ≤ MOST_NESTING;
}

abbrev pub decreases-loop-first : goal.decreases-loop-first
decreases-loop-first l = length l.rest
