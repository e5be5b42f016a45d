use Rattle.needs_of_commands.proofs.Parts.{lent-pairs}
use Rattle.needs_of_commands.proofs.loans.loan_of.Goals as goal

pub returns : goal.returns
returns c = record {
  own = c.own_type.ensures;
  field = c.field_key.ensures;
  pairs = λ o e.
      lent-pairs c.args.instr.now o _ _ _ _ _ c.stack_at-types.ensures (c.operand_count-count.ensures o e) c.split_behind-parts.ensures.last c.in_ok-pairs.ensures;
}
