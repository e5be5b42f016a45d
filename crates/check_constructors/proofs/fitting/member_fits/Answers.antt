use Rattle.std.specs.Option.{option_copied}
use Rattle.expr_needs.specs.ExprTable.{read_member, seen_of}
use Rattle.check_constructors.proofs.FittingChoices.{member-by}
use Rattle.check_constructors.proofs.fitting.member_fits.Goals as goal

pub returns : goal.returns
returns c =
    member-by c.args.defs.now c.both_fit.result c.args.fields.now c.args.rest.now (seen_of (read_member c.args.member.now)) (option_copied c.member_key-key.result)
    (option_copied c.member_type-ty.result) (option_copied c.member_literal.result) c.member_key-key.ensures c.member_type-ty.ensures c.member_literal.ensures c.both_fit.ensures
