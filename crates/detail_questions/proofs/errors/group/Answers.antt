use Rattle.std.proofs.Common.{arith}
use Rattle.detail_questions.proofs.Answering.{few-lacks}
use Rattle.detail_questions.proofs.errors.group.Goals as goal

pub overflow_cast-len : goal.overflow_cast-len
overflow_cast-len c = let few = few-lacks c.args.pairs.now _ _ c.in_ok-lacking.ensures in omega (arith, few, c.len.ensures, c.requires)

pub detail_type-requires : goal.detail_type-requires
detail_type-requires c = let few = few-lacks c.args.pairs.now _ _ c.in_ok-lacking.ensures in omega (arith, few, c.len.ensures, c.requires)
