use Rattle.std.proofs.Common.{arith}
use Rattle.atom_questions.specs.Added.{IsPlainOf}
use Rattle.code_verifier.proofs.Zipping.{zip-more}
use Rattle.atom_questions.proofs.applications.plain_types.Goals as goal

pub loop-t-preserved : goal.loop-t-preserved
loop-t-preserved c =
    zip-more IsPlainOf c.args.types.now c.loop-t.copies.items _ c.loop-t.t-index c.t-item.result c.in_ok-plain.field-0 (omega arith) c.t-item.is c.loop-t.invariant
    c.in_ok-plain.ensures c.in_ok-push.ensures.items
