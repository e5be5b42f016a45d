use Rattle.code_verifier.proofs.KindShapes.{frozen-given}
use Rattle.code_verifier.proofs.kind_types.frozen.Goals as goal

pub returns : goal.returns
returns c = frozen-given c.in_ok-values.values c.out_of-2.result c.in_ok-values.ensures c.out_of-2.ensures
