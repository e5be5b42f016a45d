use Rattle.std.proofs.Common.{◌↔◌, IsTrue, subst}
use Rattle.operations.specs.declared.operation.Constant.{Constant}
use Rattle.operations.specs.Rows.{shape_of}
use Rattle.type_model.specs.Inclusion.{IsShapeOf}
use Rattle.check_constructors.proofs.fitting.is_literal_in.Goals as goal

pub returns : goal.returns
returns c = subst (λ (k : Constant). IsTrue c.is_in.result ↔ IsShapeOf c.args.defs.now c.args.t.now.sem (shape_of k)) c.constant_of.ensures c.is_in.ensures
