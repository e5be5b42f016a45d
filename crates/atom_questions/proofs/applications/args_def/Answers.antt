use Rattle.std.proofs.Common.{List, refl, subst, sym}
use Rattle.std.specs.List.{AllZip}
use Rattle.type_model.specs.declared.basic.Ty.{Ty}
use Rattle.atom_questions.specs.Added.{IsPlainOf}
use Rattle.atom_questions.proofs.applications.args_def.Goals as goal

pub returns : goal.returns
returns c = record {
  fixed = c.of.result;
  is = refl;
  are = subst (λ (ts : List Ty). AllZip IsPlainOf c.args.args.now ts) (sym c.of.ensures) c.in_ok-plain_types.ensures;
}
