use Rattle.std.proofs.Common.{ap, refl, subst}
use Rattle.type_model.specs.declared.atoms.AtomDef.TheVariants.{List as ListAtom}
use Rattle.check_words.specs.Calls.{AreCopiesOf}
use Rattle.needs_of_functions.proofs.own_atoms.list_def.Goals as goal

pub returns : goal.returns
returns c = (
  c.in_ok-fixed.fixed.items,
  c.in_ok-rest.rest,
  subst (λ ts. AreCopiesOf ts c.in_ok-fixed.fixed.items) c.fixed_types-params.ensures c.in_ok-fixed.ensures,
  c.in_ok-rest.ensures,
  ap (λ ts. ListAtom ts c.in_ok-rest.rest) c.of.ensures,
)
