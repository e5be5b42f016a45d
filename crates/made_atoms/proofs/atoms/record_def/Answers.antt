use Rattle.std.proofs.Common.{◌∙◌, None, ap}
use Rattle.type_model.specs.declared.atoms.AtomDef.TheVariants.{Mapping as MappingAtom}
use Rattle.made_atoms.proofs.Groups.{record-below}
use Rattle.made_atoms.proofs.atoms.record_def.Goals as goal

pub returns-in-true-clause-below : goal.returns-in-true-clause-below
returns-in-true-clause-below c = λ n h.
    record-below n c.args.keys.items c.args.types.items (MappingAtom c.of.result None) (ap (λ fs. MappingAtom fs None) (c.of.ensures ∙ c.in_ok-fields_with.ensures)) h
