use Rattle.std.proofs.Common.{◌≡◌, None}
use Rattle.descriptors.proofs.Yielding.{weaker}
use Rattle.type_model.specs.declared.atoms.AtomDef.TheVariants.{Mapping as MappingAtom}
use Rattle.check_words.specs.Constructors.{fields_with}
use Rattle.needs_of_actions.specs.Awaited.{IsRecordOf}
use Rattle.needs_of_actions.proofs.Awaited.{copies-below, record-is}
use Rattle.needs_of_actions.proofs.wanted.record_of.Goals as goal

pub returns-clause-is : goal.returns-clause-is
returns-clause-is c =
    weaker c.record_def.result (λ def. def ≡ MappingAtom (fields_with c.args.keys.items c.in_ok-types.types.items) None) (IsRecordOf c.args.keys.items c.args.known.now) c.record_def.ensures.is
    (λ def is. record-is c.args.keys.items c.args.known.now c.in_ok-types.types.items def c.in_ok-types.ensures is)

pub returns-clause-below : goal.returns-clause-below
returns-clause-below c = λ n all. c.record_def.ensures.below n (copies-below n c.args.known.now c.in_ok-types.types.items c.in_ok-types.ensures all)
