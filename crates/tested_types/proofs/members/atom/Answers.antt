use Rattle.std.proofs.Common.{length, refl}
use Rattle.std.proofs.lemmas.Option.{slice_get_read}
use Rattle.tested_types.proofs.Retold.{defined-on, member-noted}
use Rattle.tested_types.proofs.members.atom.Goals as goal

pub returns-in-Some-clause-notes : goal.returns-in-Some-clause-notes
returns-in-Some-clause-notes c =
    let atoms = c.args.atoms.now in
    member-noted atoms c.args.a c.in-Some.d.now _ _ _ (slice_get_read atoms (length atoms) c.args.a c.in-Some.d.now refl c.in-Some.ensures.lookup.3.0 c.in-Some.ensures.lookup.1) c.definition.ensures

pub returns-in-Some-clause-defined : goal.returns-in-Some-clause-defined
returns-in-Some-clause-defined c =
    let atoms = c.args.atoms.now in
    defined-on atoms c.args.a c.in-Some.d.now c.definition.result (slice_get_read atoms (length atoms) c.args.a c.in-Some.d.now refl c.in-Some.ensures.lookup.3.0 c.in-Some.ensures.lookup.1)
