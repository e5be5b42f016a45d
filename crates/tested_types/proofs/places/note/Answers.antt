use Rattle.std.proofs.Common.{subst}
use Rattle.std.specs.Prelude.{IsSomeAnd, slice_get}
use Rattle.type_model.specs.SameType.{IsSameType}
use Rattle.tested_types.proofs.Noting.{notes-there}
use Rattle.tested_types.proofs.places.note.Goals as goal

pub returns-in-Some : goal.returns-in-Some
returns-in-Some c =
    notes-there _ c.args.t.now c.in-Some.field-0
    (subst (λ l. IsSomeAnd (slice_get l c.in-Some.field-0) (IsSameType c.args.t.now)) c.deref.ensures.value c.in-Some.ensures.found)
