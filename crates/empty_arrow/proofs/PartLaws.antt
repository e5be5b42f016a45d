-- What error and future atoms ask of parts is what their kinds ask.
use Rattle.std.proofs.Common.{◌≡◌, ℕ, List, true, Option, Some, None, IsSome, slice_get, option_and_then, refl, ap}
use Rattle.std.proofs.lemmas.Bool.{false≢true}
use Rattle.type_model.specs.declared.atoms.AtomDef.{AtomDef}
use Rattle.type_model.specs.declared.atoms.AtomDef.TheVariants.{List as ListAtom, Mapping as MappingAtom, Arrow, Error as ErrorAtom, Future as FutureAtom}
use Rattle.type_diagrams.specs.declared.kind.Kind.TheVariants.{Error as Errors, Future as Futures}
use Rattle.type_diagrams.specs.Atoms.{error_part, future_part}
use Rattle.type_diagrams.specs.Conditions.{is_def_of, condition_of}
use Rattle.type_diagrams.specs.Members.{asked, detail_of, results_of}
use Rattle.empty_arrow.specs.Parts.{one_part, HasPart, part_of}
use Rattle.type_diagrams.proofs.PathShapes.{IsAtomOf}

error_has : (o : Option AtomDef) → is_def_of Errors o ≡ true → IsSome (option_and_then one_part o)
error_has None h = absurd (false≢true h)
error_has (Some (ListAtom fixed rest)) h = absurd (false≢true h)
error_has (Some (MappingAtom fields rest)) h = absurd (false≢true h)
error_has (Some (Arrow args outcome alone)) h = absurd (false≢true h)
error_has (Some (ErrorAtom detail)) h = refl
error_has (Some (FutureAtom outcome)) h = absurd (false≢true h)

future_has : (o : Option AtomDef) → is_def_of Futures o ≡ true → IsSome (option_and_then one_part o)
future_has None h = absurd (false≢true h)
future_has (Some (ListAtom fixed rest)) h = absurd (false≢true h)
future_has (Some (MappingAtom fields rest)) h = absurd (false≢true h)
future_has (Some (Arrow args outcome alone)) h = absurd (false≢true h)
future_has (Some (ErrorAtom detail)) h = absurd (false≢true h)
future_has (Some (FutureAtom outcome)) h = refl

error_same : (o : Option AtomDef) → is_def_of Errors o ≡ true → option_and_then one_part o ≡ option_and_then error_part o
error_same None h = refl
error_same (Some (ListAtom fixed rest)) h = refl
error_same (Some (MappingAtom fields rest)) h = refl
error_same (Some (Arrow args outcome alone)) h = refl
error_same (Some (ErrorAtom detail)) h = refl
error_same (Some (FutureAtom outcome)) h = absurd (false≢true h)

future_same : (o : Option AtomDef) → is_def_of Futures o ≡ true → option_and_then one_part o ≡ option_and_then future_part o
future_same None h = refl
future_same (Some (ListAtom fixed rest)) h = refl
future_same (Some (MappingAtom fields rest)) h = refl
future_same (Some (Arrow args outcome alone)) h = refl
future_same (Some (ErrorAtom detail)) h = absurd (false≢true h)
future_same (Some (FutureAtom outcome)) h = refl

module _ (env : List AtomDef) (a : ℕ) where
  pub error-HasPart : IsAtomOf env Errors a → HasPart env a
  error-HasPart h = error_has (slice_get env a) h

  pub future-HasPart : IsAtomOf env Futures a → HasPart env a
  future-HasPart h = future_has (slice_get env a) h

  pub error-part_of : IsAtomOf env Errors a → part_of env a ≡ detail_of env a
  error-part_of h = ap (asked (condition_of env)) (error_same (slice_get env a) h)

  pub future-part_of : IsAtomOf env Futures a → part_of env a ≡ results_of env a
  future-part_of h = ap (asked (condition_of env)) (future_same (slice_get env a) h)
