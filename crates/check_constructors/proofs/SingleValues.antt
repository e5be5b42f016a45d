-- Single values are in no atom.
use Rattle.std.proofs.Common.{◌↔◌, ℕ, List, Option, Some, None, IsTrue, IsSomeAnd, false, slice_get}
use Rattle.std.proofs.lemmas.Bool.{false≢true}
use Rattle.operations.specs.declared.operation.Constant.{Constant}
use Rattle.operations.specs.declared.operation.Constant.TheVariants as constant
use Rattle.operations.specs.Rows.{shape_of}
use Rattle.type_model.specs.declared.atoms.AtomDef.{AtomDef}
use Rattle.type_model.specs.declared.basic.SemType.{Atom}
use Rattle.type_model.specs.Membership.{In}

nowhere : (o : Option AtomDef) → IsSomeAnd o (λ d. ⊥) → ⊥
nowhere None h = h
nowhere (Some d) h = h

no-atom : (env : List AtomDef) (c : Constant) (n : ℕ) → In env (shape_of c) (Atom n) → ⊥
no-atom env constant.Nil n h = nowhere (slice_get env n) h
no-atom env (constant.Bool b) n h = nowhere (slice_get env n) h
no-atom env (constant.Int i) n h = nowhere (slice_get env n) h
no-atom env (constant.Str t) n h = nowhere (slice_get env n) h

pub in-no-atom : (env : List AtomDef) (c : Constant) (n : ℕ) → IsTrue false ↔ In env (shape_of c) (Atom n)
in-no-atom env c n = (λ h. absurd (false≢true h), λ h. absurd (no-atom env c n h))

pub ruleset values = (in-no-atom)
