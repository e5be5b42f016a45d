-- How much work a question of membership is.
use Rattle.std.specs.Prelude.{ℕ, ◌+◌, List, sum_by, Option, Some, None}
use Rattle.std.specs.Borrow.{Bor}
use Rattle.type_model.specs.declared.basic.SemType.{SemType, Basic, Atom, Or', And', Not'}
use Rattle.type_model.specs.declared.basic.Ty.{Ty}
use Rattle.type_model.specs.declared.atoms.FieldDef.{FieldDef}
use Rattle.type_model.specs.declared.atoms.AtomDef.{AtomDef}
use Rattle.type_model.specs.declared.atoms.AtomDef.TheVariants.{List as ListAtom, Mapping as MappingAtom, Arrow, Error as ErrorAtom, Future as FutureAtom}

abbrev pub type_nodes : SemType → ℕ
type_nodes (Basic set) = 1
type_nodes (Atom n) = 1
type_nodes (Or' _ s _ t) = 1 + type_nodes s + type_nodes t
type_nodes (And' _ s _ t) = 1 + type_nodes s + type_nodes t
type_nodes (Not' _ t) = 1 + type_nodes t

abbrev pub rest_nodes : Option Ty → ℕ
rest_nodes (Some t) = type_nodes t.sem
rest_nodes None = 0

abbrev pub option_nodes : Option (Bor Ty) → ℕ
option_nodes (Some t) = type_nodes t.now.sem
option_nodes None = 0

abbrev pub fixed_nodes : List Ty → ℕ
fixed_nodes ts = sum_by (λ t. type_nodes t.sem) ts

abbrev pub fields_nodes : List FieldDef → ℕ
fields_nodes fs = sum_by (λ f. type_nodes f.ty.sem) fs

abbrev pub def_nodes : AtomDef → ℕ
def_nodes (ListAtom fixed rest) = fixed_nodes fixed + rest_nodes rest
def_nodes (MappingAtom fields rest) = fields_nodes fields + rest_nodes rest
def_nodes (Arrow args outcome alone) = type_nodes args + type_nodes outcome
def_nodes (ErrorAtom detail) = type_nodes detail
def_nodes (FutureAtom outcome) = type_nodes outcome

-- more than the types of any one definition have
abbrev pub room : List AtomDef → ℕ
room env = 5 + sum_by def_nodes env
