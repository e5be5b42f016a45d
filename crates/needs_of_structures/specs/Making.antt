-- What members make, step by step.
use Rattle.std.specs.Prelude.{◌≡◌, ◌+◌, ◌*◌, ◌∷◌, [], ℕ, Bool, None, Some}
use Rattle.bal_base.specs.declared.place.Place.{Place}
use Rattle.checks.specs.Checks.{◌▷◌}
use Rattle.checks.specs.Questions.{adds}
use Rattle.descriptors.specs.Described.{IsPlain, plain}
use Rattle.operations.specs.declared.operation.Constant.{Constant}
use Rattle.operations.specs.Structures.{IsMade}
use Rattle.type_model.specs.declared.atoms.AtomDef.TheVariants.{List as ListAtom}
use Rattle.type_model.specs.declared.basic.SemType.{Atom}
use Rattle.type_model.specs.declared.basic.Ty.{Ty}
use Rattle.typed_tree.specs.declared.form.StrictForm.{StrictForm}
use Rattle.typed_tree.specs.declared.form.StrictForm.TheVariants as form
use Rattle.typed_tree.specs.SharedTypes.{Shared}
use Rattle.typed_tree.specs.Views.{IsImplied}
use Rattle.check_words.specs.Constructors.{IsErrorOver, IsOfMembers, atom_of}
use Rattle.check_words.specs.State.{ConstructorAtWork}
use Rattle.check_words.specs.Values.{SingleOf}
use Rattle.check_words.specs.Words.{Step, asking, makes, makes_strict}

-- a value alone, as a part that stands for no expression
abbrev pub gives_implied : Constant → Place → Step
gives_implied value at = makes 0 (λ env parts e. (t : Shared) × SingleOf value env t.value × IsImplied value t at e)

-- so many parts become one of just this type
abbrev pub makes_so : ℕ → StrictForm → Ty → Place → Step
makes_so count form ty at = makes_strict count form (λ env t. t ≡ ty) at

-- so many parts become a structure of the atom
abbrev pub makes_of_atom : ℕ → StrictForm → ℕ → Bool → Place → Step
makes_of_atom count form atom immutable at = makes_strict count form (λ env. IsPlain (IsMade env atom immutable) env) at

-- what a constructor that was closed makes
abbrev pub list_made : ConstructorAtWork → ℕ → Place → Step
list_made c count at =
    atom_of c.choice (λ env defs. defs ≡ ListAtom c.types None ∷ []) at ▷ λ atom. makes_of_atom count (form.List atom c.immutable) atom c.immutable at

abbrev pub mapping_made : ConstructorAtWork → ℕ → Place → Step
mapping_made c count at =
    atom_of c.choice (IsOfMembers c) at ▷ λ atom. makes_of_atom (2 * count) (form.Mapping atom c.immutable) atom c.immutable at

abbrev pub error_made : ConstructorAtWork → ℕ → Place → Step
error_made c count at =
    asking (adds (IsErrorOver c) (Some at)) ▷ λ first. makes_strict (2 + 2 * count) form.Error (λ env t. t ≡ plain (Atom (first + 1))) at
