-- The rest parameter of an anonymous function.
use Rattle.std.specs.Prelude.{◌≡◌, ℕ, List, [], ◌∷◌, Some}
use Rattle.bal_base.specs.declared.text.Name.{Name}
use Rattle.checks.specs.Checks.{◌▷◌}
use Rattle.descriptors.specs.Described.{IsCopy, list_of}
use Rattle.type_model.specs.declared.atoms.AtomDef.{AtomDef}
use Rattle.type_model.specs.declared.atoms.AtomDef.TheVariants.{List as ListAtom}
use Rattle.type_model.specs.declared.basic.Ty.{Ty}
use Rattle.typed_tree.specs.SharedTypes.{Shared}
use Rattle.check_words.specs.Calls.{with_rest}
use Rattle.check_words.specs.Words.{Step, sets_unit, some_over, unit_now}

-- the lists of any number of the type
abbrev pub IsListsOf : Ty → AtomDef → Type 0
IsListsOf t def = (m : Ty) × IsCopy t m × (def ≡ ListAtom [] (Some m))

abbrev pub AreListsOf : Ty → List AtomDef → Type 0
AreListsOf t defs = (m : Ty) × IsCopy t m × (defs ≡ ListAtom [] (Some m) ∷ [])

-- one parameter more, which takes the rest: the lists of this atom, whose members are of this type
abbrev pub puts_rest : Name → ℕ → Shared → Step
puts_rest name atom t = some_over (λ env (l : Shared). l.value ≡ list_of atom) ▷ λ l. unit_now ▷ λ unit. sets_unit (with_rest name l atom t unit)
