-- What function values give.
use Rattle.std.specs.Prelude.{◌≡◌, ℕ, List, [], ◌∷◌, None, Some}
use Rattle.std.specs.List.{AllZip}
use Rattle.bal_base.specs.declared.place.Place.{Place}
use Rattle.checks.specs.Checks.{Check, ◌▷◌}
use Rattle.checks.specs.Questions.{adds}
use Rattle.descriptors.specs.Described.{IsCopy}
use Rattle.type_model.specs.declared.answers.TypeLimit.{TypeLimit}
use Rattle.type_model.specs.declared.atoms.AtomDef.{AtomDef}
use Rattle.type_model.specs.declared.atoms.AtomDef.TheVariants.{List as ListAtom}
use Rattle.type_model.specs.declared.basic.SemType.{SemType}
use Rattle.type_model.specs.declared.basic.Ty.{Ty}
use Rattle.type_model.specs.Calls.{Asked}
use Rattle.typed_tree.specs.declared.expr.TypedExpr.{TypedExpr}
use Rattle.typed_tree.specs.Exprs.{type_of}
use Rattle.check_words.specs.Calls.{applies_to}
use Rattle.check_words.specs.State.{State}
use Rattle.check_words.specs.Words.{Atoms, asking, last_parts}

-- copies of the types of the parts
abbrev pub AreCopied : List TypedExpr → List Ty → Type 0
AreCopied es ts = AllZip (λ e t. IsCopy (type_of e).value t) es ts

-- the atom of the lists of just these arguments
abbrev pub AreArguments : List TypedExpr → Atoms → Atoms → Type 0
AreArguments args env defs = (ts : List Ty) × AreCopied args ts × (defs ≡ ListAtom ts None ∷ [])

abbrev pub adds_arguments : List TypedExpr → Place → Check State ℕ
adds_arguments args at = asking (adds (AreArguments args) (Some at))

module _ (passes : List AtomDef → Asked → TypeLimit → Type 0) where
  -- the first of so many last parts, applied to the others
  abbrev pub applies_last : ℕ → Place → Check State SemType
  applies_last count at = last_parts count ▷ λ parts. applies_to passes parts at
