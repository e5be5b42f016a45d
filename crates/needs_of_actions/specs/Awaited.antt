-- What is known of names in waits.
use Rattle.std.specs.Prelude.{◌≡◌, ℕ, List, [], ◌∷◌, Any, filter, is_none, length, Option, Some, None, Result, Ok, Err, ⊤}
use Rattle.bal_base.specs.declared.fault.Fault.{Fault}
use Rattle.bal_base.specs.declared.place.Place.{Place}
use Rattle.bal_base.specs.declared.stop.Stop.{Stop}
use Rattle.bal_base.specs.declared.stop.Stop.TheVariants.{Memory, Fault as OwnFault}
use Rattle.checks.specs.Checks.{Comes}
use Rattle.checks.specs.Questions.{adds}
use Rattle.type_model.specs.declared.atoms.AtomDef.{AtomDef}
use Rattle.type_model.specs.declared.basic.SemType.{Atom}
use Rattle.typed_tree.specs.declared.form.StrictForm.TheVariants as form
use Rattle.type_model.specs.declared.basic.Ty.{Ty}
use Rattle.type_model.specs.Membership.{In}
use Rattle.typed_tree.specs.SharedTypes.{Shared, sem_of}
use Rattle.descriptors.specs.Described.{IsCopy, IsPlain, plain}
use Rattle.check_words.specs.Actions.{ArePresent, IsOfAll, IsOfAny}
use Rattle.check_words.specs.Sharing.{SameShared}
use Rattle.check_words.specs.Words.{Atoms, Step, makes_strict}

-- how many futures there are
abbrev pub futures_in : List (Option ℕ) → ℕ
futures_in ws = length (filter is_none ws)

-- a copy of a type that is there
abbrev pub IsCopyIf : Option Shared → Ty → Type 0
IsCopyIf None u = ⊥
IsCopyIf (Some t) u = IsCopy t.value u

-- the type itself, by another handle
abbrev pub IsSingle : Option Shared → Shared → Type 0
IsSingle None u = ⊥
IsSingle (Some t) u = SameShared t u

-- the types are there, and these are the shapes of any of them
abbrev pub IsOfSeveral : List (Option Shared) → Atoms → Shared → Type 0
IsOfSeveral ws env t = (ts : List Shared) × ArePresent ws ts × IsPlain (λ x. Any (λ w. In env x (sem_of w)) ts) env t.value

-- the types are there, and this is what any of them gives
abbrev pub IsOfSome : List (Option Shared) → Atoms → Shared → Type 0
IsOfSome ws env t = (ts : List Shared) × ArePresent ws ts × IsOfAny ts env t.value

-- what a call comes to that adds the atom of what all of the names give, which all are known
abbrev pub AddsAll : List (Option (List ℕ)) → List (Option Shared) → Place → Atoms → Result ℕ (Stop Fault) → Atoms → Type 0
AddsAll keys ws at old (Err Memory) new = ⊤
AddsAll keys ws at old (Err (OwnFault f)) new = (ts : List Shared) × ArePresent ws ts × Comes (adds (λ env. IsOfAll keys ts) (Some at)) old (Err (OwnFault f)) new
AddsAll keys ws at old (Ok atom) new = (ts : List Shared) × ArePresent ws ts × Comes (adds (λ env. IsOfAll keys ts) (Some at)) old (Ok atom) new

-- a closed record of copies of the types, which all are known
abbrev pub IsRecordOf : List (Option (List ℕ)) → List (Option Shared) → AtomDef → Type 0
IsRecordOf keys ws def = (ts : List Shared) × ArePresent ws ts × IsOfAll keys ts (def ∷ [])

-- the futures among the names are the operands of a wait for all of them, whose result has this atom
abbrev pub puts_wait : ℕ → List (Option ℕ) → Place → Step
puts_wait atom ws at = makes_strict (futures_in ws) (form.WaitAll atom ws) (λ env t. t ≡ plain (Atom atom)) at
