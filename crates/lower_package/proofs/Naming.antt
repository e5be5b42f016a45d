-- A code that gets the inherent atoms of its package, and maps.
use Rattle.std.proofs.Common.{◌≡◌, ◌∙◌, ◌↔◌, ℕ, Some, None, refl, sym, subst}
use Rattle.std.specs.List.{AllZip}
use Rattle.std.specs.Prelude.{Contains, List, Option, map, slice_get}
use Rattle.type_model.specs.declared.atoms.AtomDef.{AtomDef}
use Rattle.typed_tree.specs.declared.package.TypedPackage.{TypedPackage}
use Rattle.typed_tree.specs.Units.{UnitTree}
use Rattle.op_model.specs.Inherent.{IsInherent}
use Rattle.stack_code.specs.declared.code.Code.{Code}
use Rattle.stack_code.specs.declared.code.StackMap.{StackMap}
use Rattle.stack_code.specs.declared.instr.Instr.{Instr}
use Rattle.stack_code.specs.Commands.{Command, Do, GoTo, GoToIfNot, OpenTrap, CloseTrap, command_at, command_in}
use Rattle.lower_model.specs.Assembled.{HasUnits, made_of}
use Rattle.lower_model.specs.Laying.{Agrees, StandsFor}
use Rattle.lower_model.specs.Making.{Making}
use Rattle.lower_model.specs.Whole.{HasInherentOf}
use Rattle.lower_expr.specs.declared.draft.Draft.{Draft}
use Rattle.lower_expr.specs.declared.draft.Step.{Step}
use Rattle.lower_expr.specs.Drafts.{making_of, step_of}
use Rattle.package_units.specs.declared.held.HeldUnit.{HeldUnit}
use Rattle.package_units.specs.Held.{tree_of}
use Rattle.package_units.specs.Noted.{AreAll}
use Rattle.code_assembly.specs.Copies.{IsSameDef}
use Rattle.inherent_atoms.specs.Named.{all_named}
use Rattle.inherent_atoms.proofs.Units.{inherent-in}
use Rattle.lower_package.specs.Completed.{completed, over}
use Rattle.lower_package.proofs.Copied.{inherent-back, inherent-there}

-- ---- what stands in it

module _ (code : Code) (inherent : List ℕ) (maps : List StackMap) (places : ℕ → ℕ) where
  same-in : (o : Option Instr) → command_in code o ≡ command_in (completed code inherent maps) o
  same-in None = refl
  same-in (Some i) = same i
    where
      same : (i : Instr) → command_in code (Some i) ≡ command_in (completed code inherent maps) (Some i)
      same _ = refl

  same-at : (p : ℕ) → command_at code p ≡ command_at (completed code inherent maps) p
  same-at p = same-in (slice_get code.instrs p)

  stands-still : (p : ℕ) (c : Command) → StandsFor code places p c → StandsFor (completed code inherent maps) places p c
  stands-still p (Do op) (also, is, alike) = (also, sym (same-at p) ∙ is, alike)
  stands-still p (GoTo l) is = sym (same-at p) ∙ is
  stands-still p (GoToIfNot l) is = sym (same-at p) ∙ is
  stands-still p (OpenTrap l) is = sym (same-at p) ∙ is
  stands-still p CloseTrap is = sym (same-at p) ∙ is

  pub still-agrees : (m : Making) → Agrees code places m → Agrees (completed code inherent maps) places m
  still-agrees m a = record { sound = a.sound; steps = λ p c e. stands-still p c (a.steps p c e); labels = a.labels }

-- ---- over other definitions of atoms

module _ (code : Code) (atoms : List AtomDef) (places : ℕ → ℕ) where
  same-over : (o : Option Instr) → command_in code o ≡ command_in (over atoms code) o
  same-over None = refl
  same-over (Some i) = same i
    where
      same : (i : Instr) → command_in code (Some i) ≡ command_in (over atoms code) (Some i)
      same _ = refl

  stands-over : (p : ℕ) (c : Command) → StandsFor code places p c → StandsFor (over atoms code) places p c
  stands-over p (Do op) (also, is, alike) = (also, sym (same-over (slice_get code.instrs p)) ∙ is, alike)
  stands-over p (GoTo l) is = sym (same-over (slice_get code.instrs p)) ∙ is
  stands-over p (GoToIfNot l) is = sym (same-over (slice_get code.instrs p)) ∙ is
  stands-over p (OpenTrap l) is = sym (same-over (slice_get code.instrs p)) ∙ is
  stands-over p CloseTrap is = sym (same-over (slice_get code.instrs p)) ∙ is

  pub agrees-over : (m : Making) → Agrees code places m → Agrees (over atoms code) places m
  agrees-over m a = record { sound = a.sound; steps = λ p c e. stands-over p c (a.steps p c e); labels = a.labels }

-- ---- the atoms

-- these are the inherent atoms of what the steps and the units name, over these definitions
abbrev pub AreNamed : TypedPackage → List UnitTree → Making → List AtomDef → List ℕ → Type 0
AreNamed p us m defs found = (a : ℕ) → Contains found a ↔ IsInherent defs (Contains (all_named us m.steps p.start p.words)) a

-- the same, by other names of what was handed over
pub named-by : (p : TypedPackage) (us vs : List HeldUnit) (draft : Draft) (steps : List Step) (defs : List AtomDef) (found : List ℕ) → vs ≡ us → steps ≡ draft.steps.items
    → ((a : ℕ) → Contains found a ↔ IsInherent defs (Contains (all_named (map tree_of vs) (map step_of steps) p.start p.words)) a)
    → AreNamed p (map tree_of us) (making_of draft) defs found
named-by p us vs draft steps defs found same laid named =
    subst (λ ss. (a : ℕ) → Contains found a ↔ IsInherent defs (Contains (all_named (map tree_of us) (map step_of ss) p.start p.words)) a) laid
    (subst (λ ws. (a : ℕ) → Contains found a ↔ IsInherent defs (Contains (all_named (map tree_of ws) (map step_of steps) p.start p.words)) a) same named)

pub has-inherent : (p : TypedPackage) (us : List UnitTree) → HasUnits p us → AreAll p us → (m : Making) → m ≡ made_of us → (defs : List AtomDef) (code : Code) (found : List ℕ) (maps : List StackMap) → AllZip IsSameDef defs code.atoms → AreNamed p us m defs found
    → HasInherentOf p (completed code found maps)
has-inherent p us has all m made defs code found maps copied named a =
    let is = inherent-in p us has all code.atoms a in
    let n = subst (λ x. AreNamed p us x defs found) made named a in
    let names = Contains (all_named us (made_of us).steps p.start p.words) in
    (λ there. is.0 (inherent-there defs code.atoms copied names a (n.0 there)), λ i. n.1 (inherent-back defs code.atoms copied names a (is.1 i)))
