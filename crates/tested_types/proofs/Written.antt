-- What a code that has the commands of a making tests.
use Rattle.std.proofs.Common.{◌≡◌, ◌↔◌, ◌⊎◌, ℕ, Bool, true, false, List, Option, Some, None, refl, sym, subst, inl, inr}
use Rattle.std.proofs.lemmas.Option.{slice_get-get_or}
use Rattle.std.specs.Prelude.{◌==◌, All, Any, IsSomeAnd, if◌then◌else◌, get_or, length, option_map, slice_get, ⊤}
use Rattle.bal_base.specs.declared.text.Text.{Text}
use Rattle.type_model.specs.declared.atoms.AtomDef.{AtomDef}
use Rattle.type_model.specs.declared.basic.SemType.{SemType, Basic, Atom, Or', And', Not'}
use Rattle.type_model.specs.SameType.{IsSameType}
use Rattle.operations.specs.declared.library.LibraryCall.{LibraryCall}
use Rattle.operations.specs.declared.operation.Constant.{Constant}
use Rattle.operations.specs.declared.operation.Constant.TheVariants.{Nil, Bool as Truth, Int, Str}
use Rattle.operations.specs.declared.operation.Operation.{Operation}
use Rattle.operations.specs.declared.operation.Operation.TheVariants as op
use Rattle.op_model.specs.Inherent.{member_types}
use Rattle.stack_code.specs.declared.code.Code.{Code}
use Rattle.stack_code.specs.declared.code.Unit.{Unit as CodeUnit}
use Rattle.stack_code.specs.declared.instr.Instr.{Instr}
use Rattle.stack_code.specs.declared.instr.Instr.TheVariants as instr
use Rattle.stack_code.specs.Commands.{Command, Do, GoTo, GoToIfNot, OpenTrap, CloseTrap, command_at, command_in, command_of, library_calls, makes_list, of_call, of_name}
use Rattle.stack_code.specs.Tables.{HasTestedMembers}
use Rattle.lower_model.specs.Laying.{Agrees, StandsFor}
use Rattle.lower_model.specs.Lowered.{IsSameOperation, same, test, cast}
use Rattle.lower_model.specs.Making.{Making}
use Rattle.tested_types.specs.Asked.{AreOnce, Asks, HasMember, IsAmong, IsAsked, IsDefinedAt, TestsWhatItAsks, type_tested}
use Rattle.tested_types.proofs.Listed.{any-so}
use Rattle.tested_types.proofs.Noting.{any-at, at-any, same-then}

-- what asks stands at a place of the code
abbrev pub AsksAt : Option Command → SemType → Type 0
AsksAt o t = IsSomeAnd o (λ c. Asks c t)

module _ (code : Code) (t : SemType) where
  -- ---- what a command asks for is among the tested types

  among : (n : ℕ) (f : SemType → Operation) → ((s : SemType) → type_tested (f s) ≡ Some s) → AsksAt (option_map (λ s. Do (f s)) (slice_get code.tested n)) t → IsAmong code.tested t
  among n f tests h = by (slice_get code.tested n) refl h
    where
      by : (o : Option SemType) → slice_get code.tested n ≡ o → AsksAt (option_map (λ s. Do (f s)) o) t → IsAmong code.tested t
      by None e h = absurd h
      by (Some s) e h = at-any (IsSameType t) code.tested n (subst (λ o. IsSomeAnd o (IsSameType t)) (sym e) (subst (λ o. IsSomeAnd o (IsSameType t)) (tests s) h))

  no-mapped : {A : Type 0} (f : A → Operation) (o : Option A) → ((a : A) → type_tested (f a) ≡ None) → AsksAt (option_map (λ a. Do (f a)) o) t → ⊥
  no-mapped f None none h = h
  no-mapped f (Some a) none h = subst (λ o. IsSomeAnd o (IsSameType t)) (none a) h

  no-name : (f : Text → Operation) (o : Option Constant) → ((name : Text) → type_tested (f name) ≡ None) → AsksAt (of_name f o) t → ⊥
  no-name f None none h = h
  no-name f (Some (Str name)) none h = subst (λ o. IsSomeAnd o (IsSameType t)) (none name) h
  no-name f (Some Nil) none h = h
  no-name f (Some (Truth b)) none h = h
  no-name f (Some (Int i)) none h = h

  no-call : (atom count : ℕ) (o : Option LibraryCall) → AsksAt (of_call atom count o) t → ⊥
  no-call atom count None h = h
  no-call atom count (Some call) h = by (makes_list call) (atom == 0) h
    where
      by : (makes zero : Bool) → AsksAt (if makes then Some (Do (op.Library call (Some atom) count)) else (if zero then Some (Do (op.Library call None count)) else None)) t → ⊥
      by true z h = h
      by false true h = h
      by false false h = h

  of-command : (i : Instr) → AsksAt (command_of code i) t → IsAmong code.tested t
  of-command (instr.Test n) h = among n op.Test (λ s. refl) h
  of-command (instr.Cast n) h = among n op.Cast (λ s. refl) h
  of-command (instr.Const n) h = absurd (no-mapped op.Const (slice_get code.constants n) (λ k. refl) h)
  of-command (instr.GetField n) h = absurd (no-name op.GetField (slice_get code.constants n) (λ k. refl) h)
  of-command (instr.GetOptional n) h = absurd (no-name op.GetOptional (slice_get code.constants n) (λ k. refl) h)
  of-command (instr.Call u) h = absurd (no-mapped (λ (v : CodeUnit). op.Call u (length v.params)) (slice_get code.units u) (λ v. refl) h)
  of-command (instr.StartCall u) h = absurd (no-mapped (λ (v : CodeUnit). op.Start u (length v.params)) (slice_get code.units u) (λ v. refl) h)
  of-command (instr.Native number atom count) h = absurd (no-call atom count (slice_get library_calls number) h)
  of-command _ h = absurd h

  of-place : (o : Option Instr) → AsksAt (command_in code o) t → IsAmong code.tested t
  of-place None h = absurd h
  of-place (Some i) h = of-command i h

  -- ---- what a making asks for its code asks for

  same-asks : (o also : Operation) → IsSameOperation o also → Asks (Do o) t → Asks (Do also) t
  same-asks o _ same h = h
  same-asks _ _ (test {s = s} {t = u} e) h = same-then t s u h e
  same-asks _ _ (cast {s = s} {t = u} e) h = same-then t s u h e

  stands-asks : (places : ℕ → ℕ) (p : ℕ) (c : Command) → StandsFor code places p c → Asks c t → AsksAt (command_at code p) t
  stands-asks places p (Do o) (also, is, alike) h = subst (λ k. AsksAt k t) (sym is) (same-asks o also alike h)
  stands-asks places p (GoTo l) is h = absurd h
  stands-asks places p (GoToIfNot l) is h = absurd h
  stands-asks places p (OpenTrap l) is h = absurd h
  stands-asks places p CloseTrap is h = absurd h

abbrev Asked : Code → SemType → Type 0
Asked code t = ((p : ℕ) × AsksAt (command_at code p) t) ⊎ Any (λ a. HasMember code.atoms a t) code.inherent

-- a code whose tested types are those that a making asks for, over definitions whose members are those of the code
pub tests-what-it-asks : (m : Making) (places : ℕ → ℕ) (defs : List AtomDef) (code : Code) → Agrees code places m →
    ((a : ℕ) (t : SemType) → HasMember defs a t ↔ HasMember code.atoms a t) →
    AreOnce code.tested → ((t : SemType) → IsAmong code.tested t ↔ IsAsked m.steps defs code.inherent t) → TestsWhatItAsks code
tests-what-it-asks m places defs code agrees members once are = record { once = once; are = λ t. (λ h. to t ((are t).0 h), λ h. from t h) }
  where
    to : (t : SemType) → IsAsked m.steps defs code.inherent t → Asked code t
    to t (inl h) = let (p, c, at, asks) = any-at (λ c. Asks c t) m.steps h in inl (p, stands-asks code t places p c (agrees.steps p c at) asks)
    to t (inr h) = inr (any-so (λ a. HasMember defs a t) (λ a. HasMember code.atoms a t) code.inherent (λ a k. (members a t).0 k) h)

    from : (t : SemType) → Asked code t → IsAmong code.tested t
    from t (inl (p, h)) = of-place code t (slice_get code.instrs p) h
    from t (inr h) = (are t).1 (inr (any-so (λ a. HasMember code.atoms a t) (λ a. HasMember defs a t) code.inherent (λ a k. (members a t).1 k) h))

-- ---- so the member types of its inherent atoms are tested

same-self : (t : SemType) → IsSameType t t
same-self (Basic b) = refl
same-self (Atom m) = refl
same-self (Or' a s c t) = (same-self s, same-self t)
same-self (And' a s c t) = (same-self s, same-self t)
same-self (Not' a t) = same-self t

pub members-are-tested : (code : Code) → TestsWhatItAsks code → All (IsDefinedAt code.atoms) code.inherent → All (λ a. IsSomeAnd (slice_get code.atoms a) (HasTestedMembers code)) code.inherent
members-are-tested code tests defined k d lt = by (slice_get code.atoms a) refl (defined k d lt)
  where
    a : ℕ
    a = get_or code.inherent k d

    each : (e : AtomDef) → slice_get code.atoms a ≡ Some e → HasTestedMembers code e
    each e at j t l =
        (tests.are (get_or (member_types e) j t).sem).1
        (inr (at-any (λ b. HasMember code.atoms b (get_or (member_types e) j t).sem) code.inherent k (subst (λ o. IsSomeAnd o (λ b. HasMember code.atoms b (get_or (member_types e) j t).sem)) (sym (slice_get-get_or code.inherent k d lt))
        (subst (λ o. IsSomeAnd o (λ x. Any (λ m. IsSameType (get_or (member_types e) j t).sem m.sem) (member_types x))) (sym at)
        (at-any (λ m. IsSameType (get_or (member_types e) j t).sem m.sem) (member_types e) j (subst (λ o. IsSomeAnd o (λ m. IsSameType (get_or (member_types e) j t).sem m.sem)) (sym (slice_get-get_or (member_types e) j t l)) (same-self (get_or (member_types e) j t).sem)))))))

    by : (o : Option AtomDef) → slice_get code.atoms a ≡ o → IsSomeAnd o (λ e. ⊤) → IsSomeAnd (slice_get code.atoms a) (HasTestedMembers code)
    by None at h = absurd h
    by (Some e) at h = subst (λ o. IsSomeAnd o (HasTestedMembers code)) (sym at) (each e at)
