-- The code of a package tests what it asks for.
use Rattle.std.proofs.Common.{◌≡◌, ◌↔◌, ℕ, List, [], ◌∷◌, Option, Some, None, map, refl, sym, subst}
use Rattle.std.specs.List.{AllZip}
use Rattle.std.specs.Prelude.{All, Any, IsSomeAnd, get_or, option_to_list, slice_get, ⊤}
use Rattle.type_model.specs.declared.atoms.AtomDef.{AtomDef}
use Rattle.type_model.specs.declared.atoms.AtomDef.TheVariants.{List as ListAtom, Mapping as MappingAtom, Arrow, Error as ErrorAtom, Future as FutureAtom}
use Rattle.type_model.specs.declared.atoms.FieldDef.{FieldDef}
use Rattle.type_model.specs.declared.basic.SemType.{SemType}
use Rattle.type_model.specs.declared.basic.Ty.{Ty}
use Rattle.type_model.specs.SameType.{IsSameType}
use Rattle.op_model.specs.Inherent.{member_types}
use Rattle.stack_code.specs.declared.code.Code.{Code}
use Rattle.stack_code.specs.declared.code.StackMap.{StackMap}
use Rattle.stack_code.specs.Tables.{HasTestedMembers}
use Rattle.lower_model.specs.Laying.{Agrees}
use Rattle.lower_model.specs.Making.{place_of}
use Rattle.lower_expr.specs.declared.draft.Draft.{Draft}
use Rattle.lower_expr.specs.declared.draft.Step.{Step}
use Rattle.lower_expr.specs.Drafts.{making_of, step_of}
use Rattle.code_assembly.specs.Copies.{IsSameDef, IsSameField, IsSameTy}
use Rattle.tested_types.specs.Asked.{AreOnce, HasMember, IsAmong, IsAsked, IsDefinedAt, TestsWhatItAsks}
use Rattle.tested_types.proofs.Noting.{same-back, same-then}
use Rattle.tested_types.proofs.Listed.{any-zip, any-zip-back}
use Rattle.tested_types.proofs.Written.{members-are-tested, tests-what-it-asks}
use Rattle.lower_package.specs.Completed.{completed}
use Rattle.lower_package.proofs.Copied.{back, members, rests, there, zip-append}
use Rattle.lower_package.proofs.Naming.{still-agrees}

-- ---- members of copies are copies

field-types : (fields fields' : List FieldDef) → AllZip IsSameField fields fields' → AllZip IsSameTy (map (λ f. f.ty) fields) (map (λ f. f.ty) fields')
field-types [] [] all = tt
field-types [] (g ∷ gs) all = absurd all
field-types (f ∷ fs) [] all = absurd all
field-types (f ∷ fs) (g ∷ gs) all = (all.0.type, field-types fs gs all.1)

same-members : (d e : AtomDef) → IsSameDef d e → AllZip IsSameTy (member_types d) (member_types e)
same-members (ListAtom fixed rest) (ListAtom fixed' rest') same = members fixed fixed' rest rest' same
same-members (ListAtom fixed rest) (MappingAtom fields rest') same = absurd same
same-members (ListAtom fixed rest) (Arrow args outcome alone) same = absurd same
same-members (ListAtom fixed rest) (ErrorAtom detail) same = absurd same
same-members (ListAtom fixed rest) (FutureAtom outcome) same = absurd same
same-members (MappingAtom fields rest) (ListAtom fixed' rest') same = absurd same
same-members (MappingAtom fields rest) (MappingAtom fields' rest') same =
    zip-append IsSameTy (map (λ f. f.ty) fields) (map (λ f. f.ty) fields') (option_to_list rest) (option_to_list rest') (field-types fields fields' same.0) (rests rest rest' same.1)
same-members (MappingAtom fields rest) (Arrow args outcome alone) same = absurd same
same-members (MappingAtom fields rest) (ErrorAtom detail) same = absurd same
same-members (MappingAtom fields rest) (FutureAtom outcome) same = absurd same
same-members (Arrow args outcome alone) (ListAtom fixed' rest') same = absurd same
same-members (Arrow args outcome alone) (MappingAtom fields' rest') same = absurd same
same-members (Arrow args outcome alone) (Arrow args' outcome' alone') same = tt
same-members (Arrow args outcome alone) (ErrorAtom detail) same = absurd same
same-members (Arrow args outcome alone) (FutureAtom outcome') same = absurd same
same-members (ErrorAtom detail) (ListAtom fixed' rest') same = absurd same
same-members (ErrorAtom detail) (MappingAtom fields' rest') same = absurd same
same-members (ErrorAtom detail) (Arrow args outcome alone) same = absurd same
same-members (ErrorAtom detail) (ErrorAtom detail') same = tt
same-members (ErrorAtom detail) (FutureAtom outcome) same = absurd same
same-members (FutureAtom outcome) (ListAtom fixed' rest') same = absurd same
same-members (FutureAtom outcome) (MappingAtom fields' rest') same = absurd same
same-members (FutureAtom outcome) (Arrow args outcome' alone) same = absurd same
same-members (FutureAtom outcome) (ErrorAtom detail) same = absurd same
same-members (FutureAtom outcome) (FutureAtom outcome') same = tt

module _ (defs copies : List AtomDef) (all : AllZip IsSameDef defs copies) (a : ℕ) (t : SemType) where
  abbrev HasType : List Ty → Type 0
  HasType ts = Any (λ m. IsSameType t m.sem) ts

  member-there : HasMember defs a t → HasMember copies a t
  member-there h = by (slice_get defs a) refl h
    where
      by : (o : Option AtomDef) → slice_get defs a ≡ o → IsSomeAnd o (λ d. HasType (member_types d)) → HasMember copies a t
      by None e h = absurd h
      by (Some d) e h =
          let (copy, at, same) = there IsSameDef defs copies a d all e in
          subst (λ o. IsSomeAnd o (λ d. HasType (member_types d))) (sym at)
          (any-zip IsSameTy (λ m. IsSameType t m.sem) (λ m. IsSameType t m.sem) (λ x y r k. same-then t x.sem y.sem k r.sem) (member_types d) (member_types copy) (same-members d copy same) h)

  member-back : HasMember copies a t → HasMember defs a t
  member-back h = by (slice_get copies a) refl h
    where
      by : (o : Option AtomDef) → slice_get copies a ≡ o → IsSomeAnd o (λ d. HasType (member_types d)) → HasMember defs a t
      by None e h = absurd h
      by (Some copy) e h =
          let (d, at, same) = back IsSameDef defs copies a copy all e in
          subst (λ o. IsSomeAnd o (λ d. HasType (member_types d))) (sym at)
          (any-zip-back IsSameTy (λ m. IsSameType t m.sem) (λ m. IsSameType t m.sem) (λ x y r k. same-then t y.sem x.sem k (same-back x.sem y.sem r.sem)) (member_types d) (member_types copy) (same-members d copy same) h)

-- the members of a copy's inherent atoms are defined
still-defined : (defs copies : List AtomDef) (found : List ℕ) → AllZip IsSameDef defs copies → All (IsDefinedAt defs) found → All (IsDefinedAt copies) found
still-defined defs copies found copied defined k d lt = by (get_or found k d) (slice_get defs (get_or found k d)) refl (defined k d lt)
  where
    by : (a : ℕ) (o : Option AtomDef) → slice_get defs a ≡ o → IsSomeAnd o (λ d. ⊤) → IsDefinedAt copies a
    by a None e h = absurd h
    by a (Some d) e h = let (copy, at, is) = there IsSameDef defs copies a d copied e in subst (λ o. IsSomeAnd o (λ d. ⊤)) (sym at) tt

-- a code that gets the inherent atoms with which its tested types were found
module _ (draft : Draft) (steps : List Step) (defs : List AtomDef) (code : Code) (found inherent : List ℕ) (maps : List StackMap) (types : List SemType) (laid : steps ≡ draft.steps.items) (same : inherent ≡ found) (agrees : Agrees code (place_of (making_of draft)) (making_of draft)) (copied : AllZip IsSameDef defs code.atoms)
    (is : code.tested ≡ types) (once : AreOnce types) (are : (t : SemType) → IsAmong types t ↔ IsAsked (map step_of steps) defs inherent t) (defined : All (IsDefinedAt defs) inherent) where
  abbrev whole : Code
  whole = completed code found maps

  asked : (t : SemType) → IsAmong types t ↔ IsAsked (making_of draft).steps defs found t
  asked t = subst (λ ns. IsAmong types t ↔ IsAsked (map step_of draft.steps.items) defs ns t) same (subst (λ ss. IsAmong types t ↔ IsAsked (map step_of ss) defs inherent t) laid (are t))

  pub tests : TestsWhatItAsks whole
  tests =
      tests-what-it-asks (making_of draft) (place_of (making_of draft)) defs whole (still-agrees code found maps (place_of (making_of draft)) (making_of draft) agrees)
      (λ a t. (member-there defs code.atoms copied a t, member-back defs code.atoms copied a t))
      (subst AreOnce (sym is) once) (λ t. subst (λ l. IsAmong l t ↔ IsAsked (making_of draft).steps defs found t) (sym is) (asked t))

  -- and the types of members of structures with these atoms are tested
  pub members-tested : All (λ a. IsSomeAnd (slice_get whole.atoms a) (HasTestedMembers whole)) whole.inherent
  members-tested = members-are-tested whole tests (still-defined defs code.atoms found copied (subst (All (IsDefinedAt defs)) same defined))
