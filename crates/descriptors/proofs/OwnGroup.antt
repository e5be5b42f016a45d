-- The group of atoms of the language's own types, behind those that were there.
use Rattle.std.proofs.Common.{◌≡◌, ℕ, suc, ◌+◌, ◌++◌, ◌↔◌, List, [], ◌∷◌, length, length-append, slice_get, Option, Some, None, Result, Ok, Err, All, refl, sym, subst, ap, ◌∙◌, arith, true}
use Rattle.std.proofs.lemmas.List.Elements.{All-cons, All-nil}
use Rattle.bal_base.specs.declared.fault.Fault.{Fault}
use Rattle.bal_base.specs.declared.shape.Shape.{Shape}
use Rattle.bal_base.specs.declared.stop.Stop.{Stop}
use Rattle.bal_base.specs.declared.stop.Stop.TheVariants.{Memory, Fault as OwnFault}
use Rattle.bal_base.specs.Valid.{IsValid}
use Rattle.type_model.specs.declared.atoms.AtomDef.{AtomDef}
use Rattle.type_model.specs.declared.atoms.AtomDef.TheVariants.{List as ListAtom, Mapping as MappingAtom, Arrow}
use Rattle.type_model.specs.declared.atoms.FieldDef.{FieldDef}
use Rattle.type_model.specs.declared.basic.BasicSet.TheVariants.{ListAll, MappingAll, Never}
use Rattle.type_model.specs.declared.basic.SemType.{SemType, Basic, Atom}
use Rattle.type_model.specs.declared.basic.Ty.{Ty}
use Rattle.type_model.specs.Basic.{InBasic}
use Rattle.type_model.specs.Defined.{ChoicesBelow, DefBelow, IsDefinedGroup, TyBelow}
use Rattle.type_model.specs.Inclusion.{HasExactly}
use Rattle.type_model.specs.Membership.{Fits}
use Rattle.type_model.specs.Places.{HasDistinctFields}
use Rattle.checks.specs.Checks.{Comes, gives_some}
use Rattle.checks.specs.Questions.{adds}
use Rattle.checks.proofs.Steps.{goes_on, some_is, stops}
use Rattle.descriptors.specs.declared.names.OwnTypes.{OwnTypes}
use Rattle.type_model.specs.Anydata.{IsAnydata}
use Rattle.descriptors.specs.Described.{IsIsolatedFunction, IsPlain, plain}
use Rattle.descriptors.specs.Language.{AreOver, IsAnydataOver, IsEverything, IsOwnGroup, own_types}
use Rattle.descriptors.specs.Steps.{AreOwnTypes}
use Rattle.descriptors.proofs.LanguageTypes.{all-isolated, all-lists, all-mappings, at-atom, is-anydata, then-same}
use Rattle.descriptors.proofs.Yielding.{plain-below}

-- ---- the five, behind those that were there

nth_behind : {X : Type 0} (xs ys : List X) (k : ℕ) → slice_get (xs ++ ys) (length xs + k) ≡ slice_get ys k
nth_behind [] ys k = let e : 0 + k ≡ k = omega arith in ap (slice_get ys) e
nth_behind (x ∷ xs) ys k = let e : suc (length xs) + k ≡ suc (length xs + k) = omega arith in ap (slice_get (x ∷ xs ++ ys)) e ∙ nth_behind xs ys k

at_first : {X : Type 0} (xs ys : List X) → slice_get (xs ++ ys) (length xs) ≡ slice_get ys 0
at_first xs ys = subst (λ k. slice_get (xs ++ ys) k ≡ slice_get ys 0) (omega arith) (nth_behind xs ys 0)

plainly : (P : Shape → Type 0) (env : List AtomDef) (a : ℕ) (def : AtomDef) → slice_get env a ≡ Some def → ((x : Shape) → IsValid x → Fits env x def ↔ P x) → IsPlain P env (plain (Atom a))
plainly P env a def e h = record { shapes = λ x v. then-same (at-atom env x a def e) (h x v); lists = refl; maps = refl }

-- types over such a group, behind atoms that were there, are the language's own
module _ (old group : List AtomDef) (own : OwnTypes) (is_group : IsOwnGroup (length old) group) (over : AreOver (length old) own) where
  abbrev env : List AtomDef
  env = old ++ group

  long : length env ≡ length old + 5
  long = length-append old group ∙ ap (λ g. length old + length g) is_group.is

  standing : (k : ℕ) (def : AtomDef) → slice_get group k ≡ Some def → slice_get env (length old + k) ≡ Some def
  standing k def e = nth_behind old group k ∙ e

  anydata_exactly : HasExactly env own.anydata.sem IsAnydata
  anydata_exactly = is-anydata env (length old) (length old + 1) is_group.members is_group.fields
      (at_first old group ∙ ap (λ g. slice_get g 0) is_group.is) (standing 1 (MappingAtom [] (Some (plain is_group.fields))) (ap (λ g. slice_get g 1) is_group.is))
      is_group.members_are is_group.fields_are own.anydata.sem over.anydata

  pub own-types : AreOwnTypes env own
  own-types = record {
    anydata = record { shapes = anydata_exactly; lists = over.lists; maps = over.maps };
    anydata_defined = (
      over.anydata.defined (length env) (omega (arith, long)) (omega (arith, long)),
      subst (λ cs. ChoicesBelow (length env) cs) (sym over.lists) (All-nil _),
      subst (λ cs. ChoicesBelow (length env) cs) (sym over.maps) (All-nil _),
    );
    any_members = subst (λ a. IsPlain (λ x. InBasic x ListAll) env (plain (Atom a))) (sym over.numbers.any_members)
        (plainly (λ x. InBasic x ListAll) env (length old + 2) (ListAtom [] (Some (plain is_group.any_members)))
        (standing 2 (ListAtom [] (Some (plain is_group.any_members))) (ap (λ g. slice_get g 2) is_group.is)) (all-lists env is_group.any_members is_group.any_members_are));
    any_members_defined = omega (arith, long, over.numbers.any_members);
    any_fields = subst (λ a. IsPlain (λ x. InBasic x MappingAll) env (plain (Atom a))) (sym over.numbers.any_fields)
        (plainly (λ x. InBasic x MappingAll) env (length old + 3) (MappingAtom [] (Some (plain is_group.any_fields)))
        (standing 3 (MappingAtom [] (Some (plain is_group.any_fields))) (ap (λ g. slice_get g 3) is_group.is)) (all-mappings env is_group.any_fields is_group.any_fields_are));
    any_fields_defined = omega (arith, long, over.numbers.any_fields);
    isolated = subst (λ a. IsPlain IsIsolatedFunction env (plain (Atom a))) (sym over.numbers.isolated)
        (plainly IsIsolatedFunction env (length old + 4) (Arrow (Basic Never) (Basic Never) true)
        (standing 4 (Arrow (Basic Never) (Basic Never) true) (ap (λ g. slice_get g 4) is_group.is)) (λ x v. all-isolated env x));
    isolated_defined = omega (arith, long, over.numbers.isolated);
  }

module _ (old group : List AtomDef) (h : IsOwnGroup (length old) group) where
  five : length group ≡ 5
  five = ap length h.is

  abbrev far : ℕ
  far = length old + length group

  everything-below : (t : SemType) → IsEverything t → TyBelow far (plain t)
  everything-below t e = plain-below far t (e.defined far)

  anydata-below : (t : SemType) → IsAnydataOver (length old) (length old + 1) t → TyBelow far (plain t)
  anydata-below t e = plain-below far t (e.defined far (omega (arith, five)) (omega (arith, five)))

  five_all : (P : AtomDef → Type 0) (a b c d e : AtomDef) → P a → P b → P c → P d → P e → All P (a ∷ b ∷ c ∷ d ∷ e ∷ [])
  five_all P a b c d e pa pb pc pd pe =
      All-cons P a (b ∷ c ∷ d ∷ e ∷ []) pa (All-cons P b (c ∷ d ∷ e ∷ []) pb (All-cons P c (d ∷ e ∷ []) pc (All-cons P d (e ∷ []) pd (All-cons P e [] pe (All-nil P)))))

  lists_below : (t : SemType) → TyBelow far (plain t) → DefBelow far (ListAtom [] (Some (plain t)))
  lists_below t h = (All-nil (TyBelow far), h)

  mappings_below : (t : SemType) → TyBelow far (plain t) → DefBelow far (MappingAtom [] (Some (plain t)))
  mappings_below t h = (All-nil (λ (f : FieldDef). TyBelow far f.ty), h)

  pub own-group_defined : IsDefinedGroup old group
  own-group_defined = subst (All (DefBelow far)) (sym h.is)
      (five_all (DefBelow far) (ListAtom [] (Some (plain h.members))) (MappingAtom [] (Some (plain h.fields))) (ListAtom [] (Some (plain h.any_members))) (MappingAtom [] (Some (plain h.any_fields)))
      (Arrow (Basic Never) (Basic Never) true) (lists_below h.members (anydata-below h.members h.members_are)) (mappings_below h.fields (anydata-below h.fields h.fields_are))
      (lists_below h.any_members (everything-below h.any_members h.any_members_are)) (mappings_below h.any_fields (everything-below h.any_fields h.any_fields_are)) (tt, tt))

  no_fields : (rest : Option Ty) → HasDistinctFields (MappingAtom [] rest)
  no_fields rest i j d lt within = absurd (omega (arith, within))

  pub own-group_distinct : All HasDistinctFields group
  own-group_distinct = subst (All HasDistinctFields) (sym h.is)
      (five_all HasDistinctFields (ListAtom [] (Some (plain h.members))) (MappingAtom [] (Some (plain h.fields))) (ListAtom [] (Some (plain h.any_members))) (MappingAtom [] (Some (plain h.any_fields)))
      (Arrow (Basic Never) (Basic Never) true) tt (no_fields (Some (plain h.fields))) tt (no_fields (Some (plain h.any_fields))) tt)

-- ---- the check

module _ (old group : List AtomDef) (own : OwnTypes) (is_group : IsOwnGroup (length old) group) (over : AreOver (length old) own) where
  -- the atoms that are added are such a group
  pub group-added : (new : List AtomDef) (r : Result ℕ (Stop Fault)) → Comes (adds (λ before defs. defs ≡ group) None) old r new → Comes (adds (λ before defs. IsOwnGroup (length before) defs) None) old r new
  unfolding Comes adds
  group-added new (Ok first) (defs, e, at, is) = (defs, subst (IsOwnGroup (length old)) (sym e) is_group, at, is)
  group-added new (Err (OwnFault f)) (defs, e, many, fault, is) = (defs, subst (IsOwnGroup (length old)) (sym e) is_group, many, fault, is)
  group-added new (Err Memory) h = tt

  -- and the types stand over them
  stand : (new : List AtomDef) (first : ℕ) → Comes (adds (λ before defs. defs ≡ group) None) old (Ok first) new → AreOwnTypes new own × AreOver first own
  unfolding Comes adds
  stand new first (defs, e, at, is) = (
    subst (λ env. AreOwnTypes env own) (sym (is ∙ ap (λ g. old ++ g) e)) (own-types old group own is_group over),
    subst (λ n. AreOver n own) (sym at) over,
  )

  pub added-own : (new : List AtomDef) (first : ℕ) → Comes (adds (λ before defs. defs ≡ group) None) old (Ok first) new → AreOwnTypes new own
  added-own new first h = (stand new first h).0

  pub added-comes : (new : List AtomDef) (first : ℕ) → Comes (adds (λ before defs. defs ≡ group) None) old (Ok first) new → Comes own_types old (Ok own) new
  added-comes new first h = goes_on (adds (λ before defs. IsOwnGroup (length before) defs) None) (λ n. gives_some (λ env o. AreOwnTypes env o × AreOver n o))
      old new new first (Ok own) (group-added new (Ok first) h) (some_is (λ env o. AreOwnTypes env o × AreOver first o) new new own refl (stand new first h))

  pub refused-comes : (new : List AtomDef) (stop : Stop Fault) → Comes (adds (λ before defs. defs ≡ group) None) old (Err stop) new → Comes own_types old (Err stop) new
  refused-comes new stop h = stops (adds (λ before defs. IsOwnGroup (length before) defs) None) (λ n. gives_some (λ env o. AreOwnTypes env o × AreOver n o))
      old new stop (group-added new (Err stop) h)
