-- Questions one after another, and what comes of them.
use Rattle.std.specs.Prelude.{◌≡◌, ◌<◌, ℕ, List, Option, Some, None, All, length, take, slice_get}
use Rattle.bal_base.specs.declared.shape.Shape.{Shape}
use Rattle.type_model.specs.declared.answers.TypeLimit.{TypeLimit}
use Rattle.type_model.specs.declared.atoms.AtomDef.{AtomDef}
use Rattle.type_model.specs.declared.basic.SemType.{Basic}
use Rattle.type_model.specs.Calls.{Asked, Without}
use Rattle.type_model.specs.Defined.{IsDefined}
use Rattle.type_model.specs.Parts.{StandsAt}
use Rattle.type_model.specs.SameType.{IsSameType}
use Rattle.code_needs.specs.Needs.{IsMet, Need, Below, Has, HasBoth, HasConstant, HasMade, ItemHas, ItemIn, MemberHas, MemberIn, Ordered, PartHas, PartIn, Within}
use Rattle.code_verifier.specs.declared.kind_types.KnownTypes.{KnownTypes}
use Rattle.code_verifier.specs.declared.questions.OfKinds.{OfKinds}
use Rattle.code_verifier.specs.declared.questions.OfKinds.TheVariants as kinds
use Rattle.code_verifier.specs.declared.questions.OfMembers.{OfMembers}
use Rattle.code_verifier.specs.declared.questions.OfMembers.TheVariants as members
use Rattle.code_verifier.specs.declared.questions.OfParts.{OfParts}
use Rattle.code_verifier.specs.declared.questions.OfParts.TheVariants as parts
use Rattle.code_verifier.specs.declared.questions.OfTypes.{OfTypes}
use Rattle.code_verifier.specs.declared.questions.OfTypes.TheVariants as types
use Rattle.code_verifier.specs.declared.questions.Question.{Question}
use Rattle.code_verifier.specs.declared.questions.Question.TheVariants as ask
use Rattle.code_verifier.specs.Asked.{IsAgainst}
use Rattle.code_verifier.specs.KindSets.{IsBoth, IsKindType, constant_set}
use Rattle.code_verifier.specs.LedTo.{AsksAbove, AsksBelow, AsksItem, AsksMember, AsksOfItem, AsksOfMember, AsksOfPart, AsksOrder, AsksPart, IsMadeType, SomePasses}

-- ---- the need that a question asks of

abbrev pub need_of_types : OfTypes → Need
need_of_types (types.Below s t) = Below s.now t.now
need_of_types (types.HasConstant t value) = HasConstant t.now value.now
need_of_types (types.HasBoth r s t) = HasBoth r.now s.now t.now
need_of_types (types.HasMade t atom immutable) = HasMade t.now atom immutable

abbrev pub need_of_kinds : OfKinds → Need
need_of_kinds (kinds.Within s kind) = Within s.now kind
need_of_kinds (kinds.Has t kind) = Has t.now kind
need_of_kinds (kinds.Ordered a b) = Ordered a.now b.now

abbrev pub need_of_parts : OfParts → Need
need_of_parts (parts.PartIn whole keys t) = PartIn whole.now keys.now t.now
need_of_parts (parts.PartHas whole keys v) = PartHas whole.now keys.now v.now

abbrev pub need_of_members : OfMembers → Need
need_of_members (members.ItemIn l i t) = ItemIn l.now i.now t.now
need_of_members (members.ItemHas l i v) = ItemHas l.now i.now v.now
need_of_members (members.MemberIn m k t) = MemberIn m.now k.now t.now
need_of_members (members.MemberHas m k v) = MemberHas m.now k.now v.now

abbrev pub need_of : Question → Need
need_of (ask.Types q) = need_of_types q
need_of (ask.Kinds q) = need_of_kinds q
need_of (ask.Parts q) = need_of_parts q
need_of (ask.Members q) = need_of_members q

-- ---- its types are defined

module _ (env : List AtomDef) where
  abbrev pub AreAskableTypes : OfTypes → Type 0
  AreAskableTypes (types.Below s t) = IsDefined env s.now × IsDefined env t.now
  AreAskableTypes (types.HasConstant t value) = IsDefined env t.now
  AreAskableTypes (types.HasBoth r s t) = IsDefined env r.now × IsDefined env s.now × IsDefined env t.now
  AreAskableTypes (types.HasMade t atom immutable) = (atom < length env) × IsDefined env t.now

  abbrev pub AreAskableKinds : OfKinds → Type 0
  AreAskableKinds (kinds.Within s kind) = IsDefined env s.now
  AreAskableKinds (kinds.Has t kind) = IsDefined env t.now
  AreAskableKinds (kinds.Ordered a b) = IsDefined env a.now × IsDefined env b.now

  abbrev pub AreAskableParts : OfParts → Type 0
  AreAskableParts (parts.PartIn whole keys t) = IsDefined env whole.now × IsDefined env t.now
  AreAskableParts (parts.PartHas whole keys v) = IsDefined env whole.now × IsDefined env v.now

  abbrev pub AreAskableMembers : OfMembers → Type 0
  AreAskableMembers (members.ItemIn l i t) = IsDefined env l.now × IsDefined env i.now × IsDefined env t.now
  AreAskableMembers (members.ItemHas l i v) = IsDefined env l.now × IsDefined env i.now × IsDefined env v.now
  AreAskableMembers (members.MemberIn m k t) = IsDefined env m.now × IsDefined env k.now × IsDefined env t.now
  AreAskableMembers (members.MemberHas m k v) = IsDefined env m.now × IsDefined env k.now × IsDefined env v.now

  abbrev pub IsAskable : Question → Type 0
  IsAskable (ask.Types q) = AreAskableTypes q
  IsAskable (ask.Kinds q) = AreAskableKinds q
  IsAskable (ask.Parts q) = AreAskableParts q
  IsAskable (ask.Members q) = AreAskableMembers q

-- ---- the questions about types that it leads to

abbrev pub TypesLeadTo : OfTypes → Asked → Type 0
TypesLeadTo (types.Below s t) asked = asked ≡ Without s.now t.now
TypesLeadTo (types.HasConstant t value) asked = asked ≡ Without (Basic (constant_set value.now)) t.now
TypesLeadTo (types.HasBoth r s t) asked = AsksAbove r.now (IsBoth (IsSameType s.now) (IsSameType t.now)) asked
TypesLeadTo (types.HasMade t atom immutable) asked = AsksAbove t.now (IsMadeType atom immutable) asked

abbrev pub KindsLeadTo : KnownTypes → OfKinds → Asked → Type 0
KindsLeadTo known (kinds.Within s kind) asked = AsksBelow s.now (IsKindType known kind) asked
KindsLeadTo known (kinds.Has t kind) asked = AsksAbove t.now (IsKindType known kind) asked
KindsLeadTo known (kinds.Ordered a b) asked = AsksOrder a.now b.now asked

abbrev pub PartsLeadTo : List AtomDef → OfParts → Asked → Type 0
PartsLeadTo env (parts.PartIn whole keys t) asked = AsksPart env whole.now (StandsAt env whole.now keys.now) t.now asked
PartsLeadTo env (parts.PartHas whole keys v) asked = AsksOfPart env whole.now (StandsAt env whole.now keys.now) v.now asked

abbrev pub MembersLeadTo : List AtomDef → OfMembers → Asked → Type 0
MembersLeadTo env (members.ItemIn l i t) asked = AsksItem env l.now i.now t.now asked
MembersLeadTo env (members.ItemHas l i v) asked = AsksOfItem env l.now i.now v.now asked
MembersLeadTo env (members.MemberIn m k t) asked = AsksMember env m.now k.now t.now asked
MembersLeadTo env (members.MemberHas m k v) asked = AsksOfMember env m.now k.now v.now asked

abbrev pub LeadsTo : List AtomDef → KnownTypes → Question → Asked → Type 0
LeadsTo env known (ask.Types q) asked = TypesLeadTo q asked
LeadsTo env known (ask.Kinds q) asked = KindsLeadTo known q asked
LeadsTo env known (ask.Parts q) asked = PartsLeadTo env q asked
LeadsTo env known (ask.Members q) asked = MembersLeadTo env q asked

-- ---- one after another

abbrev pub IsYes : List AtomDef → Question → Type 0
IsYes env q = IsMet env (need_of q)

-- all needs are met; or all before one are and this one isn't, as the shape shows
abbrev pub Answered : List AtomDef → List Question → Option Shape → Type 0
Answered env qs None = All (IsYes env) qs
Answered env qs (Some x) =
    (k : ℕ) × (q : Question) × (slice_get qs k ≡ Some q) × All (IsYes env) (take k qs) × IsAgainst env (need_of q) x × (¬ (IsYes env q))

-- all needs before one are met, and a question to which this one leads passes the limit
abbrev pub FirstPasses : (List AtomDef → Asked → TypeLimit → Type 0) → List AtomDef → KnownTypes → List Question → TypeLimit → Type 0
FirstPasses passes env known qs limit =
    (k : ℕ) × (q : Question) × (slice_get qs k ≡ Some q) × All (IsYes env) (take k qs) × SomePasses passes env (LeadsTo env known q) limit
