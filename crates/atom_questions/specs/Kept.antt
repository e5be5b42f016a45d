-- Needs where atoms are added.
use Rattle.std.specs.Prelude.{◌<◌, ◌↔◌, List, All, IfSome, length}
use Rattle.type_model.specs.declared.answers.Answer.{Answer}
use Rattle.type_model.specs.declared.atoms.AtomDef.{AtomDef}
use Rattle.type_model.specs.Calls.{KeepsTypes}
use Rattle.type_model.specs.Defined.{IsDefined}
use Rattle.code_needs.specs.Needs.{Need, Below, Within, Has, HasConstant, HasBoth, HasMade, PartIn, PartHas, ItemIn, ItemHas, MemberIn, MemberHas, HasField, Ordered, Applies, Gives, GivesFuture, FitsFields, Names, HasErrorsOf}
use Rattle.code_verifier.specs.Asked.{Answers}

-- all types that the need speaks of name atoms that are there
abbrev pub NeedDefined : List AtomDef → Need → Type 0
NeedDefined env (Below s t) = IsDefined env s × IsDefined env t
NeedDefined env (Within s kind) = IsDefined env s
NeedDefined env (Has r kind) = IsDefined env r
NeedDefined env (HasConstant r c) = IsDefined env r
NeedDefined env (HasBoth r s t) = IsDefined env r × IsDefined env s × IsDefined env t
NeedDefined env (HasMade r atom immutable) = IsDefined env r × (atom < length env)
NeedDefined env (PartIn s keys r) = IsDefined env s × IsDefined env r
NeedDefined env (PartHas s keys v) = IsDefined env s × IsDefined env v
NeedDefined env (ItemIn l i r) = IsDefined env l × IsDefined env i × IsDefined env r
NeedDefined env (ItemHas l i v) = IsDefined env l × IsDefined env i × IsDefined env v
NeedDefined env (MemberIn m k r) = IsDefined env m × IsDefined env k × IsDefined env r
NeedDefined env (MemberHas m k v) = IsDefined env m × IsDefined env k × IsDefined env v
NeedDefined env (HasField m name) = IsDefined env m
NeedDefined env (Ordered a b) = IsDefined env a × IsDefined env b
NeedDefined env (Applies f args) = IsDefined env f × All (IsDefined env) args
NeedDefined env (Gives f args r) = IsDefined env f × IsDefined env r × All (IsDefined env) args
NeedDefined env (GivesFuture f args r) = IsDefined env f × IsDefined env r × All (IsDefined env) args
NeedDefined env (FitsFields fields rest pair) =
    IsDefined env pair.0 × IsDefined env pair.1 × IfSome rest (λ t. IsDefined env t.sem) × All (λ f. IsDefined env f.ty.sem) fields
NeedDefined env (Names pairs name) = All (λ p. IsDefined env p.0) pairs
NeedDefined env (HasErrorsOf r pairs) = IsDefined env r × All (λ p. IsDefined env p.0 × IsDefined env p.1) pairs

-- where each type is kept, what an answer says of a need over the older atoms is what it says over the new ones
abbrev pub AnswersKept : Type 0
AnswersKept = (env new : List AtomDef) → KeepsTypes env new → (need : Need) → NeedDefined env need → (answer : Answer) → Answers env need answer ↔ Answers new need answer
