-- What stays defined in a larger environment.
use Rattle.std.proofs.Common.{◌≡◌, ℕ, ◌+◌, ◌<◌, ◌≤◌, ◌++◌, List, [], ◌∷◌, length, All, IfSome, Option, Some, None, arith, length-append, sym, subst}
use Rattle.std.proofs.lemmas.List.Elements.{All-append, All-cons, All-nil, All-weaker}
use Rattle.bal_base.specs.declared.limits.TheConstants.{MOST_ATOMS}
use Rattle.type_model.specs.declared.basic.SemType.{SemType, Basic, Atom, Or', And', Not'}
use Rattle.type_model.specs.declared.basic.Ty.{Ty}
use Rattle.type_model.specs.declared.basic.Choice.{Choice}
use Rattle.type_model.specs.declared.atoms.AtomDef.{AtomDef}
use Rattle.type_model.specs.declared.atoms.AtomDef.TheVariants.{List as ListAtom, Mapping as MappingAtom, Arrow, Error as ErrorAtom, Future as FutureAtom}
use Rattle.type_model.specs.Places.{HasDistinctFields}
use Rattle.type_model.specs.Defined.{NamesBelow, ChoicesBelow, TyBelow, DefBelow, IsDefinedGroup, IsEnv}

module _ (m n : ℕ) (le : m ≤ n) where
  pub NamesBelow-more : (t : SemType) → NamesBelow m t → NamesBelow n t
  NamesBelow-more (Basic b) h = tt
  NamesBelow-more (Atom a) h = omega arith
  NamesBelow-more (Or' _ s _ t) h = (NamesBelow-more s h.0, NamesBelow-more t h.1)
  NamesBelow-more (And' _ s _ t) h = (NamesBelow-more s h.0, NamesBelow-more t h.1)
  NamesBelow-more (Not' _ t) h = NamesBelow-more t h

  ChoicesBelow-more : (cs : List Choice) → ChoicesBelow m cs → ChoicesBelow n cs
  ChoicesBelow-more cs = All-weaker (λ c. c.atom < m) (λ c. c.atom < n) (λ c lt. omega arith) cs

  pub TyBelow-more : (t : Ty) → TyBelow m t → TyBelow n t
  TyBelow-more t h = (NamesBelow-more t.sem h.0, ChoicesBelow-more t.lists h.1, ChoicesBelow-more t.maps h.2)

  rest_more : (rest : Option Ty) → IfSome rest (TyBelow m) → IfSome rest (TyBelow n)
  rest_more None h = tt
  rest_more (Some t) h = TyBelow-more t h

  pub DefBelow-more : (d : AtomDef) → DefBelow m d → DefBelow n d
  DefBelow-more (ListAtom fixed rest) h =
      (All-weaker (TyBelow m) (TyBelow n) TyBelow-more fixed h.0, rest_more rest h.1)
  DefBelow-more (MappingAtom fields rest) h =
      (All-weaker (λ f. TyBelow m f.ty) (λ f. TyBelow n f.ty) (λ f. TyBelow-more f.ty) fields h.0, rest_more rest h.1)
  DefBelow-more (Arrow args outcome alone) h = (NamesBelow-more args h.0, NamesBelow-more outcome h.1)
  DefBelow-more (ErrorAtom detail) h = NamesBelow-more detail h
  DefBelow-more (FutureAtom outcome) h = NamesBelow-more outcome h

-- an environment with a group of atoms that is defined over both is an environment
pub IsEnv-append : (env group : List AtomDef) → IsEnv env → IsDefinedGroup env group → All HasDistinctFields group → length env + length group ≤ MOST_ATOMS → IsEnv (env ++ group)
IsEnv-append env group e named distinct le =
    let n : ℕ = length (env ++ group) in
    let is : length env + length group ≡ n = sym (length-append env group) in
    let more : length env ≤ n = omega arith in record {
      closed = All-append (DefBelow n) env group (All-weaker (DefBelow (length env)) (DefBelow n) (DefBelow-more (length env) n more) env e.closed) (subst (λ k. All (DefBelow k) group) is named);
      distinct = All-append HasDistinctFields env group e.distinct distinct;
      bound = omega arith;
    }

-- a single atom over the environment is a group over it
pub IsDefinedGroup-one : (env : List AtomDef) (d : AtomDef) → DefBelow (length env) d → IsDefinedGroup env (d ∷ [])
IsDefinedGroup-one env d h =
    All-cons (DefBelow (length env + 1)) d [] (DefBelow-more (length env) (length env + 1) (omega arith) d h) (All-nil (DefBelow (length env + 1)))
