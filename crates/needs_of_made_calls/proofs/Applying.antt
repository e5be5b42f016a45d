-- What function values give.
use Rattle.std.proofs.Common.{◌≡◌, ◌<◌, ◌≤◌, ◌+◌, ◌-◌, ◌++◌, ◌∙◌, ℕ, Bool, true, List, [], ◌∷◌, drop, get_or, length, length-drop, take, All, arith, Option, Some, None, slice_get, IsSomeAnd, Result, Ok, Err, IfOk, refl, sym, subst, ap}
use Rattle.std.proofs.lemmas.List.{take_all, take_more}
use Rattle.std.proofs.lemmas.List.Elements.{All-cons, All-head, All-nil, All-tail}
use Rattle.bal_base.specs.declared.fault.Fault.{Fault}
use Rattle.bal_base.specs.declared.place.Place.{Place}
use Rattle.bal_base.specs.declared.shape.Shape.{Shape, Nil, Bool as BoolShape, Int, Str, List', Mapping', Error', Function, Future'}
use Rattle.bal_base.specs.declared.stop.Stop.{Stop}
use Rattle.checks.specs.Checks.{Comes}
use Rattle.checks.specs.Questions.{adds, applied, is_below}
use Rattle.descriptors.specs.Described.{IsCopy}
use Rattle.descriptors.proofs.Yielding.{copy-below}
use Rattle.made_atoms.proofs.Groups.{adds-then}
use Rattle.type_model.specs.Application.{IsFunctionType, IsListType}
use Rattle.type_model.specs.declared.answers.TypeLimit.{TypeLimit}
use Rattle.type_model.specs.declared.atoms.AtomDef.{AtomDef}
use Rattle.type_model.specs.declared.atoms.AtomDef.TheVariants.{List as ListAtom}
use Rattle.type_model.specs.Basic.{InBasic}
use Rattle.type_model.specs.declared.basic.BasicSet.TheVariants.{FunctionAll, ListAll}
use Rattle.type_model.specs.declared.basic.SemType.{SemType, Atom, Basic}
use Rattle.type_model.specs.declared.basic.Ty.{Ty}
use Rattle.type_model.specs.Calls.{Asked}
use Rattle.type_model.specs.Defined.{IsDefined, TyBelow}
use Rattle.type_model.specs.Inclusion.{Sub}
use Rattle.type_model.specs.Membership.{Fits}
use Rattle.typed_tree.specs.declared.expr.TypedExpr.{TypedExpr}
use Rattle.typed_tree.specs.Exprs.{type_of}
use Rattle.check_kinds.specs.Over.{ComesOver}
use Rattle.check_kinds.proofs.Over.{over-asks, over-on, over-stops}
use Rattle.check_words.specs.Calls.{applies_to}
use Rattle.check_words.specs.Stands.{PartBelow}
use Rattle.check_words.specs.State.{AreLast, State}
use Rattle.check_words.specs.Words.{Atoms, asking, last_parts, sem}
use Rattle.check_words.proofs.Coming.{given, next}
use Rattle.check_words.proofs.LastOnes.{split-last}
use Rattle.needs_of_made_calls.specs.Applied.{AreArguments, AreCopied, adds_arguments, applies_last}

-- ---- the last parts

pub slice-last : {A : Type 0} (count : ℕ) (xs : List A) → count ≤ length xs
    → AreLast xs count (take (length xs - (length xs - count)) (drop (length xs - count) xs))
slice-last count xs le =
    split-last count xs (take (length xs - (length xs - count)) (drop (length xs - count) xs)) le
    (take_all (length xs - (length xs - count)) (drop (length xs - count) xs) (omega (arith, length-drop (length xs - count) xs)))

-- ---- the arguments

one-copied : (es : List TypedExpr) (ts : List Ty) (e : TypedExpr) (t : Ty) → AreCopied es ts → IsCopy (type_of e).value t → AreCopied (es ++ e ∷ []) (ts ++ t ∷ [])
one-copied [] [] e t h k = (k, tt)
one-copied [] (u ∷ ts) e t h k = absurd h
one-copied (x ∷ es) [] e t h k = absurd h
one-copied (x ∷ es) (u ∷ ts) e t h k = (h.0, one-copied es ts e t h.1 k)

-- one more, in a loop over the parts
pub next-copied : (es : List TypedExpr) (i : ℕ) (e : TypedExpr) (ts : List Ty) (t : Ty) → i < length es → e ≡ get_or es i e → AreCopied (take i es) ts
    → IsCopy (type_of e).value t → AreCopied (take (i + 1) es) (ts ++ t ∷ [])
next-copied es i e ts t lt is h k =
    let more : take (i + 1) es ≡ take i es ++ e ∷ [] = take_more es i e lt ∙ ap (λ z. take i es ++ z ∷ []) (sym is) in
    subst (λ xs. AreCopied xs (ts ++ t ∷ [])) (sym more) (one-copied (take i es) ts e t h k)

pub types-below : (n : ℕ) (es : List TypedExpr) (ts : List Ty) → AreCopied es ts → All (PartBelow n) es → All (TyBelow n) ts
types-below n [] [] h all = All-nil (TyBelow n)
types-below n [] (t ∷ ts) h all = absurd h
types-below n (e ∷ es) [] h all = absurd h
types-below n (e ∷ es) (t ∷ ts) h all =
    All-cons (TyBelow n) t ts (copy-below n (type_of e).value t h.0 (All-head (PartBelow n) e es all)) (types-below n es ts h.1 (All-tail (PartBelow n) e es all))

get-last : {A : Type 0} (xs : List A) (x : A) → slice_get (xs ++ x ∷ []) (length xs) ≡ Some x
get-last [] x = refl
get-last (y ∷ xs) x = get-last xs x

-- all that fit a list's definition are lists
list-fits : (env : List AtomDef) (fixed : List Ty) (rest : Option Ty) (x : Shape) → Fits env x (ListAtom fixed rest) → InBasic x ListAll
list-fits env fixed rest (List' mark _ items) h = tt
list-fits env fixed rest Nil h = absurd h
list-fits env fixed rest (BoolShape b) h = absurd h
list-fits env fixed rest (Int i) h = absurd h
list-fits env fixed rest (Str t) h = absurd h
list-fits env fixed rest (Mapping' mark _ fields) h = absurd h
list-fits env fixed rest (Error' _ detail) h = absurd h
list-fits env fixed rest (Function isolated graph) h = absurd h
list-fits env fixed rest (Future' _ results) h = absurd h

module _ (ts : List Ty) (def : AtomDef) (is : def ≡ ListAtom ts None) (at : Place) (old new : Atoms) where
  lists-at : (atom : ℕ) → slice_get new atom ≡ Some (ListAtom ts None) → IsListType new (Atom atom)
  lists-at atom there x valid in' = list-fits new ts None x (subst (λ o. IsSomeAnd o (Fits new x)) there in')

  added-there : (atom : ℕ) → Comes (adds (λ env defs. defs ≡ def ∷ []) (Some at)) old (Ok atom) new → slice_get new atom ≡ Some (ListAtom ts None)
  unfolding Comes adds
  added-there atom h =
      ap (λ e. slice_get e atom) (h.3 ∙ ap (λ d. old ++ d) h.1) ∙ ap (λ n. slice_get (old ++ def ∷ []) n) h.2 ∙ get-last old def ∙ ap (λ d. Some d) is

  -- the atom that was added is one of lists
  pub arguments-lists : (r : Result ℕ (Stop Fault)) → Comes (adds (λ env defs. defs ≡ def ∷ []) (Some at)) old r new → IfOk r (λ atom. IsListType new (Atom atom))
  arguments-lists (Ok atom) h = lists-at atom (added-there atom h)
  arguments-lists (Err stop) h = tt

  pub arguments-added : (args : List TypedExpr) (r : Result ℕ (Stop Fault)) → AreCopied args ts → Comes (adds (λ env defs. defs ≡ def ∷ []) (Some at)) old r new
      → ComesOver (adds_arguments args at) old r new
  arguments-added args r are h =
      over-asks (adds (AreArguments args) (Some at)) old new r
      (adds-then (λ env defs. defs ≡ def ∷ []) (AreArguments args) (Some at) old new r (λ defs same. (ts, are, same ∙ ap (λ d. d ∷ []) is)) h)

-- ---- functions

module _ (passes : List AtomDef → Asked → TypeLimit → Type 0) where
  pub below-functions : (t functions : SemType) (at : Option Place) (old new : Atoms) (r : Result Bool (Stop Fault)) → functions ≡ Basic FunctionAll → r ≡ Ok true
      → Comes (is_below passes t functions at) old r new → IsFunctionType old t
  unfolding Comes is_below
  below-functions t functions at old new r e is h =
      subst (λ f. Sub old t f) e (subst (λ x. Comes (is_below passes t functions at) old x new) is h).0

  pub result-defined : (f args : SemType) (at : Option Place) (old new : Atoms) (r : Result SemType (Stop Fault)) → Comes (applied passes f args at) old r new → IfOk r (IsDefined new)
  unfolding Comes applied
  result-defined f args at old new (Ok m) h = subst (λ (e : Atoms). IsDefined e m) (sym h.2) h.0
  result-defined f args at old new (Err stop) h = tt

  -- as the type of the function was looked at
  module _ (f : TypedExpr) (args : List TypedExpr) (at : Place) (old mid : Atoms) where
    pub function-applied : (v : SemType) (is : v ≡ sem f) (new : Atoms) (atom : ℕ) (r : Result SemType (Stop Fault)) → ComesOver (adds_arguments args at) old (Ok atom) mid
        → Comes (applied passes v (Atom atom) (Some at)) mid r new → ComesOver (applies_to passes (f ∷ args) at) old r new
    function-applied v is new atom r h k =
        over-on (adds_arguments args at) (λ a. asking (applied passes (sem f) (Atom a) (Some at))) old mid new atom r h
        (over-asks (applied passes (sem f) (Atom atom) (Some at)) mid new r (subst (λ (u : SemType). Comes (applied passes u (Atom atom) (Some at)) mid r new) is k))

    pub function-stops : (stop : Stop Fault) → ComesOver (adds_arguments args at) old (Err stop) mid → ComesOver (applies_to passes (f ∷ args) at) old (Err stop) mid
    function-stops stop h = over-stops (adds_arguments args at) (λ a. asking (applied passes (sem f) (Atom a) (Some at))) old mid stop h

  pub last-applied : (count : ℕ) (at : Place) (s : State) (old new : Atoms) (parts : List TypedExpr) (r : Result SemType (Stop Fault)) → s.atoms ≡ old → AreLast s.found count parts
      → ComesOver (applies_to passes parts at) old r new → Comes (applies_last passes count at) s r (record s { atoms = new })
  unfolding ComesOver
  last-applied count at s old new parts r e last h = next (last_parts count) (λ ps. applies_to passes ps at) s (record s { atoms = new }) r parts s (given _ s parts last) (h s e)
