-- Drafts of definitions, one behind another; and a kept type in place of the one that was drafted.
use Rattle.std.proofs.Common.{◌≡◌, ◌≤◌, ℕ, zero, suc, ◌+◌, List, [], ◌∷◌, ◌++◌, length, length-append, fold, take, Some, refl, sym, ap, subst, ◌∙◌, arith}
use Rattle.std.specs.Prelude.{slice_get}
use Rattle.std.proofs.lemmas.List.{take_more}
use Rattle.std.proofs.lemmas.Option.{get_or_from_slice_get, none-some, slice_get_within, some_pair_parts}
use Rattle.bal_base.specs.declared.place.Place.{Place}
use Rattle.bal_tree.specs.declared.def.ConstDef.{ConstDef}
use Rattle.bal_tree.specs.declared.def.Def.{Def}
use Rattle.bal_tree.specs.declared.def.Def.TheVariants.{«Type» as TypeOf, Const, Variable as VariableOf, Function as FunctionOf}
use Rattle.bal_tree.specs.declared.def.FunctionDef.{FunctionDef}
use Rattle.bal_tree.specs.declared.def.TypeDef.{TypeDef}
use Rattle.bal_tree.specs.declared.def.VariableDef.{VariableDef}
use Rattle.type_model.specs.declared.atoms.AtomDef.{AtomDef}
use Rattle.type_model.specs.declared.basic.SemType.{Basic}
use Rattle.type_model.specs.declared.basic.Ty.{Ty}
use Rattle.checks.specs.Checks.{Check, Gives, gives_some, ◌▷◌}
use Rattle.descriptors.specs.declared.draft.Draft.{Draft}
use Rattle.descriptors.specs.declared.names.Entry.{Entry}
use Rattle.descriptors.specs.declared.names.Meaning.{Meaning}
use Rattle.descriptors.specs.declared.names.Meaning.TheVariants.{TypeName, Constant, Variable, Function}
use Rattle.descriptors.specs.declared.names.Names.{Names}
use Rattle.descriptors.specs.declared.names.Scope.{Scope}
use Rattle.descriptors.specs.declared.names.Signature.{Signature}
use Rattle.descriptors.specs.Descriptors.{descriptor_of}
use Rattle.descriptors.specs.Described.{Atoms, IsRewritten, plain, value_set}
use Rattle.descriptors.specs.Drafts.{drafted}
use Rattle.descriptors.specs.Steps.{AreOwnTypes}
use Rattle.name_resolution.specs.Definitions.{Placed, functions_in, scope_at}
use Rattle.type_builder.specs.AtomPlaces.{def_places, function_places}
use Rattle.type_builder.specs.Meanings.{earlier_with, entries_by, entry_by, meaning_by, meaning_drafted}
use Rattle.type_builder.specs.declared.earlier.Earlier.{Earlier}
use Rattle.type_builder.specs.Passes.{entry_for, placed_places, started}
use Rattle.type_builder.proofs.Adding.{all-placed-add, def-adds}

pub take-one : {X : Type 0} (xs : List X) (i : ℕ) (x : X) → slice_get xs i ≡ Some x → take (i + 1) xs ≡ take i xs ++ x ∷ []
take-one xs i x at = take_more xs i x (slice_get_within xs i x at) ∙ ap (λ y. take i xs ++ y ∷ []) (get_or_from_slice_get xs i x x at)

-- ---- so many functions, so many atoms

-- how many functions come before what follows
abbrev pub units : Earlier → List Placed → Earlier
units = fold (λ n p. earlier_with n p.def)

pub units-more : (unit : Earlier) (ps : List Placed) (q : Placed) → units unit (ps ++ q ∷ []) ≡ earlier_with (units unit ps) q.def
units-more unit [] q = refl
units-more unit (p ∷ ps) q = units-more (earlier_with unit p.def) ps q

-- a function needs an atom
one-needed : (d : FunctionDef) → 1 ≤ length (function_places d [])
one-needed d = by _
  where
    by : (before : List Place) → 1 ≤ length (before ++ d.at ∷ [])
    by before = let long : length (before ++ d.at ∷ []) ≡ length before + 1 = length-append before (d.at ∷ []) in omega (arith, long)

needed : (def : Def) → functions_in def ≤ length (def_places [] def)
needed (TypeOf d) = omega arith
needed (Const d) = omega arith
needed (VariableOf d) = omega arith
needed (FunctionOf d) = one-needed d

pub units-within : (unit : Earlier) (ps : List Placed) → (units unit ps).functions ≤ unit.functions + length (fold placed_places [] ps)
units-within unit [] = omega arith
units-within unit (p ∷ ps) =
    let more : (units (earlier_with unit p.def) ps).functions ≤ unit.functions + functions_in p.def + length (fold placed_places [] ps) = units-within (earlier_with unit p.def) ps in
    let own : functions_in p.def ≤ length (def_places [] p.def) = needed p.def in
    let all : length (fold placed_places (placed_places [] p) ps) ≡ length (placed_places [] p) + length (fold placed_places [] ps) = all-placed-add ps (placed_places [] p) in omega (arith, more, own, all)

fold-push : (before : List Place) (ps : List Placed) (q : Placed) → fold placed_places before (ps ++ q ∷ []) ≡ placed_places (fold placed_places before ps) q
fold-push before [] q = refl
fold-push before (p ∷ ps) q = fold-push (placed_places before p) ps q

-- the atoms of one definition more
pub places-more : (ps : List Placed) (q : Placed) → length (fold placed_places [] (ps ++ q ∷ [])) ≡ length (fold placed_places [] ps) + length (def_places [] q.def)
places-more ps q = ap length (fold-push [] ps q) ∙ def-adds q.def (fold placed_places [] ps)

-- where a definition starts
pub start-is : (first : ℕ) (before : List Place) (ps : List Placed) (n start : ℕ) (q : Placed) → slice_get (started first before ps) n ≡ Some (q, start) → start ≡ first + length (fold placed_places before (take n ps))
start-is first before [] n start q at = absurd (none-some (q, start) at)
start-is first before (p ∷ ps) zero start q at = sym (some_pair_parts p q (first + length before) start at).1
start-is first before (p ∷ ps) (suc n) start q at = start-is first (placed_places before p) ps n start q at

-- the atoms of some definitions are no more than those of all
pub places-within : (n : ℕ) (ps : List Placed) → length (fold placed_places [] (take n ps)) ≤ length (fold placed_places [] ps)
places-within zero ps = omega arith
places-within (suc n) [] = omega arith
places-within (suc n) (p ∷ ps) =
    let some : length (fold placed_places (placed_places [] p) (take n ps)) ≡ length (placed_places [] p) + length (fold placed_places [] (take n ps)) = all-placed-add (take n ps) (placed_places [] p) in
    let all : length (fold placed_places (placed_places [] p) ps) ≡ length (placed_places [] p) + length (fold placed_places [] ps) = all-placed-add ps (placed_places [] p) in
    let rest : length (fold placed_places [] (take n ps)) ≤ length (fold placed_places [] ps) = places-within n ps in omega (arith, some, all, rest)

-- ---- entries

module _ {S : Type 0} (atom : AtomDef → Place → Check S ℕ) (some : (A : Type 0) → (Atoms → A → Type 0) → Check S A) (names : Names) where
  pub entry-comes : (unit : Earlier) (q : Placed) (s t : S) (m : Meaning) → meaning_by atom some names (scope_at q) unit q.def s (Gives m) t → entry_by atom some names unit q s (Gives (entry_for q m)) t
  unfolding ◌▷◌ gives_some
  entry-comes unit q s t m h = (m, t, h, (refl, refl))

  -- the entry of one definition more
  pub entries-push : (unit : Earlier) (ps : List Placed) (q : Placed) (s t v : S) (es : List Entry) (e : Entry) → entries_by atom some names unit ps s (Gives es) t → entry_by atom some names (units unit ps) q t (Gives e) v
      → entries_by atom some names unit (ps ++ q ∷ []) s (Gives (es ++ e ∷ [])) v
  unfolding ◌▷◌ gives_some
  entries-push unit [] q s t v es e (none, same) h =
      (e, v, subst (λ x. entry_by atom some names unit q x (Gives e) v) same h, ([], v, (refl, refl), (ap (λ xs. xs ++ e ∷ []) none, refl)))
  entries-push unit (p ∷ ps) q s t v es e (a, mid, first, (rest, end, more, (is, same))) h = (
    a,
    mid,
    first,
    (
      rest ++ e ∷ [],
      v,
      entries-push (earlier_with unit p.def) ps q mid end v rest e more (subst (λ x. entry_by atom some names (units unit (p ∷ ps)) q x (Gives e) v) same h),
      (ap (λ xs. xs ++ e ∷ []) is, refl),
    ),
  )

-- ---- what single definitions mean

module _ (names : Names) (scope : Scope) (unit : Earlier) (s t : Draft) (m : Meaning) where
  -- a type with the same shapes in place of the one that was drafted
  pub type-exchanged : (d : TypeDef) (k : Ty) → ((a : Ty) (u : Draft) (env : Atoms) → drafted names scope (descriptor_of d.ty.value) s (Gives a) u → AreOwnTypes env names.own → IsRewritten a env k)
      → meaning_drafted names scope unit (TypeOf d) s (Gives m) t → meaning_drafted names scope unit (TypeOf d) s (Gives (TypeName k)) t
  unfolding ◌▷◌ gives_some
  type-exchanged d k same (a, mid, first, (u, end, (kept, at), (is, last))) = (a, mid, first, (k, mid, ((λ env own. same a mid env first own), refl), (refl, last ∙ at)))

  pub constant-is : (d : ConstDef) → meaning_drafted names scope unit (Const d) s (Gives m) t → m ≡ Constant (plain (Basic (value_set d.value)))
  unfolding ◌▷◌ gives_some
  constant-is d (declared, mid, first, (is, last)) = is

  pub variable-is : (d : VariableDef) → meaning_drafted names scope unit (VariableOf d) s (Gives m) t → (u : Ty) × (m ≡ Variable unit.variables d.is_final u)
  unfolding ◌▷◌ gives_some
  variable-is d (a, mid, first, (u, end, kept, (is, last))) = (u, is)

  pub function-is : (d : FunctionDef) → meaning_drafted names scope unit (FunctionOf d) s (Gives m) t → (f : Signature) × (m ≡ Function f)
  unfolding ◌▷◌ gives_some
  function-is d (f, mid, first, (is, last)) = (f, is)
