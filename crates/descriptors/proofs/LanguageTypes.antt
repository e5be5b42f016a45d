-- The atoms of the language's own types have the shapes that these are to have.
use Rattle.std.proofs.Common.{◌≡◌, ℕ, ◌+◌, ◌<◌, ◌⊎◌, ◌↔◌, inl, inr, List, [], slice_get, Some, IsSomeAnd, Result, Ok, Err, IfOk, pos, true, false, refl, sym, subst, arith}
use Rattle.std.proofs.lemmas.List.Elements.{All-nil}
use Rattle.bal_base.specs.declared.shape.Shape.{Shape, Nil, Bool as BoolShape, Int, Str, List', Mapping', Error', Function, Future', Row_of-Shape, end_of-Shape, more_of-Shape, Row_of-Fields-items-2 as Row_of-Field, end_of-Fields-items-2 as end_of-Field, more_of-Fields-items-2 as more_of-Field}
use Rattle.bal_base.specs.declared.shape.Graph.{Graph, Graph', Row_of-Case, end_of-Case, more_of-Case}
use Rattle.bal_base.specs.Valid.{IsValid, AreValid, FieldsValid}
use Rattle.bal_base.specs.Limits.{greatest_int}
use Rattle.bal_base.specs.declared.stop.Memory.{Memory as NoMemory}
use Rattle.type_model.specs.declared.atoms.AtomDef.{AtomDef}
use Rattle.type_model.specs.declared.atoms.AtomDef.TheVariants.{List as ListAtom, Mapping as MappingAtom, Arrow}
use Rattle.type_model.specs.declared.basic.BasicSet.TheVariants.{Nil as NilOnly, Bool as BoolOne, IntRange, StringAll, ListAll, MappingAll, Never}
use Rattle.type_model.specs.declared.basic.SemType.{SemType, Basic, Atom}
use Rattle.type_model.specs.Basic.{InBasic}
use Rattle.type_model.specs.Defined.{NamesBelow}
use Rattle.type_model.specs.Inclusion.{HasExactly}
use Rattle.type_model.specs.Membership.{CasesMap, EachIn, Fits, In, Maps, MembersIn}
use Rattle.type_model.proofs.Same.{both, either, itself}
use Rattle.type_model.specs.Anydata.{AreAnydata, IsAnydata, MembersAreAnydata}
use Rattle.descriptors.specs.Described.{IsIsolatedFunction, least_int, plain}
use Rattle.descriptors.specs.Language.{IsAnydataOver, IsEverything, IsSimple}

pub then-same : {A B C : Type 0} → A ↔ B → B ↔ C → A ↔ C
then-same e f = (λ a. f.0 (e.0 a), λ c. e.1 (f.1 c))

-- what holds of an atom, by its definition
pub at-atom : (env : List AtomDef) (x : Shape) (a : ℕ) (def : AtomDef) → slice_get env a ≡ Some def → In env x (Atom a) ↔ Fits env x def
at-atom env x a def e = subst (λ o. IsSomeAnd o (Fits env x) ↔ Fits env x def) (sym e) itself

-- ---- anydata

module _ (env : List AtomDef) (l m : ℕ) (s t : SemType) (at_l : slice_get env l ≡ Some (ListAtom [] (Some (plain s)))) (at_m : slice_get env m ≡ Some (MappingAtom [] (Some (plain t))))
    (members : IsAnydataOver l m s) (fields : IsAnydataOver l m t) where
  lists : (x : Shape) → In env x (Atom l) ↔ Fits env x (ListAtom [] (Some (plain s)))
  lists x = at-atom env x l (ListAtom [] (Some (plain s))) at_l

  mappings : (x : Shape) → In env x (Atom m) ↔ Fits env x (MappingAtom [] (Some (plain t)))
  mappings x = at-atom env x m (MappingAtom [] (Some (plain t))) at_m

  abbrev Parts : Shape → Type 0
  Parts x = IsSimple x ⊎ (In env x (Atom l) ⊎ In env x (Atom m))

  parts : (x : Shape) (P : Type 0) → (IsSimple x → P) → (Fits env x (ListAtom [] (Some (plain s))) → P) → (Fits env x (MappingAtom [] (Some (plain t))) → P) → Parts x → P
  parts x P f g h (inl a) = f a
  parts x P f g h (inr (inl b)) = g ((lists x).0 b)
  parts x P f g h (inr (inr c)) = h ((mappings x).0 c)

  mutual
    by_parts : (x : Shape) → IsValid x → Parts x ↔ IsAnydata x
    by_parts Nil v = (λ p. tt, λ a. inl tt)
    by_parts (BoolShape b) v = (λ p. tt, λ a. inl tt)
    by_parts (Int i) v = (λ p. tt, λ a. inl tt)
    by_parts (Str u) v = (λ p. tt, λ a. inl tt)
    by_parts (List' mark w items) v = let same = items_are _ items 0 v.1 in (
      parts (List' mark w items) (AreAnydata items) (λ a. absurd a) (λ f. same.0 f.1) (λ g. absurd g),
      λ a. inr (inl ((lists (List' mark w items)).1 (omega arith, same.1 a))),
    )
    by_parts (Mapping' mark w fs) v = let same = fields_are _ fs v.3 in (
      parts (Mapping' mark w fs) (MembersAreAnydata fs) (λ a. absurd a) (λ f. absurd f) (λ g. same.0 g.1),
      λ a. inr (inr ((mappings (Mapping' mark w fs)).1 (All-nil _, same.1 a))),
    )
    by_parts (Error' w detail) v = (parts (Error' w detail) ⊥ (λ a. a) (λ f. f) (λ g. g), λ a. absurd a)
    by_parts (Function isolated graph) v = (parts (Function isolated graph) ⊥ (λ a. a) (λ f. f) (λ g. g), λ a. absurd a)
    by_parts (Future' w results) v = (parts (Future' w results) ⊥ (λ a. a) (λ f. f) (λ g. g), λ a. absurd a)

    items_are : (n : _) (row : Row_of-Shape n) (k : ℕ) → AreValid row → EachIn env row k [] (Some (plain s)) ↔ AreAnydata row
    items_are n end_of-Shape k v = itself
    items_are n (more_of-Shape x xs) k v = both (then-same (members.shapes env x v.0) (by_parts x v.0)) (items_are _ xs (k + 1) v.1)

    fields_are : (n : _) (row : Row_of-Field n) → FieldsValid row → MembersIn env row [] (Some (plain t)) ↔ MembersAreAnydata row
    fields_are n end_of-Field v = itself
    fields_are n (more_of-Field key x xs) v = both (then-same (fields.shapes env x v.0) (by_parts x v.0)) (fields_are _ xs v.1)

  pub is-anydata : (u : SemType) → IsAnydataOver l m u → HasExactly env u IsAnydata
  is-anydata u h x v = then-same (h.shapes env x v) (by_parts x v)

-- ---- all lists, all mappings, all isolated functions

module _ (env : List AtomDef) (s : SemType) (every : IsEverything s) where
  all_items : (n : _) (row : Row_of-Shape n) (k : ℕ) → AreValid row → EachIn env row k [] (Some (plain s))
  all_items n end_of-Shape k v = tt
  all_items n (more_of-Shape x xs) k v = ((every.shapes env x v.0).1 tt, all_items _ xs (k + 1) v.1)

  all_fields : (n : _) (row : Row_of-Field n) → FieldsValid row → MembersIn env row [] (Some (plain s))
  all_fields n end_of-Field v = tt
  all_fields n (more_of-Field key x xs) v = ((every.shapes env x v.0).1 tt, all_fields _ xs v.1)

  pub all-lists : (x : Shape) → IsValid x → Fits env x (ListAtom [] (Some (plain s))) ↔ InBasic x ListAll
  all-lists Nil v = itself
  all-lists (BoolShape b) v = itself
  all-lists (Int i) v = itself
  all-lists (Str u) v = itself
  all-lists (List' mark w items) v = (λ f. tt, λ a. (omega arith, all_items _ items 0 v.1))
  all-lists (Mapping' mark w fs) v = itself
  all-lists (Error' w detail) v = itself
  all-lists (Function isolated graph) v = itself
  all-lists (Future' w results) v = itself

  pub all-mappings : (x : Shape) → IsValid x → Fits env x (MappingAtom [] (Some (plain s))) ↔ InBasic x MappingAll
  all-mappings Nil v = itself
  all-mappings (BoolShape b) v = itself
  all-mappings (Int i) v = itself
  all-mappings (Str u) v = itself
  all-mappings (List' mark w items) v = itself
  all-mappings (Mapping' mark w fs) v = (λ f. tt, λ a. (All-nil _, all_fields _ fs v.3))
  all-mappings (Error' w detail) v = itself
  all-mappings (Function isolated graph) v = itself
  all-mappings (Future' w results) v = itself

module _ (env : List AtomDef) where
  no_arguments : (n : _) (row : Row_of-Case n) → CasesMap env row (Basic Never) (Basic Never)
  no_arguments n end_of-Case = tt
  no_arguments n (more_of-Case w args result rest) = (λ h. absurd h, no_arguments _ rest)

  any_graph : (graph : Graph) → Maps env graph (Basic Never) (Basic Never)
  any_graph (Graph' w cases) = no_arguments _ cases

  pub all-isolated : (x : Shape) → Fits env x (Arrow (Basic Never) (Basic Never) true) ↔ IsIsolatedFunction x
  all-isolated Nil = itself
  all-isolated (BoolShape b) = itself
  all-isolated (Int i) = itself
  all-isolated (Str u) = itself
  all-isolated (List' mark w items) = itself
  all-isolated (Mapping' mark w fs) = itself
  all-isolated (Error' w detail) = itself
  all-isolated (Function isolated graph) = (λ f. f.0 refl, λ e. (λ h. e, any_graph graph))
  all-isolated (Future' w results) = itself

-- ---- nil, booleans, ints and strings

no_value : ⊥ ⊎ ((⊥ ⊎ ⊥) ⊎ (⊥ ⊎ ⊥)) → ⊥
no_value (inl a) = a
no_value (inr (inl (inl a))) = a
no_value (inr (inl (inr a))) = a
no_value (inr (inr (inl a))) = a
no_value (inr (inr (inr a))) = a

values-simple : (x : Shape) → IsValid x → ((InBasic x NilOnly) ⊎ ((InBasic x (BoolOne true) ⊎ InBasic x (BoolOne false)) ⊎ (InBasic x (IntRange least_int (pos greatest_int)) ⊎ InBasic x StringAll))) ↔ IsSimple x
values-simple Nil v = (λ h. tt, λ h. inl tt)
values-simple (BoolShape true) v = (λ h. tt, λ h. inr (inl (inl refl)))
values-simple (BoolShape false) v = (λ h. tt, λ h. inr (inl (inr refl)))
values-simple (Int i) v = (λ h. tt, λ h. inr (inr (inl v)))
values-simple (Str t) v = (λ h. tt, λ h. inr (inr (inr tt)))
values-simple (List' mark w items) v = (no_value, λ h. absurd h)
values-simple (Mapping' mark w fs) v = (no_value, λ h. absurd h)
values-simple (Error' w detail) v = (no_value, λ h. absurd h)
values-simple (Function isolated graph) v = (no_value, λ h. absurd h)
values-simple (Future' w results) v = (no_value, λ h. absurd h)

module _ (booleans rest values : SemType) (b : (env : List AtomDef) (x : Shape) → In env x booleans ↔ (InBasic x (BoolOne true) ⊎ InBasic x (BoolOne false)))
    (i : (env : List AtomDef) (x : Shape) → In env x rest ↔ (InBasic x (IntRange least_int (pos greatest_int)) ⊎ InBasic x StringAll))
    (v : (env : List AtomDef) (x : Shape) → In env x values ↔ (In env x booleans ⊎ In env x rest)) where
  pub simple-shapes : (r : Result SemType NoMemory) → IfOk r (λ t. (env : List AtomDef) (x : Shape) → In env x t ↔ (InBasic x NilOnly ⊎ In env x values))
      → IfOk r (λ t. (env : List AtomDef) → HasExactly env t IsSimple)
  simple-shapes (Ok t) h = λ env x valid. then-same (h env x) (then-same (either itself (then-same (v env x) (either (b env x) (i env x)))) (values-simple x valid))
  simple-shapes (Err m) h = tt

-- ---- a type of each shape of two

pub either-anydata : (lists mappings : ℕ) (simple rest : SemType) (r : Result SemType NoMemory) → ((env : List AtomDef) → HasExactly env simple IsSimple) → ((n : ℕ) → NamesBelow n simple)
    → ((env : List AtomDef) (x : Shape) → In env x rest ↔ (In env x (Atom lists) ⊎ In env x (Atom mappings))) → ((n : ℕ) → lists < n → mappings < n → NamesBelow n rest)
    → IfOk r (λ t. (env : List AtomDef) (x : Shape) → In env x t ↔ (In env x simple ⊎ In env x rest)) → IfOk r (λ t. (n : ℕ) → NamesBelow n simple → NamesBelow n rest → NamesBelow n t)
    → IfOk r (IsAnydataOver lists mappings)
either-anydata lists mappings simple rest (Ok t) s sb o ob h hb = record {
  shapes = λ env x valid. then-same (h env x) (either (s env x valid) (o env x));
  defined = λ n l m. hb n (sb n) (ob n l m);
}
either-anydata lists mappings simple rest (Err m) s sb o ob h hb = tt

pub both-named : (l r : SemType) (m : Result SemType NoMemory) → ((n : ℕ) → NamesBelow n l) → ((n : ℕ) → NamesBelow n r) → IfOk m (λ t. (n : ℕ) → NamesBelow n l → NamesBelow n r → NamesBelow n t)
    → IfOk m (λ t. (n : ℕ) → NamesBelow n t)
both-named l r (Ok t) hl hr h = λ n. h n (hl n) (hr n)
both-named l r (Err m) hl hr h = tt
