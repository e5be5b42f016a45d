-- What an entry means says which definition it is of, and by which number.
use Rattle.std.proofs.Common.{All, Bool, IfSome, List, None, Option, Some, [], ap, arith, false, length, length-append, refl, subst, suc, sym, true, zero, ℕ, ◌++◌, ◌+◌, ◌-◌, ◌==◌, ◌∙◌, ◌∷◌, ◌≡◌}
use Rattle.std.proofs.lemmas.Bool.{eqb-true}
use Rattle.std.proofs.lemmas.List.Elements.{All-head, All-tail}
use Rattle.std.specs.Cmp.Lexicographic.{bytes_decides}
use Rattle.std.specs.Prelude.{slice_get, ◌&&◌}
use Rattle.bal_base.specs.declared.text.Name.{Name}
use Rattle.bal_tree.specs.declared.def.Def.TheVariants.{«Type» as TypeOf, Const, Function as FunctionOf, Variable as VariableOf}
use Rattle.bal_tree.specs.declared.def.Def.{Def}
use Rattle.bal_tree.specs.declared.def.FunctionDef.{FunctionDef}
use Rattle.bal_tree.specs.declared.def.VariableDef.{VariableDef}
use Rattle.bal_tree.specs.declared.package.Package.{Package}
use Rattle.checks.specs.Checks.{Gives, gives_some, ◌▷◌}
use Rattle.descriptors.specs.Described.{Atoms, IsRewritten}
use Rattle.descriptors.specs.Naming.{entry_in}
use Rattle.descriptors.specs.Steps.{AreNames, MeaningBelow}
use Rattle.descriptors.specs.declared.names.Entry.{Entry}
use Rattle.descriptors.specs.declared.names.Meaning.TheVariants.{Constant, Function, TypeName, Variable}
use Rattle.descriptors.specs.declared.names.Meaning.{Meaning}
use Rattle.descriptors.specs.declared.names.Names.{Names}
use Rattle.descriptors.specs.declared.names.OwnTypes.{OwnTypes}
use Rattle.descriptors.specs.declared.names.Scope.{Scope}
use Rattle.descriptors.specs.declared.names.Signature.{Signature}
use Rattle.name_resolution.specs.Definitions.{Placed, defines, definitions_of, functions_in, name_of, scope_at, variables_in}
use Rattle.type_builder.specs.Building.{AreNamesOf, first_entry}
use Rattle.type_builder.specs.Meanings.{IfRewritten, at_the_end, entries, meaning_by, numbered}
use Rattle.operations.specs.Structures.{IsListAtom}
use Rattle.type_model.proofs.Kept.{KeepsTypes-append}
use Rattle.type_model.specs.Defined.{DefBelow, IsEnv, TyBelow}
use Rattle.type_model.specs.Inclusion.{Sub}
use Rattle.type_model.specs.Places.{is_same_text}
use Rattle.type_model.specs.declared.atoms.AtomDef.TheVariants.{List as ListAtom}
use Rattle.typed_needs.specs.Placing.{AreRestLists}
use Rattle.type_model.specs.declared.basic.Ty.{Ty}
use Rattle.typed_packages.proofs.Tracking.{functions-append, variables-append}
use Rattle.typed_packages.specs.Naming.{function_of, functions_among, variable_of, variables_among}
use Rattle.built_names.specs.Leading.{BuiltNamesLead, BuiltRestsAreLists}

-- ---- what a definition means

-- what takes the rest of a function's arguments, as its lists have it
record HasRest (final : Atoms) (s : Signature) : Type 0 where
  pub rest : Option Ty
  pub others : Option Ty
  pub same : IfRewritten final rest others
  pub own : IfRewritten final rest s.rest
  pub there : slice_get final s.lists ≡ Some (ListAtom [] others)

abbrev MeaningOf : Atoms → ℕ → Def → Meaning → Type 0
MeaningOf final before (TypeOf d) m = (t : Ty) × (m ≡ TypeName t)
MeaningOf final before (Const d) m = (t : Ty) × (m ≡ Constant t)
MeaningOf final before (VariableOf d) m = (t : Ty) × (m ≡ Variable before d.is_final t)
MeaningOf final before (FunctionOf d) m = (s : Signature) × (m ≡ Function s) × HasRest final s

module _ (final : Atoms) (names : Names) where
  meaning-of : (scope : Scope) (k v : ℕ) (d : Def) (next : ℕ) (m : Meaning) (after : ℕ)
      → meaning_by (numbered final names) (at_the_end final names) names scope (record { functions = k; variables = v }) d next (Gives m) after → MeaningOf final v d m
  unfolding ◌▷◌ gives_some numbered
  meaning-of scope k v (TypeOf d) next m after (t, a, x, (u, b, y, (is, e))) = (u, is)
  meaning-of scope k v (Const d) next m after (t, a, x, (is, e)) = (_, is)
  meaning-of scope k v (VariableOf d) next m after (t, a, x, (u, b, y, (is, e))) = (u, is)
  meaning-of scope k v (FunctionOf d) next m after
      (s, a, (fixed, a1, x1, (rest, a2, x2, (result, a3, x3, (atoms, b, (args, c1, y1, (arrow, c2, y2, (others, c3, (same, e3), (lists, c4, (number, c5, there), (given, c6, y3, (future, c7, y4, (made, e4))))))), (signed, e5))))), (is, e)) = (
        s,
        is,
        record {
          rest = rest;
          others = others;
          same = same;
          own = signed.rest_is;
          there = ap (λ k. slice_get final k) (signed.lists_is ∙ ap (λ v. v.lists) made ∙ number) ∙ there;
        },
      )

  -- each entry means what its definition does, one behind another
  abbrev AreOf : ℕ → List Placed → List Entry → Type 0
  AreOf before [] [] = Unit {0}
  AreOf before [] (e ∷ es) = ⊥
  AreOf before (x ∷ xs) [] = ⊥
  AreOf before (x ∷ xs) (e ∷ es) = MeaningOf final before x.def e.meaning × AreOf (before + variables_in x.def) xs es

  entries-of : (k v : ℕ) (xs : List Placed) (next : ℕ) (es : List Entry) (after : ℕ) → entries final names (record { functions = k; variables = v }) xs next (Gives es) after → AreOf v xs es
  unfolding ◌▷◌ gives_some
  entries-of k v [] next es after (is, e) = subst (AreOf v []) (sym is) tt
  entries-of k v (x ∷ xs) next es after (e, a, (m, b, met, (made, e1)), (more, c, rest, (is, e2))) =
      let first : MeaningOf final v x.def m = meaning-of (scope_at x) k v x.def next m b met in
      let here : MeaningOf final v x.def e.meaning = subst (MeaningOf final v x.def) (sym (ap (λ (y : Entry). y.meaning) made)) first in
      subst (AreOf v (x ∷ xs)) (sym is) (here, entries-of (k + functions_in x.def) (v + variables_in x.def) xs a more c rest)

-- ---- the definition of an entry

both-true : (a b : Bool) → (a && b) ≡ true → (a ≡ true) × (b ≡ true)
both-true true true e = (refl, refl)
both-true true false e = absurd (let bad : ⊥ = cc in bad)
both-true false b e = absurd (let bad : ⊥ = cc in bad)

-- so many variables come before it
record IsOf (final : Atoms) (before : ℕ) (m : ℕ) (name : Name) (xs : List Placed) (e : Entry) : Type 0 where
  pub front : List Placed
  pub this : Placed
  pub back : List Placed
  pub is : xs ≡ front ++ this ∷ back
  pub home : m ≡ this.«module»
  pub named : name ≡ name_of this.def
  pub earlier : ℕ
  pub many : earlier ≡ before + length (variables_among front)
  pub means : MeaningOf final earlier this.def e.meaning

many-variables : (m : ℕ) (d : Def) → length (variable_of m d) ≡ variables_in d
many-variables m (TypeOf d) = refl
many-variables m (Const d) = refl
many-variables m (VariableOf d) = refl
many-variables m (FunctionOf d) = refl

module _ (final : Atoms) (names : Names) (m : ℕ) (name : Name) where
  located : (before : ℕ) (xs : List Placed) (es : List Entry) (e : Entry) → AreOf final names before xs es → first_entry m name xs es ≡ Some e → IsOf final before m name xs e
  located before [] es e h found = absurd (let bad : ⊥ = cc in bad)
  located before (x ∷ xs) [] e h found = absurd h
  located before (x ∷ xs) (f ∷ es) e h found = by (defines m name x) refl (λ later. located (before + variables_in x.def) xs es e h.1 later)
    where
      by : (b : Bool) → defines m name x ≡ b → (first_entry m name xs es ≡ Some e → IsOf final (before + variables_in x.def) m name xs e) → IsOf final before m name (x ∷ xs) e
      by true is behind =
          let (one, two) = both-true (m == x.«module») (is_same_text name (name_of x.def)) is in
          let same : f ≡ e = cc in
          record {
            front = [];
            this = x;
            back = xs;
            is = refl;
            home = eqb-true m x.«module» one;
            named = (bytes_decides name (name_of x.def)).0 two;
            earlier = before;
            many = omega arith;
            means = subst (λ (y : Entry). MeaningOf final before x.def y.meaning) same h.0;
          }
      by false is behind =
          let rest : first_entry m name xs es ≡ Some e = cc in
          let r = behind rest in
          let counted = many-variables x.«module» x.def in
          let both = length-append (variable_of x.«module» x.def) (variables_among r.front) in
          let all = r.many in
          record {
            front = x ∷ r.front;
            this = r.this;
            back = r.back;
            is = ap (λ l. x ∷ l) r.is;
            home = r.home;
            named = r.named;
            earlier = r.earlier;
            many = omega (arith, counted, both, all);
            means = r.means;
          }

get-behind : {A : Type 0} (xs : List A) (x : A) (ys : List A) → slice_get (xs ++ x ∷ ys) (length xs) ≡ Some x
get-behind [] x ys = refl
get-behind (z ∷ xs) x ys = get-behind xs x ys

-- ---- names that are built

module _ (p : Package) (own : OwnTypes) (old group : Atoms) (names : Names) (are : AreNamesOf p own old group names) where
  abbrev defs : List Placed
  defs = definitions_of p

  all-of : AreOf (old ++ group) names 0 defs are.es
  all-of = entries-of (old ++ group) names 0 0 defs (length old) are.es (length old + length group) are.defined

  is-of : (m : ℕ) (name : Name) (e : Entry) → entry_in names name m ≡ Some e → IsOf (old ++ group) 0 m name defs e
  is-of m name e there = located (old ++ group) names m name 0 defs are.es e all-of (sym (are.named m name) ∙ there)

  -- under its own name in its own module stands the same entry
  own-entry : (m : ℕ) (name : Name) (e : Entry) (there : entry_in names name m ≡ Some e) → (i : IsOf (old ++ group) 0 m name defs e) → entry_in names (name_of i.this.def) i.this.«module» ≡ Some e
  own-entry m name e there i = subst (λ n. entry_in names n i.this.«module» ≡ Some e) i.named (subst (λ k. entry_in names name k ≡ Some e) i.home there)

  variable-at : (m : ℕ) (name : Name) (e : Entry) (number : ℕ) (final : Bool) (t : Ty) → entry_in names name m ≡ Some e → e.meaning ≡ Variable number final t
      → (x : ℕ × VariableDef) × (slice_get (variables_among defs) number ≡ Some x) × (entry_in names x.1.name.name x.0 ≡ Some e)
  variable-at m name e number final t there means =
      let i = is-of m name e there in
      by i i.this.def refl i.means
    where
      by : (i : IsOf (old ++ group) 0 m name defs e) (d : Def) → i.this.def ≡ d → MeaningOf (old ++ group) i.earlier d e.meaning
          → (x : ℕ × VariableDef) × (slice_get (variables_among defs) number ≡ Some x) × (entry_in names x.1.name.name x.0 ≡ Some e)
      by i (TypeOf d) is (u, meaning) = absurd (let bad : ⊥ = cc in bad)
      by i (Const d) is (u, meaning) = absurd (let bad : ⊥ = cc in bad)
      by i (FunctionOf d) is (s, meaning, rest) = absurd (let bad : ⊥ = cc in bad)
      by i (VariableOf d) is (u, meaning) =
          let at : number ≡ i.earlier = cc in
          let here : number ≡ length (variables_among i.front) = (let many = i.many in omega (arith, at, many)) in
          let parts : variables_among defs ≡ variables_among i.front ++ (variable_of i.this.«module» i.this.def ++ variables_among i.back) =
          ap variables_among i.is ∙ variables-append i.front (i.this ∷ i.back) in
          let all : variables_among defs ≡ variables_among i.front ++ (i.this.«module», d) ∷ variables_among i.back =
          parts ∙ ap (λ x. variables_among i.front ++ (variable_of i.this.«module» x ++ variables_among i.back)) is in
          let x : ℕ × VariableDef = (i.this.«module», d) in
          let there-it-is : slice_get (variables_among defs) number ≡ Some x =
          ap (λ l. slice_get l number) all ∙ ap (λ k. slice_get (variables_among i.front ++ x ∷ variables_among i.back) k) here ∙ get-behind (variables_among i.front) x (variables_among i.back) in
          let entry : entry_in names d.name.name i.this.«module» ≡ Some e = subst (λ y. entry_in names (name_of y) i.this.«module» ≡ Some e) is (own-entry m name e there i) in
          (x, there-it-is, entry)

  function-at : (m : ℕ) (name : Name) (e : Entry) (f : Signature) → entry_in names name m ≡ Some e → e.meaning ≡ Function f
      → (k : ℕ) × (x : ℕ × FunctionDef) × (slice_get (functions_among defs) k ≡ Some x) × (entry_in names x.1.name.name x.0 ≡ Some e)
  function-at m name e f there means =
      let i = is-of m name e there in
      by i i.this.def refl i.means
    where
      by : (i : IsOf (old ++ group) 0 m name defs e) (d : Def) → i.this.def ≡ d → MeaningOf (old ++ group) i.earlier d e.meaning
          → (k : ℕ) × (x : ℕ × FunctionDef) × (slice_get (functions_among defs) k ≡ Some x) × (entry_in names x.1.name.name x.0 ≡ Some e)
      by i (TypeOf d) is (u, meaning) = absurd (let bad : ⊥ = cc in bad)
      by i (Const d) is (u, meaning) = absurd (let bad : ⊥ = cc in bad)
      by i (VariableOf d) is (s, meaning) = absurd (let bad : ⊥ = cc in bad)
      by i (FunctionOf d) is (s, meaning, rest) =
          let parts : functions_among defs ≡ functions_among i.front ++ (function_of i.this.«module» i.this.def ++ functions_among i.back) =
          ap functions_among i.is ∙ functions-append i.front (i.this ∷ i.back) in
          let all : functions_among defs ≡ functions_among i.front ++ (i.this.«module», d) ∷ functions_among i.back =
          parts ∙ ap (λ x. functions_among i.front ++ (function_of i.this.«module» x ++ functions_among i.back)) is in
          let x : ℕ × FunctionDef = (i.this.«module», d) in
          let k : ℕ = length (functions_among i.front) in
          let there-it-is : slice_get (functions_among defs) k ≡ Some x = ap (λ l. slice_get l k) all ∙ get-behind (functions_among i.front) x (functions_among i.back) in
          let entry : entry_in names d.name.name i.this.«module» ≡ Some e = subst (λ y. entry_in names (name_of y) i.this.«module» ≡ Some e) is (own-entry m name e there i) in
          (k, x, there-it-is, entry)

-- ---- what takes the rest of the arguments

-- types of the same one are of the same shapes, also over atoms that come later
same-shapes : (final more : Atoms) → IsEnv final → (r t u : Ty) → IsRewritten r final t → IsRewritten r final u → TyBelow (length final) t → TyBelow (length final) u
    → Sub (final ++ more) t.sem u.sem
same-shapes final more is_env r t u ht hu below_t below_u x valid i =
    let keeps = KeepsTypes-append final more is_env in
    (keeps.shapes u.sem below_u.0 x).0 ((hu.shapes x valid).1 ((ht.shapes x valid).0 ((keeps.shapes t.sem below_t.0 x).1 i)))

list-there : (env : Atoms) (atom : ℕ) (P : List Ty → Option Ty → Type 0) (fixed : List Ty) (rest : Option Ty) → slice_get env atom ≡ Some (ListAtom fixed rest) → P fixed rest
    → IsListAtom env atom P
list-there env atom P fixed rest e p = rw e p

get-in-front : {A : Type 0} (xs ys : List A) (k : ℕ) (x : A) → slice_get xs k ≡ Some x → slice_get (xs ++ ys) k ≡ Some x
get-in-front [] ys k x e = absurd (let bad : ⊥ = cc in bad)
get-in-front (a ∷ xs) ys zero x e = e
get-in-front (a ∷ xs) ys (suc k) x e = get-in-front xs ys k x e

all-at : {A : Type 0} (Q : A → Type 0) (xs : List A) (k : ℕ) (x : A) → All Q xs → slice_get xs k ≡ Some x → Q x
all-at Q [] k x h e = absurd (let bad : ⊥ = cc in bad)
all-at Q (a ∷ xs) zero x h e = (let same : a ≡ x = cc in subst Q same (All-head Q a xs h))
all-at Q (a ∷ xs) (suc k) x h e = all-at Q xs k x (All-tail Q a xs h) e

rests-so : (final more : Atoms) → IsEnv final → (atom : ℕ) (r s others : Option Ty) → IfRewritten final r others → IfRewritten final r s → IfSome s (TyBelow (length final))
    → slice_get final atom ≡ Some (ListAtom [] others) → AreRestLists (final ++ more) s atom
rests-so final more is_env atom r None others same own below there = tt
rests-so final more is_env atom None (Some t) others same own below there = absurd own
rests-so final more is_env atom (Some r) (Some t) None same own below there = absurd same
rests-so final more is_env atom (Some r) (Some t) (Some u) same own below there =
    let closed : DefBelow (length final) (ListAtom [] (Some u)) = all-at (DefBelow (length final)) final atom (ListAtom [] (Some u)) is_env.closed there in
    list-there (final ++ more) atom _ [] (Some u) (get-in-front final more atom (ListAtom [] (Some u)) there)
    (refl, same-shapes final more is_env r t u own same below closed.1)

module _ (p : Package) (own : OwnTypes) (old group more : Atoms) (names : Names) (are : AreNamesOf p own old group names) (defined : AreNames (old ++ group) names)
    (is_env : IsEnv (old ++ group)) where
  rest-at : (m : ℕ) (name : Name) (e : Entry) (f : Signature) → entry_in names name m ≡ Some e → e.meaning ≡ Function f → AreRestLists ((old ++ group) ++ more) f.rest f.lists
  rest-at m name e f there means =
      let i = is-of p own old group names are m name e there in
      by i.earlier i.this.def i.means
    where
      by : (before : ℕ) (d : Def) → MeaningOf (old ++ group) before d e.meaning → AreRestLists ((old ++ group) ++ more) f.rest f.lists
      by before (TypeOf d) (u, meaning) = absurd (let bad : ⊥ = cc in bad)
      by before (Const d) (u, meaning) = absurd (let bad : ⊥ = cc in bad)
      by before (VariableOf d) (u, meaning) = absurd (let bad : ⊥ = cc in bad)
      by before (FunctionOf d) (s, meaning, rest) =
          let same : s ≡ f = cc in
          let h : HasRest (old ++ group) f = subst (HasRest (old ++ group)) same rest in
          let below : MeaningBelow (length (old ++ group)) (Function f) = subst (MeaningBelow (length (old ++ group))) means (defined.meanings m name e there) in
          rests-so (old ++ group) more is_env f.lists h.rest f.rest h.others h.same h.own below.1 h.there

pub built-rests-are-lists : BuiltRestsAreLists
built-rests-are-lists p own old group more names are defined is_env m name e f there means = rest-at p own old group more names are defined is_env m name e f there means

pub built-names-lead : BuiltNamesLead
built-names-lead p own old group names are =
    record {
      variables = λ m name e number final t there means. variable-at p own old group names are m name e number final t there means;
      functions = λ m name e f there means. function-at p own old group names are m name e f there means;
    }
