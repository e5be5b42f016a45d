-- Each definition of a package whose names are without fault: what is so of its names, and that it is the first of its name.
use Rattle.std.proofs.Common.{◌≡◌, ◌==◌, ℕ, zero, suc, ◌+◌, ◌-◌, ◌<◌, ◌⊎◌, inl, inr, Bool, true, false, List, [], ◌∷◌, length, get_or, map, fold, refl, sym, ap, subst, ◌∙◌, arith, Option, None, Some, IfSome, Result, Ok, Err, cond, All}
use Rattle.std.specs.Prelude.{slice_get}
use Rattle.std.specs.List.{AllPairs, Contains, flat_map, position_from}
use Rattle.std.specs.Option.{option_map, option_or}
use Rattle.std.proofs.lemmas.Bool.Decides.{eqb_tells}
use Rattle.std.proofs.lemmas.List.Elements.{All-cons, All-nil, Contains-append_cases, Contains-append_left, Contains-append_right, Contains-push}
use Rattle.std.proofs.lemmas.Option.{get_or_from_slice_get, slice_get-get_or, slice_get-map}
use Rattle.bal_base.specs.declared.fault.Fault.{Fault}
use Rattle.bal_base.specs.declared.fault.FaultCode.{FaultCode}
use Rattle.bal_base.specs.declared.fault.FaultCode.TheVariants.{Duplicate}
use Rattle.bal_base.specs.declared.place.Place.{Place}
use Rattle.bal_base.specs.declared.text.Name.{Name}
use Rattle.bal_tree.specs.declared.def.Def.{Def}
use Rattle.bal_tree.specs.declared.def.Def.TheVariants.{«Type» as TypeOf, Const, Variable as VariableOf, Function as FunctionOf}
use Rattle.bal_tree.specs.declared.def.FunctionDef.{FunctionDef}
use Rattle.bal_tree.specs.declared.name.QualifiedName.{QualifiedName}
use Rattle.bal_tree.specs.declared.package.Package.{Package}
use Rattle.bal_tree.specs.declared.params.Param.{Param}
use Rattle.descriptors.specs.declared.names.Source.{Source}
use Rattle.descriptors.specs.Descriptors.{descriptor_of, descriptor_if}
use Rattle.graphs.specs.Cycles.{Follows}
use Rattle.name_resolution.specs.Definitions.{Placed, defines as defines_at, definitions_of, name_of, placed}
use Rattle.name_resolution.specs.Faults.{AreNamed}
use Rattle.name_resolution.specs.Mentions.{home_of, mentioned, mentioned_if, use_of}
use Rattle.name_resolution.specs.Named.{HasClearSignature, IsClearDef, IsClearParam, IsKnown, IsKnownPart, IsNamed, source_at}
use Rattle.name_resolution.specs.Outlines.{outlines_of, param_mentions, rest_mentions}
use Rattle.name_resolution.specs.Resolved.{defines, fault_at, fault_of, first_defined, first_fault, if_wrong, if_stands, part, parts, parts_of, resolved, unless_first}
use Rattle.name_resolution.specs.declared.mentions.Mention.{Mention}
use Rattle.name_resolution.specs.declared.mentions.Mention.TheVariants.{Again, Own}
use Rattle.name_resolution.specs.declared.outlines.Outline.{Outline}
use Rattle.name_resolution.proofs.Clearing.{clear, if-clear, if-keeps, keeps}
use Rattle.graphs.proofs.Noting.{none-among, none-some, some-same}
use Rattle.name_resolution.proofs.Placed.{outline_at, outlines-placed}

-- what is wrong with a name, where nothing is
stands : (at : Place) (r : Result ℕ FaultCode) → if_wrong at r ≡ None → (k : ℕ) × (r ≡ Ok k)
stands at (Ok k) h = (k, refl)
stands at (Err code) h = absurd (none-some (sym h))

is-first : (n : ℕ) (at : Place) (found : Option ℕ) → unless_first n at found ≡ None → found ≡ Some n
is-first n at None h = absurd (none-some (sym h))
is-first n at (Some m) h = by (eqb_tells n m)
  where
    by : ((n == m ≡ true) × (n ≡ m)) ⊎ ((n == m ≡ false) × (n ≡ m → ⊥)) → Some m ≡ Some n
    by (inl e) = ap Some (sym e.1)
    by (inr e) = absurd (none-some (sym (sym (ap (λ b. cond b None (Some (fault_at Duplicate at))) e.0) ∙ h)))

pub either-none : (a b : Option Fault) → option_or a b ≡ None → (a ≡ None) × (b ≡ None)
either-none None b h = (refl, h)
either-none (Some f) b h = absurd (none-some (sym h))

-- a member is the first one or one of the others
pub one-of : {X : Type 0} (y : X) (ys : List X) (x : X) (Q : Type 0) → Contains (y ∷ ys) x → (y ≡ x → Q) → (Contains ys x → Q) → Q
one-of y ys x Q c first others = by (Contains-append_cases (y ∷ []) ys x c)
  where
    by : Contains (y ∷ []) x ⊎ Contains ys x → Q
    by (inl (zero, lt, e)) = first e
    by (inl (suc k, lt, e)) = absurd (omega (arith, lt))
    by (inr m) = others m

-- no mention has a fault where there is no first one
no-fault : (outlines : List Outline) (n : ℕ) (d : Outline) (ms : List Mention) → first_fault outlines n d ms ≡ None → (x : Mention) → Contains ms x → fault_of outlines n d x ≡ None
no-fault outlines n d [] h x c = absurd (none-among x c)
no-fault outlines n d (m ∷ ms) h x c =
    let both = either-none (fault_of outlines n d m) (first_fault outlines n d ms) h in
    one-of m ms x (fault_of outlines n d x ≡ None) c (λ e. subst (λ y. fault_of outlines n d y ≡ None) e both.0) (no-fault outlines n d ms both.1 x)

in-flat_map : {X : Type 0} (f : X → List ℕ) (xs : List X) (x : X) (k : ℕ) → Contains xs x → Contains (f x) k → Contains (flat_map f xs) k
in-flat_map f [] x k c m = absurd (none-among x c)
in-flat_map f (y ∷ ys) x k c m =
    one-of y ys x (Contains (flat_map f (y ∷ ys)) k) c (λ e. Contains-append_left (f y) (flat_map f ys) k (subst (λ z. Contains (f z) k) (sym e) m))
    (λ c. Contains-append_right (f y) (flat_map f ys) k (in-flat_map f ys x k c m))

-- ---- parameters

module _ («module» : ℕ) (source : Name → Option Source) where
  abbrev folded : List Mention → List Param → List Mention
  folded = fold (param_mentions «module» source)

  params-keep : (ps : List Param) (before : List Mention) (x : Mention) → Contains before x → Contains (folded before ps) x
  params-keep [] before x c = c
  params-keep (q ∷ ps) before x c = params-keep ps (param_mentions «module» source before q) x (keeps «module» source false (descriptor_of q.ty.value) before x c)

  rest-keeps : (rest : Option Param) (before : List Mention) (x : Mention) → Contains before x → Contains (rest_mentions «module» source rest before) x
  rest-keeps None before x c = c
  rest-keeps (Some q) before x c = keeps «module» source false (descriptor_of q.ty.value) before x c

  module _ (Fine : Mention → Type 0) (Holds : Bool → QualifiedName → Type 0) (holds : (inside : Bool) (name : QualifiedName) → Fine (use_of «module» source inside name) → Holds inside name)
      (apart : (at : Place) → Fine (Again at) → ⊥) where
    params-clear : (ps : List Param) (before : List Mention) → ((x : Mention) → Contains (folded before ps) x → Fine x) → All (IsClearParam Holds) ps
    params-clear [] before f = All-nil (IsClearParam Holds)
    params-clear (q ∷ ps) before f =
        let next = param_mentions «module» source before q in
        All-cons (IsClearParam Holds) q ps (clear «module» source Fine Holds holds apart false (descriptor_of q.ty.value) before (λ x c. f x (params-keep ps next x c))) (params-clear ps next f)

    rest-clear : (rest : Option Param) (before : List Mention) → ((x : Mention) → Contains (rest_mentions «module» source rest before) x → Fine x) → IfSome rest (IsClearParam Holds)
    rest-clear None before f = tt
    rest-clear (Some q) before f = clear «module» source Fine Holds holds apart false (descriptor_of q.ty.value) before f

    signature-clear : (d : FunctionDef) (before : List Mention)
        → ((x : Mention) → Contains (mentioned_if «module» source false (descriptor_if d.result) (rest_mentions «module» source d.params.rest (folded before d.params.params.items))) x → Fine x)
        → HasClearSignature Holds d
    signature-clear d before f =
        let params = folded before d.params.params.items in
        let both = rest_mentions «module» source d.params.rest params in
        let result = if-keeps «module» source false (descriptor_if d.result) both in
        record {
          params = params-clear d.params.params.items before (λ x c. f x (result x (rest-keeps d.params.rest params x c)));
          rest = rest-clear d.params.rest params (λ x c. f x (result x c));
          result = if-clear «module» source Fine Holds holds apart false (descriptor_if d.result) both f;
        }

-- ---- one definition

module _ (p : Package) (named : AreNamed (outlines_of p)) (n : ℕ) where
  abbrev all : List Outline
  all = outlines_of p

  -- what is so of what a definition mentions
  abbrev Fine : Outline → Mention → Type 0
  Fine d x = Contains d.mentions x × (fault_of all n d x ≡ None)

  apart : (d : Outline) (at : Place) → Fine d (Again at) → ⊥
  apart d at f = none-some (sym f.1)

  is-known : (d : Outline) (source : Name → Option Source) (inside : Bool) (name : QualifiedName) → Fine d (use_of d.«module» source inside name)
      → (k : ℕ) × (resolved all d.«module» (home_of d.«module» source name.prefix) name.word.name ≡ Ok k)
  is-known d source inside name f = stands name.at (resolved all d.«module» (home_of d.«module» source name.prefix) name.word.name) f.1

  -- of what a type mentions outside it is put together
  is-part : (d : Outline) (source : Name → Option Source) (inside : Bool) (name : QualifiedName) → slice_get all n ≡ Some d → parts_of all d ≡ flat_map (part all d.«module») d.mentions
      → Contains d.mentions (use_of d.«module» source inside name) → (k : ℕ) → resolved all d.«module» (home_of d.«module» source name.prefix) name.word.name ≡ Ok k
      → inside ≡ false → Follows (parts all) n k
  is-part d source inside name is type_is c k e outside =
      subst (λ xs. Contains xs k) (sym (get_or_from_slice_get (parts all) n (parts_of all d) [] (slice_get-map (parts_of all) all n ∙ ap (option_map (parts_of all)) is) ∙ type_is))
      (in-flat_map (part all d.«module») d.mentions (use_of d.«module» source inside name) k c
      (subst (λ b. Contains (part all d.«module» (use_of d.«module» source b name)) k) (sym outside) (subst (λ r. Contains (if_stands r) k) (sym e) (Contains-push [] k))))

  module _ (m file : ℕ) where
    abbrev at_file : Def → Outline
    at_file def = outline_at p (placed m file def)

    abbrev source : Def → Name → Option Source
    source def = source_at p (placed m file def)

    module _ (def : Def) (is : slice_get (definitions_of p) n ≡ Some (placed m file def)) where
      there : slice_get all n ≡ Some (at_file def)
      there = ap (λ xs. slice_get xs n) (outlines-placed p) ∙ slice_get-map (outline_at p) (definitions_of p) n ∙ ap (option_map (outline_at p)) is

      fine : (x : Mention) → Contains (at_file def).mentions x → Fine (at_file def) x
      fine x c = (c, no-fault all n (at_file def) (at_file def).mentions (named.faultless n (at_file def) there) x c)

    clear-def : (def : Def) → slice_get (definitions_of p) n ≡ Some (placed m file def) → IsClearDef p n (placed m file def) def
    clear-def (TypeOf t) is =
        let d = at_file (TypeOf t) in
        let s = source (TypeOf t) in
        clear m s (Fine d) (IsKnownPart p n (placed m file (TypeOf t)))
        (λ inside name f. let k = is-known d s inside name f in (k.0, k.1, is-part d s inside name (there (TypeOf t) is) refl f.0 k.0 k.1))
        (apart d) false (descriptor_of t.ty.value) (Own t.name.at ∷ []) (fine (TypeOf t) is)
    clear-def (Const t) is =
        let d = at_file (Const t) in
        let s = source (Const t) in
        if-clear m s (Fine d) (IsKnown p (placed m file (Const t))) (is-known d s) (apart d) false (descriptor_if t.ty) []
        (λ x c. fine (Const t) is x (Contains-append_left (mentioned_if m s false (descriptor_if t.ty) []) (Own t.name.at ∷ []) x c))
    clear-def (VariableOf t) is =
        let d = at_file (VariableOf t) in
        let s = source (VariableOf t) in
        clear m s (Fine d) (IsKnown p (placed m file (VariableOf t))) (is-known d s) (apart d) false (descriptor_of t.ty.value) []
        (λ x c. fine (VariableOf t) is x (Contains-append_left (mentioned m s false (descriptor_of t.ty.value) []) (Own t.name.at ∷ []) x c))
    clear-def (FunctionOf t) is =
        let d = at_file (FunctionOf t) in
        let s = source (FunctionOf t) in
        signature-clear m s (Fine d) (IsKnown p (placed m file (FunctionOf t))) (is-known d s) (apart d) t (Own t.name.at ∷ []) (fine (FunctionOf t) is)

    own-name : (def : Def) → slice_get (definitions_of p) n ≡ Some (placed m file def) → first_defined all m (name_of def) ≡ Some n
    own-name (TypeOf t) is =
        is-first n t.name.at (first_defined all m t.name.name)
        (fine (TypeOf t) is (Own t.name.at) (keeps m (source (TypeOf t)) false (descriptor_of t.ty.value) (Own t.name.at ∷ []) (Own t.name.at) (Contains-push [] (Own t.name.at)))).1
    own-name (Const t) is =
        is-first n t.name.at (first_defined all m t.name.name)
        (fine (Const t) is (Own t.name.at) (Contains-push (mentioned_if m (source (Const t)) false (descriptor_if t.ty) []) (Own t.name.at))).1
    own-name (VariableOf t) is =
        is-first n t.name.at (first_defined all m t.name.name)
        (fine (VariableOf t) is (Own t.name.at) (Contains-push (mentioned m (source (VariableOf t)) false (descriptor_of t.ty.value) []) (Own t.name.at))).1
    own-name (FunctionOf t) is =
        let s = source (FunctionOf t) in
        let first = Own t.name.at ∷ [] in
        let params = folded m s first t.params.params.items in
        is-first n t.name.at (first_defined all m t.name.name)
        (fine (FunctionOf t) is (Own t.name.at)
        (if-keeps m s false (descriptor_if t.result) (rest_mentions m s t.params.rest params) (Own t.name.at)
        (rest-keeps m s t.params.rest params (Own t.name.at) (params-keep m s t.params.params.items first (Own t.name.at) (Contains-push [] (Own t.name.at)))))).1

  pub known : (q : Placed) → slice_get (definitions_of p) n ≡ Some q → IsNamed p n q
  known q is = record { clear = clear-def q.«module» q.file q.def is; first = own-name q.«module» q.file q.def is }

-- ---- all of them

same-names : (p : Package) (m : ℕ) (name : Name) (q : Placed) → defines m name (outline_at p q) ≡ defines_at m name q
same-names p m name q = by q.«module» q.file q.def
  where
    by : (home file : ℕ) (def : Def) → defines m name (outline_at p (placed home file def)) ≡ defines_at m name (placed home file def)
    by home file (TypeOf t) = refl
    by home file (Const t) = refl
    by home file (VariableOf t) = refl
    by home file (FunctionOf t) = refl

same-position : {A B : Type 0} (f : A → B) (test : B → Bool) (other : A → Bool) → ((a : A) → test (f a) ≡ other a) → (first : ℕ) (xs : List A) → position_from test first (map f xs) ≡ position_from other first xs
same-position f test other same first [] = refl
same-position f test other same first (x ∷ xs) =
    ap (λ b. cond b (Some first) (position_from test (first + 1) (map f xs))) (same x) ∙ ap (cond (other x) (Some first)) (same-position f test other same (first + 1) xs)

-- the first of a name is the same by definitions
pub first-placed : (p : Package) (m : ℕ) (name : Name) → first_defined (outlines_of p) m name ≡ position_from (defines_at m name) 0 (definitions_of p)
first-placed p m name = ap (position_from (defines m name) 0) (outlines-placed p) ∙ same-position (outline_at p) (defines m name) (defines_at m name) (same-names p m name) 0 (definitions_of p)

-- none before the first one passes
none-before : {X : Type 0} (test : X → Bool) (first : ℕ) (xs : List X) (i n : ℕ) (d : X) → position_from test first xs ≡ Some (n + first) → i < n → i < length xs → test (get_or xs i d) ≡ false
none-before test first [] i n d h lt small = absurd (omega (arith, small))
none-before test first (x ∷ xs) i n d h lt small = by i lt small (test x) refl h (λ j. none-before test (first + 1) xs j (n - 1) d)
  where
    by : (i : ℕ) → i < n → i < length (x ∷ xs) → (b : Bool) → test x ≡ b → cond b (Some first) (position_from test (first + 1) xs) ≡ Some (n + first)
        → ((j : ℕ) → position_from test (first + 1) xs ≡ Some (n - 1 + (first + 1)) → j < n - 1 → j < length xs → test (get_or xs j d) ≡ false) → test (get_or (x ∷ xs) i d) ≡ false
    by i lt small true e h rest = absurd (let same = some-same h in omega (arith, same, lt))
    by zero lt small false e h rest = e
    by (suc j) lt small false e h rest = rest j (h ∙ ap Some (omega (arith, lt))) (omega (arith, lt)) (omega (arith, small))

-- no definition before another one gives its name in its module
pub apart-placed : (p : Package) → AreNamed (outlines_of p) → AllPairs (λ q r. defines_at r.«module» (name_of r.def) q ≡ false) (definitions_of p)
apart-placed p named i j d lt small =
    let ps = definitions_of p in
    let r = get_or ps j d in
    let is = known p named j r (slice_get-get_or ps j d small) in
    none-before (defines_at r.«module» (name_of r.def)) 0 ps i j d (sym (first-placed p r.«module» (name_of r.def)) ∙ is.first ∙ ap Some (omega arith)) lt (omega (arith, lt, small))
