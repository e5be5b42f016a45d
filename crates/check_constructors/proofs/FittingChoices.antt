-- Which choices fit, step by step.
use Rattle.std.proofs.Common.{◌≡◌, ◌↔◌, ◌+◌, ◌<◌, ◌≤◌, ◌∙◌, ◌⊎◌, inl, inr, ℕ, zero, suc, Bool, true, false, IsTrue, List, [], ◌∷◌, All, Any, Option, Some, None, get_or, length, map, option_map, slice_get, refl, sym, subst, ap, arith}
use Rattle.std.proofs.lemmas.Bool.{cases_lt, false≢true}
use Rattle.std.proofs.lemmas.List.{length-map}
use Rattle.std.specs.Cmp.Lexicographic.{bytes_decides}
use Rattle.std.specs.List.{list_any}
use Rattle.std.proofs.lemmas.List.Folds.{Any-from_list_any, list_any-from_Any}
use Rattle.std.proofs.lemmas.List.Elements.{All-cons, All-head, All-map, All-nil, All-tail}
use Rattle.std.proofs.lemmas.Option.{slice_get-map}
use Rattle.bal_base.specs.declared.text.Text.{Text}
use Rattle.bal_tree.specs.declared.name.Literal.{Literal}
use Rattle.type_model.specs.declared.atoms.AtomDef.{AtomDef}
use Rattle.type_model.specs.declared.atoms.AtomDef.TheVariants.{List as ListAtom, Mapping as MappingAtom, Arrow, Error as ErrorAtom, Future as FutureAtom}
use Rattle.type_model.specs.declared.atoms.FieldDef.{FieldDef}
use Rattle.type_model.specs.declared.basic.Choice.{Choice}
use Rattle.type_model.specs.declared.basic.Ty.{Ty}
use Rattle.type_model.specs.Places.{is_same_text}
use Rattle.type_model.proofs.Same.{itself}
use Rattle.expr_needs.specs.Needs.{MemberSeen}
use Rattle.check_words.specs.Constructors.{KeyFits, ListFits, LiteralsFit, MappingFits, MemberFits, is_key, literal_fits, member_type}
use Rattle.check_words.specs.Words.{Atoms}
use Rattle.check_constructors.specs.Fitting.{FitsAt, IsListFor, IsMappingFor}

-- ---- the atom of a choice

module _ (env : Atoms) (items : List (Option Literal)) (c : Choice) where
  pub list-there : (def : AtomDef) → slice_get env c.atom ≡ Some def → IsListFor env items def ↔ ListFits items env c
  list-there (ListAtom fixed rest) e = rw e itself
  list-there (MappingAtom fields rest) e = rw e itself
  list-there (Arrow args outcome alone) e = rw e itself
  list-there (ErrorAtom detail) e = rw e itself
  list-there (FutureAtom outcome) e = rw e itself

  pub no-list : slice_get env c.atom ≡ None → ListFits items env c → ⊥
  no-list e h = rw e at h

module _ (env : Atoms) (members : List MemberSeen) (c : Choice) where
  pub mapping-there : (def : AtomDef) → slice_get env c.atom ≡ Some def → IsMappingFor env members def ↔ MappingFits members env c
  mapping-there (ListAtom fixed rest) e = rw e itself
  mapping-there (MappingAtom fields rest) e = rw e itself
  mapping-there (Arrow args outcome alone) e = rw e itself
  mapping-there (ErrorAtom detail) e = rw e itself
  mapping-there (FutureAtom outcome) e = rw e itself

  pub no-mapping : slice_get env c.atom ≡ None → MappingFits members env c → ⊥
  no-mapping e h = rw e at h

-- as the calls test it

pub same-then : {A B C : Type 0} → A ↔ B → B ↔ C → A ↔ C
same-then e f = (λ a. f.0 (e.0 a), λ c. e.1 (f.1 c))

not-so : {A : Type 0} → (A → ⊥) → IsTrue false ↔ A
not-so never = (λ h. absurd (false≢true h), λ a. absurd (never a))

module _ (env : Atoms) (c : Choice) where
  pub list-by : (items : List (Option Literal)) (def : AtomDef) (r : Bool) → slice_get env c.atom ≡ Some def → (IsTrue r ↔ IsListFor env items def) → IsTrue r ↔ ListFits items env c
  list-by items def r e h = same-then h (list-there env items c def e)

  pub list-absent : (items : List (Option Literal)) → slice_get env c.atom ≡ None → IsTrue false ↔ ListFits items env c
  list-absent items e = not-so (no-list env items c e)

  pub mapping-by : (members : List MemberSeen) (def : AtomDef) (r : Bool) → slice_get env c.atom ≡ Some def → (IsTrue r ↔ IsMappingFor env members def) → IsTrue r ↔ MappingFits members env c
  mapping-by members def r e h = same-then h (mapping-there env members c def e)

  pub mapping-absent : (members : List MemberSeen) → slice_get env c.atom ≡ None → IsTrue false ↔ MappingFits members env c
  mapping-absent members e = not-so (no-mapping env members c e)

-- ---- the parts of a member

module _ (env : Atoms) (r : Bool) where
  pub item-by : (v w : Option Literal) (t u : Option Ty) → v ≡ w → t ≡ u → (IsTrue r ↔ literal_fits env v t) → IsTrue r ↔ literal_fits env w u
  item-by v w t u e f h = subst (λ (o : Option Literal). IsTrue r ↔ literal_fits env o u) e (subst (λ (o : Option Ty). IsTrue r ↔ literal_fits env v o) f h)

  pub member-by : (fields : List FieldDef) (rest : Option Ty) (m : MemberSeen) (key : Option Text) (t : Option Ty) (v : Option Literal) → key ≡ m.key → t ≡ member_type fields rest key → v ≡ m.literal
      → (IsTrue r ↔ (KeyFits key t × literal_fits env v t)) → IsTrue r ↔ MemberFits env fields rest m
  member-by fields rest m key t v e f g h =
      subst (λ (k : Option Text). IsTrue r ↔ (KeyFits k (member_type fields rest k) × literal_fits env m.literal (member_type fields rest k))) e
      (subst (λ (o : Option Literal). IsTrue r ↔ (KeyFits key (member_type fields rest key) × literal_fits env o (member_type fields rest key))) g
      (subst (λ (o : Option Ty). IsTrue r ↔ (KeyFits key o × literal_fits env v o)) f h))

pub key-by : (seen : Option Text) (key name : Text) (r : Bool) → Some key ≡ seen → r ≡ is_same_text name key → r ≡ is_key name seen
key-by seen key name r e h = subst (λ (o : Option Text). r ≡ is_key name o) e h

pub no-key : (seen : Option Text) (name : Text) → None ≡ seen → false ≡ is_key name seen
no-key seen name e = subst (λ (o : Option Text). false ≡ is_key name o) e refl

key-named : (name : Text) (o : Option Text) → IsTrue (is_key name o) ↔ (o ≡ Some name)
key-named name None = not-so (λ (e : None ≡ Some name). absurd (cc))
key-named name (Some key) = (
  λ h. let same : name ≡ key = (bytes_decides name key).0 h in ap (λ (k : Text). Some k) (sym same),
  λ (e : Some key ≡ Some name). let same : name ≡ key = cc in (bytes_decides name key).1 same,
)

-- some has the key
module _ {X : Type 0} (name : Text) (key : X → Option Text) (xs : List X) where
  named-has : Any (λ x. is_key name (key x) ≡ true) xs → Any (λ x. key x ≡ Some name) xs
  named-has h = (h.0, h.1, h.2, h.3, (key-named name (key h.1)).0 h.4)

  has-named : Any (λ x. key x ≡ Some name) xs → Any (λ x. is_key name (key x) ≡ true) xs
  has-named h = (h.0, h.1, h.2, h.3, (key-named name (key h.1)).1 h.4)

  pub some-named : (r : Bool) → r ≡ list_any (λ x. is_key name (key x)) xs → IsTrue r ↔ Any (λ x. key x ≡ Some name) xs
  some-named r e =
      (λ h. named-has (Any-from_list_any (λ x. is_key name (key x)) xs (sym e ∙ h)), λ h. e ∙ list_any-from_Any (λ x. is_key name (key x)) xs (has-named h))

-- ---- what holds of members of a list that was mapped

module _ {X Y : Type 0} (P : Y → Type 0) (f : X → Y) where
  all-mapped : (xs : List X) → All (λ x. P (f x)) xs → All P (map f xs)
  all-mapped xs h = All-map P f xs h

  mapped-all : (xs : List X) → All P (map f xs) → All (λ x. P (f x)) xs
  mapped-all [] h = All-nil (λ x. P (f x))
  mapped-all (x ∷ xs) h = All-cons (λ x. P (f x)) x xs (All-head P (f x) (map f xs) h) (mapped-all xs (All-tail P (f x) (map f xs) h))

pub all-twice : {X Y Z : Type 0} (P : Z → Type 0) (f : X → Y) (g : Y → Z) (xs : List X) → All (λ x. P (g (f x))) xs ↔ All P (map g (map f xs))
all-twice P f g xs = (
  λ h. all-mapped P g (map f xs) (all-mapped (λ y. P (g y)) f xs h),
  λ h. mapped-all (λ y. P (g y)) f xs (mapped-all P g (map f xs) h),
)

module _ {X Y : Type 0} (P : Y → Type 0) (f : X → Y) where
  any-mapped-at : (xs : List X) (k : ℕ) (x : X) → k < length xs → get_or xs k x ≡ x → P (f x) → Any P (map f xs)
  any-mapped-at [] k x lt e p = absurd (omega (arith, lt))
  any-mapped-at (z ∷ zs) zero x lt e p = (0, f z, omega arith, refl, subst (λ (w : X). P (f w)) (sym e) p)
  any-mapped-at (z ∷ zs) (suc k) x lt e p = let r = any-mapped-at zs k x (omega (arith, lt)) e p in let far : r.0 < length (map f zs) = r.2 in (suc r.0, r.1, omega (arith, far), r.3, r.4)

  mapped-any-at : (xs : List X) (k : ℕ) (y : Y) → k < length (map f xs) → get_or (map f xs) k y ≡ y → P y → Any (λ x. P (f x)) xs
  mapped-any-at [] k y lt e p = absurd (omega (arith, lt))
  mapped-any-at (z ∷ zs) zero y lt e p = (0, z, omega arith, refl, subst P (sym e) p)
  mapped-any-at (z ∷ zs) (suc k) y lt e p = let r = mapped-any-at zs k y (omega (arith, lt)) e p in let far : r.0 < length zs = r.2 in (suc r.0, r.1, omega (arith, far), r.3, r.4)

  any-mapped : (xs : List X) → Any (λ x. P (f x)) xs ↔ Any P (map f xs)
  any-mapped xs = (λ h. any-mapped-at xs h.0 h.1 h.2 h.3 h.4, λ h. mapped-any-at xs h.0 h.1 h.2 h.3 h.4)

pub any-twice : {X Y Z : Type 0} (P : Z → Type 0) (f : X → Y) (g : Y → Z) (xs : List X) → Any (λ x. P (g (f x))) xs ↔ Any P (map g (map f xs))
any-twice P f g xs = same-then (any-mapped (λ y. P (g y)) f xs) (any-mapped P g (map f xs))

pub ruleset fitting = (key-by, no-key, list-by, list-absent, mapping-by, mapping-absent)

-- ---- items, by their places

some-same : {A : Type 0} (x y : A) → Some x ≡ Some y → x ≡ y
some-same x y e = cc

module _ (env : Atoms) (fixed : List Ty) (rest : Option Ty) where
  at-place : (m n : ℕ) (o : Option Literal) → m ≡ n → FitsAt env fixed rest m o → FitsAt env fixed rest n o
  at-place m n o e h = subst (λ (k : ℕ). FitsAt env fixed rest k o) e h

  all-from : (xs : List (Option Literal)) (k : ℕ) → ((i : ℕ) (o : Option Literal) → slice_get xs i ≡ Some o → FitsAt env fixed rest (k + i) o) → LiteralsFit env k fixed rest xs
  all-from [] k h = tt
  all-from (None ∷ xs) k h = all-from xs (k + 1) (λ i o e. at-place (k + suc i) (k + 1 + i) o (omega arith) (h (suc i) o e))
  all-from (Some l ∷ xs) k h = (
    at-place (k + 0) k (Some l) (omega arith) (h 0 (Some l) refl),
    all-from xs (k + 1) (λ i o e. at-place (k + suc i) (k + 1 + i) o (omega arith) (h (suc i) o e)),
  )

  each-from : (xs : List (Option Literal)) (k : ℕ) → LiteralsFit env k fixed rest xs → (i : ℕ) (o : Option Literal) → slice_get xs i ≡ Some o → FitsAt env fixed rest (k + i) o
  each-from [] k h i o e = absurd (cc)
  each-from (None ∷ xs) k h zero o e = subst (FitsAt env fixed rest (k + 0)) (some-same None o e) tt
  each-from (None ∷ xs) k h (suc i) o e = at-place (k + 1 + i) (k + suc i) o (omega arith) (each-from xs (k + 1) h i o e)
  each-from (Some l ∷ xs) k h zero o e = subst (FitsAt env fixed rest (k + 0)) (some-same (Some l) o e) (at-place k (k + 0) (Some l) (omega arith) h.0)
  each-from (Some l ∷ xs) k h (suc i) o e = at-place (k + 1 + i) (k + suc i) o (omega arith) (each-from xs (k + 1) h.1 i o e)

  -- of each of the first so many
  abbrev pub FitBelow : ℕ → List (Option Literal) → Type 0
  FitBelow n xs = (i : ℕ) → i < n → (o : Option Literal) → slice_get xs i ≡ Some o → FitsAt env fixed rest i o

  past : (xs : List (Option Literal)) (i : ℕ) (o : Option Literal) → slice_get xs i ≡ Some o → i < length xs
  past [] i o e = absurd (cc)
  past (x ∷ xs) zero o e = omega arith
  past (x ∷ xs) (suc i) o e = let lt : i < length xs = past xs i o e in omega arith

  pub fit-whole : (xs : List (Option Literal)) (n : ℕ) → length xs ≤ n → FitBelow n xs → LiteralsFit env 0 fixed rest xs
  fit-whole xs n le h = all-from xs 0 (λ i o e. let lt : i < length xs = past xs i o e in at-place i (0 + i) o (omega arith) (h i (omega arith) o e))

  pub fit-one : (xs : List (Option Literal)) (i : ℕ) (o : Option Literal) → slice_get xs i ≡ Some o → LiteralsFit env 0 fixed rest xs → FitsAt env fixed rest i o
  fit-one xs i o e h = at-place (0 + i) i o (omega arith) (each-from xs 0 h i o e)

  pub fit-here : (xs : List (Option Literal)) (i : ℕ) (o : Option Literal) → slice_get xs i ≡ Some o → FitsAt env fixed rest i o → (p : Option Literal) → slice_get xs i ≡ Some p → FitsAt env fixed rest i p
  fit-here xs i o e h p f = subst (FitsAt env fixed rest i) (some-same o p (sym e ∙ f)) h

-- the member at a place of a list that was mapped twice
pub seen-at : {A B C : Type 0} (f : A → B) (g : B → C) (xs : List A) (i : ℕ) (x : A) → slice_get xs i ≡ Some x → slice_get (map g (map f xs)) i ≡ Some (g (f x))
seen-at f g xs i x e = slice_get-map g (map f xs) i ∙ (ap (option_map g) (slice_get-map f xs i) ∙ ap (λ o. option_map g (option_map f o)) e)

-- ---- as the loop over the items goes

module _ (env : Atoms) (fixed : List Ty) (rest : Option Ty) (xs : List (Option Literal)) (n : ℕ) where
  pub fit-more : (o : Option Literal) → slice_get xs n ≡ Some o → (b : Bool) → (IsTrue b ↔ FitsAt env fixed rest n o) → b ≡ true → FitBelow env fixed rest n xs
      → FitBelow env fixed rest (n + 1) xs
  fit-more o e b same is h i lt p f = by (cases_lt i n)
    where
      by : (i < n) ⊎ (n ≤ i) → FitsAt env fixed rest i p
      by (inl before) = h i before p f
      by (inr behind) = let here : i ≡ n = omega (arith, lt, behind) in
          subst (λ (k : ℕ). FitsAt env fixed rest k p) (sym here) (fit-here env fixed rest xs n o e (same.0 is) p (subst (λ (k : ℕ). slice_get xs k ≡ Some p) here f))

  pub not-all : (o : Option Literal) → slice_get xs n ≡ Some o → (b : Bool) → (IsTrue b ↔ FitsAt env fixed rest n o) → b ≡ false → IsTrue false ↔ LiteralsFit env 0 fixed rest xs
  not-all o e b same is = not-so (λ h. false≢true (sym is ∙ same.1 (fit-one env fixed rest xs n o e h)))

pub all-fit : (env : Atoms) (fixed : List Ty) (rest : Option Ty) {A B : Type 0} (f : A → B) (g : B → Option Literal) (xs : List A) (n : ℕ) → length xs ≤ n
    → FitBelow env fixed rest n (map g (map f xs)) → IsTrue true ↔ LiteralsFit env 0 fixed rest (map g (map f xs))
all-fit env fixed rest f g xs n le h = let many : length (map g (map f xs)) ≡ length xs = length-map (map f xs) g ∙ length-map xs f in
    (λ t. fit-whole env fixed rest (map g (map f xs)) n (omega (arith, le, many)) h, λ t. refl)
