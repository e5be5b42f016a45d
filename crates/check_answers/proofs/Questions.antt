-- Questions about types of two runs, and parts that are made.
use Rattle.std.proofs.Common.{◌≡◌, ℕ, List, Option, None, Some, sym, subst}
use Rattle.bal_base.specs.declared.place.Place.{Place}
use Rattle.checks.specs.Agreement.{AreTwins}
use Rattle.checks.specs.Checks.{Check}
use Rattle.checks.specs.Questions.{below, has_some, is_below, member}
use Rattle.checks.proofs.Twins.{below-alike, has_some-alike, is_below-alike, member-alike}
use Rattle.type_model.specs.declared.answers.Keys.{Keys}
use Rattle.type_model.specs.declared.answers.TypeLimit.{TypeLimit}
use Rattle.type_model.specs.declared.atoms.AtomDef.{AtomDef}
use Rattle.type_model.specs.declared.basic.SemType.{SemType}
use Rattle.type_model.specs.declared.basic.Ty.{Ty}
use Rattle.type_model.specs.Calls.{Asked}
use Rattle.typed_tree.specs.declared.expr.TypedExpr.{TypedExpr}
use Rattle.typed_tree.specs.declared.form.StrictForm.{StrictForm}
use Rattle.typed_tree.specs.SharedTypes.{Shared}
use Rattle.expr_needs.specs.declared.kind.Kind.{Kind}
use Rattle.check_words.specs.Sharing.{SameOption}
use Rattle.check_words.specs.State.{State}
use Rattle.check_words.specs.Words.{Atoms, OfKind, asking, below_if, is_of, is_wanted, is_within, makes_strict, makes_typed, whether_some, whether_within}
use Rattle.check_answers.specs.Pieces.{SamePieces, form_pieces}
use Rattle.check_answers.specs.TwinStates.{PartTwins, SharedTwins}
use Rattle.check_answers.specs.TwinTypes.{SettledTwins, TwinTypes}
use Rattle.check_answers.proofs.Leading.{Any2, Leads, Pairs, leads-asking, leads-done, leads-over, leads-then, leads-to}
use Rattle.check_answers.proofs.Mapping.{state-map}
use Rattle.check_answers.proofs.Meanings.{kinds-twin}
use Rattle.check_answers.proofs.SameTrees.{strict-same}
use Rattle.check_answers.proofs.Words.{At, at-atoms, makes-leads, part-leads, want-leads}

-- the same in both runs
abbrev pub Equal : {A : Type 0} → A → A → Type 0
Equal a b = b ≡ a

module _ (passes : List AtomDef → Asked → TypeLimit → Type 0) (m n : Atoms) (F : Pairs) (at : (s t : State) → F s t → (s.atoms ≡ m) × (t.atoms ≡ n)) where
  pub below-leads : (s u s2 u2 : SemType) (here : Option Place) → AreTwins m s n s2 → AreTwins m u n u2
      → Leads F F Any2 (asking (below passes s u here)) (asking (below passes s2 u2 here))
  below-leads s u s2 u2 here h k =
      leads-to F F F (λ a b. a ≡ b) Any2 _ _ (λ x y a b p e. (p, tt)) (leads-asking m n F _ _ _ at (below-alike passes m n s u s2 u2 here h k))

  pub is-below-leads : (s u s2 u2 : SemType) (here : Option Place) → AreTwins m s n s2 → AreTwins m u n u2
      → Leads F F Equal (asking (is_below passes s u here)) (asking (is_below passes s2 u2 here))
  is-below-leads s u s2 u2 here h k =
      leads-to F F F (λ a b. a ≡ b) Equal _ _ (λ x y a b p e. (p, sym e)) (leads-asking m n F _ _ _ at (is_below-alike passes m n s u s2 u2 here h k))

  pub has-some-leads : (s s2 : SemType) (here : Option Place) → AreTwins m s n s2
      → Leads F F Equal (asking (has_some passes s here)) (asking (has_some passes s2 here))
  has-some-leads s s2 here h =
      leads-to F F F (λ a b. a ≡ b) Equal _ _ (λ x y a b p e. (p, sym e)) (leads-asking m n F _ _ _ at (has_some-alike passes m n s s2 here h))

  pub member-leads : (s s2 : SemType) (keys : Keys) (here : Option Place) → AreTwins m s n s2
      → Leads F F (λ a b. AreTwins m a n b) (asking (member passes s keys here)) (asking (member passes s2 keys here))
  member-leads s s2 keys here h = leads-asking m n F _ _ _ at (member-alike passes m n s s2 keys here h)

  -- ---- types of which something holds

  pub within-leads : (P Q : Atoms → Ty → Type 0) (s s2 : SemType) (here : Place) → ((t u : Ty) → P m t → Q n u → TwinTypes m n t u) → AreTwins m s n s2
      → Leads F F Any2 (is_within passes P s here) (is_within passes Q s2 here)
  within-leads P Q s s2 here k h =
      leads-then F F F (TwinTypes m n) Any2 _ _ _ _ (leads-over m n F _ P Q at k) (λ t u e. below-leads s t.sem s2 u.sem (Some here) h e.shapes)

  pub whether-leads : (P Q : Atoms → Ty → Type 0) (s s2 : SemType) (here : Place) → ((t u : Ty) → P m t → Q n u → TwinTypes m n t u) → AreTwins m s n s2
      → Leads F F Equal (whether_within passes P s here) (whether_within passes Q s2 here)
  whether-leads P Q s s2 here k h =
      leads-then F F F (TwinTypes m n) Equal _ _ _ _ (leads-over m n F _ P Q at k) (λ t u e. is-below-leads s t.sem s2 u.sem (Some here) h e.shapes)

  pub some-leads : (P Q : Atoms → Ty → Type 0) (here : Place) → ((t u : Ty) → P m t → Q n u → TwinTypes m n t u)
      → Leads F F Equal (whether_some passes P here) (whether_some passes Q here)
  some-leads P Q here k =
      leads-then F F F (TwinTypes m n) Equal _ _ _ _ (leads-over m n F _ P Q at k) (λ t u e. has-some-leads t.sem u.sem (Some here) e.shapes)

  pub of-kind-leads : (k : Kind) (s s2 : SemType) (here : Place) → AreTwins m s n s2
      → Leads F F Any2 (is_within passes (OfKind k) s here) (is_within passes (OfKind k) s2 here)
  of-kind-leads k s s2 here h = within-leads (OfKind k) (OfKind k) s s2 here (kinds-twin m n k) h

  pub whether-kind-leads : (k : Kind) (s s2 : SemType) (here : Place) → AreTwins m s n s2
      → Leads F F Equal (whether_within passes (OfKind k) s here) (whether_within passes (OfKind k) s2 here)
  whether-kind-leads k s s2 here h = whether-leads (OfKind k) (OfKind k) s s2 here (kinds-twin m n k) h

-- ---- between two needs

module _ (m n : Atoms) where
  abbrev pub D : Ty → Ty → Type 0
  D = SettledTwins m n

  abbrev pub W : Ty → Ty → Type 0
  W = TwinTypes m n

  -- before a need and behind it, where it adds no atoms
  abbrev pub Before : Pairs
  Before = At m n D D

  abbrev pub Behind : Pairs
  Behind = At m n D W

  pub before-atoms : (s t : State) → Before s t → (s.atoms ≡ m) × (t.atoms ≡ n)
  before-atoms = at-atoms m n D D

  pub settled-twins : (s t : Ty) → D s t → W s t
  settled-twins s t h = h.twins

  pub before-behind : (s t : State) → Before s t → Behind s t
  before-behind s t p = record { first = p.first; second = p.second; states = state-map D D D W (λ a b h. h) settled-twins s t p.states }

  -- nothing that is made is kept
  pub stays : {A B : Type 0} (Q : A → B → Type 0) (c : Check State A) (d : Check State B) → Leads Before Before Q c d → Leads Before Behind Q c d
  stays Q c d h = leads-to Before Before Behind Q Q c d (λ s t a b p q. (before-behind s t p, q)) h

  -- ---- parts that are made

  pub strict-leads : (count : ℕ) (form other : StrictForm) (P Q : Atoms → Ty → Type 0) (here : Place) → SamePieces D (form_pieces form) (form_pieces other)
      → ((t u : Ty) → P m t → Q n u → W t u) → Leads Before Behind Any2 (makes_strict count form P here) (makes_strict count other Q here)
  strict-leads count form other P Q here same k =
      makes-leads m n D D W settled-twins count _ _
      (λ es fs e f h x y. strict-same D W form other es fs x.0 y.0 here e f same h (k x.0.value y.0.value x.1 y.1) x.2 y.2)

  pub kind-strict-leads : (count : ℕ) (form other : StrictForm) (k : Kind) (here : Place) → SamePieces D (form_pieces form) (form_pieces other)
      → Leads Before Behind Any2 (makes_strict count form (OfKind k) here) (makes_strict count other (OfKind k) here)
  kind-strict-leads count form other k here same = strict-leads count form other (OfKind k) (OfKind k) here same (kinds-twin m n k)

  pub typed-leads : (count : ℕ) (form other : StrictForm) (t u : Shared) (here : Place) → SamePieces D (form_pieces form) (form_pieces other) → W t.value u.value
      → Leads Before Behind Any2 (makes_typed count form t here) (makes_typed count other u here)
  typed-leads count form other t u here same h =
      makes-leads m n D D W settled-twins count _ _
      (λ es fs e f all x y. strict-same D W form other es fs x.0 y.0 here e f same all
      (subst (λ s. W s y.0.value) (sym x.1) (subst (W t.value) (sym y.1) h)) x.2 y.2)

  -- ---- the last part

  module _ (passes : List AtomDef → Asked → TypeLimit → Type 0) where
    pub is-of-leads : (k : Kind) (here : Place) → Leads Before Before Any2 (is_of passes k here) (is_of passes k here)
    is-of-leads k here =
        leads-then Before Before Before _ Any2 _ _ _ _ (part-leads m n D D)
        (λ e f h. of-kind-leads passes m n Before before-atoms k _ _ here h.ty.twins.shapes)

    pub below-if-leads : (w x : Option Shared) (e f : TypedExpr) (here : Place) → SameOption (SharedTwins D D) w x → PartTwins D D e f
        → Leads Before Before Any2 (below_if passes w e here) (below_if passes x f here)
    below-if-leads None None e f here h k = leads-done Before
    below-if-leads (Some t) (Some u) e f here h k =
        below-leads passes m n Before before-atoms _ _ _ _ (Some here) k.ty.twins.shapes h.twins.shapes
    below-if-leads None (Some u) e f here h k = absurd h
    below-if-leads (Some t) None e f here h k = absurd h

    pub is-wanted-leads : (here : Place) → Leads Before Before Any2 (is_wanted passes here) (is_wanted passes here)
    is-wanted-leads here =
        leads-then Before Before Before _ Any2 _ _ _ _ (want-leads m n D D)
        (λ w x h. leads-then Before Before Before _ Any2 _ _ _ _ (part-leads m n D D) (λ e f k. below-if-leads w x e f here h k))
