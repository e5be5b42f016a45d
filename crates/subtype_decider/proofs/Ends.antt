-- How a call begins and ends.
use Rattle.std.proofs.Common.{◌≡◌, ◌≢◌, ◌⊎◌, ⊎_elim, inl, inr, ℕ, ◌<◌, List, [], ◌++◌, length, take, Option, Some, None, Bool, true, false, All, Contains, refl, sym, subst, ◌∙◌, arith}
use Rattle.std.specs.Bool.{MatchBool}
use Rattle.std.proofs.lemmas.Bool.{false≢true}
use Rattle.std.proofs.lemmas.List.{take_all}
use Rattle.std.proofs.lemmas.List.Elements.{All-nil, All-contains, All-weaker}
use Rattle.bal_base.specs.declared.shape.Shape.{Shape}
use Rattle.bal_base.specs.Levels.{levels}
use Rattle.type_model.specs.declared.atoms.AtomDef.{AtomDef}
use Rattle.type_diagrams.specs.declared.kind.Kind.{Kind}
use Rattle.type_diagrams.specs.declared.node.Node.{Node}
use Rattle.type_diagrams.specs.Kinds.{kind_of, IsSimple, IsOfKind}
use Rattle.type_diagrams.specs.Paths.{IsOnPath}
use Rattle.type_diagrams.specs.Conditions.{IsShapeOf, LooksAtKinds}
use Rattle.type_diagrams.specs.Tables.{Table as Diagrams, IsDiagram, DependBelow, condition}
use Rattle.type_diagrams.specs.Whole.{Keeps}
use Rattle.type_diagrams.specs.Kept.{IsUnknown, IsHeldEmpty}
use Rattle.type_diagrams.specs.Turns.{IsSound, HasLower}
use Rattle.subtype_decider.specs.declared.way.Way.{Way}
use Rattle.subtype_decider.specs.declared.held.Held.{Held}
use Rattle.subtype_decider.specs.Entries.{AreApart, Knows}
use Rattle.subtype_decider.specs.Closed.{HasNoShape, FindsShapeOf, IsRight, IsClosed}
use Rattle.subtype_decider.specs.Working.{Works, IsHeld, IsJudged, IsJudgedInFull, IsAmongHeld, IsWithoutAll, KeepsShape}
use Rattle.subtype_decider.proofs.Members.{Any-Contains, Contains-Any, Any-append_cases, take-Contains, All-from_Contains}
use Rattle.subtype_decider.proofs.Grown.{Entries, diagram-grown, condition-grown}
use Rattle.subtype_decider.proofs.Dropped.{Asks, one_entry}
use Rattle.subtype_decider.proofs.Descent.{no_shapes}

-- a shape is simple, or it is of a kind
by_kind_of : (x : Shape) → IsSimple x ⊎ ((k : Kind) × IsOfKind k x)
by_kind_of x = by (kind_of x) refl
  where
    by : (o : Option Kind) → kind_of x ≡ o → IsSimple x ⊎ ((k : Kind) × IsOfKind k x)
    by None e = inl e
    by (Some k) e = inr (k, e)

-- ---- a call begins

pub right-IsSound : (env : List AtomDef) (d : Diagrams) (e : ℕ × Option Shape) → IsRight env d e → IsSound env d e
right-IsSound env d (q, Some x) r = r
right-IsSound env d (q, None) r = r.0

pub works-begin : (env : List AtomDef) (asked start : ℕ) (d : Diagrams) (kept : Entries) (pending judged : List Held) → start ≡ length kept → pending ≡ [] → judged ≡ [] → IsClosed env d kept → DependBelow (length env) d.nodes → IsDiagram d asked → LooksAtKinds env (condition d asked) → Works env asked start d kept pending judged
works-begin env asked start d kept pending judged begin no_pending no_judged closed defined first looks =
    subst (λ (l : List Held). Works env asked start d kept l judged) (sym no_pending)
    (subst (λ (l : List Held). Works env asked start d kept [] l) (sym no_judged)
    (record {
      defined = defined;
      first = first;
      looks = looks;
      apart = closed.apart;
      sound = All-weaker (IsRight env d) (IsSound env d) (right-IsSound env d) kept closed.right;
      began = omega (arith, begin);
      few = omega (arith, begin);
      leads = λ k e low lt. absurd (omega (arith, begin, low, lt));
      held_pending = All-nil (IsHeld env d kept);
      full = All-nil (IsJudgedInFull env d kept);
      pending_new = All-nil (λ (h : Held). IsUnknown (take start kept) h.question);
      judged_new = All-nil (λ (h : Held). IsUnknown (take start kept) h.question);
      distinct = λ i j e lt in_. absurd (omega (arith, in_));
      closed = λ q held. inl (All-contains (IsRight env d) kept (q, None) closed.right held).1;
    }))

-- ---- a call ends

module _ (env : List AtomDef) (asked start : ℕ) (d : Diagrams) (kept : Entries) (pending judged : List Held) (w : Works env asked start d kept pending judged) where
  -- a shape of a question that is judged in full leads to a lower one
  full-HasLower : (h : Held) → IsJudgedInFull env d kept h → (x : Shape) → IsShapeOf env (condition d h.question) x → HasLower env d kept x
  full-HasLower h full x shape =
      ⊎_elim
      (λ (simple : IsSimple x). absurd (false≢true (sym (full.held.plain x simple shape.0) ∙ shape.1.simple simple)))
      (λ (k : (k : Kind) × IsOfKind k x).
      let P : Way → Type 0 = λ v. (v.kind ≡ k.0) × IsOnPath env k.0 v.path x in
      let v = Any-Contains P h.ways.items ((full.held.ways.all env k.0 x k.1).0 shape.1) in
      let judged : IsJudged env d kept v.0 = All-contains (IsJudged env d kept) h.ways.items v.0 all_judged v.1 in
      judged x (shape.0, subst (λ (j : Kind). IsOnPath env j v.0.path x) (sym v.2.0) v.2.1))
      (by_kind_of x)
    where
      all_judged : All (IsJudged env d kept) h.ways.items
      all_judged = subst (All (IsJudged env d kept)) (take_all h.next h.ways.items (omega (arith, full.full))) full.held.judged

  -- where nothing is left to judge, what is held to be empty is so
  pub settled-HasNoShape : pending ≡ [] → (q : ℕ) → IsHeldEmpty kept q → HasNoShape env (condition d q)
  settled-HasNoShape none q held x shape = no_shapes (λ p y. IsShapeOf env (condition d p) y) (IsHeldEmpty kept) levels lower q x held shape
    where
      lower : (p : ℕ) (y : Shape) → IsHeldEmpty kept p → IsShapeOf env (condition d p) y → (r : ℕ) × (z : Shape) × IsHeldEmpty kept r × IsShapeOf env (condition d r) z × (levels z < levels y)
      lower p y is has =
          ⊎_elim
          (λ (empty : HasNoShape env (condition d p)). absurd (empty y has))
          (λ (among : IsAmongHeld (pending ++ judged) p). ⊎_elim
          (λ (l : IsAmongHeld pending p). absurd (omega (arith, (subst (λ (hs : List Held). IsAmongHeld hs p) none l).2)))
          (λ (r : IsAmongHeld judged p).
          let h = Any-Contains (Asks p) judged r in
          let low = full-HasLower h.0 (All-contains (IsJudgedInFull env d kept) judged h.0 w.full h.1) y (subst (λ n. IsShapeOf env (condition d n) y) (sym h.2) has) in
          (low.question, low.part, low.held, low.inside, low.lower))
          (Any-append_cases (Asks p) pending judged among))
          (w.closed p is)

  -- what is sound, and empty where it has no shape, is right
  sound-IsRight : (e : ℕ × Option Shape) → IsSound env d e → (e.1 ≡ None → HasNoShape env (condition d e.0)) → IsRight env d e
  sound-IsRight (q, Some x) s f = s
  sound-IsRight (q, None) s f = (s, f refl)

  pub settled-IsClosed : pending ≡ [] → IsClosed env d kept
  settled-IsClosed none = record {
    apart = w.apart;
    right = All-from_Contains (IsRight env d) kept (λ e c. sound-IsRight e (All-contains (IsSound env d) kept e w.sound c)
        (λ is. settled-HasNoShape none e.0 (subst (λ (o : Option Shape). Contains kept (e.0, o)) is c)));
  }

  module _ (new : Entries) (apart : AreApart new) (without : IsWithoutAll kept new (pending ++ judged)) where
    pub dropped-IsClosed : IsClosed env d new
    dropped-IsClosed = record {
      apart = apart;
      right = All-from_Contains (IsRight env d) new (λ e c.
          let from = without.from e c in
          sound-IsRight e (All-contains (IsSound env d) kept e w.sound from.0)
          (λ is. ⊎_elim
          (λ (none : HasNoShape env (condition d e.0)). none)
          (λ (among : IsAmongHeld (pending ++ judged) e.0). absurd (from.1 among))
          (w.closed e.0 (subst (λ (o : Option Shape). Contains kept (e.0, o)) is from.0))));
    }

    -- what the table knew before stays
    pub dropped-kept : All (Contains new) (take start kept)
    dropped-kept = All-from_Contains (Contains new) (take start kept) (λ e c. without.others e (take-Contains start kept e w.began c) (λ among. ⊎_elim
        (λ (l : IsAmongHeld pending e.0). let h = Any-Contains (Asks e.0) pending l in clash e h.0 c (All-contains (λ (g : Held). IsUnknown (take start kept) g.question) pending h.0 w.pending_new h.1) h.2)
        (λ (r : IsAmongHeld judged e.0). let h = Any-Contains (Asks e.0) judged r in clash e h.0 c (All-contains (λ (g : Held). IsUnknown (take start kept) g.question) judged h.0 w.judged_new h.1) h.2)
        (Any-append_cases (Asks e.0) pending judged among)))
      where
        clash : (e : ℕ × Option Shape) (h : Held) → Contains (take start kept) e → IsUnknown (take start kept) h.question → h.question ≡ e.0 → ⊥
        clash e h c unknown is = All-contains (λ (g : ℕ × Option Shape). g.0 ≢ h.question) (take start kept) e unknown c (sym is)

    -- and so does a shape
    pub dropped-Knows : (q : ℕ) → KeepsShape kept q → Knows new q
    dropped-Knows q k =
        Contains-Any (λ (e : ℕ × Option Shape). e.0 ≡ q) new (q, Some k.0)
        (without.others (q, Some k.0) k.1 (λ among. ⊎_elim
        (λ (l : IsAmongHeld pending q). let h = Any-Contains (Asks q) pending l in bad (one_entry kept q (Some k.0) None w.apart k.1 (subst (λ n. IsHeldEmpty kept n) h.2 (All-contains (IsHeld env d kept) pending h.0 w.held_pending h.1).held)))
        (λ (r : IsAmongHeld judged q). let h = Any-Contains (Asks q) judged r in bad (one_entry kept q (Some k.0) None w.apart k.1 (subst (λ n. IsHeldEmpty kept n) h.2 (All-contains (IsJudgedInFull env d kept) judged h.0 w.full h.1).held.held)))
        (Any-append_cases (Asks q) pending judged among)))
        refl
      where
        bad : Some k.0 ≡ None → ⊥
        bad p = cc

  pub settled-kept : All (Contains kept) (take start kept)
  settled-kept = All-from_Contains (Contains kept) (take start kept) (λ e c. take-Contains start kept e w.began c)

-- a closed table stays closed where the diagrams grow
right-grown : (env : List AtomDef) (old new : Diagrams) → Keeps old new → (e : ℕ × Option Shape) → IsRight env old e → IsRight env new e
right-grown env old new keeps (q, Some x) r = (diagram-grown env old new keeps q r.0, condition-grown env old new keeps (λ c. IsShapeOf env c x) q r.0 r.1)
right-grown env old new keeps (q, None) r = (diagram-grown env old new keeps q r.0, condition-grown env old new keeps (HasNoShape env) q r.0 r.1)

pub closed-grown : (env : List AtomDef) (old new : Diagrams) (kept : Entries) → Keeps old new → IsClosed env old kept → IsClosed env new kept
closed-grown env old new kept keeps c = record { apart = c.apart; right = All-weaker (IsRight env old) (IsRight env new) (right-grown env old new keeps) kept c.right }

-- one of two things, by a test
pub by_test : {A B C D P : Type 0} (b : Bool) → MatchBool b A B → MatchBool b C D → (A → C → P) → (B → D → P) → P
by_test true x y f g = f x y
by_test false x y f g = g x y

-- what is kept of a question between calls answers it
pub told-FindsShapeOf : (env : List AtomDef) (d : Diagrams) (kept : Entries) (q : ℕ) (o : Option Shape) → IsClosed env d kept → Contains kept (q, o) → FindsShapeOf env (condition d q) o
told-FindsShapeOf env d kept q (Some x) closed c = (All-contains (IsRight env d) kept (q, Some x) closed.right c).1
told-FindsShapeOf env d kept q None closed c = (All-contains (IsRight env d) kept (q, None) closed.right c).1

pub known-unknown : (kept : Entries) (q : ℕ) → Knows kept q → IsUnknown kept q → ⊥
known-unknown kept q known unknown =
    let c = Any-Contains (λ (e : ℕ × Option Shape). e.0 ≡ q) kept known in
    All-contains (λ (e : ℕ × Option Shape). e.0 ≢ q) kept c.0 unknown c.1 c.2

-- no diagrams and no entries
pub nothing-IsClosed : (env : List AtomDef) (d : Diagrams) → IsClosed env d []
nothing-IsClosed env d = record { apart = λ i j e lt in_. absurd (omega (arith, in_)); right = All-nil (IsRight env d) }

pub nothing-defined : (env : List AtomDef) (d : Diagrams) → d.nodes ≡ [] → DependBelow (length env) d.nodes
nothing-defined env d e = subst (DependBelow (length env)) (sym e) (λ k m at. absurd (bad m at))
  where
    bad : (m : Node) → None ≡ Some m → ⊥
    bad m p = cc
