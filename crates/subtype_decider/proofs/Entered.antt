-- A call enters a question that the table doesn't know.
use Rattle.std.proofs.Common.{◌≡◌, ◌≢◌, ◌⊎◌, ⊎_elim, inl, inr, ℕ, ◌<◌, ◌≤◌, ◌+◌, List, [], ◌∷◌, ◌++◌, length, take, get_or, Option, Some, None, All, AllPairs, Contains, refl, sym, subst, ◌∙◌, ap, length-append, arith}
use Rattle.std.specs.List.{AllWithin}
use Rattle.std.proofs.Math.ListN.{get_or-append}
use Rattle.std.proofs.Math.Seq.{get_or-append_seam}
use Rattle.std.proofs.lemmas.Bool.{cases_order}
use Rattle.std.proofs.lemmas.List.{take-append-le, map_push}
use Rattle.std.proofs.lemmas.List.Elements.{All-nil, All-contains, All-weaker, All-push, All-take, Contains-append_left, Contains-get_or, Contains-push, Contains-push_cases}
use Rattle.std.proofs.lemmas.List.Quantifiers.{all_pairs_push}
use Rattle.bal_base.specs.declared.shape.Shape.{Shape}
use Rattle.type_model.specs.declared.atoms.AtomDef.{AtomDef}
use Rattle.type_diagrams.specs.Conditions.{IsShapeOf}
use Rattle.type_diagrams.specs.Tables.{Table as Diagrams, IsDiagram, condition}
use Rattle.type_diagrams.specs.Kept.{IsUnknown, IsHeldEmpty}
use Rattle.type_diagrams.specs.Turns.{IsSound}
use Rattle.type_diagrams.specs.Reach.{most_questions}
use Rattle.type_diagrams.proofs.Keeping.{keeps-itself}
use Rattle.subtype_decider.specs.declared.held.Held.{Held}
use Rattle.subtype_decider.specs.Entries.{AreApart, Knows}
use Rattle.subtype_decider.specs.Closed.{HasNoShape}
use Rattle.subtype_decider.specs.Leads.{LeadsTo}
use Rattle.subtype_decider.specs.Working.{Works, HasWays, HasNoSimple, IsJudged, IsHeld, IsJudgedInFull, IsAmongHeld, questions_of}
use Rattle.subtype_decider.proofs.Members.{Contains-Any, Any-left, Any-right, Any-append_cases, map-Contains, AllPairs-left, AllPairs-right, AllPairs-across, AllPairs-join}
use Rattle.subtype_decider.proofs.Grown.{Entries, IsHeld-grown, IsJudgedInFull-grown}
use Rattle.subtype_decider.proofs.Dropped.{Asks}

module _ (env : List AtomDef) (asked start : ℕ) (d : Diagrams) (kept : Entries) (pending judged : List Held) (w : Works env asked start d kept pending judged)
    (q : ℕ) (unknown : IsUnknown kept q) (diagram : IsDiagram d q) (leads : LeadsTo env (condition d asked) (condition d q)) (room : length kept < start + most_questions) where
  module _ (o : Option Shape) where
    abbrev With : Entries
    With = kept ++ (q, o) ∷ []

    with-held : (p : ℕ) → IsHeldEmpty kept p → IsHeldEmpty With p
    with-held p h = Contains-append_left kept ((q, o) ∷ []) (p, None) h

    with-apart : AreApart With
    with-apart = all_pairs_push (λ a b. a.0 ≢ b.0) kept (q, o) w.apart (λ k e lt is. unknown k e lt is)

    with-one : (e : ℕ × Option Shape) → IsSound env d e → IsSound env d e
    with-one (p, Some x) s = s
    with-one (p, None) s = s

    with-sound : IsSound env d (q, o) → All (IsSound env d) With
    with-sound s = All-push (IsSound env d) kept (q, o) (All-weaker (IsSound env d) (IsSound env d) with-one kept w.sound) s

    with-began : start ≤ length With
    with-began = omega (arith, w.began, length-append kept ((q, o) ∷ []))

    with-few : length With ≤ start + most_questions
    with-few = omega (arith, room, length-append kept ((q, o) ∷ []))

    with-leads : AllWithin (λ e. LeadsTo env (condition d asked) (condition d e.0)) With start (length With)
    with-leads k e low lt =
        ⊎_elim
        (λ (is : k ≡ length kept). subst (λ (f : ℕ × Option Shape). LeadsTo env (condition d asked) (condition d f.0)) (sym (ap (λ j. get_or With j e) is ∙ get_or-append_seam kept (q, o) [] e)) leads)
        (λ (c : (k < length kept) ⊎ (length kept < k)). ⊎_elim
        (λ (l : k < length kept). subst (λ (f : ℕ × Option Shape). LeadsTo env (condition d asked) (condition d f.0)) (sym (get_or-append kept ((q, o) ∷ []) e k l)) (w.leads k e low l))
        (λ (g : length kept < k). absurd (omega (arith, g, lt, length-append kept ((q, o) ∷ []))))
        c)
        (cases_order k (length kept))

    with-first : take start With ≡ take start kept
    with-first = take-append-le start kept ((q, o) ∷ []) w.began

    with-new : (hs : List Held) → All (λ h. IsUnknown (take start kept) h.question) hs → All (λ h. IsUnknown (take start With) h.question) hs
    with-new hs all = subst (λ (l : Entries). All (λ h. IsUnknown l h.question) hs) (sym with-first) all

    with-pending : All (IsHeld env d With) pending
    with-pending = All-weaker (IsHeld env d kept) (IsHeld env d With) (IsHeld-grown env d d (keeps-itself d) kept With w.sound with-held) pending w.held_pending

    with-full : All (IsJudgedInFull env d With) judged
    with-full = All-weaker (IsJudgedInFull env d kept) (IsJudgedInFull env d With) (IsJudgedInFull-grown env d d (keeps-itself d) kept With w.sound with-held) judged w.full

    pub with-Knows : Knows With q
    with-Knows = Contains-Any (λ e. e.0 ≡ q) With (q, o) (Contains-push kept (q, o)) refl

  no_shape : (p : ℕ) (x : Shape) → ◌≡◌ {A = ℕ × Option Shape} (q, Some x) (p, None) → ⊥
  no_shape p x e = bad (ap (λ f. f.1) e)
    where
      bad : Some x ≡ None → ⊥
      bad b = cc

  -- a shape answers it at once
  pub works-answered : (x : Shape) → IsShapeOf env (condition d q) x → Works env asked start d (kept ++ (q, Some x) ∷ []) pending judged
  works-answered x shape = record {
    defined = w.defined;
    first = w.first;
    looks = w.looks;
    apart = with-apart (Some x);
    sound = with-sound (Some x) (diagram, shape);
    began = with-began (Some x);
    few = with-few (Some x);
    leads = with-leads (Some x);
    held_pending = with-pending (Some x);
    full = with-full (Some x);
    pending_new = with-new (Some x) pending w.pending_new;
    judged_new = with-new (Some x) judged w.judged_new;
    distinct = w.distinct;
    closed = λ p h. ⊎_elim (λ (old : Contains kept (p, None)). w.closed p old) (λ (same : ◌≡◌ {A = ℕ × Option Shape} (q, Some x) (p, None)). absurd (no_shape p x same)) (Contains-push_cases kept (q, Some x) (p, None) h);
  }

  -- no question on which the call works is new
  held-other : (hs : List Held) → ((h : Held) → Contains hs h → IsHeldEmpty kept h.question) → (n : ℕ) → Contains (questions_of hs) n → n ≢ q
  held-other hs held n c is =
      let m = map-Contains (λ h. h.question) hs n c in
      All-contains (λ e. e.0 ≢ q) kept (m.0.question, None) unknown (held m.0 m.1) (m.2 ∙ is)

  -- it is held to be empty
  pub works-held : (h : Held) → h.question ≡ q → h.next ≡ 0 → HasWays (condition d q) h.ways.items → HasNoSimple (condition d q) → Works env asked start d (kept ++ (q, None) ∷ []) (pending ++ h ∷ []) judged
  works-held h is next ways plain =
      let kept' = kept ++ (q, None) ∷ [] in
      let held : IsHeld env d kept' h = record {
        held = subst (λ p. IsHeldEmpty kept' p) (sym is) (Contains-push kept (q, None));
        plain = subst (λ p. HasNoSimple (condition d p)) (sym is) plain;
        ways = subst (λ p. HasWays (condition d p) h.ways.items) (sym is) ways;
        next = omega (arith, next);
        judged = subst (λ n. All (IsJudged env d kept') (take n h.ways.items)) (sym next) (All-nil (IsJudged env d kept'));
      } in
      let pending_other = held-other pending (λ g c. (All-contains (IsHeld env d kept) pending g w.held_pending c).held) in
      let judged_other = held-other judged (λ g c. (All-contains (IsJudgedInFull env d kept) judged g w.full c).held.held) in
      let old_pending = questions_of pending in
      let old_judged = questions_of judged in
      record {
        defined = w.defined;
        first = w.first;
        looks = w.looks;
        apart = with-apart None;
        sound = with-sound None diagram;
        began = with-began None;
        few = with-few None;
        leads = with-leads None;
        held_pending = All-push (IsHeld env d kept') pending h (with-pending None) held;
        full = with-full None;
        pending_new = with-new None (pending ++ h ∷ []) (All-push (λ g. IsUnknown (take start kept) g.question) pending h w.pending_new (subst (IsUnknown (take start kept)) (sym is) (All-take (λ e. e.0 ≢ q) start kept unknown)));
        judged_new = with-new None judged w.judged_new;
        distinct =
            subst (λ (l : List ℕ). AllPairs (λ a b. a ≢ b) (l ++ old_judged)) (sym (map_push (λ (g : Held). g.question) pending h))
            (AllPairs-join (λ a b. a ≢ b) (old_pending ++ h.question ∷ []) old_judged
            (all_pairs_push (λ a b. a ≢ b) old_pending h.question (AllPairs-left (λ a b. a ≢ b) old_pending old_judged w.distinct) (λ k n lt same. pending_other (get_or old_pending k n) (Contains-at k n lt) (same ∙ is)))
            (AllPairs-right (λ a b. a ≢ b) old_pending old_judged w.distinct)
            (λ a b ca cb same. ⊎_elim
            (λ (l : Contains old_pending a). AllPairs-across (λ m n. m ≢ n) old_pending old_judged w.distinct a b l cb same)
            (λ (r : h.question ≡ a). judged_other b cb (sym same ∙ sym r ∙ is))
            (Contains-push_cases old_pending h.question a ca)));
        closed = λ p c. ⊎_elim
            (λ (old : Contains kept (p, None)). ⊎_elim
            (λ (none : HasNoShape env (condition d p)). inl none)
            (λ (among : IsAmongHeld (pending ++ judged) p). inr (⊎_elim
            (λ (l : IsAmongHeld pending p). Any-left (Asks p) (pending ++ h ∷ []) judged (Any-left (Asks p) pending (h ∷ []) l))
            (λ (r : IsAmongHeld judged p). Any-right (Asks p) (pending ++ h ∷ []) judged r)
            (Any-append_cases (Asks p) pending judged among)))
            (w.closed p old))
            (λ (same : ◌≡◌ {A = ℕ × Option Shape} (q, None) (p, None)). inr (Any-left (Asks p) (pending ++ h ∷ []) judged (Contains-Any (Asks p) (pending ++ h ∷ []) h (Contains-push pending h) (is ∙ ap (λ e. e.0) same))))
            (Contains-push_cases kept (q, None) (p, None) c);
      }
    where
      Contains-at : (k n : ℕ) → k < length (questions_of pending) → Contains (questions_of pending) (get_or (questions_of pending) k n)
      Contains-at k n lt = Contains-get_or (questions_of pending) k n lt
