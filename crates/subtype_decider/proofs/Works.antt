-- What holds while a call works: it stays where the diagrams grow, and what follows of it.
use Rattle.std.proofs.Common.{◌≡◌, ◌≢◌, ⊎_elim, inl, inr, ℕ, ◌<◌, ◌≤◌, ◌+◌, List, [], ◌∷◌, ◌++◌, length, take, drop, get_or, map, Option, Some, None, All, AllPairs, Contains, refl, sym, subst, ◌∙◌, ap, length-append, arith}
use Rattle.std.proofs.Math.ListN.{length-map}
use Rattle.std.proofs.lemmas.List.{take-append-drop, get_or-drop, length-drop}
use Rattle.std.proofs.lemmas.List.Elements.{All-contains, All-weaker, All-map, All-push, Contains-append_cases}
use Rattle.std.proofs.lemmas.List.Quantifiers.{all_pairs_push}
use Rattle.bal_base.specs.declared.shape.Shape.{Shape}
use Rattle.type_model.specs.declared.atoms.AtomDef.{AtomDef}
use Rattle.type_model.specs.declared.answers.TypeLimit.{TypeLimit}
use Rattle.type_model.specs.declared.answers.TypeLimit.TheVariants.{Questions as TooManyQuestions}
use Rattle.type_diagrams.specs.Conditions.{Condition, AreOne, LooksAtKinds}
use Rattle.type_diagrams.specs.Tables.{Table as Diagrams, IsDiagram, condition}
use Rattle.type_diagrams.specs.Whole.{Extends, HasOneNumberEach}
use Rattle.type_diagrams.specs.Kept.{IsUnknown}
use Rattle.type_diagrams.specs.Turns.{IsSound}
use Rattle.type_diagrams.specs.Questions.{IsPathOf}
use Rattle.type_diagrams.specs.Reach.{first, next, most_questions}
use Rattle.type_diagrams.proofs.Reaching.{one-Looks, member-Looks}
use Rattle.subtype_decider.specs.declared.held.Held.{Held}
use Rattle.subtype_decider.specs.Closed.{HasNoShape}
use Rattle.subtype_decider.specs.Leads.{LeadsTo, LeadsPast}
use Rattle.subtype_decider.specs.Working.{Works, IsHeld, IsJudgedInFull, CanJudge, IsNewMember, HasTooMany, IsAmongHeld}
use Rattle.subtype_decider.proofs.Members.{AllPairs-map}
use Rattle.subtype_decider.proofs.Grown.{Entries, diagram-grown, condition-grown, sound-grown, IsHeld-grown, IsJudgedInFull-grown, defined-grown}

pub sound-diagram : (env : List AtomDef) (d : Diagrams) (kept : Entries) (e : ℕ × Option Shape) → IsSound env d e → IsDiagram d e.0
sound-diagram env d kept (q, Some x) s = s.0
sound-diagram env d kept (q, None) s = s

module _ (env : List AtomDef) (asked start : ℕ) (d : Diagrams) (kept : Entries) (pending judged : List Held) (w : Works env asked start d kept pending judged) where
  abbrev Leads : ℕ → Type 0
  Leads q = LeadsTo env (condition d asked) (condition d q)

  kept-diagram : (k : ℕ) (e : ℕ × Option Shape) → k < length kept → IsDiagram d (get_or kept k e).0
  kept-diagram k e lt = sound-diagram env d kept (get_or kept k e) (w.sound k e lt)

  pub works-grown : (new : Diagrams) → Extends (length env) d new → Works env asked start new kept pending judged
  works-grown new e = record {
    defined = defined-grown env d new e w.defined;
    first = diagram-grown env d new e.keeps asked w.first;
    looks = condition-grown env d new e.keeps (LooksAtKinds env) asked w.first w.looks;
    apart = w.apart;
    sound = sound-grown env d new e.keeps kept w.sound;
    began = w.began;
    few = w.few;
    leads = λ k f low lt.
        condition-grown env d new e.keeps (λ c. LeadsTo env (condition new asked) c) (get_or kept k f).0 (kept-diagram k f lt)
        (condition-grown env d new e.keeps (λ c. LeadsTo env c (condition d (get_or kept k f).0)) asked w.first (w.leads k f low lt));
    held_pending = All-weaker (IsHeld env d kept) (IsHeld env new kept) (IsHeld-grown env d new e.keeps kept kept w.sound (λ q h. h)) pending w.held_pending;
    full = All-weaker (IsJudgedInFull env d kept) (IsJudgedInFull env new kept) (IsJudgedInFull-grown env d new e.keeps kept kept w.sound (λ q h. h)) judged w.full;
    pending_new = w.pending_new;
    judged_new = w.judged_new;
    distinct = w.distinct;
    closed = λ q h. ⊎_elim
        (λ (none : HasNoShape env (condition d q)). inl (condition-grown env d new e.keeps (HasNoShape env) q (All-contains (IsSound env d) kept (q, None) w.sound h) none))
        (λ (o : IsAmongHeld (pending ++ judged) q). inr o)
        (w.closed q h);
  }

  -- a question of this call is one to which the first one leads
  pub new-leads : (q : ℕ) (o : Option Shape) → Contains kept (q, o) → IsUnknown (take start kept) q → Leads q
  new-leads q o c unknown =
      ⊎_elim
      (λ (a : Contains (take start kept) (q, o)). absurd (All-contains (λ e. e.0 ≢ q) (take start kept) (q, o) unknown a refl))
      (λ (b : Contains (drop start kept) (q, o)).
      let lt : start + b.0 < length kept = omega (arith, b.1, length-drop start kept) in
      let is : get_or kept (start + b.0) (q, o) ≡ (q, o) = sym (get_or-drop start kept b.0 (q, o)) ∙ b.2 in
      subst (λ (e : ℕ × Option Shape). Leads e.0) is (w.leads (start + b.0) (q, o) (omega arith) lt))
      (Contains-append_cases (take start kept) (drop start kept) (q, o) (subst (λ (l : Entries). Contains l (q, o)) (sym (take-append-drop start kept)) c))

  leads-LooksAtKinds : (c : Condition) → LeadsTo env (condition d asked) c → LooksAtKinds env c
  leads-LooksAtKinds c (first _ one) = one-Looks env (condition d asked) c one w.looks
  leads-LooksAtKinds c (next b _ k p leads path question) = member-Looks env k p c question

  module _ (h : Held) (is : IsHeld env d kept h) (fresh : IsUnknown (take start kept) h.question) where
    pub held-leads : Leads h.question
    held-leads = new-leads h.question None is.held fresh

    pub held-CanJudge : CanJudge env d kept h
    held-CanJudge = record { defined = w.defined; looks = leads-LooksAtKinds (condition d h.question) held-leads; sound = w.sound; held = is }

    pub member-leads : (q : ℕ) → IsNewMember env d kept h q → Leads q
    member-leads q m = next (condition d h.question) (condition d q) m.2.0 m.2.1 held-leads m.2.2 m.2.3

    pub arrows-LeadsPast : (limit : TypeLimit) → HasTooMany (condition d h.question) limit → LeadsPast env (condition d asked) limit
    arrows-LeadsPast limit m =
        subst (LeadsPast env (condition d asked)) (sym m.0) (condition d h.question, m.2, held-leads, subst (λ k. IsPathOf (condition d h.question) k m.2) m.4.0 m.3, m.4.1)

  -- ---- more questions than a call may lead to

  Apart : ℕ × Option Shape → ℕ × Option Shape → Type 0
  Apart a b = (a.0 ≢ b.0) × IsDiagram d a.0 × IsDiagram d b.0

  since : Entries
  since = drop start kept

  since-at : (k : ℕ) (e : ℕ × Option Shape) → k < length since → (start + k < length kept) × (get_or since k e ≡ get_or kept (start + k) e)
  unfolding since
  since-at k e lt = (omega (arith, lt, length-drop start kept), get_or-drop start kept k e)

  since-apart : AllPairs Apart since
  unfolding Apart
  since-apart i j e lt in_ =
      let a = since-at i e (omega (arith, lt, in_)) in
      let b = since-at j e in_ in (
        λ is. w.apart (start + i) (start + j) e (omega (arith, lt)) b.0 (sym (ap (λ f. f.0) a.1) ∙ is ∙ ap (λ f. f.0) b.1),
        subst (λ (f : ℕ × Option Shape). IsDiagram d f.0) (sym a.1) (kept-diagram (start + i) e a.0),
        subst (λ (f : ℕ × Option Shape). IsDiagram d f.0) (sym b.1) (kept-diagram (start + j) e b.0),
      )

  since-leads : All (λ e. Leads e.0) since
  since-leads k e lt =
      let a = since-at k e lt in
      subst (λ (f : ℕ × Option Shape). Leads f.0) (sym a.1) (w.leads (start + k) e (omega arith) a.0)

  pub full-LeadsPast : (q : ℕ) → HasOneNumberEach d → IsUnknown kept q → IsDiagram d q → Leads q → start + most_questions ≤ length kept → LeadsPast env (condition d asked) TooManyQuestions
  unfolding Apart since
  full-LeadsPast q one unknown diagram leads full =
      let all : Entries = since ++ (q, None) ∷ [] in
      let question : ℕ × Option Shape → Condition = λ e. condition d e.0 in
      let apart : AllPairs Apart all = all_pairs_push Apart since (q, None) since-apart (λ k e lt.
      let a = since-at k e lt in
      (λ is. unknown (start + k) e a.0 (sym (ap (λ f. f.0) a.1) ∙ is), subst (λ (f : ℕ × Option Shape). IsDiagram d f.0) (sym a.1) (kept-diagram (start + k) e a.0), diagram)) in (
        map question all,
        omega (arith, full, length-map all question, length-append since ((q, None) ∷ []), length-drop start kept),
        AllPairs-map question Apart (λ c e. ¬ AreOne c e) (λ x y r same. r.0 (one x.0 y.0 r.1 r.2 same)) all apart,
        All-map (LeadsTo env (condition d asked)) question all (All-push (λ e. Leads e.0) since (q, None) since-leads leads),
      )

-- the same by other names
pub works-same : (env : List AtomDef) (asked start : ℕ) (d d' : Diagrams) (kept kept' : Entries) (pending pending' judged judged' : List Held) → d' ≡ d → kept' ≡ kept → pending' ≡ pending → judged' ≡ judged → Works env asked start d kept pending judged → Works env asked start d' kept' pending' judged'
works-same env asked start d d' kept kept' pending pending' judged judged' a b c e w =
    subst (λ (x : Diagrams). Works env asked start x kept' pending' judged') (sym a)
    (subst (λ (x : Entries). Works env asked start d x pending' judged') (sym b)
    (subst (λ (x : List Held). Works env asked start d kept x judged') (sym c)
    (subst (λ (x : List Held). Works env asked start d kept pending x) (sym e) w)))
