-- A question is judged in full, or a shape of it is found.
use Rattle.std.proofs.Common.{◌≡◌, ◌≢◌, ◌⊎◌, ⊎_elim, inl, inr, ℕ, ◌<◌, ◌≤◌, List, [], ◌∷◌, ◌++◌, length, take, get_or, set, map, Option, Some, None, All, AllPairs, Contains, refl, sym, subst, ◌∙◌, ap, arith}
use Rattle.std.specs.List.{AllWithin}
use Rattle.std.proofs.Math.ListN.{length-set}
use Rattle.std.proofs.lemmas.Bool.{cases_order}
use Rattle.std.proofs.lemmas.Option.{slice_get_within, slice_get-get_or}
use Rattle.std.proofs.lemmas.List.{take-set-le, get_or-take, length-take-le, map-append, map_push}
use Rattle.std.proofs.lemmas.List.Elements.{All-nil, All-append, All-contains, All-weaker, All-push, All-set, All-map, AllWithin-set, Contains-push, Contains-push_cases, Contains-append_left}
use Rattle.bal_base.specs.declared.shape.Shape.{Shape}
use Rattle.type_model.specs.declared.atoms.AtomDef.{AtomDef}
use Rattle.type_diagrams.specs.Conditions.{IsShapeOf}
use Rattle.type_diagrams.specs.Tables.{Table as Diagrams, IsDiagram, condition}
use Rattle.type_diagrams.specs.Kept.{IsUnknown, IsHeldEmpty}
use Rattle.type_diagrams.specs.Turns.{IsSound}
use Rattle.subtype_decider.specs.declared.held.Held.{Held}
use Rattle.subtype_decider.specs.Entries.{AreApart, IsFound}
use Rattle.subtype_decider.specs.Closed.{HasNoShape}
use Rattle.subtype_decider.specs.Leads.{LeadsTo}
use Rattle.subtype_decider.specs.Working.{Works, IsJudged, IsHeld, IsJudgedInFull, IsAmongHeld, questions_of, from_first}
use Rattle.subtype_decider.proofs.Members.{Any-Contains, Contains-Any, Any-here, Any-left, Any-right, Any-append_cases, All-from_Contains, All-left, AllPairs-left, AllPairs-right, AllPairs-across, AllPairs-join, Contains-set, set-Contains, set-itself, Contains-map}
use Rattle.subtype_decider.proofs.Grown.{Entries}
use Rattle.subtype_decider.proofs.Dropped.{Asks, one_entry}
use Rattle.subtype_decider.proofs.Works.{held-leads}

abbrev Differ : ℕ → ℕ → Type 0
Differ a b = a ≢ b

module _ (env : List AtomDef) (asked start : ℕ) (d : Diagrams) (kept : Entries) (front : List Held) (h : Held) (judged : List Held) (w : Works env asked start d kept (front ++ h ∷ []) judged) where
  last : Contains (front ++ h ∷ []) h
  last = Contains-push front h

  last-IsHeld : IsHeld env d kept h
  last-IsHeld = All-contains (IsHeld env d kept) (front ++ h ∷ []) h w.held_pending last

  last-new : IsUnknown (take start kept) h.question
  last-new = All-contains (λ (g : Held). IsUnknown (take start kept) g.question) (front ++ h ∷ []) h w.pending_new last

  -- the questions of the three parts differ
  qs : List Held → List ℕ
  qs hs = questions_of hs

  parted : AllPairs Differ ((questions_of front ++ h.question ∷ []) ++ questions_of judged)
  parted = subst (λ (l : List ℕ). AllPairs Differ (l ++ questions_of judged)) (map_push (λ (g : Held). g.question) front h) w.distinct

  front-distinct : AllPairs Differ (questions_of front)
  front-distinct = AllPairs-left Differ (questions_of front) (h.question ∷ []) (AllPairs-left Differ (questions_of front ++ h.question ∷ []) (questions_of judged) parted)

  judged-distinct : AllPairs Differ (questions_of judged)
  judged-distinct = AllPairs-right Differ (questions_of front ++ h.question ∷ []) (questions_of judged) parted

  front-last : (n : ℕ) → Contains (questions_of front) n → n ≢ h.question
  front-last n c =
      AllPairs-across Differ (questions_of front) (h.question ∷ []) (AllPairs-left Differ (questions_of front ++ h.question ∷ []) (questions_of judged) parted) n h.question c (Contains-push [] h.question)

  last-judged : (n : ℕ) → Contains (questions_of judged) n → h.question ≢ n
  last-judged n c = AllPairs-across Differ (questions_of front ++ h.question ∷ []) (questions_of judged) parted h.question n (Contains-push (questions_of front) h.question) c

  front-judged : (m n : ℕ) → Contains (questions_of front) m → Contains (questions_of judged) n → m ≢ n
  front-judged m n a b = AllPairs-across Differ (questions_of front ++ h.question ∷ []) (questions_of judged) parted m n (Contains-append_left (questions_of front) (h.question ∷ []) m a) b

  -- which question the call works on
  among : (q : ℕ) → IsAmongHeld ((front ++ h ∷ []) ++ judged) q → IsAmongHeld front q ⊎ ((h.question ≡ q) ⊎ IsAmongHeld judged q)
  among q a =
      ⊎_elim
      (λ (l : IsAmongHeld (front ++ h ∷ []) q).
      let c = Any-Contains (Asks q) (front ++ h ∷ []) l in
      ⊎_elim (λ (f : Contains front c.0). inl (Contains-Any (Asks q) front c.0 f c.2)) (λ (is : h ≡ c.0). inr (inl (ap (λ (g : Held). g.question) is ∙ c.2))) (Contains-push_cases front h c.0 c.1))
      (λ (r : IsAmongHeld judged q). inr (inr r))
      (Any-append_cases (Asks q) (front ++ h ∷ []) judged a)

  -- ---- judged in full

  pub works-retired : h.next ≡ length h.ways.items → Works env asked start d kept front (judged ++ h ∷ [])
  works-retired full = record {
    defined = w.defined;
    first = w.first;
    looks = w.looks;
    apart = w.apart;
    sound = w.sound;
    began = w.began;
    few = w.few;
    leads = w.leads;
    held_pending = All-left (IsHeld env d kept) front (h ∷ []) w.held_pending;
    full = All-push (IsJudgedInFull env d kept) judged h w.full (record { held = last-IsHeld; full = full });
    pending_new = All-left (λ (g : Held). IsUnknown (take start kept) g.question) front (h ∷ []) w.pending_new;
    judged_new = All-push (λ (g : Held). IsUnknown (take start kept) g.question) judged h w.judged_new last-new;
    distinct =
        subst (λ (l : List ℕ). AllPairs Differ (questions_of front ++ l)) (sym (map_push (λ (g : Held). g.question) judged h))
        (AllPairs-join Differ (questions_of front) (questions_of judged ++ h.question ∷ []) front-distinct
        (AllPairs-join Differ (questions_of judged) (h.question ∷ []) judged-distinct (AllPairs-right Differ (questions_of front) (h.question ∷ []) (AllPairs-left Differ (questions_of front ++ h.question ∷ []) (questions_of judged) parted))
        (λ a b ca cb same. last-judged a ca (single b cb ∙ sym same)))
        (λ a b ca cb. ⊎_elim (λ (j : Contains (questions_of judged) b). front-judged a b ca j) (λ (is : h.question ≡ b). λ same. front-last a ca (same ∙ sym is)) (Contains-push_cases (questions_of judged) h.question b cb)));
    closed = λ q held. ⊎_elim
        (λ (none : HasNoShape env (condition d q)). inl none)
        (λ (a : IsAmongHeld ((front ++ h ∷ []) ++ judged) q). inr (⊎_elim
        (λ (f : IsAmongHeld front q). Any-left (Asks q) front (judged ++ h ∷ []) f)
        (λ (o : (h.question ≡ q) ⊎ IsAmongHeld judged q). Any-right (Asks q) front (judged ++ h ∷ []) (⊎_elim
        (λ (is : h.question ≡ q). Any-right (Asks q) judged (h ∷ []) (Any-here (Asks q) h [] is))
        (λ (j : IsAmongHeld judged q). Any-left (Asks q) judged (h ∷ []) j)
        o))
        (among q a)))
        (w.closed q held);
  }
    where
      single : (b : ℕ) → Contains (h.question ∷ []) b → h.question ≡ b
      single b c = ⊎_elim (λ (e : Contains [] b). absurd (omega (arith, e.1))) (λ (is : h.question ≡ b). is) (Contains-push_cases [] h.question b c)

  -- ---- a shape is found

  module _ (new : Entries) (x : Shape) (f : IsFound kept new h.question x) (apart : AreApart new) (shape : IsShapeOf env (condition d h.question) x) where
    within : f.place < length kept
    within = slice_get_within kept f.place (h.question, f.before) f.was

    there : (e : ℕ × Option Shape) → get_or kept f.place e ≡ (h.question, f.before)
    there e = some_same (sym (slice_get-get_or kept f.place e within) ∙ f.was)
      where
        some_same : Some (get_or kept f.place e) ≡ Some (h.question, f.before) → get_or kept f.place e ≡ (h.question, f.before)
        some_same p = cc

    -- its entry is one of this call
    behind : start ≤ f.place
    behind = ⊎_elim
        (λ (is : start ≡ f.place). omega (arith, is))
        (λ (o : (start < f.place) ⊎ (f.place < start)). ⊎_elim
        (λ (l : start < f.place). omega (arith, l))
        (λ (r : f.place < start).
        let e : ℕ × Option Shape = (h.question, f.before) in
        absurd (last-new f.place e (omega (arith, r, length-take-le start kept w.began)) (ap (λ (g : ℕ × Option Shape). g.0) (get_or-take start kept f.place e r ∙ there e))))
        o)
        (cases_order start f.place)

    pub found-first : take start new ≡ take start kept
    found-first = ap (λ (l : Entries). take start l) f.now ∙ take-set-le start kept f.place (h.question, Some x) behind

    found-length : length new ≡ length kept
    found-length = ap (λ (l : Entries). length l) f.now ∙ length-set kept f.place (h.question, Some x)

    found-one : (e : ℕ × Option Shape) → IsSound env d e → IsSound env d e
    found-one (p, Some y) s = s
    found-one (p, None) s = s

    -- other questions are held still
    found-held : (q : ℕ) → h.question ≢ q → IsHeldEmpty kept q → IsHeldEmpty new q
    found-held q ne held =
        subst (λ (l : Entries). Contains l (q, None)) (sym f.now)
        (Contains-set kept f.place (h.question, Some x) (q, None) (λ is. ne (ap (λ (g : ℕ × Option Shape). g.0) (sym (there (q, None)) ∙ is))) held)

    before : (q : ℕ) → IsHeldEmpty new q → IsHeldEmpty kept q × (h.question ≢ q)
    before q held = (
      ⊎_elim
          (λ (c : Contains kept (q, None)). c)
          (λ (is : ◌≡◌ {A = ℕ × Option Shape} (q, None) (h.question, Some x)). absurd (bad (ap (λ (g : ℕ × Option Shape). g.1) is)))
          (set-Contains kept f.place (h.question, Some x) (q, None) (subst (λ (l : Entries). Contains l (q, None)) f.now held)),
      λ is. bad (one_entry new h.question None (Some x) apart (subst (λ (p : ℕ). Contains new (p, None)) (sym is) held) (subst (λ (l : Entries). Contains l (h.question, Some x)) (sym f.now) (set-itself kept f.place (h.question, Some x) within))),
    )
      where
        bad : None ≡ Some x → ⊥
        bad p = cc

    again-IsHeld : (g : Held) → IsHeld env d kept g → h.question ≢ g.question → IsHeld env d new (from_first g)
    again-IsHeld g is ne = record {
      held = found-held g.question ne is.held;
      plain = is.plain;
      ways = is.ways;
      next = omega arith;
      judged = All-nil (IsJudged env d new);
    }

    others : List Held
    others = judged ++ front

    other-IsHeld : All (λ g. IsHeld env d new (from_first g)) (judged ++ front)
    other-IsHeld = All-append (λ g. IsHeld env d new (from_first g)) judged front
        (All-from_Contains (λ g. IsHeld env d new (from_first g)) judged (λ g c. again-IsHeld g (All-contains (IsJudgedInFull env d kept) judged g w.full c).held (last-judged g.question (Contains-map (λ (k : Held). k.question) judged g c))))
        (All-from_Contains (λ g. IsHeld env d new (from_first g)) front (λ g c. again-IsHeld g (All-contains (IsHeld env d kept) (front ++ h ∷ []) g w.held_pending (Contains-append_left front (h ∷ []) g c)) (λ is. front-last g.question (Contains-map (λ (k : Held). k.question) front g c) (sym is))))

    first-questions : (hs : List Held) → questions_of (map from_first hs) ≡ questions_of hs
    first-questions [] = refl
    first-questions (g ∷ gs) = ap (λ (l : List ℕ). g.question ∷ l) (first-questions gs)

    other-distinct : AllPairs Differ (questions_of (map from_first (judged ++ front)) ++ questions_of [])
    other-distinct =
        subst (λ (l : List ℕ). AllPairs Differ (l ++ [])) (sym (first-questions (judged ++ front) ∙ map-append (λ (g : Held). g.question) judged front))
        (AllPairs-join Differ (questions_of judged ++ questions_of front) []
        (AllPairs-join Differ (questions_of judged) (questions_of front) judged-distinct front-distinct (λ a b ca cb same. front-judged b a cb ca (sym same)))
        (λ i j e lt in_. absurd (omega (arith, in_)))
        (λ a b ca cb. absurd (omega (arith, cb.1))))

    first-among : (hs : List Held) (q : ℕ) → IsAmongHeld hs q → IsAmongHeld (map from_first hs) q
    first-among hs q a = let c = Any-Contains (Asks q) hs a in Contains-Any (Asks q) (map from_first hs) (from_first c.0) (Contains-map from_first hs c.0 c.1) c.2

    pub works-refuted : Works env asked start d new (map from_first (judged ++ front)) []
    works-refuted = record {
      defined = w.defined;
      first = w.first;
      looks = w.looks;
      apart = apart;
      sound = subst (λ (l : Entries). All (IsSound env d) l) (sym f.now)
          (All-set (IsSound env d) kept f.place (h.question, Some x) (IsDiagram-last, shape) (All-weaker (IsSound env d) (IsSound env d) found-one kept w.sound));
      began = omega (arith, w.began, found-length);
      few = omega (arith, w.few, found-length);
      leads = subst (λ (l : Entries). AllWithin Leads l start (length l)) (sym f.now)
          (subst (λ (n : ℕ). AllWithin Leads (set kept f.place (h.question, Some x)) start n) (sym (length-set kept f.place (h.question, Some x)))
          (AllWithin-set Leads kept start (length kept) f.place (h.question, Some x) within (held-leads env asked start d kept (front ++ h ∷ []) judged w h last-IsHeld last-new) w.leads));
      held_pending = All-map (IsHeld env d new) from_first (judged ++ front) other-IsHeld;
      full = All-nil (IsJudgedInFull env d new);
      pending_new = subst (λ (l : Entries). All (λ (g : Held). IsUnknown l g.question) (map from_first (judged ++ front))) (sym found-first)
          (All-map (λ (g : Held). IsUnknown (take start kept) g.question) from_first (judged ++ front)
          (All-append (λ (g : Held). IsUnknown (take start kept) g.question) judged front w.judged_new (All-left (λ (g : Held). IsUnknown (take start kept) g.question) front (h ∷ []) w.pending_new)));
      judged_new = All-nil (λ (g : Held). IsUnknown (take start new) g.question);
      distinct = other-distinct;
      closed = λ q held.
          let b = before q held in
          ⊎_elim
          (λ (none : HasNoShape env (condition d q)). inl none)
          (λ (a : IsAmongHeld ((front ++ h ∷ []) ++ judged) q). inr (Any-left (Asks q) (map from_first (judged ++ front)) [] (first-among (judged ++ front) q (⊎_elim
          (λ (l : IsAmongHeld front q). Any-right (Asks q) judged front l)
          (λ (o : (h.question ≡ q) ⊎ IsAmongHeld judged q). ⊎_elim (λ (is : h.question ≡ q). absurd (b.1 is)) (λ (j : IsAmongHeld judged q). Any-left (Asks q) judged front j) o)
          (among q a)))))
          (w.closed q b.0);
    }
      where
        Leads : ℕ × Option Shape → Type 0
        Leads e = LeadsTo env (condition d asked) (condition d e.0)

        IsDiagram-last : IsDiagram d h.question
        IsDiagram-last = All-contains (IsSound env d) kept (h.question, None) w.sound last-IsHeld.held
