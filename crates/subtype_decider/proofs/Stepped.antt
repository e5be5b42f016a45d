-- What a step does to what holds while a call works.
use Rattle.std.proofs.Common.{◌≡◌, ◌≢◌, ◌⊎◌, ⊎_elim, ℕ, ◌<◌, List, [], ◌∷◌, ◌++◌, take, get_or, map, Option, Some, None, All, Contains, refl, sym, subst, ◌∙◌, ap, arith}
use Rattle.std.proofs.Math.ListN.{length-set}
use Rattle.std.proofs.lemmas.Bool.{cases_order}
use Rattle.std.proofs.lemmas.Option.{slice_get_within, slice_get-get_or}
use Rattle.std.proofs.lemmas.List.{get_or-set_same, get_or-set_other}
use Rattle.std.proofs.lemmas.List.Elements.{All-contains, All-weaker, Contains-push}
use Rattle.bal_base.specs.declared.shape.Shape.{Shape}
use Rattle.type_model.specs.declared.atoms.AtomDef.{AtomDef}
use Rattle.type_diagrams.specs.declared.kind.Kind.{Kind}
use Rattle.type_diagrams.specs.declared.turn.Turn.{Turn}
use Rattle.type_diagrams.specs.declared.turn.Turn.TheVariants.{Shape as Found, Empty, Ask}
use Rattle.type_diagrams.specs.Conditions.{Condition, IsShapeOf}
use Rattle.type_diagrams.specs.Found.{FindsSimple}
use Rattle.type_diagrams.specs.Tables.{Table as Diagrams, condition}
use Rattle.type_diagrams.specs.Kept.{IsUnknown}
use Rattle.subtype_decider.specs.declared.held.Held.{Held}
use Rattle.subtype_decider.specs.Entries.{AreApart, IsFound, Knows, KnowsAll}
use Rattle.subtype_decider.specs.Leads.{LeadsTo}
use Rattle.subtype_decider.specs.Working.{Works, IsHeld, Says, LastSays, from_first}
use Rattle.subtype_decider.proofs.Members.{Any-Contains, Contains-Any, last_same}
use Rattle.subtype_decider.proofs.Grown.{Entries}
use Rattle.subtype_decider.proofs.Works.{member-leads}
use Rattle.subtype_decider.proofs.Moved.{works-retired, works-refuted, found-first}

-- a simple shape that meets the condition is one of it
pub simple-IsShapeOf : (env : List AtomDef) (c : Condition) (x : Shape) → FindsSimple c.simple (Some x) → IsShapeOf env c x
simple-IsShapeOf env c x f = (f.1, record { simple = λ is. f.2; by_kind = λ k v of_kind says. absurd (bad k (sym f.0 ∙ of_kind)) })
  where
    bad : (k : Kind) → None ≡ Some k → ⊥
    bad k p = cc

-- what is known stays known
pub found-KnowsAll : (old new : Entries) (question : ℕ) (x : Shape) → IsFound old new question x → KnowsAll old new
found-KnowsAll old new question x f q known =
    let c = Any-Contains (λ e. e.0 ≡ q) old known in
    let e : ℕ × Option Shape = (question, Some x) in
    let within = slice_get_within old f.place (question, f.before) f.was in
    subst (λ (l : Entries). Knows l q) (sym f.now)
    (⊎_elim
    (λ (is : c.1.0 ≡ f.place).
    let same : get_or old f.place c.0 ≡ (question, f.before) = some_same (get_or old f.place c.0) (sym (slice_get-get_or old f.place c.0 within) ∙ f.was) in
    let at : question ≡ q = ap (λ (g : ℕ × Option Shape). g.0) (sym same ∙ sym (ap (λ k. get_or old k c.0) is) ∙ c.1.2) ∙ c.2 in
    (f.place, e, omega (arith, within, length-set old f.place e), get_or-set_same old f.place e e within, at))
    (λ (o : (c.1.0 < f.place) ⊎ (f.place < c.1.0)).
    let ne : c.1.0 ≢ f.place = ⊎_elim (λ (l : c.1.0 < f.place). omega (arith, l)) (λ (r : f.place < c.1.0). omega (arith, r)) o in
    (c.1.0, c.0, omega (arith, c.1.1, length-set old f.place e), get_or-set_other old f.place c.1.0 e c.0 ne ∙ c.1.2, c.2))
    (cases_order c.1.0 f.place))
  where
    some_same : (g : ℕ × Option Shape) → Some g ≡ Some (question, f.before) → g ≡ (question, f.before)
    some_same g p = cc

module _ (env : List AtomDef) (asked start : ℕ) (d : Diagrams) (kept : Entries) (pending judged : List Held) (w : Works env asked start d kept pending judged) where
  pub pending-known : All (λ h. Knows kept h.question) pending
  pending-known = All-weaker (IsHeld env d kept) (λ h. Knows kept h.question) (λ h is. Contains-Any (λ e. e.0 ≡ h.question) kept (h.question, None) is.held refl) pending w.held_pending

  pub ask-leads : (q : ℕ) → LastSays env d kept pending (Ask q) → LeadsTo env (condition d asked) (condition d q)
  ask-leads q s =
      let last : Contains pending s.1 = subst (λ (l : List Held). Contains l s.1) (sym s.2) (Contains-push s.0 s.1) in
      member-leads env asked start d kept pending judged w s.1 (All-contains (IsHeld env d kept) pending s.1 w.held_pending last)
      (All-contains (λ (h : Held). IsUnknown (take start kept) h.question) pending s.1 w.pending_new last) q s.3

  module _ (front : List Held) (h : Held) (is : pending ≡ front ++ h ∷ []) where
    split : Works env asked start d kept (front ++ h ∷ []) judged
    split = subst (λ (l : List Held). Works env asked start d kept l judged) is w

    says-last : (t : Turn) → LastSays env d kept pending t → Says env d kept h t
    says-last t s = subst (λ (k : Held). Says env d kept k t) (last_same s.0 front s.1 h (sym s.2 ∙ is)).1 s.3

    pub retired : LastSays env d kept pending Empty → Works env asked start d kept front (judged ++ h ∷ [])
    retired s = works-retired env asked start d kept front h judged split (says-last Empty s)

    pub refuted : (new : Entries) (x : Shape) → LastSays env d kept pending (Found x) → IsFound kept new h.question x → AreApart new → Works env asked start d new (map from_first (judged ++ front)) []
    refuted new x s f apart = works-refuted env asked start d kept front h judged split new x f apart (says-last (Found x) s)

    pub refuted-first : (new : Entries) (x : Shape) → LastSays env d kept pending (Found x) → IsFound kept new h.question x → AreApart new → take start new ≡ take start kept
    refuted-first new x s f apart = found-first env asked start d kept front h judged split new x f apart (says-last (Found x) s)
