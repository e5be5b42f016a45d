-- The question that is next to work on, judged as far as it can be.
use Rattle.std.proofs.Common.{◌≡◌, ◌≢◌, ◌⊎◌, ⊎_elim, inl, inr, ℕ, ◌<◌, ◌+◌, List, [], ◌∷◌, ◌++◌, length, take, get_or, set, Result, Ok, Err, IfOk, AllPairs, Any, sym, subst, ◌∙◌, ap, arith}
use Rattle.std.proofs.Math.ListN.{length-set}
use Rattle.std.proofs.Math.Seq.{map-set_same}
use Rattle.std.proofs.lemmas.Bool.{cases_order}
use Rattle.std.proofs.lemmas.List.{take_all, get_or-set_same, get_or-set_other}
use Rattle.std.proofs.lemmas.Grind.{take-set_at}
use Rattle.std.proofs.lemmas.List.Elements.{All-set}
use Rattle.bal_base.specs.declared.stop.Stop.{Stop}
use Rattle.bal_base.specs.declared.stop.Stop.TheVariants.{Memory, Fault}
use Rattle.bal_base.specs.Stops.{IfFault}
use Rattle.type_model.specs.declared.atoms.AtomDef.{AtomDef}
use Rattle.type_model.specs.declared.answers.TypeLimit.{TypeLimit}
use Rattle.type_diagrams.specs.declared.turn.Turn.{Turn}
use Rattle.type_diagrams.specs.Conditions.{Condition}
use Rattle.type_diagrams.specs.Tables.{Table as Diagrams, condition}
use Rattle.type_diagrams.specs.Whole.{Extends}
use Rattle.type_diagrams.specs.Kept.{IsUnknown}
use Rattle.subtype_decider.specs.declared.held.Held.{Held}
use Rattle.subtype_decider.specs.Closed.{HasNoShape}
use Rattle.subtype_decider.specs.Leads.{LeadsPast}
use Rattle.subtype_decider.specs.Working.{Works, IsHeld, CanJudge, HasTooMany, IsAmongHeld, Says, LastSays, questions_of}
use Rattle.subtype_decider.proofs.Members.{any_default, Any-left, Any-right, Any-append_cases}
use Rattle.subtype_decider.proofs.Grown.{Entries, condition-before}
use Rattle.subtype_decider.proofs.Dropped.{Asks}
use Rattle.subtype_decider.proofs.Works.{works-grown, held-CanJudge, arrows-LeadsPast}

-- one is written at a place, for which P holds where it did
set-Any : {X : Type 0} (P : X → Type 0) (xs : List X) (i : ℕ) (y : X) → i < length xs → (P (get_or xs i y) → P y) → Any P xs → Any P (set xs i y)
set-Any P xs i y lt f a =
    ⊎_elim
    (λ (is : a.0 ≡ i). (i, y, omega (arith, lt, length-set xs i y), get_or-set_same xs i y y lt, f (subst P (sym a.3 ∙ any_default xs a.0 a.1 y a.2 ∙ ap (λ k. get_or xs k y) is) a.4)))
    (λ (o : (a.0 < i) ⊎ (i < a.0)).
    let ne : a.0 ≢ i = ⊎_elim (λ (l : a.0 < i). omega (arith, l)) (λ (r : i < a.0). omega (arith, r)) o in
    (a.0, a.1, omega (arith, a.2, length-set xs i y), get_or-set_other xs i a.0 y a.1 ne ∙ a.3, a.4))
    (cases_order a.0 i)

pub IfFault-map : {T F : Type 0} (P Q : F → Type 0) (r : Result T (Stop F)) → ((f : F) → P f → Q f) → IfFault r P → IfFault r Q
IfFault-map P Q (Ok x) g h = h
IfFault-map P Q (Err Memory) g h = h
IfFault-map P Q (Err (Fault f)) g h = g f h

module _ (env : List AtomDef) (asked start : ℕ) (d : Diagrams) (kept : Entries) (pending judged : List Held) (w : Works env asked start d kept pending judged)
    (i : ℕ) (h : Held) (lt : i < length pending) (at : h ≡ get_or pending i h) where
  here-IsHeld : IsHeld env d kept h
  here-IsHeld = subst (IsHeld env d kept) (sym at) (w.held_pending i h lt)

  here-new : IsUnknown (take start kept) h.question
  here-new = subst (λ (k : Held). IsUnknown (take start kept) k.question) (sym at) (w.pending_new i h lt)

  pub here-CanJudge : CanJudge env d kept h
  here-CanJudge = held-CanJudge env asked start d kept pending judged w h here-IsHeld here-new

  module _ (new : Diagrams) (e : Extends (length env) d new) (after : Held) (same : after ≡ record h { next = after.next }) (can : CanJudge env new kept after) where
    question-same : after.question ≡ h.question
    question-same = ap (λ (k : Held). k.question) same

    after-new : IsUnknown (take start kept) after.question
    after-new = subst (IsUnknown (take start kept)) (sym question-same) here-new

    pub works-judged : Works env asked start new kept (set pending i after) judged
    works-judged =
        let g = works-grown env asked start d kept pending judged w new e in
        record {
          defined = g.defined;
          first = g.first;
          looks = g.looks;
          apart = g.apart;
          sound = g.sound;
          began = g.began;
          few = g.few;
          leads = g.leads;
          held_pending = All-set (IsHeld env new kept) pending i after can.held g.held_pending;
          full = g.full;
          pending_new = All-set (λ (k : Held). IsUnknown (take start kept) k.question) pending i after after-new g.pending_new;
          judged_new = g.judged_new;
          distinct = subst (λ (l : List ℕ). AllPairs (λ a b. a ≢ b) (l ++ questions_of judged)) (sym (map-set_same (λ (k : Held). k.question) pending i after h (question-same ∙ ap (λ (k : Held). k.question) at))) g.distinct;
          closed = λ q held. ⊎_elim
              (λ (none : HasNoShape env (condition new q)). inl none)
              (λ (o : IsAmongHeld (pending ++ judged) q). inr (⊎_elim
              (λ (l : IsAmongHeld pending q). Any-left (Asks q) (set pending i after) judged (set-Any (Asks q) pending i after lt (λ is. question-same ∙ ap (λ (k : Held). k.question) (at ∙ any_default pending i h after lt) ∙ is) l))
              (λ (r : IsAmongHeld judged q). Any-right (Asks q) (set pending i after) judged r)
              (Any-append_cases (Asks q) pending judged o)))
              (g.closed q held);
        }

    pub limit-LeadsPast : {T : Type 0} (r : Result T (Stop TypeLimit)) → IfFault r (HasTooMany (condition new after.question)) → IfFault r (LeadsPast env (condition d asked))
    limit-LeadsPast r h' =
        IfFault-map (HasTooMany (condition new after.question)) (LeadsPast env (condition d asked)) r
        (λ limit m. condition-before env d new e.keeps (λ (c : Condition). LeadsPast env c limit) asked w.first
        (arrows-LeadsPast env asked start new kept (set pending i after) judged works-judged after can.held after-new limit m)) h'

-- the last of the pending ones
pub written-last : (xs : List Held) (i : ℕ) (y : Held) → i + 1 ≡ length xs → set xs i y ≡ take i xs ++ y ∷ []
written-last xs i y e = sym (take_all (length xs) (set xs i y) (omega (arith, length-set xs i y))) ∙ take-set_at xs i (length xs) y (sym e) (omega (arith, e))

pub result-LastSays : {E : Type 0} (env : List AtomDef) (d : Diagrams) (kept : Entries) (pending front : List Held) (h : Held) (r : Result Turn E) → pending ≡ front ++ h ∷ [] → IfOk r (Says env d kept h) → IfOk r (LastSays env d kept pending)
result-LastSays env d kept pending front h (Ok t) e s = (front, h, e, s)
result-LastSays env d kept pending front h (Err x) e s = s
