-- What holds of the strands of any machine is kept by each step.
use Rattle.std.proofs.Common.{◌≡◌, ◌≢◌, ◌<◌, ◌∙◌, ℕ, List, [], ◌∷◌, Option, Some, None, length, refl, sym, subst, ap, inl, inr, ◌⊎◌, arith}
use Rattle.std.specs.Prelude.{slice_get}
use Rattle.std.proofs.lemmas.List.{get_or-set_other, get_or-set_same, length-set}
use Rattle.std.proofs.lemmas.Option.{slice_get_within}
use Rattle.value_model.specs.Meaning.{Answers}
use Rattle.op_model.specs.Common.{Common, Need, Role, Status, IsActive, IsBlocked}
use Rattle.op_model.specs.Strands.{activation_at, channel_at, end_in}
use Rattle.machine_model.specs.Machine.{Machine, Ask, On, Does, Stuck, Frame, State, caller, put, stopped}
use Rattle.machine_model.specs.Runs.{Phase, Running, Picking}
use Rattle.machine_model.specs.Strands.{HasRole, frames_in, frames_of, roles_of}
use Rattle.machine_model.proofs.Alike.{QueueHolds, board}
use Rattle.machine_model.proofs.Boards.{AreThere, Held, has-on, same-roles, status_in}
use Rattle.machine_model.proofs.Commons.{Unmet, strand-of}
use Rattle.machine_model.proofs.Once.{some-same}
use Rattle.machine_model.proofs.Onward.{Onward, at}
use Rattle.machine_model.proofs.Places.{if-other, if-same, same-or}
use Rattle.machine_model.proofs.Shapes.{WaitsAs}
use Rattle.machine_model.proofs.Waiting.{waits-stay}

module _ {C : Type 0} (natives : Answers) (M : Machine C) where
  abbrev pub roles_in : Phase → State C → ℕ → List (Option Role)
  roles_in phase s n = roles_of (frames_in phase s n)

  -- the frame is to do what waits so
  abbrev pub AskWaits : Common → Need → Frame C → List (Frame C) → Ask C → Type 0
  AskWaits c need f fs (Does op vs k) = WaitsAs M.facts op vs (caller f fs) c need
  AskWaits c need f fs (On k) = ⊥
  AskWaits c need f fs Stuck = ⊥

  abbrev pub TopWaitsAs : Common → Need → List (Frame C) → Type 0
  TopWaitsAs c need [] = ⊥
  TopWaitsAs c need (f ∷ fs) = AskWaits c need f fs (M.look f.unit f.control)

  pub record Inner (phase : Phase) (s : State C) : Type 0 where
    pub held : Held phase (board s.common) (roles_in phase s)
    pub there : AreThere (board s.common)
    pub unmet : Unmet s.common
    pub queues : (a v w : ℕ) → QueueHolds (channel_at s.common a v w)
    pub stopped : (n : ℕ) (need : Need) → status_in (board s.common) n ≡ Some (IsBlocked need) → TopWaitsAs s.common need (frames_in phase s n)
    pub manned : (n : ℕ) (status : Status) → status_in (board s.common) n ≡ Some status → end_in status ≡ None → frames_in phase s n ≢ []
    pub count : length s.others ≡ length s.common.strands

  -- ---- what waits still waits

  pub top-stays : (c d : Common) (need : Need) (fs : List (Frame C)) → ((a w n : ℕ) → slice_get (activation_at c a).strands w ≡ Some n → slice_get (activation_at d a).strands w ≡ Some n) → ((r : Role) → HasRole r (roles_of fs) → (w : ℕ) → (channel_at d r.activation r.worker w).sent ≡ (channel_at c r.activation r.worker w).sent) → TopWaitsAs c need fs → TopWaitsAs d need fs
  top-stays c d need [] calls sent h = absurd h
  top-stays c d need (f ∷ fs) calls sent h = by (M.look f.unit f.control) h
    where
      by : (ask : Ask C) → AskWaits c need f fs ask → AskWaits d need f fs ask
      by (Does op vs k) h = waits-stay M.facts natives c d calls op vs (caller f fs) need (λ r is w. sent r (inl is) w) h
      by (On k) h = absurd h
      by Stuck h = absurd h

  -- ---- after a step of the running strand

  module _ (s : State C) (inner : Inner Running s) where
    abbrev pub m : ℕ
    m = s.common.running

    abbrev pub R : ℕ → List (Option Role)
    R = roles_in Running s

    -- the workers of the running strand
    abbrev pub Own : Role → Type 0
    Own r = HasRole r (R m)

    abbrev pub Goes : Common → Common → Type 0
    Goes c d = Onward Own c d

    pub not-own : (n : ℕ) (r : Role) → n ≢ m → HasRole r (R n) → Own r → ⊥
    not-own n r ne i own = ne (some-same n m (sym (has-on (board s.common) n (R n) r (inner.held.on n) i).0 ∙ (has-on (board s.common) m (R m) r (inner.held.on m) own).0))

    -- of the strand that ran: it has frames as long as it has not ended, and waits if it is blocked
    abbrev pub OfOwn : Common → List (Frame C) → Type 0
    OfOwn d gs =
        (status : Status) → status_in (board d) m ≡ Some status → (end_in status ≡ None → gs ≢ []) × ((need : Need) → status ≡ IsBlocked need → TopWaitsAs d need gs)

    after-inner : (phase : Phase) (t : State C) (gs : List (Frame C)) → frames_in phase t m ≡ gs → ((n : ℕ) → n ≢ m → frames_in phase t n ≡ frames_in Running s n) → length t.others ≡ length t.common.strands → Goes s.common t.common → Held phase (board t.common) (at m (roles_of gs) R) → AreThere (board t.common) → Unmet t.common → OfOwn t.common gs → Inner phase t
    after-inner phase t gs here elsewhere count goes held there unmet own =
        record {
          held = same-roles (λ n. roles n (same-or n m)) held;
          there = there;
          unmet = unmet;
          queues = goes.queues inner.queues;
          stopped = λ n need is. stop n need is (same-or n m);
          manned = λ n status is none. man n status is none (same-or n m);
          count = count;
        }
      where
        roles : (n : ℕ) → (n ≡ m) ⊎ (n ≢ m) → roles_in phase t n ≡ at m (roles_of gs) R n
        roles n (inl e) = ap (λ k. roles_of (frames_in phase t k)) e ∙ (ap roles_of here ∙ sym (if-same n m (roles_of gs) (R n) e))
        roles n (inr ne) = ap roles_of (elsewhere n ne) ∙ sym (if-other n m (roles_of gs) (R n) ne)

        stop : (n : ℕ) (need : Need) → status_in (board t.common) n ≡ Some (IsBlocked need) → (n ≡ m) ⊎ (n ≢ m) → TopWaitsAs t.common need (frames_in phase t n)
        stop n need is (inl e) =
            subst (λ k. TopWaitsAs t.common need (frames_in phase t k)) (sym e) (subst (λ l. TopWaitsAs t.common need l) (sym here) ((own (IsBlocked need) (ap (λ k. status_in (board t.common) k) (sym e) ∙ is)).1 need refl))
        stop n need is (inr ne) =
            let before = goes.old n (IsBlocked need) ne is in
            let waited = inner.stopped n need (before.1 ∙ ap Some (before.2 need refl)) in
            subst (λ l. TopWaitsAs t.common need l) (sym (elsewhere n ne)) (top-stays s.common t.common need (frames_in Running s n) goes.calls (λ r i w. goes.sent r (λ o. not-own n r ne i o) w) waited)

        man : (n : ℕ) (status : Status) → status_in (board t.common) n ≡ Some status → end_in status ≡ None → (n ≡ m) ⊎ (n ≢ m) → frames_in phase t n ≢ []
        man n status is none (inl e) = λ empty. (own status (ap (λ k. status_in (board t.common) k) (sym e) ∙ is)).0 none (sym here ∙ (ap (λ k. frames_in phase t k) (sym e) ∙ empty))
        man n status is none (inr ne) = let before = goes.old n status ne is in λ empty. inner.manned n before.0 before.1 (before.3 none) (sym (elsewhere n ne) ∙ empty)

    pub in-range : m < length s.others
    in-range =
        let x = strand-of s.common m IsActive inner.held.runs in let lt = slice_get_within s.common.strands m x.0 x.1 in let c = inner.count in omega (arith, lt, c)

    -- the strand goes on with these frames
    pub moved-inner : (d : Common) (gs : List (Frame C)) → gs ≢ [] → Goes s.common d → Held Running (board d) (at m (roles_of gs) R) → AreThere (board d) → Unmet d → Inner Running (put s d gs)
    moved-inner d gs some goes held there unmet =
        after-inner Running (put s d gs) gs (if-same m d.running gs (frames_of s m) (sym goes.running))
        (λ n ne. if-other n d.running gs (frames_of s n) (λ e. ne (e ∙ goes.running)) ∙ sym (if-other n m s.frames (frames_of s n) ne))
        (inner.count ∙ sym goes.count) goes held there unmet
        (λ status is. let active : status ≡ IsActive = some-same status IsActive (sym is ∙ (ap (λ k. status_in (board d) k) (sym goes.running) ∙ held.runs)) in
        ((λ none. some), (λ need e. absurd (let bad : ⊥ = cc in bad))))

    -- it stops with these
    pub stops-inner : (d : Common) (gs : List (Frame C)) → Goes s.common d → Held Picking (board d) (at m (roles_of gs) R) → AreThere (board d) → Unmet d → OfOwn d gs → Inner Picking (stopped s d gs)
    stops-inner d gs goes held there unmet own =
        after-inner Picking (stopped s d gs) gs (get_or-set_same s.others m gs [] in-range)
        (λ n ne. get_or-set_other s.others m n gs [] ne ∙ sym (if-other n m s.frames (frames_of s n) ne))
        (length-set s.others m gs ∙ (inner.count ∙ sym goes.count)) goes held there unmet own
