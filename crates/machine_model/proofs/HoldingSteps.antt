-- Each step keeps what holds of strands: what a frame's effect does, but for the making of strands.
use Rattle.std.proofs.Common.{◌≡◌, ◌≢◌, ◌+◌, ◌++◌, ◌==◌, ◌&&◌, ◌∙◌, ℕ, Bool, true, false, List, [], ◌∷◌, Option, Some, None, refl, sym, subst, ap, inl, inr, ◌⊎◌, arith}
use Rattle.std.specs.Prelude.{⊤, get_or, if◌then◌else◌, map, option_map, remove, slice_get, slice_set}
use Rattle.std.proofs.lemmas.Bool.{eqb-true}
use Rattle.std.proofs.lemmas.List.{get_or-set_other, length-map, length-set}
use Rattle.operations.specs.declared.operation.Operation.{Operation}
use Rattle.value_model.specs.declared.value.Value.{Value}
use Rattle.value_model.specs.Meaning.{Answers}
use Rattle.op_model.specs.Common.{Common, End, Returned, Panicked, Need, Role, Status, IsActive, IsBlocked, IsEnded}
use Rattle.op_model.specs.Effects.{Fails, Waits, Enters, Leaves}
use Rattle.op_model.specs.Strands.{end_in, ended_count, is_success, met, settled, strand_blocked, strand_ended, wakes, woken, workers_ended}
use Rattle.machine_model.specs.Machine.{Machine, Does, Frame, State, Next, Moved, Blocked, Ended, NeedsTick, Limit, caller, carried, frames_from, given, goes_on, goes_to, left_with, next_units, put, roles_left, roles_to, unwound}
use Rattle.machine_model.specs.Runs.{Phase, Running, Picking, picked, taken_up}
use Rattle.machine_model.specs.Strands.{HasRole, frames_in, frames_of, roles_of}
use Rattle.machine_model.proofs.Alike.{Alike, Calm, board, calm-still, seen}
use Rattle.machine_model.proofs.BoardChanges.{picked-held, pushed-held, settled-held, settled-status, stopped-held, stopped-here, stopped_so}
use Rattle.machine_model.proofs.Boards.{AreThere, Held, Moves, same-roles, status_in}
use Rattle.machine_model.proofs.Commons.{board-settled, board-stopped, unmet-blocked, unmet-calm, unmet-picked, unmet-settled}
use Rattle.machine_model.proofs.Holding.{AskWaits, Inner, OfOwn, TopWaitsAs, moved-inner, roles_in, stops-inner, top-stays}
use Rattle.machine_model.proofs.Once.{some-same}
use Rattle.machine_model.proofs.Onward.{Onward, at, at-still, closes-held, onward-alike, onward-all-closed, onward-run, onward-settled, onward-stopped, onward-then}
use Rattle.machine_model.proofs.Places.{if-other, if-same, same-or}
use Rattle.machine_model.proofs.Shapes.{WaitsAs}
use Rattle.machine_model.proofs.Waiting.{waits-stay}

-- ---- workers are there

pub there-settled : (c : Common) → AreThere (board c) → AreThere (board (settled c))
there-settled c there a w n i =
    let lt = there a w n i in let j = length-map (map (woken c) c.strands) seen in let k = length-map c.strands (woken c) in let l = length-map c.strands seen in omega (arith, lt, j, k, l)

pub there-stopped : (c : Common) (status : Status) → AreThere (board c) → AreThere (stopped_so status (board c))
there-stopped c status there a w n i = let lt = there a w n i in let l = length-set (board c).strands c.running (record { role = (get_or (board c).strands c.running (record { role = None; status = IsActive })).role; status = status }) in omega (arith, lt, l)

pub settled-still : {phase : Phase} (c : Common) (R : ℕ → List (Option Role)) → Held phase (board c) R → Held phase (board (settled c)) R
settled-still {phase} c R h = subst (λ b. Held phase b R) (sym (board-settled c)) (settled-held (wakes c) refl (λ k end. refl) phase (board c) R h)

-- ---- frames and their roles

module _ {C : Type 0} (natives : Answers) (M : Machine C) where
  -- where a panic goes on, the workers above it have ended
  pub unwound-roles : (e : Value) (fs : List (Frame C)) → roles_of fs ≡ roles_left M e fs ++ roles_of (unwound M e fs)
  unwound-roles e [] = refl
  unwound-roles e (f ∷ fs) = by (M.catch f.control e) (unwound-roles e fs)
    where
      by : (o : Option C) → roles_of fs ≡ roles_left M e fs ++ roles_of (unwound M e fs) → f.role ∷ roles_of fs ≡ roles_to f.role (roles_left M e fs) o ++ roles_of (frames_from f fs (unwound M e fs) o)
      by (Some k) h = refl
      by None h = ap (λ l. f.role ∷ l) h

  given-roles : (v : Value) (fs : List (Frame C)) → roles_of (given M v fs) ≡ roles_of fs
  given-roles v [] = refl
  given-roles v (f ∷ fs) = refl

  -- strand 0 alone begins a further unit
  next-first : (c : Common) (end : End) (u : ℕ × List Value) (us : List (ℕ × List Value)) → next_units c end ≡ u ∷ us → c.running ≡ 0
  next-first c end u us e = by (c.running == 0) refl
    where
      by : (b : Bool) → c.running == 0 ≡ b → c.running ≡ 0
      by true is = eqb-true c.running 0 is
      by false is = absurd (let none : next_units c end ≡ [] = ap (λ b. if b && is_success (Some end) then c.to_run else []) is in let bad : ⊥ = cc in bad)

  abbrev pub ComesInner : Option (Next C) → Type 0
  ComesInner (Some (Moved t)) = Inner natives M Running t
  ComesInner (Some (Blocked t)) = Inner natives M Picking t
  ComesInner (Some (Ended t)) = Inner natives M Picking t
  ComesInner (Some NeedsTick) = ⊤
  ComesInner (Some (Limit limit)) = ⊤
  ComesInner None = ⊤

  module _ (s : State C) (inner : Inner natives M Running s) where
    abbrev n0 : ℕ
    n0 = s.common.running

    abbrev R0 : ℕ → List (Option Role)
    R0 = roles_in natives M Running s

    abbrev Leads : Common → Common → Type 0
    Leads c d = Onward (λ r. HasRole r (R0 n0)) c d

    pub goes-on-inner : (x : Common) (end : End) (gs : List (Frame C)) → Leads s.common x → Held Running (board x) (at n0 (roles_of gs) R0) → AreThere (board x) → ComesInner (goes_on M s x end gs)
    goes-on-inner x end (g ∷ gs) goes held there =
        moved-inner natives M s inner (settled x) (g ∷ gs) (λ e. let bad : ⊥ = cc in bad) (onward-then goes (onward-settled x)) (settled-still x (at n0 (roles_of (g ∷ gs)) R0) held) (there-settled x there) (unmet-settled x)
    goes-on-inner x end [] goes held there = by (next_units x end) refl
      where
        empty : at n0 [] R0 x.running ≡ []
        empty = if-same x.running n0 [] (R0 x.running) goes.running

        over : Status
        over = IsEnded (ended_count x.strands) end

        y : Common
        y = strand_ended end x

        ended : status_in (board y) n0 ≡ Some over
        ended = ap (λ k. status_in (board y) k) (sym goes.running) ∙ (ap (λ b. status_in b x.running) (board-stopped x over) ∙ stopped-here (board x) over held.runs)

        of-own : OfOwn natives M s inner (settled y) []
        of-own status is =
            let old = settled-status (wakes y) (board y) n0 status (ap (λ b. status_in b n0) (sym (board-settled y)) ∙ is) in
            let before : old.0 ≡ over = some-same old.0 over (sym old.1 ∙ ended) in
            let same : status ≡ over = old.2 ∙ ap (λ z. if wakes y z then IsActive else z) before in
            ((λ none. absurd (let some : Some end ≡ None = ap end_in (sym same) ∙ none in let bad : ⊥ = cc in bad)), (λ need e. absurd (let some : over ≡ IsBlocked need = sym same ∙ e in let bad : ⊥ = cc in bad)))

        by : (us : List (ℕ × List Value)) → next_units x end ≡ us → ComesInner (left_with M s x end us)
        by [] e =
            let stop = stopped-held (board x) (at n0 [] R0) held over refl (λ ne. empty) in
            stops-inner natives M s inner (settled y) [] (onward-then (onward-then goes (onward-stopped x over)) (onward-settled y))
            (settled-still y (at n0 [] R0) (subst (λ b. Held Picking b (at n0 [] R0)) (sym (board-stopped x over)) stop))
            (there-settled y (subst AreThere (sym (board-stopped x over)) (there-stopped x over there))) (unmet-settled y) of-own
        by (u ∷ us) e = entered (M.enter u.0 u.1)
          where
            z : Common
            z = record x { to_run = us }

            entered : (o : Option C) → ComesInner (option_map (λ f. Moved (put s (settled z) (f ∷ []))) (option_map (λ k. record { unit = u.0; role = None; control = k }) o))
            entered None = tt
            entered (Some k) =
                let moves : Moves x.running (None ∷ at n0 [] R0 x.running) (at n0 [] R0) (at n0 (None ∷ []) R0) = record {
                  here = if-same x.running n0 (None ∷ []) (R0 x.running) goes.running ∙ ap (λ l. None ∷ l) (sym empty);
                  elsewhere = λ n ne. let other : n ≢ n0 = λ is. ne (is ∙ sym goes.running) in if-other n n0 (None ∷ []) (R0 n) other ∙ sym (if-other n n0 [] (R0 n) other);
                } in
                let more = pushed-held (board x) (at n0 [] R0) (at n0 (None ∷ []) R0) held moves (inr (next-first x end u us e)) in
                moved-inner natives M s inner (settled z) (record { unit = u.0; role = None; control = k } ∷ []) (λ e. let bad : ⊥ = cc in bad)
                (onward-then (onward-then goes (onward-run x us)) (onward-settled z)) (settled-still z (at n0 (None ∷ []) R0) more) (there-settled z there) (unmet-settled z)

    -- ---- effects of the top frame

    module _ (f : Frame C) (fs : List (Frame C)) (is : s.frames ≡ f ∷ fs) where
      top : R0 n0 ≡ f.role ∷ roles_of fs
      top = ap roles_of (if-same n0 n0 s.frames (frames_of s n0) refl ∙ is)

      owned : (r : Role) → f.role ≡ Some r → HasRole r (R0 n0)
      owned r e = subst (λ l. HasRole r l) (sym top) (inl e)

      goes-alike : (d : Common) → Alike f.role s.common d → Leads s.common d
      goes-alike d alike = onward-alike s.common d owned alike

      held-alike : (d : Common) → Alike f.role s.common d → Held Running (board d) R0
      held-alike d alike = subst (λ b. Held Running b R0) (sym alike.board) inner.held

      there-alike : (d : Common) → Alike f.role s.common d → AreThere (board d)
      there-alike d alike = subst AreThere (sym alike.board) inner.there

      -- frames with the same roles
      held-same : (d : Common) → Held Running (board d) R0 → Held Running (board d) (at n0 (f.role ∷ roles_of fs) R0)
      held-same d h = same-roles (at-still n0 (f.role ∷ roles_of fs) R0 top) h

      calm-inner : (d : Common) (k : C) → Calm f.role s.common d → Inner natives M Running (put s d (goes_to f k ∷ fs))
      calm-inner d k calm =
          moved-inner natives M s inner d (goes_to f k ∷ fs) (λ e. let bad : ⊥ = cc in bad) (goes-alike d calm.alike) (held-same d (held-alike d calm.alike)) (there-alike d calm.alike) (unmet-calm s.common d calm inner.unmet)

      pub on-inner : (k : C) → Inner natives M Running (put s s.common (goes_to f k ∷ fs))
      on-inner k = calm-inner s.common k (calm-still f.role s.common)

      pub gives-inner : (d : Common) (k : C) → Calm f.role s.common d ⊎ ((e : Common) × Alike f.role s.common e × (d ≡ settled e)) → Inner natives M Running (put s d (goes_to f k ∷ fs))
      gives-inner d k (inl calm) = calm-inner d k calm
      gives-inner d k (inr (e, alike, same)) =
          subst (λ z. Inner natives M Running (put s z (goes_to f k ∷ fs))) (sym same)
          (moved-inner natives M s inner (settled e) (goes_to f k ∷ fs) (λ e. let bad : ⊥ = cc in bad) (onward-then (goes-alike e alike) (onward-settled e)) (settled-still e (at n0 (f.role ∷ roles_of fs) R0) (held-same e (held-alike e alike))) (there-settled e (there-alike e alike)) (unmet-settled e))

      closing-inner : (end : End) (roles : List (Option Role)) (gs : List (Frame C)) (d : Common) → Alike f.role s.common d → f.role ∷ roles_of fs ≡ roles ++ roles_of gs → ComesInner (goes_on M s (workers_ended end roles d) end gs)
      closing-inner end roles gs d alike e =
          let goes = goes-alike d alike in
          let x = workers_ended end roles d in
          let closed = closes-held end roles (roles_of gs) d R0 (held-alike d alike) (there-alike d alike) (ap R0 goes.running ∙ (top ∙ e)) in
          goes-on-inner x end gs (onward-then goes (onward-all-closed end roles d)) (subst (λ k. Held Running (board x) (at k (roles_of gs) R0)) goes.running closed.0) closed.1

      pub fails-inner : (e : Value) (d : Common) (k : C) → Alike f.role s.common d → ComesInner (carried M s f k fs (Fails e d))
      fails-inner e d k alike = closing-inner (Panicked e) (roles_left M e (goes_to f k ∷ fs)) (unwound M e (goes_to f k ∷ fs)) d alike (unwound-roles e (goes_to f k ∷ fs))

      pub leaves-inner : (v : Value) (k : C) → ComesInner (carried M s f k fs (Leaves v))
      leaves-inner v k = closing-inner (Returned v) (f.role ∷ []) (given M v fs) s.common (calm-still f.role s.common).alike (ap (λ l. f.role ∷ l) (sym (given-roles v fs)))

      pub enters-inner : (unit : ℕ) (args : List Value) (d : Common) (k : C) → Calm f.role s.common d → ComesInner (carried M s f k fs (Enters unit args d))
      enters-inner unit args d k calm = by (M.enter unit args)
        where
          goes : Leads s.common d
          goes = goes-alike d calm.alike

          tops : R0 d.running ≡ f.role ∷ roles_of fs
          tops = ap R0 goes.running ∙ top

          by : (o : Option C) → ComesInner (option_map (λ g. Moved (put s d (g ∷ goes_to f k ∷ fs))) (option_map (λ j. record { unit = unit; role = None; control = j }) o))
          by None = tt
          by (Some j) =
              let roles = None ∷ f.role ∷ roles_of fs in
              let moves : Moves d.running (None ∷ R0 d.running) R0 (at n0 roles R0) = record {
                here = if-same d.running n0 roles (R0 d.running) goes.running ∙ ap (λ l. None ∷ l) (sym tops);
                elsewhere = λ n ne. if-other n n0 roles (R0 n) (λ e. ne (e ∙ sym goes.running));
              } in
              moved-inner natives M s inner d (record { unit = unit; role = None; control = j } ∷ goes_to f k ∷ fs) (λ e. let bad : ⊥ = cc in bad) goes
              (pushed-held (board d) R0 (at n0 roles R0) (held-alike d calm.alike) moves (inl (λ e. let none : f.role ∷ roles_of fs ≡ [] = sym tops ∙ e in let bad : ⊥ = cc in bad))) (there-alike d calm.alike) (unmet-calm s.common d calm inner.unmet)

      pub waits-inner : (need : Need) (op : Operation) (vs : List Value) (k : C) → M.look f.unit f.control ≡ Does op vs k → WaitsAs M.facts op vs (caller f fs) s.common need × (met s.common need ≡ false) → ComesInner (carried M s f k fs (Waits need))
      waits-inner need op vs k look (waits, unmet) =
          let d = strand_blocked need s.common in
          let blocked = IsBlocked need in
          let same = sym (board-stopped s.common blocked) in
          let stop = stopped-held (board s.common) R0 inner.held blocked refl (λ ne. absurd (ne refl)) in
          let here : status_in (board d) n0 ≡ Some blocked = ap (λ b. status_in b n0) (board-stopped s.common blocked) ∙ stopped-here (board s.common) blocked inner.held.runs in
          let still : TopWaitsAs natives M d need (f ∷ fs) = subst (λ ask. AskWaits natives M d need f fs ask) (sym look) (waits-stay M.facts natives s.common d (λ a w n i. i) op vs (caller f fs) need (λ r e w. refl) waits) in
          stops-inner natives M s inner d (f ∷ fs) (onward-stopped s.common blocked)
          (same-roles (at-still n0 (f.role ∷ roles_of fs) R0 top) (subst (λ b. Held Picking b R0) same stop)) (subst AreThere same (there-stopped s.common blocked inner.there))
          (unmet-blocked s.common need inner.held.runs inner.unmet unmet)
          (λ status at. let now : status ≡ blocked = some-same status blocked (sym at ∙ here) in
          ((λ none e. let bad : ⊥ = cc in bad), (λ other e. let one : need ≡ other = (let both : blocked ≡ IsBlocked other = sym now ∙ e in cc) in subst (λ z. TopWaitsAs natives M d z (f ∷ fs)) one still)))

  -- ---- picks

  pub picked-inner : (s : State C) (place k : ℕ) → Inner natives M Picking s → slice_get s.common.ready place ≡ Some k → Inner natives M Running (picked s place k)
  picked-inner s place k inner e =
      record {
        held = same-roles (λ n. ap roles_of (same n)) (picked-held (board s.common) (roles_in natives M Picking s) inner.held place k e);
        there = inner.there;
        unmet = unmet-picked s.common (remove s.common.ready place) k (s.common.picks + 1) inner.unmet;
        queues = inner.queues;
        stopped = λ n need is. subst (λ l. TopWaitsAs natives M (taken_up s.common place k) need l) (sym (same n)) (top-stays natives M s.common (taken_up s.common place k) need (frames_of s n) (λ a w j i. i) (λ r i w. refl) (inner.stopped n need is));
        manned = λ n status is none empty. inner.manned n status is none (sym (same n) ∙ empty);
        count = length-set s.others k [] ∙ inner.count;
      }
    where
      same : (n : ℕ) → frames_in Running (picked s place k) n ≡ frames_of s n
      same n = by (same-or n k)
        where
          by : (n ≡ k) ⊎ (n ≢ k) → frames_in Running (picked s place k) n ≡ frames_of s n
          by (inl is) = if-same n k (frames_of s k) (get_or (slice_set s.others k []) n []) is ∙ ap (frames_of s) (sym is)
          by (inr ne) = if-other n k (frames_of s k) (get_or (slice_set s.others k []) n []) ne ∙ get_or-set_other s.others k n [] [] ne
