-- What holds of all frames of a machine that ask for no `start`: what each step keeps of them, and that each strand but the first was
-- made for a named worker.
use Rattle.std.proofs.Common.{◌≡◌, ◌+◌, ◌++◌, ◌∙◌, ℕ, zero, suc, List, [], ◌∷◌, Option, Some, None, length, refl, sym, subst, ap}
use Rattle.std.specs.Prelude.{⊤, get_or, nat_le, option_map, slice_get, slice_set}
use Rattle.bal_base.specs.declared.fault.LimitKind.TheVariants.{Strands}
use Rattle.bal_base.specs.declared.text.Text.{Text}
use Rattle.operations.specs.declared.operation.Operation.{Operation}
use Rattle.operations.specs.declared.operation.Operation.TheVariants as op
use Rattle.operations.specs.Talk.{Talk, Sends, Receives, Flushes, StartsWorkers, AwaitsWorkers, NoTalk, talk_of}
use Rattle.value_model.specs.declared.value.Value.{Value}
use Rattle.value_model.specs.Meaning.{Answers}
use Rattle.op_model.specs.CallRows.{new_activation, strands_made, workers_from}
use Rattle.op_model.specs.Common.{Caller, Common, End, Returned, Panicked, Role, IsBlocked, IsEnded}
use Rattle.op_model.specs.Effects.{Effect, Gives, Fails, Waits, Enters, Leaves, Spawns, NoTick, Beyond, Spawned}
use Rattle.op_model.specs.ProgramFacts.{ProgramFacts}
use Rattle.op_model.specs.Limits.{most_strands}
use Rattle.op_model.specs.Performs.{Performs}
use Rattle.op_model.specs.Strands.{ended_count, settled, strand_at, strand_ended, with_status, worker_ended, workers_ended}
use Rattle.machine_model.specs.Machine.{Machine, Ask, On, Does, Stuck, Frame, State, Next, Moved, Blocked, Ended, NeedsTick, Limit, Step, Takes, TakesTop, all_begun, caller, carried, frames_from, given, goes_on, goes_to, left_with, next_units, put, roles_left, unwound, with_begun}
use Rattle.machine_model.specs.Runs.{IsReached, Phase, Reaches, starts, after_move, after_block, after_end, after_pick, begins_with, first_common, start, units_to_run}
use Rattle.machine_model.proofs.Once.{some-same}
use Rattle.machine_model.proofs.Shapes.{in-if, in-some}
use Rattle.lowered_ends.specs.Starting.{IsStart}
use Rattle.lowered_ends.proofs.Roles.{AreWorkers, all-ended-same, crew-named, ended-same, roles, settled-same, strand-same}
use Rattle.lowered_ends.proofs.Spawning.{KeepsRoles, performs-keeps}

-- ---- what an effect makes of strands

-- only the start of named workers says so
workers-only : (o : Operation) → talk_of o ≡ StartsWorkers → o ≡ op.Workers
workers-only op.Workers e = refl
workers-only _ e = absurd (let q : ⊥ = cc in q)

-- the strands that an effect leaves are those of workers
abbrev LeavesWorkers : Effect → Type 0
LeavesWorkers (Gives vs d) = AreWorkers (roles d)
LeavesWorkers (Fails e d) = AreWorkers (roles d)
LeavesWorkers (Enters unit args d) = AreWorkers (roles d)
LeavesWorkers (Spawns ss role vs d) = AreWorkers (roles d)
LeavesWorkers (Waits need) = ⊤
LeavesWorkers (Leaves v) = ⊤
LeavesWorkers NoTick = ⊤
LeavesWorkers (Beyond limit) = ⊤

keeps-workers : (rs : List (Option Role)) (effect : Effect) → AreWorkers rs → KeepsRoles rs effect → LeavesWorkers effect
keeps-workers rs (Gives vs d) h e = subst AreWorkers (sym e) h
keeps-workers rs (Fails v d) h e = subst AreWorkers (sym e) h
keeps-workers rs (Enters unit args d) h e = subst AreWorkers (sym e) h
keeps-workers rs (Spawns ss role vs d) h e = absurd e
keeps-workers rs (Waits need) h e = tt
keeps-workers rs (Leaves v) h e = tt
keeps-workers rs NoTick h e = tt
keeps-workers rs (Beyond limit) h e = tt

module _ (facts : ProgramFacts) (natives : Answers) (vs : List Value) (who : Caller) (c : Common) (h : AreWorkers (roles c)) where
  crew-made : (effect : Effect) → Performs facts natives op.Workers vs who c effect → LeavesWorkers effect
  crew-made effect performs =
      in-some (slice_get facts.units who.unit) performs (λ u there e.
      subst LeavesWorkers (sym e)
      (let d : Common = strands_made (workers_from (length c.activations) 1 u.workers vs) (record c { activations = c.activations ++ new_activation c who.unit (length u.workers) ∷ [] }) in
      in-if (nat_le (length c.strands + length u.workers) most_strands) LeavesWorkers (Spawns (workers_from (length c.activations) 1 u.workers vs) (Some (record { activation = length c.activations; worker = 0 })) [] d) (Beyond Strands)
      (λ b. crew-named u.workers (length c.activations) 1 vs (record c { activations = c.activations ++ new_activation c who.unit (length u.workers) ∷ [] }) h) (λ b. tt)))

  pub leaves-workers : (o : Operation) (effect : Effect) → ¬ (IsStart o) → Performs facts natives o vs who c effect → LeavesWorkers effect
  leaves-workers o effect none performs = by (talk_of o) refl
    where
      other : (t : Talk) → talk_of o ≡ t → (StartsWorkers ≡ t → ⊥) → LeavesWorkers effect
      other t e ne = keeps-workers (roles c) effect h (performs-keeps facts natives vs who c effect o none (λ is. ne (sym (ap talk_of is) ∙ e)) performs)

      by : (t : Talk) → talk_of o ≡ t → LeavesWorkers effect
      by StartsWorkers e = crew-made effect (subst (λ x. Performs facts natives x vs who c effect) (workers-only o e) performs)
      by (Sends w) e = other (Sends w) e (λ q. let z : ⊥ = cc in z)
      by (Receives w) e = other (Receives w) e (λ q. let z : ⊥ = cc in z)
      by (Flushes w) e = other (Flushes w) e (λ q. let z : ⊥ = cc in z)
      by (AwaitsWorkers ws) e = other (AwaitsWorkers ws) e (λ q. let z : ⊥ = cc in z)
      by NoTalk e = other NoTalk e (λ q. let z : ⊥ = cc in z)

-- ---- frames

module _ {C : Type 0} (natives : Answers) (M : Machine C) (F : C → Type 0) where
  -- what is asked of a frame of which it holds
  pub record AreKept : Type 0 where
    pub goes : (unit : ℕ) (a b : C) → F a → M.look unit a ≡ On b → F b
    pub asks : (unit : ℕ) (a k : C) (o : Operation) (vs : List Value) → F a → M.look unit a ≡ Does o vs k → ¬ (IsStart o) × F k
    pub resumes : (k : C) (vs : List Value) → F k → F (M.resume k vs)
    pub catches : (k x : C) (e : Value) → F k → M.catch k e ≡ Some x → F x
    pub enters : (unit : ℕ) (args : List Value) (x : C) → M.enter unit args ≡ Some x → F x

  abbrev pub AllHold : List (Frame C) → Type 0
  AllHold [] = ⊤
  AllHold (f ∷ fs) = F f.control × AllHold fs

  abbrev pub EachHolds : List (List (Frame C)) → Type 0
  EachHolds [] = ⊤
  EachHolds (x ∷ xs) = AllHold x × EachHolds xs

  pub record Holds (s : State C) : Type 0 where
    pub frames : AllHold s.frames
    pub others : EachHolds s.others
    pub workers : AreWorkers (roles s.common)

  -- ---- lists of frames

  pub at-one : (xs : List (List (Frame C))) (n : ℕ) → EachHolds xs → AllHold (get_or xs n [])
  at-one [] n h = tt
  at-one (x ∷ xs) zero h = h.0
  at-one (x ∷ xs) (suc n) h = at-one xs n h.1

  set-one : (xs : List (List (Frame C))) (n : ℕ) (y : List (Frame C)) → EachHolds xs → AllHold y → EachHolds (slice_set xs n y)
  set-one [] n y h k = tt
  set-one (x ∷ xs) zero y h k = (k, h.1)
  set-one (x ∷ xs) (suc n) y h k = (h.0, set-one xs n y h.1 k)

  more-hold : (xs ys : List (List (Frame C))) → EachHolds xs → EachHolds ys → EachHolds (xs ++ ys)
  more-hold [] ys h k = k
  more-hold (x ∷ xs) ys h k = (h.0, more-hold xs ys h.1 k)

  module _ (kept : AreKept) where
    unwound-hold : (e : Value) (fs : List (Frame C)) → AllHold fs → AllHold (unwound M e fs)
    unwound-hold e [] h = tt
    unwound-hold e (f ∷ fs) h = by (M.catch f.control e) refl (unwound-hold e fs h.1)
      where
        by : (o : Option C) → M.catch f.control e ≡ o → AllHold (unwound M e fs) → AllHold (frames_from f fs (unwound M e fs) o)
        by (Some x) is more = (kept.catches f.control x e h.0 is, h.1)
        by None is more = more

    given-hold : (v : Value) (fs : List (Frame C)) → AllHold fs → AllHold (given M v fs)
    given-hold v [] h = tt
    given-hold v (f ∷ fs) h = (kept.resumes f.control (v ∷ []) h.0, h.1)

    begun-hold : (ss : List Spawned) (more : List (List (Frame C))) → all_begun M ss ≡ Some more → EachHolds more
    begun-hold [] more e = subst EachHolds (some-same [] more e) tt
    begun-hold (s ∷ ss) more e = by (M.enter s.unit s.args) (all_begun M ss) refl refl e (λ more are. begun-hold ss more are)
      where
        frame : C → Frame C
        frame k = record { unit = s.unit; role = s.role; control = k }

        by : (o : Option C) (rest : Option (List (List (Frame C)))) → M.enter s.unit s.args ≡ o → all_begun M ss ≡ rest → with_begun M (option_map (λ k. record { unit = s.unit; role = s.role; control = k }) o) rest ≡ Some more → ((more : List (List (Frame C))) → all_begun M ss ≡ Some more → EachHolds more) → EachHolds more
        by (Some k) (Some xs) is are e others = subst EachHolds (some-same ((frame k ∷ []) ∷ xs) more e) ((kept.enters s.unit s.args k is, tt), others xs are)
        by (Some k) None is are e others = absurd (let q : ⊥ = cc in q)
        by None rest is are e others = absurd (let q : ⊥ = cc in q)

    -- ---- steps

    abbrev NextHolds : Option (Next C) → Type 0
    NextHolds (Some (Moved t)) = Holds t
    NextHolds (Some (Blocked t)) = Holds t
    NextHolds (Some (Ended t)) = Holds t
    NextHolds (Some NeedsTick) = ⊤
    NextHolds (Some (Limit limit)) = ⊤
    NextHolds None = ⊤

    module _ (s : State C) (h : Holds s) where
      goes-on-holds : (x : Common) (end : End) (gs : List (Frame C)) → AreWorkers (roles x) → AllHold gs → NextHolds (goes_on M s x end gs)
      goes-on-holds x end (g ∷ gs) workers holds = record { frames = holds; others = h.others; workers = subst AreWorkers (sym (settled-same x)) workers }
      goes-on-holds x end [] workers holds = by (next_units x end)
        where
          over : Common
          over = strand_ended end x

          over-same : roles (settled over) ≡ roles x
          over-same = settled-same over ∙ strand-same x x.running (with_status (strand_at x x.running) (IsEnded (ended_count x.strands) end)) refl

          by : (us : List (ℕ × List Value)) → NextHolds (left_with M s x end us)
          by [] = record { frames = tt; others = set-one s.others s.common.running [] h.others tt; workers = subst AreWorkers (sym over-same) workers }
          by (u ∷ us) = entered (M.enter u.0 u.1) refl
            where
              entered : (o : Option C) → M.enter u.0 u.1 ≡ o → NextHolds (option_map (λ f. Moved (put s (settled (record x { to_run = us })) (f ∷ []))) (option_map (λ k. record { unit = u.0; role = None; control = k }) o))
              entered None is = tt
              entered (Some k) is = record { frames = (kept.enters u.0 u.1 k is, tt); others = h.others; workers = subst AreWorkers (sym (settled-same (record x { to_run = us }))) workers }

      module _ (f : Frame C) (fs : List (Frame C)) (k : C) (top : F f.control) (below : AllHold fs) (asked : F k) where
        carried-holds : (effect : Effect) → LeavesWorkers effect → NextHolds (carried M s f k fs effect)
        carried-holds (Gives vs d) workers = record { frames = (kept.resumes k vs asked, below); others = h.others; workers = workers }
        carried-holds (Fails e d) workers =
            goes-on-holds (workers_ended (Panicked e) (roles_left M e (goes_to f k ∷ fs)) d) (Panicked e) (unwound M e (goes_to f k ∷ fs))
            (subst AreWorkers (sym (all-ended-same (Panicked e) (roles_left M e (goes_to f k ∷ fs)) d)) workers) (unwound-hold e (goes_to f k ∷ fs) (asked, below))
        carried-holds (Waits need) workers =
            record {
              frames = tt;
              others = set-one s.others s.common.running (f ∷ fs) h.others (top, below);
              workers = subst AreWorkers (sym (strand-same s.common s.common.running (with_status (strand_at s.common s.common.running) (IsBlocked need)) refl)) h.workers;
            }
        carried-holds (Enters unit args d) workers = entered (M.enter unit args) refl
          where
            entered : (o : Option C) → M.enter unit args ≡ o → NextHolds (option_map (λ g. Moved (put s d (g ∷ goes_to f k ∷ fs))) (option_map (λ x. record { unit = unit; role = None; control = x }) o))
            entered None is = tt
            entered (Some x) is = record { frames = (kept.enters unit args x is, (asked, below)); others = h.others; workers = workers }
        carried-holds (Leaves v) workers =
            goes-on-holds (worker_ended (Returned v) f.role s.common) (Returned v) (given M v fs)
            (subst AreWorkers (sym (ended-same (Returned v) f.role s.common)) h.workers) (given-hold v fs below)
        carried-holds (Spawns ss role vs d) workers = made (all_begun M ss) refl
          where
            made : (o : Option (List (List (Frame C)))) → all_begun M ss ≡ o → NextHolds (option_map (λ more. Moved (record { common = d; frames = record { unit = f.unit; role = role; control = M.resume k vs } ∷ fs; others = s.others ++ more })) o)
            made None is = tt
            made (Some more) is = record { frames = (kept.resumes k vs asked, below); others = more-hold s.others more h.others (begun-hold ss more is); workers = workers }
        carried-holds NoTick workers = tt
        carried-holds (Beyond limit) workers = tt

      takes-hold : (f : Frame C) (fs : List (Frame C)) (next : Next C) → F f.control → AllHold fs → (ask : Ask C) → M.look f.unit f.control ≡ ask → Takes natives M s f fs ask next → NextHolds (Some next)
      takes-hold f fs next top below (On b) look taken = subst (λ n. NextHolds (Some n)) (sym taken) (record { frames = (kept.goes f.unit f.control b top look, below); others = h.others; workers = h.workers })
      takes-hold f fs next top below (Does o vs k) look (effect, performs, came) =
          let asked = kept.asks f.unit f.control k o vs top look in
          subst NextHolds came (carried-holds f fs k top below asked.1 effect (leaves-workers M.facts natives vs (caller f fs) s.common h.workers o effect asked.0 performs))
      takes-hold f fs next top below Stuck look taken = absurd taken

      step-holds : (next : Next C) → Step natives M s next → NextHolds (Some next)
      step-holds next step = by s.frames h.frames step
        where
          by : (fs : List (Frame C)) → AllHold fs → TakesTop natives M s fs next → NextHolds (Some next)
          by [] holds taken = absurd taken
          by (f ∷ fs) holds taken = takes-hold f fs next holds.0 holds.1 (M.look f.unit f.control) refl taken

    -- ---- all states that are reached

    module _ (words : List Text) (input : List ℕ) (ticks : ℕ) where
      start-holds : (s : State C) → start M words input ticks ≡ Some s → Holds s
      start-holds s e = by (units_to_run M) e
        where
          by : (us : List (ℕ × List Value)) → begins_with M (first_common M.launch words input ticks) us ≡ Some s → Holds s
          by [] e = absurd (let q : ⊥ = cc in q)
          by (u ∷ us) e = entered (M.enter u.0 u.1) refl e
            where
              entered : (o : Option C) → M.enter u.0 u.1 ≡ o → option_map (λ f. record { common = record (first_common M.launch words input ticks) { to_run = us }; frames = []; others = (f ∷ []) ∷ [] }) (option_map (λ k. record { unit = u.0; role = None; control = k }) o) ≡ Some s → Holds s
              entered None is e = absurd (let q : ⊥ = cc in q)
              entered (Some k) is e = subst Holds (some-same _ s e) (record { frames = tt; others = ((kept.enters u.0 u.1 k is, tt), tt); workers = tt })

      reaches-hold : {phase : Phase} {n : ℕ} {order : List ℕ} {s : State C} → Reaches natives M words input ticks phase n order s → Holds s
      reaches-hold {s = s} (starts e) = start-holds s e
      reaches-hold (after_move {s = s} {t} r step) = step-holds s (reaches-hold r) (Moved t) step
      reaches-hold (after_block {s = s} {t} r step) = step-holds s (reaches-hold r) (Blocked t) step
      reaches-hold (after_end {s = s} {t} r step) = step-holds s (reaches-hold r) (Ended t) step
      reaches-hold (after_pick place {k = k} {s = s} r e) =
          let h = reaches-hold r in
          record { frames = at-one s.others k h.others; others = set-one s.others k [] h.others tt; workers = h.workers }

      pub reached-holds : (phase : Phase) (s : State C) → IsReached natives M words input ticks phase s → Holds s
      reached-holds phase s (n, order, r) = reaches-hold r
