-- What is known of frames holds in each state that a machine reaches.
use Rattle.std.proofs.Common.{◌≡◌, ◌++◌, ℕ, zero, suc, List, [], ◌∷◌, Option, Some, None, refl, sym, subst}
use Rattle.std.specs.Prelude.{⊤, get_or, option_map, slice_set}
use Rattle.bal_base.specs.declared.text.Text.{Text}
use Rattle.operations.specs.declared.operation.Operation.{Operation}
use Rattle.value_model.specs.declared.value.Value.{Value}
use Rattle.value_model.specs.Meaning.{Answers}
use Rattle.op_model.specs.Common.{Common, End, Returned, Panicked}
use Rattle.op_model.specs.Effects.{Effect, Gives, Fails, Waits, Enters, Leaves, Spawns, NoTick, Beyond, Spawned}
use Rattle.op_model.specs.Performs.{Performs}
use Rattle.op_model.specs.Strands.{settled, workers_ended}
use Rattle.machine_model.specs.Machine.{Machine, Ask, On, Does, Stuck, Frame, State, Next, Moved, Blocked, Ended, NeedsTick, Limit, Step, Takes, TakesTop, all_begun, caller, carried, frames_from, given, goes_on, goes_to, left_with, next_units, put, roles_left, unwound, with_begun}
use Rattle.machine_model.specs.Runs.{IsReached, Phase, Reaches, starts, after_move, after_block, after_end, after_pick, begins_with, first_common, start, units_to_run}
use Rattle.machine_model.proofs.Once.{some-same}

-- the frame is left as it is, or awaits others
abbrev pub IsLong : Effect → Type 0
IsLong (Waits need) = ⊤
IsLong (Enters unit args d) = ⊤
IsLong (Spawns ss role vs d) = ⊤
IsLong (Gives vs d) = ⊥
IsLong (Fails e d) = ⊥
IsLong (Leaves v) = ⊥
IsLong NoTick = ⊥
IsLong (Beyond limit) = ⊥

-- `Runs` is what holds of the frame that is about to go on, where this is shared, and `Rests` of one that isn't
module _ {C : Type 0} (natives : Answers) (M : Machine C) (Runs : Common → C → Type 0) (Rests : C → Type 0) where
  -- what is asked of a frame of which it holds
  pub record AreKept : Type 0 where
    pub begins : (c : Common) (a : C) → Rests a → Runs c a
    pub goes : (c : Common) (unit : ℕ) (a b : C) → Runs c a → M.look unit a ≡ On b → Runs c b
    pub gives : (c d : Common) (f : Frame C) (fs : List (Frame C)) (k : C) (o : Operation) (vs ws : List Value) → Runs c f.control → M.look f.unit f.control ≡ Does o vs k → Performs M.facts natives o vs (caller f fs) c (Gives ws d) → Runs d (M.resume k ws)
    pub waits : (c : Common) (f : Frame C) (fs : List (Frame C)) (k : C) (o : Operation) (vs : List Value) (effect : Effect) → Runs c f.control → M.look f.unit f.control ≡ Does o vs k → Performs M.facts natives o vs (caller f fs) c effect → IsLong effect → Rests f.control × Rests k
    pub resumes : (k : C) (vs : List Value) → Rests k → Rests (M.resume k vs)
    pub throws : (c : Common) (unit : ℕ) (a k x : C) (o : Operation) (vs : List Value) (e : Value) → Runs c a → M.look unit a ≡ Does o vs k → M.catch k e ≡ Some x → Rests x
    pub catches : (k x : C) (e : Value) → Rests k → M.catch k e ≡ Some x → Rests x
    pub enters : (unit : ℕ) (args : List Value) (x : C) → M.enter unit args ≡ Some x → Rests x

  abbrev pub AllRest : List (Frame C) → Type 0
  AllRest [] = ⊤
  AllRest (f ∷ fs) = Rests f.control × AllRest fs

  abbrev pub EachRests : List (List (Frame C)) → Type 0
  EachRests [] = ⊤
  EachRests (x ∷ xs) = AllRest x × EachRests xs

  abbrev pub TopRuns : Common → List (Frame C) → Type 0
  TopRuns c [] = ⊤
  TopRuns c (f ∷ fs) = Runs c f.control × AllRest fs

  pub record Holds (s : State C) : Type 0 where
    pub frames : TopRuns s.common s.frames
    pub others : EachRests s.others

  -- ---- lists of frames

  at-one : (xs : List (List (Frame C))) (n : ℕ) → EachRests xs → AllRest (get_or xs n [])
  at-one [] n h = tt
  at-one (x ∷ xs) zero h = h.0
  at-one (x ∷ xs) (suc n) h = at-one xs n h.1

  set-one : (xs : List (List (Frame C))) (n : ℕ) (y : List (Frame C)) → EachRests xs → AllRest y → EachRests (slice_set xs n y)
  set-one [] n y h k = tt
  set-one (x ∷ xs) zero y h k = (k, h.1)
  set-one (x ∷ xs) (suc n) y h k = (h.0, set-one xs n y h.1 k)

  more-rest : (xs ys : List (List (Frame C))) → EachRests xs → EachRests ys → EachRests (xs ++ ys)
  more-rest [] ys h k = k
  more-rest (x ∷ xs) ys h k = (h.0, more-rest xs ys h.1 k)

  module _ (kept : AreKept) where
    top-runs : (c : Common) (fs : List (Frame C)) → AllRest fs → TopRuns c fs
    top-runs c [] h = tt
    top-runs c (f ∷ fs) h = (kept.begins c f.control h.0, h.1)

    unwound-rest : (e : Value) (fs : List (Frame C)) → AllRest fs → AllRest (unwound M e fs)
    unwound-rest e [] h = tt
    unwound-rest e (f ∷ fs) h = by (M.catch f.control e) refl (unwound-rest e fs h.1)
      where
        by : (o : Option C) → M.catch f.control e ≡ o → AllRest (unwound M e fs) → AllRest (frames_from f fs (unwound M e fs) o)
        by (Some x) is more = (kept.catches f.control x e h.0 is, h.1)
        by None is more = more

    given-rest : (v : Value) (fs : List (Frame C)) → AllRest fs → AllRest (given M v fs)
    given-rest v [] h = tt
    given-rest v (f ∷ fs) h = (kept.resumes f.control (v ∷ []) h.0, h.1)

    begun-rest : (ss : List Spawned) (more : List (List (Frame C))) → all_begun M ss ≡ Some more → EachRests more
    begun-rest [] more e = subst EachRests (some-same [] more e) tt
    begun-rest (s ∷ ss) more e = by (M.enter s.unit s.args) (all_begun M ss) refl refl e (λ more are. begun-rest ss more are)
      where
        frame : C → Frame C
        frame k = record { unit = s.unit; role = s.role; control = k }

        by : (o : Option C) (rest : Option (List (List (Frame C)))) → M.enter s.unit s.args ≡ o → all_begun M ss ≡ rest → with_begun M (option_map (λ k. record { unit = s.unit; role = s.role; control = k }) o) rest ≡ Some more → ((more : List (List (Frame C))) → all_begun M ss ≡ Some more → EachRests more) → EachRests more
        by (Some k) (Some xs) is are e others = subst EachRests (some-same ((frame k ∷ []) ∷ xs) more e) ((kept.enters s.unit s.args k is, tt), others xs are)
        by (Some k) None is are e others = absurd (let q : ⊥ = cc in q)
        by None rest is are e others = absurd (let q : ⊥ = cc in q)

    -- ---- steps

    abbrev NextHolds : Option (Next C) → Type 0
    NextHolds (Some (Moved t)) = Holds t
    NextHolds (Some (Blocked t)) = Holds t
    NextHolds (Some (Ended t)) = Holds t
    NextHolds (Some NeedsTick) = ⊤
    NextHolds (Some (Limit limit)) = ⊤
    NextHolds None = ⊤

    module _ (s : State C) (h : Holds s) where
      goes-on-holds : (x : Common) (end : End) (gs : List (Frame C)) → AllRest gs → NextHolds (goes_on M s x end gs)
      goes-on-holds x end (g ∷ gs) holds = record { frames = top-runs (settled x) (g ∷ gs) holds; others = h.others }
      goes-on-holds x end [] holds = by (next_units x end)
        where
          by : (us : List (ℕ × List Value)) → NextHolds (left_with M s x end us)
          by [] = record { frames = tt; others = set-one s.others s.common.running [] h.others tt }
          by (u ∷ us) = entered (M.enter u.0 u.1) refl
            where
              entered : (o : Option C) → M.enter u.0 u.1 ≡ o → NextHolds (option_map (λ f. Moved (put s (settled (record x { to_run = us })) (f ∷ []))) (option_map (λ k. record { unit = u.0; role = None; control = k }) o))
              entered None is = tt
              entered (Some k) is = record { frames = (kept.begins (settled (record x { to_run = us })) k (kept.enters u.0 u.1 k is), tt); others = h.others }

      module _ (f : Frame C) (fs : List (Frame C)) (k : C) (o : Operation) (vs : List Value) (top : Runs s.common f.control) (below : AllRest fs) (look : M.look f.unit f.control ≡ Does o vs k) where
        -- where a panic in it goes on
        thrown-rest : (e : Value) → AllRest (unwound M e (goes_to f k ∷ fs))
        thrown-rest e = by (M.catch k e) refl
          where
            by : (x : Option C) → M.catch k e ≡ x → AllRest (frames_from (goes_to f k) fs (unwound M e fs) x)
            by (Some x) is = (kept.throws s.common f.unit f.control k x o vs e top look is, below)
            by None is = unwound-rest e fs below

        carried-holds : (effect : Effect) → Performs M.facts natives o vs (caller f fs) s.common effect → NextHolds (carried M s f k fs effect)
        carried-holds (Gives ws d) performs = record { frames = (kept.gives s.common d f fs k o vs ws top look performs, below); others = h.others }
        carried-holds (Fails e d) performs = goes-on-holds (workers_ended (Panicked e) (roles_left M e (goes_to f k ∷ fs)) d) (Panicked e) (unwound M e (goes_to f k ∷ fs)) (thrown-rest e)
        carried-holds (Waits need) performs =
            record { frames = tt; others = set-one s.others s.common.running (f ∷ fs) h.others ((kept.waits s.common f fs k o vs (Waits need) top look performs tt).0, below) }
        carried-holds (Enters unit args d) performs = entered (M.enter unit args) refl
          where
            entered : (x : Option C) → M.enter unit args ≡ x → NextHolds (option_map (λ g. Moved (put s d (g ∷ goes_to f k ∷ fs))) (option_map (λ x. record { unit = unit; role = None; control = x }) x))
            entered None is = tt
            entered (Some x) is =
                record { frames = (kept.begins d x (kept.enters unit args x is), ((kept.waits s.common f fs k o vs (Enters unit args d) top look performs tt).1, below)); others = h.others }
        carried-holds (Leaves v) performs = goes-on-holds _ (Returned v) (given M v fs) (given-rest v fs below)
        carried-holds (Spawns ss role ws d) performs = made (all_begun M ss) refl
          where
            made : (x : Option (List (List (Frame C)))) → all_begun M ss ≡ x → NextHolds (option_map (λ more. Moved (record { common = d; frames = record { unit = f.unit; role = role; control = M.resume k ws } ∷ fs; others = s.others ++ more })) x)
            made None is = tt
            made (Some more) is =
                record { frames = (kept.begins d (M.resume k ws) (kept.resumes k ws (kept.waits s.common f fs k o vs (Spawns ss role ws d) top look performs tt).1), below); others = more-rest s.others more h.others (begun-rest ss more is) }
        carried-holds NoTick performs = tt
        carried-holds (Beyond limit) performs = tt

      takes-hold : (f : Frame C) (fs : List (Frame C)) (next : Next C) → Runs s.common f.control → AllRest fs → (ask : Ask C) → M.look f.unit f.control ≡ ask → Takes natives M s f fs ask next → NextHolds (Some next)
      takes-hold f fs next top below (On b) look taken = subst (λ n. NextHolds (Some n)) (sym taken) (record { frames = (kept.goes s.common f.unit f.control b top look, below); others = h.others })
      takes-hold f fs next top below (Does o vs k) look (effect, performs, came) = subst NextHolds came (carried-holds f fs k o vs top below look effect performs)
      takes-hold f fs next top below Stuck look taken = absurd taken

      step-holds : (next : Next C) → Step natives M s next → NextHolds (Some next)
      step-holds next step = by s.frames h.frames step
        where
          by : (fs : List (Frame C)) → TopRuns s.common fs → TakesTop natives M s fs next → NextHolds (Some next)
          by [] holds taken = absurd taken
          by (f ∷ fs) holds taken = takes-hold f fs next holds.0 holds.1 (M.look f.unit f.control) refl taken

    -- ---- all states that are reached

    module _ (words : List Text) (input : List ℕ) (ticks : ℕ) where
      start-holds : (s : State C) → start M words input ticks ≡ Some s → Holds s
      start-holds s e = by (units_to_run M) e
        where
          by : (us : List (ℕ × List Value)) → begins_with M (first_common M.launch words input ticks) us ≡ Some s → Holds s
          by [] e = absurd (let q : ⊥ = cc in q)
          by (u ∷ us) e = entered (M.enter u.0 u.1) refl e
            where
              entered : (o : Option C) → M.enter u.0 u.1 ≡ o → option_map (λ f. record { common = record (first_common M.launch words input ticks) { to_run = us }; frames = []; others = (f ∷ []) ∷ [] }) (option_map (λ k. record { unit = u.0; role = None; control = k }) o) ≡ Some s → Holds s
              entered None is e = absurd (let q : ⊥ = cc in q)
              entered (Some k) is e = subst Holds (some-same _ s e) (record { frames = tt; others = ((kept.enters u.0 u.1 k is, tt), tt) })

      reaches-hold : {phase : Phase} {n : ℕ} {order : List ℕ} {s : State C} → Reaches natives M words input ticks phase n order s → Holds s
      reaches-hold {s = s} (starts e) = start-holds s e
      reaches-hold (after_move {s = s} {t} r step) = step-holds s (reaches-hold r) (Moved t) step
      reaches-hold (after_block {s = s} {t} r step) = step-holds s (reaches-hold r) (Blocked t) step
      reaches-hold (after_end {s = s} {t} r step) = step-holds s (reaches-hold r) (Ended t) step
      reaches-hold (after_pick place {k = k} {s = s} r e) =
          let h = reaches-hold r in
          record { frames = top-runs _ (get_or s.others k []) (at-one s.others k h.others); others = set-one s.others k [] h.others tt }

      pub reached-holds : (phase : Phase) (s : State C) → IsReached natives M words input ticks phase s → Holds s
      reached-holds phase s (n, order, r) = reaches-hold r
