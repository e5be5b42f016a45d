-- Each run of a machine is one of another whose frames follow.
use Rattle.std.proofs.Common.{◌≡◌, ℕ, suc, List, [], ◌∷◌, ◌++◌, Some, refl, sym, subst, ap, inl, inr, ◌∙◌}
use Rattle.std.specs.Prelude.{slice_get}
use Rattle.bal_base.specs.declared.fault.LimitKind.{LimitKind}
use Rattle.bal_base.specs.declared.text.Text.{Text}
use Rattle.value_model.specs.Meaning.{Answers}
use Rattle.op_model.specs.Common.{Common}
use Rattle.machine_model.specs.Machine.{Machine, Frame, State, Moved, Blocked, Ended, NeedsTick, Limit, Step}
use Rattle.machine_model.specs.Runs.{AreWords, Phase, Running, Picking, Stop, Over, TicksSpent, PastLimit, Runs, moves, blocks, ends, needs_tick, passes, picks, over, picked, taken_up, IsReached, after_move, after_block, after_end, after_pick}
use Rattle.machine_model.specs.Following.{FramesFollow, AreFine}
use Rattle.machine_model.specs.Matching.{StateMatch}
use Rattle.machine_model.proofs.Lifts.{picked-match}
use Rattle.machine_model.proofs.Steps.{Moves, stay, move, Lifted, step-lifts, FineTop}

module _ {A : Type 0} (natives : Answers) (M : Machine A) (words : List Text) (input : List ℕ) (ticks : ℕ) where
  abbrev pub Came : Phase → State A → Type 0
  Came phase s = IsReached natives M words input ticks phase s

  pub came-moved : (s t : State A) → Came Running s → Step natives M s (Moved t) → Came Running t
  came-moved s t (n, order, r) h = (suc n, order, after_move r h)

  pub came-blocked : (s t : State A) → Came Running s → Step natives M s (Blocked t) → Came Picking t
  came-blocked s t (n, order, r) h = (suc n, order, after_block r h)

  pub came-ended : (s t : State A) → Came Running s → Step natives M s (Ended t) → Came Picking t
  came-ended s t (n, order, r) h = (suc n, order, after_end r h)

  pub came-picked : (s : State A) (place k : ℕ) → Came Picking s → slice_get s.common.ready place ≡ Some k → Came Running (picked s place k)
  came-picked s place k (n, order, r) h = (n, order ++ place ∷ [], after_pick place r h)

pub same-picked : {A B : Type 0} (natives : Answers) (M : Machine A) (N : Machine B) (Follows : A → B → Type 0) (s : State A) (t : State B) (place n : ℕ) → StateMatch M N Follows s t → StateMatch M N Follows (picked s place n) (picked t place n)
same-picked natives M N Follows s t place n (same, fm, om) =
    let m = picked-match M N Follows s.others t.others n om in (ap (λ c. taken_up c place n) same, m.0, m.1)

module _ {A B : Type 0} (natives : Answers) (M : Machine A) (N : Machine B) (Follows : A → B → Type 0) (Fine : Common → A → Type 0) (sim : FramesFollow natives M N Follows Fine)
    (fine : AreFine natives M Fine) (words : List Text) (input : List ℕ) (ticks : ℕ) (texts : AreWords words) where
  fine-top : (s : State A) → Came natives M words input ticks Running s → FineTop natives M N Follows Fine sim s.common s.frames
  fine-top s h = by s.frames refl
    where
      by : (fs : List (Frame A)) → s.frames ≡ fs → FineTop natives M N Follows Fine sim s.common fs
      by [] e = tt
      by (f ∷ fs) e = fine words input ticks s f fs texts h e

  abbrev RunsB : Phase → State B → List ℕ → Stop → Common → Type 0
  RunsB phase t order stop c = (m : ℕ) × Runs natives N phase m t order stop c

  moved-run : {t u : State B} (order : List ℕ) (stop : Stop) (c : Common) → Moves natives N t u → RunsB Running u order stop c → RunsB Running t order stop c
  moved-run order stop c stay r = r
  moved-run order stop c (move h m) r = let k = moved-run order stop c m r in (suc k.0, moves h k.1)

  -- what is reached from a state, and then the run from there
  via-moved : (x : State A) (t : State B) (order : List ℕ) (stop : Stop) (c : Common) → Lifted natives M N Follows Fine sim (Moved x) t → ((u : State B) → StateMatch M N Follows x u → RunsB Running u order stop c) → RunsB Running t order stop c
  via-moved x t order stop c (u, same, m, inl k) more = moved-run order stop c m (more u k)
  via-moved x t order stop c (u, same, m, inr (Moved v, k, w)) more = let e = more v w in moved-run order stop c m (suc e.0, moves k e.1)
  via-moved x t order stop c (u, same, m, inr (_, k, w)) more = absurd w

  via-blocked : (x : State A) (t : State B) (order : List ℕ) (stop : Stop) (c : Common) → Lifted natives M N Follows Fine sim (Blocked x) t → ((u : State B) → StateMatch M N Follows x u → RunsB Picking u order stop c) → RunsB Running t order stop c
  via-blocked x t order stop c (u, same, m, (Blocked v, k, w)) more = let e = more v w in moved-run order stop c m (suc e.0, blocks k e.1)
  via-blocked x t order stop c (u, same, m, (_, k, w)) more = absurd w

  via-ended : (x : State A) (t : State B) (order : List ℕ) (stop : Stop) (c : Common) → Lifted natives M N Follows Fine sim (Ended x) t → ((u : State B) → StateMatch M N Follows x u → RunsB Picking u order stop c) → RunsB Running t order stop c
  via-ended x t order stop c (u, same, m, (Ended v, k, w)) more = let e = more v w in moved-run order stop c m (suc e.0, ends k e.1)
  via-ended x t order stop c (u, same, m, (_, k, w)) more = absurd w

  via-tick : (t : State B) (c : Common) → c ≡ t.common → Lifted natives M N Follows Fine sim NeedsTick t → RunsB Running t [] TicksSpent c
  via-tick t c is (u, same, m, (NeedsTick, k, w)) = subst (λ x. RunsB Running t [] TicksSpent x) (same ∙ sym is) (moved-run [] TicksSpent u.common m (0, needs_tick k))
  via-tick t c is (u, same, m, (_, k, w)) = absurd w

  via-limit : (t : State B) (c : Common) (limit : LimitKind) → c ≡ t.common → Lifted natives M N Follows Fine sim (Limit limit) t → RunsB Running t [] (PastLimit limit) c
  via-limit t c limit is (u, same, m, (Limit other, k, w)) =
      subst (λ x. RunsB Running t [] (PastLimit limit) x) (same ∙ sym is) (moved-run [] (PastLimit limit) u.common m (0, passes (subst (λ z. Step natives N u (Limit z)) (sym w) k)))
  via-limit t c limit is (u, same, m, (_, k, w)) = absurd w

  pub forth : {phase : Phase} {n : ℕ} {s : State A} {order : List ℕ} {stop : Stop} {c : Common} (t : State B) → Runs natives M phase n s order stop c → Came natives M words input ticks phase s → StateMatch M N Follows s t → RunsB phase t order stop c
  forth {s = s} {order = order} {stop = stop} {c = c} t (moves {t = x} h r) good match = via-moved x t order stop c (step-lifts natives M N Follows Fine sim s t (Moved x) (fine-top s good) match h) (λ u k. forth u r (came-moved natives M words input ticks s x good h) k)
  forth {s = s} {order = order} {stop = stop} {c = c} t (blocks {t = x} h r) good match = via-blocked x t order stop c (step-lifts natives M N Follows Fine sim s t (Blocked x) (fine-top s good) match h) (λ u k. forth u r (came-blocked natives M words input ticks s x good h) k)
  forth {s = s} {order = order} {stop = stop} {c = c} t (ends {t = x} h r) good match = via-ended x t order stop c (step-lifts natives M N Follows Fine sim s t (Ended x) (fine-top s good) match h) (λ u k. forth u r (came-ended natives M words input ticks s x good h) k)
  forth {s = s} t (needs_tick h) good match = via-tick t s.common match.0 (step-lifts natives M N Follows Fine sim s t NeedsTick (fine-top s good) match h)
  forth {s = s} t (passes {limit = limit} h) good match = via-limit t s.common limit match.0 (step-lifts natives M N Follows Fine sim s t (Limit limit) (fine-top s good) match h)
  forth {s = s} t (picks {place = place} {k = k} h r) good match =
      let e = forth (picked t place k) r (came-picked natives M words input ticks s place k good h) (same-picked natives M N Follows s t place k match) in
      (e.0, picks (subst (λ c. slice_get c.ready place ≡ Some k) match.0 h) e.1)
  forth {s = s} t (over h) good match = (0, subst (λ x. Runs natives N Picking 0 t [] Over x) (sym match.0) (over (subst (λ c. c.ready ≡ []) match.0 h)))
