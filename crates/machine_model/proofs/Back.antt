-- Each run of the machine whose frames follow is one of the first, whose frames come to what they ask.
use Rattle.std.proofs.Common.{◌≡◌, ℕ, zero, suc, ◌<◌, ◌≤◌, List, [], ◌∷◌, Some, refl, sym, subst, ap, inl, inr, arith}
use Rattle.std.specs.Prelude.{slice_get}
use Rattle.bal_base.specs.declared.fault.LimitKind.{LimitKind}
use Rattle.bal_base.specs.declared.text.Text.{Text}
use Rattle.operations.specs.declared.operation.Operation.{Operation}
use Rattle.value_model.specs.declared.value.Value.{Value}
use Rattle.value_model.specs.Meaning.{Answers}
use Rattle.op_model.specs.Common.{Common}
use Rattle.op_model.specs.Performs.{Performs}
use Rattle.machine_model.specs.Machine.{Machine, On, Does, Stuck, Frame, State, Next, Moved, Blocked, Ended, NeedsTick, Limit, goes_to, caller, carried, Takes, TakesTop, Step}
use Rattle.machine_model.specs.Runs.{AreWords, Phase, Running, Picking, Stop, Over, TicksSpent, PastLimit, Runs, moves, blocks, ends, needs_tick, passes, picks, over, picked}
use Rattle.machine_model.specs.Steps.{state_at}
use Rattle.machine_model.specs.Following.{AreAlike, Quiet, here, step, Held, ComesTo, FramesFollow, AreFine, Settles, asks, stuck, on}
use Rattle.machine_model.specs.Matching.{AskAlike, SameCall, BelowMatch, FramesMatch, OthersMatch, StateMatch}
use Rattle.machine_model.proofs.Lifts.{NextMatch, carried-match, back-some, goes-on, same-caller}
use Rattle.machine_model.proofs.Steps.{one-quiet}
use Rattle.machine_model.proofs.Quietly.{quietly, quiet-then, quiet-past}
use Rattle.machine_model.proofs.Forth.{Came, came-moved, came-blocked, came-ended, came-picked, same-picked}

-- a running strand that can do nothing has no run
module _ {C : Type 0} (natives : Answers) (M : Machine C) where
  no-run : (n : ℕ) (t : State C) (order : List ℕ) (stop : Stop) (end : Common) → ((next : Next C) → Step natives M t next → ⊥) → Runs natives M Running n t order stop end → ⊥
  no-run n t order stop end none (moves {t = u} h r) = none (Moved u) h
  no-run n t order stop end none (blocks {t = u} h r) = none (Blocked u) h
  no-run n t order stop end none (ends {t = u} h r) = none (Ended u) h
  no-run n t order stop end none (needs_tick h) = none NeedsTick h
  no-run n t order stop end none (passes {limit = limit} h) = none (Limit limit) h

  pub stuck-run : (c : Common) (f : Frame C) (a : C) (fs : List (Frame C)) (os : List (List (Frame C))) (n : ℕ) (order : List ℕ) (stop : Stop) (end : Common) → M.look f.unit a ≡ Stuck → Runs natives M Running n (state_at c f a fs os) order stop end → ⊥
  stuck-run c f a fs os n order stop end e r =
      no-run n (state_at c f a fs os) order stop end (λ next h. subst (λ x. Takes natives M (state_at c f a fs os) (goes_to f a) fs x next) e h) r

  pub empty-run : (n : ℕ) (t : State C) (order : List ℕ) (stop : Stop) (end : Common) → t.frames ≡ [] → Runs natives M Running n t order stop end → ⊥
  empty-run n t order stop end e r = no-run n t order stop end (λ next h. subst (λ l. TakesTop natives M t l next) e h) r

module _ {A B : Type 0} (natives : Answers) (M : Machine A) (N : Machine B) (Follows : A → B → Type 0) (Fine : Common → A → Type 0) (sim : FramesFollow natives M N Follows Fine)
    (fine : AreFine natives M Fine) (words : List Text) (input : List ℕ) (ticks : ℕ) (texts : AreWords words) where
  abbrev pub IsCame : Phase → State A → Type 0
  IsCame phase s = Came natives M words input ticks phase s

  -- ---- where both machines ask for the same

  abbrev pub Asked : ℕ → A → B → Type 0
  Asked unit x y = AskAlike M N Follows natives unit x y

  abbrev pub Meet : Common → Frame A → List (Frame A) → List (List (Frame A)) → A → B → Type 0
  Meet c f fs os a b =
      (x : A) × (y : B) × Quiet natives M (caller f fs) c a x × Quiet natives N (caller f fs) c b y × IsCame Running (state_at c f x fs os) × Asked f.unit x y

  pub meet : (c : Common) (f : Frame A) (fs : List (Frame A)) (os : List (List (Frame A))) {a : A} (b : B) → Settles M f.unit a → IsCame Running (state_at c f a fs os) → Follows a b → Meet c f fs os a b
  meet c f fs os {a = a} b (asks {k = k} {op = op} {vs = vs} e) good r =
      let h : ComesTo M N Follows natives (caller f fs) c a (Does op vs k) b = subst (λ o. ComesTo M N Follows natives (caller f fs) c a o b) e (sim.answers (caller f fs) c a b (fine words input ticks (state_at c f a fs os) (goes_to f a) fs texts good refl) r) in
      (a, h.0, here, h.3, good, inl (op, vs, k, h.1, h.2, e, h.4, h.5, h.6))
  meet c f fs os {a = a} b (stuck e) good r =
      let h : ComesTo M N Follows natives (caller f fs) c a Stuck b = subst (λ o. ComesTo M N Follows natives (caller f fs) c a o b) e (sim.answers (caller f fs) c a b (fine words input ticks (state_at c f a fs os) (goes_to f a) fs texts good refl) r) in
      (a, h.0, here, h.1, good, inr (e, h.2))
  meet c f fs os {a = a} b (on {b = x} e more) good r =
      let h : ComesTo M N Follows natives (caller f fs) c a (On x) b = subst (λ o. ComesTo M N Follows natives (caller f fs) c a o b) e (sim.answers (caller f fs) c a b (fine words input ticks (state_at c f a fs os) (goes_to f a) fs texts good refl) r) in
      let kept = came-moved natives M words input ticks (state_at c f a fs os) (state_at c f x fs os) good (one-quiet natives M c f fs os a x e) in
      let k = meet c f fs os h.0 more kept h.2 in
      (k.0, k.1, step e k.2, quietly natives N h.1 k.3, k.4, k.5)

  -- ---- what is to be shown for runs of m steps

  abbrev RunsA : Phase → State A → List ℕ → Stop → Common → Type 0
  RunsA phase s order stop c = (n : ℕ) × Runs natives M phase n s order stop c

  abbrev IsBack : Phase → ℕ → Type 0
  IsBack phase m = (s : State A) (t : State B) (order : List ℕ) (stop : Stop) (c : Common) → Runs natives N phase m t order stop c → IsCame phase s → StateMatch M N Follows s t → RunsA phase s order stop c

  back-picking : (m : ℕ) → IsBack Running m → IsBack Picking m
  back-picking m ih s t order stop c (picks {place = place} {k = k} h r) good match =
      let h' = subst (λ x. slice_get x.ready place ≡ Some k) (sym match.0) h in
      let e = ih (picked s place k) (picked t place k) _ stop c r (came-picked natives M words input ticks s place k good h') (same-picked natives M N Follows s t place k match) in
      (e.0, picks h' e.1)
  back-picking m ih s t order stop c (over h) good match = (0, subst (λ x. Runs natives M Picking 0 s [] Over x) match.0 (over (subst (λ x. x.ready ≡ []) (sym match.0) h)))

  -- the first machine makes the step that the second made, and goes on
  with-moved : (s : State A) → IsCame Running s → (next : Next A) (t : State B) (k : ℕ) (order : List ℕ) (stop : Stop) (end : Common) → Step natives M s next → NextMatch M N Follows next (Moved t) → IsBack Running k → Runs natives N Running k t order stop end → RunsA Running s order stop end
  with-moved s good (Moved x) t k order stop end h w ih r = let e = ih x t order stop end r (came-moved natives M words input ticks s x good h) w in (suc e.0, moves h e.1)
  with-moved s good _ t k order stop end h w ih r = absurd w

  with-blocked : (s : State A) → IsCame Running s → (next : Next A) (t : State B) (k : ℕ) (order : List ℕ) (stop : Stop) (end : Common) → Step natives M s next → NextMatch M N Follows next (Blocked t) → IsBack Running k → Runs natives N Picking k t order stop end → RunsA Running s order stop end
  with-blocked s good (Blocked x) t k order stop end h w ih r = let e = back-picking k ih x t order stop end r (came-blocked natives M words input ticks s x good h) w in (suc e.0, blocks h e.1)
  with-blocked s good _ t k order stop end h w ih r = absurd w

  with-ended : (s : State A) → IsCame Running s → (next : Next A) (t : State B) (k : ℕ) (order : List ℕ) (stop : Stop) (end : Common) → Step natives M s next → NextMatch M N Follows next (Ended t) → IsBack Running k → Runs natives N Picking k t order stop end → RunsA Running s order stop end
  with-ended s good (Ended x) t k order stop end h w ih r = let e = back-picking k ih x t order stop end r (came-ended natives M words input ticks s x good h) w in (suc e.0, ends h e.1)
  with-ended s good _ t k order stop end h w ih r = absurd w

  with-tick : (s : State A) (next : Next A) → Step natives M s next → NextMatch M N Follows next NeedsTick → RunsA Running s [] TicksSpent s.common
  with-tick s NeedsTick h w = (0, needs_tick h)
  with-tick s _ h w = absurd w

  with-limit : (s : State A) (next : Next A) (limit : LimitKind) → Step natives M s next → NextMatch M N Follows next (Limit limit) → RunsA Running s [] (PastLimit limit) s.common
  with-limit s (Limit other) limit h w = (0, passes (subst (λ z. Step natives M s (Limit z)) w h))
  with-limit s _ limit h w = absurd w

  -- the frame of the second machine asks for an operation: its step is a step of the first one
  pub back-asked : (c : Common) (f : Frame A) (g : Frame B) (fs : List (Frame A)) (gs : List (Frame B)) (os : List (List (Frame A))) (ps : List (List (Frame B))) (x k : A) (y m : B) (op other : Operation) (vs : List Value) → SameCall f g → OthersMatch M N Follows os ps → BelowMatch M N Follows fs gs → M.look f.unit x ≡ Does op vs k → N.look g.unit y ≡ Does other vs m → AreAlike N.facts natives op other → Held M N Follows op other x y k m → (next : Next B) → Step natives N (state_at c g y gs ps) next → (first : Next A) × Step natives M (state_at c f x fs os) first × NextMatch M N Follows first next
  back-asked c f g fs gs os ps x k y m op other vs call om below e d alike held next h =
      let s = state_at c f x fs os in
      let t = state_at c g y gs ps in
      let taken : Takes natives N t (goes_to g y) gs (Does other vs m) next = subst (λ a. Takes natives N t (goes_to g y) gs a next) d h in
      let effect = taken.0 in
      let performs : Performs M.facts natives op vs (caller f fs) c effect =
      subst (λ z. Performs z natives op vs (caller f fs) c effect) (sym sim.facts) (subst (λ z. Performs N.facts natives op vs z c effect) (sym (same-caller M N Follows f g fs gs call below)) ((alike vs (caller g gs) c effect).1 taken.1)) in
      let match = carried-match M N Follows sim.enters s t (goes_to f x) (goes_to g y) op k m fs gs effect (refl, om) call (goes-on M.facts natives op vs (caller f fs) c effect performs) held below in
      let came = back-some (NextMatch M N Follows) next (carried M s (goes_to f x) k fs effect) (carried N t (goes_to g y) m gs effect) taken.2 match in
      (came.0, subst (λ a. Takes natives M s (goes_to f x) fs a came.0) (sym e) (effect, performs, came.1), came.2)

  back-step : (c : Common) (f : Frame A) (g : Frame B) (fs : List (Frame A)) (gs : List (Frame B)) (os : List (List (Frame A))) (ps : List (List (Frame B))) (x : A) (y : B) → ((next : Next B) → Step natives N (state_at c g y gs ps) next → (first : Next A) × Step natives M (state_at c f x fs os) first × NextMatch M N Follows first next) → (n : ℕ) (t : State B) (order : List ℕ) (stop : Stop) (end : Common) → t ≡ state_at c g y gs ps → Runs natives N Running n t order stop end → ((j : ℕ) → j < n → IsBack Running j) → IsCame Running (state_at c f x fs os) → RunsA Running (state_at c f x fs os) order stop end
  back-step c f g fs gs os ps x y asked n t order stop end is (moves {n = j} {t = u} h r) ih good =
      let b = asked (Moved u) (subst (λ v. Step natives N v (Moved u)) is h) in with-moved _ good b.0 u j order stop end b.1 b.2 (ih j (omega arith)) r
  back-step c f g fs gs os ps x y asked n t order stop end is (blocks {n = j} {t = u} h r) ih good =
      let b = asked (Blocked u) (subst (λ v. Step natives N v (Blocked u)) is h) in with-blocked _ good b.0 u j order stop end b.1 b.2 (ih j (omega arith)) r
  back-step c f g fs gs os ps x y asked n t order stop end is (ends {n = j} {t = u} h r) ih good =
      let b = asked (Ended u) (subst (λ v. Step natives N v (Ended u)) is h) in with-ended _ good b.0 u j order stop end b.1 b.2 (ih j (omega arith)) r
  back-step c f g fs gs os ps x y asked n t order stop end is (needs_tick h) ih good =
      let b = asked NeedsTick (subst (λ v. Step natives N v NeedsTick) is h) in
      subst (λ z. RunsA Running (state_at c f x fs os) [] TicksSpent z) (sym (ap (λ v. v.common) is)) (with-tick _ b.0 b.1 b.2)
  back-step c f g fs gs os ps x y asked n t order stop end is (passes {limit = limit} h) ih good =
      let b = asked (Limit limit) (subst (λ v. Step natives N v (Limit limit)) is h) in
      subst (λ z. RunsA Running (state_at c f x fs os) [] (PastLimit limit) z) (sym (ap (λ v. v.common) is)) (with-limit _ b.0 limit b.1 b.2)

  back-met : (c : Common) (f : Frame A) (g : Frame B) (fs : List (Frame A)) (gs : List (Frame B)) (os : List (List (Frame A))) (ps : List (List (Frame B))) (a : A) (b : B) (m : ℕ) (order : List ℕ) (stop : Stop) (end : Common) → SameCall f g → OthersMatch M N Follows os ps → BelowMatch M N Follows fs gs → Meet c f fs os a b → Runs natives N Running m (state_at c g b gs ps) order stop end → ((j : ℕ) → j < m → IsBack Running j) → RunsA Running (state_at c f a fs os) order stop end
  back-met c f g fs gs os ps a b m order stop end call om below (x, y, p, q, good, met) r ih = by met
    where
      past : (n : ℕ) × (n ≤ m) × Runs natives N Running n (state_at c g y gs ps) order stop end
      past = quiet-past natives N c g gs ps order stop end m (subst (λ z. Quiet natives N z c b y) (same-caller M N Follows f g fs gs call below) q) r

      by : Asked f.unit x y → RunsA Running (state_at c f a fs os) order stop end
      by (inl (op, vs, k, l, other, e, d, alike, held)) =
          quiet-then natives M c f fs os order stop end p
          (back-step c f g fs gs os ps x y (back-asked c f g fs gs os ps x k y l op other vs call om below e (subst (λ u. N.look u y ≡ Does other vs l) call.0 d) alike held) past.0 (state_at c g y gs ps) order stop end refl past.2 (λ j lt. ih j (omega (arith, lt, past.1))) good)
      by (inr (e, d)) = absurd (stuck-run natives N c g y gs ps past.0 order stop end (subst (λ u. N.look u y ≡ Stuck) call.0 d) past.2)

  module _ (settle : (unit : ℕ) (a : A) → Settles M unit a) where
    back-top : (m : ℕ) → ((j : ℕ) → j < m → IsBack Running j) → IsBack Running m
    back-top m ih s t order stop end r good (same, fm, om) = by s.frames t.frames refl refl fm
      where
        by : (fs : List (Frame A)) (gs : List (Frame B)) → s.frames ≡ fs → t.frames ≡ gs → FramesMatch M N Follows fs gs → RunsA Running s order stop end
        by [] [] p q h = absurd (empty-run natives N m t order stop end q r)
        by (f ∷ fs) (g ∷ gs) p q (call, w, below) =
            let run : Runs natives N Running m (state_at t.common g g.control gs t.others) order stop end = subst (λ l. Runs natives N Running m (record { common = t.common; frames = l; others = t.others }) order stop end) q r in
            let kept : IsCame Running (state_at t.common f f.control fs s.others) =
            subst (λ c. IsCame Running (record { common = c; frames = f ∷ fs; others = s.others })) same (subst (λ l. IsCame Running (record { common = s.common; frames = l; others = s.others })) p good) in
            let back = back-met t.common f g fs gs s.others t.others f.control g.control m order stop end call om below (meet t.common f fs s.others g.control (settle f.unit f.control) kept w) run ih in
            subst (λ c. RunsA Running (record { common = c; frames = s.frames; others = s.others }) order stop end) (sym same)
            (subst (λ l. RunsA Running (record { common = t.common; frames = l; others = s.others }) order stop end) (sym p) back)
        by [] (g ∷ gs) p q h = absurd h
        by (f ∷ fs) [] p q h = absurd h

    back-below : (k m : ℕ) → m < k → IsBack Running m
    back-below zero m lt = absurd (omega (arith, lt))
    back-below (suc k) m lt = back-top m (λ j less. back-below k j (omega (arith, lt, less)))

    pub back-pick : (m : ℕ) → IsBack Picking m
    back-pick m = back-picking m (back-below (suc m) m (omega arith))
