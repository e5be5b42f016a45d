-- Each state that the machine whose frames follow reaches goes along with one that the first machine reaches.
use Rattle.std.proofs.Common.{◌≡◌, ℕ, List, [], ◌∷◌, Some, refl, sym, subst, inl, inr}
use Rattle.std.specs.Prelude.{⊤, slice_get}
use Rattle.bal_base.specs.declared.text.Text.{Text}
use Rattle.value_model.specs.Meaning.{Answers}
use Rattle.op_model.specs.Common.{Common}
use Rattle.machine_model.specs.Following.{AreFine, FramesFollow, Quiet, Settles, here, pass, step}
use Rattle.machine_model.specs.Machine.{Blocked, Does, Ended, Frame, Limit, Machine, Moved, NeedsTick, Next, State, Step, Stuck, Takes, TakesTop, caller, goes_to}
use Rattle.machine_model.specs.Matching.{Alongside, AskAlike, BelowMatch, FramesMatch, OthersMatch, ReachedFollow, SameCall, StateMatch, TopsAlong}
use Rattle.machine_model.specs.Runs.{AreWords, IsReached, Phase, Picking, Reaches, Running, after_block, after_end, after_move, after_pick, picked, start, starts}
use Rattle.machine_model.specs.Steps.{state_at}
use Rattle.machine_model.proofs.Back.{back-asked, meet}
use Rattle.machine_model.proofs.Forth.{came-blocked, came-ended, came-moved, came-picked, same-picked}
use Rattle.machine_model.proofs.Lifts.{NextMatch, back-some, same-caller}
use Rattle.machine_model.proofs.Quietly.{same-next, same-pass}
use Rattle.machine_model.proofs.SameOutcomes.{starts-match}

module _ {A B : Type 0} (natives : Answers) (M : Machine A) (N : Machine B) (Follows : A → B → Type 0) (Fine : Common → A → Type 0) (sim : FramesFollow natives M N Follows Fine)
    (fine : AreFine natives M Fine) (settle : (unit : ℕ) (a : A) → Settles M unit a) (words : List Text) (input : List ℕ) (ticks : ℕ) (texts : AreWords words) where
  abbrev IsCame : Phase → State A → Type 0
  IsCame phase s = IsReached natives M words input ticks phase s

  abbrev Met : Phase → State B → Type 0
  Met phase t = (s : State A) × IsCame phase s × Alongside M N Follows natives phase s t

  abbrev NextMet : Next B → Type 0
  NextMet (Moved t) = Met Running t
  NextMet (Blocked t) = Met Picking t
  NextMet (Ended t) = Met Picking t
  NextMet NeedsTick = ⊤
  NextMet (Limit limit) = ⊤

  came-at : (s : State A) (c : Common) (f : Frame A) (fs : List (Frame A)) → IsCame Running s → s.common ≡ c → s.frames ≡ f ∷ fs → IsCame Running (state_at c f f.control fs s.others)
  came-at s c f fs good same p = subst (λ d. IsCame Running (record { common = d; frames = f ∷ fs; others = s.others })) same (subst (λ l. IsCame Running (record { common = s.common; frames = l; others = s.others })) p good)

  -- a running frame that follows comes along
  run-along : (s : State A) (t : State B) → IsCame Running s → StateMatch M N Follows s t → Met Running t
  run-along s t good (same, fm, om) = by s.frames t.frames refl refl fm
    where
      by : (fs : List (Frame A)) (gs : List (Frame B)) → s.frames ≡ fs → t.frames ≡ gs → FramesMatch M N Follows fs gs → Met Running t
      by [] [] p q h = (s, good, (same, om, subst (λ l. TopsAlong M N Follows natives t.common l t.frames) (sym p) (subst (λ l. TopsAlong M N Follows natives t.common [] l) (sym q) tt)))
      by (f ∷ fs) (g ∷ gs) p q (call, w, below) =
          let k = meet natives M N Follows Fine sim fine words input ticks texts t.common f fs s.others g.control (settle f.unit f.control) (came-at s t.common f fs good same p) w in
          let quiet = subst (λ z. Quiet natives N z t.common g.control k.1) (same-caller M N Follows f g fs gs call below) k.3 in
          let tops : TopsAlong M N Follows natives t.common (goes_to f k.0 ∷ fs) (g ∷ gs) = (call, below, (k.1, quiet, k.5)) in
          (state_at t.common f k.0 fs s.others, k.4, (refl, om, subst (λ l. TopsAlong M N Follows natives t.common (goes_to f k.0 ∷ fs) l) (sym q) tops))
      by [] (g ∷ gs) p q h = absurd h
      by (f ∷ fs) [] p q h = absurd h

  finish : (s : State A) (first : Next A) (next : Next B) → IsCame Running s → Step natives M s first → NextMatch M N Follows first next → NextMet next
  finish s (Moved x) (Moved t) good h m = run-along x t (came-moved natives M words input ticks s x good h) m
  finish s (Blocked x) (Blocked t) good h m = (x, came-blocked natives M words input ticks s x good h, m)
  finish s (Ended x) (Ended t) good h m = (x, came-ended natives M words input ticks s x good h, m)
  finish s first NeedsTick good h m = tt
  finish s first (Limit limit) good h m = tt
  finish s _ _ good h m = absurd m

  module _ (s : State A) (c : Common) (f : Frame A) (fs : List (Frame A)) (g : Frame B) (gs : List (Frame B)) (ps : List (List (Frame B))) (good : IsCame Running s) (same : s.common ≡ c) (p : s.frames ≡ f ∷ fs)
      (om : OthersMatch M N Follows s.others ps) (call : SameCall f g) (below : BelowMatch M N Follows fs gs) where
    -- the frame of the second stands so: its next step is quiet, or one that the first makes too
    quiet-or : (b d : B) (next : Next B) → Quiet natives N (caller g gs) c b d → AskAlike M N Follows natives f.unit f.control d → Step natives N (state_at c g b gs ps) next → NextMet next
    quiet-or b d next here (inl (op, vs, k, m, other, e, look, alike, held)) h =
        let first = back-asked natives M N Follows Fine sim fine words input ticks texts c f g fs gs s.others ps f.control k b m op other vs call om below e (subst (λ u. N.look u b ≡ Does other vs m) call.0 look) alike held next h in
        finish (state_at c f f.control fs s.others) first.0 next (came-at s c f fs good same p) first.1 first.2
    quiet-or b d next here (inr (e, look)) h =
        absurd (subst (λ x. Takes natives N (state_at c g b gs ps) (goes_to g b) gs x next) (subst (λ u. N.look u b ≡ Stuck) call.0 look) h)
    quiet-or b d next (step {b = x} e q) asked h =
        subst NextMet (sym (same-next natives N c g gs ps b x next e h)) (s, good, (same, om, subst (λ l. TopsAlong M N Follows natives c l (goes_to g x ∷ gs)) (sym p) (call, below, (d, q, asked))))
    quiet-or b d next (pass {k = k} {op = op} {vs = vs} {ws = ws} e performs only q) asked h =
        subst NextMet (sym (same-pass natives N c g gs ps b k op vs ws next e only h)) (s, good, (same, om, subst (λ l. TopsAlong M N Follows natives c l (goes_to g (N.resume k ws) ∷ gs)) (sym p) (call, below, (d, q, asked))))

  next-met : (t : State B) (next : Next B) → Met Running t → Step natives N t next → NextMet next
  next-met t next (s, good, (same, om, tops)) h = by s.frames t.frames refl refl tops
    where
      by : (fs : List (Frame A)) (gs : List (Frame B)) → s.frames ≡ fs → t.frames ≡ gs → TopsAlong M N Follows natives t.common fs gs → NextMet next
      by [] [] p q k = absurd (subst (λ l. TakesTop natives N t l next) q h)
      by (f ∷ fs) (g ∷ gs) p q (call, below, (d, quiet, asked)) =
          quiet-or s t.common f fs g gs t.others good same p om call below g.control d next quiet asked (subst (λ l. Step natives N (record { common = t.common; frames = l; others = t.others }) next) q h)
      by [] (g ∷ gs) p q k = absurd k
      by (f ∷ fs) [] p q k = absurd k

  reached-met : {phase : Phase} {n : ℕ} {order : List ℕ} {t : State B} → Reaches natives N words input ticks phase n order t → Met phase t
  reached-met {t = t} (starts e) =
      let s = back-some (StateMatch M N Follows) t (start M words input ticks) (start N words input ticks) e (starts-match natives M N Follows Fine sim words input ticks) in
      (s.0, (0, [], starts s.1), s.2)
  reached-met (after_move {s = u} {t = t} r h) = next-met u (Moved t) (reached-met r) h
  reached-met (after_block {s = u} {t = t} r h) = next-met u (Blocked t) (reached-met r) h
  reached-met (after_end {s = u} {t = t} r h) = next-met u (Ended t) (reached-met r) h
  reached-met (after_pick place {k = k} {s = u} r e) = pick (reached-met r)
    where
      pick : Met Picking u → Met Running (picked u place k)
      pick (s, good, match) =
          run-along (picked s place k) (picked u place k) (came-picked natives M words input ticks s place k good (subst (λ c. slice_get c.ready place ≡ Some k) (sym match.0) e)) (same-picked natives M N Follows s u place k match)

pub reached-follow : {A B : Type 0} (natives : Answers) (M : Machine A) (N : Machine B) (Follows : A → B → Type 0) (Fine : Common → A → Type 0) → ReachedFollow natives M N Follows Fine
reached-follow natives M N Follows Fine sim fine settle words input ticks phase t texts (n, order, r) = reached-met natives M N Follows Fine sim fine settle words input ticks texts r
