-- What holds of single frames and of what they share, kept by each step, holds of each state that a machine reaches.
use Rattle.std.proofs.Common.{◌≡◌, ◌≢◌, ◌<◌, ℕ, zero, suc, ◌+◌, List, [], ◌∷◌, ◌++◌, Option, Some, None, length, refl, sym, subst, ap, inl, inr, ◌⊎◌, ◌∙◌, arith}
use Rattle.std.specs.Prelude.{⊤, get_or, option_map, slice_get, slice_set}
use Rattle.std.proofs.lemmas.List.{length-set, length-map, length-append}
use Rattle.bal_base.specs.declared.text.Text.{Text}
use Rattle.value_model.specs.declared.value.Value.{Value}
use Rattle.value_model.specs.Meaning.{Answers}
use Rattle.op_model.specs.Common.{Common, Role, End, Returned, Panicked}
use Rattle.op_model.specs.Strands.{activation_at, settled, strand_blocked, strand_ended, worker_ended, workers_ended, woken}
use Rattle.op_model.specs.Effects.{Effect, Gives, Fails, Waits, Enters, Leaves, Spawns, NoTick, Beyond, Spawned}
use Rattle.machine_model.specs.Machine.{Machine, Ask, On, Does, Stuck, Frame, State, Next, Moved, Blocked, Ended, NeedsTick, Limit, goes_to, put, stopped, next_units, frames_from, roles_to, unwound, roles_left, left_with, goes_on, given, with_begun, all_begun, carried, Takes, TakesTop, Step}
use Rattle.machine_model.specs.Runs.{AreWords, Phase, Running, Picking, picked, taken_up, Reaches, starts, after_move, after_block, after_end, after_pick}
use Rattle.machine_model.specs.Keeping.{Invariant, RunsOn, IsFresh, AreApart, ApartFrom, KeepsStrands, Caught, BelowFit, FramesFit, OthersFit, StateFits, LaterBut, AllBegin, EffectFits, AskFits, EndFits, IsKept}
use Rattle.machine_model.specs.Laws.{KeptHolds}
use Rattle.machine_model.proofs.Once.{some-same}

-- ---- what stays of strands

worker-keeps : (end : End) (role : Option Role) (c : Common) → KeepsStrands c (worker_ended end role c)
worker-keeps end None c = (refl, refl)
worker-keeps end (Some r) c = (refl, refl)

keeps-then : (c d e : Common) → KeepsStrands c d → KeepsStrands d e → KeepsStrands c e
keeps-then c d e k l = (l.0 ∙ k.0, l.1 ∙ k.1)

workers-keep : (end : End) (roles : List (Option Role)) (c : Common) → KeepsStrands c (workers_ended end roles c)
workers-keep end [] c = (refl, refl)
workers-keep end (r ∷ rs) c = keeps-then c (worker_ended end r c) (workers_ended end (r ∷ rs) c) (worker-keeps end r c) (workers-keep end rs (worker_ended end r c))

from-zero : (n : ℕ) → n ≡ 0 + n
from-zero n = omega arith

settled-keeps : (c : Common) → KeepsStrands c (settled c)
settled-keeps c = (refl, length-map c.strands (woken c))

-- ---- workers apart

apart-strands : (c : Common) (n m : ℕ) (q r : Option Role) → n ≢ m → RunsOn c n q → RunsOn c m r → AreApart q r
apart-strands c n m None r ne on other = tt
apart-strands c n m (Some a) None ne on other = tt
apart-strands c n m (Some a) (Some b) ne on other = λ e. ne (some-same n m (sym on ∙ subst (λ x. slice_get (activation_at c x.activation).strands x.worker ≡ Some m) (sym e) other))

apart-none : {C : Type 0} (fs : List (Frame C)) → ApartFrom None fs
apart-none [] = tt
apart-none (g ∷ gs) = (of g.role, apart-none gs)
  where
    of : (r : Option Role) → AreApart r None
    of (Some r) = tt
    of None = tt

module _ {C : Type 0} (natives : Answers) (M : Machine C) (I : Invariant C) where
  abbrev Below : Common → ℕ → ℕ → List (Frame C) → Type 0
  Below c n u fs = BelowFit I c n u fs

  abbrev Frames : Common → ℕ → List (Frame C) → Type 0
  Frames c n fs = FramesFit I c n fs

  -- where frames are left
  abbrev Left : Common → ℕ → List (Frame C) → Type 0
  Left c n [] = ⊤
  Left c n (f ∷ fs) = Frames c n (f ∷ fs)

  abbrev Others : Phase → Common → ℕ → List (List (Frame C)) → Type 0
  Others phase c k xs = OthersFit I phase c k xs

  abbrev Whole : State C → Type 0
  Whole s = StateFits I Running s

  abbrev Rest : State C → Type 0
  Rest s = StateFits I Picking s

  abbrev NextFits : Next C → Type 0
  NextFits (Moved s) = Whole s
  NextFits (Blocked s) = Rest s
  NextFits (Ended s) = Rest s
  NextFits NeedsTick = ⊤
  NextFits (Limit limit) = ⊤

  abbrev ComesFit : Option (Next C) → Type 0
  ComesFit (Some next) = NextFits next
  ComesFit None = ⊤

  -- ---- lists of strands

  others-past : (c : Common) (k : ℕ) (xs : List (List (Frame C))) → c.running < k → Others Running c k xs → Others Picking c k xs
  others-past c k [] l h = tt
  others-past c k (x ∷ xs) l (h, more) = ((λ i. h (λ e. absurd (omega (arith, l, e)))), others-past c (suc k) xs (omega (arith, l)) more)

  -- the running strand stops with these frames
  others-stop : (c : Common) (k n : ℕ) (xs : List (List (Frame C))) (fs : List (Frame C)) → c.running ≡ k + n → Others Running c k xs → Frames c c.running fs → Others Picking c k (slice_set xs n fs)
  others-stop c k n [] fs e h f = tt
  others-stop c k zero (x ∷ xs) fs e (h, more) f = ((λ i. subst (λ m. Frames c m fs) (omega (arith, e)) f), others-past c (suc k) xs (omega (arith, e)) more)
  others-stop c k (suc n) (x ∷ xs) fs e (h, more) f = ((λ i. h (λ is. absurd (omega (arith, e, is)))), others-stop c (suc k) n xs fs (omega (arith, e)) more f)

  -- the running strand was picked
  others-pick : (d : Common) (k n : ℕ) (xs : List (List (Frame C))) → d.running ≡ k + n → Others Picking d k xs → Others Running d k (slice_set xs n [])
  others-pick d k n [] e h = tt
  others-pick d k zero (x ∷ xs) e (h, more) = ((λ i. absurd (i (omega (arith, e)))), awake d (suc k) xs more)
    where
      awake : (d : Common) (k : ℕ) (xs : List (List (Frame C))) → Others Picking d k xs → Others Running d k xs
      awake d k [] h = tt
      awake d k (x ∷ xs) (h, more) = ((λ i. h tt), awake d (suc k) xs more)
  others-pick d k (suc n) (x ∷ xs) e (h, more) = ((λ i. h tt), others-pick d (suc k) n xs (omega (arith, e)) more)

  others-more : (c : Common) (k : ℕ) (xs ys : List (List (Frame C))) → Others Running c k xs → Others Running c (k + length xs) ys → Others Running c k (xs ++ ys)
  others-more c k [] ys h f = subst (λ m. Others Running c m ys) (omega arith) f
  others-more c k (x ∷ xs) ys (h, more) f = (h, others-more c (suc k) xs ys more (subst (λ m. Others Running c m ys) (omega arith) f))

  others-at : (c : Common) (k n : ℕ) (xs : List (List (Frame C))) → n < length xs → Others Picking c k xs → Frames c (k + n) (get_or xs n [])
  others-at c k n [] l h = absurd (omega (arith, l))
  others-at c k zero (x ∷ xs) l (h, more) = subst (λ m. Frames c m x) (omega arith) (h tt)
  others-at c k (suc n) (x ∷ xs) l (h, more) = subst (λ m. Frames c m (get_or xs n [])) (omega arith) (others-at c (suc k) n xs (omega (arith, l)) more)

  module _ (kept : IsKept natives M I) where
    -- ---- what held before holds later

    abbrev LaterAll : Common → Common → List (Frame C) → Type 0
    LaterAll c d [] = ⊤
    LaterAll c d (g ∷ gs) = I.later g.role c d × LaterAll c d gs

    for-all : (c d : Common) (fs : List (Frame C)) → ((q : Option Role) → I.later q c d) → LaterAll c d fs
    for-all c d [] h = tt
    for-all c d (g ∷ gs) h = (h g.role, for-all c d gs h)

    but-apart : (c d : Common) (role : Option Role) (fs : List (Frame C)) → ApartFrom role fs → ((q : Option Role) → AreApart q role → I.later q c d) → LaterAll c d fs
    but-apart c d role [] a h = tt
    but-apart c d role (g ∷ gs) a h = (h g.role a.0, but-apart c d role gs a.1 h)

    below-later : (c d : Common) (n u : ℕ) (fs : List (Frame C)) → I.later None c d → LaterAll c d fs → Below c n u fs → Below d n u fs
    below-later c d n u [] l ls h = kept.lowest c d n u l h
    below-later c d n u (f ∷ fs) l ls (w, on, apart, more) =
        (kept.awaits c d n (length (f ∷ fs)) f u ls.0 w, kept.runs_on c d n f.role l on, apart, below-later c d n f.unit fs l ls.1 more)

    frames-later : (c d : Common) (n : ℕ) (fs : List (Frame C)) → I.later None c d → LaterAll c d fs → Frames c n fs → Frames d n fs
    frames-later c d n [] l ls h = kept.gone c d n l h
    frames-later c d n (f ∷ fs) l ls (fit, on, apart, more) =
        (kept.fits c d n (length (f ∷ fs)) f ls.0 fit, kept.runs_on c d n f.role l on, apart, below-later c d n f.unit fs l ls.1 more)

    -- on the strand n only what is of its workers has to stay
    below-all : (c d : Common) (n u : ℕ) (fs : List (Frame C)) → ((q : Option Role) → RunsOn c n q → I.later q c d) → Below c n u fs → LaterAll c d fs
    below-all c d n u [] h b = tt
    below-all c d n u (f ∷ fs) h (w, on, apart, more) = (h f.role on, below-all c d n f.unit fs h more)

    frames-there : (c d : Common) (n : ℕ) (fs : List (Frame C)) → ((q : Option Role) → RunsOn c n q → I.later q c d) → Frames c n fs → Frames d n fs
    frames-there c d n [] h fit = kept.gone c d n (h None tt) fit
    frames-there c d n (f ∷ fs) h (fit, on, apart, more) =
        frames-later c d n (f ∷ fs) (h None tt) (h f.role on, below-all c d n f.unit fs h more) (fit, on, apart, more)

    -- later on all strands but m
    abbrev Elsewhere : Common → ℕ → Common → Type 0
    Elsewhere c m d = (q : Option Role) (n : ℕ) → n ≢ m → RunsOn c n q → I.later q c d

    others-later : (c d : Common) (k : ℕ) (xs : List (List (Frame C))) → d.running ≡ c.running → Elsewhere c c.running d → Others Running c k xs → Others Running d k xs
    others-later c d k [] e l h = tt
    others-later c d k (x ∷ xs) e l (h, more) =
        ((λ i. let idle : k ≢ c.running = λ is. i (is ∙ sym e) in frames-there c d k x (λ q on. l q k idle on) (h idle)), others-later c d (suc k) xs e l more)

    elsewhere-but : (c d : Common) (m : ℕ) (role : Option Role) → RunsOn c m role → LaterBut natives M I role c d → Elsewhere c m d
    elsewhere-but c d m role on but = λ q n ne onq. but q (apart-strands c n m q role ne onq on)

    elsewhere-then : (c d e : Common) (m : ℕ) → Elsewhere c m d → ((q : Option Role) → I.later q d e) → Elsewhere c m e
    elsewhere-then c d e m l h = λ q n ne on. kept.follows q c d e (l q n ne on) (h q)

    -- ---- states

    moved-fit : (s : State C) (d : Common) (fs : List (Frame C)) → Whole s → I.good Running d → KeepsStrands s.common d → Elsewhere s.common s.common.running d → Frames d s.common.running fs → Whole (put s d fs)
    moved-fit s d fs whole good keeps l h =
        record {
          good = good;
          others = others-later s.common d 0 s.others keeps.0 l whole.others;
          count = whole.count ∙ sym keeps.1;
          frames = (subst (λ n. Frames d n fs) (sym keeps.0) h, subst (λ n. n < length s.others) (sym keeps.0) whole.frames.1);
        }

    stopped-fit : (s : State C) (d : Common) (fs : List (Frame C)) → Whole s → I.good Picking d → KeepsStrands s.common d → Elsewhere s.common s.common.running d → Frames d s.common.running fs → Rest (stopped s d fs)
    stopped-fit s d fs whole good keeps l h =
        record {
          good = good;
          others = subst (λ n. Others Picking d 0 (slice_set s.others n fs)) keeps.0
              (others-stop d 0 d.running s.others fs (from-zero d.running) (others-later s.common d 0 s.others keeps.0 l whole.others) (subst (λ n. Frames d n fs) (sym keeps.0) h));
          count = length-set s.others s.common.running fs ∙ (whole.count ∙ sym keeps.1);
          frames = refl;
        }

    -- ---- the strand goes on, or ends

    goes-on-fit : (s : State C) (x : Common) (end : End) (fs : List (Frame C)) → Whole s → I.nearly Running x → (fs ≡ [] → EndFits natives M I x end) → KeepsStrands s.common x → Elsewhere s.common s.common.running x → Left x s.common.running fs → ComesFit (goes_on M s x end fs)
    goes-on-fit s x end (g ∷ gs) whole nearly ended keeps l h =
        let ready = kept.settles Running x nearly in
        moved-fit s (settled x) (g ∷ gs) whole ready.0 (keeps-then s.common x (settled x) keeps (settled-keeps x)) (elsewhere-then s.common x (settled x) s.common.running l ready.1)
        (frames-later x (settled x) s.common.running (g ∷ gs) (ready.1 None) (for-all x (settled x) (g ∷ gs) ready.1) h)
    goes-on-fit s x end [] whole nearly ended keeps l h = by (next_units x end) refl
      where
        by : (us : List (ℕ × List Value)) → next_units x end ≡ us → ComesFit (left_with M s x end us)
        by [] e =
            let y = strand_ended end x in
            let over = kept.ends x end nearly (ended refl) e in
            let ready = kept.settles Picking y over.0 in
            stopped-fit s (settled y) [] whole ready.0 (keeps.0, length-map y.strands (woken y) ∙ (length-set x.strands x.running _ ∙ keeps.1))
            (elsewhere-then s.common y (settled y) s.common.running (elsewhere-then s.common x y s.common.running l over.1) ready.1)
            (kept.gone y (settled y) s.common.running (ready.1 None) (subst (λ n. I.gone y n) keeps.0 over.2))
        by (u ∷ us) e = entered (M.enter u.0 u.1) refl
          where
            d : Common
            d = settled (record x { to_run = us })

            entered : (o : Option C) → M.enter u.0 u.1 ≡ o → ComesFit (option_map (λ f. Moved (put s d (f ∷ []))) (option_map (λ k. record { unit = u.0; role = None; control = k }) o))
            entered None q = tt
            entered (Some k) q =
                let next = kept.begins x end u us nearly (ended refl) e in
                moved-fit s d (record { unit = u.0; role = None; control = k } ∷ []) whole next.0 (keeps.0, length-map x.strands (woken (record x { to_run = us })) ∙ keeps.1) (elsewhere-then s.common x d s.common.running l next.1)
                (subst (λ n. I.fits d n 1 (record { unit = u.0; role = None; control = k })) keeps.0 (next.2 k q), tt, tt, subst (λ n. I.lowest d n u.0) keeps.0 next.3)

    -- ---- panics

    abbrev ApartAll : Option Role → List (Frame C) → Type 0
    ApartAll q [] = ⊤
    ApartAll q (g ∷ gs) = AreApart q g.role × ApartAll q gs

    apart-all : (c : Common) (n m u : ℕ) (q : Option Role) (fs : List (Frame C)) → n ≢ m → RunsOn c n q → Below c m u fs → ApartAll q fs
    apart-all c n m u q [] ne on h = tt
    apart-all c n m u q (f ∷ fs) ne on (w, other, apart, more) = (apart-strands c n m q f.role ne on other, apart-all c n m f.unit q fs ne on more)

    -- where a panic in a callee of these frames goes on, and what its way leaves
    abbrev Unwinds : Common → ℕ → Value → List (Frame C) → List (Option Role) → List (Frame C) → Type 0
    Unwinds d n e fs roles frames =
        let x = workers_ended (Panicked e) roles d in I.nearly Running x × I.throws x e × ((q : Option Role) → ApartAll q fs → I.later q d x) × Left x n frames

    over-frame : (d : Common) (n : ℕ) (e : Value) (f : Frame C) (fs : List (Frame C)) → RunsOn d n f.role → ApartFrom f.role fs → I.nearly Running d → I.throws d e → Below d n f.unit fs → ((x : Common) → I.nearly Running x → I.throws x e → Below x n f.unit fs → Unwinds x n e fs (roles_left M e fs) (unwound M e fs)) → (o : Option C) → Caught (I.fits d n (length (f ∷ fs))) f o → Unwinds d n e (f ∷ fs) (roles_to f.role (roles_left M e fs) o) (frames_from f fs (unwound M e fs) o)
    over-frame d n e f fs on apart nearly throws below more (Some k) fit = (nearly, throws, (λ q a. kept.stays q d), (fit, on, apart, below))
    over-frame d n e f fs on apart nearly throws below more None fit =
        let x = worker_ended (Panicked e) f.role d in
        let closed = kept.closes d e f.role nearly throws in
        let rest = more x closed.0 (kept.throws d x e (closed.1 None tt) throws) (below-later d x n f.unit fs (closed.1 None tt) (but-apart d x f.role fs apart closed.1) below) in
        (rest.0, rest.1, (λ q a. kept.follows q d x _ (closed.1 q a.0) (rest.2 q a.1)), rest.3)

    unwinds : (d : Common) (n : ℕ) (e : Value) (u : ℕ) (fs : List (Frame C)) → I.nearly Running d → I.throws d e → Below d n u fs → Unwinds d n e fs (roles_left M e fs) (unwound M e fs)
    unwinds d n e u [] nearly throws h = (nearly, throws, (λ q a. kept.stays q d), tt)
    unwinds d n e u (f ∷ fs) nearly throws (w, on, apart, more) =
        over-frame d n e f fs on apart nearly throws more (λ x a b c. unwinds x n e f.unit fs a b c) (M.catch f.control e) (kept.catches d n (length (f ∷ fs)) f u e w throws)

    -- ---- strands that begin

    begun-fit : (d : Common) (n : ℕ) (ss : List Spawned) (more : List (List (Frame C))) → all_begun M ss ≡ Some more → AllBegin natives M I d n ss → Others Running d n more × (length more ≡ length ss)
    begun-fit d n [] more e h = subst (λ l. Others Running d n l × (length l ≡ 0)) (some-same [] more e) (tt, refl)
    begun-fit d n (s ∷ ss) more e (h, hs) = by (M.enter s.unit s.args) (all_begun M ss) refl refl e (λ gs b. begun-fit d (suc n) ss gs b hs)
      where
        by : (o : Option C) (p : Option (List (List (Frame C)))) → M.enter s.unit s.args ≡ o → all_begun M ss ≡ p → with_begun M (option_map (λ k. record { unit = s.unit; role = s.role; control = k }) o) p ≡ Some more → ((gs : List (List (Frame C))) → all_begun M ss ≡ Some gs → Others Running d (suc n) gs × (length gs ≡ length ss)) → Others Running d n more × (length more ≡ suc (length ss))
        by (Some k) (Some gs) a b q rec =
            let rest = rec gs b in
            let g : Frame C = record { unit = s.unit; role = s.role; control = k } in
            subst (λ l. Others Running d n l × (length l ≡ suc (length ss))) (some-same ((g ∷ []) ∷ gs) more q) (((λ i. (h.0 k a, h.1, tt, h.2)), rest.0), ap suc rest.1)
        by (Some k) None a b q rec = absurd (let bad : ⊥ = cc in bad)
        by None p a b q rec = absurd (let bad : ⊥ = cc in bad)

    -- ---- effects

    module _ (s : State C) (f : Frame C) (fs : List (Frame C)) (whole : Whole s) (on : RunsOn s.common s.common.running f.role) (apart : ApartFrom f.role fs) (below : Below s.common s.common.running f.unit fs) where
      abbrev c : Common
      c = s.common

      abbrev depth : ℕ
      depth = length (f ∷ fs)

      under : (d : Common) → ((q : Option Role) → AreApart q f.role → I.later q c d) → Below d c.running f.unit fs
      under d but = below-later c d c.running f.unit fs (but None tt) (but-apart c d f.role fs apart but) below

      spawned-role : (d : Common) (role : Option Role) → (role ≡ f.role) ⊎ (IsFresh c role × RunsOn d c.running role) → I.later None c d → RunsOn d c.running role × ApartFrom role fs
      spawned-role d role (inl e) l = subst (λ r. RunsOn d c.running r × ApartFrom r fs) (sym e) (kept.runs_on c d c.running f.role l on, apart)
      spawned-role d role (inr (fresh, there)) l = (there, from fs f.unit below)
        where
          of : (q r : Option Role) → RunsOn c c.running q → IsFresh c r → AreApart q r
          of None r o new = tt
          of (Some a) None o new = tt
          of (Some a) (Some b) o new = λ e. new c.running (subst (λ x. RunsOn c c.running (Some x)) e o)

          from : (gs : List (Frame C)) (u : ℕ) → Below c c.running u gs → ApartFrom role gs
          from [] u h = tt
          from (g ∷ gs) u (w, o, a, more) = (of g.role role o fresh, from gs g.unit more)

      given-fit : (v : Value) (x : Common) (gs : List (Frame C)) (u : ℕ) → ApartFrom f.role gs → ((q : Option Role) → AreApart q f.role → I.later q c x) → I.holds x v u → Below c c.running u gs → Left x c.running (given M v gs)
      given-fit v x [] u a but h b = tt
      given-fit v x (g ∷ gs) u a but h (w, o, ap', more) =
          (kept.resumes x c.running (length (g ∷ gs)) g u v (kept.awaits c x c.running (length (g ∷ gs)) g u (but g.role a.0) w) h, kept.runs_on c x c.running g.role (but None tt) o, ap', below-later c x c.running g.unit gs (but None tt) (but-apart c x f.role gs a.1 but) more)

      ended-fit : (v : Value) (x : Common) → x.running ≡ c.running → I.holds x v f.unit → I.later None c x → given M v fs ≡ [] → EndFits natives M I x (Returned v)
      ended-fit v x same h l e = by fs e below
        where
          by : (gs : List (Frame C)) → given M v gs ≡ [] → Below c c.running f.unit gs → EndFits natives M I x (Returned v)
          by [] q b = (f.unit, h, subst (λ n. I.lowest x n f.unit) (sym same) (kept.lowest c x c.running f.unit l b))
          by (g ∷ gs) q b = absurd (let bad : ⊥ = cc in bad)

      carried-fit : (k : C) (effect : Effect) → I.fits c c.running depth f → EffectFits natives M I c depth f k effect → ComesFit (carried M s f k fs effect)
      carried-fit k (Gives vs d) fit (good, keeps, but, fits) =
          moved-fit s d (goes_to f (M.resume k vs) ∷ fs) whole good keeps (elsewhere-but c d c.running f.role on but)
          (fits, kept.runs_on c d c.running f.role (but None tt) on, apart, under d but)
      carried-fit k (Fails e d) fit (nearly, keeps, but, throws, caught) =
          let way = over-frame d c.running e (goes_to f k) fs (kept.runs_on c d c.running f.role (but None tt) on) apart nearly throws (under d but) (λ x a b h. unwinds x c.running e f.unit fs a b h) (M.catch k e) caught in
          let roles = roles_left M e (goes_to f k ∷ fs) in
          let x = workers_ended (Panicked e) roles d in
          goes-on-fit s x (Panicked e) (unwound M e (goes_to f k ∷ fs)) whole way.0 (λ q. way.1) (keeps-then c d x keeps (workers-keep (Panicked e) roles d))
          (λ q n ne onq. let a = apart-strands c n c.running q f.role ne onq on in kept.follows q c d x (but q a) (way.2 q (a, apart-all c n c.running f.unit q fs ne onq below))) way.3
      carried-fit k (Waits need) fit (good, later) =
          let d = strand_blocked need c in
          stopped-fit s d (f ∷ fs) whole good (refl, length-set c.strands c.running _) (λ q n ne onq. later q)
          (kept.fits c d c.running depth f (later f.role) fit, kept.runs_on c d c.running f.role (later None) on, apart, under d (λ q a. later q))
      carried-fit k (Enters unit args d) fit (good, keeps, later, begins, awaits) = by (M.enter unit args) refl
        where
          by : (o : Option C) → M.enter unit args ≡ o → ComesFit (option_map (λ g. Moved (put s d (g ∷ goes_to f k ∷ fs))) (option_map (λ j. record { unit = unit; role = None; control = j }) o))
          by None e = tt
          by (Some j) e =
              moved-fit s d (record { unit = unit; role = None; control = j } ∷ goes_to f k ∷ fs) whole good keeps (λ q n ne onq. later q)
              (begins j e, tt, apart-none (goes_to f k ∷ fs), (awaits, kept.runs_on c d c.running f.role (later None) on, apart, under d (λ q a. later q)))
      carried-fit k (Leaves v) fit (nearly, but, holds) =
          let x = worker_ended (Returned v) f.role c in
          let keeps = worker-keeps (Returned v) f.role c in
          goes-on-fit s x (Returned v) (given M v fs) whole nearly (ended-fit v x keeps.0 holds (but None tt)) keeps (elsewhere-but c x c.running f.role on but) (given-fit v x fs f.unit apart but holds below)
      carried-fit k (Spawns ss role vs d) fit (good, same, count, but, moves, fits, begin) = by (all_begun M ss) refl
        where
          g : Frame C
          g = record { unit = f.unit; role = role; control = M.resume k vs }

          by : (o : Option (List (List (Frame C)))) → all_begun M ss ≡ o → ComesFit (option_map (λ more. Moved (record { common = d; frames = g ∷ fs; others = s.others ++ more })) o)
          by None e = tt
          by (Some more) e =
              let new = begun-fit d (length c.strands) ss more e begin in
              let place = spawned-role d role moves (but None tt) in
              let old = others-later c d 0 s.others same (elsewhere-but c d c.running f.role on but) whole.others in
              record {
                good = good;
                others = others-more d 0 s.others more old (subst (λ n. Others Running d n more) (sym whole.count ∙ from-zero (length s.others)) new.0);
                count = length-append s.others more ∙ ((λ i. whole.count i + new.1 i) ∙ sym count);
                frames = (subst (λ n. Frames d n (g ∷ fs)) (sym same) (fits, place.0, place.1, under d but), subst (λ n. n < length (s.others ++ more)) (sym same) (let l = length-append s.others more in omega (arith, l, whole.frames.1)));
              }
      carried-fit k NoTick fit h = tt
      carried-fit k (Beyond limit) fit h = tt

    -- ---- steps

    takes-fit : (s : State C) (f : Frame C) (fs : List (Frame C)) (ask : Ask C) (next : Next C) → Whole s → Frames s.common s.common.running (f ∷ fs) → AskFits natives M I s.common (length (f ∷ fs)) f ask → Takes natives M s f fs ask next → NextFits next
    takes-fit s f fs (On b) next whole (fit, on, apart, below) ask is =
        subst NextFits (sym is) (moved-fit s s.common (goes_to f b ∷ fs) whole whole.good (refl, refl) (λ q n ne onq. kept.stays q s.common) (ask, on, apart, below))
    takes-fit s f fs (Does op vs k) next whole (fit, on, apart, below) ask (effect, performs, is) =
        subst ComesFit is (carried-fit s f fs whole on apart below k effect fit (ask effect performs))
    takes-fit s f fs Stuck next whole h ask is = absurd is

    step-fits : (s : State C) (next : Next C) → Whole s → Step natives M s next → NextFits next
    step-fits s next whole step = by s.frames whole.frames.0 step
      where
        by : (fs : List (Frame C)) → Frames s.common s.common.running fs → TakesTop natives M s fs next → NextFits next
        by [] h x = absurd x
        by (f ∷ fs) h x = takes-fit s f fs (M.look f.unit f.control) next whole h (kept.asks s.common (length (f ∷ fs)) f whole.good h.0) x

    picked-fit : (s : State C) (place n : ℕ) → Rest s → slice_get s.common.ready place ≡ Some n → Whole (picked s place n)
    picked-fit s place n rest e =
        let d = taken_up s.common place n in
        let next = kept.picks s.common place n rest.good e in
        let old = all-later s.others 0 d next.1 rest.others in
        let there : n < length s.others = omega (arith, rest.count, next.2) in
        record {
          good = next.0;
          others = others-pick d 0 n s.others (from-zero n) old;
          count = length-set s.others n [] ∙ rest.count;
          frames = (subst (λ m. Frames d m (get_or s.others n [])) (sym (from-zero n)) (others-at d 0 n s.others there old), let l = length-set s.others n [] in omega (arith, l, there));
        }
      where
        all-later : (xs : List (List (Frame C))) (k : ℕ) (d : Common) → ((q : Option Role) → I.later q s.common d) → Others Picking s.common k xs → Others Picking d k xs
        all-later [] k d l h = tt
        all-later (x ∷ xs) k d l h = ((λ i. frames-there s.common d k x (λ q on. l q) (h.0 tt)), all-later xs (suc k) d l h.1)

    pub reached-fits : {words : List Text} {input : List ℕ} {ticks : ℕ} {phase : Phase} {n : ℕ} {order : List ℕ} {s : State C} → AreWords words → Reaches natives M words input ticks phase n order s → StateFits I phase s
    reached-fits {words = words} {input = input} {ticks = ticks} {s = s} texts (starts e) = kept.starts words input ticks s texts e
    reached-fits texts (after_move {s = s} {t = t} r h) = step-fits s (Moved t) (reached-fits texts r) h
    reached-fits texts (after_block {s = s} {t = t} r h) = step-fits s (Blocked t) (reached-fits texts r) h
    reached-fits texts (after_end {s = s} {t = t} r h) = step-fits s (Ended t) (reached-fits texts r) h
    reached-fits texts (after_pick place {k = k} {s = s} r e) = picked-fit s place k (reached-fits texts r) e

pub kept-holds : {C : Type 0} (natives : Answers) (M : Machine C) (I : Invariant C) → KeptHolds natives M I
kept-holds natives M I kept words input ticks phase s texts (n, order, r) = reached-fits natives M I kept texts r
