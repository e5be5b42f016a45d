-- Where frames follow, each state that the second machine reaches has one of the first beside it, and what a frame of the second
-- asks for and waits for the frame of the first beside it asks for and waits for.
use Rattle.std.proofs.Common.{◌≡◌, ◌≢◌, ◌∙◌, ℕ, List, [], ◌∷◌, Option, Some, None, refl, sym, subst, ap, inl, inr}
use Rattle.std.specs.Prelude.{◌+◌, All, Any, IsSomeAnd, length, nat_le, slice_get, slice_index_or}
use Rattle.bal_base.specs.declared.text.Text.{Text}
use Rattle.operations.specs.declared.operation.Operation.{Operation}
use Rattle.operations.specs.declared.operation.Operation.TheVariants as op
use Rattle.operations.specs.Talk.{StartsWorkers, Talk, talk_of}
use Rattle.value_model.specs.declared.value.Value.{Value}
use Rattle.value_model.specs.Meaning.{Answers}
use Rattle.op_model.specs.Common.{AnyGiven, Caller, Common, IsBlocked, Need}
use Rattle.op_model.specs.Effects.{Effect, Gives, Waits}
use Rattle.op_model.specs.Limits.{most_strands}
use Rattle.op_model.specs.Performs.{Performs}
use Rattle.op_model.specs.Strands.{activation_at, strand_at}
use Rattle.machine_model.specs.Following.{AreAlike, AreFine, ComesTo, FramesFollow, Quiet, Settles, here, pass, step}
use Rattle.machine_model.specs.Machine.{Ask, Does, Frame, Machine, On, State, Stuck, caller}
use Rattle.machine_model.specs.Matching.{Alongside, AskAlike, BelowMatch, FramesMatch, OthersMatch, SameCall, TopsAlong}
use Rattle.machine_model.specs.Runs.{AreWords, IsReached, Phase, Picking, Running, does_in, next_operation}
use Rattle.machine_model.specs.Strands.{IsUnfinished, StartsOnce, StillWaits, StrandsHold, TopWaits, WaitsForSome, frames_of, top_role}
use Rattle.machine_model.proofs.HoldOfStrands.{hold-of-strands}
use Rattle.machine_model.proofs.Lifts.{picked-match, same-caller}
use Rattle.machine_model.proofs.Once.{some-same}
use Rattle.machine_model.proofs.Reached.{reached-follow}
use Rattle.machine_model.proofs.ShapeRows.{performs-shape}
use Rattle.machine_model.proofs.Shapes.{in-if, in-some}
use Rattle.worker_waits.specs.Waiting.{NeverRings, StopsAt, Waits as WaitsFor}
use Rattle.lowered_waits.proofs.Stopped.{stopped-waits}

all-to : {A : Type 0} (P Q : A → Type 0) → ((x : A) → P x → Q x) → (xs : List A) → All P xs → All Q xs
all-to P Q f xs h k d l = f (slice_index_or xs k d) (h k d l)

-- ---- operations that say the same

-- only the start of named workers says so
workers-only : (o : Operation) → talk_of o ≡ StartsWorkers → o ≡ op.Workers
workers-only op.Workers e = refl
workers-only _ e = absurd (let q : ⊥ = cc in q)

-- what a frame asks for is one operation on one list of operands
abbrev pub wanted : Operation → List Value → Operation × List Value
wanted o vs = (o, vs)

same-ask : {C : Type 0} (ask : Ask C) (o other : Operation) (vs us : List Value) (k m : C) → ask ≡ Does o vs k → ask ≡ Does other us m → wanted o vs ≡ wanted other us
same-ask ask o other vs us k m e d = some-same _ _ (ap does_in (sym e ∙ d))

module _ {B : Type 0} (natives : Answers) (N : Machine B) (who : Caller) (c : Common) (other : Operation) (vs : List Value) where
  abbrev Comes : Effect → Type 0
  Comes effect = Performs N.facts natives other vs who c effect

  -- it can give nothing here, or something else than that
  abbrev pub IsNoPass : Type 0
  IsNoPass = (ws : List Value) → Comes (Gives ws c) → ((effect : Effect) → Comes effect → effect ≡ Gives ws c) → ⊥

  -- where a frame asks for such an operation it can go on quietly to nothing else
  pub stands-still : IsNoPass → (b d m : B) → N.look who.unit b ≡ Does other vs m → Quiet natives N who c b d → b ≡ d
  stands-still never b _ m looks here = refl
  stands-still never b d m looks (step {b = x} e q) = absurd (let bad : On x ≡ Does other vs m = sym e ∙ looks in let q : ⊥ = cc in q)
  stands-still never b d m looks (pass {k = k} {op = o} {vs = us} {ws = ws} e performs only q) =
      let same = same-ask (N.look who.unit b) o other us vs k m e looks in
      absurd (never ws (subst (λ x. Performs N.facts natives x.0 x.1 who c (Gives ws c)) same performs)
      (subst (λ x. (effect : Effect) → Performs N.facts natives x.0 x.1 who c effect → effect ≡ Gives ws c) same only))

  -- one that waits is such
  pub waits-still : (need : Need) → Comes (Waits need) → IsNoPass
  waits-still need waits ws gives only = let bad : Waits need ≡ Gives ws c = only (Waits need) waits in let q : ⊥ = cc in q

module _ {A B : Type 0} (natives : Answers) (M : Machine A) (N : Machine B) (Follows : A → B → Type 0) (Fine : Common → A → Type 0) (sim : FramesFollow natives M N Follows Fine)
    (fine : AreFine natives M Fine) (settle : (unit : ℕ) (a : A) → Settles M unit a) where
  -- ---- what a running frame asks for

  record Asks (words : List Text) (input : List ℕ) (ticks : ℕ) (g : Frame B) (other : Operation) (vs : List Value) : Type 0 where
    state : State A
    came : IsReached natives M words input ticks Running state
    frame : Frame A
    below : List (Frame A)
    top : state.frames ≡ frame ∷ below
    call : SameCall frame g
    operation : Operation
    control : A
    looks : M.look frame.unit frame.control ≡ Does operation vs control
    alike : AreAlike N.facts natives operation other
    talk : talk_of other ≡ talk_of operation

  module _ (words : List Text) (input : List ℕ) (ticks : ℕ) (t : State B) (g : Frame B) (gs : List (Frame B)) (other : Operation) (vs : List Value) (m : B) (ok : AreWords words)
      (reached : IsReached natives N words input ticks Running t) (frames : t.frames ≡ g ∷ gs) (looks : N.look g.unit g.control ≡ Does other vs m) (never : IsNoPass natives N (caller g gs) t.common other vs) where
    asked-at : (s : State A) → IsReached natives M words input ticks Running s → (f : Frame A) (fs : List (Frame A)) → s.frames ≡ f ∷ fs → SameCall f g → (d : B) → g.control ≡ d → AskAlike M N Follows natives f.unit f.control d → Asks words input ticks g other vs
    asked-at s came f fs top call d is (inl (o, us, k, l, o', e, look, alike, held)) =
        let here : N.look f.unit g.control ≡ Does o' us l = subst (λ z. N.look f.unit z ≡ Does o' us l) (sym is) look in
        let same : wanted o' us ≡ wanted other vs = same-ask (N.look g.unit g.control) o' other us vs l m (subst (λ u. N.look u g.control ≡ Does o' us l) call.0 here) looks in
        record {
          state = s;
          came = came;
          frame = f;
          below = fs;
          top = top;
          call = call;
          operation = o;
          control = k;
          looks = subst (λ x. M.look f.unit f.control ≡ Does o x.1 k) same e;
          alike = subst (λ x. AreAlike N.facts natives o x.0) same alike;
          talk = subst (λ x. talk_of x.0 ≡ talk_of o) same held.talk;
        }
    asked-at s came f fs top call d is (inr (e, look)) =
        let stuck : N.look g.unit g.control ≡ Stuck = subst (λ u. N.look u g.control ≡ Stuck) call.0 (subst (λ z. N.look f.unit z ≡ Stuck) (sym is) look) in
        absurd (let bad : Stuck ≡ Does other vs m = sym stuck ∙ looks in let q : ⊥ = cc in q)

    asks-beside : Asks words input ticks g other vs
    asks-beside = by (reached-follow natives M N Follows Fine sim fine settle words input ticks Running t ok reached)
      where
        at : (s : State A) → IsReached natives M words input ticks Running s → (fs : List (Frame A)) → s.frames ≡ fs → TopsAlong M N Follows natives t.common fs (g ∷ gs) → Asks words input ticks g other vs
        at s came [] is tops = absurd tops
        at s came (f ∷ fs) is (call, below, (d, q, asked)) =
            asked-at s came f fs is call d (stands-still natives N (caller g gs) t.common other vs never g.control d m looks q) asked

        by : ((s : State A) × IsReached natives M words input ticks Running s × Alongside M N Follows natives Running s t) → Asks words input ticks g other vs
        by (s, came, (same, om, tops)) = at s came s.frames refl (subst (λ l. TopsAlong M N Follows natives t.common s.frames l) frames tops)

  -- ---- what strands need

  -- the start of named workers gives nothing
  workers-give-nothing : (who : Caller) (c : Common) (vs : List Value) → IsNoPass natives N who c op.Workers vs
  workers-give-nothing who c vs ws gives only =
      in-some (slice_get N.facts.units who.unit) gives (λ u there e. in-if (nat_le (length c.strands + length u.workers) most_strands) (λ x. Gives ws c ≡ x → ⊥) _ _ (λ b d. let q : ⊥ = cc in q) (λ b d. let q : ⊥ = cc in q) e)

  pub second-starts-once : StartsOnce natives M → StartsOnce natives N
  second-starts-once once words input ticks t g gs vs m ok reached frames looks =
      let beside = asks-beside words input ticks t g gs op.Workers vs m ok reached frames looks (workers-give-nothing (caller g gs) t.common vs) in
      let o : beside.operation ≡ op.Workers = workers-only beside.operation (sym beside.talk) in
      sym beside.call.1 ∙ once words input ticks beside.state beside.frame beside.below vs beside.control ok beside.came beside.top (subst (λ x. M.look beside.frame.unit beside.frame.control ≡ Does x vs beside.control) o beside.looks)

  -- an alternate wait for nothing waits for ever
  any-still : (who : Caller) (c : Common) (vs : List Value) → IsNoPass natives N who c (op.WaitAny []) vs
  any-still who c [] ws gives only = let bad : Gives ws c ≡ Waits (AnyGiven []) = gives in let q : ⊥ = cc in q
  any-still who c (v ∷ vs) ws gives only = absurd gives

  pub second-waits-for-some : WaitsForSome natives M → WaitsForSome natives N
  second-waits-for-some some words input ticks t g gs names vs m ok reached frames looks empty =
      let nothing : N.look g.unit g.control ≡ Does (op.WaitAny []) vs m = subst (λ ns. N.look g.unit g.control ≡ Does (op.WaitAny ns) vs m) empty looks in
      let beside = asks-beside words input ticks t g gs (op.WaitAny []) vs m ok reached frames nothing (any-still (caller g gs) t.common vs) in
      let who : Caller = record { unit = 0; role = None; depth = 0 } in
      let nowhere = λ (ns : List (Option ℕ)) (is : beside.operation ≡ op.WaitAny ns). some words input ticks beside.state beside.frame beside.below ns vs beside.control ok beside.came beside.top (subst (λ x. M.look beside.frame.unit beside.frame.control ≡ Does x vs beside.control) is beside.looks) in
      let shape = performs-shape N.facts natives [] who t.common (Waits (AnyGiven [])) beside.operation nowhere ((beside.alike [] who t.common (Waits (AnyGiven []))).1 refl) in
      let q : ⊥ = cc in q

  pub second-holds : StartsOnce natives M → WaitsForSome natives M → (words : List Text) (input : List ℕ) (ticks : ℕ) (phase : Phase) (t : State B) → AreWords words → IsReached natives N words input ticks phase t → StrandsHold natives N phase t
  second-holds once some = hold-of-strands natives N (second-starts-once once) (second-waits-for-some some)

  -- ---- what blocked strands wait for

  -- a frame that waits is as it has to be
  abbrev pub WaitsFine : Type 0
  WaitsFine =
      (who : Caller) (c : Common) (a k : A) (o : Operation) (vs : List Value) (need : Need) → M.look who.unit a ≡ Does o vs k → Performs M.facts natives o vs who c (Waits need) → Fine c a

  module _ (ready : WaitsFine) (c : Common) (need : Need) (talk : Talk) (f : Frame A) (fs : List (Frame A)) (g : Frame B) (gs : List (Frame B)) (call : SameCall f g) (follows : Follows f.control g.control) (below : BelowMatch M N Follows fs gs) where
    same-talk : (o : Operation) (vs : List Value) (k : A) → M.look f.unit f.control ≡ Does o vs k → Performs M.facts natives o vs (caller f fs) c (Waits need) →
        (other : Operation) (us : List Value) (m : B) → N.look g.unit g.control ≡ Does other us m → Performs N.facts natives other us (caller g gs) c (Waits need) → talk_of other ≡ talk_of o
    same-talk o vs k looks waits other us m seen waits' =
        let there : M.look g.unit f.control ≡ Does o vs k = subst (λ u. M.look u f.control ≡ Does o vs k) call.0 looks in
        let comes = sim.answers (caller g gs) c f.control g.control (ready (caller f fs) c f.control k o vs need looks waits) follows in
        by (subst (λ ask. ComesTo M N Follows natives (caller g gs) c f.control ask g.control) there comes)
      where
        by : ComesTo M N Follows natives (caller g gs) c f.control (Does o vs k) g.control → talk_of other ≡ talk_of o
        by (d, l, o', q, look, alike, held) =
            let still = stands-still natives N (caller g gs) c other us (waits-still natives N (caller g gs) c other us need waits') g.control d m seen q in
            let here : N.look g.unit g.control ≡ Does o' vs l = subst (λ z. N.look g.unit z ≡ Does o' vs l) (sym still) look in
            let same : wanted o' vs ≡ wanted other us = same-ask (N.look g.unit g.control) o' other vs us l m here seen in
            subst (λ x. talk_of x.0 ≡ talk_of o) same held.talk

  top-talks : WaitsFine → (phase other-phase : Phase) (s : State A) (t : State B) (need : Need) (talk : Talk) → s.common ≡ t.common → (fs : List (Frame A)) (gs : List (Frame B)) → FramesMatch M N Follows fs gs → TopWaits natives M phase s need fs →
      TopWaits natives N other-phase t need gs → IsSomeAnd (next_operation N gs) (λ o. talk_of o.0 ≡ talk) → IsSomeAnd (next_operation M fs) (λ o. talk_of o.0 ≡ talk)
  top-talks ready phase other-phase s t need talk same [] gs h waits waits' next = absurd waits
  top-talks ready phase other-phase s t need talk same (f ∷ fs) [] h waits waits' next = absurd waits'
  top-talks ready phase other-phase s t need talk same (f ∷ fs) (g ∷ gs) (call, follows, below) waits waits' next = by (M.look f.unit f.control) (N.look g.unit g.control) refl refl waits waits' next
    where
      by : (x : Ask A) (y : Ask B) → M.look f.unit f.control ≡ x → N.look g.unit g.control ≡ y → StillWaits natives M phase s need f fs x → StillWaits natives N other-phase t need g gs y → IsSomeAnd (does_in y) (λ o. talk_of o.0 ≡ talk) → IsSomeAnd (does_in x) (λ o. talk_of o.0 ≡ talk)
      by (On x) y is seen w w' n = absurd w
      by Stuck y is seen w w' n = absurd w
      by (Does o vs k) (On y) is seen w w' n = absurd w'
      by (Does o vs k) Stuck is seen w w' n = absurd w'
      by (Does o vs k) (Does other us m) is seen w w' n =
          sym (same-talk ready t.common need talk f fs g gs call follows below o vs k is (subst (λ c. Performs M.facts natives o vs (caller f fs) c (Waits need)) same w) other us m seen w') ∙ n

  same-top : (fs : List (Frame A)) (gs : List (Frame B)) → FramesMatch M N Follows fs gs → top_role fs ≡ top_role gs
  same-top [] [] h = refl
  same-top (f ∷ fs) (g ∷ gs) h = h.0.1
  same-top [] (g ∷ gs) h = absurd h
  same-top (f ∷ fs) [] h = absurd h

  -- a worker of the second that is blocked is one of the first that is blocked, where it is to say the same
  pub stops-too : WaitsFine → (phase : Phase) (s : State A) (t : State B) → StrandsHold natives M phase s → StrandsHold natives N phase t → s.common ≡ t.common → OthersMatch M N Follows s.others t.others →
      (a w n : ℕ) (talk : Talk) → StopsAt N t a w n talk → StopsAt M s a w n talk
  stops-too ready phase s t holds holds' same om a w n talk stop =
      let runs : slice_get (activation_at s.common a).strands w ≡ Some n = subst (λ c. slice_get (activation_at c a).strands w ≡ Some n) (sym same) stop.runs in
      let blocked : (strand_at s.common n).status ≡ IsBlocked stop.need = subst (λ c. (strand_at c n).status ≡ IsBlocked stop.need) (sym same) stop.blocked in
      let tops = (picked-match M N Follows s.others t.others n om).0 in
      record {
        runs = runs;
        need = stop.need;
        blocked = blocked;
        role = same-top (frames_of s n) (frames_of t n) tops ∙ stop.role;
        next = top-talks ready phase phase s t stop.need talk same (frames_of s n) (frames_of t n) tops (stopped-waits natives M phase s holds a w n stop.need runs blocked)
            (stopped-waits natives N phase t holds' a w n stop.need stop.runs stop.blocked) stop.next;
      }

  -- so workers of the second wait in a ring only where workers of the first do
  module _ (ready : WaitsFine) (once : StartsOnce natives M) (some : WaitsForSome natives M) where
    waits-too : (phase : Phase) (s : State A) (t : State B) → StrandsHold natives M phase s → StrandsHold natives N phase t → s.common ≡ t.common → OthersMatch M N Follows s.others t.others →
        (a w u : ℕ) → WaitsFor N t a w u → WaitsFor M s a w u
    waits-too phase s t holds holds' same om a w u h =
        record {
          strand = h.strand;
          talk = h.talk;
          stops = stops-too ready phase s t holds holds' same om a w h.strand h.talk h.stops;
          awaits = h.awaits;
          unfinished = subst (λ c. IsUnfinished c a u) (sym same) h.unfinished;
        }

    parts : (phase : Phase) (s : State A) (t : State B) → Alongside M N Follows natives phase s t → (s.common ≡ t.common) × OthersMatch M N Follows s.others t.others
    parts Picking s t (same, tops, om) = (same, om)
    parts Running s t (same, om, tops) = (same, om)

    pub never-rings-too : NeverRings natives M → NeverRings natives N
    never-rings-too never words input ticks phase t ok reached a ws all =
        by (reached-follow natives M N Follows Fine sim fine settle words input ticks phase t ok reached)
      where
        some-too : (s : State A) → ((w u : ℕ) → WaitsFor N t a w u → WaitsFor M s a w u) → s.common ≡ t.common → (w : ℕ) →
            IsUnfinished t.common a w × Any (λ u. WaitsFor N t a w u) ws → IsUnfinished s.common a w × Any (λ u. WaitsFor M s a w u) ws
        some-too s waits same w (open-end, (k, u, lt, is, h)) = (subst (λ c. IsUnfinished c a w) (sym same) open-end, (k, u, lt, is, waits w u h))

        by : ((s : State A) × IsReached natives M words input ticks phase s × Alongside M N Follows natives phase s t) → ws ≡ []
        by (s, came, along) =
            let both = parts phase s t along in
            let holds = hold-of-strands natives M once some words input ticks phase s ok came in
            let holds' = second-holds once some words input ticks phase t ok reached in
            never words input ticks phase s ok came a ws (all-to (λ w. IsUnfinished t.common a w × Any (λ u. WaitsFor N t a w u) ws) (λ w. IsUnfinished s.common a w × Any (λ u. WaitsFor M s a w u) ws)
            (some-too s (waits-too phase s t holds holds' both.0 both.1 a) both.0) ws all)
