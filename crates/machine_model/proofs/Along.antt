-- What one machine keeps, and facts of another's frames that ride on it, the other keeps.
use Rattle.std.proofs.Common.{◌≡◌, ℕ, suc, List, [], ◌∷◌, ◌++◌, Option, Some, None, length, refl, sym, subst, ◌∙◌}
use Rattle.std.specs.Prelude.{map, option_map}
use Rattle.bal_base.specs.declared.text.Text.{Text}
use Rattle.operations.specs.declared.operation.Operation.{Operation}
use Rattle.value_model.specs.declared.value.Value.{Value}
use Rattle.value_model.specs.Meaning.{Answers}
use Rattle.op_model.specs.Common.{Common, Role, Caller}
use Rattle.op_model.specs.Strands.{settled}
use Rattle.op_model.specs.Effects.{Effect, Gives, Fails, Waits, Enters, Leaves, Spawns, NoTick, Beyond, Spawned}
use Rattle.op_model.specs.Performs.{Performs}
use Rattle.machine_model.specs.Machine.{Machine, Ask, On, Does, Stuck, Frame, State, goes_to}
use Rattle.machine_model.specs.Runs.{Running, Picking, start, begins_with, first_common, units_to_run, main_arguments}
use Rattle.machine_model.specs.Following.{AreFine, Both, Quiet, here, step, pass, Held, ComesTo, FramesFollow, EndsFrame}
use Rattle.machine_model.specs.Keeping.{Invariant, IsKept, Caught, BeginsWell, AllBegin, EffectFits, AskFits, FramesFit, StateFits}
use Rattle.machine_model.specs.Along.{beside, call_of, Along, AlongBelow, along, FlowsBegin, AllFlow, EffectFlows, AskFlows, FlowsKept}
use Rattle.machine_model.specs.Laws.{KeepsAlong, SoundFollowersAreFine, SoundFollowersDoTheSame}
use Rattle.machine_model.proofs.Lifts.{GoesOn, goes-on}
use Rattle.machine_model.proofs.Keeping.{kept-holds}
use Rattle.machine_model.proofs.SameOutcomes.{followers-do-the-same}

module _ {A B : Type 0} (natives : Answers) (M : Machine A) (N : Machine B) (Follows : A → B → Type 0) (Fine : Common → A → Type 0)
    (I : Invariant B) (Flows : Common → Frame A → Type 0) (FlowsBehind : Common → Frame A → ℕ → Type 0)
    (sim : FramesFollow natives M N Follows Fine) (kept : IsKept natives N I) (flows : FlowsKept natives M N Follows Fine I Flows FlowsBehind) where
  abbrev Goes : Common → ℕ → ℕ → Frame A → Type 0
  Goes c n depth f = Along natives M N Follows Fine I Flows FlowsBehind c n depth f

  abbrev GoesBelow : Common → ℕ → ℕ → Frame A → ℕ → Type 0
  GoesBelow c n depth f callee = AlongBelow natives M N Follows Fine I Flows FlowsBehind c n depth f callee

  abbrev J : Invariant A
  J = along natives M N Follows Fine I Flows FlowsBehind

  abbrev Caller' : Frame A → ℕ → Caller
  Caller' f depth = record { unit = f.unit; role = f.role; depth = depth }

  abbrev AskN : Common → ℕ → Frame B → Ask B → Type 0
  AskN c depth g ask = AskFits natives N I c depth g ask

  abbrev FlowsIf' : Common → ℕ → ℕ → Frame A → Type 0
  FlowsIf' c n depth f = Goes c n depth f → Flows c f

  abbrev FlowsBegin' : Common → ℕ → ℕ → ℕ → List Value → Option Role → Type 0
  FlowsBegin' c n depth unit args role = FlowsBegin natives M N Follows Fine I Flows FlowsBehind c n depth unit args role

  abbrev AllFlow' : Common → ℕ → List Spawned → Type 0
  AllFlow' c n ss = AllFlow natives M N Follows Fine I Flows FlowsBehind c n ss

  -- the second machine's frame fits behind quiet steps
  quiet-fits : (c : Common) (f : Frame A) (depth : ℕ) {b d : B} → I.good Running c → Quiet natives N (Caller' f depth) c b d → I.fits c c.running depth (beside f b) → I.fits c c.running depth (beside f d)
  quiet-fits c f depth good here h = h
  quiet-fits c f depth good (step {a = a} {b = b} e q) h =
      quiet-fits c f depth good q (subst (λ ask. AskN c depth (beside f a) ask) e (kept.asks c depth (beside f a) good h))
  quiet-fits c f depth good (pass {a = a} {k = k} {op = op} {vs = vs} {ws = ws} e p u q) h =
      let asked : AskN c depth (beside f a) (Does op vs k) = subst (λ ask. AskN c depth (beside f a) ask) e (kept.asks c depth (beside f a) good h) in
      quiet-fits c f depth good q (asked _ p).3

  -- ---- frames that begin, and that catch a panic

  begin-along : (d : Common) (n depth unit : ℕ) (role : Option Role) (o : Option A) (p : Option B) → Both Follows o p → ((y : B) → p ≡ Some y → I.fits d n depth (call_of unit role y)) → ((x : A) → o ≡ Some x → FlowsIf' d n depth (call_of unit role x)) → (x : A) → o ≡ Some x → J.fits d n depth (call_of unit role x)
  begin-along d n depth unit role (Some a) (Some b) r fits flow x e =
      let goes : Goes d n depth (call_of unit role x) = record { other = b; follows = (let same : a ≡ x = cc in subst (λ z. Follows z b) same r); fits = fits b refl } in (goes, flow x e goes)
  begin-along d n depth unit role None p r fits flow x e = absurd (let bad : ⊥ = cc in bad)
  begin-along d n depth unit role (Some a) None r fits flow x e = absurd r

  begins-along : (d : Common) (n depth unit : ℕ) (args : List Value) (role : Option Role) → BeginsWell natives N I d n depth unit args role → FlowsBegin' d n depth unit args role → BeginsWell natives M J d n depth unit args role
  begins-along d n depth unit args role h flow = begin-along d n depth unit role (M.enter unit args) (N.enter unit args) (sim.enters unit args) h flow

  all-begin : (d : Common) (n : ℕ) (ss : List Spawned) → AllBegin natives N I d n ss → AllFlow' d n ss → AllBegin natives M J d n ss
  all-begin d n [] h flow = tt
  all-begin d n (s ∷ ss) ((begins, runs, low), more) (flow, rest) = ((begins-along d n 1 s.unit s.args s.role begins flow, runs, low), all-begin d (suc n) ss more rest)

  caught-along : (d : Common) (n depth : ℕ) (f : Frame A) (b : B) (o : Option A) (p : Option B) → Both Follows o p → Caught (I.fits d n depth) (beside f b) p → ((x : A) → o ≡ Some x → FlowsIf' d n depth (goes_to f x)) → Caught (J.fits d n depth) f o
  caught-along d n depth f b (Some x) (Some y) r fits flow = let goes : Goes d n depth (goes_to f x) = record { other = y; follows = r; fits = fits } in (goes, flow x refl goes)
  caught-along d n depth f b None None r fits flow = tt
  caught-along d n depth f b (Some x) None r fits flow = absurd r
  caught-along d n depth f b None (Some y) r fits flow = absurd r

  -- ---- what an effect leaves

  effect-along : (c : Common) (depth : ℕ) (f : Frame A) (op : Operation) {other : Operation} (d m : B) (k : A) (effect : Effect) → (GoesOn effect → ¬ (EndsFrame op)) → Held M N Follows op other f.control d k m → EffectFits natives N I c depth (beside f d) m effect → EffectFlows natives M N Follows Fine I Flows FlowsBehind c depth f k effect → EffectFits natives M J c depth f k effect
  effect-along c depth f op d m k (Gives vs e) goes held (good, strands, later, fits) flow =
      let on : Goes e c.running depth (goes_to f (M.resume k vs)) = record { other = N.resume m vs; follows = held.resumes (goes tt) vs; fits = fits } in
      (good, strands, later, (on, flow (later None tt) on))
  effect-along c depth f op d m k (Fails v e) goes held (nearly, strands, later, throws, caught) flow =
      (nearly, strands, later, throws, caught-along e c.running depth f d (M.catch k v) (N.catch m v) (held.catches v) caught (flow (later None tt)))
  effect-along c depth f op d m k (Waits need) goes held h flow = h
  effect-along c depth f op d m k (Enters unit args e) goes held (good, strands, later, begins, awaits) flow =
      let below : GoesBelow e c.running depth (goes_to f k) unit = record { other = m; follows = record { resumes = held.resumes (goes tt); catches = held.catches }; awaits = awaits } in
      let both = flow (later None) in
      (good, strands, later, begins-along e c.running (suc depth) unit args None begins both.0, (below, both.1))
  effect-along c depth f op d m k (Leaves v) goes held h flow = h
  effect-along c depth f op d m k (Spawns ss role vs e) goes held (good, running, count, later, fresh, fits, all) flow =
      let on : Goes e c.running depth (call_of f.unit role (M.resume k vs)) = record { other = N.resume m vs; follows = held.resumes (goes tt) vs; fits = fits } in
      let both = flow (later None tt) in
      (good, running, count, later, fresh, (on, both.0 on), all-begin e (length c.strands) ss all both.1)
  effect-along c depth f op d m k NoTick goes held h flow = tt
  effect-along c depth f op d m k (Beyond limit) goes held h flow = tt

  -- ---- what a frame asks

  asks-along : (c : Common) (depth : ℕ) (f : Frame A) (b : B) (ask : Ask A) → I.good Running c → I.fits c c.running depth (beside f b) → ComesTo M N Follows natives (Caller' f depth) c f.control ask b → AskFlows natives M N Follows Fine I Flows FlowsBehind c depth f ask → AskFits natives M J c depth f ask
  asks-along c depth f b (On x) good fits (d, q, r) flow =
      let goes : Goes c c.running depth (goes_to f x) = record { other = d; follows = r; fits = quiet-fits c f depth good q fits } in
      (goes, flow goes)
  asks-along c depth f b (Does op vs k) good fits (d, m, other, q, look, alike, held) flow = λ effect performs.
      let asked : AskN c depth (beside f d) (Does other vs m) = subst (λ ask. AskN c depth (beside f d) ask) look (kept.asks c depth (beside f d) good (quiet-fits c f depth good q fits)) in
      let performs' : Performs N.facts natives op vs (Caller' f depth) c effect = subst (λ z. Performs z natives op vs (Caller' f depth) c effect) sim.facts performs in
      effect-along c depth f op d m k effect (goes-on M.facts natives op vs (Caller' f depth) c effect performs) held (asked effect ((alike vs (Caller' f depth) c effect).0 performs')) (flow effect performs)
  asks-along c depth f b Stuck good fits (d, q, look) flow =
      subst (λ ask. AskN c depth (beside f d) ask) look (kept.asks c depth (beside f d) good (quiet-fits c f depth good q fits))

  -- ---- the start

  same-start : (words : List Text) (input : List ℕ) (ticks : ℕ) → begins_with N (first_common M.launch words input ticks) (units_to_run M) ≡ start N words input ticks
  same-start words input ticks = λ i. begins_with N (first_common (sim.launch i) words input ticks) (map (λ u. (u, [])) (sim.facts i).initialisers ++ ((sim.launch i).main, main_arguments (sim.launch i).words) ∷ [])

  starts-along : (c : Common) (us : List (ℕ × List Value)) (s : State A) → begins_with M c us ≡ Some s → ((t : State B) → begins_with N c us ≡ Some t → StateFits I Picking t) → StateFits J Picking s
  starts-along c [] s e h = absurd (let bad : ⊥ = cc in bad)
  starts-along c (u ∷ us) s e h = by (M.enter u.0 u.1) (N.enter u.0 u.1) (sim.enters u.0 u.1) refl e h
    where
      at : {C : Type 0} → C → State C
      at x = record { common = record c { to_run = us }; frames = []; others = (call_of u.0 None x ∷ []) ∷ [] }

      begun-at : {C : Type 0} → Option C → Option (State C)
      begun-at o = option_map (λ f. record { common = record c { to_run = us }; frames = []; others = (f ∷ []) ∷ [] }) (option_map (λ x. call_of u.0 None x) o)

      by : (o : Option A) (p : Option B) → Both Follows o p → M.enter u.0 u.1 ≡ o → begun-at o ≡ Some s → ((t : State B) → begun-at p ≡ Some t → StateFits I Picking t) → StateFits J Picking s
      by (Some x) (Some y) r is e h =
          let same : at x ≡ s = cc in
          let rest = h (at y) refl in
          let d : Common = record c { to_run = us } in
          let first = rest.others.0 tt in
          let goes : Goes d 0 1 (call_of u.0 None x) = record { other = y; follows = r; fits = first.0 } in
          let flow : Flows d (call_of u.0 None x) = flows.begins Picking d 0 u.0 u.1 rest.good x is goes in
          let there : StateFits J Picking (at x) = record { good = rest.good; others = ((λ i. ((goes, flow), first.1, first.2, first.3)), tt); count = rest.count; frames = refl } in
          subst (λ z. StateFits J Picking z) same there
      by None None r is e h = absurd (let bad : ⊥ = cc in bad)
      by (Some x) None r is e h = absurd r
      by None (Some y) r is e h = absurd r

  -- ---- all of it

  pub keeps-along : IsKept natives M J
  keeps-along =
      record {
        asks = λ c depth f good (goes, flow).
            asks-along c depth f goes.other (M.look f.unit f.control) good goes.fits
            (sim.answers (Caller' f depth) c f.control goes.other (flows.fine c depth f good goes flow) goes.follows) (flows.asks c depth f good goes flow);
        stays = kept.stays;
        follows = kept.follows;
        resumes = λ c n depth f callee v (below, behind) holds.
            let goes : Goes c n depth (goes_to f (M.resume f.control (v ∷ []))) =
            record { other = N.resume below.other (v ∷ []); follows = below.follows.resumes (v ∷ []); fits = kept.resumes c n depth (beside f below.other) callee v below.awaits holds } in
            (goes, flows.resumes c n depth f callee v below behind holds goes);
        catches = λ c n depth f callee e (below, behind) throws.
            caught-along c n depth f below.other (M.catch f.control e) (N.catch below.other e) (below.follows.catches e) (kept.catches c n depth (beside f below.other) callee e below.awaits throws) (flows.catches c n depth f callee e below behind throws);
        fits = λ c d n depth f later (goes, flow).
            (record { other = goes.other; follows = goes.follows; fits = kept.fits c d n depth (beside f goes.other) later goes.fits }, flows.stays c d n depth f later goes flow);
        awaits = λ c d n depth f callee later (below, behind).
            (record { other = below.other; follows = below.follows; awaits = kept.awaits c d n depth (beside f below.other) callee later below.awaits }, flows.stays_behind c d n depth f callee later below behind);
        holds = kept.holds;
        throws = kept.throws;
        lowest = kept.lowest;
        gone = kept.gone;
        runs_on = kept.runs_on;
        settles = kept.settles;
        closes = kept.closes;
        ends = kept.ends;
        begins = λ c end u us nearly ended is.
            let b = kept.begins c end u us nearly ended is in
            let d = settled (record c { to_run = us }) in
            (b.0, b.1, begins-along d c.running 1 u.0 u.1 None b.2 (flows.begins Running d c.running u.0 u.1 b.0), b.3);
        picks = kept.picks;
        starts = λ words input ticks s texts e.
            starts-along (first_common M.launch words input ticks) (units_to_run M) s e (λ t is. kept.starts words input ticks t texts (sym (same-start words input ticks) ∙ is));
      }

  pub fine-along : AreFine natives M Fine
  fine-along words input ticks s f fs texts reached is =
      let whole : StateFits J Running s = kept-holds natives M J keeps-along words input ticks Running s texts reached in
      let frames : FramesFit J s.common s.common.running (f ∷ fs) = subst (λ l. FramesFit J s.common s.common.running l) is whole.frames.0 in
      flows.fine s.common (length (f ∷ fs)) f whole.good frames.0.0 frames.0.1

pub along-kept : {A B : Type 0} (natives : Answers) (M : Machine A) (N : Machine B) (Follows : A → B → Type 0) (Fine : Common → A → Type 0) (I : Invariant B) (Flows : Common → Frame A → Type 0) (FlowsBehind : Common → Frame A → ℕ → Type 0) → KeepsAlong natives M N Follows Fine I Flows FlowsBehind
along-kept natives M N Follows Fine I Flows FlowsBehind sim kept flows = keeps-along natives M N Follows Fine I Flows FlowsBehind sim kept flows

pub sound-followers-are-fine : {A B : Type 0} (natives : Answers) (M : Machine A) (N : Machine B) (Follows : A → B → Type 0) (Fine : Common → A → Type 0) (I : Invariant B) (Flows : Common → Frame A → Type 0) (FlowsBehind : Common → Frame A → ℕ → Type 0) → SoundFollowersAreFine natives M N Follows Fine I Flows FlowsBehind
sound-followers-are-fine natives M N Follows Fine I Flows FlowsBehind sim kept flows = fine-along natives M N Follows Fine I Flows FlowsBehind sim kept flows

pub sound-followers-do-the-same : {A B : Type 0} (natives : Answers) (M : Machine A) (N : Machine B) (Follows : A → B → Type 0) (Fine : Common → A → Type 0) (I : Invariant B) (Flows : Common → Frame A → Type 0) (FlowsBehind : Common → Frame A → ℕ → Type 0) → SoundFollowersDoTheSame natives M N Follows Fine I Flows FlowsBehind
sound-followers-do-the-same natives M N Follows Fine I Flows FlowsBehind sim kept flows settles =
    followers-do-the-same natives M N Follows Fine sim (fine-along natives M N Follows Fine I Flows FlowsBehind sim kept flows) settles
