-- Where each frame of one machine is followed by one of another, whole states are: same ready list, same ticks, same
-- output, same strands and queues. Nothing here knows of trees or code.
use Rattle.std.proofs.Common.{◌≡◌, ℕ, zero, suc, List, [], ◌∷◌, ◌++◌, Option, Some, None, refl, subst, ap, length}
use Rattle.std.specs.Prelude.{⊤, get_or, slice_set, option_map}
use Rattle.operations.specs.declared.operation.Operation.{Operation}
use Rattle.operations.specs.declared.operation.Operation.TheVariants.{Return, Panic}
use Rattle.value_model.specs.declared.value.Value.{Value}
use Rattle.value_model.specs.declared.value.Value.TheVariants.{Error}
use Rattle.value_model.specs.Meaning.{Answers}
use Rattle.op_model.specs.ProgramFacts.{ProgramFacts}
use Rattle.op_model.specs.Common.{Common, Caller, Role, End, Returned, Panicked}
use Rattle.op_model.specs.Strands.{settled, strand_blocked, strand_ended, worker_ended, workers_ended}
use Rattle.op_model.specs.Effects.{Effect, Gives, Fails, Waits, Enters, Leaves, Spawns, NoTick, Beyond, Spawned}
use Rattle.op_model.specs.Performs.{Performs}
use Rattle.machine_model.specs.Machine.{Machine, Frame, State, Next, Moved, Blocked, Ended, NeedsTick, Limit, goes_to, caller, next_units, frames_from, roles_to, begun, unwound, roles_left, left_with, goes_on, given, with_begun, all_begun, carried}
use Rattle.machine_model.specs.Following.{Both, Held, EndsFrame}
use Rattle.machine_model.specs.Matching.{SameCall, BelowMatch, FramesMatch, OthersMatch, StateMatch}

-- ---- what both machines ask of operations

-- an operation that ends its frame gives nothing, calls nothing and waits for nothing
abbrev pub GoesOn : Effect → Type 0
GoesOn (Fails e c) = ⊥
GoesOn (Leaves v) = ⊥
GoesOn effect = ⊤

pub goes-on : (facts : ProgramFacts) (natives : Answers) (op : Operation) (vs : List Value) (caller : Caller) (c : Common) (effect : Effect) → Performs facts natives op vs caller c effect → GoesOn effect → ¬ (EndsFrame op)
goes-on facts natives Return (v ∷ []) caller c effect h g x = subst GoesOn h g
goes-on facts natives Return [] caller c effect h g x = h
goes-on facts natives Return (v ∷ w ∷ vs) caller c effect h g x = h
goes-on facts natives Panic (Error n ∷ []) caller c effect h g x = subst GoesOn h g
goes-on facts natives Panic (v ∷ []) caller c effect h g x = h
goes-on facts natives Panic [] caller c effect h g x = h
goes-on facts natives Panic (v ∷ w ∷ vs) caller c effect h g x = h
goes-on facts natives op vs caller c effect h g x = x

-- ---- two options of which both or none is there

pub both-map : {A B X Y : Type 0} (P : A → B → Type 0) (Q : X → Y → Type 0) (F : A → X) (G : B → Y) → ((a : A) (b : B) → P a b → Q (F a) (G b)) → (o : Option A) (p : Option B) → Both P o p → Both Q (option_map F o) (option_map G p)
both-map P Q F G h (Some a) (Some b) r = h a b r
both-map P Q F G h None None r = tt
both-map P Q F G h (Some a) None r = absurd r
both-map P Q F G h None (Some b) r = absurd r

pub forth-some : {A B : Type 0} (P : A → B → Type 0) (a : A) (o : Option A) (p : Option B) → o ≡ Some a → Both P o p → (b : B) × (p ≡ Some b) × P a b
forth-some P a o (Some b) e h = (b, refl, subst (λ z. Both P z (Some b)) e h)
forth-some P a o None e h = absurd (subst (λ z. Both P z None) e h)

pub back-some : {A B : Type 0} (P : A → B → Type 0) (b : B) (o : Option A) (p : Option B) → p ≡ Some b → Both P o p → (a : A) × (o ≡ Some a) × P a b
back-some P b (Some a) p e h = (a, refl, subst (λ z. Both P (Some a) z) e h)
back-some P b None p e h = absurd (subst (λ z. Both P None z) e h)

-- ---- states

module _ {A B : Type 0} (M : Machine A) (N : Machine B) (Follows : A → B → Type 0) where
  abbrev Below : List (Frame A) → List (Frame B) → Type 0
  Below fs gs = BelowMatch M N Follows fs gs

  abbrev Tops : List (Frame A) → List (Frame B) → Type 0
  Tops fs gs = FramesMatch M N Follows fs gs

  abbrev Rest : List (List (Frame A)) → List (List (Frame B)) → Type 0
  Rest xs ys = OthersMatch M N Follows xs ys

  abbrev Whole : State A → State B → Type 0
  Whole s t = StateMatch M N Follows s t

  -- all but the frames of the running strand
  abbrev pub RestMatch : State A → State B → Type 0
  RestMatch s t = (s.common ≡ t.common) × Rest s.others t.others

  abbrev pub NextMatch : Next A → Next B → Type 0
  NextMatch (Moved s) (Moved t) = Whole s t
  NextMatch (Blocked s) (Blocked t) = Whole s t
  NextMatch (Ended s) (Ended t) = Whole s t
  NextMatch NeedsTick NeedsTick = ⊤
  NextMatch (Limit x) (Limit y) = x ≡ y
  NextMatch _ _ = ⊥

  -- ---- lists

  others-set : (xs : List (List (Frame A))) (ys : List (List (Frame B))) (n : ℕ) (x : List (Frame A)) (y : List (Frame B)) → Rest xs ys → Tops x y → Rest (slice_set xs n x) (slice_set ys n y)
  others-set [] [] n x y h k = tt
  others-set (a ∷ xs) (b ∷ ys) zero x y h k = (k, h.1)
  others-set (a ∷ xs) (b ∷ ys) (suc n) x y h k = (h.0, others-set xs ys n x y h.1 k)
  others-set [] (b ∷ ys) n x y h k = absurd h
  others-set (a ∷ xs) [] n x y h k = absurd h

  others-more : (xs : List (List (Frame A))) (ys : List (List (Frame B))) (zs : List (List (Frame A))) (ws : List (List (Frame B))) → Rest xs ys → Rest zs ws → Rest (xs ++ zs) (ys ++ ws)
  others-more [] [] zs ws h k = k
  others-more (a ∷ xs) (b ∷ ys) zs ws h k = (h.0, others-more xs ys zs ws h.1 k)
  others-more [] (b ∷ ys) zs ws h k = absurd h
  others-more (a ∷ xs) [] zs ws h k = absurd h

  others-at : (xs : List (List (Frame A))) (ys : List (List (Frame B))) (n : ℕ) → Rest xs ys → Tops (get_or xs n []) (get_or ys n [])
  others-at [] [] n h = tt
  others-at (x ∷ xs) (y ∷ ys) zero h = h.0
  others-at (x ∷ xs) (y ∷ ys) (suc n) h = others-at xs ys n h.1
  others-at [] (y ∷ ys) n h = absurd h
  others-at (x ∷ xs) [] n h = absurd h

  pub put-match : (xs : List (List (Frame A))) (ys : List (List (Frame B))) (n m : ℕ) (x : List (Frame A)) (y : List (Frame B)) → n ≡ m → Rest xs ys → Tops x y → Rest (slice_set xs n x) (slice_set ys m y)
  put-match xs ys n m x y e h k = subst (λ i. Rest (slice_set xs n x) (slice_set ys i y)) e (others-set xs ys n x y h k)

  pub picked-match : (xs : List (List (Frame A))) (ys : List (List (Frame B))) (n : ℕ) → Rest xs ys → Tops (get_or xs n []) (get_or ys n []) × Rest (slice_set xs n []) (slice_set ys n [])
  picked-match xs ys n h = (others-at xs ys n h, others-set xs ys n [] [] h tt)

  below-length : (fs : List (Frame A)) (gs : List (Frame B)) → Below fs gs → length fs ≡ length gs
  below-length [] [] h = refl
  below-length (f ∷ fs) (g ∷ gs) h = ap suc (below-length fs gs h.2)
  below-length [] (g ∷ gs) h = absurd h
  below-length (f ∷ fs) [] h = absurd h

  pub same-caller : (f : Frame A) (g : Frame B) (fs : List (Frame A)) (gs : List (Frame B)) → SameCall f g → Below fs gs → caller f fs ≡ caller g gs
  same-caller f g fs gs (u, r) h = λ i. record { unit = u i; role = r i; depth = suc (below-length fs gs h i) }

  -- ---- panics

  frames-match : (f : Frame A) (g : Frame B) (fs more : List (Frame A)) (gs others : List (Frame B)) (o : Option A) (p : Option B) → SameCall f g → Below fs gs → Tops more others → Both Follows o p → Tops (frames_from f fs more o) (frames_from g gs others p)
  frames-match f g fs more gs others (Some a) (Some b) e below h both = (e, both, below)
  frames-match f g fs more gs others None None e below h both = h
  frames-match f g fs more gs others (Some a) None e below h both = absurd both
  frames-match f g fs more gs others None (Some b) e below h both = absurd both

  roles-match : (r q : Option Role) (more others : List (Option Role)) (o : Option A) (p : Option B) → r ≡ q → more ≡ others → Both Follows o p → roles_to r more o ≡ roles_to q others p
  roles-match r q more others (Some a) (Some b) e h both = refl
  roles-match r q more others None None e h both = (λ i. e i ∷ h i)
  roles-match r q more others (Some a) None e h both = absurd both
  roles-match r q more others None (Some b) e h both = absurd both

  unwound-match : (e : Value) (fs : List (Frame A)) (gs : List (Frame B)) → Below fs gs → Tops (unwound M e fs) (unwound N e gs)
  unwound-match e [] [] h = tt
  unwound-match e (f ∷ fs) (g ∷ gs) (r, w, below) = frames-match f g fs _ gs _ (M.catch f.control e) (N.catch g.control e) r below (unwound-match e fs gs below) (w.catches e)
  unwound-match e [] (g ∷ gs) h = absurd h
  unwound-match e (f ∷ fs) [] h = absurd h

  left-match : (e : Value) (fs : List (Frame A)) (gs : List (Frame B)) → Below fs gs → roles_left M e fs ≡ roles_left N e gs
  left-match e [] [] h = refl
  left-match e (f ∷ fs) (g ∷ gs) (r, w, below) = roles-match f.role g.role _ _ (M.catch f.control e) (N.catch g.control e) r.1 (left-match e fs gs below) (w.catches e)
  left-match e [] (g ∷ gs) h = absurd h
  left-match e (f ∷ fs) [] h = absurd h

  abbrev pub ComeMatch : Option (Next A) → Option (Next B) → Type 0
  ComeMatch o p = Both NextMatch o p

  -- ---- frames that begin

  abbrev pub FrameMatch : Frame A → Frame B → Type 0
  FrameMatch f g = SameCall f g × Follows f.control g.control

  begun-with : (o : Option (Frame A)) (p : Option (Frame B)) (more : Option (List (List (Frame A)))) (others : Option (List (List (Frame B)))) → Both FrameMatch o p → Both Rest more others → Both Rest (with_begun M o more) (with_begun N p others)
  begun-with (Some f) (Some g) (Some xs) (Some ys) r h = ((r.0, r.1, tt), h)
  begun-with (Some f) (Some g) None None r h = tt
  begun-with None None more others r h = tt
  begun-with (Some f) (Some g) (Some xs) None r h = absurd h
  begun-with (Some f) (Some g) None (Some ys) r h = absurd h
  begun-with (Some f) None more others r h = absurd r
  begun-with None (Some g) more others r h = absurd r

  -- ---- what an effect makes of matching states

  module _ (enters : (unit : ℕ) (args : List Value) → Both Follows (M.enter unit args) (N.enter unit args)) where
    pub begun-match : (unit : ℕ) (args : List Value) (role : Option Role) → Both FrameMatch (begun M unit args role) (begun N unit args role)
    begun-match unit args role = both-map Follows FrameMatch _ _ (λ a b r. ((refl, refl), r)) (M.enter unit args) (N.enter unit args) (enters unit args)

    all-begun : (ss : List Spawned) → Both Rest (all_begun M ss) (all_begun N ss)
    all-begun [] = tt
    all-begun (s ∷ ss) = begun-with (begun M s.unit s.args s.role) (begun N s.unit s.args s.role) (all_begun M ss) (all_begun N ss) (begun-match s.unit s.args s.role) (all-begun ss)

    left-with-match : (s : State A) (t : State B) (c d : Common) (end : End) (us vs : List (ℕ × List Value)) → RestMatch s t → c ≡ d → us ≡ vs → ComeMatch (left_with M s c end us) (left_with N t d end vs)
    left-with-match s t c d end us vs (same, om) e is = subst (λ l. ComeMatch (left_with M s c end us) (left_with N t d end l)) is (by us)
      where
        by : (ws : List (ℕ × List Value)) → ComeMatch (left_with M s c end ws) (left_with N t d end ws)
        by [] = (ap (λ x. settled (strand_ended end x)) e, tt, put-match s.others t.others s.common.running t.common.running [] [] (ap (λ x. x.running) same) om tt)
        by (u ∷ ws) = both-map FrameMatch NextMatch _ _ (λ f g r. (ap (λ x. settled (record x { to_run = ws })) e, (r.0, r.1, tt), om)) (begun M u.0 u.1 None) (begun N u.0 u.1 None) (begun-match u.0 u.1 None)

    goes-on-match : (s : State A) (t : State B) (c d : Common) (end : End) (fs : List (Frame A)) (gs : List (Frame B)) → RestMatch s t → c ≡ d → Tops fs gs → ComeMatch (goes_on M s c end fs) (goes_on N t d end gs)
    goes-on-match s t c d end [] [] m e h = left-with-match s t c d end (next_units c end) (next_units d end) m e (ap (λ x. next_units x end) e)
    goes-on-match s t c d end (f ∷ fs) (g ∷ gs) m e h = (ap settled e, h, m.1)
    goes-on-match s t c d end [] (g ∷ gs) m e h = absurd h
    goes-on-match s t c d end (f ∷ fs) [] m e h = absurd h

    given-match : (v : Value) (fs : List (Frame A)) (gs : List (Frame B)) → Below fs gs → Tops (given M v fs) (given N v gs)
    given-match v [] [] h = tt
    given-match v (f ∷ fs) (g ∷ gs) (r, w, below) = (r, w.resumes (v ∷ []), below)
    given-match v [] (g ∷ gs) h = absurd h
    given-match v (f ∷ fs) [] h = absurd h

    pub carried-match : (s : State A) (t : State B) (f : Frame A) (g : Frame B) (op : Operation) {other : Operation} (k : A) (m : B) (fs : List (Frame A)) (gs : List (Frame B)) (effect : Effect) → RestMatch s t → SameCall f g → (GoesOn effect → ¬ (EndsFrame op)) → Held M N Follows op other f.control g.control k m → Below fs gs → ComeMatch (carried M s f k fs effect) (carried N t g m gs effect)
    carried-match s t f g op k m fs gs (Gives vs c) match call goes w below = (refl, (call, w.resumes (goes tt) vs, below), match.1)
    carried-match s t f g op k m fs gs (Fails e c) match call goes w below =
        goes-on-match s t _ _ (Panicked e) (unwound M e (goes_to f k ∷ fs)) (unwound N e (goes_to g m ∷ gs)) match
        (ap (λ l. workers_ended (Panicked e) l c) (roles-match f.role g.role _ _ (M.catch k e) (N.catch m e) call.1 (left-match e fs gs below) (w.catches e)))
        (frames-match (goes_to f k) (goes_to g m) fs _ gs _ (M.catch k e) (N.catch m e) call below (unwound-match e fs gs below) (w.catches e))
    carried-match s t f g op k m fs gs (Waits need) (same, om) call goes w below =
        (ap (strand_blocked need) same, tt, put-match s.others t.others s.common.running t.common.running (f ∷ fs) (g ∷ gs) (ap (λ x. x.running) same) om (call, w.waits (goes tt), below))
    carried-match s t f g op k m fs gs (Enters unit args c) (same, om) call goes w below =
        both-map FrameMatch NextMatch _ _ (λ x y r. (refl, (r.0, r.1, (call, record { resumes = w.resumes (goes tt); catches = w.catches }, below)), om)) (begun M unit args None) (begun N unit args None) (begun-match unit args None)
    carried-match s t f g op k m fs gs (Leaves v) match call goes w below =
        goes-on-match s t _ _ (Returned v) (given M v fs) (given N v gs) match (λ i. worker_ended (Returned v) (call.1 i) (match.0 i)) (given-match v fs gs below)
    carried-match s t f g op k m fs gs (Spawns ss role vs c) (same, om) call goes w below =
        both-map Rest NextMatch _ _ (λ xs ys h. (refl, ((call.0, refl), w.resumes (goes tt) vs, below), others-more s.others t.others xs ys om h)) (all_begun M ss) (all_begun N ss) (all-begun ss)
    carried-match s t f g op k m fs gs NoTick match call goes w below = tt
    carried-match s t f g op k m fs gs (Beyond limit) match call goes w below = refl
