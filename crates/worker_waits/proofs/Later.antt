-- What stays of a worker while others go on: where it runs, and how many messages it has sent and received.
use Rattle.std.proofs.Common.{◌≡◌, ◌≢◌, ◌<◌, ◌⊎◌, ◌+◌, ◌++◌, ◌==◌, ◌∙◌, ℕ, List, [], ◌∷◌, Option, Some, None, length, refl, sym, subst, ap, inl, inr, arith}
use Rattle.std.proofs.lemmas.List.{length-set}
use Rattle.std.proofs.lemmas.Bool.{eq-eqb, ne_eqb}
use Rattle.std.proofs.lemmas.Option.{none-some}
use Rattle.std.specs.Prelude.{get_or, slice_get, slice_set}
use Rattle.op_model.specs.Common.{Activation, Channel, Role}
use Rattle.op_model.specs.Strands.{no_activation, no_channel}
use Rattle.machine_model.proofs.Places.{get-more, get-past, same-or, set-cases, set-view}
use Rattle.worker_waits.proofs.Stepping.{one_if}

abbrev pub Acts : Type 0
Acts = List Activation

abbrev pub act : Acts → ℕ → Activation
act acts a = get_or acts a no_activation

abbrev pub channel_in : Activation → ℕ → ℕ → Channel
channel_in x v w = get_or (get_or x.channels v []) w no_channel

abbrev pub Runs : Acts → ℕ → Role → Type 0
Runs acts n r = slice_get (act acts r.activation).strands r.worker ≡ Some n

-- there is a channel for messages from v to w
abbrev pub HasRoom : Activation → (v w : ℕ) → Type 0
HasRoom x v w = (v < length x.channels) × (w < length (get_or x.channels v []))

-- of one activation: what is of the worker is as it was
pub record SameOf (worker : ℕ) (x y : Activation) : Type 0 where
  pub unit : y.unit ≡ x.unit
  pub runs : (n : ℕ) → slice_get x.strands worker ≡ Some n → slice_get y.strands worker ≡ Some n
  pub sent : (w : ℕ) → (channel_in y worker w).sent ≡ (channel_in x worker w).sent
  pub received : (v : ℕ) → (channel_in y v worker).received ≡ (channel_in x v worker).received
  pub room : (v w : ℕ) → HasRoom x v w → HasRoom y v w

pub same-still : (worker : ℕ) (x : Activation) → SameOf worker x x
same-still worker x = record { unit = refl; runs = λ n h. h; sent = λ w. refl; received = λ v. refl; room = λ v w h. h }

pub same-then : (worker : ℕ) (x y z : Activation) → SameOf worker x y → SameOf worker y z → SameOf worker x z
same-then worker x y z h k =
    record { unit = k.unit ∙ h.unit; runs = λ n r. k.runs n (h.runs n r); sent = λ w. k.sent w ∙ h.sent w; received = λ v. k.received v ∙ h.received v; room = λ v w r. k.room v w (h.room v w r) }

-- a later one: all runs go on, and of this worker, where it runs, all else is as it was
abbrev pub Later : Option Role → Acts → Acts → Type 0
Later None acts bcts = (a w n : ℕ) → slice_get (act acts a).strands w ≡ Some n → slice_get (act bcts a).strands w ≡ Some n
Later (Some r) acts bcts = (n : ℕ) → Runs acts n r → SameOf r.worker (act acts r.activation) (act bcts r.activation)

pub later-same : (q : Option Role) (acts bcts : Acts) → bcts ≡ acts → Later q acts bcts
later-same None acts bcts e = λ a w n h. subst (λ z. slice_get (act z a).strands w ≡ Some n) (sym e) h
later-same (Some r) acts bcts e = λ n h. subst (λ z. SameOf r.worker (act acts r.activation) (act z r.activation)) (sym e) (same-still r.worker (act acts r.activation))

pub later-then : (q : Option Role) (acts bcts ccts : Acts) → Later q acts bcts → Later q bcts ccts → Later q acts ccts
later-then None acts bcts ccts h k = λ a w n r. k a w n (h a w n r)
later-then (Some r) acts bcts ccts h k = λ n runs. let s = h n runs in same-then r.worker _ _ _ s (k n (s.runs n runs))

-- ---- one activation changes

module _ (acts : Acts) (a : ℕ) (y : Activation) (strands : y.strands ≡ (act acts a).strands) where
  set-same : (r : Role) → (r.activation ≡ a → SameOf r.worker (act acts a) y) → SameOf r.worker (act acts r.activation) (act (slice_set acts a y) r.activation)
  set-same r h =
      set-cases (λ z. SameOf r.worker (act acts r.activation) z) acts a r.activation y no_activation
      (λ e. subst (λ i. SameOf r.worker (act acts i) y) (sym e) (h e)) (λ out. same-still r.worker (act acts r.activation))

  pub later-set : (q : Option Role) → ((r : Role) → q ≡ Some r → r.activation ≡ a → SameOf r.worker (act acts a) y) → Later q acts (slice_set acts a y)
  later-set None h = λ i w n runs.
      set-cases (λ z. slice_get z.strands w ≡ Some n) acts a i y no_activation
      (λ e. ap (λ l. slice_get l w) strands ∙ subst (λ j. slice_get (act acts j).strands w ≡ Some n) e runs) (λ out. runs)
  later-set (Some r) h = λ n runs. set-same r (h r refl)

-- ---- one activation more

pub past-none : (acts : Acts) (i w n : ℕ) → i ≡ length acts → slice_get (act acts i).strands w ≡ Some n → ⊥
past-none acts i w n last runs = none-some n (sym (ap (λ z. slice_get z.strands w) (get-past acts i no_activation (omega (arith, last)))) ∙ runs)

pub later-more : (acts : Acts) (y : Activation) (q : Option Role) → Later q acts (acts ++ y ∷ [])
later-more acts y None = λ i w n runs. get-more (λ z. slice_get z.strands w ≡ Some n) acts y no_activation i (λ last. absurd (past-none acts i w n last runs)) (λ ne. runs)
later-more acts y (Some r) = λ n runs.
    get-more (λ z. SameOf r.worker (act acts r.activation) z) acts y no_activation r.activation (λ last. absurd (past-none acts r.activation r.worker n last runs)) (λ ne. same-still r.worker (act acts r.activation))

-- ---- one channel changes

pub or-here : {A : Type 0} (l : List A) (i : ℕ) (y d : A) → i < length l → get_or (slice_set l i y) i d ≡ y
or-here l i y d lt = set-cases (λ z. z ≡ y) l i i y d (λ e. refl) (λ out. let le = out refl in absurd (omega (arith, lt, le)))

pub or-other : {A : Type 0} (l : List A) (i j : ℕ) (y d : A) → j ≢ i → get_or (slice_set l i y) j d ≡ get_or l j d
or-other l i j y d ne = set-cases (λ z. z ≡ get_or l j d) l i j y d (λ e. absurd (ne e)) (λ out. refl)

module _ (x : Activation) (from to : ℕ) (ch : Channel) where
  -- the activation with this channel
  abbrev pub changed : Activation
  changed = record { unit = x.unit; strands = x.strands; ends = x.ends; channels = slice_set x.channels from (slice_set (get_or x.channels from []) to ch) }

  pub channel-one : (P : Channel → Type 0) (v w : ℕ) → (v ≡ from → w ≡ to → P ch) → P (channel_in x v w) → P (channel_in changed v w)
  channel-one P v w same other =
      set-cases (λ l. P (get_or l w no_channel)) x.channels from v (slice_set (get_or x.channels from []) to ch) []
      (λ e. set-cases P (get_or x.channels from []) to w ch no_channel (λ f. same e f) (λ out. subst (λ k. P (channel_in x k w)) e other))
      (λ out. other)

  pub changed-room : (v w : ℕ) → HasRoom x v w → HasRoom changed v w
  changed-room v w (lv, lw) =
      let n = length-set x.channels from (slice_set (get_or x.channels from []) to ch) in
      let k = set-view length x.channels from v (slice_set (get_or x.channels from []) to ch) [] (length-set (get_or x.channels from []) to ch) in
      (omega (arith, lv, n), omega (arith, lw, k))

  -- of a worker that hasn't sent or received by it
  pub changed-same : (worker : ℕ) → (worker ≡ from → ch.sent ≡ (channel_in x from to).sent) → (worker ≡ to → ch.received ≡ (channel_in x from to).received) → SameOf worker x changed
  changed-same worker sent received =
      record {
        unit = refl;
        runs = λ n h. h;
        sent = λ w. channel-one (λ z. z.sent ≡ (channel_in x worker w).sent) worker w (λ e f. sent e ∙ (λ i. (channel_in x (sym e i) (sym f i)).sent)) refl;
        received = λ v. channel-one (λ z. z.received ≡ (channel_in x v worker).received) v worker (λ e f. received f ∙ (λ i. (channel_in x (sym e i) (sym f i)).received)) refl;
        room = changed-room;
      }

  -- where the channel is there it is the new one
  pub channel-here : HasRoom x from to → channel_in changed from to ≡ ch
  channel-here (lf, lt) =
      ap (λ l. get_or l to no_channel) (or-here x.channels from (slice_set (get_or x.channels from []) to ch) [] lf) ∙ or-here (get_or x.channels from []) to ch no_channel lt

  pub channel-apart : (v w : ℕ) → (v ≢ from) ⊎ (w ≢ to) → channel_in changed v w ≡ channel_in x v w
  channel-apart v w (inl ne) = channel-one (λ z. z ≡ channel_in x v w) v w (λ e f. absurd (ne e)) refl
  channel-apart v w (inr ne) = channel-one (λ z. z ≡ channel_in x v w) v w (λ e f. absurd (ne f)) refl

  pub sent-one : HasRoom x from to → ch.sent ≡ (channel_in x from to).sent + 1 → (w : ℕ) → (channel_in changed from w).sent ≡ (channel_in x from w).sent + one_if (to == w)
  sent-one room more w = by (same-or w to)
    where
      by : (w ≡ to) ⊎ (w ≢ to) → (channel_in changed from w).sent ≡ (channel_in x from w).sent + one_if (to == w)
      by (inl e) =
          let b : one_if (to == w) ≡ 1 = ap one_if (eq-eqb to w (sym e)) in
          let here : (channel_in changed from w).sent ≡ ch.sent = ap (λ z. z.sent) (ap (λ k. channel_in changed from k) e ∙ channel-here room) in
          let old : (channel_in x from w).sent ≡ (channel_in x from to).sent = ap (λ k. (channel_in x from k).sent) e in
          omega (arith, b, here, old, more)
      by (inr ne) =
          let b : one_if (to == w) ≡ 0 = ap one_if (ne_eqb to w (λ e. ne (sym e))) in
          let same = ap (λ z. z.sent) (channel-apart from w (inr ne)) in
          omega (arith, b, same)

  pub received-one : HasRoom x from to → ch.received ≡ (channel_in x from to).received + 1 → (v : ℕ) → (channel_in changed v to).received ≡ (channel_in x v to).received + one_if (from == v)
  received-one room more v = by (same-or v from)
    where
      by : (v ≡ from) ⊎ (v ≢ from) → (channel_in changed v to).received ≡ (channel_in x v to).received + one_if (from == v)
      by (inl e) =
          let b : one_if (from == v) ≡ 1 = ap one_if (eq-eqb from v (sym e)) in
          let here : (channel_in changed v to).received ≡ ch.received = ap (λ z. z.received) (ap (λ k. channel_in changed k to) e ∙ channel-here room) in
          let old : (channel_in x v to).received ≡ (channel_in x from to).received = ap (λ k. (channel_in x k to).received) e in
          omega (arith, b, here, old, more)
      by (inr ne) =
          let b : one_if (from == v) ≡ 0 = ap one_if (ne_eqb from v (λ e. ne (sym e))) in
          let same = ap (λ z. z.received) (channel-apart v to (inl ne)) in
          omega (arith, b, same)
