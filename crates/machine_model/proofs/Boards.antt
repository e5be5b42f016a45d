-- Who is ready, and which worker is on which strand, by statuses and roles alone: what holds of it, and what keeps it.
use Rattle.std.proofs.Common.{◌≡◌, ◌≢◌, ◌<◌, ◌≤◌, ◌∙◌, ℕ, List, [], ◌∷◌, Option, Some, None, length, refl, sym, subst, ap, inl, inr, ◌⊎◌, arith}
use Rattle.std.specs.Prelude.{⊤, get_or, option_map, slice_get, slice_set}
use Rattle.std.proofs.lemmas.List.{length-set}
use Rattle.op_model.specs.Common.{Role, End, Status, IsActive}
use Rattle.op_model.specs.Strands.{end_in}
use Rattle.machine_model.specs.Runs.{Phase, Running, Picking}
use Rattle.machine_model.specs.Strands.{HasRole, IsLaterThan, IsLaterThanAll, LowestIs, Rise, due_in, role_of, times}
use Rattle.machine_model.proofs.Once.{some-same}
use Rattle.machine_model.proofs.Places.{get-past, same-or, set-cases, set-view, slice-other, slice-same}

-- a strand and an activation, as far as they are spoken of here
pub record Seen : Type 0 where
  pub role : Option Role
  pub status : Status

pub record Crew : Type 0 where
  pub strands : List ℕ
  pub ends : List (Option End)

pub record Board : Type 0 where
  pub running : ℕ
  pub ready : List ℕ
  pub strands : List Seen
  pub crews : List Crew

abbrev pub no_crew : Crew
no_crew = record { strands = []; ends = [] }

abbrev pub crew_at : Board → ℕ → Crew
crew_at b a = get_or b.crews a no_crew

abbrev pub status_in : Board → ℕ → Option Status
status_in b n = option_map (λ x. x.status) (slice_get b.strands n)

-- the worker runs on the strand; it has not ended
abbrev pub RunsAt : Board → ℕ → Role → Type 0
RunsAt b n r = slice_get (crew_at b r.activation).strands r.worker ≡ Some n

abbrev pub IsOpen : Board → Role → Type 0
IsOpen b r = slice_get (crew_at b r.activation).ends r.worker ≡ Some None

abbrev pub IsOnIt : Board → ℕ → Option Role → Type 0
IsOnIt b n (Some r) = RunsAt b n r × IsOpen b r
IsOnIt b n None = ⊤

abbrev pub AreOnIt : Board → ℕ → List (Option Role) → Type 0
AreOnIt b n [] = ⊤
AreOnIt b n (role ∷ roles) = IsOnIt b n role × AreOnIt b n roles

abbrev pub RunsActive : Phase → Board → Type 0
RunsActive Running b = status_in b b.running ≡ Some IsActive
RunsActive Picking b = ⊤

-- what holds, where R are the roles of the frames of each strand
pub record Held (phase : Phase) (b : Board) (R : ℕ → List (Option Role)) : Type 0 where
  pub ready : (n : ℕ) → times n b.ready ≡ due_in phase b.running n (status_in b n)
  pub runs : RunsActive phase b
  pub rest : (n : ℕ) (x : Seen) → slice_get b.strands n ≡ Some x → end_in x.status ≢ None → R n ≡ []
  pub on : (n : ℕ) → AreOnIt b n (R n)
  pub rise : (n : ℕ) → Rise (R n)
  pub named : (n : ℕ) (x : Seen) (r : Role) → slice_get b.strands n ≡ Some x → x.role ≡ Some r → (n ≢ 0) × RunsAt b n r × ((R n ≡ []) ⊎ LowestIs r (R n))
  pub crews : (a w n : ℕ) (x : Seen) → slice_get (crew_at b a).strands w ≡ Some n → slice_get b.strands n ≡ Some x → IsOpen b (role_of a w) → HasRole (role_of a w) (R n)
  pub apart : (a v w n : ℕ) → slice_get (crew_at b a).strands v ≡ Some n → slice_get (crew_at b a).strands w ≡ Some n → v ≡ w
  pub ends : (a : ℕ) → length (crew_at b a).ends ≡ length (crew_at b a).strands

-- each worker's strand is there
abbrev pub AreThere : Board → Type 0
AreThere b = (a w n : ℕ) → slice_get (crew_at b a).strands w ≡ Some n → n < length b.strands

-- ---- the roles of strands as functions of their numbers

-- only on this strand they are others
pub record Moves (m : ℕ) (roles : List (Option Role)) (R R' : ℕ → List (Option Role)) : Type 0 where
  pub here : R' m ≡ roles
  pub elsewhere : (n : ℕ) → n ≢ m → R' n ≡ R n

abbrev pub at-each : {m : ℕ} {roles : List (Option Role)} {R R' : ℕ → List (Option Role)} (P : ℕ → List (Option Role) → Type 0) → Moves m roles R R' → P m roles → ((n : ℕ) → n ≢ m → P n (R n)) → (n : ℕ) → P n (R' n)
at-each {m} {roles} {R} {R'} P moves here elsewhere n = by (same-or n m)
  where
    by : (n ≡ m) ⊎ (n ≢ m) → P n (R' n)
    by (inl e) = subst (λ k. P k (R' k)) (sym e) (subst (λ l. P m l) (sym moves.here) here)
    by (inr ne) = subst (λ l. P n l) (sym (moves.elsewhere n ne)) (elsewhere n ne)

pub same-roles : {phase : Phase} {b : Board} {R R' : ℕ → List (Option Role)} → ((n : ℕ) → R' n ≡ R n) → Held phase b R → Held phase b R'
same-roles {phase} {b} {R} {R'} e h = let whole : R ≡ R' = λ i n. sym (e n) i in subst (λ S. Held phase b S) whole h

-- ---- roles in lists

pub later-than : (r : Role) (roles : List (Option Role)) (q : Role) → IsLaterThanAll (Some r) roles → HasRole q roles → q.activation < r.activation
later-than r [] q l h = absurd h
later-than r (role ∷ roles) q l (inl e) = subst (λ x. IsLaterThan (Some r) x) e l.0
later-than r (role ∷ roles) q l (inr h) = later-than r roles q l.1 h

pub has-on : (b : Board) (n : ℕ) (roles : List (Option Role)) (r : Role) → AreOnIt b n roles → HasRole r roles → RunsAt b n r × IsOpen b r
has-on b n [] r on h = absurd h
has-on b n (role ∷ roles) r on (inl e) = subst (λ x. IsOnIt b n x) e on.0
has-on b n (role ∷ roles) r on (inr h) = has-on b n roles r on.1 h

-- on another board, where each worker of the list is on it
pub on-there : (b d : Board) (n : ℕ) (roles : List (Option Role)) → AreOnIt b n roles → ((r : Role) → HasRole r roles → RunsAt b n r → IsOpen b r → RunsAt d n r × IsOpen d r) → AreOnIt d n roles
on-there b d n [] on h = tt
on-there b d n (None ∷ roles) on h = (tt, on-there b d n roles on.1 (λ r i. h r (inr i)))
on-there b d n (Some q ∷ roles) on h = (h q (inl refl) on.0.0 on.0.1, on-there b d n roles on.1 (λ r i. h r (inr i)))

pub lowest-behind : (r : Role) (role : Option Role) (roles : List (Option Role)) → LowestIs r (role ∷ roles) → (roles ≡ []) ⊎ LowestIs r roles
lowest-behind r role [] h = inl refl
lowest-behind r role (other ∷ roles) h = inr h

pub lowest-over : (r : Role) (role : Option Role) (roles : List (Option Role)) → LowestIs r roles → LowestIs r (role ∷ roles)
lowest-over r role [] h = absurd h
lowest-over r role (other ∷ roles) h = h

-- ---- a frame is gone, and where it was a worker this one has ended

abbrev pub closed : End → Option Role → Board → Board
closed end None b = b
closed end (Some q) b =
    record b { crews = slice_set b.crews q.activation (record { strands = (crew_at b q.activation).strands; ends = slice_set (crew_at b q.activation).ends q.worker (Some end) }) }

module _ (end : End) (q : Role) (b : Board) where
  abbrev pub after : Board
  after = closed end (Some q) b

  abbrev new : Crew
  new = record { strands = (crew_at b q.activation).strands; ends = slice_set (crew_at b q.activation).ends q.worker (Some end) }

  pub closed-strands : (a : ℕ) → (crew_at after a).strands ≡ (crew_at b a).strands
  closed-strands a = set-view (λ x. x.strands) b.crews q.activation a new no_crew refl

  closed-ends : (a : ℕ) → length (crew_at after a).ends ≡ length (crew_at b a).ends
  closed-ends a = set-view (λ x. length x.ends) b.crews q.activation a new no_crew (length-set (crew_at b q.activation).ends q.worker (Some end))

  none-past : (a w : ℕ) → length b.crews ≤ a → slice_get (crew_at b a).ends w ≡ Some None → ⊥
  none-past a w le e = let none : slice_get (crew_at b a).ends w ≡ None = ap (λ x. slice_get x.ends w) (get-past b.crews a no_crew le) in let bad : ⊥ = cc in bad

  -- any other worker is as it was
  stays-open : (r : Role) → r ≢ q → IsOpen b r → IsOpen after r
  stays-open r ne is-open =
      set-cases (λ x. slice_get x.ends r.worker ≡ Some None) b.crews q.activation r.activation new no_crew
      (λ e. slice-other (crew_at b q.activation).ends q.worker r.worker (Some end) (λ w. ne (λ i. record { activation = e i; worker = w i }))
      ∙ subst (λ a. slice_get (crew_at b a).ends r.worker ≡ Some None) e is-open)
      (λ out. is-open)

  was-open : (r : Role) → IsOpen after r → IsOpen b r
  was-open r =
      set-cases (λ x. slice_get x.ends r.worker ≡ Some None → IsOpen b r) b.crews q.activation r.activation new no_crew
      (λ e is. by e is (same-or r.worker q.worker))
      (λ out is. is)
    where
      by : r.activation ≡ q.activation → slice_get new.ends r.worker ≡ Some None → (r.worker ≡ q.worker) ⊎ (r.worker ≢ q.worker) → IsOpen b r
      by e is (inl w) = absurd (let bad : Some end ≡ None = slice-same (crew_at b q.activation).ends q.worker (Some end) None (subst (λ k. slice_get new.ends k ≡ Some None) w is) in let no : ⊥ = cc in no)
      by e is (inr ne) = subst (λ a. slice_get (crew_at b a).ends r.worker ≡ Some None) (sym e) (sym (slice-other (crew_at b q.activation).ends q.worker r.worker (Some end) ne) ∙ is)

  not-open : IsOpen after q → ⊥
  not-open =
      set-cases (λ x. slice_get x.ends q.worker ≡ Some None → ⊥) b.crews q.activation q.activation new no_crew
      (λ e is. let bad : Some end ≡ None = slice-same (crew_at b q.activation).ends q.worker (Some end) None is in let no : ⊥ = cc in no)
      (λ out is. none-past q.activation q.worker (out refl) is)

  other-open : (r : Role) → IsOpen after r → r ≢ q
  other-open r is e = not-open (subst (λ x. IsOpen after x) e is)

  -- the running strand loses its top frame
  module _ (R R' : ℕ → List (Option Role)) (roles : List (Option Role)) (h : Held Running b R) (is : R b.running ≡ Some q ∷ roles) (moves : Moves b.running roles R R') where
    top-on : AreOnIt b b.running (Some q ∷ roles)
    top-on = subst (λ l. AreOnIt b b.running l) is (h.on b.running)

    top-rises : Rise (Some q ∷ roles)
    top-rises = subst Rise is (h.rise b.running)

    moved-on : (n : ℕ) (r : Role) → r ≢ q → RunsAt b n r → IsOpen b r → RunsAt after n r × IsOpen after r
    moved-on n r ne runs o = (ap (λ l. slice_get l r.worker) (closed-strands r.activation) ∙ runs, stays-open r ne o)

    apart-from : (n : ℕ) (r : Role) → n ≢ b.running → RunsAt b n r → r ≢ q
    apart-from n r ne runs e = ne (some-same n b.running (sym runs ∙ (ap (λ x. slice_get (crew_at b x.activation).strands x.worker) e ∙ top-on.0.0)))

    behind-has : (n a w : ℕ) → HasRole (role_of a w) (R n) → role_of a w ≢ q → HasRole (role_of a w) (R' n)
    behind-has n a w has ne = by (same-or n b.running)
      where
        in-rest : HasRole (role_of a w) (Some q ∷ roles) → HasRole (role_of a w) roles
        in-rest (inl e) = absurd (ne (sym (some-same q (role_of a w) e)))
        in-rest (inr i) = i

        by : (n ≡ b.running) ⊎ (n ≢ b.running) → HasRole (role_of a w) (R' n)
        by (inl e) = subst (λ k. HasRole (role_of a w) (R' k)) (sym e) (subst (λ l. HasRole (role_of a w) l) (sym moves.here) (in-rest (subst (λ l. HasRole (role_of a w) l) is (subst (λ k. HasRole (role_of a w) (R k)) e has))))
        by (inr other) = subst (λ l. HasRole (role_of a w) l) (sym (moves.elsewhere n other)) has

    pub worker-held : Held Running after R'
    worker-held =
        record {
          ready = h.ready;
          runs = h.runs;
          rest = λ n x e ended. at-each (λ k l. (y : Seen) → slice_get b.strands k ≡ Some y → end_in y.status ≢ None → l ≡ []) moves
              (λ y at over. absurd (over (let s : Some y.status ≡ Some IsActive = sym (ap (λ o. option_map (λ z. z.status) o) at) ∙ h.runs in ap end_in (some-same y.status IsActive s))))
              (λ k ne y at over. h.rest k y at over) n x e ended;
          on = λ n. at-each (λ k l. AreOnIt after k l) moves
              (on-there b after b.running roles top-on.1 (λ r i runs o. moved-on b.running r (λ e. let lt = later-than q roles r top-rises.0 i in let same = ap (λ x. x.activation) e in omega (arith, lt, same)) runs o))
              (λ k ne. on-there b after k (R k) (h.on k) (λ r i runs o. moved-on k r (apart-from k r ne runs) runs o)) n;
          rise = λ n. at-each (λ k l. Rise l) moves top-rises.1 (λ k ne. h.rise k) n;
          named = λ n x r at e. at-each (λ k l. (y : Seen) → slice_get b.strands k ≡ Some y → y.role ≡ Some r → (k ≢ 0) × RunsAt after k r × ((l ≡ []) ⊎ LowestIs r l)) moves
              (λ y there role. let old = h.named b.running y r there role in (old.0, ap (λ l. slice_get l r.worker) (closed-strands r.activation) ∙ old.1, left r (subst (λ l. (l ≡ []) ⊎ LowestIs r l) is old.2)))
              (λ k ne y there role. let old = h.named k y r there role in (old.0, ap (λ l. slice_get l r.worker) (closed-strands r.activation) ∙ old.1, old.2)) n x at e;
          crews = λ a w n x on at o.
              behind-has n a w (h.crews a w n x (sym (ap (λ l. slice_get l w) (closed-strands a)) ∙ on) at (was-open (role_of a w) o)) (other-open (role_of a w) o);
          apart = λ a v w n x y. h.apart a v w n (sym (ap (λ l. slice_get l v) (closed-strands a)) ∙ x) (sym (ap (λ l. slice_get l w) (closed-strands a)) ∙ y);
          ends = λ a. closed-ends a ∙ (h.ends a ∙ sym (ap length (closed-strands a)));
        }
      where
        left : (r : Role) → ((Some q ∷ roles) ≡ []) ⊎ LowestIs r (Some q ∷ roles) → (roles ≡ []) ⊎ LowestIs r roles
        left r (inl e) = absurd (let no : ⊥ = cc in no)
        left r (inr low) = lowest-behind r (Some q) roles low
