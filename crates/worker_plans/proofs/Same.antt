-- Pairs that are the same, and what a plan has.
use Rattle.std.proofs.Common.{◌≡◌, ◌∙◌, ◌<◌, ◌≤◌, ◌⊎◌, ◌+◌, ◌==◌, ◌↔◌, ℕ, Bool, true, false, List, [], ◌∷◌, Result, Ok, Err, map, get_or, length, refl, sym, subst, ap, inl, inr, arith}
use Rattle.std.specs.Prelude.{◌&&◌, IfOk}
use Rattle.std.proofs.lemmas.Bool.{and_from, and_parts, cases_lt, eq-eqb, eqb-true, false≢true}
use Rattle.std.proofs.lemmas.List.{ext_get_or}
use Rattle.bal_base.specs.declared.fault.Event.{Event}
use Rattle.typed_tree.specs.declared.event.Pair.{Pair}
use Rattle.typed_tree.specs.declared.event.Plan.{Plan}
use Rattle.worker_pairing.specs.Events.{IsNumbering}
use Rattle.worker_pairing.specs.Faults.{IsPlan, crew_of, pairs_of, rank_in}
use Rattle.worker_pairing.specs.Marks.{Members, in_text}
use Rattle.worker_members.specs.declared.held.HeldMember.{HeldMember}
use Rattle.worker_members.specs.Held.{member_held}
use Rattle.worker_plans.specs.Sends.{IsNumbered, same_event, same_pair}

event-same : (a b : Event) → same_event a b ≡ true → a ≡ b
event-same a b is =
    let one = and_parts _ _ is in
    let two = and_parts _ _ one.1 in
    let three = and_parts _ _ two.1 in
    let worker : a.worker ≡ b.worker = eqb-true _ _ one.0 in
    let number : a.number ≡ b.number = eqb-true _ _ two.0 in
    let file : a.at.file ≡ b.at.file = eqb-true _ _ three.0 in
    let at : a.at.at ≡ b.at.at = eqb-true _ _ three.1 in
    (λ i. record { worker = worker i; number = number i; at = record { file = file i; at = at i } })

event-itself : (a : Event) → same_event a a ≡ true
event-itself a = and_from _ _ (eq-eqb a.worker a.worker refl) (and_from _ _ (eq-eqb a.number a.number refl) (and_from _ _ (eq-eqb a.at.file a.at.file refl) (eq-eqb a.at.at a.at.at refl)))

pub pair-same : (a b : Pair) → same_pair a b ≡ true → a ≡ b
pair-same a b is =
    let parts = and_parts _ _ is in
    (λ i. record { send = event-same a.send b.send parts.0 i; receive = event-same a.receive b.receive parts.1 i })

pair-itself : (a b : Pair) → a ≡ b → same_pair a b ≡ true
pair-itself a b e = subst (λ x. same_pair a x ≡ true) e (and_from _ _ (event-itself a.send) (event-itself a.receive))

-- ---- lists of pairs

module _ (xs ys : List Pair) where
  -- the first so many are the same
  abbrev pub SameFirst : ℕ → Type 0
  SameFirst i = (j : ℕ) (d : Pair) → j < i → j < length xs → get_or xs j d ≡ get_or ys j d

  pub same-next : (i : ℕ) → ((d : Pair) → same_pair (get_or xs i d) (get_or ys i d) ≡ true) → SameFirst i → SameFirst (i + 1)
  same-next i is before j d lt there = by (cases_lt j i)
    where
      by : (j < i) ⊎ (i ≤ j) → get_or xs j d ≡ get_or ys j d
      by (inl less) = before j d less there
      by (inr more) =
          let e : i ≡ j = omega (arith, lt, more) in
          subst (λ k. get_or xs k d ≡ get_or ys k d) e (pair-same (get_or xs i d) (get_or ys i d) (is d))

  abbrev first_event : Event
  first_event = record { worker = 0; number = 0; at = record { file = 0; at = 0 } }

  abbrev some_pair : Pair
  some_pair = record { send = first_event; receive = first_event }

  pub apart : (i : ℕ) → ((d : Pair) → same_pair (get_or xs i d) (get_or ys i d) ≡ false) → false ≡ true ↔ xs ≡ ys
  apart i off = (
    λ e. absurd (false≢true e),
    λ e. absurd (false≢true (sym (off some_pair) ∙ pair-itself (get_or xs i some_pair) (get_or ys i some_pair) (ap (λ l. get_or l i some_pair) e))),
  )

  pub unlike : (length xs ≡ length ys → ⊥) → false ≡ true ↔ xs ≡ ys
  unlike long = (λ e. absurd (false≢true e), λ e. absurd (long (ap length e)))

  pub same-all : (i : ℕ) → length xs ≡ length ys → length xs ≤ i → SameFirst i → true ≡ true ↔ xs ≡ ys
  same-all i long le so = (λ e. whole xs ys i long le so, λ e. refl)
    where
      whole : (xs ys : List Pair) (i : ℕ) → length xs ≡ length ys → length xs ≤ i → ((j : ℕ) (d : Pair) → j < i → j < length xs → get_or xs j d ≡ get_or ys j d) → xs ≡ ys
      whole [] [] i long le so = refl
      whole [] (y ∷ ys) i long le so = absurd (omega (arith, long))
      whole (x ∷ xs) ys i long le so = ext_get_or x (x ∷ xs) ys long (λ j lt. so j x (omega (arith, lt, le)) lt)

-- ---- plans

pub pairs-ok : (given due : List Pair) (list : List Pair) (ms : Members) (b : Bool) → list ≡ due → due ≡ pairs_of ms → b ≡ true ↔ given ≡ list → b ≡ true ↔ given ≡ pairs_of ms
pairs-ok given due list ms b is same both = subst (λ l. b ≡ true ↔ given ≡ l) (is ∙ same) both

pub not-long : (ms : Members) (ranks : List ℕ) → (length ranks ≡ length (in_text ms) → ⊥) → false ≡ true ↔ IsNumbered ms ranks
not-long ms ranks apart = (λ e. absurd (false≢true e), λ is. absurd (apart is.0))

pub long-ok : {Y : Type 0} (list ws : List HeldMember) (ranks : List ℕ) (r : Result Bool Y) → list ≡ ws → length ranks ≡ length (in_text (map member_held ws))
    → IfOk r (λ b. b ≡ true ↔ IsNumbering (crew_of (map member_held list)) (rank_in (map member_held list) ranks)) → IfOk r (λ b. b ≡ true ↔ IsNumbered (map member_held ws) ranks)
long-ok list ws ranks (Ok b) is long both =
    let here : b ≡ true ↔ IsNumbering (crew_of (map member_held ws)) (rank_in (map member_held ws) ranks) =
    subst (λ l. b ≡ true ↔ IsNumbering (crew_of (map member_held l)) (rank_in (map member_held l) ranks)) is both in
    (λ e. (long, here.0 e), λ n. here.1 n.1)
long-ok list ws ranks (Err e) is long both = tt

pub plan-ok : (ms : Members) (p : Plan) (pairs : List Pair) (ranks : List ℕ) (a b : Bool) → pairs ≡ p.pairs → ranks ≡ p.ranks → (a ≡ true ↔ pairs ≡ pairs_of ms) → (b ≡ true ↔ IsNumbered ms ranks)
    → (a && b) ≡ true ↔ IsPlan ms p
plan-ok ms p pairs ranks a b these those first second = (
  λ e. let parts = and_parts a b e in
      record {
        pairs = sym these ∙ first.0 parts.0;
        long = subst (λ rs. length rs ≡ length (in_text ms)) those (second.0 parts.1).0;
        numbering = subst (λ rs. IsNumbering (crew_of ms) (rank_in ms rs)) those (second.0 parts.1).1;
      },
  λ is. and_from a b (first.1 (these ∙ is.pairs)) (second.1 (subst (IsNumbered ms) (sym those) (is.long, is.numbering))),
)
