-- Lines of the tables as parts that come one behind another, and one that is made of them.
use Rattle.std.proofs.Common.{◌≡◌, ◌≤◌, ◌∙◌, ◌++◌, ℕ, Bool, List, [], ◌∷◌, length, map, All, append-nil, arith, length-append, refl, sym, subst, ap}
use Rattle.std.proofs.lemmas.List.{length-map}
use Rattle.std.proofs.lemmas.List.Elements.{All-head, All-tail}
use Rattle.checks.specs.Checks.{Gives, ◌▷◌, gives_some}
use Rattle.descriptors.specs.declared.names.Names.{Names}
use Rattle.needs.specs.Needs.{in_turn, in_turn_from}
use Rattle.operations.specs.Rows.{Surroundings}
use Rattle.type_model.specs.declared.answers.TypeLimit.{TypeLimit}
use Rattle.type_model.specs.declared.atoms.AtomDef.{AtomDef}
use Rattle.type_model.specs.Calls.{Asked}
use Rattle.typed_tree.specs.declared.expr.TypedExpr.{TypedExpr}
use Rattle.typed_tree.specs.Listed.{Listed, nothing, one, ◌&◌}
use Rattle.typed_tree.specs.SharedTypes.{sem_of}
use Rattle.expr_needs.specs.declared.expected.Expected.{Expected}
use Rattle.expr_needs.specs.declared.expected.Expected.TheVariants as expected
use Rattle.expr_needs.specs.ExprTable.{Reading}
use Rattle.expr_needs.specs.Needs.{Need}
use Rattle.check_words.specs.Meets.{meets}
use Rattle.check_words.specs.State.{IsLast, State, UnitAtWork}
use Rattle.check_laws.specs.Laws.{IsReady, IsWantedBy}
use Rattle.tree_promises.specs.Flows.{Around}
use Rattle.tree_promises.specs.Laws.{MadeExprsKeepFlows}
use Rattle.typed_needs.specs.Between.{IsSoFar, IsStanding}
use Rattle.typed_needs.proofs.Going.{each-itself}
use Rattle.typed_needs.proofs.Placed.{last-same}
use Rattle.calm_needs.specs.Calm.{IsCalm, IsCalmNeed, NeedsAreCalm}
use Rattle.typed_exprs.specs.Lines.{Leaves, Path, Run}
use Rattle.typed_exprs.proofs.Steps.{Step, calm-path, parted, path-on, so-far}
use Rattle.flow_needs.specs.Quiet.{KnowsOn}
use Rattle.flow_needs.specs.Runs.{ComesToFlow, FlowClaim, KnowsFlow}
use Rattle.flow_needs.specs.Slots.{HasOwnSlots, HaveSlots}
use Rattle.flow_needs.proofs.Growing.{GrowsBy, Weaving, comes-strict, grows-part, grows-quiet, grows-then}
use Rattle.flow_needs.proofs.Narrowing.{all-ways-are-narrower}
use Rattle.flow_needs.proofs.Quieting.{Quiet, knows-at-hand, quiet-itself}
use Rattle.flow_needs.proofs.Reading.{within-more}

-- ---- places

-- the slots of the unit at hand are the first ones of the place
pub slots-within : (place : Surroundings) (around : Around) (live : Bool) (env : List AtomDef) (s : State) (u : UnitAtWork) → around.slots ≡ place.slots → IsLast s.units u → IsSoFar env place s
    → length u.slots ≤ length around.slots
slots-within place around live env s u slots last far =
    let placed = far.placed in
    let one : placed.unit ≡ u = last-same s.units placed.unit u placed.at_hand last in
    let all : around.slots ≡ map sem_of u.slots ++ placed.later =
    slots ∙ placed.slots ∙ ap (λ (x : UnitAtWork). map sem_of x.slots ++ placed.later) one in
    let a = ap length all in let b = length-append (map sem_of u.slots) placed.later in let c = length-map u.slots sem_of in omega (arith, a, b, c)

-- ---- states at hand

-- variables keep their slots
pub own-slots : (old new : State) → KnowsOn old new → HasOwnSlots old → HasOwnSlots new
own-slots old new on h =
    let (v, hand, same) = knows-at-hand old.units new.units h.unit on.units h.at_hand in
    let all = all-ways-are-narrower [] [] in
    let slots : HaveSlots (length h.unit.slots) v.flow.variables = all.slots (length h.unit.slots) h.unit.flow v.flow (all.handles h.unit.flow v.flow same.flow).0 h.slots in
    record {
      unit = v;
      at_hand = hand;
      slots = record { apart = slots.apart; within = within-more (length h.unit.slots) (length v.slots) v.flow.variables same.slots slots.within };
    }

pub record AtHand (s : State) : Type 0 where
  pub unit : 1 ≤ length s.units
  pub standing : IsStanding s
  pub slots : HasOwnSlots s

module _ (passes : List AtomDef → Asked → TypeLimit → Type 0) (names : Names) (env : List AtomDef) where
  pub nothing-run : (old new : State) → Run passes names env nothing old new → new ≡ old
  unfolding gives_some
  nothing-run old new (is, same) = same

  -- ---- what stands behind

  pub run-stands : (needs : Listed Need) (old new : State) → IsStanding old → Run passes names env needs old new → IsStanding new
  unfolding ◌▷◌
  run-stands nothing old new h run = subst (λ (s : State). IsStanding s) (sym (nothing-run old new run)) h
  run-stands (one need) old new h run = run.1
  run-stands (p & q) old new h (u, mid, a, b) = run-stands q mid new (run-stands p old mid h a) b

  module _ (calm : NeedsAreCalm passes names) (flows : MadeExprsKeepFlows) (place : Surroundings) (around : Around) (live : Bool) (slots : around.slots ≡ place.slots) where
    pub at-hand : (needs : Listed Need) (old new : State) → AtHand old → Run passes names env needs old new → Path old new → KnowsOn old new → AtHand new
    at-hand needs old new h run path on =
        record {
          unit = (let u = h.unit in let q = path.many in omega (arith, u, q));
          standing = run-stands needs old new h.standing run;
          slots = own-slots old new on h.slots;
        }

    -- needs by which parts come that keep the flow
    pub record Growing (needs : Listed Need) : Type 0 where
      pub path : (old new : State) → 1 ≤ length old.units → Run passes names env needs old new → Path old new
      pub grows : (old new : State) → AtHand old → Run passes names env needs old new → IsSoFar env place new → GrowsBy env around live old new

    -- needs whose last one finds such parts
    pub record LeadsTo (need : Need) (needs : Listed Need) : Type 0 where
      pub path : (old new : State) → 1 ≤ length old.units → Run passes names env needs old new → Path old new
      pub leads : (old new : State) → AtHand old → Run passes names env needs old new → IsSoFar env place new
          → (mid : State) × GrowsBy env around live old mid × AtHand mid × Step passes names env need mid new

    pub many-units : (s t : State) → Path s t → 1 ≤ length s.units → 1 ≤ length t.units
    many-units s t path unit = let q = path.many in omega (arith, unit, q)

    path-itself : (s : State) → Path s s
    path-itself s = calm-path s s (record { more = []; atoms = sym (append-nil s.atoms); each = each-itself s.units }) refl

    path-through : (p q : Listed Need) → ((old new : State) → 1 ≤ length old.units → Run passes names env p old new → Path old new)
        → ((old new : State) → 1 ≤ length old.units → Run passes names env q old new → Path old new)
        → (old new : State) → 1 ≤ length old.units → Run passes names env (p & q) old new → Path old new
    path-through p q f g old new unit run =
        let (mid, a, b) = parted passes names env p q old new run in
        let first = f old mid unit a in path-on old mid new first (g mid new (many-units old mid first unit) b)

    pub step-path : (need : Need) → IsCalmNeed need → (old new : State) → Step passes names env need old new → Path old new
    step-path need is old new s = let c : IsCalm old new = calm.calm need is old new s.0 in calm-path old new c.on c.units

    -- ---- what grows

    pub grow-nothing : Growing nothing
    grow-nothing =
        record {
          path = λ old new unit run. subst (λ (s : State). Path old s) (sym (nothing-run old new run)) (path-itself old);
          grows = λ old new h run far.
              subst (λ (s : State). GrowsBy env around live old s) (sym (nothing-run old new run)) (grows-quiet env around live old old (quiet-itself old));
        }

    pub grow-quiet : (need : Need) → IsCalmNeed need → Quiet (meets passes names need) → Growing (one need)
    grow-quiet need is quiet =
        record {
          path = λ old new unit run. step-path need is old new run;
          grows = λ old new h run far. grows-quiet env around live old new (quiet old new tt run.0);
        }

    pub grow-then : (p q : Listed Need) → Growing p → Growing q → Growing (p & q)
    grow-then p q f g =
        record {
          path = path-through p q f.path g.path;
          grows = λ old new h run far.
              let (mid, a, b) = parted passes names env p q old new run in
              let first = f.path old mid h.unit a in
              let far-mid = so-far env place mid new (g.path mid new (many-units old mid first h.unit) b) far in
              let x = f.grows old mid h a far-mid in
              grows-then env around live old mid new x (g.grows mid new (at-hand p old mid h a first x.on) b far);
        }

    abbrev Always : Expected → Type 0
    Always e = (many : ℕ) → IsWantedBy e many

    -- an operand, of which nothing is expected that isn't there
    pub grow-operand : (a : Reading) → KnowsFlow passes names env a → (e : Expected) → Always e → Growing (a.needs e)
    grow-operand a k e always =
        record {
          path = λ old new unit run. (k.leaves e old new (record { unit = unit; wants = always (length old.wants) }) run).path;
          grows = λ old new h run far.
              grows-part env around live old new (k.claim e place around live old new slots (record { unit = h.unit; wants = always (length old.wants) }) run h.standing h.slots far);
        }

    -- what is wanted of an operand is said before it
    pub grow-wanted : (need : Need) → IsCalmNeed need → Quiet (meets passes names need) → ((old new : State) → meets passes names need old (Gives tt) new → 1 ≤ length new.wants)
        → (a : Reading) → KnowsFlow passes names env a → (rest : Listed Need) → Growing rest → Growing (one need & a.needs expected.Wanted & rest)
    grow-wanted need is quiet wants a k rest g =
        record {
          path = λ old new unit run.
              let (mid, s, more) = parted passes names env (one need) (a.needs expected.Wanted & rest) old new run in
              let (end, ra, rr) = parted passes names env (a.needs expected.Wanted) rest mid new more in
              let first = step-path need is old mid s in
              let unit-mid = many-units old mid first unit in
              let second = (k.leaves expected.Wanted mid end (record { unit = unit-mid; wants = wants old mid s.0 }) ra).path in
              path-on old mid new first (path-on mid end new second (g.path end new (many-units mid end second unit-mid) rr));
          grows = λ old new h run far.
              let (mid, s, more) = parted passes names env (one need) (a.needs expected.Wanted & rest) old new run in
              let (end, ra, rr) = parted passes names env (a.needs expected.Wanted) rest mid new more in
              let first = step-path need is old mid s in
              let unit-mid = many-units old mid first h.unit in
              let ready : IsReady expected.Wanted mid = record { unit = unit-mid; wants = wants old mid s.0 } in
              let second = (k.leaves expected.Wanted mid end ready ra).path in
              let unit-end = many-units mid end second unit-mid in
              let far-end = so-far env place end new (g.path end new unit-end rr) far in
              let x = grows-quiet env around live old mid (quiet old mid tt s.0) in
              let at-mid = at-hand (one need) old mid h s first x.on in
              let y = grows-part env around live mid end (k.claim expected.Wanted place around live mid end slots ready ra at-mid.standing at-mid.slots far-end) in
              let at-end = at-hand (a.needs expected.Wanted) mid end at-mid ra second y.on in
              grows-then env around live old mid new x (grows-then env around live mid end new y (g.grows end new at-end rr far));
        }

    -- in turn
    grow-from : {X : Type 0} (f : X → Listed Need) (xs : List X) (start : Listed Need) → Growing start → All (λ x. Growing (f x)) xs → Growing (in_turn_from start f xs)
    grow-from f [] start g all = g
    grow-from f (x ∷ xs) start g all =
        grow-from f xs (start & f x) (grow-then start (f x) g (All-head (λ y. Growing (f y)) x xs all)) (All-tail (λ y. Growing (f y)) x xs all)

    pub grow-turn : {X : Type 0} (f : X → Listed Need) (xs : List X) → All (λ x. Growing (f x)) xs → Growing (in_turn f xs)
    grow-turn f xs all = grow-from f xs nothing grow-nothing all

    -- ---- what leads to a need

    pub lead-one : (need : Need) → ((old new : State) → Step passes names env need old new → Path old new) → LeadsTo need (one need)
    lead-one need path =
        record {
          path = λ old new unit run. path old new run;
          leads = λ old new h run far. (old, grows-quiet env around live old old (quiet-itself old), h, run);
        }

    pub lead-then : (need : Need) (p q : Listed Need) → Growing p → LeadsTo need q → LeadsTo need (p & q)
    lead-then need p q f g =
        record {
          path = path-through p q f.path g.path;
          leads = λ old new h run far.
              let (mid, a, b) = parted passes names env p q old new run in
              let first = f.path old mid h.unit a in
              let far-mid = so-far env place mid new (g.path mid new (many-units old mid first h.unit) b) far in
              let x = f.grows old mid h a far-mid in
              let (end, y, at-end, s) = g.leads mid new (at-hand p old mid h a first x.on) b far in
              (end, grows-then env around live old mid end x y, at-end, s);
        }

    -- a calm need that makes one part of all
    pub lead-calm : (need : Need) → IsCalmNeed need → LeadsTo need (one need)
    lead-calm need is = lead-one need (λ old new s. step-path need is old new s)

    -- with one part more it is a claim
    pub strict-of : (need : Need) (needs : Listed Need) → Weaving (meets passes names need) → LeadsTo need needs → (old new : State) → AtHand old
        → Run passes names env needs old new → IsSoFar env place new → (x : TypedExpr) → new.found ≡ old.found ++ x ∷ [] → ComesToFlow env around live old new
    strict-of need needs weaves g old new h run far x more =
        let (mid, y, at-mid, s) = g.leads old new h run far in
        comes-strict env around live flows old mid new x h.slots.unit h.slots.at_hand y (weaves mid new tt s.0) more

  -- what a line says where what it leaves is known
  abbrev pub FlowLine : (Expected → Listed Need) → Type 0
  FlowLine needs = Leaves passes names env needs → FlowClaim passes names env needs

  module _ (calm : NeedsAreCalm passes names) (flows : MadeExprsKeepFlows) where
    pub strict-line : (need : Expected → Need) (needs : Expected → Listed Need) → ((e : Expected) → Weaving (meets passes names (need e)))
        → ((place : Surroundings) (around : Around) (live : Bool) (slots : around.slots ≡ place.slots) (e : Expected) → LeadsTo calm flows place around live slots (need e) (needs e)) → FlowLine needs
    strict-line need needs weaves leads leaves e place around live old new slots ready run standing own far =
        let left = leaves e old new ready run in
        strict-of calm flows place around live slots (need e) (needs e) (weaves e) (leads place around live slots e) old new
        (record { unit = ready.unit; standing = standing; slots = own }) run far left.more.part left.more.found
