-- One event, one early end and one return more.
use Rattle.std.proofs.Common.{◌≡◌, ◌∙◌, ◌++◌, ◌==◌, ℕ, List, [], ◌∷◌, map, length, sym, ap, arith, true, false}
use Rattle.std.specs.Prelude.{◌&&◌, ◌||◌, Option, if◌then◌else◌}
use Rattle.std.proofs.lemmas.Bool.{eqb-true}
use Rattle.std.proofs.lemmas.List.{length-map, map-append}
use Rattle.bal_base.specs.declared.place.Place.{Place}
use Rattle.type_model.specs.declared.basic.SemType.{SemType}
use Rattle.operations.specs.Talk.{workers_in}
use Rattle.typed_tree.specs.declared.event.EventKind.TheVariants.{Wait}
use Rattle.typed_tree.specs.Listed.{one}
use Rattle.worker_pairing.specs.Events.{is_message}
use Rattle.worker_pairing.specs.Marks.{Early, Returning, Returns, Saying, Says, alternate_marks, nil_type}
use Rattle.worker_members.specs.declared.hearing.Heard.{Heard}
use Rattle.worker_members.specs.declared.hearing.Spot.{Spot}
use Rattle.worker_members.specs.declared.held.Returned.{Returned}
use Rattle.worker_members.specs.declared.held.Said.{Said}
use Rattle.worker_members.specs.Held.{kind_of, returning_held, saying_held, sem_said}
use Rattle.worker_members.specs.inner.Hearing.{Grows, set_aside}
use Rattle.worker_members.proofs.Growing.{grows-apart}

pub said-more : (spot : Spot) (old new : Heard) (said : Said) → (new.full ≡ false → (old.full ≡ false) × (new.sayings.items ≡ old.sayings.items ++ said ∷ []))
    → new.returns ≡ old.returns → new.early ≡ old.early → said.initial ≡ spot.initial → said.early ≡ old.early
    → said.inner ≡ (spot.aside || ((spot.trapped && is_message (kind_of said.kind)) || false))
    → Grows spot (one (Says (kind_of said.kind) said.at false (sem_said said.ty))) old new
unfolding Grows
said-more spot old new said put returns early initial before inner e =
    let h = put e in
    let sayings : map saying_held new.sayings.items ≡ map saying_held old.sayings.items ++ the_saying ∷ [] =
    ap (map saying_held) h.1 ∙ map-append saying_held old.sayings.items (said ∷ []) ∙ ap (λ s. map saying_held old.sayings.items ++ s ∷ []) same in
    (h.0, λ i. record { sayings = sayings i; returns = map returning_held (returns i).items; early = early i })
  where
    the_saying : Saying
    the_saying =
        record {
          kind = kind_of said.kind;
          at = said.at;
          initial = spot.initial;
          inner = spot.aside || ((spot.trapped && is_message (kind_of said.kind)) || false);
          early = old.early;
          type = sem_said said.ty;
        }

    same : saying_held said ≡ the_saying
    same = λ i. record { kind = kind_of said.kind; at = said.at; initial = initial i; inner = inner i; early = before i; type = sem_said said.ty }

pub early-initially : (spot : Spot) (s : Heard) → spot.initial ≡ true → Grows spot (one Early) s s
unfolding Grows
early-initially spot s is e =
    let early : s.early ≡ (if spot.initial then s.early else true) = sym (ap (λ b. if b then s.early else true) is) in
    (e, λ i. record { sayings = map saying_held s.sayings.items; returns = map returning_held s.returns.items; early = early i })

pub early-behind : (spot : Spot) (old new : Heard) → spot.initial ≡ false → new.full ≡ old.full → new.sayings ≡ old.sayings → new.returns ≡ old.returns → new.early ≡ true
    → Grows spot (one Early) old new
unfolding Grows
early-behind spot old new is full sayings returns early e =
    let ends : new.early ≡ (if spot.initial then old.early else true) = early ∙ sym (ap (λ b. if b then old.early else true) is) in
    (sym full ∙ e, λ i. record { sayings = map saying_held (sayings i).items; returns = map returning_held (returns i).items; early = ends i })

pub returned-initially : (spot : Spot) (s : Heard) (type : SemType) (at : Place) → spot.initial ≡ true → Grows spot (one (Returns type at)) s s
unfolding Grows
returned-initially spot s type at is e =
    let kept : map returning_held s.returns.items ≡ (if spot.initial then map returning_held s.returns.items else more) =
    sym (ap (λ b. if b then map returning_held s.returns.items else more) is) in
    (e, λ i. record { sayings = map saying_held s.sayings.items; returns = kept i; early = s.early })
  where
    more : List Returning
    more = map returning_held s.returns.items ++ record { before = length (map saying_held s.sayings.items); type = type; at = at } ∷ []

pub returned-behind : (spot : Spot) (old new : Heard) (returned : Returned) → (new.full ≡ false → (old.full ≡ false) × (new.returns.items ≡ old.returns.items ++ returned ∷ []))
    → new.sayings ≡ old.sayings → new.early ≡ old.early → spot.initial ≡ false → returned.before ≡ length old.sayings.items
    → Grows spot (one (Returns (sem_said returned.ty) returned.at)) old new
unfolding Grows
returned-behind spot old new returned put sayings early is before e =
    let h = put e in
    let returns : map returning_held new.returns.items ≡ (if spot.initial then map returning_held old.returns.items else more) =
    ap (map returning_held) h.1 ∙ map-append returning_held old.returns.items (returned ∷ []) ∙ ap (λ r. map returning_held old.returns.items ++ r ∷ []) same
    ∙ sym (ap (λ b. if b then map returning_held old.returns.items else more) is) in
    (h.0, λ i. record { sayings = map saying_held (sayings i).items; returns = returns i; early = early i })
  where
    the_return : Returning
    the_return = record { before = length (map saying_held old.sayings.items); type = sem_said returned.ty; at = returned.at }

    more : List Returning
    more = map returning_held old.returns.items ++ the_return ∷ []

    same : returning_held returned ≡ the_return
    same = λ i. record { before = (before ∙ sym (length-map old.sayings.items saying_held)) i; type = sem_said returned.ty; at = returned.at }

-- an alternate wait for nothing
pub alternate-none : (spot inside : Spot) (names : List (Option ℕ)) (at : Place) (old new : Heard) → (length names == 0) ≡ true → inside ≡ set_aside spot
    → Grows inside (one (Says (Wait (workers_in names)) at false nil_type)) old new → Grows spot (alternate_marks names at) old new
alternate-none spot inside [] at old new none is h = grows-apart spot inside (one (Says (Wait []) at false nil_type)) old new is h
alternate-none spot inside (name ∷ names) at old new none is h = let long = eqb-true (length (name ∷ names)) 0 none in absurd (omega (arith, long))
