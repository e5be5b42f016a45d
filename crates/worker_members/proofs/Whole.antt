-- What was heard of a worker is what is made of its marks.
use Rattle.std.proofs.Common.{◌≡◌, ◌∙◌, ◌<◌, ◌+◌, ◌++◌, ℕ, List, [], ◌∷◌, map, take, get_or, length, refl, sym, ap, append_assoc, true, false}
use Rattle.std.specs.Prelude.{Bool, IfOk, Result, Ok, Err}
use Rattle.std.proofs.lemmas.List.{map-append, map_more}
use Rattle.bal_base.specs.declared.place.Place.{Place}
use Rattle.bal_base.specs.declared.stop.Memory.{Memory}
use Rattle.typed_tree.specs.declared.event.EventKind.TheVariants.{End}
use Rattle.typed_tree.specs.Listed.{Listed, nothing, one, ◌&◌, run}
use Rattle.typed_tree.specs.declared.unit.TypedWorker.{TypedWorker}
use Rattle.typed_tree.specs.SharedTypes.{Shared, sem_of}
use Rattle.worker_pairing.specs.Marks.{Mark, Says, Early, Member, Returns, SoFar, member_of, named_member, nil_type, nothing_yet, with_mark}
use Rattle.worker_members.specs.declared.hearing.Heard.{Heard}
use Rattle.worker_members.specs.declared.hearing.Spot.{Spot}
use Rattle.worker_members.specs.declared.held.HeldMember.{HeldMember}
use Rattle.worker_members.specs.Held.{member_held, returning_held, saying_held}
use Rattle.worker_members.specs.inner.Hearing.{Ended, Grows, hear, so_far, with_end}
use Rattle.worker_members.proofs.Growing.{grows-nothing}

abbrev plain : Bool → Spot
plain initial = record { initial = initial; aside = false; trapped = false }

run-plain : (initial : Bool) (l : Listed Mark) (s : SoFar) → run (hear (plain initial)) l s ≡ run (with_mark initial) l s
run-plain initial nothing s = refl
run-plain initial (one (Says kind at inner type)) s = refl
run-plain initial (one Early) s = refl
run-plain initial (one (Returns type at)) s = refl
run-plain initial (p & q) s = run-plain initial q (run (hear (plain initial)) p s) ∙ ap (run (with_mark initial) q) (run-plain initial p s)

heard-all : (initial rest : Listed Mark) (old mid heard : Heard) → so_far old ≡ nothing_yet → Grows (plain true) initial old mid → Grows (plain false) rest mid heard → heard.full ≡ false
    → so_far heard ≡ run (with_mark false) rest (run (with_mark true) initial nothing_yet)
unfolding Grows
heard-all initial rest old mid heard none first then room =
    let k = then room in
    let h = first k.0 in
    k.1 ∙ run-plain false rest (so_far mid) ∙ ap (run (with_mark false) rest) (h.1 ∙ run-plain true initial (so_far old) ∙ ap (run (with_mark true) initial) none)

pub member-of : (initial rest : Listed Mark) (old mid heard : Heard) (gives : Shared) (end : Place) (r : Result HeldMember Memory) → so_far old ≡ nothing_yet
    → Grows (plain true) initial old mid → Grows (plain false) rest mid heard → IfOk r (λ m. Ended heard gives end m)
    → IfOk r (λ m. member_held m ≡ member_of (sem_of gives) initial rest end)
member-of initial rest old mid heard gives end (Err e) none first then h = tt
member-of initial rest old mid heard gives end (Ok m) none first then h =
    let all = heard-all initial rest old mid heard none first then h.room in
    let sayings = h.sayings ∙ ap (λ s. (with_end end s).sayings) all in
    let returns = h.returns ∙ ap (λ s. (with_end end s).returns) all in
    (λ i. record { sayings = sayings i; returns = returns i; result = h.result i })

pub value-of : (value : Listed Mark) (old heard : Heard) (gives : Shared) (end : Place) (r : Result HeldMember Memory) → so_far old ≡ nothing_yet
    → Grows (plain false) value old heard → IfOk r (λ m. Ended heard gives end m) → IfOk r (λ m. member_held m ≡ member_of (sem_of gives) nothing value end)
value-of value old heard gives end r none then h = member-of nothing value old old heard gives end r none (grows-nothing (plain true) old) then h

-- a worker with its end
pub ended-all : (old new : Heard) (gives : Shared) (end : Place) (m : HeldMember) → Grows (plain false) (one (Says End end false nil_type)) old new → new.full ≡ false
    → m.sayings ≡ new.sayings → m.returns ≡ new.returns → m.result.now ≡ gives → Ended old gives end m
unfolding Grows
ended-all old new gives end m g room sayings returns result =
    let h = g room in
    record {
      room = h.0;
      sayings = ap (λ v. map saying_held v.items) sayings ∙ ap (λ s. s.sayings) h.1;
      returns = ap (λ v. map returning_held v.items) returns ∙ ap (λ s. s.returns) h.1;
      result = ap sem_of result;
    }

-- one named worker more
pub members-next : (olds news : List HeldMember) (start : List Member) (ws : List TypedWorker) (i : ℕ) (w : TypedWorker) (m : HeldMember) → i < length ws → w ≡ get_or ws i w
    → member_held m ≡ named_member w → news ≡ olds ++ m ∷ [] → map member_held olds ≡ start ++ map named_member (take i ws)
    → map member_held news ≡ start ++ map named_member (take (i + 1) ws)
members-next olds news start ws i w m lt at same pushed before =
    ap (map member_held) pushed ∙ map-append member_held olds (m ∷ []) ∙ ap (λ l. l ++ member_held m ∷ []) before
    ∙ append_assoc start (map named_member (take i ws)) (member_held m ∷ [])
    ∙ ap (λ x. start ++ (map named_member (take i ws) ++ x ∷ [])) same
    ∙ ap (λ l. start ++ l) (sym (map_more named_member ws i w lt ∙ ap (λ y. map named_member (take i ws) ++ named_member y ∷ []) (sym at)))
