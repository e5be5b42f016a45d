-- The pairs of sends, one send after another.
use Rattle.std.proofs.Common.{◌≡◌, ◌∙◌, ◌≤◌, ◌++◌, ℕ, List, [], ◌∷◌, Option, Some, None, Result, Ok, Err, map, drop, length, refl, sym, subst, ap}
use Rattle.std.specs.Prelude.{◌==◌, filter, if◌then◌else◌}
use Rattle.std.specs.List.{flat_map}
use Rattle.std.proofs.lemmas.List.{append-nil, drop_all}
use Rattle.typed_tree.specs.declared.event.Pair.{Pair}
use Rattle.worker_pairing.specs.Faults.{is_nth_receive, pair_with, pairs_of, pairs_on, place_on, route}
use Rattle.worker_pairing.specs.Marks.{Members, Numbered, in_text}
use Rattle.worker_members.specs.declared.held.HeldMember.{HeldMember}
use Rattle.worker_members.specs.declared.text.Standing.{Standing}
use Rattle.worker_members.specs.Held.{member_held, numbered_held}
use Rattle.worker_partners.specs.declared.partners.Found.{Found}
use Rattle.worker_partners.specs.declared.partners.Side.TheVariants.{ReceivedFrom}
use Rattle.worker_partners.specs.Partners.{IsNthFound, found_held, listed}
use Rattle.worker_partners.proofs.Texts.{receive-through}
use Rattle.worker_plans.specs.Sends.{as_send, pairs_at, sent_on}

-- the pair of what was found
pub on-found : (ms : Members) (e : Numbered) (v w : ℕ) (o : Option Found) → IsNthFound ms w (ReceivedFrom v) (place_on ms e (v, w)) o → pairs_on ms e (Some (v, w)) ≡ map (pair_with e) (listed w o)
on-found ms e v w o found = ap (map (pair_with e)) (receive-through ms v w (place_on ms e (v, w)) o found)

-- what a search over the workers found, by what they are
pub received-on : (list ws : List HeldMember) (v w n k : ℕ) (o : Option Found) → list ≡ ws → n ≡ k → IsNthFound (map member_held list) w (ReceivedFrom v) n o → IsNthFound (map member_held ws) w (ReceivedFrom v) k o
received-on list ws v w n k o is same found =
    subst (λ j. IsNthFound (map member_held ws) w (ReceivedFrom v) j o) same (subst (λ l. IsNthFound (map member_held l) w (ReceivedFrom v) n o) is found)

-- the pairs of all events are those of the definition
pub all-pairs : (ms : Members) → flat_map (pairs_at ms) (in_text ms) ≡ pairs_of ms
all-pairs ms = refl

-- those of all events that were looked at
pub pairs-end : (ms : Members) (text : List Standing) (items : List Pair) (i : ℕ) → length text ≤ i
    → items ++ flat_map (pairs_at ms) (map numbered_held (drop i text)) ≡ flat_map (pairs_at ms) (map numbered_held text) → map numbered_held text ≡ in_text ms → items ≡ pairs_of ms
pairs-end ms text items i le all same =
    sym (append-nil items) ∙ ap (λ l. items ++ flat_map (pairs_at ms) (map numbered_held l)) (sym (drop_all i text le)) ∙ all
    ∙ ap (flat_map (pairs_at ms)) same ∙ all-pairs ms
