-- Checks one behind another, and a plan or a ring at their end.
use Rattle.std.proofs.Common.{◌≡◌, ◌∙◌, ℕ, List, [], ◌∷◌, Option, Result, Ok, Err, Vec, map, length, refl, sym, subst, ap, inl, inr, arith}
use Rattle.std.specs.Global.{Global}
use Rattle.std.specs.Prelude.{IfNone, IfSome}
use Rattle.std.proofs.lemmas.List.{length-map}
use Rattle.bal_base.specs.declared.fault.Fault.{Fault}
use Rattle.bal_base.specs.declared.place.Place.{Place}
use Rattle.bal_base.specs.declared.stop.Stop.{Stop}
use Rattle.bal_base.specs.declared.stop.Stop.TheVariants.{Memory, Fault as OwnFault}
use Rattle.typed_tree.specs.declared.event.Plan.{Plan}
use Rattle.checks.specs.Checks.{Check, Comes, ◌▷◌}
use Rattle.worker_pairing.specs.Events.{IsNumbering, IsOrderable}
use Rattle.worker_pairing.specs.Faults.{Atoms, IsRingFault, crew_of, most_events, most_workers, named_count, ordered, pairs_of, rank_in, within_limit}
use Rattle.worker_pairing.specs.Marks.{Members, in_text}
use Rattle.worker_members.specs.declared.held.HeldMember.{HeldMember}
use Rattle.worker_members.specs.declared.text.Standing.{Standing}
use Rattle.worker_members.specs.Held.{member_held, numbered_held}

module _ {S A B C : Type 0} where
  -- the first two put together first
  pub regroup : (m : Check S A) (f : A → Check S B) (g : B → Check S C) (old new : S) (r : Result C (Stop Fault)) → Comes ((m ▷ f) ▷ g) old r new → Comes (m ▷ λ a. f a ▷ g) old r new
  unfolding ◌▷◌ Comes
  regroup m f g old new (Ok c) (b, mid, (a, first, ha, hb), hc) = (a, first, ha, (b, mid, hb, hc))
  regroup m f g old new (Err Memory) h = tt
  regroup m f g old new (Err (OwnFault e)) (inl (inl h)) = inl h
  regroup m f g old new (Err (OwnFault e)) (inl (inr (a, mid, ha, h))) = inr (a, mid, ha, inl h)
  regroup m f g old new (Err (OwnFault e)) (inr (b, mid, (a, first, ha, hb), h)) = inr (a, first, ha, inr (b, mid, hb, h))

-- three put together first
pub regroup-three : {S A : Type 0} (m n o : Check S (Unit {0})) (rest : Check S A) (old new : S) (r : Result A (Stop Fault))
    → Comes ((m ▷ λ _. n ▷ λ _. o) ▷ λ _. rest) old r new → Comes (m ▷ λ _. n ▷ λ _. o ▷ λ _. rest) old r new
unfolding ◌▷◌ Comes
regroup-three m n o rest old new (Ok c) (b, mid, (a, first, ha, (a', second, hn, ho)), hc) = (a, first, ha, (a', second, hn, (b, mid, ho, hc)))
regroup-three m n o rest old new (Err Memory) h = tt
regroup-three m n o rest old new (Err (OwnFault e)) (inl (inl h)) = inl h
regroup-three m n o rest old new (Err (OwnFault e)) (inl (inr (a, mid, ha, inl h))) = inr (a, mid, ha, inl h)
regroup-three m n o rest old new (Err (OwnFault e)) (inl (inr (a, mid, ha, inr (a', second, hn, h)))) = inr (a, mid, ha, inr (a', second, hn, inl h))
regroup-three m n o rest old new (Err (OwnFault e)) (inr (b, mid, (a, first, ha, (a', second, hn, ho)), h)) = inr (a, first, ha, inr (a', second, hn, inr (b, mid, ho, h)))

-- ---- the end of the chain

pub plan-comes : (ms : Members) (p : Plan) (ranks : List ℕ) (env : Atoms) → p.pairs ≡ pairs_of ms → p.ranks ≡ ranks → length ranks ≡ length (in_text ms) → IsNumbering (crew_of ms) (rank_in ms ranks)
    → Comes (ordered ms) env (Ok p) env
unfolding Comes ordered
plan-comes ms p ranks env pairs same long numbering =
    (record { pairs = pairs; long = subst (λ rs. length rs ≡ length (in_text ms)) (sym same) long; numbering = subst (λ rs. IsNumbering (crew_of ms) (rank_in ms rs)) (sym same) numbering }, refl)

pub ring-comes : (ms : Members) (f : Fault) (env : Atoms) → IsRingFault ms f → Comes (ordered ms) env (Err (OwnFault f)) env
unfolding Comes ordered
ring-comes ms f env is = (is, refl)

-- ---- limits

pub limits-so : (list ws : List HeldMember) (n : ℕ) (text : List Standing) (at : Place) (env : Atoms) (r : Result (Unit {0}) (Stop Fault))
    → list ≡ ws → n ≡ named_count (map member_held list) → map numbered_held text ≡ in_text (map member_held ws)
    → Comes (within_limit most_workers n at ▷ λ _. within_limit most_events (length text) at) env r env
    → Comes (within_limit most_workers (named_count (map member_held ws)) at ▷ λ _. within_limit most_events (length (in_text (map member_held ws))) at) env r env
limits-so list ws n text at env r is named same h =
    let all : length text ≡ length (in_text (map member_held ws)) = sym (length-map text numbered_held) ∙ ap length same in
    let count : n ≡ named_count (map member_held ws) = named ∙ ap (λ l. named_count (map member_held l)) is in
    subst (λ k. Comes (within_limit most_workers (named_count (map member_held ws)) at ▷ λ _. within_limit most_events k at) env r env) all
    (subst (λ k. Comes (within_limit most_workers k at ▷ λ _. within_limit most_events (length text) at) env r env) count h)

-- ---- what was found over the workers, by what they are

module _ (list ws : List HeldMember) where
  pub none-found : (found : Option (Vec ℕ Global)) → list ≡ ws → IfNone found (¬ IsOrderable (crew_of (map member_held list))) → IfNone found (¬ IsOrderable (crew_of (map member_held ws)))
  none-found found is h = subst (λ l. IfNone found (¬ IsOrderable (crew_of (map member_held l)))) is h

  pub long-found : (found : Option (Vec ℕ Global)) → list ≡ ws → IfSome found (λ ranks. length ranks.items ≡ length (in_text (map member_held list)))
      → IfSome found (λ ranks. length ranks.items ≡ length (in_text (map member_held ws)))
  long-found found is h = subst (λ l. IfSome found (λ ranks. length ranks.items ≡ length (in_text (map member_held l)))) is h

  pub numbering-found : (found : Option (Vec ℕ Global)) → list ≡ ws → IfSome found (λ ranks. IsNumbering (crew_of (map member_held list)) (rank_in (map member_held list) ranks.items))
      → IfSome found (λ ranks. IsNumbering (crew_of (map member_held ws)) (rank_in (map member_held ws) ranks.items))
  numbering-found found is h = subst (λ l. IfSome found (λ ranks. IsNumbering (crew_of (map member_held l)) (rank_in (map member_held l) ranks.items))) is h

pub named-none : (ws : List HeldMember) → length ws ≡ 0 → 0 ≡ named_count (map member_held ws)
named-none [] e = refl
named-none (w ∷ ws) e = absurd (omega (arith, e))
