-- What comes of a message that is looked at where it is received.
use Rattle.std.proofs.Common.{◌≡◌, ◌∙◌, ◌<◌, ◌≤◌, ◌+◌, ◌++◌, ℕ, zero, suc, Bool, true, false, List, [], ◌∷◌, Option, Some, None, Result, Ok, Err, map, get_or, refl, sym, subst, ap, arith}
use Rattle.std.specs.Prelude.{All, filter, not, slice_get}
use Rattle.std.proofs.lemmas.List.Elements.{All-append, All-filter, All-nil}
use Rattle.std.proofs.lemmas.Option.{get_or_from_slice_get, slice_get_within}
use Rattle.bal_base.specs.declared.fault.Fault.{Fault}
use Rattle.bal_base.specs.declared.stop.Stop.{Stop}
use Rattle.type_model.specs.declared.answers.TypeLimit.{TypeLimit}
use Rattle.type_model.specs.declared.atoms.AtomDef.{AtomDef}
use Rattle.type_model.specs.declared.basic.BasicSet.TheVariants.{Never}
use Rattle.type_model.specs.declared.basic.SemType.{SemType, Basic}
use Rattle.type_model.specs.Calls.{Asked}
use Rattle.type_model.specs.Defined.{IsDefined}
use Rattle.checks.specs.Checks.{Check, Comes}
use Rattle.checks.proofs.Steps.{some_is}
use Rattle.typed_tree.specs.declared.event.EventKind.{EventKind}
use Rattle.typed_tree.specs.declared.event.EventKind.TheVariants.{Send, Post, Done, Receive, Flush, Wait, End}
use Rattle.worker_pairing.specs.Faults.{Atoms, all_pass, failure_fits, from_route, is_nth_send, message_fits, message_passes, place_on, received_on, result_of}
use Rattle.worker_pairing.specs.Marks.{Member, Members, Numbered, Saying, in_text, in_turn, is_initial, numbered_from}
use Rattle.worker_members.specs.declared.held.HeldMember.{HeldMember}
use Rattle.worker_members.specs.Held.{member_held}
use Rattle.worker_partners.specs.declared.partners.Found.{Found}
use Rattle.worker_partners.specs.declared.partners.Side.TheVariants.{SentTo}
use Rattle.worker_partners.specs.Partners.{IsNthFound, found_held, sayings_of}
use Rattle.worker_partners.proofs.Texts.{send-through}
use Rattle.worker_messages.specs.Defined.{AreDefined}
use Rattle.worker_messages.specs.inner.Asked.{received_route, sender_fits}
use Rattle.worker_messages.proofs.InOrder.{single}

-- ---- types that are defined

module _ (env : Atoms) where
  abbrev IsSaid : Saying → Type 0
  IsSaid s = IsDefined env s.type

  nothing-said : (P : Saying → Type 0) → All P []
  nothing-said P i d lt = absurd (omega (arith, lt))

  all-said : (ms : Members) (w : ℕ) → AreDefined env ms → All IsSaid (sayings_of ms w)
  all-said [] w h = nothing-said IsSaid
  all-said (m ∷ ms) zero h = (h 0 m (omega arith)).sayings
  all-said (m ∷ ms) (suc w) h = all-said ms w (λ i d lt. h (suc i) d (omega (arith, lt)))

  -- what was found is defined
  pub found-defined : (ms : Members) (w : ℕ) (f : Found) → AreDefined env ms → slice_get (sayings_of ms w) f.number ≡ Some (found_held w f).saying → IsSaid (found_held w f).saying
  found-defined ms w f h said =
      subst IsSaid (get_or_from_slice_get (sayings_of ms w) f.number _ _ said) (all-said ms w h f.number (found_held w f).saying (slice_get_within (sayings_of ms w) f.number _ said))

  abbrev IsNumberedSaid : Numbered → Type 0
  IsNumberedSaid e = IsDefined env e.saying.type

  numbered-said : (w n : ℕ) (ss : List Saying) → All IsSaid ss → All IsNumberedSaid (numbered_from w n ss)
  numbered-said w n [] h i d lt = absurd (omega (arith, lt))
  numbered-said w n (s ∷ ss) h zero d lt = h 0 s (omega arith)
  numbered-said w n (s ∷ ss) h (suc i) d lt = numbered-said w (n + 1) ss (λ j t less. h (suc j) t (omega (arith, less))) i d (omega (arith, lt))

  turn-said : (w : ℕ) (ms : Members) → AreDefined env ms → All IsNumberedSaid (in_turn w ms)
  turn-said w [] h = All-nil IsNumberedSaid
  turn-said w (m ∷ ms) h =
      All-append IsNumberedSaid (numbered_from w 0 m.sayings) (in_turn (w + 1) ms) (numbered-said w 0 m.sayings (h 0 m (omega arith)).sayings)
      (turn-said (w + 1) ms (λ i d lt. h (suc i) d (omega (arith, lt))))

  -- so is what any event of the text says
  pub text-said : (ms : Members) → AreDefined env ms → All IsNumberedSaid (in_text ms)
  text-said [] h = All-nil IsNumberedSaid
  text-said (own ∷ named) h =
      let first = numbered-said 0 0 own.sayings (h 0 own (omega arith)).sayings in
      All-append IsNumberedSaid (filter is_initial (numbered_from 0 0 own.sayings) ++ in_turn 1 named) (filter (λ e. not (is_initial e)) (numbered_from 0 0 own.sayings))
      (All-append IsNumberedSaid (filter is_initial (numbered_from 0 0 own.sayings)) (in_turn 1 named) (All-filter is_initial IsNumberedSaid (numbered_from 0 0 own.sayings) first)
      (turn-said 1 named (λ i d lt. h (suc i) d (omega (arith, lt)))))
      (All-filter (λ e. not (is_initial e)) IsNumberedSaid (numbered_from 0 0 own.sayings) first)

  -- and what a worker may return
  pub result-defined : (passes : List AtomDef → Asked → TypeLimit → Type 0) (ms : Members) (w : ℕ) → AreDefined env ms → IsDefined env (result_of passes ms w)
  result-defined passes [] w h = tt
  result-defined passes (m ∷ ms) zero h = (h 0 m (omega arith)).result
  result-defined passes (m ∷ ms) (suc w) h = result-defined passes ms w (λ i d lt. h (suc i) d (omega (arith, lt)))

-- ---- what a worker may return

module _ (passes : List AtomDef → Asked → TypeLimit → Type 0) where
  pub result-there : (ws : List HeldMember) (w : ℕ) (m : HeldMember) → slice_get ws w ≡ Some m → (member_held m).result ≡ result_of passes (map member_held ws) w
  result-there [] w m at = absurd (grind (arith, at))
  result-there (x ∷ ws) zero m at = ap (λ (k : HeldMember). (member_held k).result) (same at)
    where
      same : Some x ≡ Some m → m ≡ x
      same e = grind (arith, e)
  result-there (x ∷ ws) (suc w) m at = result-there ws w m at

  pub result-past : (ws : List HeldMember) (w : ℕ) → slice_get ws w ≡ None → result_of passes (map member_held ws) w ≡ Basic Never
  result-past [] w at = refl
  result-past (x ∷ ws) zero at = absurd (grind (arith, at))
  result-past (x ∷ ws) (suc w) at = result-past ws w at

  -- ---- the sender of a message

  module _ (ms : Members) (e : Numbered) (w : ℕ) (early : Bool) (old new : Atoms) (r : Result (Unit {0}) (Stop Fault)) where
    pub sender-asked : early ≡ true → (t : SemType) → t ≡ result_of passes ms w → Comes (failure_fits passes t e.saying.type (Some e.saying.at)) old r new → Comes (sender_fits passes ms e w early) old r new
    sender-asked is t same h = subst (λ b. Comes (sender_fits passes ms e w b) old r new) (sym is) (subst (λ u. Comes (failure_fits passes u e.saying.type (Some e.saying.at)) old r new) same h)

  pub sender-free : (ms : Members) (e : Numbered) (w : ℕ) (early : Bool) (env : Atoms) → early ≡ false → Comes (sender_fits passes ms e w early) env (Ok tt) env
  sender-free ms e w early env off = subst (λ b. Comes (sender_fits passes ms e w b) env (Ok tt) env) (sym off) (some_is (λ old a. a ≡ tt) env env tt refl refl)

  -- ---- the message that comes on a way

  pub all-none : {A : Type 0} (check : A → Check Atoms (Unit {0})) (env : Atoms) → Comes (all_pass check []) env (Ok tt) env
  all-none check env = some_is (λ old a. a ≡ tt) env env tt refl refl

  pub way-found : (ms : Members) (e : Numbered) (v w : ℕ) (f : Found) (old new : Atoms) (r : Result (Unit {0}) (Stop Fault)) → IsNthFound ms v (SentTo w) (place_on ms e (v, w)) (Some f)
      → Comes (message_fits passes ms e (found_held v f)) old r new → Comes (from_route passes ms e (Some (v, w))) old r new
  way-found ms e v w f old new r found h =
      subst (λ l. Comes (all_pass (message_fits passes ms e) l) old r new) (sym (send-through ms v w (place_on ms e (v, w)) (Some f) found)) (single (message_fits passes ms e) (found_held v f) old new r h)

  pub way-none : (ms : Members) (e : Numbered) (v w : ℕ) (env : Atoms) → IsNthFound ms v (SentTo w) (place_on ms e (v, w)) None → Comes (from_route passes ms e (Some (v, w))) env (Ok tt) env
  way-none ms e v w env none =
      subst (λ l. Comes (all_pass (message_fits passes ms e) l) env (Ok tt) env) (sym (send-through ms v w (place_on ms e (v, w)) None none)) (all-none (message_fits passes ms e) env)

  -- ---- what an event receives

  received-so : (w : ℕ) (k : EventKind) → received_route w k ≡ received_on passes w k
  received-so w (Receive (Some v)) = refl
  received-so w (Receive None) = refl
  received-so w (Send peer) = refl
  received-so w (Post peer) = refl
  received-so w (Done peer) = refl
  received-so w (Flush peer) = refl
  received-so w (Wait ns) = refl
  received-so w End = refl

  pub passes-on : (ms : Members) (e : Numbered) (way : Option (ℕ × ℕ)) (old new : Atoms) (r : Result (Unit {0}) (Stop Fault)) → way ≡ received_route e.worker e.saying.kind
      → Comes (from_route passes ms e way) old r new → Comes (message_passes passes ms e) old r new
  passes-on ms e way old new r is h = subst (λ o. Comes (from_route passes ms e o) old r new) (is ∙ received-so e.worker e.saying.kind) h

-- what a search over the workers found, by what they are
pub found-on : (list ws : List HeldMember) (v w n k : ℕ) (o : Option Found) → list ≡ ws → n ≡ k → IsNthFound (map member_held list) v (SentTo w) n o → IsNthFound (map member_held ws) v (SentTo w) k o
found-on list ws v w n k o is same found =
    subst (λ j. IsNthFound (map member_held ws) v (SentTo w) j o) same (subst (λ l. IsNthFound (map member_held l) v (SentTo w) n o) is found)
