-- How many the needs of actions leave.
use Rattle.std.proofs.Common.{◌≡◌, ℕ, Bool, true, false, List, length, Option, None, Some, Result, Ok, Err, sym, subst, ◌∙◌}
use Rattle.bal_base.specs.declared.fault.Fault.{Fault}
use Rattle.bal_base.specs.declared.place.Place.{Place}
use Rattle.bal_tree.specs.declared.action.Peer.{Peer}
use Rattle.bal_tree.specs.declared.name.QualifiedName.{QualifiedName}
use Rattle.checks.specs.Checks.{gives_some, ◌▷◌}
use Rattle.descriptors.specs.declared.names.Names.{Names}
use Rattle.type_model.specs.declared.answers.TypeLimit.{TypeLimit}
use Rattle.type_model.specs.declared.atoms.AtomDef.{AtomDef}
use Rattle.type_model.specs.Calls.{Asked}
use Rattle.typed_tree.specs.declared.event.SeenEvent.{SeenEvent}
use Rattle.typed_tree.specs.declared.form.StrictForm.{StrictForm}
use Rattle.typed_tree.specs.SharedTypes.{Shared}
use Rattle.expr_needs.specs.declared.expected.Expected.{Expected}
use Rattle.expr_needs.specs.declared.expected.Expected.TheVariants as expected
use Rattle.expr_needs.specs.declared.kind.Kind.TheVariants as kind
use Rattle.check_words.specs.Actions.{awaited, awaits, awaits_by, awaits_future, flushes, futures, known_result, makes_message, message_to, peer_of, receives, receives_as, result_of, sends, sends_and_waits, site_now, takes_wants, waits_for_all, waits_for_any}
use Rattle.check_words.specs.Seen.{worker_named}
use Rattle.check_words.specs.State.{Site, State}
use Rattle.check_words.specs.Words.{Step}
use Rattle.check_laws.specs.Effects.{awaited_by, parts_awaited}
use Rattle.check_laws.specs.Heights.{Heights, ◌⊕◌, parts, wants, constructors}
use Rattle.check_laws.specs.Positions.{Above}
use Rattle.check_laws.proofs.Values.{goes-is-of, goes-named}
use Rattle.check_laws.proofs.Words.{Goes, goes-asking, goes-closes-constructor, goes-fails, goes-makes, goes-no-more, goes-nothing, goes-refuses, goes-some, goes-then, goes-wants, goes-wants-some}

module _ (s : State) where
  goes-known : (h : Heights) (r : Option (Result Shared Fault)) → Goes s h (known_result r) h
  goes-known h (Some (Ok t)) = goes-some s h _
  goes-known h (Some (Err fault)) = goes-refuses s h h _
  goes-known h None = goes-nothing s h h

  pub goes-result : (h : Heights) (w : ℕ) → Goes s h (result_of w) h
  goes-result h w = goes-then s _ _ (goes-some s h _) (λ site. goes-known h _)

  goes-peer : (h : Heights) (p : Peer) → Goes s h (peer_of p) h
  goes-peer h p = goes-then s _ _ (goes-some s h _) (λ site. goes-then s _ _ (goes-some s h _) (λ u. goes-some s h _))

  -- ---- messages

  goes-receives-as : (r : Heights) (w : Option Shared) (peer : Peer) (at : Place) → Goes s r (receives_as w peer at) (r ⊕ parts 1)
  goes-receives-as r None peer at = goes-fails s r _ _ at
  goes-receives-as r (Some t) peer at = goes-then s _ _ (goes-peer r peer) (λ p. goes-makes s r 0 _)

  pub goes-receives : (r : Heights) (e : Expected) (peer : Peer) (at : Place) → Goes s r (receives e peer at) (r ⊕ parts 1)
  goes-receives r expected.Nothing peer at = goes-receives-as r None peer at
  goes-receives r expected.Immutable peer at = goes-receives-as r None peer at
  goes-receives r expected.Wanted peer at = goes-then s _ _ (goes-some s r _) (λ w. goes-receives-as r w peer at)

  pub goes-sends : (r : Heights) (peer : Peer) (at : Place) → Goes s (r ⊕ parts 1) (sends peer at) (r ⊕ parts 1)
  goes-sends r peer at = goes-then s _ _ (goes-peer (r ⊕ parts 1) peer) (λ p. goes-makes s r 1 _)

  goes-message : (r : Heights) (fails : Bool) (count : ℕ) (form : StrictForm) (peer : ℕ) (at : Place)
      → Goes s (r ⊕ parts count) (makes_message fails count form peer at) (r ⊕ parts 1)
  goes-message r false count form peer at = goes-makes s r count _
  goes-message r true count form peer at = goes-then s _ _ (goes-result (r ⊕ parts count) peer) (λ t. goes-makes s r count _)

  goes-message-to : (r : Heights) (fails_by : ℕ → ℕ → List SeenEvent → Bool) (count : ℕ) (form : StrictForm) (peer : Option ℕ) (at : Place)
      → Goes s (r ⊕ parts count) (message_to fails_by count form peer at) (r ⊕ parts 1)
  goes-message-to r fails_by count form None at = goes-makes s r count _
  goes-message-to r fails_by count form (Some peer) at =
      goes-then s _ _ (goes-some s (r ⊕ parts count) _) (λ site. goes-then s _ _ (goes-some s (r ⊕ parts count) _) (λ u. goes-message r _ count form peer at))

  pub goes-sends-and-waits : (r : Heights) (peer : Peer) (at : Place) → Goes s (r ⊕ parts 1) (sends_and_waits peer at) (r ⊕ parts 1)
  goes-sends-and-waits r peer at = goes-then s _ _ (goes-peer (r ⊕ parts 1) peer) (λ p. goes-message-to r _ 1 _ p at)

  pub goes-flushes : (r : Heights) (peer : Peer) (at : Place) → Goes s r (flushes peer at) (r ⊕ parts 1)
  goes-flushes r peer at = goes-then s _ _ (goes-peer r peer) (λ p. goes-message-to r _ 0 _ p at)

  -- ---- waits

  goes-takes-wants : (r : Heights) (count : ℕ) → Goes s (r ⊕ wants count) (takes_wants count) r
  goes-takes-wants r count =
      goes-then s _ _ (goes-some s (r ⊕ wants count) _) (λ ws. goes-then s _ _ (goes-some s (r ⊕ wants count) _) (λ ts.
      goes-then s _ _ (goes-no-more s r count) (λ u. goes-some s r _)))

  -- what is known of the function is what was known of it at the start
  at-site : (before behind : Site → Heights) (next : Site → Step) → ((site : Site) → Goes s (before site) (next site) (behind site))
      → Goes s (before s.site) (site_now ▷ next) (behind s.site)
  unfolding ◌▷◌ gives_some
  at-site before behind next f old new a p (site, mid, (is, e), x) =
      let same : s.site ≡ site = sym (is ∙ p.site) in
      let q : Above s (before site) mid = subst (λ (z : Site). Above s (before z) mid) same (subst (Above s (before s.site)) (sym e) p) in
      subst (λ (z : Site). Above s (behind z) new) (sym same) (f site mid new a q x)

  pub goes-waits-for-any : (r : Heights) (names : List QualifiedName) (at : Place)
      → Goes s (r ⊕ awaited_by s.site.workers names) (waits_for_any names at) (r ⊕ parts 1)
  goes-waits-for-any r names at =
      at-site (λ site. r ⊕ awaited_by site.workers names) (λ site. r ⊕ parts 1) _ (λ site.
      goes-then s _ _ (goes-takes-wants (r ⊕ parts (futures (awaited site names))) (length names)) (λ ts. goes-makes s r _ _))

  pub goes-waits-for-all : (r : Heights) (names : List QualifiedName) (at : Place)
      → Goes s (r ⊕ (awaited_by s.site.workers names ⊕ constructors 1)) (waits_for_all names at) (r ⊕ parts 1)
  goes-waits-for-all r names at =
      at-site (λ site. r ⊕ (awaited_by site.workers names ⊕ constructors 1)) (λ site. r ⊕ parts 1) _ (λ site.
      let k : Heights = r ⊕ parts (futures (awaited site names)) in
      goes-then s _ _ (goes-closes-constructor s (k ⊕ wants (length names))) (λ c. goes-then s _ _ (goes-takes-wants k (length names)) (λ ts.
      goes-then s _ _ (goes-asking s k _) (λ atom. goes-makes s r _ _))))

  -- ---- names in waits

  module _ (passes : List AtomDef → Asked → TypeLimit → Type 0) (names : Names) where
    goes-awaits-future : (r : Heights) (q : QualifiedName) → Goes s r (awaits_future passes names q) (r ⊕ (parts 1 ⊕ wants 1))
    goes-awaits-future r q =
        goes-then s _ _ (goes-named s names r q) (λ u. goes-then s _ _ (goes-is-of s passes (r ⊕ parts 1) kind.AnyFuture q.at) (λ v.
        goes-then s _ _ (goes-some s (r ⊕ parts 1) _) (λ e. goes-then s _ _ (goes-asking s (r ⊕ parts 1) _) (λ m. goes-wants-some s (r ⊕ parts 1) _))))

    goes-awaits-by : (r : Heights) (q : QualifiedName) (w : Option ℕ)
        → Goes s r (awaits_by passes names q w) (r ⊕ (parts (parts_awaited w) ⊕ wants 1))
    goes-awaits-by r q (Some w) = goes-then s _ _ (goes-result r w) (λ t. goes-wants s r (Some t))
    goes-awaits-by r q None = goes-awaits-future r q

    pub goes-awaits : (r : Heights) (q : QualifiedName)
        → Goes s r (awaits passes names q) (r ⊕ (parts (parts_awaited (worker_named s.site.workers q)) ⊕ wants 1))
    goes-awaits r q =
        at-site (λ site. r) (λ site. r ⊕ (parts (parts_awaited (worker_named site.workers q)) ⊕ wants 1)) _
        (λ site. goes-awaits-by r q (worker_named site.workers q))
