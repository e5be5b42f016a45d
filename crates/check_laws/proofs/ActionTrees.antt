-- Each action leaves one part, by induction on actions.
use Rattle.std.proofs.Common.{◌≡◌, ◌++◌, ◌+◌, ℕ, suc, List, [], ◌∷◌, length, map, Option, None, Some, arith, refl, sym, subst, ap, ◌∙◌, append_assoc, append-nil, length-append}
use Rattle.std.proofs.lemmas.List.{map-append}
use Rattle.bal_base.specs.declared.place.Place.{Place}
use Rattle.bal_base.specs.declared.text.Name.{Name}
use Rattle.bal_tree.specs.declared.action.Action.{Action, Prefix', Start, WaitAny, WaitAll, Flush, Receive, Send, SyncSend}
use Rattle.bal_tree.specs.declared.action.ActionOp.TheVariants.{Check, CheckPanic, Trap}
use Rattle.bal_tree.specs.declared.action.Rhs.{Rhs}
use Rattle.bal_tree.specs.declared.action.Rhs.TheVariants.{Expr as ExprRhs, Action as ActionRhs}
use Rattle.bal_tree.specs.declared.action.WaitMember.{WaitMember}
use Rattle.bal_tree.specs.declared.name.QualifiedName.{QualifiedName}
use Rattle.needs.specs.Needs.{in_turn_from}
use Rattle.typed_tree.specs.Listed.{Listed, nothing, ◌&◌}
use Rattle.expr_needs.specs.declared.expected.Expected.{Expected}
use Rattle.expr_needs.specs.declared.expected.Expected.TheVariants.{Nothing, Immutable, Wanted}
use Rattle.expr_needs.specs.declared.kind.Kind.TheVariants as kind
use Rattle.expr_needs.specs.ActionTable.{action_needs, await_member_needs, await_needs, checked_needs, read_rhs}
use Rattle.expr_needs.specs.ExprTable.{read_expr}
use Rattle.expr_needs.specs.Needs.{Need}
use Rattle.check_words.specs.Actions.{futures}
use Rattle.check_words.specs.Seen.{worker_named}
use Rattle.check_laws.specs.Effects.{awaited_by, gives_by, parts_awaited}
use Rattle.check_laws.specs.Heights.{Heights, ◌⊕◌, parts, wants, constructors, calls, plus}
use Rattle.check_laws.specs.Laws.{IsWantedBy}
use Rattle.check_laws.proofs.Leading.{Base, Leads, Turns}
use Rattle.check_laws.proofs.Lines.{One, of-kind}
use Rattle.check_laws.proofs.Stacks.{plus-is}
use Rattle.check_laws.proofs.Trees.{call-one, expr-one}

futures-more : (ws : List (Option ℕ)) (w : Option ℕ) → futures (ws ++ w ∷ []) ≡ futures ws + parts_awaited w
futures-more [] None = refl
futures-more [] (Some w) = refl
futures-more (None ∷ ws) w = let more = futures-more ws w in omega arith
futures-more (Some v ∷ ws) w = futures-more ws w

module _ (workers : List Name) (base : Base) where
  abbrev Lead : Heights → Listed Need → Heights → Type 0
  Lead = Leads workers base

  abbrev OneOf : (Expected → Listed Need) → Type 0
  OneOf needs = (e : Expected) (h : Heights) → IsWantedBy e (base.wants + h.wants) → Lead h (needs e) (h ⊕ parts 1)

  checked : (needs : Expected → Listed Need) → OneOf needs → (e : Expected) (at : Place) (h : Heights) → IsWantedBy e (base.wants + h.wants)
      → Lead h (checked_needs needs e at) (h ⊕ parts 1)
  checked needs c Wanted at h w =
      let k : Heights = h ⊕ wants 1 in
      (h ⊕ parts 1, (k, (w, refl), (k ⊕ parts 1, c Wanted k (omega arith), (h ⊕ parts 1, refl, refl))), (h, refl, refl))
  checked needs c Nothing at h w = (h ⊕ parts 1, c Nothing h tt, (h, refl, refl))
  checked needs c Immutable at h w = (h ⊕ parts 1, c Nothing h tt, (h, refl, refl))

  received : (e : Expected) (h : Heights) → IsWantedBy e (base.wants + h.wants) → Turns workers base (gives_by e (parts 1)) h (h ⊕ parts 1)
  received Nothing h w = (h, refl, refl)
  received Immutable h w = (h, refl, refl)
  received Wanted h w = (w, refl)

  -- ---- waits

  -- one name more
  more-awaited : (h : Heights) (before : List QualifiedName) (q : QualifiedName)
      → h ⊕ awaited_by workers (before ++ q ∷ []) ≡ (h ⊕ awaited_by workers before) ⊕ (parts (parts_awaited (worker_named workers q)) ⊕ wants 1)
  more-awaited h before q =
      let f : ℕ = futures (map (worker_named workers) before) in
      let g : ℕ = futures (map (worker_named workers) (before ++ q ∷ [])) in
      let n : ℕ = parts_awaited (worker_named workers q) in
      let all : g ≡ f + n = ap futures (map-append (worker_named workers) before (q ∷ [])) ∙ futures-more (map (worker_named workers) before) (worker_named workers q) in
      let some : plus h.parts g ≡ plus (plus h.parts f) n =
      (let one = plus-is h.parts g in let two = plus-is h.parts f in let three = plus-is (plus h.parts f) n in omega arith) in
      let long : plus h.wants (length (before ++ q ∷ [])) ≡ suc (plus h.wants (length before)) =
      (let one = plus-is h.wants (length (before ++ q ∷ [])) in let two = plus-is h.wants (length before) in let both = length-append before (q ∷ []) in omega arith) in
      ap (λ m. record h { parts = m; wants = plus h.wants (length (before ++ q ∷ [])) }) some
      ∙ ap (λ m. record h { parts = plus (plus h.parts f) n; wants = m }) long

  awaited-names : (h : Heights) (before qs : List QualifiedName) (g : Heights) (start : Listed Need) → Lead g start (h ⊕ awaited_by workers before)
      → Lead g (in_turn_from start await_needs qs) (h ⊕ awaited_by workers (before ++ qs))
  awaited-names h before [] g start begun = subst (λ l. Lead g start (h ⊕ awaited_by workers l)) (sym (append-nil before)) begun
  awaited-names h before (q ∷ qs) g start begun =
      let k : Heights = h ⊕ awaited_by workers before in
      subst (λ l. Lead g (in_turn_from (start & await_needs q) await_needs qs) (h ⊕ awaited_by workers l)) (append_assoc before (q ∷ []) qs)
      (awaited-names h (before ++ q ∷ []) qs g (start & await_needs q) (k, begun, (k, refl, more-awaited h before q)))

  awaited-members : (h : Heights) (before : List QualifiedName) (ms : List WaitMember) (g : Heights) (start : Listed Need)
      → Lead g start ((h ⊕ constructors 1) ⊕ awaited_by workers before)
      → Lead g (in_turn_from start await_member_needs ms) ((h ⊕ constructors 1) ⊕ awaited_by workers (before ++ map (λ m. m.name) ms))
  awaited-members h before [] g start begun =
      subst (λ l. Lead g start ((h ⊕ constructors 1) ⊕ awaited_by workers l)) (sym (append-nil before)) begun
  awaited-members h before (m ∷ ms) g start begun =
      let k : Heights = (h ⊕ constructors 1) ⊕ awaited_by workers before in
      subst (λ l. Lead g (in_turn_from (start & await_member_needs m) await_member_needs ms) ((h ⊕ constructors 1) ⊕ awaited_by workers l))
      (append_assoc before (m.name ∷ []) (map (λ m. m.name) ms))
      (awaited-members h (before ++ m.name ∷ []) ms g (start & await_member_needs m)
      (k, begun, (k, (h ⊕ awaited_by workers before, refl, refl), (k, refl, more-awaited (h ⊕ constructors 1) before m.name))))

  -- ---- actions

  -- what names leave that haven't been looked at
  none-awaited : (h : Heights) → h ≡ h ⊕ awaited_by workers []
  none-awaited h = refl

  pub action-one : (a : Action) → OneOf (action_needs a)
  action-one (Prefix' Check _ a at) e h w = checked (action_needs a) (action-one a) e at h w
  action-one (Prefix' CheckPanic _ a at) e h w = (h ⊕ parts 1, action-one a Nothing h tt, (h, refl, refl))
  action-one (Prefix' Trap _ a at) e h w = (h ⊕ parts 1, action-one a Nothing h tt, (h, refl, refl))
  action-one (Start call at) e h w = (h ⊕ calls 1, (call-one workers base call).1 h, (h, refl, refl))
  action-one (WaitAny qs at) e h w = (h ⊕ awaited_by workers qs.items, awaited-names h [] qs.items h nothing refl, (h, refl, refl))
  action-one (WaitAll ms at) e h w =
      let k : Heights = h ⊕ constructors 1 in
      (k, (h, refl, refl), (k ⊕ awaited_by workers (map (λ m. m.name) ms.items), awaited-members h [] ms.items k nothing refl, (h, refl, refl)))
  action-one (Flush peer at) e h w = (h, refl, refl)
  action-one (Receive peer at) e h w = received e h w
  action-one (Send value peer at) e h w = (h ⊕ parts 1, of-kind workers base kind.Sendable (read_expr value.value) (expr-one workers base value.value) h, (h, refl, refl))
  action-one (SyncSend value peer at) e h w = (h ⊕ parts 1, of-kind workers base kind.Sendable (read_expr value.value) (expr-one workers base value.value) h, (h, refl, refl))

  pub rhs-one : (r : Rhs) → One workers base (read_rhs r)
  rhs-one (ExprRhs e) = expr-one workers base e.value
  rhs-one (ActionRhs a) = action-one a.value
