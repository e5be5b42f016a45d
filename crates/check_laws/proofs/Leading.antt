-- What lists of needs do to what stands on top, need by need.
use Rattle.std.proofs.Common.{◌≡◌, ◌≤◌, ◌++◌, ◌+◌, ℕ, suc, List, [], ◌∷◌, length, map, arith, refl, sym, subst, ap, ◌∙◌, length-append}
use Rattle.bal_base.specs.declared.text.Name.{Name}
use Rattle.descriptors.specs.declared.names.Names.{Names}
use Rattle.needs.specs.Laws.{AreMet}
use Rattle.needs.specs.Needs.{all_met, in_turn_from}
use Rattle.type_model.specs.declared.answers.TypeLimit.{TypeLimit}
use Rattle.type_model.specs.declared.atoms.AtomDef.{AtomDef}
use Rattle.type_model.specs.Calls.{Asked}
use Rattle.typed_tree.specs.Listed.{Listed, nothing, one, ◌&◌, members}
use Rattle.expr_needs.specs.Needs.{Need}
use Rattle.check_words.specs.Meets.{meets}
use Rattle.check_words.specs.State.{State}
use Rattle.check_words.specs.Words.{Step}
use Rattle.check_laws.specs.Effects.{AddsStmt, Beyond, Effect, Moves, Never, SeesWant, effect}
use Rattle.check_laws.specs.Heights.{Heights, ◌⊕◌, plus, with_stmt}
use Rattle.check_laws.specs.Laws.{Finds}
use Rattle.check_laws.specs.Positions.{Above}
use Rattle.check_laws.proofs.EachNeed.{Respects, respects}
use Rattle.check_laws.proofs.Stacks.{count-blocks, plus-is}
use Rattle.check_laws.proofs.Words.{Goes, goes-done, goes-then}

-- what stands below all that is looked at: how many types are wanted there, and how many blocks there are
pub record Base : Type 0 where
  pub wants : ℕ
  pub blocks : ℕ

abbrev pub base_of : State → Base
base_of s = record { wants = length s.wants; blocks = length s.blocks }

-- `workers`: the names of the workers of the function
module _ (workers : List Name) (base : Base) where
  -- what the effect takes is there, and so this comes of it
  abbrev pub Turns : Effect → Heights → Heights → Type 0
  Turns Never h k = Unit {0}
  Turns (Moves takes leaves) h k = (r : Heights) × (h ≡ r ⊕ takes) × (k ≡ r ⊕ leaves)
  Turns (SeesWant leaves) h k = (1 ≤ base.wants + h.wants) × (k ≡ h ⊕ leaves)
  Turns (AddsStmt takes) h k = (r : Heights) × (h ≡ r ⊕ takes) × (k ≡ with_stmt r) × (1 ≤ base.blocks + r.blocks)
  Turns Beyond h k = ⊥

  -- need by need
  abbrev pub Leads : Heights → Listed Need → Heights → Type 0
  Leads h nothing k = k ≡ h
  Leads h (one n) k = Turns (effect workers n) h k
  Leads h (p & q) k = (mid : Heights) × Leads h p mid × Leads mid q k

  -- ---- lists

  -- each in turn leaves as many as there were
  pub in-turn : {X : Type 0} (f : X → Listed Need) (h : Heights) → ((x : X) → Leads h (f x) h) → (xs : List X) (g : Heights) (start : Listed Need)
      → Leads g start h → Leads g (in_turn_from start f xs) h
  in-turn f h each [] g start begun = begun
  in-turn f h each (x ∷ xs) g start begun = in-turn f h each xs g (start & f x) (h, begun, each x)

  -- each in turn leaves more, by its number; `read` are things of which the claim is known
  pub in-turn-more : {X Y : Type 0} {C : X → Type 0} (read : X → Y) (f : Y → Listed Need) (H : ℕ → Heights)
      → ((i : ℕ) (x : X) → C x → Leads (H i) (f (read x)) (H (suc i))) → (xs : List ((x : X) × C x)) (i : ℕ) (g : Heights) (start : Listed Need)
      → Leads g start (H i) → Leads g (in_turn_from start f (map read (map (λ x. x.0) xs))) (H (i + length xs))
  in-turn-more read f H each [] i g start begun = subst (λ n. Leads g start (H n)) (omega arith) begun
  in-turn-more read f H each (x ∷ xs) i g start begun =
      subst (λ n. Leads g (in_turn_from (start & f (read x.0)) f (map read (map (λ x. x.0) xs))) (H n)) (omega arith)
      (in-turn-more read f H each xs (suc i) g (start & f (read x.0)) (H i, begun, each i x.0 x.1))

-- ---- what is so of data is so of states

module _ (s : State) (passes : List AtomDef → Asked → TypeLimit → Type 0) (names : Names) where
  abbrev TurnsHere : Effect → Heights → Heights → Type 0
  TurnsHere = Turns s.site.workers (base_of s)

  turned : (m : Step) (e : Effect) (h k : Heights) → Respects s m e → TurnsHere e h k → Goes s h m k
  turned m Never h k f t = λ old new a p x. absurd (f old new x)
  turned m (Moves takes leaves) h k f (r, before, behind) =
      subst (λ (x : Heights). Goes s x m k) (sym before) (subst (λ (x : Heights). Goes s (r ⊕ takes) m x) (sym behind) (f r))
  turned m (SeesWant leaves) h k f (seen, behind) = subst (λ (x : Heights). Goes s h m x) (sym behind) (f h)
  turned m (AddsStmt takes) h k f (r, before, behind, seen) =
      subst (λ (x : Heights). Goes s x m k) (sym before) (subst (λ (x : Heights). Goes s (r ⊕ takes) m x) (sym behind) (f r))
  turned m Beyond h k f t = absurd t

  pub leads-so : (h k : Heights) (needs : Listed Need) → Leads s.site.workers (base_of s) h needs k → Goes s h (all_met (meets passes names) needs) k
  leads-so h k nothing e = subst (λ (x : Heights). Goes s h (all_met (meets passes names) nothing) x) (sym e) (goes-done s h)
  leads-so h k (one n) t = turned (meets passes names n) (effect s.site.workers n) h k (respects s passes names n) t
  leads-so h k (p & q) (mid, f, g) = goes-then s _ _ (leads-so h mid p f) (λ u. leads-so mid k q g)

  -- ---- each need finds what it takes

  -- the same over a list
  abbrev LeadsAll : Heights → List Need → Heights → Type 0
  LeadsAll h [] k = k ≡ h
  LeadsAll h (n ∷ ns) k = (mid : Heights) × TurnsHere (effect s.site.workers n) h mid × LeadsAll mid ns k

  all-append : (ns ms : List Need) (h mid k : Heights) → LeadsAll h ns mid → LeadsAll mid ms k → LeadsAll h (ns ++ ms) k
  all-append [] ms h mid k e l = subst (λ (x : Heights). LeadsAll x ms k) e l
  all-append (n ∷ ns) ms h mid k (at, t, rest) l = (at, t, all-append ns ms at mid k rest l)

  as-list : (h k : Heights) (needs : Listed Need) → Leads s.site.workers (base_of s) h needs k → LeadsAll h (members needs) k
  as-list h k nothing e = e
  as-list h k (one n) t = (k, t, refl)
  as-list h k (p & q) (mid, f, g) = all-append (members p) (members q) h mid k (as-list h mid p f) (as-list mid k q g)

  wanted-so : (h : Heights) (t : State) → Above s h t → 1 ≤ length s.wants + h.wants → 1 ≤ length t.wants
  wanted-so h t p le =
      let long : length t.wants ≡ length s.wants + length p.wants.more = ap length p.wants.is ∙ length-append s.wants p.wants.more in
      let many = p.wants.many in omega arith

  found-so : (e : Effect) (h k : Heights) (t : State) → TurnsHere e h k → Above s h t → Finds e s t
  found-so Never h k t x p = tt
  found-so (Moves takes leaves) h k t (r, before, behind) p = (r, subst (λ (x : Heights). Above s x t) before p)
  found-so (SeesWant leaves) h k t (seen, behind) p = wanted-so h t p seen
  found-so (AddsStmt takes) h k t (r, before, behind, seen) p =
      let long = count-blocks s.blocks t.blocks h.blocks h.stmts p.blocks in let all = plus-is r.blocks takes.blocks in
      let same : h.blocks ≡ plus r.blocks takes.blocks = ap (λ (x : Heights). x.blocks) before in
      (r, subst (λ (x : Heights). Above s x t) before p, omega arith)
  found-so Beyond h k t x p = x

  pub finds-so : (before behind : List Need) (need : Need) (h k : Heights) (old t : State) → LeadsAll h (before ++ need ∷ behind) k → Above s h old
      → AreMet (meets passes names) before old t → Finds (effect s.site.workers need) s t
  finds-so [] behind need h k old t (mid, x, rest) p e =
      found-so (effect s.site.workers need) h mid t x (subst (Above s h) (sym e) p)
  finds-so (n ∷ before) behind need h k old t (mid, x, rest) p (at, met, more) =
      finds-so before behind need mid k at t rest
      (turned (meets passes names n) (effect s.site.workers n) h mid (respects s passes names n) x old at tt p met) more

  pub finds-in : (needs : Listed Need) (h k : Heights) → Leads s.site.workers (base_of s) h needs k → Above s h s
      → (before behind : List Need) (need : Need) (t : State) → members needs ≡ before ++ need ∷ behind → AreMet (meets passes names) before s t
      → Finds (effect s.site.workers need) s t
  finds-in needs h k l p before behind need t is met =
      finds-so before behind need h k s t (subst (λ ns. LeadsAll h ns k) is (as-list h k needs l)) p met
