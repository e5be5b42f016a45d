-- A function opens a unit and blocks of its own, and all of them end with it.
use Rattle.std.proofs.Common.{◌≡◌, ◌≤◌, ◌++◌, ℕ, suc, List, [], ◌∷◌, length, map, Option, None, Some, Ok, arith, refl, sym, ap, ◌∙◌, length-append}
use Rattle.bal_base.specs.declared.place.Place.{Place}
use Rattle.bal_base.specs.declared.text.Name.{Name}
use Rattle.bal_tree.specs.declared.def.Body.{Body}
use Rattle.bal_tree.specs.declared.def.Body.TheVariants as body
use Rattle.bal_tree.specs.declared.def.FunctionDef.{FunctionDef}
use Rattle.bal_tree.specs.declared.def.Worker.{Worker}
use Rattle.bal_tree.specs.declared.name.Word.{Word}
use Rattle.bal_tree.specs.declared.params.Param.{Param}
use Rattle.bal_tree.specs.declared.params.Params.{Params}
use Rattle.bal_tree.specs.declared.stmt.Stmt.{Stmt}
use Rattle.checks.specs.Checks.{Gives, gives_some, ◌▷◌}
use Rattle.descriptors.specs.declared.names.Names.{Names}
use Rattle.needs.specs.Needs.{all_met, does}
use Rattle.type_model.specs.declared.answers.TypeLimit.{TypeLimit}
use Rattle.type_model.specs.declared.atoms.AtomDef.{AtomDef}
use Rattle.type_model.specs.Calls.{Asked}
use Rattle.typed_tree.specs.declared.unit.TypedBody.{TypedBody}
use Rattle.typed_tree.specs.Skeleton.{events_of_body}
use Rattle.typed_tree.specs.Listed.{Listed, nothing, one, ◌&◌, if_there}
use Rattle.expr_needs.specs.ExprTable.{as_wanted, read_expr}
use Rattle.expr_needs.specs.Needs.{Need, BeginsBlock}
use Rattle.stmt_needs.specs.PackageTable.{assigned_in_body, body_needs, function_needs, in_initial, numbered_from, parameter_needs, parameters_needs, read_stmts, worker_needs}
use Rattle.stmt_needs.specs.StmtTable.{Within, stmts_needs, stmts_needs_from}
use Rattle.check_words.specs.Meets.{meets}
use Rattle.check_words.specs.Calls.{closes_unit}
use Rattle.check_words.specs.State.{BlockAtWork, Done, Site, State, UnitAtWork, all_but}
use Rattle.check_words.specs.Statements.{closes_block}
use Rattle.check_words.specs.Units.{adds_function, begins_function, ends_function, outside_functions, workers_of}
use Rattle.check_words.specs.Words.{by_handles}
use Rattle.check_laws.specs.FunctionLaws.{FunctionsEndWhole, IsAllSame}
use Rattle.check_laws.specs.Heights.{Heights, ◌⊕◌, none, parts, wants, blocks}
use Rattle.check_laws.specs.Positions.{Above}
use Rattle.check_laws.proofs.Law.{else-same, itself, parts-only}
use Rattle.check_laws.proofs.Leading.{Base, Leads, base_of, in-turn, leads-so}
use Rattle.check_laws.proofs.Stacks.{all-but-last, fewer-on, is-same, same-front}
use Rattle.check_laws.proofs.Still.{IsStill, same-is-still, still-ends-by, still-on, still-results, still-signature}
use Rattle.check_laws.proofs.Statements.{goes-begins-block, goes-takes-part}
use Rattle.check_laws.proofs.StmtLaw.{worker-none}
use Rattle.check_laws.proofs.StmtLines.{wanted}
use Rattle.check_laws.proofs.StmtTrees.{stmt-one}
use Rattle.check_laws.proofs.Trees.{expr-one}
use Rattle.check_laws.proofs.Values.{goes-wants-result}
use Rattle.check_laws.proofs.Words.{goes-no-more}

-- ---- the needs between the beginning and the end

module _ (workers : List Name) (base : Base) where
  abbrev Lead : Heights → Listed Need → Heights → Type 0
  Lead = Leads workers base

  parameters : (assigned : List Word) (ps : Params) (h : Heights) → Lead h (parameters_needs assigned ps) h
  parameters assigned ps h =
      (h, in-turn workers base (parameter_needs assigned) h (λ p. (h, refl, refl)) ps.params.items h nothing refl, rest ps.rest)
    where
      rest : (p : Option Param) → Lead h (if_there (parameter_needs assigned) p) h
      rest None = refl
      rest (Some p) = (h, refl, refl)

  stmts : (xs : List Stmt) (w : Within) (h g : Heights) (before : Listed Need) → Lead g before (h ⊕ blocks 1)
      → Lead g (stmts_needs_from before w (read_stmts xs)) (h ⊕ blocks 1)
  stmts [] w h g before begun = begun
  stmts (x ∷ xs) w h g before begun =
      stmts xs w h g _ (h ⊕ blocks 1, begun, stmt-one workers base x _ (h ⊕ blocks 1) (omega arith))

  -- a block that begins, with these statements
  begun-with : (xs : List Stmt) (w : Within) (h : Heights) → Lead h (one BeginsBlock & stmts_needs w (read_stmts xs)) (h ⊕ blocks 1)
  begun-with xs w h = (h ⊕ blocks 1, (h, refl, refl), stmts xs w h (h ⊕ blocks 1) nothing refl)

  all-workers : (xs : List Worker) (n : ℕ) (h g : Heights) (before : Listed Need) → Lead g before h → Lead g (numbered_from before worker_needs n xs) h
  all-workers [] n h g before begun = begun
  all-workers (x ∷ xs) n h g before begun = all-workers xs (suc n) h g _ (h, begun, worker-none workers base x n h)

-- ---- the beginning and the end

-- a unit more, and else only what is known of the function
record Begun (old new : State) : Type 0 where
  unit : UnitAtWork
  atoms : List AtomDef
  site : Site
  is : new ≡ record old { atoms = atoms; site = site; units = old.units ++ unit ∷ []; ways = None }
  scope : site.scope ≡ old.site.scope

begins-so : (names : Names) (d : FunctionDef) (old new : State) → begins_function names d old (Gives tt) new → Begun old new
unfolding ◌▷◌ gives_some does by_handles
begins-so names d old new (f, m1, x1, (result, m2, (p2, e2), (slots, m3, (p3, e3), (results, m4, x4, (u, m5, e5, (v, m6, (same, e6), e7)))))) =
    let first : IsStill old m1 = still-signature names d old m1 (Gives f) x1 in
    let next : IsStill old m3 = still-on old m1 m3 first (same-is-still m1 m3 (e3 ∙ e2)) in
    let all : IsStill old m4 = still-on old m3 m4 next (still-results names _ m3 m4 (Gives results) x4) in
    record {
      unit = v;
      atoms = m4.atoms;
      site = record old.site { workers = map (λ w. w.name.name) (workers_of d.body); results = Ok result ∷ results; events = events_of_body d.body };
      is = e7
          ∙ ap (λ (x : State). record x { units = x.units ++ v ∷ []; ways = None }) (e6 ∙ e5)
          ∙ ap (λ (x : State). record x {
            site = record x.site { workers = map (λ w. w.name.name) (workers_of d.body); results = Ok result ∷ results; events = events_of_body d.body };
            units = x.units ++ v ∷ [];
            ways = None;
          }) all;
      scope = refl;
    }

closes-unit-so : (old new : State) (u : UnitAtWork) → closes_unit old (Gives u) new → new ≡ record old { units = all_but 1 old.units; ways = None }
unfolding ◌▷◌ gives_some does
closes-unit-so old new u (v, m1, (last, e1), (w, m2, e2, (same, e3))) =
    e3 ∙ e2 ∙ ap (λ (x : State). record x { units = all_but 1 x.units; ways = None }) e1

closes-block-so : (old new : State) (b : BlockAtWork) → closes_block old (Gives b) new → new ≡ record old { blocks = all_but 1 old.blocks }
unfolding ◌▷◌ gives_some does
closes-block-so old new b (v, m1, (last, e1), (w, m2, e2, (same, e3))) = e3 ∙ e2 ∙ ap (λ (x : State). record x { blocks = all_but 1 x.blocks }) e1

adds-function-so : (d : FunctionDef) (u : UnitAtWork) (P : TypedBody → Type 0) (old new : State) → adds_function d u P old (Gives tt) new
    → (done : Done) × (new ≡ record old { done = done; site = outside_functions old.site })
unfolding ◌▷◌ gives_some does
adds-function-so d u P old new (site, m1, (x1, e1), (f, m2, (x2, e2), (v, m3, e3, e4))) = (
  record old.done { functions = old.done.functions ++ f ∷ []; workers = [] },
  e4 ∙ ap (λ (x : State). record x { site = outside_functions x.site }) e3
      ∙ ap (λ (x : State). record x { done = record x.done { functions = x.done.functions ++ f ∷ []; workers = [] }; site = outside_functions x.site }) (e2 ∙ e1),
)

-- the unit at hand is taken off, and these blocks are left
record Ended (bs : List BlockAtWork) (old new : State) : Type 0 where
  atoms : List AtomDef
  done : Done
  is : new ≡ record old { atoms = atoms; done = done; units = all_but 1 old.units; blocks = bs; ways = None; site = outside_functions old.site }

ends-so : (passes : List AtomDef → Asked → TypeLimit → Type 0) (d : FunctionDef) (close : Place) (old new : State)
    → ends_function passes d close old (Gives tt) new → Ended (all_but 1 (all_but 1 old.blocks)) old new
unfolding ◌▷◌ gives_some
ends-so passes d close old new (u, n1, c1, (v, n2, c2, (rest, n3, c3, (initial, n4, c4, (ws, n5, (p5, e5), y))))) =
    let last = adds-function-so d u _ n5 new y in
    let first : n2 ≡ record old { atoms = n2.atoms; units = all_but 1 old.units; ways = None } =
    still-ends-by passes _ u close n1 n2 (Gives v) c2 ∙ ap (λ (x : State). record x { atoms = n2.atoms }) (closes-unit-so old n1 u c1) in
    let both : n4 ≡ record n2 { blocks = all_but 1 (all_but 1 n2.blocks) } =
    closes-block-so n3 n4 initial c4 ∙ ap (λ (x : State). record x { blocks = all_but 1 x.blocks }) (closes-block-so n2 n3 rest c3) in
    record {
      atoms = n2.atoms;
      done = last.0;
      is = last.1 ∙ ap (λ (x : State). record x { done = last.0; site = outside_functions x.site }) (e5 ∙ both)
          ∙ ap (λ (x : State). record x { blocks = all_but 1 (all_but 1 x.blocks); done = last.0; site = outside_functions x.site }) first;
    }

-- ---- the whole

whole : (b : ℕ) (bs : List BlockAtWork) (old m n new : State) → Begun old m → Above m (blocks b) n → Ended bs n new → bs ≡ m.blocks → IsAllSame old new
whole b bs old m n new begun p ended left =
    let same = else-same 0 b 0 m n p in
    let kept : all_but 1 n.units ≡ old.units =
    ap (all_but 1) (is-same p.units.on) ∙ all-but-last p.units.kept p.units.now
    ∙ same-front _ _ _ _ (sym p.units.at_hand ∙ ap (λ (x : State). x.units) begun.is) in
    record {
      found = ap (λ (x : State). x.found) ended.is ∙ is-same (parts-only 0 b 0 m n p) ∙ ap (λ (x : State). x.found) begun.is;
      wants = ap (λ (x : State). x.wants) ended.is ∙ same.wants ∙ ap (λ (x : State). x.wants) begun.is;
      sorts = ap (λ (x : State). x.sorts) ended.is ∙ same.sorts ∙ ap (λ (x : State). x.sorts) begun.is;
      accesses = ap (λ (x : State). x.accesses) ended.is ∙ same.accesses ∙ ap (λ (x : State). x.accesses) begun.is;
      constructors = ap (λ (x : State). x.constructors) ended.is ∙ same.constructors ∙ ap (λ (x : State). x.constructors) begun.is;
      calls = ap (λ (x : State). x.calls) ended.is ∙ same.calls ∙ ap (λ (x : State). x.calls) begun.is;
      choices = ap (λ (x : State). x.choices) ended.is ∙ same.choices ∙ ap (λ (x : State). x.choices) begun.is;
      matches = ap (λ (x : State). x.matches) ended.is ∙ same.matches ∙ ap (λ (x : State). x.matches) begun.is;
      blocks = ap (λ (x : State). x.blocks) ended.is ∙ left ∙ ap (λ (x : State). x.blocks) begun.is;
      units = ap (λ (x : State). x.units) ended.is ∙ kept;
      scope = ap (λ (x : State). x.site.scope) ended.is ∙ ap (λ (x : Site). x.scope) p.site ∙ ap (λ (x : State). x.site.scope) begun.is ∙ begun.scope;
      initialiser = ap (λ (x : State). x.initialiser) ended.is ∙ p.initialiser ∙ ap (λ (x : State). x.initialiser) begun.is;
    }

module _ (passes : List AtomDef → Asked → TypeLimit → Type 0) (names : Names) where
  -- from where a function has begun, and its parameters are named
  body-ends : (d : FunctionDef) (b : Body) (old m n new : State) → Begun old m → Above m none n
      → all_met (meets passes names) (body_needs d b) n (Gives tt) new → IsAllSame old new
  unfolding ◌▷◌ gives_some
  body-ends d (body.Block initial workers rest close at) old m n new begun p (u1, n1, a, (u2, n2, w, (u3, n3, r, (u4, n4, st, ends)))) =
      let ws : List Name = m.site.workers in let base : Base = base_of m in
      let p1 : Above m (blocks 1) n1 = leads-so m passes names none (blocks 1) (one BeginsBlock & stmts_needs (in_initial workers.items rest.items) (read_stmts initial.items))
      (begun-with ws base initial.items (in_initial workers.items rest.items) none) n n1 u1 p a in
      let p2 : Above m (blocks 1) n2 = leads-so m passes names (blocks 1) (blocks 1) _ (all-workers ws base workers.items 1 (blocks 1) (blocks 1) nothing refl) n1 n2 u2 p1 w in
      let p3 : Above m (blocks 2) n3 = goes-begins-block m (blocks 1) n2 n3 u3 p2 r in
      let p4 : Above m (blocks 2) n4 = leads-so m passes names (blocks 2) (blocks 2) _ (stmts ws base rest.items _ (blocks 1) (blocks 2) nothing refl) n3 n4 u4 p3 st in
      whole 2 _ old m n4 new begun p4 (ends-so passes d close n4 new ends) (is-same (fewer-on 1 0 (fewer-on 1 1 p4.blocks)))
  body-ends d (body.Expr value at) old m n new begun p (u1, n1, a, (u2, n2, v, (e, n3, t, (u4, n4, w, (u, n5, c, y))))) =
      let ws : List Name = m.site.workers in let base : Base = base_of m in
      let p1 : Above m (wants 1) n1 = goes-wants-result m none n n1 u1 p a in
      let p2 : Above m (wants 1 ⊕ parts 1) n2 =
      leads-so m passes names (wants 1) (wants 1 ⊕ parts 1) (as_wanted (read_expr value.value)) (wanted ws base (read_expr value.value) (expr-one ws base value.value) none) n1 n2 u2 p1 v in
      let p3 : Above m (wants 1) n3 = goes-takes-part m (wants 1) n2 n3 e p2 t in
      let p4 : Above m none n4 = goes-no-more m none 1 n3 n4 u4 p3 w in
      let last = adds-function-so d u _ n5 new y in
      let closed = closes-unit-so n4 n5 u c in
      whole 0 n4.blocks old m n4 new begun p4
      (record {
        atoms = n4.atoms;
        done = last.0;
        is = last.1 ∙ ap (λ (x : State). record x { done = last.0; site = outside_functions x.site }) closed;
      })
      (is-same p4.blocks)

  pub function-ends-whole : (d : FunctionDef) (old new : State) → all_met (meets passes names) (function_needs d) old (Gives tt) new → IsAllSame old new
  unfolding ◌▷◌ gives_some
  function-ends-whole d old new (u1, n, (u2, m, b, q), y) =
      let begun : Begun old m = begins-so names d old m b in
      let some : 1 ≤ length m.units = some-unit m old begun in
      let p : Above m none n = leads-so m passes names none none (parameters_needs (assigned_in_body d.body) d.params)
      (parameters m.site.workers (base_of m) (assigned_in_body d.body) d.params none) m n u1 (itself m some) q in
      body-ends d d.body old m n new begun p y
    where
      some-unit : (x z : State) → Begun z x → 1 ≤ length x.units
      some-unit x z g = let long = ap (λ (t : State). length t.units) g.is in let more = length-append z.units (g.unit ∷ []) in omega arith

pub functions-end-whole : (passes : List AtomDef → Asked → TypeLimit → Type 0) → FunctionsEndWhole passes
functions-end-whole passes names d old new met = function-ends-whole passes names d old new met
