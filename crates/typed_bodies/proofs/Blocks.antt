-- Statements one behind another, and blocks of them.
use Rattle.std.proofs.Common.{All, Bool, List, None, [], ap, append-nil, arith, length, length-append, refl, subst, sym, ◌++◌, ◌∙◌, ◌∷◌, ◌≡◌, ◌≤◌}
use Rattle.std.proofs.lemmas.List.Elements.{All-append, All-cons, All-nil}
use Rattle.bal_base.specs.declared.place.Place.{Place}
use Rattle.check_laws.specs.StmtLaws.{HasBlock, HasUnit, IsOneStmtMore}
use Rattle.check_words.specs.State.{BlockAtWork, IsLast, State, all_but, replaced}
use Rattle.descriptors.specs.declared.names.Names.{Names}
use Rattle.expr_needs.specs.Needs.{BeginsBlock, EndsBlock, MakesBlock, Need}
use Rattle.operations.specs.Rows.{Surroundings}
use Rattle.stmt_needs.specs.StmtTable.{StmtReading, Within, assigned_in, block_needs, in_block, otherwise_needs, stmts_needs, stmts_needs_from}
use Rattle.tree_promises.specs.Laws.{MadeStatementsAreTyped}
use Rattle.tree_promises.specs.MadeStmts.{MadeStmtsAreTyped}
use Rattle.eval_model.specs.Expressions.{nil_type}
use Rattle.type_model.specs.Calls.{Asked}
use Rattle.type_model.specs.declared.answers.TypeLimit.{TypeLimit}
use Rattle.type_model.specs.declared.atoms.AtomDef.{AtomDef}
use Rattle.typed_bodies.proofs.Aside.{IsEnd, block-ends}
use Rattle.typed_bodies.proofs.Choosing.{Begun, block-begun}
use Rattle.typed_bodies.proofs.Onward.{onward-begins-block, onward-makes-block}
use Rattle.typed_bodies.proofs.Puts.{behind-waiting, done}
use Rattle.typed_bodies.proofs.StmtUnits.{HasUnits, block-units, stmts-append}
use Rattle.typed_bodies.proofs.Trails.{BlockAt, MatchAt, back-aside, back-put, back-stmt, in-on, in-run, in-same, in-units}
use Rattle.typed_bodies.specs.Claims.{AllKnown, AreDone, BlockClaim, IsDone, IsOnTheWay, KnowsBlock, KnowsStmt, StaysIn, StmtClaim}
use Rattle.typed_bodies.specs.Units.{units_of_stmts}
use Rattle.typed_exprs.proofs.Steps.{keeps, parted, stored-here}
use Rattle.typed_exprs.specs.Lines.{Run}
use Rattle.typed_needs.proofs.Placed.{all-but-last, last-same}
use Rattle.typed_needs.specs.Between.{IsKept, IsStanding, IsTypedUnit, units_in}
use Rattle.calm_needs.specs.Calm.{IsStoredAt}
use Rattle.checks.specs.Checks.{gives_some, ◌▷◌}
use Rattle.typed_needs.specs.Going.{GoesOn}
use Rattle.typed_stmts.proofs.Branching.{block-opened, block-typed, one-gone}
use Rattle.typed_stmts.proofs.Keeping.{first-ones}
use Rattle.typed_stmts.proofs.Words.{put-weaker}
use Rattle.typed_stmts.specs.Adding.{AddsStmt}
use Rattle.typed_tree.specs.Listed.{Listed, members, nothing, one, ◌&◌}
use Rattle.typed_tree.specs.declared.stmt.TypedStmt.{TypedStmt}
use Rattle.check_words.specs.State.{outside}
use Rattle.check_words.specs.Statements.{ends_block}
use Rattle.check_words.specs.StmtViews.{IsBlock}

-- ---- the block at hand has more statements

pub record IsGrown (old new : State) : Type 0 where
  pub stays : StaysIn old new
  pub found : new.found ≡ old.found
  pub matches : new.matches ≡ old.matches
  pub choices : new.choices ≡ old.choices
  pub wants : new.wants ≡ old.wants
  pub now : BlockAtWork
  pub blocks : new.blocks ≡ replaced old.blocks now

twice-replaced : {A : Type 0} (xs : List A) (x y : A) → replaced (replaced xs x) y ≡ replaced xs y
twice-replaced xs x y = ap (λ l. l ++ y ∷ []) (all-but-last (all_but 1 xs) x)

pub still-has : (s t : State) → IsGrown s t → HasBlock s → HasBlock t
still-has s t g h =
    record {
      unit = (let u = h.unit in let m = g.stays.many in omega (arith, u, m));
      block = (let e = ap length g.blocks in let l = length-append (all_but 1 s.blocks) (g.now ∷ []) in omega (arith, e, l));
    }

one-grown : (s t : State) → GoesOn s t → IsOneStmtMore s t → IsGrown s t
one-grown s t goes more =
    let b : BlockAtWork = record more.block { stmts = more.block.stmts ++ more.stmt ∷ [] } in
    record {
      stays = in-run s t goes more.same;
      found = more.found;
      matches = more.same.matches;
      choices = more.same.choices;
      wants = more.same.wants;
      now = b;
      blocks = more.now ∙ ap (λ l. l ++ b ∷ []) (sym (ap (λ bs. all_but 1 bs) more.was ∙ all-but-last more.around more.block));
    }

grown-on : (r s t : State) → IsGrown r s → IsGrown s t → IsGrown r t
grown-on r s t f g =
    record {
      stays = in-on r s t f.stays g.stays;
      found = g.found ∙ f.found;
      matches = g.matches ∙ f.matches;
      choices = g.choices ∙ f.choices;
      wants = g.wants ∙ f.wants;
      now = g.now;
      blocks = g.blocks ∙ ap (λ bs. replaced bs g.now) f.blocks ∙ twice-replaced r.blocks f.now g.now;
    }

module _ (made : MadeStatementsAreTyped) (passes : List AtomDef → Asked → TypeLimit → Type 0) (names : Names) (env : List AtomDef) (place : Surroundings) (Can : State → Type 0) (can : (s t : State) → StaysIn s t → Can s → Can t) where
  -- the statements of the block at hand are done
  abbrev pub HandIsDone : Bool → State → Type 0
  HandIsDone inside s = (b : BlockAtWork) × IsLast s.blocks b × AreDone env place inside b.stmts

  none-done : (inside : Bool) → AreDone env place inside []
  none-done inside = record { typed = tt; units = All-nil (IsTypedUnit env place) }

  one-done : (inside : Bool) (ss : List TypedStmt) (s : TypedStmt) → AreDone env place inside ss → IsDone env place inside s → AreDone env place inside (ss ++ s ∷ [])
  one-done inside ss s h d =
      let p : MadeStmtsAreTyped env place inside = (made env place inside nil_type s (record { file = 0; at = 0 })).1 in
      record {
        typed = p.one_more ss s h.typed d.typed;
        units = subst (All (IsTypedUnit env place)) (sym (stmts-append ss (s ∷ [])))
            (All-append (IsTypedUnit env place) (units_of_stmts ss) (units_of_stmts (s ∷ [])) h.units d.units);
      }

  -- a statement that was put is done, and so were those before it
  hand-more : (inside : Bool) (s t : State) → AddsStmt (IsDone env place inside) [] s t → HandIsDone inside s → HandIsDone inside t
  hand-more inside s t put (b, last, h) =
      let same : b ≡ put.block = last-same s.blocks b put.block last (record { kept = put.around; is = put.was }) in
      let c : BlockAtWork = record put.block { stmts = put.block.stmts ++ put.stmt ∷ [] } in
      (c, record { kept = put.around; is = put.now }, one-done inside put.block.stmts put.stmt (subst (λ (x : BlockAtWork). AreDone env place inside x.stmts) same h) put.holds)

  -- what is known of needs in a block, which put some statements
  pub record PutsSome (inside : Bool) (needs : Listed Need) : Type 0 where
    pub grown : (s t : State) → HasBlock s → Run passes names env needs s t → IsGrown s t
    pub back : (s t : State) → HasBlock s → Run passes names env needs s t → IsOnTheWay env place t → IsOnTheWay env place s
    pub claim : (s t : State) → Can s → HasBlock s → Run passes names env needs s t → IsKept place s → IsOnTheWay env place t → HandIsDone inside s
        → IsKept place t × HandIsDone inside t

  pub met-nothing : (s t : State) → Run passes names env nothing s t → t ≡ s
  unfolding gives_some
  met-nothing s t (is, e) = e

  pub puts-none : (inside : Bool) → PutsSome inside nothing
  puts-none inside =
      record {
        grown = λ s t block run. subst (λ (x : State). IsGrown s x) (sym (met-nothing s t run)) (itself s block);
        back = λ s t block run way. subst (λ (x : State). IsOnTheWay env place x) (met-nothing s t run) way;
        claim = λ s t c block run kept way hand. subst (λ (x : State). IsKept place x × HandIsDone inside x) (sym (met-nothing s t run)) (kept, hand);
      }
    where
      by-last : (bs : List BlockAtWork) → 1 ≤ length bs → (b : BlockAtWork) × (bs ≡ replaced bs b)
      by-last [] long = absurd (omega (arith, long))
      by-last (b ∷ bs) long = let (kept, x, is) = split b bs in (x, is ∙ ap (λ l. l ++ x ∷ []) (sym (ap (λ l. all_but 1 l) is ∙ all-but-last kept x)))
        where
          split : (b : BlockAtWork) (bs : List BlockAtWork) → (kept : List BlockAtWork) × (x : BlockAtWork) × (b ∷ bs ≡ kept ++ x ∷ [])
          split b [] = ([], b, refl)
          split b (c ∷ cs) = let (kept, x, is) = split c cs in (b ∷ kept, x, ap (λ l. b ∷ l) is)

      itself : (s : State) → HasBlock s → IsGrown s s
      itself s block =
          let (b, is) = by-last s.blocks block.block in
          record { stays = in-same s; found = refl; matches = refl; choices = refl; wants = refl; now = b; blocks = is }

  -- a statement puts one
  pub puts-one : (w : Within) (more : Within → Listed Need) → KnowsStmt passes names env place Can more → PutsSome w.loop (more w)
  puts-one w more knows =
      record {
        grown = λ s t block run. one-grown s t (knows.goes w s t block run) (knows.more w s t block run);
        back = λ s t block run way. back-stmt env place s t (knows.goes w s t block run) (knows.more w s t block run) way;
        claim = λ s t c block run kept way hand. let x = knows.claim w s t c block (knows.more w s t block run) run kept way in (x.kept, hand-more w.loop s t x.adds hand);
      }

  pub puts-both : (inside : Bool) (needs more : Listed Need) → PutsSome inside needs → PutsSome inside more → PutsSome inside (needs & more)
  puts-both inside needs more first second =
      record {
        grown = λ s t block run. let (m, x, y) = parted passes names env needs more s t run in
            let g = first.grown s m block x in grown-on s m t g (second.grown m t (still-has s m g block) y);
        back = λ s t block run way. let (m, x, y) = parted passes names env needs more s t run in
            let g = first.grown s m block x in first.back s m block x (second.back m t (still-has s m g block) y way);
        claim = λ s t c block run kept way hand. let (m, x, y) = parted passes names env needs more s t run in
            let g = first.grown s m block x in
            let there = still-has s m g block in
            let (kept-m, hand-m) = first.claim s m c block x kept (second.back m t there y way) hand in
            second.claim m t (can s m g.stays c) there y kept-m way hand-m;
      }

  -- statements one behind another
  pub puts-stmts : (ss : List StmtReading) → AllKnown passes names env place Can ss → (w : Within) (before : Listed Need) → PutsSome w.loop before
      → PutsSome w.loop (stmts_needs_from before w ss)
  puts-stmts [] known w before puts = puts
  puts-stmts (s ∷ ss) known w before puts =
      let inner : Within = record w { behind = members (assigned_in ss) ++ w.behind } in
      puts-stmts ss known.1 w (before & s.needs inner) (puts-both w.loop before (s.needs inner) puts (puts-one inner s.needs known.0))

  -- ---- blocks

  with-nothing : (old new : State) → Run passes names env (one BeginsBlock & one EndsBlock) old new → Run passes names env (one BeginsBlock & nothing & one EndsBlock) old new
  unfolding ◌▷◌ gives_some
  with-nothing old new (u, a, begins, ends) = (u, a, begins, (tt, a, (refl, refl), ends))

  pub record BlockGoes (old new : State) : Type 0 where
    pub first : State
    pub last : State
    pub begun : Begun old first
    pub standing : IsStanding first
    pub in_first : StaysIn old first
    pub stored : (p : Surroundings) → IsStoredAt p old → IsStoredAt p first
    pub ends : IsEnd last new
    pub ended : IsStanding new

  block-parts : (needs : Listed Need) (old new : State) → Run passes names env (one BeginsBlock & needs & one EndsBlock) old new
      → (g : BlockGoes old new) × Run passes names env needs g.first g.last
  block-parts needs old new run =
      let (a, sb, rest) = parted passes names env (one BeginsBlock) (needs & one EndsBlock) old new run in
      let (z, some, se) = parted passes names env needs (one EndsBlock) a new rest in
      let h = onward-begins-block old a tt sb.0 in (
        record {
          first = a;
          last = z;
          begun = block-begun old a sb.0;
          standing = sb.1;
          in_first = in-units old a h.moved.on h.moved.site;
          stored = h.stored;
          ends = block-ends z new se.0;
          ended = se.1;
        },
        some,
      )

  begun-block : (old a : State) → Begun old a → HasUnit old → HasBlock a
  begun-block old a b unit =
      record {
        unit = subst (λ us. 1 ≤ length us) (sym (ap (λ (s : State). s.units) b.all)) unit;
        block = (let e = ap length (ap (λ (s : State). s.blocks) b.all) in let l = length-append old.blocks (b.block ∷ []) in omega (arith, e, l));
      }

  pub block-claim : (needs : Within → Listed Need) → ((w : Within) → PutsSome w.loop (needs w)) → BlockClaim passes names env place Can (λ w. one BeginsBlock & needs w & one EndsBlock)
  block-claim needs puts w old new c unit more run kept way =
      let (g, some) = block-parts (needs w) old new run in
      let b = g.begun in
      let block = begun-block old g.first b unit in
      let p = puts w in
      let way-last = back-aside env place g.last new g.ends.stays way in
      let stored = g.stored place (stored-here place old kept) in
      let kept-first = keeps place g.first g.standing stored in
      let empty : HandIsDone w.loop g.first =
      (b.block, record { kept = old.blocks; is = ap (λ (s : State). s.blocks) b.all }, subst (λ ss. AreDone env place w.loop ss) (sym b.empty) (none-done w.loop)) in
      let (kept-last, (x, last, h)) = p.claim g.first g.last (can old g.first g.in_first c) block some kept-first way-last empty in
      let same : x ≡ more.block =
      last-same new.blocks x more.block (subst (λ bs. IsLast bs x) (sym g.ends.stays.blocks) last) (record { kept = old.blocks; is = more.blocks }) in
      record {
        block = more.block;
        blocks = more.blocks;
        done = subst (λ (y : BlockAtWork). AreDone env place w.loop y.stmts) same h;
        kept = keeps place new g.ended (g.ends.stored place (stored-here place g.last kept-last));
      }

  -- a block as a statement
  pub blocked : (needs : Within → Listed Need) (at : Place) → KnowsBlock passes names env place Can needs → StmtClaim passes names env place Can (λ w. needs w & one (MakesBlock at))
  blocked needs at k w old new c block more run kept way =
      let (m, rb, s) = parted passes names env (needs w) (one (MakesBlock at)) old new run in
      let one-more = k.more w old m block.unit rb in
      let goes = k.goes w old m block.unit rb in
      let h = onward-makes-block at m new tt s.0 in
      let b = one-more.block in
      let last : IsLast m.blocks b = record { kept = old.blocks; is = one-more.blocks } in
      let (x, put) = block-opened at m new s.0 in
      let same : b ≡ x = one-gone (IsBlock x.stmts at) x b m new put last in
      let put' : AddsStmt (HasUnits (units_in [] ++ units_of_stmts b.stmts)) (b ∷ []) m new =
      subst (λ y. AddsStmt (HasUnits (units_of_stmts b.stmts)) (y ∷ []) m new) (sym same)
      (put-weaker (IsBlock x.stmts at) (HasUnits (units_of_stmts b.stmts)) (x ∷ []) m new
      (λ t v. block-units x.stmts at t v ∙ ap (λ (y : BlockAtWork). units_of_stmts y.stmts) (sym same)) put) in
      let way-m = back-put env place [] (units_of_stmts b.stmts) (b ∷ []) m new put' (in-units m new h.moved.on h.moved.site)
      (one-more.found ∙ sym more.found ∙ sym (append-nil new.found)) (λ all. All-cons (BlockAt env place) b [] all (All-nil (BlockAt env place)))
      (λ all ms. subst (All (MatchAt env place)) (more.same.matches ∙ sym one-more.same.matches) ms) way in
      let x' = k.claim w old m c block.unit one-more rb kept way-m in
      let eb : x'.block ≡ b = last-same m.blocks x'.block b (record { kept = old.blocks; is = x'.blocks }) last in
      let d : AreDone env place w.loop b.stmts = subst (λ (y : BlockAtWork). AreDone env place w.loop y.stmts) eb x'.done in
      record {
        adds = behind-waiting (IsDone env place w.loop) (b ∷ []) old m new one-more.blocks
            (done env place w.loop [] (units_of_stmts b.stmts) (b ∷ []) m new (block-typed made passes names env place w.loop at m new b s.0 last d.typed) put' (All-nil (IsTypedUnit env place)) d.units);
        kept = keeps place new s.1 (h.stored place (stored-here place m x'.kept));
      }

  -- a block of statements
  pub block : (ss : List StmtReading) → AllKnown passes names env place Can ss → BlockClaim passes names env place Can (λ w. block_needs w.loop ss)
  block ss known = block-claim (λ w. stmts_needs (in_block w.loop) ss) (λ w. puts-stmts ss known (in_block w.loop) nothing (puts-none w.loop))

  -- of none
  pub no-block : BlockClaim passes names env place Can (otherwise_needs None)
  no-block w old new c unit more run kept way = block-claim (λ v. nothing) (λ v. puts-none v.loop) w old new c unit more (with-nothing old new run) kept way

  -- behind `else if` the statement stands in a block of its own
  pub one-block : (needs : Within → Listed Need) → KnowsStmt passes names env place Can needs → BlockClaim passes names env place Can (λ w. one BeginsBlock & needs w & one EndsBlock)
  one-block needs knows = block-claim needs (λ w. puts-one w needs knows)
