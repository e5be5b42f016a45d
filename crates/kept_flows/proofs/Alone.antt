-- Blocks of one statement, or of none.
use Rattle.std.proofs.Common.{List, None, [], ap, append-nil, arith, length, length-append, refl, subst, sym, ◌++◌, ◌∙◌, ◌∷◌, ◌≡◌, ◌≤◌}
use Rattle.check_laws.specs.Laws.{IsElseSame}
use Rattle.check_laws.specs.Positions.{OnUnits}
use Rattle.check_laws.specs.StmtLaws.{HasBlock, HasUnit, IsOneBlockMore, IsOneStmtMore}
use Rattle.check_words.specs.State.{BlockAtWork, State, UnitAtWork, all_but, outside, replaced}
use Rattle.check_words.specs.Statements.{ends_block}
use Rattle.checks.specs.Checks.{Gives, gives_some, ◌▷◌}
use Rattle.descriptors.specs.declared.names.Names.{Names}
use Rattle.expr_needs.specs.Needs.{BeginsBlock, EndsBlock, Need}
use Rattle.type_model.specs.Calls.{Asked}
use Rattle.type_model.specs.declared.answers.TypeLimit.{TypeLimit}
use Rattle.type_model.specs.declared.atoms.AtomDef.{AtomDef}
use Rattle.typed_bodies.proofs.Aside.{block-ends}
use Rattle.typed_bodies.proofs.Choosing.{Begun, block-begun}
use Rattle.typed_exprs.proofs.Steps.{parted, stays-goes}
use Rattle.typed_exprs.specs.Lines.{Run}
use Rattle.typed_needs.proofs.Going.{goes-on, goes-self}
use Rattle.typed_needs.proofs.Placed.{all-but-last}
use Rattle.typed_needs.specs.Going.{GoesOn}
use Rattle.typed_stmts.proofs.Words.{flow-changed}
use Rattle.typed_tree.specs.Listed.{Listed, nothing, one, ◌&◌}

-- ---- what stays

-- the block at hand is another one then
pub record Within (s t : State) : Type 0 where
  pub found : t.found ≡ s.found
  pub now : BlockAtWork
  pub blocks : t.blocks ≡ replaced s.blocks now
  pub same : IsElseSame s t
  pub goes : GoesOn s t

pub stmt-within : (s t : State) → GoesOn s t → IsOneStmtMore s t → Within s t
stmt-within s t goes more =
    let b : BlockAtWork = record more.block { stmts = more.block.stmts ++ more.stmt ∷ [] } in
    record {
      found = more.found;
      now = b;
      blocks = more.now ∙ ap (λ l. l ++ b ∷ []) (sym (ap (λ bs. all_but 1 bs) more.was ∙ all-but-last more.around more.block));
      same = more.same;
      goes = goes;
    }

pub at-hand : (us : List UnitAtWork) → 1 ≤ length us → (kept : List UnitAtWork) × (u : UnitAtWork) × (us ≡ kept ++ u ∷ [])
at-hand [] h = absurd (omega (arith, h))
at-hand (u ∷ []) h = ([], u, refl)
at-hand (u ∷ v ∷ us) h = let (kept, w, is) = at-hand (v ∷ us) (omega arith) in (u ∷ kept, w, ap (λ l. u ∷ l) is)

units-stay : (us : List UnitAtWork) → 1 ≤ length us → OnUnits us 0 us
units-stay us h =
    let (kept, u, is) = at-hand us h in
    record { kept = kept; was = u; now = u; at_hand = is; on = record { more = []; is = is ∙ sym (append-nil (kept ++ u ∷ [])); many = refl } }

same-itself : (s : State) → HasUnit s → IsElseSame s s
same-itself s unit =
    record {
      wants = refl;
      sorts = refl;
      accesses = refl;
      constructors = refl;
      calls = refl;
      choices = refl;
      matches = refl;
      units = units-stay s.units unit;
      site = refl;
      initialiser = refl;
    }

nothing-left : (xs : List UnitAtWork) → length xs ≡ 0 → xs ≡ []
nothing-left [] e = refl
nothing-left (x ∷ xs) e = absurd (omega (arith, e))

-- the unit at hand is another one
on-replaced : (us vs : List UnitAtWork) (v : UnitAtWork) → OnUnits us 0 vs → OnUnits us 0 (replaced vs v)
on-replaced us vs v h =
    let plain : vs ≡ h.kept ++ h.now ∷ [] = h.on.is ∙ ap (λ l. (h.kept ++ h.now ∷ []) ++ l) (nothing-left h.on.more h.on.many) ∙ append-nil (h.kept ++ h.now ∷ []) in
    record {
      kept = h.kept;
      was = h.was;
      now = v;
      at_hand = h.at_hand;
      on = record {
        more = [];
        is = ap (λ l. l ++ v ∷ []) (ap (λ l. all_but 1 l) plain ∙ all-but-last h.kept h.now) ∙ sym (append-nil (h.kept ++ v ∷ []));
        many = refl;
      };
    }

block-ended : (old new : State) → ends_block old (Gives tt) new → (v : UnitAtWork) × (new ≡ record old { units = replaced old.units v; ways = None })
unfolding ◌▷◌ gives_some
block-ended old new (b, mid, (last, e), changed) =
    let s = flow-changed (outside b.scope) tt mid new changed in
    (s.now, s.all ∙ ap (λ (x : State). record x { units = replaced x.units s.now; ways = None }) e)

begun-block : (old a : State) → Begun old a → HasUnit old → HasBlock a
begun-block old a b unit =
    record {
      unit = subst (λ us. 1 ≤ length us) (sym (ap (λ (s : State). s.units) b.all)) unit;
      block = (let e = ap length (ap (λ (s : State). s.blocks) b.all) in let l = length-append old.blocks (b.block ∷ []) in omega (arith, e, l));
    }

-- ---- blocks

module _ (passes : List AtomDef → Asked → TypeLimit → Type 0) (names : Names) (env : List AtomDef) where
  -- one block more, and what was there goes on
  pub record MoreBlock (old new : State) : Type 0 where
    pub more : IsOneBlockMore old new
    pub goes : GoesOn old new

  pub alone : (needs : Listed Need) → ((s t : State) → HasBlock s → Run passes names env needs s t → Within s t) → (old new : State) → HasUnit old
      → Run passes names env (one BeginsBlock & needs & one EndsBlock) old new → MoreBlock old new
  alone needs inner old new unit run =
      let (a, sb, rest) = parted passes names env (one BeginsBlock) (needs & one EndsBlock) old new run in
      let (z, some, se) = parted passes names env needs (one EndsBlock) a new rest in
      let b = block-begun old a sb.0 in
      let k = inner a z (begun-block old a b unit) some in
      let (v, is) = block-ended z new se.0 in
      let same : IsElseSame (record old { blocks = old.blocks ++ b.block ∷ [] }) z = subst (λ (s : State). IsElseSame s z) b.all k.same in
      let first : GoesOn old a = subst (λ (s : State). GoesOn old s) (sym b.all) (let g : GoesOn old old = goes-self old in record { more = g.more; atoms = g.atoms; going = g.going; above = g.above; units = g.units; each = g.each }) in
      let ended = block-ends z new se.0 in
      record {
        more = record {
          found = ap (λ (s : State). s.found) is ∙ k.found ∙ ap (λ (s : State). s.found) b.all;
          block = k.now;
          blocks = ap (λ (s : State). s.blocks) is ∙ k.blocks ∙ ap (λ (s : State). replaced s.blocks k.now) b.all ∙ ap (λ l. l ++ k.now ∷ []) (all-but-last old.blocks b.block);
          same = record {
            wants = ap (λ (s : State). s.wants) is ∙ same.wants;
            sorts = ap (λ (s : State). s.sorts) is ∙ same.sorts;
            accesses = ap (λ (s : State). s.accesses) is ∙ same.accesses;
            constructors = ap (λ (s : State). s.constructors) is ∙ same.constructors;
            calls = ap (λ (s : State). s.calls) is ∙ same.calls;
            choices = ap (λ (s : State). s.choices) is ∙ same.choices;
            matches = ap (λ (s : State). s.matches) is ∙ same.matches;
            units = subst (λ (s : State). OnUnits old.units 0 s.units) (sym is) (on-replaced old.units z.units v same.units);
            site = ap (λ (s : State). s.site) is ∙ same.site;
            initialiser = ap (λ (s : State). s.initialiser) is ∙ same.initialiser;
          };
        };
        goes = goes-on old a new first (goes-on a z new k.goes (stays-goes z new ended.stays.on));
      }

  same-state : (s t : State) → Run passes names env nothing s t → t ≡ s
  unfolding gives_some
  same-state s t (is, e) = e

  by-last : (bs : List BlockAtWork) → 1 ≤ length bs → (b : BlockAtWork) × (bs ≡ replaced bs b)
  by-last [] long = absurd (omega (arith, long))
  by-last (b ∷ bs) long = let (kept, x, is) = split b bs in (x, is ∙ ap (λ l. l ++ x ∷ []) (sym (ap (λ l. all_but 1 l) is ∙ all-but-last kept x)))
    where
      split : (b : BlockAtWork) (bs : List BlockAtWork) → (kept : List BlockAtWork) × (x : BlockAtWork) × (b ∷ bs ≡ kept ++ x ∷ [])
      split b [] = ([], b, refl)
      split b (c ∷ cs) = let (kept, x, is) = split c cs in (b ∷ kept, x, ap (λ l. b ∷ l) is)

  none-within : (s t : State) → HasBlock s → Run passes names env nothing s t → Within s t
  none-within s t block run =
      let (b, is) = by-last s.blocks block.block in
      subst (λ (x : State). Within s x) (sym (same-state s t run)) (record { found = refl; now = b; blocks = is; same = same-itself s block.unit; goes = goes-self s })

  pub with-nothing : (old new : State) → Run passes names env (one BeginsBlock & one EndsBlock) old new → Run passes names env (one BeginsBlock & nothing & one EndsBlock) old new
  unfolding ◌▷◌ gives_some
  with-nothing old new (u, a, begins, ends) = (u, a, begins, (tt, a, (refl, refl), ends))

  pub of-none : (old new : State) → HasUnit old → Run passes names env (one BeginsBlock & one EndsBlock) old new → MoreBlock old new
  of-none old new unit run = alone nothing none-within old new unit (with-nothing old new run)
