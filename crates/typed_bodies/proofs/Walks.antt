-- `foreach`.
use Rattle.std.proofs.Common.{Bool, List, Some, [], ap, arith, subst, sym, true, ◌++◌, ◌∙◌, ◌∷◌, ◌≡◌}
use Rattle.bal_tree.specs.declared.name.Word.{Word}
use Rattle.calm_needs.specs.Calm.{ChoiceIsStored, IsStoredAt}
use Rattle.check_laws.specs.StmtLaws.{HasUnit}
use Rattle.check_words.specs.Branches.{at_head, heads}
use Rattle.checks.specs.Checks.{Gives}
use Rattle.typed_stmts.proofs.Words.{flow-changed}
use Rattle.check_words.specs.State.{BlockAtWork, ChoiceAtWork, IsLast, State}
use Rattle.descriptors.specs.declared.names.Names.{Names}
use Rattle.expr_needs.specs.Needs.{HasItem, Heads, Need, OpensLoop}
use Rattle.flow_narrowing.specs.declared.flow.Variable.{Variable}
use Rattle.operations.specs.Rows.{Surroundings}
use Rattle.stmt_needs.specs.StmtTable.{Within, in_block}
use Rattle.tree_promises.specs.Laws.{MadeStatementsAreTyped}
use Rattle.type_model.specs.Calls.{Asked}
use Rattle.type_model.specs.declared.answers.TypeLimit.{TypeLimit}
use Rattle.type_model.specs.declared.atoms.AtomDef.{AtomDef}
use Rattle.std.specs.Prelude.{slice_get}
use Rattle.calm_needs.proofs.Calming.{on-beside}
use Rattle.check_laws.specs.StmtLaws.{IsOneBlockMore}
use Rattle.type_model.specs.declared.basic.Ty.{Ty}
use Rattle.typed_bodies.proofs.Aside.{IsAside, aside-heads}
use Rattle.typed_bodies.proofs.Choosing.{LoopOpens, loop-opens}
use Rattle.typed_bodies.proofs.Loops.{ItemPut, item-put, last-variable}
use Rattle.typed_bodies.proofs.Names.{last-there}
use Rattle.typed_bodies.proofs.Trails.{OnWay, as-many, aside-keeps, back-aside, back-block, back-same, in-on, in-run, in-stays, in-units}
use Rattle.typed_exprs.proofs.Steps.{Step, keeps, parted, stored-here}
use Rattle.typed_exprs.specs.Lines.{Run}
use Rattle.typed_needs.proofs.Placed.{last-same}
use Rattle.typed_needs.specs.Between.{IsKept}
use Rattle.typed_needs.specs.Going.{GoesOn}
use Rattle.typed_needs.specs.Placing.{IsStored}
use Rattle.typed_stmts.proofs.Keeping.{stmts-keep-stored}
use Rattle.typed_stmts.proofs.Looping.{item-declared}
use Rattle.typed_stmts.specs.Branched.{SeesLast}
use Rattle.typed_stmts.specs.Kept.{StmtsKeepStored}
use Rattle.typed_tree.specs.Listed.{Listed, one, ◌&◌}
use Rattle.typed_tree.specs.SharedTypes.{sem_of}
use Rattle.typed_bodies.specs.Claims.{AreDone, KnowsBlock, StaysIn}

-- ---- the body of a loop

heads-wants : (words : List Word) (old new : State) → heads words old (Gives tt) new → new.wants ≡ old.wants
heads-wants words old new met = let s = flow-changed (at_head words) tt old new met in ap (λ (x : State). x.wants) s.all

opens-in : (d e : State) → LoopOpens d e → StaysIn d e
opens-in d e o = in-units d e (on-beside d e (ap (λ (s : State). s.atoms) o.all) (ap (λ (s : State). s.units) o.all)) (ap (λ (s : State). s.site) o.all)

module _ (made : MadeStatementsAreTyped) (passes : List AtomDef → Asked → TypeLimit → Type 0) (names : Names) (env : List AtomDef) (place : Surroundings)
    (Can : State → Type 0) (can : (s t : State) → StaysIn s t → Can s → Can t) where
  abbrev pub body_needs : List Word → Word → Bool → (Within → Listed Need) → Listed Need
  body_needs words name assigned body = (one (Heads words) & one OpensLoop) & one (HasItem name.name assigned) & body (in_block true)

  pub record BodyRun (words : List Word) (name : Word) (assigned : Bool) (body : Within → Listed Need) (c g : State) : Type 0 where
    pub d : State
    pub e : State
    pub f : State
    pub head : Step passes names env (Heads words) c d
    pub opened : Step passes names env OpensLoop d e
    pub put : Step passes names env (HasItem name.name assigned) e f
    pub run : Run passes names env (body (in_block true)) f g
    pub aside : IsAside c d
    pub opens : LoopOpens d e
    pub item : ItemPut e f
    pub unit_f : HasUnit f
    pub more : IsOneBlockMore f g
    pub goes : GoesOn f g
    pub wants_e : e.wants ≡ c.wants
    pub in_f : StaysIn c f
    pub in_g : StaysIn c g

  pub body-run : (words : List Word) (name : Word) (assigned : Bool) (body : Within → Listed Need) → KnowsBlock passes names env place Can body → (c g : State) → HasUnit c
      → Run passes names env (body_needs words name assigned body) c g → BodyRun words name assigned body c g
  body-run words name assigned body k c g unit run =
      let (e, r1, r2) = parted passes names env (one (Heads words) & one OpensLoop) (one (HasItem name.name assigned) & body (in_block true)) c g run in
      let (d, sh, so) = parted passes names env (one (Heads words)) (one OpensLoop) c e r1 in
      let (f, si, rb) = parted passes names env (one (HasItem name.name assigned)) (body (in_block true)) e g r2 in
      let head = aside-heads words c d tt sh.0 in
      let opens = loop-opens d e so.0 in
      let item = item-put name.name assigned e f si.0 in
      let in-e = in-on c d e (in-stays c d head.stays) (opens-in d e opens) in
      let in-f = in-on c e f in-e (in-stays e f item.stays) in
      let unit-f : HasUnit f = (let u = unit in let m = in-f.many in omega (arith, u, m)) in
      let more = k.more (in_block true) f g unit-f rb in
      let goes = k.goes (in_block true) f g unit-f rb in
      record {
        d = d;
        e = e;
        f = f;
        head = sh;
        opened = so;
        put = si;
        run = rb;
        aside = head;
        opens = opens;
        item = item;
        unit_f = unit-f;
        more = more;
        goes = goes;
        wants_e = ap (λ (s : State). s.wants) opens.all ∙ heads-wants words c d sh.0;
        in_f = in-f;
        in_g = in-on c f g in-f (in-run f g goes more.same);
      }

  module _ (words : List Word) (name : Word) (assigned : Bool) (body : Within → Listed Need) (c g : State) (r : BodyRun words name assigned body c g) where
    pub body-found : g.found ≡ c.found
    body-found = r.more.found ∙ r.item.stays.found ∙ ap (λ (s : State). s.found) r.opens.all ∙ r.aside.stays.found

    pub body-blocks : g.blocks ≡ c.blocks ++ r.more.block ∷ []
    body-blocks = r.more.blocks ∙ ap (λ bs. bs ++ r.more.block ∷ []) (r.item.stays.blocks ∙ ap (λ (s : State). s.blocks) r.opens.all ∙ r.aside.stays.blocks)

    pub body-matches : g.matches ≡ c.matches
    body-matches = r.more.same.matches ∙ r.item.stays.matches ∙ ap (λ (s : State). s.matches) r.opens.all ∙ r.aside.stays.matches

    pub body-choice : IsLast g.choices r.opens.choice
    body-choice = record { kept = r.d.choices; is = r.more.same.choices ∙ r.item.stays.choices ∙ ap (λ (s : State). s.choices) r.opens.all }

    body-way-e : OnWay env place g → OnWay env place r.f × OnWay env place r.d × OnWay env place c
    body-way-e way =
        let way-f = back-block env place r.f g r.goes r.more way in
        let way-e = back-aside env place r.e r.f r.item.stays way-f in
        let way-d = back-same env place r.d r.e (opens-in r.d r.e r.opens) (ap (λ (s : State). s.found) r.opens.all) (ap (λ (s : State). s.blocks) r.opens.all)
        (ap (λ (s : State). s.matches) r.opens.all) way-e in
        (way-f, way-d, back-aside env place c r.d r.aside.stays way-d)

    pub body-way : OnWay env place g → OnWay env place c
    body-way way = let (way-f, way-d, way-c) = body-way-e way in way-c

    -- what it comes to
    pub record BodyIs : Type 0 where
      pub kept : IsKept place g
      pub known : ChoiceIsStored place r.opens.choice
      pub done : AreDone env place true r.more.block.stmts
      pub variable : Variable
      pub seen : SeesLast passes names env place g variable
      pub stored : IsStored place variable
      pub type : sem_of variable.declared ≡ sem_of r.item.want

    pub body-is : KnowsBlock passes names env place Can body → Can c → IsKept place c → OnWay env place g → BodyIs
    body-is k can-c kept way =
        let (way-f, way-d, way-c) = body-way-e way in
        let kept-d = aside-keeps env place c r.d r.aside r.head.1 kept in
        let known = r.opens.stored place kept-d.stored in
        let stored-e : IsStoredAt place r.e = subst (λ (s : State). IsStoredAt place s) (sym r.opens.all) (with-choices r.d (r.d.choices ++ r.opens.choice ∷ []) (stored-here place r.d kept-d)) in
        let keepers : StmtsKeepStored passes names env place = stmts-keep-stored passes names env place in
        let stored-f = keepers.items name.name assigned r.e r.f r.put.0 way-f.parts.placed stored-e in
        let kept-f = keeps place r.f r.put.1 stored-f in
        let x = k.claim (in_block true) r.f g (can c r.f r.in_f can-c) r.unit_f r.more r.run kept-f way in
        let (v, (w, hand, seen), stored, value) = item-declared passes names env place name.name assigned r.e r.f r.item.want r.put.0 r.item.last way-f.parts.placed in
        let unit-g : HasUnit g = (let u = r.unit_f in let m = as-many r.f.units g.units r.more.same.units in omega (arith, u, m)) in
        let (u, hand-g) = last-there g.units unit-g in
        let (v', last', same) = last-variable place w.flow.variables u.flow.variables v (k.sees (in_block true) r.f g r.unit_f r.run w u hand hand-g) seen in
        let eb : x.block ≡ r.more.block = last-same g.blocks x.block r.more.block (record { kept = r.f.blocks; is = x.blocks }) (record { kept = r.f.blocks; is = r.more.blocks }) in
        record {
          kept = x.kept;
          known = known;
          done = subst (λ (y : BlockAtWork). AreDone env place true y.stmts) eb x.done;
          variable = v';
          seen = (u, hand-g, last');
          stored = ap (λ n. slice_get place.slots n) same.slot ∙ stored ∙ ap (λ (t : Ty). Some t.sem) (sym same.declared);
          type = ap (λ (t : Ty). t.sem) (same.declared ∙ value);
        }
      where
        with-choices : (s : State) (cs : List ChoiceAtWork) → IsStoredAt place s → IsStoredAt place (record s { choices = cs })
        with-choices s cs h = record { stored = record { unit = h.stored.unit; at_hand = h.stored.at_hand; variables = h.stored.variables }; ways = h.ways }
