-- The law of positions, from what is so of the trees.
use Rattle.std.proofs.Common.{◌≡◌, ◌≤◌, ◌+◌, ℕ, List, [], length, arith, refl, sym, ap, append-nil}
use Rattle.bal_base.specs.declared.text.Name.{Name}
use Rattle.descriptors.specs.declared.names.Names.{Names}
use Rattle.type_model.specs.declared.answers.TypeLimit.{TypeLimit}
use Rattle.type_model.specs.declared.atoms.AtomDef.{AtomDef}
use Rattle.type_model.specs.Calls.{Asked}
use Rattle.typed_tree.specs.Listed.{Listed}
use Rattle.expr_needs.specs.ActionTable.{read_rhs}
use Rattle.expr_needs.specs.declared.expected.Expected.{Expected}
use Rattle.expr_needs.specs.declared.expected.Expected.TheVariants as expected
use Rattle.expr_needs.specs.ExprTable.{Reading, read_call, read_expr, read_postfix, read_primary}
use Rattle.expr_needs.specs.Needs.{Need}
use Rattle.check_words.specs.State.{CallAtWork, State}
use Rattle.check_laws.specs.Heights.{Heights, none, parts}
use Rattle.check_laws.specs.Laws.{EffectsAreKept, IsElseSame, IsOneMore, IsReady, IsWantedBy, KeepsPositions, PositionsAreKept}
use Rattle.check_laws.specs.Positions.{Above, OnTop, parts_of_calls}
use Rattle.check_laws.proofs.ActionTrees.{rhs-one}
use Rattle.check_laws.proofs.EachNeed.{effect-is-kept}
use Rattle.check_laws.proofs.Leading.{Base, Leads, base_of, finds-in, leads-so}
use Rattle.check_laws.proofs.Lines.{One}
use Rattle.check_laws.proofs.Stacks.{as-on, is-same, none-on, none-there, one-there, units-there}
use Rattle.check_laws.proofs.Trees.{call-one, expr-one, postfix-one, primary-one}

pub itself : (s : State) → 1 ≤ length s.units → Above s none s
itself s le =
    record {
      calls = record { more = []; is = sym (append-nil s.calls); many = refl };
      found = none-on;
      wants = none-on;
      sorts = none-on;
      accesses = none-on;
      constructors = none-on;
      choices = none-on;
      matches = none-on;
      blocks = none-on;
      units = units-there s.units le;
      site = refl;
      initialiser = refl;
    }

-- ---- where nothing else stands on what was there

no-parts : (cs : List CallAtWork) → length cs ≡ 0 → parts_of_calls cs ≡ 0
no-parts cs e = ap parts_of_calls (none-there e)

-- so many parts, blocks and statements, and no more
pub else-same : (n b m : ℕ) (old new : State) → Above old (record none { parts = n; blocks = b; stmts = m }) new → IsElseSame old new
else-same n b m old new p =
    record {
      wants = is-same p.wants;
      sorts = is-same p.sorts;
      accesses = is-same p.accesses;
      constructors = is-same p.constructors;
      calls = is-same p.calls;
      choices = is-same p.choices;
      matches = is-same p.matches;
      units = p.units;
      site = p.site;
      initialiser = p.initialiser;
    }

pub parts-only : (n b m : ℕ) (old new : State) → Above old (record none { parts = n; blocks = b; stmts = m }) new → OnTop old.found n new.found
parts-only n b m old new p = as-on (let no = no-parts p.calls.more p.calls.many in omega arith) p.found

one-more : (old new : State) → Above old (parts 1) new → IsOneMore old new
one-more old new p =
    let found = one-there (parts-only 1 0 0 old new p) in
    record { part = found.0; found = found.1; blocks = is-same p.blocks; same = else-same 1 0 0 old new p }

wanted-here : (e : Expected) (n : ℕ) → IsWantedBy e n → IsWantedBy e (n + 0)
wanted-here expected.Nothing n w = tt
wanted-here expected.Immutable n w = tt
wanted-here expected.Wanted n w = omega arith

-- ---- the law

module _ (passes : List AtomDef → Asked → TypeLimit → Type 0) (names : Names) where
  -- from heights to states
  pub keeps : (needs : Listed Need) (IsReadyFor : State → Type 0) (ComesTo : State → State → Type 0) (k : Heights)
      → ((s : State) → IsReadyFor s → 1 ≤ length s.units) → ((s : State) → IsReadyFor s → Leads s.site.workers (base_of s) none needs k)
      → ((old new : State) → Above old k new → ComesTo old new) → KeepsPositions passes names IsReadyFor ComesTo needs
  keeps needs IsReadyFor ComesTo k unit leads comes =
      record {
        comes = λ old new ready met. comes old new (leads-so old passes names none k needs (leads old ready) old new tt (itself old (unit old ready)) met);
        finds = λ before behind need old s ready is met.
            finds-in old passes names needs none k (leads old ready) (itself old (unit old ready)) before behind need s is met;
      }

  given : (a : Reading) → ((workers : List Name) (base : Base) → One workers base a) → (e : Expected)
      → KeepsPositions passes names (IsReady e) IsOneMore (a.needs e)
  given a c e =
      keeps (a.needs e) (IsReady e) IsOneMore (parts 1) (λ s ready. ready.unit)
      (λ s ready. c s.site.workers (base_of s) e none (wanted-here e (length s.wants) ready.wants)) one-more

  pub positions-are-kept : PositionsAreKept passes names
  positions-are-kept =
      record {
        expr = λ x. given (read_expr x) (λ ws b. expr-one ws b x);
        postfix = λ x. given (read_postfix x) (λ ws b. postfix-one ws b x);
        primary = λ x. given (read_primary x) (λ ws b. primary-one ws b x);
        call = λ x. given (read_call x) (λ ws b. (call-one ws b x).0);
        rhs = λ x. given (read_rhs x) (λ ws b. rhs-one ws b x);
      }

pub effects-are-kept : (passes : List AtomDef → Asked → TypeLimit → Type 0) → EffectsAreKept passes
effects-are-kept passes names s need = effect-is-kept s passes names need
