-- What a walk over lists has met so far, where the needs of a member depend on its place.
use Rattle.std.proofs.Common.{ℕ, suc, ◌<◌, ◌≤◌, ◌+◌, List, ◌∷◌, ◌++◌, arith, drop, length, get_or, map, ◌≡◌, refl, sym, subst, ap, ◌∙◌}
use Rattle.std.proofs.lemmas.List.{drop_all, drop_more}
use Rattle.bal_tree.specs.declared.stmt.Stmt.{Stmt}
use Rattle.bal_tree.proofs.StmtLayers.{stmt_layers}
use Rattle.checks.specs.Checks.{Check}
use Rattle.tree_places.specs.Assigned.{assigned_in_stmts}
use Rattle.typed_tree.specs.Listed.{Listed, nothing, ◌&◌, members}
use Rattle.needs.specs.Needs.{Going, Runs}
use Rattle.needs.proofs.Running.{runs-both, runs-nothing, running}
use Rattle.expr_needs.specs.Needs.{Need}
use Rattle.stmt_needs.specs.PackageTable.{numbered, numbered_from}
use Rattle.stmt_needs.specs.StmtTable.{Within, read_stmt, stmts_needs, stmts_needs_from}
use Rattle.stmt_needs.proofs.SameWords.{stmts-assigned}

-- where the statement stands that these follow
abbrev pub before_these : Within → List Stmt → Within
before_these w ss = record { loop = w.loop; behind = members (assigned_in_stmts ss) ++ w.behind }

module _ {S : Type 0} (meets : Need → Check S (Unit {0})) where
  -- ---- statements, each of which is followed by those behind it

  -- of the statements the first i are met
  pub record FirstAreMet (w : Within) (ss : List Stmt) (i : ℕ) (old now : Going S) : Type 0 where
    pub before : Listed Need
    pub same : stmts_needs w (map read_stmt ss) ≡ stmts_needs_from before w (map read_stmt (drop i ss))
    pub met : Runs meets before old now

  pub none-met : (w : Within) (ss : List Stmt) (s : Going S) → FirstAreMet w ss 0 s s
  none-met w ss s = record { before = nothing; same = refl; met = runs-nothing meets s }

  pub next-met : (w : Within) (ss : List Stmt) (i : ℕ) (x : Stmt) (old mid new : Going S) → i < length ss → x ≡ get_or ss i x
      → FirstAreMet w ss i old mid → Runs meets ((read_stmt x).needs (before_these w (drop (i + 1) ss))) mid new
      → FirstAreMet w ss (i + 1) old new
  next-met w ss i x old mid new lt e h k =
      record {
        before = h.before & (read_stmt x).needs (before_these w (drop (i + 1) ss));
        same = h.same ∙ ap (λ l. stmts_needs_from h.before w (map read_stmt l)) (drop_more ss i x lt ∙ ap (λ y. y ∷ drop (i + 1) ss) (sym e))
            ∙ ap (λ words. stmts_needs_from (h.before & (read_stmt x).needs (record { loop = w.loop; behind = members words ++ w.behind })) w (map read_stmt (drop (i + 1) ss)))
            (stmts-assigned (drop (i + 1) ss));
        met = runs-both meets _ _ old mid new h.met k;
      }

  pub all-met : (w : Within) (ss : List Stmt) (i : ℕ) (old new : Going S) → length ss ≤ i → FirstAreMet w ss i old new
      → Runs meets (stmts_needs w (map read_stmt ss)) old new
  all-met w ss i old new le h =
      subst (λ l. Runs meets l old new) (sym (h.same ∙ ap (λ l. stmts_needs_from h.before w (map read_stmt l)) (drop_all i ss le))) h.met

  -- ---- members by their numbers, from the first one on

  pub record FirstNumbered {X : Type 0} (f : ℕ → X → Listed Need) (first : ℕ) (xs : List X) (i : ℕ) (old now : Going S) : Type 0 where
    pub before : Listed Need
    pub same : numbered f first xs ≡ numbered_from before f (i + first) (drop i xs)
    pub met : Runs meets before old now

  pub none-numbered : {X : Type 0} (f : ℕ → X → Listed Need) (first : ℕ) (xs : List X) (s : Going S) → FirstNumbered f first xs 0 s s
  none-numbered f first xs s =
      record { before = nothing; same = ap (λ n. numbered_from nothing f n xs) (omega arith); met = runs-nothing meets s }

  pub next-numbered : {X : Type 0} (f : ℕ → X → Listed Need) (first : ℕ) (xs : List X) (i n : ℕ) (x : X) (old mid new : Going S)
      → i < length xs → x ≡ get_or xs i x → n ≡ i + first → FirstNumbered f first xs i old mid → Runs meets (f n x) mid new
      → FirstNumbered f first xs (i + 1) old new
  next-numbered f first xs i n x old mid new lt e is h k =
      record {
        before = h.before & f n x;
        same = h.same ∙ ap (λ l. numbered_from h.before f (i + first) l) (drop_more xs i x lt ∙ ap (λ y. y ∷ drop (i + 1) xs) (sym e))
            ∙ ap (λ m. numbered_from (h.before & f m x) f (suc m) (drop (i + 1) xs)) (sym is)
            ∙ ap (λ m. numbered_from (h.before & f n x) f m (drop (i + 1) xs)) (omega (arith, is));
        met = runs-both meets _ _ old mid new h.met k;
      }

  pub all-numbered : {X : Type 0} (f : ℕ → X → Listed Need) (first : ℕ) (xs : List X) (i : ℕ) (old new : Going S) → length xs ≤ i
      → FirstNumbered f first xs i old new → Runs meets (numbered f first xs) old new
  all-numbered f first xs i old new le h =
      subst (λ l. Runs meets l old new) (sym (h.same ∙ ap (λ l. numbered_from h.before f (i + first) l) (drop_all i xs le))) h.met

pub ruleset walking = (running, stmt_layers)
