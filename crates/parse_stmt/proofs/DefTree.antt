-- Two chosen definitions of the same tokens are alike.
use Rattle.std.proofs.Common.{◌≡◌, true, ◌&&◌, List, [], ◌∷◌, ◌++◌, map, length, Option, None, Some, refl, sym, ap, ◌∙◌, subst, arith}
use Rattle.std.specs.Global.{Box}
use Rattle.std.specs.List.{list_all}
use Rattle.std.specs.Prelude.{not, ◌||◌}
use Rattle.std.proofs.lemmas.Bool.{false≢true}
use Rattle.bal_base.specs.declared.token.TokenKind.TheVariants.{Word as WordKind, Keyword as KeywordKind, Sign as SignKind}
use Rattle.bal_base.specs.declared.token.Keyword.TheVariants.{As, Worker as WorkerKey, Returns}
use Rattle.bal_base.specs.declared.token.Sign.TheVariants.{Semicolon, CloseBrace, Slash, Dot}
use Rattle.bal_tree.specs.declared.def.Body.{Body}
use Rattle.bal_tree.specs.declared.def.Body.TheVariants.{Block as BlockBody, Expr as ExprBody}
use Rattle.bal_tree.specs.declared.def.Import.{Import}
use Rattle.bal_tree.specs.declared.def.Worker.{Worker}
use Rattle.bal_tree.specs.declared.name.Word.{Word}
use Rattle.bal_tree.specs.declared.stmt.Stmt.{Stmt}
use Rattle.bal_tree.specs.declared.types.TypeTree.{TypeTree}
use Rattle.bal_tree.specs.ActionRules.{has_members}
use Rattle.bal_tree.specs.DefPieces.{body_pieces, import_pieces, word_after, word_behind, worker_pieces}
use Rattle.bal_tree.specs.DefRules.{body_is_formed, type_is_formed_if, worker_is_formed}
use Rattle.bal_tree.specs.NamePieces.{word_pieces}
use Rattle.bal_tree.specs.Pieces.{Pieces, ◌&◌, behind, if_boxed, if_there, joined, sign}
use Rattle.bal_tree.specs.Spells.{onto}
use Rattle.bal_tree.specs.StmtPieces.{block_pieces, stmt_pieces}
use Rattle.bal_tree.specs.StmtRules.{block_is_formed, stmt_is_formed, are_formed}
use Rattle.bal_tree.specs.TypePieces.{returning, type_pieces}
use Rattle.token_steps.specs.Tokens.{Kinds, take_key}
use Rattle.parse_types.proofs.Law.{both_pass}
use Rattle.parse_stmt.specs.Chosen.{AreChosen, led_in_body, led_in_stmts, led_in_worker, together}
use Rattle.parse_stmt.specs.Starts.{ends_stmts}
use Rattle.parse_stmt.proofs.Alike.{Same, behind_first, first-token}
use Rattle.parse_stmt.proofs.ChosenLaw.{all-claims, block-one, stmts-same}
use Rattle.parse_stmt.proofs.DefLaw.{Behind as BehindResult, brace-behind, rest-no-worker}
use Rattle.parse_stmt.proofs.Known.{Known}
use Rattle.parse_stmt.proofs.OneBelow.{OneBelow}
use Rattle.parse_stmt.proofs.PartTree.{expr-same, type-same}
use Rattle.parse_stmt.proofs.StmtLaw.{block-law}
use Rattle.parse_stmt.proofs.StmtReadings.{some-members}
use Rattle.parse_stmt.proofs.StmtTree.{chosen-back, chosen-front}

-- ---- imports

-- behind the first words of an import
abbrev dotted : List Word → Option Word → Pieces
dotted more prefix = behind Dot (map word_pieces more) & if_there (word_after As) prefix & sign Semicolon

dotted-same : (ms ns : List Word) (p q : Option Word) (ks ls : Kinds) → onto (dotted ms p) ks ≡ onto (dotted ns q) ls → Same (dotted ms p) (dotted ns q) ks ls
dotted-same [] [] None None ks ls e = ((tt, (tt, refl)), cc e)
dotted-same [] [] None (Some w) ks ls e = cc e
dotted-same [] [] (Some w) None ks ls e = cc e
dotted-same [] [] (Some w) (Some v) ks ls e = ((tt, ((refl, (tt, cc e)), refl)), cc e)
dotted-same [] (n ∷ ns) None q ks ls e = cc e
dotted-same [] (n ∷ ns) (Some w) q ks ls e = cc e
dotted-same (m ∷ ms) [] p None ks ls e = cc e
dotted-same (m ∷ ms) [] p (Some w) ks ls e = cc e
dotted-same (m ∷ ms) (n ∷ ns) p q ks ls e =
    let s = dotted-same ms ns p q ks ls (ap behind_first (ap behind_first e)) in
    (((refl, ((tt, first-token (WordKind m.name) (WordKind n.name) _ _ (ap behind_first e)), s.0.0)), s.0.1), s.1)

no-second : (w : Word) (ms : List Word) (p : Option Word) (ks xs : Kinds) → onto (dotted ms p) ks ≡ SignKind Slash ∷ xs → ⊥
no-second w [] None ks xs e = cc e
no-second w [] (Some v) ks xs e = cc e
no-second w (m ∷ ms) p ks xs e = cc e

abbrev second_and : Option Word → List Word → Option Word → Pieces
second_and second more prefix = if_there (word_behind Slash) second & dotted more prefix

second-same : (s t : Option Word) (ms ns : List Word) (p q : Option Word) (ks ls : Kinds) → onto (second_and s ms p) ks ≡ onto (second_and t ns q) ls → Same (second_and s ms p) (second_and t ns q) ks ls
second-same None None ms ns p q ks ls e = let d = dotted-same ms ns p q ks ls e in ((tt, d.0), d.1)
second-same None (Some w) ms ns p q ks ls e = absurd (no-second w ms p ks _ e)
second-same (Some w) None ms ns p q ks ls e = absurd (no-second w ns q ls _ (sym e))
second-same (Some w) (Some v) ms ns p q ks ls e =
    let d = dotted-same ms ns p q ks ls (ap behind_first (ap behind_first e)) in
    (((refl, (tt, first-token (WordKind w.name) (WordKind v.name) _ _ (ap behind_first e))), d.0), d.1)

pub import-same : (i j : Import) (ks ls : Kinds) → onto (import_pieces i) ks ≡ onto (import_pieces j) ls → Same (import_pieces i) (import_pieces j) ks ls
import-same i j ks ls e =
    let s = second-same i.second j.second i.more.items j.more.items i.prefix j.prefix ks ls (ap behind_first (ap behind_first e)) in
    ((tt, (refl, ((tt, first-token (WordKind i.first.name) (WordKind j.first.name) _ _ (ap behind_first e)), s.0))), s.1)

module _ (known : Known) (one : OneBelow) where
  -- ---- results

  abbrev result_pieces : Option (Box TypeTree) → Pieces
  result_pieces r = if_boxed (λ t. returning (type_pieces t)) r

  no-result : (xs ks : Kinds) → BehindResult ks → ks ≡ KeywordKind Returns ∷ xs → ⊥
  no-result xs ks b e = let bad : None ≡ Some xs = sym b.no_returns ∙ ap (take_key Returns) e in cc bad

  pub result-same : (r q : Option (Box TypeTree)) (ks ls : Kinds) → type_is_formed_if r ≡ true → type_is_formed_if q ≡ true → BehindResult ks → BehindResult ls → onto (result_pieces r) ks ≡ onto (result_pieces q) ls → Same (result_pieces r) (result_pieces q) ks ls
  result-same None None ks ls f g h k e = (tt, e)
  result-same None (Some t) ks ls f g h k e = absurd (no-result _ ks h e)
  result-same (Some t) None ks ls f g h k e = absurd (no-result _ ls k (sym e))
  result-same (Some t) (Some u) ks ls f g h k e =
      let s = type-same known one t.value u.value ks ls f g h.closes k.closes (ap behind_first e) in ((refl, s.0), s.1)

  -- ---- workers

  block-result : (w : Worker) (ks : Kinds) → block_is_formed w.body ≡ true → BehindResult (onto (block_pieces w.body) ks)
  block-result w ks f = let o = (block-law known w.body f).opens ks in subst BehindResult (sym o.1.0) (brace-behind o.0)

  worker-same : (w v : Worker) (ks ls : Kinds) → worker_is_formed w ≡ true → worker_is_formed v ≡ true → AreChosen (led_in_worker w) → AreChosen (led_in_worker v) → onto (worker_pieces w) ks ≡ onto (worker_pieces v) ls → Same (worker_pieces w) (worker_pieces v) ks ls
  worker-same w v ks ls f g c d e =
      let a = both_pass (type_is_formed_if w.result) (block_is_formed w.body) f in
      let b = both_pass (type_is_formed_if v.result) (block_is_formed v.body) g in
      let s = result-same w.result v.result (onto (block_pieces w.body) ks) (onto (block_pieces v.body) ls) a.0 b.0 (block-result w ks a.1) (block-result v ls b.1) (ap behind_first (ap behind_first e)) in
      let t = block-one known one w.body v.body ks ls tt tt a.1 b.1 c d s.1 in
      ((tt, (refl, ((tt, first-token (WordKind w.name.name) (WordKind v.name.name) _ _ (ap behind_first e)), (s.0, t.0)))), t.1)

  no-worker-here : (xs ks : Kinds) → take_key WorkerKey ks ≡ None → ks ≡ KeywordKind WorkerKey ∷ xs → ⊥
  no-worker-here xs ks h e = let bad : None ≡ Some xs = sym h ∙ ap (take_key WorkerKey) e in cc bad

  workers-same : (ws vs : List Worker) (ks ls : Kinds) → take_key WorkerKey ks ≡ None → take_key WorkerKey ls ≡ None → list_all worker_is_formed ws ≡ true → list_all worker_is_formed vs ≡ true → AreChosen (together (map led_in_worker ws)) → AreChosen (together (map led_in_worker vs)) → onto (joined (map worker_pieces ws)) ks ≡ onto (joined (map worker_pieces vs)) ls → Same (joined (map worker_pieces ws)) (joined (map worker_pieces vs)) ks ls
  workers-same [] [] ks ls h k f g c d e = (tt, e)
  workers-same [] (v ∷ vs) ks ls h k f g c d e = absurd (no-worker-here _ ks h e)
  workers-same (w ∷ ws) [] ks ls h k f g c d e = absurd (no-worker-here _ ls k (sym e))
  workers-same (w ∷ ws) (v ∷ vs) ks ls h k f g c d e =
      let a = both_pass (worker_is_formed w) (list_all worker_is_formed ws) f in
      let b = both_pass (worker_is_formed v) (list_all worker_is_formed vs) g in
      let s = worker-same w v (onto (joined (map worker_pieces ws)) ks) (onto (joined (map worker_pieces vs)) ls) a.0 b.0 (chosen-front (led_in_worker w) (together (map led_in_worker ws)) c) (chosen-front (led_in_worker v) (together (map led_in_worker vs)) d) e in
      let more = workers-same ws vs ks ls h k a.1 b.1 (chosen-back (led_in_worker w) (together (map led_in_worker ws)) c) (chosen-back (led_in_worker v) (together (map led_in_worker vs)) d) s.1 in
      ((s.0, more.0), more.1)

  -- ---- bodies

  -- where its first statements end
  ends-there : (ws : List Worker) (ss : List Stmt) (ks : Kinds) → (has_members ws || not (has_members ss)) ≡ true → ends_stmts (onto (joined (map worker_pieces ws)) (onto (joined (map stmt_pieces ss)) (SignKind CloseBrace ∷ ks))) ≡ true
  ends-there [] [] ks h = refl
  ends-there [] (s ∷ ss) ks h = absurd (false≢true (sym (ap not (some-members (length (s ∷ ss)) (omega arith))) ∙ h))
  ends-there (w ∷ ws) ss ks h = refl

  are-formed : (ss : List Stmt) → list_all stmt_is_formed ss ≡ true → are_formed (map stmt_is_formed ss) ≡ true
  are-formed [] f = refl
  are-formed (s ∷ ss) f = let b = both_pass (stmt_is_formed s) (list_all stmt_is_formed ss) f in ap (λ c. c && are_formed (map stmt_is_formed ss)) b.0 ∙ are-formed ss b.1

  pub body-same : (b c : Body) (ks ls : Kinds) → body_is_formed b ≡ true → body_is_formed c ≡ true → AreChosen (led_in_body b) → AreChosen (led_in_body c) → onto (body_pieces b) ks ≡ onto (body_pieces c) ls → Same (body_pieces b) (body_pieces c) ks ls
  body-same (ExprBody v at) (ExprBody w other) ks ls f g c d e =
      let s = expr-same known one v.value w.value Semicolon Semicolon ks ls f g refl refl (ap behind_first e) in
      let behind : SignKind Semicolon ∷ ks ≡ SignKind Semicolon ∷ ls = s.1 in
      ((tt, (refl, (s.0, refl))), cc behind)
  body-same (ExprBody v at) (BlockBody ss ws rs close other) ks ls f g c d e = cc e
  body-same (BlockBody ss ws rs close at) (ExprBody w other) ks ls f g c d e = cc e
  body-same (BlockBody ss ws rs close at) (BlockBody us vs ts end other) ks ls f g c d e =
      let a = both_pass (list_all stmt_is_formed ss.items && list_all worker_is_formed ws.items && list_all stmt_is_formed rs.items) (has_members ws.items || not (has_members rs.items)) f in
      let b = both_pass (list_all stmt_is_formed us.items && list_all worker_is_formed vs.items && list_all stmt_is_formed ts.items) (has_members vs.items || not (has_members ts.items)) g in
      let a2 = both_pass (list_all stmt_is_formed ss.items && list_all worker_is_formed ws.items) (list_all stmt_is_formed rs.items) a.0 in
      let b2 = both_pass (list_all stmt_is_formed us.items && list_all worker_is_formed vs.items) (list_all stmt_is_formed ts.items) b.0 in
      let a3 = both_pass (list_all stmt_is_formed ss.items) (list_all worker_is_formed ws.items) a2.0 in
      let b3 = both_pass (list_all stmt_is_formed us.items) (list_all worker_is_formed vs.items) b2.0 in
      let c2 = chosen-front (led_in_stmts ss.items ++ together (map led_in_worker ws.items)) (led_in_stmts rs.items) c in
      let d2 = chosen-front (led_in_stmts us.items ++ together (map led_in_worker vs.items)) (led_in_stmts ts.items) d in
      let xs = onto (joined (map stmt_pieces rs.items)) (SignKind CloseBrace ∷ ks) in
      let ys = onto (joined (map stmt_pieces ts.items)) (SignKind CloseBrace ∷ ls) in
      let s = stmts-same known one ss.items us.items (all-claims known one ss.items) (onto (joined (map worker_pieces ws.items)) xs) (onto (joined (map worker_pieces vs.items)) ys)
      (ends-there ws.items rs.items ks a.1) (ends-there vs.items ts.items ls b.1) (are-formed ss.items a3.0) (are-formed us.items b3.0)
      (chosen-front (led_in_stmts ss.items) (together (map led_in_worker ws.items)) c2) (chosen-front (led_in_stmts us.items) (together (map led_in_worker vs.items)) d2) (ap behind_first e) in
      let w = workers-same ws.items vs.items xs ys (rest-no-worker known rs.items ks a2.1) (rest-no-worker known ts.items ls b2.1) a3.1 b3.1
      (chosen-back (led_in_stmts ss.items) (together (map led_in_worker ws.items)) c2) (chosen-back (led_in_stmts us.items) (together (map led_in_worker vs.items)) d2) s.1 in
      let r = stmts-same known one rs.items ts.items (all-claims known one rs.items) (SignKind CloseBrace ∷ ks) (SignKind CloseBrace ∷ ls) refl refl (are-formed rs.items a2.1) (are-formed ts.items b2.1)
      (chosen-back (led_in_stmts ss.items ++ together (map led_in_worker ws.items)) (led_in_stmts rs.items) c) (chosen-back (led_in_stmts us.items ++ together (map led_in_worker vs.items)) (led_in_stmts ts.items) d) w.1 in
      let behind : SignKind CloseBrace ∷ ks ≡ SignKind CloseBrace ∷ ls = r.1 in
      ((tt, (refl, (s.0, (w.0, (r.0, (tt, refl)))))), cc behind)
