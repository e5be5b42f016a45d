-- A text has one chosen tree.
use Rattle.std.proofs.Common.{◌≡◌, ℕ, Bool, true, false, ◌&&◌, List, [], ◌∷◌, ◌++◌, map, Option, None, Some, refl, sym, ap, ◌∙◌, subst, eq-eqb}
use Rattle.std.specs.Global.{Box}
use Rattle.std.specs.List.{list_all}
use Rattle.std.specs.Prelude.{◌==◌}
use Rattle.std.proofs.lemmas.Bool.{false≢true}
use Rattle.bal_base.specs.declared.token.Token.{Token}
use Rattle.bal_base.specs.declared.token.TokenKind.TheVariants.{Word as WordKind, Keyword as KeywordKind, Sign as SignKind}
use Rattle.bal_base.specs.declared.token.Keyword.{Keyword}
use Rattle.bal_base.specs.declared.token.Keyword.TheVariants.{Public as PublicKey, «Type» as TypeKey, Const as ConstKey, Final as FinalKey, Isolated as IsolatedKey, Function as FunctionKey}
use Rattle.bal_base.specs.declared.token.Sign.TheVariants.{Semicolon, Equal, OpenParen}
use Rattle.bal_tree.specs.declared.def.ConstDef.{ConstDef}
use Rattle.bal_tree.specs.declared.def.Def.{Def}
use Rattle.bal_tree.specs.declared.def.Def.TheVariants.{«Type» as TypeOf, Const, Variable, Function}
use Rattle.bal_tree.specs.declared.def.FileTree.{FileTree}
use Rattle.bal_tree.specs.declared.def.FunctionDef.{FunctionDef}
use Rattle.bal_tree.specs.declared.def.Import.{Import}
use Rattle.bal_tree.specs.declared.def.TypeDef.{TypeDef}
use Rattle.bal_tree.specs.declared.def.VariableDef.{VariableDef}
use Rattle.bal_tree.specs.declared.name.Word.{Word}
use Rattle.bal_tree.specs.declared.types.TypeTree.{TypeTree}
use Rattle.bal_tree.specs.DefPieces.{body_pieces, def_pieces, file_pieces, import_pieces}
use Rattle.bal_tree.specs.DefRules.{body_is_formed, def_is_formed, function_is_formed, type_is_formed_if}
use Rattle.bal_tree.specs.ExprPieces.{expr_pieces}
use Rattle.bal_tree.specs.ExprRules.{expr_is_formed}
use Rattle.bal_tree.specs.NamePieces.{const_pieces}
use Rattle.bal_tree.specs.Pieces.{Pieces, if_boxed, joined, key_if, kinds}
use Rattle.bal_tree.specs.Reads.{Reads}
use Rattle.bal_tree.specs.Spells.{onto}
use Rattle.bal_tree.specs.TypePieces.{params_pieces, returning, type_pieces}
use Rattle.bal_tree.specs.TypeRules.{params_are_formed, type_is_formed}
use Rattle.bal_tree.proofs.Spelling.{onto-kinds, spells-onto}
use Rattle.token_steps.specs.Tokens.{Kinds, take_key}
use Rattle.parse_types.proofs.Law.{both_pass}
use Rattle.parse_types.proofs.PrimaryLaw.{word-closes}
use Rattle.parse_stmt.specs.Chosen.{AreChosen, IsChosen, IsSameFile, led_in_def, together}
use Rattle.parse_stmt.specs.Reaches.{begins_function, const_type}
use Rattle.parse_stmt.specs.Starts.{const_def_behind, function_def_behind, type_def_behind, variable_def_behind}
use Rattle.parse_stmt.proofs.Alike.{Alike, Same, behind_first, first-token, placed, same-kinds}
use Rattle.parse_stmt.proofs.DefLaw.{body-behind, const-type-law, no-function, no-key, semicolon-closes}
use Rattle.parse_stmt.proofs.DefTree.{body-same, import-same, result-same}
use Rattle.parse_stmt.proofs.ParamsTree.{params-same}
use Rattle.parse_stmt.proofs.FileLaw.{NoImport, no-def-at-end, no-import-at-end, no-import-behind}
use Rattle.parse_stmt.proofs.Known.{Known, leads}
use Rattle.parse_stmt.proofs.OneBelow.{OneBelow}
use Rattle.parse_stmt.proofs.PartTree.{const-same, expr-same, type-same}
use Rattle.parse_stmt.proofs.StmtTree.{chosen-back, chosen-front}

-- ---- a word that may stand in front

module _ (k : Keyword) (takes : (zs : Kinds) → take_key k (KeywordKind k ∷ zs) ≡ Some zs) where
  clash : (xs ys : Kinds) → take_key k ys ≡ None → KeywordKind k ∷ xs ≡ ys → ⊥
  clash xs ys none e = let bad : Some xs ≡ None = sym (takes xs) ∙ ap (take_key k) e ∙ none in cc bad

  flag-same : (p q : Bool) (xs ys : Kinds) → take_key k xs ≡ None → take_key k ys ≡ None → onto (key_if p k) xs ≡ onto (key_if q k) ys → Same (key_if p k) (key_if q k) xs ys
  flag-same true true xs ys h j e = (refl, ap behind_first e)
  flag-same false false xs ys h j e = (tt, e)
  flag-same true false xs ys h j e = absurd (clash xs ys j e)
  flag-same false true xs ys h j e = absurd (clash ys xs h (sym e))

-- ---- which definition begins behind `public`

data DefForm : Type 0 where
  type_form : DefForm
  const_form : DefForm
  variable_form : DefForm
  function_form : DefForm

abbrev code : DefForm → ℕ
code type_form = 0
code const_form = 1
code variable_form = 2
code function_form = 3

one-code : (a b : DefForm) → a ≡ b → (code a == code b) ≡ true
one-code a b e = subst (λ c. (code a == code c) ≡ true) e (eq-eqb (code a) (code a) refl)

abbrev function_or_not : Bool → DefForm
function_or_not true = function_form
function_or_not false = variable_form

abbrev form_of : Kinds → DefForm
form_of (KeywordKind TypeKey ∷ ks) = type_form
form_of (KeywordKind ConstKey ∷ ks) = const_form
form_of ks = function_or_not (begins_function ks)

abbrev form : Def → DefForm
form (TypeOf d) = type_form
form (Const d) = const_form
form (Variable d) = variable_form
form (Function d) = function_form

abbrev is_public : Def → Bool
is_public (TypeOf d) = d.public
is_public (Const d) = d.public
is_public (Variable d) = d.public
is_public (Function d) = d.public

abbrev behind_public : Def → Pieces
behind_public (TypeOf d) = type_def_behind d
behind_public (Const d) = const_def_behind d
behind_public (Variable d) = variable_def_behind d
behind_public (Function d) = function_def_behind d

led-form : (xs : Kinds) → leads xs ≡ true → form_of xs ≡ function_or_not (begins_function xs)
led-form [] h = refl
led-form (KeywordKind TypeKey ∷ xs) h = cc h
led-form (KeywordKind ConstKey ∷ xs) h = cc h
led-form (KeywordKind k ∷ xs) h = refl
led-form (k ∷ xs) h = refl

module _ (known : Known) (one : OneBelow) where
  no-empty-type : (t : TypeTree) → kinds (type_pieces t) ≡ [] → ⊥
  no-empty-type t e =
      false≢true (sym (ap leads (onto-kinds (type_pieces t) [] ∙ ap (λ xs. xs ++ []) e)) ∙ known.type_leads t [])

  variable-form : (final : Bool) (d : VariableDef) (ks : Kinds) → type_is_formed d.ty.value false ≡ true → (form_of (onto (key_if final FinalKey) (onto (type_pieces d.ty.value) (WordKind d.name.name ∷ SignKind Equal ∷ ks))) ≡ variable_form) × (take_key PublicKey (onto (key_if final FinalKey) (onto (type_pieces d.ty.value) (WordKind d.name.name ∷ SignKind Equal ∷ ks))) ≡ None)
  variable-form true d ks f = (refl, refl)
  variable-form false d ks f =
      let zs = WordKind d.name.name ∷ SignKind Equal ∷ ks in
      let xs = onto (type_pieces d.ty.value) zs in
      let first = known.type_leads d.ty.value zs in
      (led-form xs first ∙ ap function_or_not (no-function known xs d.name.name ks (known.type_before d.ty.value zs f (word-closes d.name.name (SignKind Equal ∷ ks)))), (no-key xs first).0)

  function-form : (isolated : Bool) (w : Word) (zs : Kinds) → (form_of (onto (key_if isolated IsolatedKey) (KeywordKind FunctionKey ∷ WordKind w.name ∷ SignKind OpenParen ∷ zs)) ≡ function_form) × (take_key PublicKey (onto (key_if isolated IsolatedKey) (KeywordKind FunctionKey ∷ WordKind w.name ∷ SignKind OpenParen ∷ zs)) ≡ None)
  function-form true w zs = (refl, refl)
  function-form false w zs = (refl, refl)

  -- its first tokens tell its form, and are not `public`
  def-form : (d : Def) (ks : Kinds) → def_is_formed d ≡ true → (form_of (onto (behind_public d) ks) ≡ form d) × (take_key PublicKey (onto (behind_public d) ks) ≡ None)
  def-form (TypeOf d) ks f = (refl, refl)
  def-form (Const d) ks f = (refl, refl)
  def-form (Variable d) ks f = variable-form d.is_final d (onto (expr_pieces d.value.value) (SignKind Semicolon ∷ ks)) (both_pass (type_is_formed d.ty.value false) (expr_is_formed d.value.value false) f).0
  def-form (Function d) ks f = function-form d.isolated d.name _

  -- ---- each form

  type-def-same : (d b : TypeDef) (ks ls : Kinds) → type_is_formed d.ty.value false ≡ true → type_is_formed b.ty.value false ≡ true → onto (type_def_behind d) ks ≡ onto (type_def_behind b) ls → Same (type_def_behind d) (type_def_behind b) ks ls
  type-def-same d b ks ls f g e =
      let s = type-same known one d.ty.value b.ty.value (SignKind Semicolon ∷ ks) (SignKind Semicolon ∷ ls) f g (semicolon-closes ks) (semicolon-closes ls) (ap behind_first (ap behind_first e)) in
      let behind : SignKind Semicolon ∷ ks ≡ SignKind Semicolon ∷ ls = s.1 in
      ((refl, ((tt, first-token (WordKind d.name.name) (WordKind b.name.name) _ _ (ap behind_first e)), (s.0, refl))), cc behind)

  const-types : (t u : Option (Box TypeTree)) → type_is_formed_if t ≡ true → type_is_formed_if u ≡ true → kinds (if_boxed type_pieces t) ≡ kinds (if_boxed type_pieces u) → Alike (if_boxed type_pieces t) (if_boxed type_pieces u)
  const-types None None f g e = tt
  const-types None (Some u) f g e = absurd (no-empty-type u.value (sym e))
  const-types (Some t) None f g e = absurd (no-empty-type t.value e)
  const-types (Some t) (Some u) f g e = one.types t.value u.value f g e

  const-def-same : (d b : ConstDef) (ks ls : Kinds) → type_is_formed_if d.ty ≡ true → type_is_formed_if b.ty ≡ true → onto (const_def_behind d) ks ≡ onto (const_def_behind b) ls → Same (const_def_behind d) (const_def_behind b) ks ls
  const-def-same d b ks ls f g e =
      let xs = onto (const_pieces d.value) (SignKind Semicolon ∷ ks) in
      let ys = onto (const_pieces b.value) (SignKind Semicolon ∷ ls) in
      let both : Some (WordKind d.name.name ∷ SignKind Equal ∷ xs) ≡ Some (WordKind b.name.name ∷ SignKind Equal ∷ ys) =
      sym (const-type-law known d.ty d.name xs f) ∙ ap const_type (ap behind_first e) ∙ const-type-law known b.ty b.name ys g in
      let behind : WordKind d.name.name ∷ SignKind Equal ∷ xs ≡ WordKind b.name.name ∷ SignKind Equal ∷ ys = cc both in
      let v = const-same d.value b.value (SignKind Semicolon ∷ ks) (SignKind Semicolon ∷ ls) (ap behind_first (ap behind_first behind)) in
      let rest : SignKind Semicolon ∷ ks ≡ SignKind Semicolon ∷ ls = v.1 in
      let t = const-types d.ty b.ty f g (same-kinds (if_boxed type_pieces d.ty) (if_boxed type_pieces b.ty) (WordKind d.name.name ∷ SignKind Equal ∷ xs) (WordKind b.name.name ∷ SignKind Equal ∷ ys) behind (ap behind_first e)) in
      ((refl, (t, ((tt, first-token (WordKind d.name.name) (WordKind b.name.name) _ _ behind), (refl, (v.0, refl))))), cc rest)

  variable-def-same : (d b : VariableDef) (ks ls : Kinds) → (type_is_formed d.ty.value false && expr_is_formed d.value.value false) ≡ true → (type_is_formed b.ty.value false && expr_is_formed b.value.value false) ≡ true → onto (variable_def_behind d) ks ≡ onto (variable_def_behind b) ls → Same (variable_def_behind d) (variable_def_behind b) ks ls
  variable-def-same d b ks ls f g e =
      let a = both_pass (type_is_formed d.ty.value false) (expr_is_formed d.value.value false) f in
      let c = both_pass (type_is_formed b.ty.value false) (expr_is_formed b.value.value false) g in
      let xs = WordKind d.name.name ∷ SignKind Equal ∷ onto (expr_pieces d.value.value) (SignKind Semicolon ∷ ks) in
      let ys = WordKind b.name.name ∷ SignKind Equal ∷ onto (expr_pieces b.value.value) (SignKind Semicolon ∷ ls) in
      let i = flag-same FinalKey (λ zs. refl) d.is_final b.is_final (onto (type_pieces d.ty.value) xs) (onto (type_pieces b.ty.value) ys)
      (no-key (onto (type_pieces d.ty.value) xs) (known.type_leads d.ty.value xs)).1 (no-key (onto (type_pieces b.ty.value) ys) (known.type_leads b.ty.value ys)).1 e in
      let t = type-same known one d.ty.value b.ty.value xs ys a.0 c.0 (word-closes d.name.name (SignKind Equal ∷ onto (expr_pieces d.value.value) (SignKind Semicolon ∷ ks))) (word-closes b.name.name (SignKind Equal ∷ onto (expr_pieces b.value.value) (SignKind Semicolon ∷ ls))) i.1 in
      let behind : xs ≡ ys = t.1 in
      let v = expr-same known one d.value.value b.value.value Semicolon Semicolon ks ls a.1 c.1 refl refl (ap behind_first (ap behind_first behind)) in
      let rest : SignKind Semicolon ∷ ks ≡ SignKind Semicolon ∷ ls = v.1 in
      ((i.0, (t.0, ((tt, first-token (WordKind d.name.name) (WordKind b.name.name) _ _ behind), (refl, (v.0, refl))))), cc rest)

  function-def-same : (d b : FunctionDef) (ks ls : Kinds) → function_is_formed d ≡ true → function_is_formed b ≡ true → AreChosen (led_in_def (Function d)) → AreChosen (led_in_def (Function b)) → onto (function_def_behind d) ks ≡ onto (function_def_behind b) ls → Same (function_def_behind d) (function_def_behind b) ks ls
  function-def-same d b ks ls f g c h e =
      let a = both_pass (params_are_formed d.params && type_is_formed_if d.result) (body_is_formed d.body) f in
      let a2 = both_pass (params_are_formed d.params) (type_is_formed_if d.result) a.0 in
      let j = both_pass (params_are_formed b.params && type_is_formed_if b.result) (body_is_formed b.body) g in
      let j2 = both_pass (params_are_formed b.params) (type_is_formed_if b.result) j.0 in
      let xs = onto (if_boxed (λ t. returning (type_pieces t)) d.result) (onto (body_pieces d.body) ks) in
      let ys = onto (if_boxed (λ t. returning (type_pieces t)) b.result) (onto (body_pieces b.body) ls) in
      let i = flag-same IsolatedKey (λ zs. refl) d.isolated b.isolated (KeywordKind FunctionKey ∷ WordKind d.name.name ∷ onto (params_pieces d.params) xs) (KeywordKind FunctionKey ∷ WordKind b.name.name ∷ onto (params_pieces b.params) ys) refl refl e in
      let p = params-same d.params b.params xs ys a2.0 j2.0 (ap behind_first (ap behind_first i.1)) in
      let r = result-same known one d.result b.result (onto (body_pieces d.body) ks) (onto (body_pieces b.body) ls) a2.1 j2.1 (body-behind d.body ks) (body-behind b.body ls) p.1 in
      let s = body-same known one d.body b.body ks ls a.1 j.1 c h r.1 in
      ((i.0, (refl, ((tt, first-token (WordKind d.name.name) (WordKind b.name.name) _ _ (ap behind_first i.1)), (p.0, (r.0, s.0))))), s.1)

  same-form : (d b : Def) → form d ≡ form b → (ks ls : Kinds) → def_is_formed d ≡ true → def_is_formed b ≡ true → AreChosen (led_in_def d) → AreChosen (led_in_def b) → onto (behind_public d) ks ≡ onto (behind_public b) ls → Same (behind_public d) (behind_public b) ks ls
  same-form (TypeOf d) (TypeOf b) same ks ls f g c h e = type-def-same d b ks ls f g e
  same-form (Const d) (Const b) same ks ls f g c h e = const-def-same d b ks ls f g e
  same-form (Variable d) (Variable b) same ks ls f g c h e = variable-def-same d b ks ls f g e
  same-form (Function d) (Function b) same ks ls f g c h e = function-def-same d b ks ls f g c h e
  same-form d b same ks ls f g c h e = absurd (false≢true (one-code (form d) (form b) same))

  whole-def : (d b : Def) (ks ls : Kinds) → Same (key_if (is_public d) PublicKey) (key_if (is_public b) PublicKey) (onto (behind_public d) ks) (onto (behind_public b) ls) → Same (behind_public d) (behind_public b) ks ls → Same (def_pieces d) (def_pieces b) ks ls
  whole-def (TypeOf d) (TypeOf b) ks ls p s = ((tt, (p.0, s.0)), s.1)
  whole-def (TypeOf d) (Const b) ks ls p s = ((tt, (p.0, s.0)), s.1)
  whole-def (TypeOf d) (Variable b) ks ls p s = ((tt, (p.0, s.0)), s.1)
  whole-def (TypeOf d) (Function b) ks ls p s = ((tt, (p.0, s.0)), s.1)
  whole-def (Const d) (TypeOf b) ks ls p s = ((tt, (p.0, s.0)), s.1)
  whole-def (Const d) (Const b) ks ls p s = ((tt, (p.0, s.0)), s.1)
  whole-def (Const d) (Variable b) ks ls p s = ((tt, (p.0, s.0)), s.1)
  whole-def (Const d) (Function b) ks ls p s = ((tt, (p.0, s.0)), s.1)
  whole-def (Variable d) (TypeOf b) ks ls p s = ((tt, (p.0, s.0)), s.1)
  whole-def (Variable d) (Const b) ks ls p s = ((tt, (p.0, s.0)), s.1)
  whole-def (Variable d) (Variable b) ks ls p s = ((tt, (p.0, s.0)), s.1)
  whole-def (Variable d) (Function b) ks ls p s = ((tt, (p.0, s.0)), s.1)
  whole-def (Function d) (TypeOf b) ks ls p s = ((tt, (p.0, s.0)), s.1)
  whole-def (Function d) (Const b) ks ls p s = ((tt, (p.0, s.0)), s.1)
  whole-def (Function d) (Variable b) ks ls p s = ((tt, (p.0, s.0)), s.1)
  whole-def (Function d) (Function b) ks ls p s = ((tt, (p.0, s.0)), s.1)

  written : (d : Def) (ks : Kinds) → onto (def_pieces d) ks ≡ onto (key_if (is_public d) PublicKey) (onto (behind_public d) ks)
  written (TypeOf d) ks = refl
  written (Const d) ks = refl
  written (Variable d) ks = refl
  written (Function d) ks = refl

  def-same : (d b : Def) (ks ls : Kinds) → def_is_formed d ≡ true → def_is_formed b ≡ true → AreChosen (led_in_def d) → AreChosen (led_in_def b) → onto (def_pieces d) ks ≡ onto (def_pieces b) ls → Same (def_pieces d) (def_pieces b) ks ls
  def-same d b ks ls f g c h e =
      let a = def-form d ks f in
      let j = def-form b ls g in
      let p = flag-same PublicKey (λ zs. refl) (is_public d) (is_public b) (onto (behind_public d) ks) (onto (behind_public b) ls) a.1 j.1 (sym (written d ks) ∙ e ∙ written b ls) in
      whole-def d b ks ls p (same-form d b (sym a.0 ∙ ap form_of p.1 ∙ j.0) ks ls f g c h p.1)

  -- ---- files

  defs-same : (ds es : List Def) → list_all def_is_formed ds ≡ true → list_all def_is_formed es ≡ true → AreChosen (together (map led_in_def ds)) → AreChosen (together (map led_in_def es)) → onto (joined (map def_pieces ds)) [] ≡ onto (joined (map def_pieces es)) [] → Alike (joined (map def_pieces ds)) (joined (map def_pieces es))
  defs-same [] [] f g c h e = tt
  defs-same [] (b ∷ es) f g c h e = absurd (no-def-at-end known b (onto (joined (map def_pieces es)) []) (both_pass (def_is_formed b) (list_all def_is_formed es) g).0 e)
  defs-same (d ∷ ds) [] f g c h e = absurd (no-def-at-end known d (onto (joined (map def_pieces ds)) []) (both_pass (def_is_formed d) (list_all def_is_formed ds) f).0 (sym e))
  defs-same (d ∷ ds) (b ∷ es) f g c h e =
      let a = both_pass (def_is_formed d) (list_all def_is_formed ds) f in
      let j = both_pass (def_is_formed b) (list_all def_is_formed es) g in
      let s = def-same d b (onto (joined (map def_pieces ds)) []) (onto (joined (map def_pieces es)) []) a.0 j.0 (chosen-front (led_in_def d) (together (map led_in_def ds)) c) (chosen-front (led_in_def b) (together (map led_in_def es)) h) e in
      (s.0, defs-same ds es a.1 j.1 (chosen-back (led_in_def d) (together (map led_in_def ds)) c) (chosen-back (led_in_def b) (together (map led_in_def es)) h) s.1)

  imports-same : (is js : List Import) (ks ls : Kinds) → NoImport ks → NoImport ls → onto (joined (map import_pieces is)) ks ≡ onto (joined (map import_pieces js)) ls → Same (joined (map import_pieces is)) (joined (map import_pieces js)) ks ls
  imports-same [] [] ks ls h k e = (tt, e)
  imports-same [] (j ∷ js) ks ls h k e = absurd (h j (onto (joined (map import_pieces js)) ls) e)
  imports-same (i ∷ is) [] ks ls h k e = absurd (k i (onto (joined (map import_pieces is)) ks) (sym e))
  imports-same (i ∷ is) (j ∷ js) ks ls h k e =
      let s = import-same i j (onto (joined (map import_pieces is)) ks) (onto (joined (map import_pieces js)) ls) e in
      let more = imports-same is js ks ls h k s.1 in
      ((s.0, more.0), more.1)

  pub one-tree : (file : ℕ) (tokens : List Token) (t u : FileTree) → Reads file tokens t → Reads file tokens u → IsChosen t → IsChosen u → IsSameFile t u
  one-tree file tokens t u (formed, spells) (formed-too, spells-too) c h =
      let whole = sym (spells-onto file (file_pieces t) tokens [] spells) ∙ spells-onto file (file_pieces u) tokens [] spells-too in
      let i = imports-same t.imports.items u.imports.items (onto (joined (map def_pieces t.defs.items)) []) (onto (joined (map def_pieces u.defs.items)) [])
      (no-import-behind known t.defs.items [] (λ none. no-import-at-end)) (no-import-behind known u.defs.items [] (λ none. no-import-at-end)) whole in
      let d = defs-same t.defs.items u.defs.items formed formed-too c h i.1 in
      (placed file (file_pieces t) (file_pieces u) tokens [] [] spells spells-too (tt, (i.0, d))).0
