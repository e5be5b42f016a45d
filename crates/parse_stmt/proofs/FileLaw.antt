-- Files: where their imports and definitions end, which their tokens alone tell.
use Rattle.std.proofs.Common.{◌≡◌, ℕ, ◌<◌, ◌≤◌, Bool, true, false, ◌&&◌, List, [], ◌∷◌, ◌++◌, map, length, drop, ◌-◌, Option, None, Some, refl, sym, ap, ◌∙◌, subst, arith}
use Rattle.std.specs.List.{list_all}
use Rattle.bal_base.specs.declared.token.TokenKind.TheVariants.{Keyword as KeywordKind, Sign as SignKind}
use Rattle.bal_base.specs.declared.token.Keyword.{Keyword}
use Rattle.bal_base.specs.declared.token.Keyword.TheVariants.{Import as ImportKey, Public as PublicKey, Final as FinalKey, Isolated as IsolatedKey, Function as FunctionKey, «Type» as TypeKey, Const as ConstKey}
use Rattle.bal_base.specs.declared.token.Token.{Token}
use Rattle.bal_tree.specs.declared.def.Import.{Import}
use Rattle.bal_tree.specs.declared.def.Def.{Def}
use Rattle.bal_tree.specs.declared.def.Def.TheVariants.{«Type» as TypeOf, Const, Variable, Function}
use Rattle.bal_tree.specs.declared.types.TypeTree.{TypeTree}
use Rattle.bal_tree.specs.DefPieces.{import_pieces, def_pieces}
use Rattle.bal_tree.specs.DefRules.{def_is_formed}
use Rattle.bal_tree.specs.Pieces.{Pieces, joined, key_if}
use Rattle.bal_tree.specs.Spells.{Spells, onto, kinds_of}
use Rattle.bal_tree.specs.TypePieces.{type_pieces}
use Rattle.bal_tree.proofs.Spelling.{spells-onto}
use Rattle.token_steps.specs.Tokens.{Kinds, take_key}
use Rattle.parse_types.proofs.Law.{both_pass}
use Rattle.parse_types.proofs.Onto.{onto-longer}
use Rattle.parse_types.proofs.Parsing.{rest-place}
use Rattle.parse_types.proofs.Readings.{length-kinds}
use Rattle.parse_stmt.specs.Reaches.{def, import}
use Rattle.parse_stmt.specs.Starts.{BreaksAt, StartsDef, StartsImport, front_pieces}
use Rattle.parse_stmt.proofs.DefLaw.{def-law, import-law}
use Rattle.parse_stmt.proofs.Known.{Known, leads}

-- two ends of the same tokens that are equally long are one
pub same-rest : (file : ℕ) (p q : Pieces) (tokens a b : List Token) → Spells file p tokens a → Spells file q tokens b → length a ≡ length b → a ≡ b
same-rest file p q tokens a b x y e = sym (rest-place file p tokens 0 a x).1 ∙ ap (λ n. drop (length tokens - n) tokens) e ∙ (rest-place file q tokens 0 b y).1

-- no definition and no import begins here
abbrev pub NoDef : Kinds → Type 0
NoDef ks = (d : Def) (behind : Kinds) → def_is_formed d ≡ true → ks ≡ onto (def_pieces d) behind → ⊥

abbrev pub NoImport : Kinds → Type 0
NoImport ks = (i : Import) (behind : Kinds) → ks ≡ onto (import_pieces i) behind → ⊥

no-import-led : (xs : Kinds) → leads xs ≡ true → take_key ImportKey xs ≡ None
no-import-led [] h = refl
no-import-led (KeywordKind ImportKey ∷ xs) h = cc h
no-import-led (KeywordKind k ∷ xs) h = refl
no-import-led (k ∷ xs) h = refl

-- the end of a file
pub no-def-at-end : (known : Known) → NoDef []
no-def-at-end known d behind f e =
    let both : None ≡ Some behind = sym (def-none) ∙ ap (def (length (onto (def_pieces d) behind))) e ∙ def-law known (length (onto (def_pieces d) behind)) d behind f (omega arith) in cc both
  where
    def-none : def (length (onto (def_pieces d) behind)) [] ≡ None
    def-none = refl

pub no-import-at-end : NoImport []
no-import-at-end i behind e = let both : None ≡ Some behind = ap import e ∙ import-law i behind in cc both

module _ (known : Known) where
  -- a definition does not begin with `import`
  key-of : (public is_final : Bool) (t : TypeTree) (zs : Kinds) → take_key ImportKey (onto (key_if public PublicKey) (onto (key_if is_final FinalKey) (onto (type_pieces t) zs))) ≡ None
  key-of true b t zs = refl
  key-of false true t zs = refl
  key-of false false t zs = no-import-led (onto (type_pieces t) zs) (known.type_leads t zs)

  fixed-key : (public : Bool) (l : Keyword) (zs : Kinds) → take_key ImportKey (KeywordKind l ∷ zs) ≡ None → take_key ImportKey (onto (key_if public PublicKey) (KeywordKind l ∷ zs)) ≡ None
  fixed-key true l zs e = refl
  fixed-key false l zs e = e

  function-key : (public isolated : Bool) (zs : Kinds) → take_key ImportKey (onto (key_if public PublicKey) (onto (key_if isolated IsolatedKey) (KeywordKind FunctionKey ∷ zs))) ≡ None
  function-key true b zs = refl
  function-key false true zs = refl
  function-key false false zs = refl

  def-key : (d : Def) (ks : Kinds) → take_key ImportKey (onto (def_pieces d) ks) ≡ None
  def-key (TypeOf d) ks = fixed-key d.public TypeKey _ refl
  def-key (Const d) ks = fixed-key d.public ConstKey _ refl
  def-key (Variable d) ks = key-of d.public d.is_final d.ty.value _
  def-key (Function d) ks = function-key d.public d.isolated _

  def-no-import : (d : Def) (ks : Kinds) → NoImport (onto (def_pieces d) ks)
  def-no-import d ks i behind e = let both : None ≡ Some _ = sym (def-key d ks) ∙ ap (take_key ImportKey) e in cc both

  -- ---- two ways to take a file apart end at one place

  same-defs : (n : ℕ) (ds es : List Def) (ra rb : Kinds) → list_all def_is_formed ds ≡ true → list_all def_is_formed es ≡ true → length (onto (joined (map def_pieces ds)) ra) ≤ n → onto (joined (map def_pieces ds)) ra ≡ onto (joined (map def_pieces es)) rb → NoDef ra → NoDef rb → ra ≡ rb
  same-defs n [] [] ra rb f g fits e na nb = e
  same-defs n [] (b ∷ es) ra rb f g fits e na nb = absurd (na b (onto (joined (map def_pieces es)) rb) (both_pass (def_is_formed b) (list_all def_is_formed es) g).0 e)
  same-defs n (a ∷ ds) [] ra rb f g fits e na nb = absurd (nb a (onto (joined (map def_pieces ds)) ra) (both_pass (def_is_formed a) (list_all def_is_formed ds) f).0 (sym e))
  same-defs n (a ∷ ds) (b ∷ es) ra rb f g fits e na nb =
      let fa = both_pass (def_is_formed a) (list_all def_is_formed ds) f in
      let fb = both_pass (def_is_formed b) (list_all def_is_formed es) g in
      let xs = onto (joined (map def_pieces ds)) ra in
      let ys = onto (joined (map def_pieces es)) rb in
      let size = ap length e in
      let longer = onto-longer (def_pieces a) xs in
      let both : Some xs ≡ Some ys = sym (def-law known n a xs fa.0 fits) ∙ ap (def n) e ∙ def-law known n b ys fb.0 (omega arith) in
      let rest : xs ≡ ys = cc both in
      same-defs n ds es ra rb fa.1 fb.1 (omega arith) rest na nb

  pub same-imports : (ds es : List Import) (ra rb : Kinds) → onto (joined (map import_pieces ds)) ra ≡ onto (joined (map import_pieces es)) rb → NoImport ra → NoImport rb → ra ≡ rb
  same-imports [] [] ra rb e na nb = e
  same-imports [] (b ∷ es) ra rb e na nb = absurd (na b (onto (joined (map import_pieces es)) rb) e)
  same-imports (a ∷ ds) [] ra rb e na nb = absurd (nb a (onto (joined (map import_pieces ds)) ra) (sym e))
  same-imports (a ∷ ds) (b ∷ es) ra rb e na nb =
      let xs = onto (joined (map import_pieces ds)) ra in
      let ys = onto (joined (map import_pieces es)) rb in
      let both : Some xs ≡ Some ys = sym (import-law a xs) ∙ ap import e ∙ import-law b ys in
      let rest : xs ≡ ys = cc both in
      same-imports ds es ra rb rest na nb

  pub no-import-behind : (ds : List Def) (rest : Kinds) → (ds ≡ [] → NoImport rest) → NoImport (onto (joined (map def_pieces ds)) rest)
  no-import-behind [] rest h = h refl
  no-import-behind (d ∷ ds) rest h = def-no-import d (onto (joined (map def_pieces ds)) rest)

  pub same-front : (is js : List Import) (ds es : List Def) (ra rb : Kinds) → list_all def_is_formed ds ≡ true → list_all def_is_formed es ≡ true → onto (front_pieces is ds) ra ≡ onto (front_pieces js es) rb → NoDef ra → NoDef rb → (ds ≡ [] → NoImport ra) → (es ≡ [] → NoImport rb) → ra ≡ rb
  same-front is js ds es ra rb f g e na nb ia ib =
      let xs = onto (joined (map def_pieces ds)) ra in
      same-defs (length xs) ds es ra rb f g (omega arith) (same-imports is js xs (onto (joined (map def_pieces es)) rb) e (no-import-behind ds ra ia) (no-import-behind es rb ib)) na nb

  -- ---- the same of tokens

  -- the place where a file goes wrong is that at which its imports and definitions end
  pub breaks-there : (file : ℕ) (tokens rest other : List Token) (is : List Import) (ds : List Def) → list_all def_is_formed ds ≡ true → Spells file (front_pieces is ds) tokens rest → NoDef (kinds_of rest) → (ds ≡ [] → NoImport (kinds_of rest)) → BreaksAt file tokens other → rest ≡ other
  breaks-there file tokens rest other is ds f spells nd ni b =
      let same = same-front is b.imports ds b.defs (kinds_of rest) (kinds_of other) f b.are_formed
      (sym (spells-onto file (front_pieces is ds) tokens rest spells) ∙ spells-onto file (front_pieces b.imports b.defs) tokens other b.spells) nd
      (λ d behind g e. b.no_def behind (d, g, e)) ni (λ none i behind e. b.no_import none behind (i, e)) in
      let size = ap length same in
      let p = length-kinds rest in
      let q = length-kinds other in
      same-rest file (front_pieces is ds) (front_pieces b.imports b.defs) tokens rest other spells b.spells (omega arith)

  pub def-never : (n : ℕ) (rest : Kinds) → length rest ≤ n → def n rest ≡ None → NoDef rest
  def-never n rest fits none d behind f e =
      let both : None ≡ Some behind = sym none ∙ ap (def n) e ∙ def-law known n d behind f (let size = ap length e in omega arith) in cc both

pub import-never : (rest : Kinds) → import rest ≡ None → NoImport rest
import-never rest none i behind e = let both : None ≡ Some behind = sym none ∙ ap import e ∙ import-law i behind in cc both
