-- The law at record types.
use Rattle.std.proofs.Common.{◌≡◌, ℕ, ◌<◌, Bool, true, false, List, [], ◌∷◌, length, Option, None, Some, refl, ap, ◌∙◌, arith}
use Rattle.std.specs.Prelude.{if◌then◌else◌}
use Rattle.bal_base.specs.declared.token.TokenKind.TheVariants.{Word as WordKind, Keyword as KeywordKind, Sign as SignKind}
use Rattle.bal_base.specs.declared.token.Keyword.TheVariants.{Record}
use Rattle.bal_base.specs.declared.token.Sign.TheVariants.{Question, Ellipsis, Semicolon, OpenBrace, CloseBrace, OpenBraceBar, CloseBraceBar}
use Rattle.bal_tree.specs.declared.name.Word.{Word}
use Rattle.bal_tree.specs.Pieces.{Pieces, ◌&◌, sign, sign_if, joined}
use Rattle.bal_tree.specs.Spells.{onto}
use Rattle.bal_tree.specs.NamePieces.{word_pieces}
use Rattle.bal_tree.specs.TypePieces.{as_rest}
use Rattle.bal_tree.specs.TypeRules.{TypeFacts}
use Rattle.parse_types.specs.Loops.{◌>>=◌, many}
use Rattle.token_steps.specs.Tokens.{Kinds, take_sign}
use Rattle.parse_types.specs.Reaches.{field_behind, field, fields, fields_behind, record_type, inside}
use Rattle.parse_types.proofs.Going.{many-stops, many-goes}
use Rattle.parse_types.proofs.Onto.{onto-longer}
use Rattle.parse_types.proofs.Law.{TypeLaw, before}
use Rattle.parse_types.proofs.PrimaryLaw.{no-type, word-closes}
use Rattle.parse_types.proofs.ListLaw.{ellipsis-closes}

module _ (n : ℕ) where
  abbrev field_step : Kinds → Option Kinds
  field_step = field (inside n false)

  -- a field, which leaves what stands behind it
  pub record FieldAt (p : Pieces) : Type 0 where
    pub goes : (ks : Kinds) → length (onto p ks) < n → field_step (onto p ks) ≡ Some ks
    pub longer : (ks : Kinds) → length ks < length (onto p ks)

  -- fields, one behind the other
  abbrev pub FieldsAt : List Pieces → Type 0
  FieldsAt [] = Unit {0}
  FieldsAt (p ∷ ps) = FieldAt p × FieldsAt ps

  fields-go : (ps : List Pieces) (ks : Kinds) → FieldsAt ps → length (onto (joined ps) ks) < n → many length field_step (onto (joined ps) ks) ≡ many length field_step ks
  fields-go [] ks all fits = refl
  fields-go (p ∷ ps) ks all fits =
      let zs = onto (joined ps) ks in
      let longer = all.0.longer zs in
      many-goes length field_step (onto p zs) zs (all.0.goes zs fits) longer ∙ fields-go ps ks all.1 (omega arith)

  fields-end : (ps : List Pieces) (zs : Kinds) → FieldsAt ps → field_step zs ≡ None → length (onto (joined ps) zs) < n → fields (inside n false) (onto (joined ps) zs) ≡ fields_behind zs (inside n false zs)
  fields-end ps zs all none fits =
      let e = fields-go ps zs all fits ∙ many-stops length field_step zs none in
      ap (λ a. fields_behind a (inside n false a)) e

  no-field : (zs : Kinds) → inside n false zs ≡ None → field_step zs ≡ None
  no-field zs e = ap (λ o. o >>= field_behind) e

  -- no rest
  pub closed-alone : (ps : List Pieces) (ks : Kinds) → FieldsAt ps → length (onto (joined ps & sign CloseBraceBar) ks) < n → record_type (inside n false) (KeywordKind Record ∷ SignKind OpenBraceBar ∷ onto (joined ps & sign CloseBraceBar) ks) ≡ Some ks
  closed-alone ps ks all fits =
      let zs = SignKind CloseBraceBar ∷ ks in
      let e = no-type CloseBraceBar ks (λ _ _. refl) n false in
      ap (λ o. o >>= λ p. take_sign CloseBraceBar p.1) (fields-end ps zs all (no-field zs e) fits)
      ∙ ap (λ o. fields_behind zs o >>= λ p. take_sign CloseBraceBar p.1) e

  pub open-law : (ps : List Pieces) (ks : Kinds) → FieldsAt ps → length (onto (joined ps & sign CloseBrace) ks) < n → record_type (inside n false) (KeywordKind Record ∷ SignKind OpenBrace ∷ onto (joined ps & sign CloseBrace) ks) ≡ Some ks
  open-law ps ks all fits =
      let zs = SignKind CloseBrace ∷ ks in
      let e = no-type CloseBrace ks (λ _ _. refl) n false in
      ap (λ o. o >>= λ p. if p.0 then None else take_sign CloseBrace p.1) (fields-end ps zs all (no-field zs e) fits)
      ∙ ap (λ o. fields_behind zs o >>= λ p. if p.0 then None else take_sign CloseBrace p.1) e

  module _ (q : Pieces) (f : TypeFacts) (law : TypeLaw q f) (formed : f.is_formed false ≡ true) where
    -- and behind the fields the rest
    pub closed-rest : (ps : List Pieces) (ks : Kinds) → FieldsAt ps → length (onto (joined ps & (as_rest q & sign Semicolon) & sign CloseBraceBar) ks) < n → record_type (inside n false) (KeywordKind Record ∷ SignKind OpenBraceBar ∷ onto (joined ps & (as_rest q & sign Semicolon) & sign CloseBraceBar) ks) ≡ Some ks
    closed-rest ps ks all fits =
        let ys = SignKind Ellipsis ∷ SignKind Semicolon ∷ SignKind CloseBraceBar ∷ ks in
        let zs = onto q ys in
        let longer = onto-longer (joined ps) zs in
        let e = before q f law n false ys formed (omega arith) (ellipsis-closes (SignKind Semicolon ∷ SignKind CloseBraceBar ∷ ks)) in
        ap (λ o. o >>= λ p. take_sign CloseBraceBar p.1) (fields-end ps zs all (ap (λ o. o >>= field_behind) e) fits)
        ∙ ap (λ o. fields_behind zs o >>= λ p. take_sign CloseBraceBar p.1) e

    pub field-at : (name : Word) (optional : Bool) → FieldAt (q & word_pieces name & sign_if optional Question & sign Semicolon)
    field-at name true = record {
      goes = λ ks fits. ap (λ o. o >>= field_behind) (before q f law n false (WordKind name.name ∷ SignKind Question ∷ SignKind Semicolon ∷ ks) formed fits (word-closes name.name (SignKind Question ∷ SignKind Semicolon ∷ ks)));
      longer = λ ks. let l = onto-longer q (WordKind name.name ∷ SignKind Question ∷ SignKind Semicolon ∷ ks) in omega arith;
    }
    field-at name false = record {
      goes = λ ks fits. ap (λ o. o >>= field_behind) (before q f law n false (WordKind name.name ∷ SignKind Semicolon ∷ ks) formed fits (word-closes name.name (SignKind Semicolon ∷ ks)));
      longer = λ ks. let l = onto-longer q (WordKind name.name ∷ SignKind Semicolon ∷ ks) in omega arith;
    }
