use Rattle.std.proofs.Common.{◌∷◌, [], chars, refl, sym, ap, ◌∙◌}
use Rattle.std.specs.Str.{bytes_eq}
use Rattle.std.proofs.lemmas.Bool.{both_ways}
use Rattle.std.proofs.lemmas.Slice.Eq.{bytes_eq-Decides}
use Rattle.bal_lexer.proofs.Ascii.{chars-ascii, bytes-ascii}
use Rattle.bal_lexer.proofs.WordKinds.{keyword-some, keyword-none, left_out-yes, left_out-no}
use Rattle.bal_lexer.proofs.word.meaning.Goals as goal

pub returns-then-eq : goal.returns-then-eq
returns-then-eq c = (ap chars ((bytes_eq-Decides c.args.word.now (95 ∷ [])).0 (sym c.eq.ensures ∙ c.if-eq.true)) ∙ chars-ascii (95 ∷ []) refl, refl)

pub returns-then-is_left_out : goal.returns-then-is_left_out
returns-then-is_left_out c = left_out-yes c.args.word.now (sym c.is_left_out.ensures ∙ c.if-is_left_out.true)

pub returns-in-Some : goal.returns-in-Some
returns-in-Some c = keyword-some c.args.word.now c.in-Some.keyword (sym c.keyword_of.ensures ∙ c.in-Some.is)

pub returns-in_ok-new-in-None : goal.returns-in_ok-new-in-None
returns-in_ok-new-in-None c = (
  record {
    no_keyword = keyword-none c.args.word.now c.utf8.word (sym c.keyword_of.ensures ∙ c.in-None.is);
    not_left_out = left_out-no c.args.word.now c.utf8.word (sym c.is_left_out.ensures ∙ c.if-is_left_out.false);
    no_sign = λ e. both_ways (bytes_eq c.args.word.now (95 ∷ [])) (sym c.eq.ensures ∙ c.if-eq.false) ((bytes_eq-Decides c.args.word.now (95 ∷ [])).1 (bytes-ascii c.args.word.now (95 ∷ []) c.utf8.word refl e));
  },
  c.in_ok-new-in-None.ensures,
)
