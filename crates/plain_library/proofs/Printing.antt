-- What is printed.
use Rattle.std.proofs.Common.{◌≡◌, ◌<◌, ◌≤◌, ◌∙◌, ◌++◌, true, false, inl, inr, length, nat_lt, encode_utf8_all, string_bytes, String, sym, ap, subst, arith}
use Rattle.std.specs.Global.{Global}
use Rattle.std.proofs.lemmas.Bool.{ltb-false, ltb-true}
use Rattle.std.proofs.lemmas.Str.{IsUtf8-string_bytes, chars_from_encodes}
use Rattle.bal_base.specs.declared.text.Text.{Text}
use Rattle.value_model.specs.declared.value.Value.TheVariants.{Nil}
use Rattle.value_model.specs.declared.panics.PanicName.TheVariants.{TooLong}
use Rattle.value_model.specs.World.{Came, World}
use Rattle.op_model.specs.Library.{Prints, written as written_out}
use Rattle.op_model.specs.Limits.{most_code_points}
use Rattle.op_model.specs.Rows.{gives, panics}
use Rattle.text_forms.specs.Forms.{Adds, written}

-- the characters of what is written are its bytes
pub encoded : (s : String Global) → encode_utf8_all (written s) ≡ string_bytes s
encoded s =
    let u = IsUtf8-string_bytes s in
    ap encode_utf8_all (sym (chars_from_encodes u.0 (string_bytes s) u u.1.1)) ∙ u.1.1

module _ (w : World) (t text end : Text) (came : Came) (is : text ≡ t) where
  pub print-long : true ≡ nat_lt most_code_points (length text) → came ≡ panics w TooLong → Prints w t end came
  print-long long h =
      let l : most_code_points < length t = subst (λ x. most_code_points < length x) is (ltb-true most_code_points (length text) (sym long)) in
      inr ((λ short. omega (arith, l, short)), h)

  pub print-short : (all : Text) → false ≡ nat_lt most_code_points (length text) → Adds text end all → came ≡ gives (written_out w all) Nil → Prints w t end came
  print-short all short adds h =
      let l : length t ≤ most_code_points = subst (λ x. length x ≤ most_code_points) is (ltb-false most_code_points (length text) (sym short)) in
      inl (l, h ∙ ap (λ x. gives (written_out w x) Nil) (adds ∙ ap (λ x. x ++ end) is))
