-- Names without characters, by their bytes.
use Rattle.std.proofs.Common.{◌≡◌, ◌++◌, ◌==◌, ℕ, List, [], ◌∷◌, true, false, IsUtf8, chars, codes, cond, encode_utf8_all, length, refl, sym, ap, subst, ◌∙◌, arith}
use Rattle.std.proofs.lemmas.Bool.{eqb-false, eqb-true}
use Rattle.std.proofs.lemmas.List.{append-nil}
use Rattle.std.proofs.lemmas.Str.{chars-nil, encodes-chars}
use Rattle.package_files.specs.Names.{is_empty}
use Rattle.pair_texts.specs.PairText.{module_text}
use Rattle.text_forms.specs.Forms.{Adds}

none-long : (bytes : List ℕ) → length bytes ≡ 0 → bytes ≡ []
none-long [] e = refl
none-long (b ∷ bytes) e = absurd (omega (arith, e))

no-name : (bytes name : List ℕ) → chars bytes ≡ name → (length bytes == 0) ≡ true → name ≡ []
no-name bytes name e h = sym e ∙ ap chars (none-long bytes (eqb-true (length bytes) 0 h)) ∙ chars-nil

some-name : (bytes name : List ℕ) → IsUtf8 bytes → chars bytes ≡ name → (length bytes == 0) ≡ false → is_empty name ≡ false
some-name bytes [] u e h = absurd (eqb-false (length bytes) 0 h (ap length (sym (encodes-chars bytes u) ∙ ap encode_utf8_all e)))
some-name bytes (c ∷ cs) u e h = refl

-- the default module isn't written
pub adds-home : (bytes name a : List ℕ) → chars bytes ≡ name → (length bytes == 0) ≡ true → Adds a (module_text name) a
adds-home bytes name a e h = subst (λ n. Adds a (module_text n) a) (sym (no-name bytes name e h)) (sym (append-nil a))

-- another one is
pub is-named : (bytes name : List ℕ) → IsUtf8 bytes → chars bytes ≡ name → (length bytes == 0) ≡ false → name ++ codes ":" ≡ module_text name
is-named bytes name u e h = sym (ap (λ b. cond b [] (name ++ codes ":")) (some-name bytes name u e h))
