-- The texts of the statuses.
use Rattle.std.proofs.Common.{◌≡◌, ◌<◌, List, [], ◌∷◌, ℕ, zero, suc, encode_utf8_all, get_or, length, refl, sym, ap, ◌∙◌, arith}
use Rattle.std.specs.Prelude.{◌++◌, IfOk, OnOk, Result, Ok, Err, String, string_bytes}
use Rattle.std.specs.Global.{Global}
use Rattle.std.specs.Str.{chars, IsUtf8}
use Rattle.std.proofs.lemmas.Str.{IsUtf8-string_bytes, encodes-chars}
use Rattle.bal_base.specs.declared.stop.Memory.{Memory as OutOfMemory}
use Rattle.text_forms.specs.Forms.{Adds, written}
use Rattle.text_forms.proofs.Adding.{adds-both}

pub bytes-of : (bytes text : List ℕ) → IsUtf8 bytes → chars bytes ≡ text → bytes ≡ encode_utf8_all text
bytes-of bytes text u e = sym (encodes-chars bytes u) ∙ ap encode_utf8_all e

-- a text by its characters
pub bytes-written : (s : String Global) (text : List ℕ) → written s ≡ text → string_bytes s ≡ encode_utf8_all text
bytes-written s text e = bytes-of (string_bytes s) text (IsUtf8-string_bytes s) e

pub bytes-if : (text : List ℕ) (r : Result (String Global) OutOfMemory) → IfOk r (λ s. written s ≡ text) → IfOk r (λ s. string_bytes s ≡ encode_utf8_all text)
bytes-if text (Ok s) e = bytes-written s text e
bytes-if text (Err m) e = tt

-- three texts one behind the other, of which the last may want memory
pub adds-three : (r : Result (Unit {0}) OutOfMemory) (old first second new a b c : List ℕ) → Adds old a first → Adds first b second → OnOk r (Adds second c new) → OnOk r (Adds old (a ++ b ++ c) new)
adds-three (Ok u) old first second new a b c h k l = adds-both old second new (a ++ b) c (adds-both old first second a b h k) l
adds-three (Err m) old first second new a b c h k l = tt

-- where a member is there, what stands for a missing one makes no difference
pub same-else : (xs : List ℕ) (i a b : ℕ) → i < length xs → get_or xs i a ≡ get_or xs i b
same-else [] i a b lt = absurd (omega (arith, lt))
same-else (x ∷ xs) zero a b lt = refl
same-else (x ∷ xs) (suc i) a b lt = same-else xs i a b (omega (arith, lt))
