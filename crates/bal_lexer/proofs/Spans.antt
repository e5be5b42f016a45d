-- Where the tokens of a text stand, and where it is refused.
use Rattle.std.proofs.Common.{◌≡◌, ◌≢◌, ℕ, ◌+◌, ◌<◌, ◌≤◌, true, List, [], ◌∷◌, ◌++◌, length, IsUtf8, chars, inl, inr, refl, sym, ap, ◌∙◌, subst, arith, append_assoc}
use Rattle.std.specs.Prelude.{◌⊎◌, encode_utf8_all, IsSomeAnd}
use Rattle.std.specs.Str.{IsCharBoundary, all_scalars}
use Rattle.std.proofs.lemmas.List.{length-append}
use Rattle.std.proofs.lemmas.Bool.{and_parts}
use Rattle.std.proofs.lemmas.Str.{encodes-append, encodes-chars, scalars-chars, length-le-encodes, IsCharBoundary-at_seam}
use lib.Utf8.{scalar}
use Rattle.bal_base.specs.declared.token.Token.{Token as TokenOf}
use Rattle.bal_base.specs.declared.fault.Fault.{Fault}
use Rattle.bal_base.specs.declared.fault.FaultCode.{FaultCode}
use Rattle.bal_base.specs.declared.fault.FaultCode.TheVariants as code
use Rattle.bal_lexer.specs.declared.lexeme.Lexeme.{Lexeme}
use Rattle.bal_lexer.specs.declared.lexeme.Lexeme.TheVariants.{Gap, LeftOut, Token}
use Rattle.bal_lexer.specs.Lexes.{byte_len, Begins, LexesFrom, ends, passes, takes, Lexes, AreSpans, RefusesFrom, left_out, bad_token, past_gap, past_token, IsRefusal, IsTokenFault, StandsIn}
use Rattle.bal_lexer.proofs.Heads.{heads}

scalars-back : (xs ys : List ℕ) → all_scalars (xs ++ ys) ≡ true → all_scalars ys ≡ true
scalars-back [] ys all = all
scalars-back (x ∷ xs) ys all = scalars-back xs ys (and_parts (scalar x) (all_scalars (xs ++ ys)) all).1

-- the bytes are those of a front, whose length is a place, and of the characters from there on
record StandsAt (bytes : List ℕ) (at : ℕ) (rest : List ℕ) : Type 0 where
  front : List ℕ
  seam : bytes ≡ front ++ encode_utf8_all rest
  all : all_scalars rest ≡ true
  place : at ≡ length front

boundary : (bytes : List ℕ) (at : ℕ) (rest : List ℕ) → StandsAt bytes at rest → IsCharBoundary bytes at
boundary bytes at rest s = subst (IsCharBoundary bytes) (sym s.place) (IsCharBoundary-at_seam bytes s.front (encode_utf8_all rest) s.seam (rest, (s.all, refl)))

within : (bytes : List ℕ) (at : ℕ) (rest : List ℕ) → StandsAt bytes at rest → at + length rest ≤ length bytes
within bytes at rest s = omega (arith, ap length s.seam, length-append s.front (encode_utf8_all rest), s.place, length-le-encodes rest)

after-slice : (bytes : List ℕ) (at : ℕ) (rest slice after : List ℕ) (l : Lexeme) → StandsAt bytes at rest → Begins rest slice after l → StandsAt bytes (at + byte_len slice) after
after-slice bytes at rest slice after l s b = record {
  front = s.front ++ encode_utf8_all slice;
  seam = s.seam ∙ ap (λ x. s.front ++ x) (ap encode_utf8_all b.split ∙ encodes-append slice after) ∙ sym (append_assoc s.front (encode_utf8_all slice) (encode_utf8_all after));
  all = scalars-back slice after (subst (λ x. all_scalars x ≡ true) b.split s.all);
  place = ap (λ n. n + byte_len slice) s.place ∙ sym (length-append s.front (encode_utf8_all slice));
}

slice-some : (rest slice after : List ℕ) (l : Lexeme) → Begins rest slice after l → 0 < byte_len slice
slice-some rest slice after l b =
    let h = heads slice after l b.stands in
    omega (arith, ap length h.is, length-le-encodes slice)

spans-from : {at : ℕ} {rest : List ℕ} {ts : List TokenOf} → LexesFrom at rest ts → (bytes : List ℕ) (from : ℕ) → StandsAt bytes at rest → from ≤ at → AreSpans bytes from ts
spans-from (ends at) bytes from s low = omega (arith, within bytes at [] s)
spans-from (passes at rest slice after ts b more) bytes from s low = spans-from more bytes from (after-slice bytes at rest slice after Gap s b) (omega arith)
spans-from (takes at rest slice after kind ts b more) bytes from s low =
    let next = after-slice bytes at rest slice after (Token kind) s b in
    (low, omega (arith, slice-some rest slice after (Token kind) b), boundary bytes at rest s, boundary bytes (at + byte_len slice) after next, spans-from more bytes (at + byte_len slice) next (omega arith))

whole : (bytes : List ℕ) → IsUtf8 bytes → StandsAt bytes 0 (chars bytes)
whole bytes text = record { front = []; seam = sym (encodes-chars bytes text); all = scalars-chars bytes text; place = refl }

pub spans : (bytes : List ℕ) (ts : List TokenOf) → IsUtf8 bytes → Lexes (chars bytes) ts → AreSpans bytes 0 ts
spans bytes ts text lexes = spans-from lexes bytes 0 (whole bytes text) (omega arith)

place-from : {at : ℕ} {rest : List ℕ} {c : FaultCode} {p : ℕ} → RefusesFrom at rest c p → (bytes : List ℕ) → StandsAt bytes at rest → (p < length bytes) × IsCharBoundary bytes p
place-from (left_out at rest slice after b) bytes s =
    let next = after-slice bytes at rest slice after LeftOut s b in
    (omega (arith, slice-some rest slice after LeftOut b, within bytes (at + byte_len slice) after next), boundary bytes at rest s)
place-from (bad_token at rest some none) bytes s = (omega (arith, within bytes at rest s, nonempty rest some), boundary bytes at rest s)
  where
    nonempty : (xs : List ℕ) → xs ≢ [] → 0 < length xs
    nonempty [] some = absurd (some refl)
    nonempty (x ∷ xs) some = omega arith
place-from (past_gap at rest slice after c p b more) bytes s = place-from more bytes (after-slice bytes at rest slice after Gap s b)
place-from (past_token at rest slice after kind c p b more) bytes s = place-from more bytes (after-slice bytes at rest slice after (Token kind) s b)

codes-from : {at : ℕ} {rest : List ℕ} {c : FaultCode} {p : ℕ} → RefusesFrom at rest c p → (c ≡ code.BadToken) ⊎ (c ≡ code.LeftOut)
codes-from (left_out at rest slice after b) = inr refl
codes-from (bad_token at rest some none) = inl refl
codes-from (past_gap at rest slice after c p b more) = codes-from more
codes-from (past_token at rest slice after kind c p b more) = codes-from more

pub refusal-place : (bytes : List ℕ) (file : ℕ) (fault : Fault) → IsUtf8 bytes → IsRefusal (chars bytes) file fault → StandsIn bytes fault
refusal-place bytes file fault text refused =
    subst (λ o. IsSomeAnd o (λ p. (p.at < length bytes) × IsCharBoundary bytes p.at)) (sym refused.2.1) (place-from refused.1 bytes (whole bytes text))

pub refusal-codes : (text : List ℕ) (file : ℕ) (fault : Fault) → IsRefusal text file fault → IsTokenFault fault
refusal-codes text file fault refused = codes-from refused.1
