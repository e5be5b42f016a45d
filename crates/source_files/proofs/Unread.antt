-- Files that come to no tree, and the file and its front: of its bytes only so many are read as a file may have, and one more.
use Rattle.std.proofs.Common.{◌≡◌, ◌≤◌, ◌<◌, ◌+◌, ◌⊎◌, ℕ, List, [], length, take, chars, refl, sym, ap, ◌∙◌, inl, inr, subst, ⊎_elim, arith}
use Rattle.std.specs.Prelude.{Result, Ok, Err, IfOk}
use Rattle.std.proofs.lemmas.List.{length-take, take_all}
use Rattle.bal_base.specs.declared.fault.Fault.{Fault as FaultOf}
use Rattle.bal_base.specs.declared.fault.FaultCode.{FaultCode}
use Rattle.bal_base.specs.declared.fault.FaultCode.TheVariants.{FileTooLong, NotUtf8}
use Rattle.bal_base.specs.declared.fault.Refusal.{Refusal}
use Rattle.bal_base.specs.declared.limits.TheConstants.{MOST_FILE_BYTES}
use Rattle.bal_base.specs.declared.stop.Memory.{Memory as NoMemory}
use Rattle.bal_base.specs.declared.stop.Stop.{Stop}
use Rattle.bal_base.specs.declared.stop.Stop.TheVariants.{Fault}
use Rattle.bal_tree.specs.declared.def.FileTree.{FileTree}
use Rattle.bal_tree.specs.declared.package.SourceFile.{SourceFile}
use Rattle.source_files.specs.Files.{IsFileReading, IsSource, IsStopOf, IsUnread}
use Rattle.source_files.specs.Sources.{HasNoTree, IsText, IsTreeReading, NotText, TooLong, fault_at}
use Rattle.source_files.specs.Told.{refusal_of}

module _ (file : ℕ) (name : List ℕ) where
  -- ---- files that are too long

  not-short : (bytes : List ℕ) → MOST_FILE_BYTES < length bytes → IsText bytes → ⊥
  not-short bytes long t = let short = t.0 in omega arith

  -- each fault of a file that is too long is that one
  long-has : (bytes : List ℕ) (f : FaultOf) → MOST_FILE_BYTES < length bytes → HasNoTree file bytes f → f ≡ fault_at file FileTooLong 0
  long-has bytes f long (inl h) = h.1
  long-has bytes f long (inr (inl h)) = absurd (let short = h.0 in omega arith)
  long-has bytes f long (inr (inr (inl h))) = absurd (not-short bytes long h.0)
  long-has bytes f long (inr (inr (inr (inl h)))) = absurd (not-short bytes long h.1.0)
  long-has bytes f long (inr (inr (inr (inr h)))) = absurd (not-short bytes long h.1.0)

  -- bytes that are no text
  not-text-has : (bytes : List ℕ) (fault other : FaultOf) → NotText file bytes fault → HasNoTree file bytes other → other ≡ fault
  not-text-has bytes fault other n (inl h) = absurd (let short = n.0 in let long = h.0 in omega arith)
  not-text-has bytes fault other n (inr (inl h)) = h.2 ∙ sym n.2
  not-text-has bytes fault other n (inr (inr (inl h))) = absurd (n.1 h.0.1)
  not-text-has bytes fault other n (inr (inr (inr (inl h)))) = absurd (n.1 h.1.0.1)
  not-text-has bytes fault other n (inr (inr (inr (inr h)))) = absurd (n.1 h.1.0.1)

  -- at the start the place is told alike, whatever follows
  at-start : (bytes : List ℕ) (fault : FaultOf) (code : FaultCode) → fault ≡ fault_at file code 0 → refusal_of name [] fault ≡ refusal_of name bytes fault
  at-start bytes fault code e = ap (refusal_of name []) e ∙ sym (ap (refusal_of name bytes) e)

  unread-at-start : (bytes : List ℕ) (fault : FaultOf) → TooLong file bytes fault ⊎ NotText file bytes fault → IsUnread file name bytes (refusal_of name [] fault)
  unread-at-start bytes fault (inl h) =
      record {
        fault = fault;
        has = inl h;
        only = λ other has. long-has bytes other h.0 has ∙ sym h.1;
        no_tree = λ tree is. not-short bytes h.0 is.are.0;
        is = at-start bytes fault FileTooLong h.1;
      }
  unread-at-start bytes fault (inr h) =
      record {
        fault = fault;
        has = inr (inl h);
        only = λ other has. not-text-has bytes fault other h has;
        no_tree = λ tree is. h.1 is.are.0.1;
        is = at-start bytes fault NotUtf8 h.2;
      }

  stopped : (bytes : List ℕ) (fault : FaultOf) (seen : List ℕ) (r : Result Refusal NoMemory) (stop : Stop Refusal) → IsUnread file name bytes (refusal_of name seen fault)
      → IfOk r (λ x. x ≡ refusal_of name seen fault) → IsStopOf r stop → IsFileReading file name bytes (Err stop)
  stopped bytes fault seen (Ok x) stop h is e =
      subst (λ s. IsFileReading file name bytes (Err s)) (sym e) (record { reads = tt; refused = subst (IsUnread file name bytes) (sym is) h })
  stopped bytes fault seen (Err m) stop h is e = subst (λ s. IsFileReading file name bytes (Err s)) (sym e) (record { reads = tt; refused = tt })

  pub bytes-unread : (bytes : List ℕ) (fault : FaultOf) (r : Result Refusal NoMemory) (stop : Stop Refusal) → TooLong file bytes fault ⊎ NotText file bytes fault
      → IfOk r (λ x. x ≡ refusal_of name [] fault) → IsStopOf r stop → IsFileReading file name bytes (Err stop)
  bytes-unread bytes fault r stop h is e = stopped bytes fault [] r stop (unread-at-start bytes fault h) is e

  -- ---- texts

  unread-text : (text : List ℕ) (fault : FaultOf) → IsTreeReading file text (Err (Fault fault)) → IsUnread file name text (refusal_of name text fault)
  unread-text text fault h =
      record {
        fault = fault;
        has = h.fault;
        only = λ other has. sym (h.fault_due other has);
        no_tree = h.tree_due;
        is = refl;
      }

  pub text-unread : (text : List ℕ) (fault : FaultOf) (r : Result Refusal NoMemory) (stop : Stop Refusal) → IsTreeReading file text (Err (Fault fault))
      → IfOk r (λ x. x ≡ refusal_of name text fault) → IsStopOf r stop → IsFileReading file name text (Err stop)
  text-unread text fault r stop h is e = stopped text fault text r stop (unread-text text fault h) is e

  pub text-read : (text : List ℕ) (tree : FileTree) (source : SourceFile) → IsTreeReading file text (Ok tree)
      → source ≡ record { name = name; text = chars text; tree = tree } → IsFileReading file name text (Ok source)
  text-read text tree source h is =
      let P : SourceFile → Type 0 = λ s. IsFileReading file name text (Ok s) in
      subst P (sym is) (record { reads = record { named = refl; text = refl; reads = h.reads; sound = h.fault_due }; refused = tt })

  -- ---- the file and its front

  short-front : (bytes front : List ℕ) → front ≡ take (MOST_FILE_BYTES + 1) bytes → length front ≤ MOST_FILE_BYTES → front ≡ bytes
  short-front bytes front e short =
      let few : length bytes ≤ MOST_FILE_BYTES + 1 = omega (arith, ap length e, length-take (MOST_FILE_BYTES + 1) bytes, short) in
      e ∙ take_all (MOST_FILE_BYTES + 1) bytes few

  -- a file that is too long is unread, as its front is, which is too long too
  long-unread : (bytes front : List ℕ) (r : Refusal) → MOST_FILE_BYTES < length bytes → MOST_FILE_BYTES < length front → IsUnread file name front r → IsUnread file name bytes r
  long-unread bytes front r long so-long h =
      record {
        fault = fault_at file FileTooLong 0;
        has = inl (long, refl);
        only = λ other has. long-has bytes other long has;
        no_tree = λ tree is. not-short bytes long is.are.0;
        is = h.is ∙ ap (refusal_of name front) (long-has front h.fault so-long h.has);
      }

  front-long : (bytes front : List ℕ) → front ≡ take (MOST_FILE_BYTES + 1) bytes → MOST_FILE_BYTES < length front → MOST_FILE_BYTES < length bytes
  front-long bytes front e long = omega (arith, ap length e, length-take (MOST_FILE_BYTES + 1) bytes, long)

  short-or-long : (n : ℕ) → (n ≤ MOST_FILE_BYTES) ⊎ (MOST_FILE_BYTES < n)
  short-or-long n = grind arith

  -- what the front reads as the file does
  pub front-source : (bytes front : List ℕ) (source : SourceFile) → front ≡ take (MOST_FILE_BYTES + 1) bytes → IsSource file name front source → IsSource file name bytes source × (front ≡ bytes)
  front-source bytes front source e h =
      let short : length front ≤ MOST_FILE_BYTES = h.reads.are.0.0 in
      let same = short-front bytes front e short in
      (subst (λ l. IsSource file name l source) same h, same)

  pub front-unread : (bytes front : List ℕ) (r : Refusal) → front ≡ take (MOST_FILE_BYTES + 1) bytes → IsUnread file name front r → IsUnread file name bytes r
  front-unread bytes front r e h =
      ⊎_elim (λ short. subst (λ l. IsUnread file name l r) (short-front bytes front e short) h) (λ long. long-unread bytes front r (front-long bytes front e long) long h) (short-or-long (length front))
