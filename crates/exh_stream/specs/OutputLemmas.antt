-- What goes to a writer, part by part.
use Rattle.std.proofs.Common.{◌≡◌, ℕ, Bool, true, false, IsTrue, IsFalse, List, [], ◌++◌, Option, Result, Ok, Err, OnErr, refl, sym, ap, ◌∙◌, subst, append_assoc, append-nil}
use Rattle.std.specs.Io.KnownBytes.{Appends}
use Rattle.std.proofs.KnownBytes.{Appends-nil, Appends-trans}
use Rattle.exh_stream.specs.Output.{AppendsAllBut, AppendsBeginning, Takes, TakesBeginning, WriterUntouched, held, pending}
use Rattle.exh_stream.specs.declared.output.Output.{Output}

-- nothing was written yet
pub AppendsAllBut-start : (a : Option (List ℕ)) (bytes : List ℕ) → AppendsAllBut a a bytes bytes
AppendsAllBut-start a bytes = record { front = []; gone = Appends-nil a; split = refl }

-- then a part of the rest was written
pub AppendsAllBut-trans : {a b c : Option (List ℕ)} {bytes waiting rest : List ℕ} → AppendsAllBut a b bytes waiting → AppendsAllBut b c waiting rest → AppendsAllBut a c bytes rest
AppendsAllBut-trans {a} {b} {c} {bytes} {waiting} {rest} h h' = record {
  front = h.front ++ h'.front;
  gone = Appends-trans a b c h.front h'.front h.gone h'.gone;
  split = h.split ∙ ap (λ l. h.front ++ l) h'.split ∙ sym (append_assoc h.front h'.front rest);
}

-- then more bytes came, and wait behind the rest
pub AppendsAllBut-more : {a b : Option (List ℕ)} {bytes rest : List ℕ} (more : List ℕ) → AppendsAllBut a b bytes rest → AppendsAllBut a b (bytes ++ more) (rest ++ more)
AppendsAllBut-more {a} {b} {bytes} {rest} more h = record {
  front = h.front;
  gone = h.gone;
  split = ap (λ l. l ++ more) h.split ∙ append_assoc h.front rest more;
}

-- all but some rest is a beginning
pub AppendsBeginning-from : {a b : Option (List ℕ)} {bytes rest : List ℕ} → AppendsAllBut a b bytes rest → AppendsBeginning a b bytes
AppendsBeginning-from {a} {b} {bytes} {rest} h = record { rest = rest; all_but = h }

-- then a beginning of the rest was written
pub AppendsBeginning-after : {a b c : Option (List ℕ)} {bytes waiting : List ℕ} → AppendsAllBut a b bytes waiting → AppendsBeginning b c waiting → AppendsBeginning a c bytes
AppendsBeginning-after h h' = AppendsBeginning-from (AppendsAllBut-trans h h'.all_but)

-- a beginning of some bytes is one of more bytes
pub AppendsBeginning-of_more : {a b : Option (List ℕ)} {bytes : List ℕ} (more : List ℕ) → AppendsBeginning a b bytes → AppendsBeginning a b (bytes ++ more)
AppendsBeginning-of_more more h = AppendsBeginning-from (AppendsAllBut-more more h.all_but)

module _ {W : Type 0} {contents : W → Option (List ℕ)} where
  -- taking some bytes and then others takes both
  pub Takes-then : {old mid new : Output W} {a b : List ℕ} → Takes contents old mid a → Takes contents mid new b → Takes contents old new (a ++ b)
  Takes-then {old} {mid} {new} {a} {b} first second = record {
    passed = rw append_assoc at (AppendsAllBut-trans (AppendsAllBut-more b first.passed) second.passed);
  }

  pub TakesBeginning-then : {old mid new : Output W} {a b : List ℕ} → Takes contents old mid a → TakesBeginning contents mid new b → TakesBeginning contents old new (a ++ b)
  TakesBeginning-then {old} {mid} {new} {a} {b} first second = record {
    passed = rw append_assoc at (AppendsBeginning-after (AppendsAllBut-more b first.passed) second.passed);
  }

  -- a beginning of some bytes is one of more bytes
  pub TakesBeginning-of_more : {old new : Output W} {a : List ℕ} (b : List ℕ) → TakesBeginning contents old new a → TakesBeginning contents old new (a ++ b)
  TakesBeginning-of_more {old} {new} {a} b first = record { passed = rw append_assoc at (AppendsBeginning-of_more b first.passed) }

-- what holds anyway holds at an error
pub OnErr-from : {T E P : Type 0} (r : Result T E) → P → OnErr r P
OnErr-from (Ok x) p = tt
OnErr-from (Err e) p = p

-- what doesn't fail stays open
pub stays_open : (failed : Bool) → (IsTrue failed → ⊥) → IsFalse failed
stays_open true never = absurd (never refl)
stays_open false never = refl

module _ {W : Type 0} (contents : W → Option (List ℕ)) where
  -- nothing is a beginning of any bytes
  pub TakesBeginning-none : (output : Output W) (bytes : List ℕ) → TakesBeginning contents output output bytes
  TakesBeginning-none output bytes = record { passed = AppendsBeginning-from (AppendsAllBut-start (contents output.writer.now) (output.block.items ++ bytes)) }

  pub Takes-none : (output : Output W) → Takes contents output output []
  Takes-none output = record {
    passed = record { front = []; gone = Appends-nil (held contents output); split = append-nil (pending output) };
  }

-- ---- of an output that began with nothing waiting, at its end

module _ {W : Type 0} (contents : W → Option (List ℕ)) (old mid new : Output W) (start : pending old ≡ []) (bytes : List ℕ) where
  -- all that waited was written
  pub Takes-finished : Takes contents old mid bytes → Appends (held contents mid) (held contents new) (pending mid) → Appends (held contents old) (held contents new) bytes
  Takes-finished taken gone =
      let whole : bytes ≡ taken.passed.front ++ pending mid = ap (λ l. l ++ bytes) (sym start) ∙ taken.passed.split in
      subst (Appends (held contents old) (held contents new)) (sym whole) (Appends-trans _ _ _ taken.passed.front (pending mid) taken.passed.gone gone)

  -- a beginning of it was
  pub Takes-cut : Takes contents old mid bytes → AppendsBeginning (held contents mid) (held contents new) (pending mid) → AppendsBeginning (held contents old) (held contents new) bytes
  Takes-cut taken gone = subst (λ l. AppendsBeginning (held contents old) (held contents new) (l ++ bytes)) start (AppendsBeginning-after taken.passed gone)

  -- nothing more was
  pub TakesBeginning-left : TakesBeginning contents old mid bytes → WriterUntouched mid new → AppendsBeginning (held contents old) (held contents new) bytes
  TakesBeginning-left taken same =
      subst (λ l. AppendsBeginning (held contents old) (held contents new) (l ++ bytes)) start (subst (λ now. AppendsBeginning (held contents old) now (pending old ++ bytes)) (ap contents (sym same)) taken.passed)
